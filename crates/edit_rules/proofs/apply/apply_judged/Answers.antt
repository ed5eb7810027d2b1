use Rattle.edit_rules.proofs.RoomLemmas.{room-left}
use Rattle.edit_rules.proofs.apply.apply_judged.Goals as goal

pub carry_out-requires-clause-room : goal.carry_out-requires-clause-room
carry_out-requires-clause-room c = room-left c.args.state.now c.args.edit.now c.in_ok-judge.ensures
