use Rattle.watch_kit.specs.Sinks.{joins_of}
use Rattle.watch_kit.proofs.Joins.{flat-more}
use Rattle.watch_kit.proofs.Moves.{moved-more}
use Rattle.watch_kit.proofs.mover.Mover.move_insts.Goals as goal

pub loop-inst-preserved : goal.loop-inst-preserved
loop-inst-preserved c =
    moved-more c.args.self.now c.loop-inst.self c.move_inst.new.self _ _ _ c.loop-inst.invariant c.in_ok-move_inst.ensures
    (flat-more (joins_of c.args.plain.now) c.args.insts.now c.loop-inst.inst-index c.inst-item.result c.loop-inst-test.true c.inst-item.is)
