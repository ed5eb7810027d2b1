use Rattle.std.proofs.Common.{◌≡◌, take}
use Rattle.std.specs.List.{flat_map}
use Rattle.watch_kit.specs.Sinks.{joins_of}
use Rattle.watch_kit.specs.inside.Moving.{moved_on}
use Rattle.watch_kit.proofs.mover.Mover.move_insts.Given as goal

abbrev pub invariant-loop-inst : goal.invariant-loop-inst
invariant-loop-inst l = l.self ≡ moved_on l.initial.self (flat_map (joins_of l.plain) (take l.inst-index l.insts))
