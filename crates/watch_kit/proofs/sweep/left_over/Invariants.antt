use Rattle.std.proofs.Common.{◌≡◌, map, filter, take}
use Rattle.emh_base.specs.declared.edit.Edit.TheVariants.{DeleteNet}
use Rattle.watch_kit.specs.Sweep.{is_left_over}
use Rattle.watch_kit.proofs.sweep.left_over.Given as goal

abbrev pub invariant-loop-net : goal.invariant-loop-net
invariant-loop-net l = l.edits ≡ map (DeleteNet l.id) (filter (is_left_over l.state l.id) (take l.net-index l.nets))
