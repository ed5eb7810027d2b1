use Rattle.std.proofs.Common.{◌≡◌, map, take}
use Rattle.vlog_elab.specs.Interfaces.{row_face}
use Rattle.vlog_elab.proofs.modules.known_of.Given as goal

abbrev pub invariant-loop-holder : goal.invariant-loop-holder
invariant-loop-holder l = l.interfaces ≡ map row_face (take l.holder-index l.holder-items)
