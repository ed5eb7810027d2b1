use Rattle.std.proofs.Common.{◌≡◌, ◌+◌, take}
use Rattle.std.specs.Prelude.{sum_by}
use Rattle.flatten_rules.specs.Lookup.{width}
use Rattle.vlog_elab.specs.Connections.{part_width}
use Rattle.vlog_elab.proofs.select.fits.Given as goal

abbrev pub invariant-loop-part : goal.invariant-loop-part
invariant-loop-part l = sum_by (part_width l.nets) (take l.part-index l.parts) + l.left ≡ width l.fn.range
