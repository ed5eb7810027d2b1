-- The text so far ends with the spelled bytes so far.
use Rattle.std.proofs.Common.{◌≡◌, ◌++◌, take}
use Rattle.std.specs.List.{flat_map}
use Rattle.emh_base.specs.Text.{spelled}
use Rattle.emh_base.proofs.text.push_spelled_bytes.Given as goal

abbrev pub invariant-loop-byte : goal.invariant-loop-byte
invariant-loop-byte l = l.out ≡ l.initial.out ++ flat_map spelled (take l.byte-index l.others)
