-- Runs of a net's offsets.
use Rattle.std.specs.Prelude.{ℕ, ◌+◌, ◌≤◌, ◌++◌, List, Option, Ok, option_and_then}
use Rattle.emh_base.specs.declared.ids.ModId.{ModId}
use Rattle.emh_base.specs.declared.ids.NetId.{NetId}
use Rattle.emh_base.specs.declared.plain.Range.{Range}
use Rattle.emh_base.specs.declared.plain.Src.{Src}
use Rattle.emh_base.specs.declared.rule.Rule.TheVariants.{BitOutOfRange}
use Rattle.emh_base.specs.declared.state.State.{State}
use Rattle.edit_rules.specs.Facts.{net_range}
use Rattle.script_read.specs.Resolve.{Looked, at_word, net_bits, on, run_of}

-- offsets fit in 16 bits, and there is one at least
abbrev pub IsFew : ℕ × ℕ → Type 0
IsFew run = (1 ≤ run.1) × (run.0 + run.1 ≤ 65536)

-- what a select of a net of a module selects
abbrev pub run_in : State → ModId → NetId → Option Range → Option (ℕ × ℕ)
run_in S m net select = option_and_then (λ range. run_of range select) (net_range S m net)

-- the bits so far with those of a run of a net's offsets, if there is one
abbrev pub with_run : ℕ → NetId → List Src → Option (ℕ × ℕ) → Looked (List Src)
with_run place net before run = on (at_word BitOutOfRange place run) (λ found. Ok (before ++ net_bits net found))
