-- The limits of a table at a top: depth, occurrences and net bits. This project's own.
use Rattle.std.specs.Prelude.{◌≡◌, ◌↔◌, ℕ, ◌+◌, ◌≤◌, ◌==◌, Bool, false, nat_lt, List, length, Option, Some, None, IsSome, sum_by, count_by, if◌then◌else◌}
use Rattle.std.specs.List.{list_any}
use Rattle.emh_base.specs.declared.ids.ModId.{ModId}
use Rattle.emh_base.specs.declared.ids.InstId.{InstId}
use Rattle.emh_base.specs.declared.plain.PModule.{PModule}
use Rattle.emh_base.specs.declared.plain.Plain.{Plain}
use Rattle.flatten_rules.specs.Bounds.{depth_limit, occurrence_limit, bit_limit}
use Rattle.flatten_rules.specs.Lookup.{module_of, width}
use Rattle.flatten_rules.specs.Unfolding.{Occurrence, module_up, occurrences}
use Rattle.flatten_rules.specs.Sound.{IsSound}
use Rattle.flatten_rules.specs.Counting.{height}

-- the net bits of an occurrence; a leaf's aren't counted
abbrev pub bits_of : Option PModule → ℕ
bits_of None = 0
bits_of (Some m) = if m.leaf then 0 else sum_by (λ net. width net.range) m.nets

-- the net bits of all occurrences together
abbrev pub bits_below : Plain → ModId → ℕ
bits_below M top = sum_by (λ (o : Occurrence). bits_of (module_of M o.1)) (occurrences M top)

-- how many occurrences are of a module
abbrev pub times_below : Plain → ModId → ModId → ℕ
times_below M top m = count_by (λ (o : Occurrence). o.1.0 == m.0) (occurrences M top)

-- no walk of instances, from whichever module, is longer than 256
abbrev pub WalksAreShort : Plain → Type 0
WalksAreShort M =
    (m : ModId) (up : List InstId) → IsSome (module_up M m up) → length up ≤ depth_limit

-- The limits of a table at a top. The first holds for all modules, those that the top doesn't reach
-- too.
pub record IsWithin (M : Plain) (top : ModId) : Type 0 where
  pub depth : WalksAreShort M
  pub size : length (occurrences M top) ≤ occurrence_limit
  pub bits : bits_below M top ≤ bit_limit

-- Each limit as a test: whether it is passed.

-- some walk of instances, from whichever module, is too long
abbrev pub is_too_deep : Plain → Bool
is_too_deep M = list_any (λ m. nat_lt depth_limit (height M m.id (depth_limit + 1))) M.modules

abbrev pub has_too_many_occurrences : Plain → ModId → Bool
has_too_many_occurrences M top = nat_lt occurrence_limit (length (occurrences M top))

abbrev pub has_too_many_bits : Plain → ModId → Bool
has_too_many_bits M top = nat_lt bit_limit (bits_below M top)

-- The law of limits: a sound table is within them at a top exactly where none of the three is
-- passed.
abbrev pub IsWithinByTests : Type 0
IsWithinByTests =
    (M : Plain) (top : ModId) → IsSound M
    → IsWithin M top
    ↔ ((is_too_deep M ≡ false) × (has_too_many_occurrences M top ≡ false)
    × (has_too_many_bits M top ≡ false))

-- a walk of instances down from the one module leads to the other, or they are the same
abbrev pub leads_to : Plain → ModId → ModId → Bool
leads_to M from to = list_any (λ (o : Occurrence). o.1.0 == to.0) (occurrences M from)
