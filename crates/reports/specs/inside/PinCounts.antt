-- Numbers of pins, by the net bits of a module that they lead to.
use Rattle.std.specs.Prelude.{◌≡◌, ℕ, ◌+◌, ◌==◌, Bool, ◌&&◌, List, Option, Some, length, slice_get, unwrap_or, sum_by, count_by, IsSome, IsSomeAnd, if◌then◌else◌}
use Rattle.std.specs.declared.cmp.Ordering.{Ordering}
use Rattle.std.specs.Ordering.{is_eq, nat_cmp, ordering_then}
use Rattle.std.specs.Map.{lookup}
use Rattle.emh_base.specs.declared.ids.NetId.{NetId}
use Rattle.emh_base.specs.declared.ids.ModId.{ModId}
use Rattle.emh_base.specs.declared.plain.PInst.{PInst}
use Rattle.emh_base.specs.declared.plain.PModule.{PModule}
use Rattle.emh_base.specs.declared.plain.Plain.{Plain}
use Rattle.reports.specs.declared.pin_counts.BitCounts.{BitCounts}
use Rattle.reports.specs.inside.Below.{cell_bits, pins_at}
use Rattle.reports.specs.inside.Links.{Link, links, joined}

-- a bit of a net of a module
abbrev pub Key : Type 0
Key = NetId × ℕ

abbrev pub key_cmp : Key → Key → Ordering
key_cmp a b = ordering_then (nat_cmp a.0.0 b.0.0) (nat_cmp a.1 b.1)

abbrev pub is_key : Key → Key → Bool
is_key at key = at.0.0 == key.0.0 && at.1 == key.1

-- how many pins are counted at a net bit
abbrev pub count_at : List (Key × ℕ) → Key → ℕ
count_at counts at = unwrap_or (lookup (λ key. is_eq (key_cmp at key)) counts) 0

-- a number more at one net bit
abbrev pub Adds : List (Key × ℕ) → List (Key × ℕ) → Key → ℕ → Type 0
Adds old new at more = (key : Key) → count_at new key ≡ count_at old key + (if is_key at key then more else 0)

-- one pin more at each of some net bits
abbrev pub AddsEach : List (Key × ℕ) → List (Key × ℕ) → List Key → Type 0
AddsEach old new keys = (key : Key) → count_at new key ≡ count_at old key + count_by (λ at. is_key at key) keys

-- the pins that lead to bits of an instance's ports lead on to the sources of these
abbrev pub Joins : (NetId → ℕ → ℕ) → List (Key × ℕ) → List (Key × ℕ) → List Link → Type 0
Joins below old new some = (key : Key) → count_at new key ≡ count_at old key + joined below key.0 key.1 some

-- the pins below a module are counted
abbrev pub IsCounted : Plain → ModId → List (Key × ℕ) → Type 0
IsCounted M m counts = (key : Key) → count_at counts key ≡ pins_at M m key.0 key.1

-- its own pins, and those below some of its instances
abbrev pub AreCountedSo : Plain → PModule → List PInst → List (Key × ℕ) → Type 0
AreCountedSo M m insts counts = (key : Key) → count_at counts key
    ≡ count_by (λ at. is_key at key) (cell_bits (Some m))
    + sum_by (λ (inst : PInst). joined (pins_at M inst.master) key.0 key.1 (links M inst)) insts

-- the modules of a table that are counted, by their places
pub record AreCounted (M : Plain) (all : List (Option BitCounts)) : Type 0 where
  pub many : length all ≡ length M.modules
  pub each : (k : ℕ) (m : PModule) (counted : BitCounts) → slice_get M.modules k ≡ Some m
      → slice_get all k ≡ Some (Some counted) → IsCounted M m.id counted.counts.entries

-- the module at a place is among them
abbrev pub IsThere : List (Option BitCounts) → ℕ → Type 0
IsThere all place = IsSomeAnd (slice_get all place) (λ found. IsSome found)
