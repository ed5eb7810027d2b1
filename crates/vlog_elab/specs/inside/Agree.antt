use Rattle.std.specs.Prelude.{◌≡◌, ◌<◌, ◌+◌, ◌-◌, ℕ, Bool, false, List, Option, None, Some, if◌then◌else◌, bytes_eq, map, length, slice_get}
use Rattle.std.specs.Borrow.{Bor}
use Rattle.std.specs.BTreeMap.{BTreeMap, get_by}
use Rattle.std.specs.Cmp.Lexicographic.{slice_cmp}
use Rattle.std.specs.Ordering.{nat_cmp}
use Rattle.vlog_elab.specs.declared.name_positions.Look.{Look}
use Rattle.vlog_elab.specs.declared.name_positions.Look.TheVariants.{Free, At, Past}
use Rattle.vlog_elab.specs.declared.name_positions.NamePositions.{NamePositions}
use Rattle.vlog_elab.specs.Named.{place_of}
use Rattle.vlog_elab.specs.inside.Placed.{slot_of, place_at}

-- the names that are lent, with their values
abbrev pub texts : {V : Type 0} → List (Bor (List ℕ) × V) → List (List ℕ × V)
texts entries = map (λ e. (e.0.now, e.1)) entries

-- whether the entry at a place has this name
abbrev pub is_named : {V : Type 0} → Option (Bor (List ℕ) × V) → List ℕ → Bool
is_named None name = false
is_named (Some entry) name = bytes_eq entry.0.now name

-- what one slot tells of a name, by the place that stands in it
abbrev pub seen : {V : Type 0} → ℕ → Option ℕ → List (Bor (List ℕ) × V) → List ℕ → Look
seen slot None entries name = Free slot
seen slot (Some place) entries name = if is_named (slice_get entries place) name then At place else Past

abbrev pub look_at : {V : Type 0} → List ℕ → ℕ → List (Bor (List ℕ) × V) → List ℕ → Look
look_at slots slot entries name = seen slot (place_at slots slot) entries name

-- one look, and where it ends past its slot a second one
abbrev pub or_second : Look → Look → Look
or_second Past second = second
or_second (Free slot) second = Free slot
or_second (At place) second = At place

-- a look for a name in its two slots
abbrev pub look_up : {V : Type 0} → List ℕ → List (Bor (List ℕ) × V) → List ℕ → Look
look_up slots entries name =
    or_second (look_at slots (slot_of (length slots - 1) name) entries name) (look_at slots (slot_of (length slots - 1) name + 1) entries name)

-- the place that a look leads to, where a name past its slots has this place among the others
abbrev pub found : Look → Option ℕ → Option ℕ
found (Free slot) other = None
found (At place) other = Some place
found Past other = other

-- a name is found, and none is among the others while a slot of its own is free
abbrev pub Finds : {V : Type 0} → Look → Option ℕ → List (Bor (List ℕ) × V) → List ℕ → Type 0
Finds look other entries name = (place_of (texts entries) name ≡ found look other) × ((slot : ℕ) → look ≡ Free slot → other ≡ None)

-- there are two slots or more, in which places of entries stand, and each name is found
pub record FindsEach {V : Type 0} (slots : List ℕ) (by_name : BTreeMap (Bor (List ℕ)) ℕ) (entries : List (Bor (List ℕ) × V)) : Type 0 where
  pub some : 1 < length slots
  pub within : (slot place : ℕ) → place_at slots slot ≡ Some place → place < length entries
  pub each : (name : List ℕ) → Finds (look_up slots entries name) (get_by (λ k. slice_cmp nat_cmp name k.now) by_name) entries name

-- places are kept only for more than a few entries
abbrev pub FindsPastFew : {V : Type 0} → NamePositions → List (Bor (List ℕ) × V) → Type 0
FindsPastFew places entries = 8 < length entries → FindsEach places.slots.items places.by_name entries
