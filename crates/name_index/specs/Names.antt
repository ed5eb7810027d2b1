-- Names in an index map, seen as a finite map.
use Rattle.std.specs.Prelude.{ℕ, Bool, ◌&&◌, nat_eq, List, [], ◌∷◌, Option, Some, None}
use Rattle.std.specs.Option.{option_map_or}
use Rattle.std.specs.Ordering.{nat_cmp, ordering_then}
use Rattle.std.specs.Cmp.{nat_cmp_total}
use Rattle.std.specs.declared.cmp.Ordering.{Ordering}
use Rattle.std.specs.FinMap as map
use Rattle.std.proofs.lemmas.Cmp.{then_total, on_total}
use Rattle.std.proofs.lemmas.Map.Lookups.{exact_pairs, exact_unsigned}
use Rattle.indexmap.specs.IndexMap.{get, spare}
use Rattle.timeline.specs.Maps.{put, IsKeyOrder}
use Rattle.name_index.specs.declared.names.Row.{Row}
use Rattle.name_index.specs.declared.names.Names.{Names}

-- a module's number and a name's
abbrev pub Key : Type 0
Key = ℕ × ℕ

abbrev pub key_cmp : Key → Key → Ordering
key_cmp a b = ordering_then (nat_cmp a.0 b.0) (nat_cmp a.1 b.1)

abbrev pub key_eq : Key → Key → Bool
key_eq a b = nat_eq a.0 b.0 && nat_eq a.1 b.1

pub key_order : IsKeyOrder key_cmp
key_order =
    record {
      total = then_total (on_total (λ k. k.0) nat_cmp_total) (on_total (λ k. k.1) nat_cmp_total);
      exact = exact_pairs nat_cmp nat_cmp exact_unsigned exact_unsigned;
    }

-- a finite map from pairs of a module's and a name's number
abbrev pub NameMap : Type 0
NameMap = map.FinMap key_cmp ℕ

abbrev pub value_of : Option Row → Option ℕ
value_of None = None
value_of (Some row) = row.value

abbrev pub live_of : List (Key × Row) → NameMap
live_of [] = map.empty
live_of (e ∷ es) = put (live_of es) e.0 e.1.value

-- the live names
unfoldable pub live_names : Names → NameMap
live_names s = live_of s.rows.entries

-- how many swaps that are kept name this key
abbrev pub mentions_at : Names → Key → ℕ
mentions_at s key = option_map_or (λ row. row.mentions) (get key_eq s.rows key) 0

-- how many names can come without memory
abbrev pub room_in : Names → ℕ
room_in s = spare s.rows
