-- A pool's names are the keys of its map: what a look-up and an insert of the map say of the list of names.
use Rattle.std.proofs.Common.{◌≡◌, ℕ, suc, ◌+◌, Bool, true, false, cond, not, ◌||◌, List, [], ◌∷◌, ◌++◌, map, length, None, Some, Option, position, refl, sym, ◌∙◌, ap, arith, bytes_eq, nat_lt}
use Rattle.std.specs.List.{list_any, position_or_len, IsDistinct, AllByRecursion}
use Rattle.std.specs.Map.{keys_of}
use Rattle.std.proofs.lemmas.Bool.{lt-ltb}
use Rattle.std.proofs.lemmas.List.{map-append}
use Rattle.std.proofs.lemmas.List.Sums.{prefix_len-le-length}
use Rattle.indexmap.specs.IndexMap.{insert_entry}

module _ {X : Type 0} (p : X → Bool) where
  -- an item passes exactly where the first place at which one does is before the end
  pub any_place : (xs : List X) → list_any p xs ≡ nat_lt (position_or_len p xs) (length xs)
  any_place [] = refl
  any_place (x ∷ xs) =
      elim (p x) as (λ b. (b || list_any p xs) ≡ nat_lt (cond (not b) (1 + position_or_len p xs) 0) (length (x ∷ xs))) [
        | true ↦ sym (lt-ltb 0 (length (x ∷ xs)) (omega arith))
        | false ↦ any_place xs ∙ grind arith
      ]

  pub any_found : (xs : List X) (number : ℕ) → position p xs ≡ Some number → list_any p xs ≡ true
  any_found xs number found = grind (arith, any_place xs)

  pub any_absent : (xs : List X) → position p xs ≡ None → list_any p xs ≡ false
  any_absent xs none = grind (arith, any_place xs)

  pub place_absent : (xs : List X) → position p xs ≡ None → position_or_len p xs ≡ length xs
  place_absent xs none = grind (arith, prefix_len-le-length (λ x. not (p x)) xs)

abbrev pub same_name : {K : Type 0} → (K → List ℕ) → K → K → Bool
same_name items key other = bytes_eq (items key) (items other)

abbrev pub names_of : {K X : Type 0} → (K → List ℕ) → List (K × X) → List (List ℕ)
names_of items entries = map (λ entry. items entry.0) entries

module _ {K X : Type 0} (items : K → List ℕ) where
  place_of_key : (test : List ℕ → Bool) (entries : List (K × X))
      → position_or_len (λ key. test (items key)) (keys_of entries) ≡ position_or_len test (names_of items entries)
  place_of_key test [] = refl
  place_of_key test (entry ∷ entries) =
      ap (λ n. cond (not (test (items entry.0))) (1 + n) 0) (place_of_key test entries)

  how_many : (entries : List (K × X)) → length (keys_of entries) ≡ length (names_of items entries)
  how_many [] = refl
  how_many (entry ∷ entries) = grind (arith, how_many entries)

  -- a name is found where its key is
  pub position_of_key : (test : List ℕ → Bool) (entries : List (K × X))
      → position (λ key. test (items key)) (keys_of entries) ≡ position test (names_of items entries)
  position_of_key test entries =
      let found : ℕ → ℕ → Option ℕ = λ place len. cond (nat_lt place len) (Some place) None in
      ap (λ place. found place (length (keys_of entries))) (place_of_key test entries)
      ∙ ap (λ len. found (position_or_len test (names_of items entries)) len) (how_many entries)

  all_apart : (key : K) (entries : List (K × X))
      → AllByRecursion (λ other. same_name items key other ≡ false) (keys_of entries)
      → AllByRecursion (λ name. bytes_eq (items key) name ≡ false) (names_of items entries)
  all_apart key [] apart = apart
  all_apart key (entry ∷ entries) apart = (apart.0, all_apart key entries apart.1)

  -- keys that differ are names that differ
  pub names_differ : (entries : List (K × X)) → IsDistinct (same_name items) (keys_of entries)
      → IsDistinct bytes_eq (names_of items entries)
  unfolding IsDistinct
  names_differ [] distinct = distinct
  names_differ (entry ∷ entries) distinct = (all_apart entry.0 entries distinct.0, names_differ entries distinct.1)

  -- a key whose name isn't there goes last
  pub insert_entry_last : (key : K) (value : X) (entries : List (K × X))
      → position_or_len (bytes_eq (items key)) (names_of items entries) ≡ length (names_of items entries)
      → insert_entry (same_name items) entries key value ≡ entries ++ (key, value) ∷ []
  insert_entry_last key value [] none = refl
  insert_entry_last key value (entry ∷ entries) none =
      let inserted = insert_entry (same_name items) entries key value in
      (elim (bytes_eq (items key) (items entry.0)) as (λ b.
      cond (not b) (1 + position_or_len (bytes_eq (items key)) (names_of items entries)) 0
      ≡ suc (length (names_of items entries))
      → cond b ((entry.0, value) ∷ entries) (entry ∷ inserted) ≡ entry ∷ (entries ++ (key, value) ∷ [])) [
        | true ↦ λ none. absurd (omega arith)
        | false ↦ λ none. ap (λ rest. entry ∷ rest) (insert_entry_last key value entries (omega arith))
      ]) none

-- what an insert of a new name leaves: it stands last, as key and as value
module _ {K : Type 0} (items : K → List ℕ) where
  pub record Added (names : List (List ℕ)) (name : List ℕ) (made : List (K × List ℕ)) : Type 0 where
    pub names_are : names_of items made ≡ names ++ name ∷ []
    pub paired : names_of items made ≡ map (λ entry. entry.1) made

  pub added : (key : K) (entries made : List (K × List ℕ)) (names : List (List ℕ)) (name : List ℕ)
      → names_of items entries ≡ names → names_of items entries ≡ map (λ entry. entry.1) entries
      → items key ≡ name → position (bytes_eq name) names ≡ None
      → made ≡ insert_entry (same_name items) entries key name
      → Added names name made
  added key entries made names name view paired is none inserted =
      let place : position_or_len (bytes_eq name) names ≡ length names = place_absent (bytes_eq name) names none in
      let here : position_or_len (bytes_eq (items key)) (names_of items entries) ≡ length (names_of items entries) =
      rw (is, view) place in
      let last : made ≡ entries ++ (key, name) ∷ [] = inserted ∙ insert_entry_last items key name entries here in
      let pair : List (K × List ℕ) = (key, name) ∷ [] in
      rw last (record {
        names_are = rw map-append (cc);
        paired = rw (map-append (λ entry. items entry.0) entries pair, map-append (λ entry. entry.1) entries pair) (cc);
      })
