-- The modules in written order: the same as in the table.
use Rattle.std.proofs.Common.{arith, ◌≡◌, ◌≢◌, ℕ, zero, suc, ◌+◌, ◌<◌, ◌≤◌, Bool, true, false, cond, List, [], ◌∷◌, filter, length, get_or, refl, sym, ap, ◌∙◌, All, AllPairs, Contains, ⊎_elim}
use Rattle.std.specs.Prelude.{not}
use Rattle.std.proofs.lemmas.List.{get_or_default, length-append}
use Rattle.std.proofs.lemmas.Bool.{cases_lt}
use Rattle.std.proofs.lemmas.List.Elements.{All-filter, All-append, All-contains_itself, filter_passes, Contains-append_left, Contains-append_right}
use Rattle.emh_base.specs.declared.plain.PModule.{PModule}
use Rattle.emh_base.specs.declared.plain.Plain.{Plain}
use Rattle.flatten_rules.specs.Sound.{IsSound}
use Rattle.vlog_elab.proofs.Each.{pairs_append}
use Rattle.named_tables.proofs.Names.{modules-differ}
use Rattle.vlog_write.specs.TreeOf.{in_written_order}
use Rattle.read_back.proofs.Nets.{pairs-filter, filter-has}

abbrev leaf : PModule → Bool
leaf m = m.leaf

abbrev open_ : PModule → Bool
open_ m = not m.leaf

pub written-all : (P : PModule → Type 0) (M : Plain) → All P M.modules → All P (in_written_order M)
written-all P M all = All-append P (filter leaf M.modules) (filter open_ M.modules) (All-filter leaf P M.modules all) (All-filter open_ P M.modules all)

pub written-from : (M : Plain) → All (Contains M.modules) (in_written_order M)
written-from M = written-all (Contains M.modules) M (All-contains_itself M.modules)

pub written-has : (M : Plain) (m : PModule) → Contains M.modules m → Contains (in_written_order M) m
written-has M m has = at_b m.leaf refl
  where
    at_b : (b : Bool) → m.leaf ≡ b → Contains (in_written_order M) m
    at_b true e = Contains-append_left (filter leaf M.modules) (filter open_ M.modules) m (filter-has leaf M.modules m has e)
    at_b false e = Contains-append_right (filter leaf M.modules) (filter open_ M.modules) m (filter-has open_ M.modules m has (ap not e))

pub written-differ : (M : Plain) → IsSound M → AllPairs (λ (a b : PModule). a.name ≢ b.name) (in_written_order M)
written-differ M sound =
    let R : PModule → PModule → Type 0 = λ a b. a.name ≢ b.name in
    let differ = modules-differ M sound in
    pairs_append R (filter leaf M.modules) (filter open_ M.modules) (pairs-filter R leaf M.modules differ) (pairs-filter R open_ M.modules differ)
    (λ k d low l e within.
    let a : PModule = get_or (filter leaf M.modules) k d in
    let b : PModule = get_or (filter open_ M.modules) l e in
    let has_a : Contains M.modules a = All-filter leaf (Contains M.modules) M.modules (All-contains_itself M.modules) k d low in
    let has_b : Contains M.modules b = All-filter open_ (Contains M.modules) M.modules (All-contains_itself M.modules) l e within in
    let leaf_a : a.leaf ≡ true = filter_passes leaf M.modules k d low in
    let leaf_b : not b.leaf ≡ true = filter_passes open_ M.modules l e within in
    λ same. apart (not b.leaf) leaf_b (ap (λ (x : PModule). not x.leaf) (sym (one M sound a b has_a has_b same)) ∙ ap not leaf_a))
  where
    apart : (c : Bool) → c ≡ true → c ≡ false → ⊥
    apart c e f = let no : true ≡ false = sym e ∙ f in absurd (cc)

    at-any : (xs : List PModule) (k : ℕ) (d x : PModule) → k < length xs → get_or xs k x ≡ x → get_or xs k d ≡ x
    at-any xs k d x within at = get_or_default xs k d x within ∙ at

    -- modules of one name are one
    one : (M : Plain) → IsSound M → (a b : PModule) → Contains M.modules a → Contains M.modules b → a.name ≡ b.name → a ≡ b
    one M sound a b (i, in_i, at_i) (j, in_j, at_j) same =
        ⊎_elim (λ (below : i < j). absurd (modules-differ M sound i j a below in_j (ap (λ (x : PModule). x.name) at_i ∙ same ∙ ap (λ (x : PModule). x.name) (sym (at-any M.modules j a b in_j at_j)))))
        (λ (from : j ≤ i). ⊎_elim (λ (below : j < i). absurd (modules-differ M sound j i b below in_i (ap (λ (x : PModule). x.name) at_j ∙ sym same ∙ ap (λ (x : PModule). x.name) (sym (at-any M.modules i b a in_i at_i)))))
        (λ (to : i ≤ j). let e : i ≡ j = omega arith in sym at_i ∙ ap (λ k. get_or M.modules k a) e ∙ at-any M.modules j a b in_j at_j) (cases_lt j i)) (cases_lt i j)

-- and there are no more of them
pub many : (M : Plain) → length M.modules ≤ 4294967295 → 0 + length (in_written_order M) ≤ 4294967295
many M few = omega (arith, few, parts M.modules, length-append (filter leaf M.modules) (filter open_ M.modules))
  where
    parts : (xs : List PModule) → length (filter leaf xs) + length (filter open_ xs) ≡ length xs
    parts [] = refl
    parts (x ∷ xs) = at_b x.leaf (parts xs)
      where
        at_b : (b : Bool) → length (filter leaf xs) + length (filter open_ xs) ≡ length xs → length (cond b (x ∷ filter leaf xs) (filter leaf xs)) + length (cond (not b) (x ∷ filter open_ xs) (filter open_ xs)) ≡ suc (length xs)
        at_b true e = omega (arith, e)
        at_b false e = omega (arith, e)

-- numbers that rise below one are no more than that
rises-from : {X : Type 0} (n : X → ℕ) (xs : List X) → AllPairs (λ a b. n a < n b) xs → (k : ℕ) (d : X) → k < length xs → k ≤ n (get_or xs k d)
rises-from n xs rise zero d within = omega arith
rises-from n xs rise (suc k) d within = omega (arith, rises-from n xs rise k d (omega (arith, within)), rise k (suc k) d (omega arith) within)

pub few-below : {X : Type 0} (n : X → ℕ) (limit : ℕ) (xs : List X) → AllPairs (λ a b. n a < n b) xs → All (λ x. n x < limit) xs → length xs ≤ limit
few-below n limit [] rise below = omega arith
few-below n limit (x ∷ xs) rise below = omega (arith, rises-from n (x ∷ xs) rise (length xs) x (omega arith), below (length xs) x (omega arith))

pub few-modules : (M : Plain) → IsSound M → length M.modules ≤ 4294967295
few-modules M sound = omega (arith, sound.counter, few-below (λ (m : PModule). m.id.0) M.next_module M.modules sound.rise sound.below)
