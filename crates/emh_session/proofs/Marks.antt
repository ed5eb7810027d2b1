-- Marks that are set by a name.
use Rattle.std.proofs.Common.{◌≡◌, ℕ, zero, suc, ◌+◌, ◌<◌, ◌≤◌, Bool, true, false, ◌||◌, cond, List, [], ◌∷◌, ◌++◌, length, take, drop, refl, sym, ap, subst, ◌∙◌, arith, append-nil}
use Rattle.std.proofs.Math.ListN.{set, length-set}
use Rattle.std.proofs.lemmas.List.{drop_all, take_all, take-append-le}
use Rattle.std.specs.Str.{bytes_eq}
use Rattle.session_rules.specs.Session.{has_name, marked}

-- the marks below i have been set, and whether one was
pub record Marked (name : List ℕ) (on : Bool) (names : List (List ℕ)) (old : List Bool) (i : ℕ) (found : Bool) (now : List Bool) : Type 0 where
  pub marks : take i now ++ marked name on (drop i names) (drop i now) ≡ marked name on names old
  pub any : (found || has_name name (drop i names)) ≡ has_name name names
  pub all : length now ≡ length old

pub marked-none : (name : List ℕ) (on : Bool) (names : List (List ℕ)) (old : List Bool) → Marked name on names old 0 false old
marked-none name on names old = record { marks = refl; any = refl; all = refl }

-- what is marked at i, and the others from i + 1 on

one-more : (i : ℕ) → suc i + 1 ≡ suc (i + 1)
one-more i = omega arith

here-named : (name n : List ℕ) (on : Bool) (i : ℕ) (names : List (List ℕ)) (now : List Bool) → drop i names ≡ n ∷ drop (i + 1) names → bytes_eq n name ≡ true → i < length now
    → take (i + 1) (set now i on) ++ marked name on (drop (i + 1) names) (drop (i + 1) (set now i on)) ≡ take i now ++ marked name on (drop i names) (drop i now)
here-named name n on i names [] here is less = absurd (omega (arith, less))
here-named name n on zero names (b ∷ bs) here is less =
    ap (λ (v : Bool). cond v on b ∷ marked name on (drop 1 names) bs) (sym is) ∙ sym (ap (λ (ms : List (List ℕ)). marked name on ms (b ∷ bs)) here)
here-named name n on (suc i) [] (b ∷ bs) here is less = absurd (cc)
here-named name n on (suc i) (m ∷ names) (b ∷ bs) here is less =
    let rest : drop i names ≡ n ∷ drop (i + 1) names = here ∙ ap (λ k. n ∷ drop k (m ∷ names)) (one-more i) in
    ap (λ k. take k (b ∷ set bs i on) ++ marked name on (drop k (m ∷ names)) (drop k (b ∷ set bs i on))) (one-more i)
    ∙ ap (λ (ds : List Bool). b ∷ ds) (here-named name n on i names bs rest is (omega (arith, less)))

here-other : (name n : List ℕ) (on : Bool) (i : ℕ) (names : List (List ℕ)) (now : List Bool) → drop i names ≡ n ∷ drop (i + 1) names → bytes_eq n name ≡ false → i < length now
    → take (i + 1) now ++ marked name on (drop (i + 1) names) (drop (i + 1) now) ≡ take i now ++ marked name on (drop i names) (drop i now)
here-other name n on i names [] here is less = absurd (omega (arith, less))
here-other name n on zero names (b ∷ bs) here is less =
    ap (λ (v : Bool). cond v on b ∷ marked name on (drop 1 names) bs) (sym is) ∙ sym (ap (λ (ms : List (List ℕ)). marked name on ms (b ∷ bs)) here)
here-other name n on (suc i) [] (b ∷ bs) here is less = absurd (cc)
here-other name n on (suc i) (m ∷ names) (b ∷ bs) here is less =
    let rest : drop i names ≡ n ∷ drop (i + 1) names = here ∙ ap (λ k. n ∷ drop k (m ∷ names)) (one-more i) in
    ap (λ k. take k (b ∷ bs) ++ marked name on (drop k (m ∷ names)) (drop k (b ∷ bs))) (one-more i)
    ∙ ap (λ (ds : List Bool). b ∷ ds) (here-other name n on i names bs rest is (omega (arith, less)))

or-true : (a b : Bool) → (a || (true || b)) ≡ true
or-true true b = refl
or-true false b = refl

module _ (name : List ℕ) (on : Bool) (names : List (List ℕ)) (old : List Bool) (i : ℕ) (found : Bool) (now : List Bool) (n : List ℕ)
    (below : Marked name on names old i found now) (here : drop i names ≡ n ∷ drop (i + 1) names) (less : i < length now) where
  pub marked-named : (new : List Bool) (more : Bool) → bytes_eq n name ≡ true → new ≡ set now i on → more ≡ true → Marked name on names old (i + 1) more new
  marked-named new more is set_is found_is =
      let P : List Bool → Type 0 = λ bs. Marked name on names old (i + 1) more bs in
      let rest : (found || has_name name (n ∷ drop (i + 1) names)) ≡ has_name name names =
      sym (ap (λ (ms : List (List ℕ)). found || has_name name ms) here) ∙ below.any in
      subst P (sym set_is) (record {
        marks = here-named name n on i names now here is less ∙ below.marks;
        any = ap (λ (b : Bool). b || has_name name (drop (i + 1) names)) found_is
            ∙ sym (or-true found (has_name name (drop (i + 1) names)))
            ∙ sym (ap (λ (b : Bool). found || (b || has_name name (drop (i + 1) names))) is)
            ∙ rest;
        all = length-set now i on ∙ below.all;
      })

  pub marked-other : (new : List Bool) (more : Bool) → bytes_eq n name ≡ false → new ≡ now → more ≡ found → Marked name on names old (i + 1) more new
  marked-other new more is same found_is =
      let P : List Bool → Type 0 = λ bs. Marked name on names old (i + 1) more bs in
      let rest : (found || has_name name (n ∷ drop (i + 1) names)) ≡ has_name name names =
      sym (ap (λ (ms : List (List ℕ)). found || has_name name ms) here) ∙ below.any in
      subst P (sym same) (record {
        marks = here-other name n on i names now here is less ∙ below.marks;
        any = ap (λ (b : Bool). b || has_name name (drop (i + 1) names)) found_is
            ∙ sym (ap (λ (b : Bool). found || (b || has_name name (drop (i + 1) names))) is)
            ∙ rest;
        all = below.all;
      })

or-false : (a : Bool) → (a || false) ≡ a
or-false true = refl
or-false false = refl

pub marked-all : (name : List ℕ) (on : Bool) (names : List (List ℕ)) (old : List Bool) (i : ℕ) (found : Bool) (now : List Bool) → Marked name on names old i found now
    → length names ≤ i → length now ≤ i → (found ≡ has_name name names) × (now ≡ marked name on names old)
marked-all name on names old i found now below past over =
    let none : drop i names ≡ [] = drop_all i names past in (
      sym (or-false found) ∙ sym (ap (λ (ms : List (List ℕ)). found || has_name name ms) none) ∙ below.any,
      sym (take_all i now over) ∙ sym (append-nil (take i now))
          ∙ sym (ap (λ (ms : List (List ℕ)). take i now ++ marked name on ms (drop i now)) none) ∙ below.marks,
    )

-- where no observer has the name, no mark changes
pub marked-absent : (name : List ℕ) (on : Bool) (names : List (List ℕ)) (marks : List Bool) → length names ≡ length marks → has_name name names ≡ false
    → marked name on names marks ≡ marks
marked-absent name on [] [] same none = refl
marked-absent name on [] (b ∷ bs) same none = absurd (omega (arith, same))
marked-absent name on (n ∷ names) [] same none = absurd (omega (arith, same))
marked-absent name on (n ∷ names) (b ∷ bs) same none =
    by_test (bytes_eq n name) none (λ rest. marked-absent name on names bs (omega (arith, same)) rest)
  where
    by_test : (here : Bool) → (here || has_name name names) ≡ false → (has_name name names ≡ false → marked name on names bs ≡ bs)
        → cond here on b ∷ marked name on names bs ≡ b ∷ bs
    by_test true never again = let no_way : true ≡ false = never in absurd (cc)
    by_test false rest again = ap (λ (ds : List Bool). b ∷ ds) (again rest)

-- what stands in a vector whose items were all written over
pub written-over : (len : ℕ) (new items : List Bool) → len ≤ length new → length new ≤ len → take len (new ++ drop (length new) items) ≡ new
written-over len new items low high = take-append-le len new (drop (length new) items) low ∙ take_all len new high
