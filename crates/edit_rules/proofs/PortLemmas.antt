-- Ports that are compared one by one.
use Rattle.std.proofs.Common.{◌≡◌, ◌≢◌, ℕ, zero, suc, ◌<◌, ◌==◌, ◌&&◌, Bool, true, false, List, [], ◌∷◌, length, slice_get, is_some, Option, Some, None, IsTrue, refl, sym, ap, ◌∙◌, arith}
use Rattle.std.specs.List.{list_all, zip}
use Rattle.std.proofs.lemmas.Bool.Decides.{nat_tests}
use Rattle.std.proofs.lemmas.Option.{slice_get_within}
use Rattle.emh_base.specs.declared.plain.PPort.{PPort}
use Rattle.emh_base.specs.declared.plain.PModule.{PModule}
use Rattle.flatten_rules.specs.Domains.{ports_of}
use Rattle.flatten_rules.proofs.Places.{item-there}
use Rattle.edit_rules.specs.Readers.{same_port, same_ports}
use Rattle.edit_rules.specs.inside.Ports.{are_alike, are_alike_at}

both : (b c : Bool) → b ≡ true → c ≡ true → (b && c) ≡ true
both true c first second = second
both false c first second = let never : false ≡ true = first in absurd (cc)

first-not : (b c : Bool) → b ≡ false → (b && c) ≡ false
first-not true c not = let never : true ≡ false = not in absurd (cc)
first-not false c not = refl

second-not : (b c : Bool) → c ≡ false → (b && c) ≡ false
second-not true c not = not
second-not false c not = refl

module _ (f : PPort → PPort → Bool) where
  zip-all : (xs ys : List PPort) → length xs ≡ length ys → ((k : ℕ) (p q : PPort) → slice_get xs k ≡ Some p → slice_get ys k ≡ Some q → f p q ≡ true)
      → list_all (λ (p : PPort × PPort). f p.0 p.1) (zip xs ys) ≡ true
  zip-all [] ys many each = refl
  zip-all (x ∷ xs) [] many each = absurd (omega arith)
  zip-all (x ∷ xs) (y ∷ ys) many each =
      both (f x y) (list_all (λ (p : PPort × PPort). f p.0 p.1) (zip xs ys)) (each 0 x y refl refl)
      (zip-all xs ys (omega arith) (λ k p q at_p at_q. each (suc k) p q at_p at_q))

  zip-not : (xs ys : List PPort) (k : ℕ) (p q : PPort) → slice_get xs k ≡ Some p → slice_get ys k ≡ Some q → f p q ≡ false
      → list_all (λ (p : PPort × PPort). f p.0 p.1) (zip xs ys) ≡ false
  zip-not [] ys k p q at_p at_q not = absurd (omega (arith, slice_get_within [] k p at_p))
  zip-not (x ∷ xs) [] k p q at_p at_q not = absurd (omega (arith, slice_get_within [] k q at_q))
  zip-not (x ∷ xs) (y ∷ ys) zero p q at_p at_q not =
      let one : x ≡ p = cc in
      let two : y ≡ q = cc in
      first-not (f x y) (list_all (λ (p : PPort × PPort). f p.0 p.1) (zip xs ys)) (rw (one, two) not)
  zip-not (x ∷ xs) (y ∷ ys) (suc k) p q at_p at_q not =
      second-not (f x y) (list_all (λ (p : PPort × PPort). f p.0 p.1) (zip xs ys)) (zip-not xs ys k p q at_p at_q not)

as_many : (m n : ℕ) → m ≡ n → (m == n) ≡ true
as_many m n same = grind (arith, nat_tests)

fewer : (m n : ℕ) → m ≢ n → (m == n) ≡ false
fewer m n other = grind (arith, nat_tests)

pub same-yes : (x y : Option PModule) → IsTrue (is_some x) → IsTrue (is_some y) → length (ports_of x) ≡ length (ports_of y)
    → ((k : ℕ) → k < length (ports_of x) → are_alike_at x y k ≡ true) → same_ports x y ≡ true
same-yes None y some_x some_y many each = let never : false ≡ true = some_x in absurd (cc)
same-yes (Some m) None some_x some_y many each = let never : false ≡ true = some_y in absurd (cc)
same-yes (Some m) (Some other) some_x some_y many each =
    both (length m.ports == length other.ports) (list_all (λ (p : PPort × PPort). same_port m other p.0 p.1) (zip m.ports other.ports)) (as_many _ _ many)
    (zip-all (same_port m other) m.ports other.ports many (λ k p q at_p at_q.
    ap (λ o. are_alike (Some m) (Some other) o (Some q)) (sym at_p) ∙ ap (are_alike (Some m) (Some other) (slice_get m.ports k)) (sym at_q)
    ∙ each k (slice_get_within m.ports k p at_p)))

pub same-no : (x y : Option PModule) (k : ℕ) → length (ports_of x) ≡ length (ports_of y) → k < length (ports_of x) → are_alike_at x y k ≡ false → same_ports x y ≡ false
same-no None y k many within not = refl
same-no (Some m) None k many within not = refl
same-no (Some m) (Some other) k many within not =
    let p = item-there m.ports k within in
    let q = item-there other.ports k (omega (arith, many)) in
    let here : same_port m other p.0 q.0 ≡ false =
    ap (λ o. are_alike (Some m) (Some other) o (Some q.0)) (sym p.1) ∙ ap (are_alike (Some m) (Some other) (slice_get m.ports k)) (sym q.1) ∙ not in
    second-not (length m.ports == length other.ports) (list_all (λ (p : PPort × PPort). same_port m other p.0 p.1) (zip m.ports other.ports))
    (zip-not (same_port m other) m.ports other.ports k p.0 q.0 p.1 q.1 here)

pub same-fewer : (x y : Option PModule) → length (ports_of x) ≢ length (ports_of y) → same_ports x y ≡ false
same-fewer None y other = refl
same-fewer (Some m) None other = refl
same-fewer (Some m) (Some n) other =
    first-not (length m.ports == length n.ports) (list_all (λ (p : PPort × PPort). same_port m n p.0 p.1) (zip m.ports n.ports)) (fewer _ _ other)
