-- A list without the one item that passes a test, and the Open connections at the ports that are left.
use Rattle.std.proofs.Common.{◌≡◌, ℕ, suc, ◌+◌, not, filter, position, Bool, true, false, cond, length, List, [], ◌∷◌, ◌++◌, Option, Some, None, nat_lt, refl, sym, ap, subst, ◌∙◌, inl, inr, arith}
use Rattle.std.proofs.lemmas.Grind.{common_steps}
use Rattle.std.specs.List.{filter_map, cons_option, position_or_len}
use Rattle.emh_base.specs.declared.plain.PPort.{PPort}
use Rattle.emh_base.specs.declared.plain.Conn.TheVariants.{Open}
use Rattle.flatten_rules.specs.NetChanges.{without_conn}
use Rattle.row_chains.specs.Chains.{Has, AreApart}
use Rattle.row_chains.proofs.TableLemmas.{shown-kept}
use Rattle.mod_core.specs.inside.Linked.{opens}

-- no two items pass the test
abbrev pub Once : {X : Type 0} → (X → Bool) → List X → Type 0
Once p [] = Unit {0}
Once p (x ∷ xs) = (p x ≡ true → filter (λ y. not (p y)) xs ≡ xs) × Once p xs

failing : (b : Bool) → (b ≡ true → ⊥) → not b ≡ true
failing true d = absurd (d refl)
failing false d = refl

-- where one key alone shows an item that passes
pub once_shown : {X : Type 0} (f : ℕ → Option X) (p : X → Bool) (key : ℕ) (ks : List ℕ) → AreApart ks → ((k : ℕ) (y : X) → Has k ks → f k ≡ Some y → p y ≡ true → k ≡ key) → Once p (filter_map f ks)
once_shown f p key [] apart one = tt
once_shown {X} f p key (k ∷ ks) apart one = by (f k) refl (once_shown f p key ks apart.1 (λ q y h. one q y (inr h)))
  where
    by : (o : Option X) → f k ≡ o → Once p (filter_map f ks) → Once p (cons_option o (filter_map f ks))
    by None e rest = rest
    by (Some x) e rest = (
      λ passes. sym (shown-kept f f (λ y. not (p y)) ks
          (λ q y h at. failing (p y) (λ also. apart.0 (subst (λ z. Has z ks) (one q y (inr h) at also ∙ sym (one k x (inl refl) e passes)) h)))
          (λ q h. refl)),
      rest,
    )

less_zero : (n : ℕ) → nat_lt 0 (suc n) ≡ false → ⊥
less_zero n e = grind (arith, common_steps)

one_more : (n : ℕ) → suc n ≡ 1 + n
one_more n = omega arith

less_both : (a b : ℕ) → nat_lt (1 + a) (suc b) ≡ nat_lt a b
less_both a b = grind (arith, common_steps)

module _ (p : PPort → Bool) where
  abbrev fails : PPort → Bool
  fails x = not (p x)

  one_less : (xs : List PPort) → Once p xs → (b : Bool) → nat_lt (position_or_len p xs) (length xs) ≡ b → opens (filter fails xs) ≡ without_conn (cond b (Some (position_or_len p xs)) None) (opens xs)
  one_less [] o true e = cc
  one_less [] o false e = refl
  one_less (x ∷ xs) o b e = by (p x) refl b e (λ c lt. one_less xs o.1 c lt)
    where
      by : (c : Bool) → p x ≡ c → (b : Bool) → nat_lt (position_or_len p (x ∷ xs)) (suc (length xs)) ≡ b → ((c : Bool) → nat_lt (position_or_len p xs) (length xs) ≡ c → opens (filter fails xs) ≡ without_conn (cond c (Some (position_or_len p xs)) None) (opens xs))
          → opens (filter fails (x ∷ xs)) ≡ without_conn (cond b (Some (position_or_len p (x ∷ xs))) None) (Open ∷ opens xs)
      by true c true lt later =
          ap (λ z. opens (cond (not z) (x ∷ filter fails xs) (filter fails xs))) c
          ∙ ap opens (o.0 c)
          ∙ ap (λ z. without_conn (Some (cond (not z) (1 + position_or_len p xs) 0)) (Open ∷ opens xs)) (sym c)
      by true c false lt later = absurd (less_zero (length xs) (sym (ap (λ z. nat_lt (cond (not z) (1 + position_or_len p xs) 0) (suc (length xs))) c) ∙ lt))
      by false c true lt later =
          ap (λ z. opens (cond (not z) (x ∷ filter fails xs) (filter fails xs))) c
          ∙ ap (λ z. Open ∷ z) (later true (sym (less_both (position_or_len p xs) (length xs)) ∙ sym (ap (λ z. nat_lt (cond (not z) (1 + position_or_len p xs) 0) (suc (length xs))) c) ∙ lt))
          ∙ ap (λ n. without_conn (Some n) (Open ∷ opens xs)) (one_more (position_or_len p xs))
          ∙ ap (λ z. without_conn (Some (cond (not z) (1 + position_or_len p xs) 0)) (Open ∷ opens xs)) (sym c)
      by false c false lt later =
          ap (λ z. opens (cond (not z) (x ∷ filter fails xs) (filter fails xs))) c
          ∙ ap (λ z. Open ∷ z) (later false (sym (less_both (position_or_len p xs) (length xs)) ∙ sym (ap (λ z. nat_lt (cond (not z) (1 + position_or_len p xs) 0) (suc (length xs))) c) ∙ lt))

  -- the connections without the one at that port's place
  pub opens_less : (xs : List PPort) → Once p xs → opens (filter fails xs) ≡ without_conn (position p xs) (opens xs)
  opens_less xs o = one_less xs o (nat_lt (position_or_len p xs) (length xs)) refl

pub opens_more : (xs : List PPort) (x : PPort) → opens (xs ++ x ∷ []) ≡ opens xs ++ Open ∷ []
opens_more [] x = refl
opens_more (y ∷ xs) x = ap (λ z. Open ∷ z) (opens_more xs x)
