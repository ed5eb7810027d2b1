-- What one byte more adds to a number, also where only its lowest bits are kept.
use Rattle.std.proofs.Common.{◌≡◌, ◌≢◌, refl, sym, ◌∙◌, ap, subst, ℕ, ◌+◌, ◌-◌, ◌*◌, ◌%◌, ◌^◌, ◌<◌, ◌≤◌, true, false, nat_eq, cond, List, [], ◌∷◌, length, drop, get_or, arith, add-one, drop-cons}
use Rattle.std.proofs.lemmas.Bool.{cond-true, cond-false, cond_both, eq-eqb, ne_eqb}
use Rattle.std.proofs.lemmas.List.{drop_all}
use Rattle.std.proofs.lemmas.Nat.{mul-mod_first, one_shl}
use Rattle.std.proofs.Math.Nat.{add-mod, mod-mod, mod-add-mod}
use Rattle.std.proofs.Math.Pow.{mod-mod-pow}
use Rattle.vlog_lex.specs.Byte.{underscore}
use Rattle.vlog_lex.specs.Number.{digit_of, written_after, written}

-- the bytes from a place on are the byte there and those after it
opened : (digits : List ℕ) (i : ℕ) → i < length digits → drop i digits ≡ get_or digits i 0 ∷ drop (i + 1) digits
opened digits i within = rw (add-one, drop-cons digits i 0) refl

pub past_underscore : (base v : ℕ) (digits : List ℕ) (i : ℕ) → i < length digits → get_or digits i 0 ≡ underscore
    → written_after base v (drop i digits) ≡ written_after base v (drop (i + 1) digits)
past_underscore base v digits i within skipped =
    ap (written_after base v) (opened digits i within)
    ∙ cond-true (nat_eq (get_or digits i 0) underscore) _ _ (eq-eqb (get_or digits i 0) underscore skipped)

pub past_digit : (base v : ℕ) (digits : List ℕ) (i : ℕ) → i < length digits → get_or digits i 0 ≢ underscore
    → written_after base v (drop i digits)
    ≡ written_after base (v * base + digit_of (get_or digits i 0)) (drop (i + 1) digits)
past_digit base v digits i within counts =
    ap (written_after base v) (opened digits i within)
    ∙ cond-false (nat_eq (get_or digits i 0) underscore) _ _ (ne_eqb (get_or digits i 0) underscore counts)

-- decimal digits write no less than what stands before them
grows : (v : ℕ) (digits : List ℕ) → v ≤ written_after 10 v digits
grows v [] = omega arith
grows v (byte ∷ digits) =
    cond_both (nat_eq byte underscore) (written_after 10 v digits) (written_after 10 (v * 10 + digit_of byte) digits)
    (λ w. v ≤ w)
    (λ skipped. grows v digits)
    (λ counts. omega (arith, grows (v * 10 + digit_of byte) digits))

-- a number whose first digits write too much is too large
pub too_large : (v n : ℕ) (digits : List ℕ) (i : ℕ) → i < length digits → get_or digits i 0 ≢ underscore
    → written_after 10 v (drop i digits) ≡ written 10 digits → n ≤ v * 10 + digit_of (get_or digits i 0)
    → n ≤ written 10 digits
too_large v n digits i within counts same much =
    let more = grows (v * 10 + digit_of (get_or digits i 0)) (drop (i + 1) digits) in
    omega (arith, more, same, past_digit 10 v digits i within counts)

-- only the lowest bits of what stands before count for the lowest bits
turn : (base v d m : ℕ) → ((v % m) * base + d) % m ≡ (v * base + d) % m
turn base v d m = add-mod ((v % m) * base) d m ∙ ap (λ x. (x + d % m) % m) (mul-mod_first v base m)
    ∙ sym (add-mod (v * base) d m)

written_mod : (base m v : ℕ) (digits : List ℕ)
    → written_after base (v % m) digits % m ≡ written_after base v digits % m
written_mod base m v [] = mod-mod v m
written_mod base m v (byte ∷ digits) =
    elim (nat_eq byte underscore) as (λ t. cond t (written_after base (v % m) digits)
    (written_after base ((v % m) * base + digit_of byte) digits) % m
    ≡ cond t (written_after base v digits) (written_after base (v * base + digit_of byte) digits) % m) [
      | true ↦ written_mod base m v digits
      | false ↦
          sym (written_mod base m ((v % m) * base + digit_of byte) digits)
          ∙ ap (λ x. written_after base x digits % m) (turn base v (digit_of byte) m)
          ∙ written_mod base m (v * base + digit_of byte) digits
    ]

-- one digit more, in arithmetic that wraps
pub low_digit : (base v w m : ℕ) (digits : List ℕ) (i : ℕ) → i < length digits → get_or digits i 0 ≢ underscore
    → w ≡ ((v * base) % m + digit_of (get_or digits i 0)) % m
    → written_after base w (drop (i + 1) digits) % m ≡ written_after base v (drop i digits) % m
low_digit base v w m digits i within counts is =
    let next = v * base + digit_of (get_or digits i 0) in
    ap (λ x. written_after base x (drop (i + 1) digits) % m)
    (is ∙ mod-add-mod (v * base) m (digit_of (get_or digits i 0)))
    ∙ written_mod base m next (drop (i + 1) digits)
    ∙ ap (λ x. x % m) (sym (past_digit base v digits i within counts))

-- the lowest bits of what was kept
pub lowest : (size v n : ℕ) → size < 128 → v % 2 ^ 128 ≡ n % 2 ^ 128 → v % (1 * 2 ^ size % 2 ^ 128) ≡ n % 2 ^ size
lowest size v n small same =
    let parts : (128 - size) + size ≡ 128 = omega arith in
    let fold : (x : ℕ) → x % 2 ^ 128 % 2 ^ size ≡ x % 2 ^ size =
    λ x. subst (λ k. x % 2 ^ k % 2 ^ size ≡ x % 2 ^ size) parts (mod-mod-pow x (128 - size) size) in
    rw (one_shl size 128 small) (sym (fold v) ∙ ap (λ x. x % 2 ^ size) same ∙ fold n)

-- past the last digit the number stands
pub whole : (base v : ℕ) (digits : List ℕ) (i : ℕ) → length digits ≤ i → written_after base v (drop i digits) ≡ v
whole base v digits i past = ap (written_after base v) (drop_all i digits past)
