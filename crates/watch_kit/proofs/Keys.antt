-- Net bits as keys.
use Rattle.std.proofs.Common.{◌≡◌, ℕ, ◌==◌, Bool, true, false, ◌&&◌, refl, ap₂, ◌∙◌, arith, is_eq}
use Rattle.std.specs.Ordering.{nat_cmp}
use Rattle.std.proofs.lemmas.Bool.Decides.{nat_tests}
use Rattle.flatten_rules.proofs.Keys.{then-eq, tied-numbers}
use Rattle.watch_kit.specs.declared.net_bits.BitOf.{BitOf as Key}
use Rattle.watch_kit.specs.FanoutLimit.{same_bit}
use Rattle.watch_kit.specs.inside.Keys.{bit_of, key_cmp}

-- keys are equal where they are one net bit
pub same-key : (a b : Key) → is_eq (key_cmp a b) ≡ same_bit (bit_of a) (bit_of b)
same-key a b =
    then-eq (nat_cmp a.net.0 b.net.0) (nat_cmp a.offset b.offset)
    ∙ ap₂ (λ s t. s && t) (tied-numbers a.net.0 b.net.0) (tied-numbers a.offset b.offset)

both : (s t : Bool) → s && t ≡ true → (s ≡ true) × (t ≡ true)
both true true e = (refl, refl)
both true false e = let never : false ≡ true = e in absurd (cc)
both false t e = let never : false ≡ true = e in absurd (cc)

pub same-bit : (a b : Key) → same_bit (bit_of a) (bit_of b) ≡ true → a ≡ b
same-bit a b e =
    let parts = both (a.net.0 == b.net.0) (a.offset == b.offset) e in
    let nets : a.net.0 ≡ b.net.0 = grind (arith, nat_tests, parts.0) in
    let offsets : a.offset ≡ b.offset = grind (arith, nat_tests, parts.1) in
    λ i. record { net = record { 0 = nets i }; offset = offsets i }

pub bit-itself : (a : Key) → same_bit (bit_of a) (bit_of a) ≡ true
bit-itself a =
    let net : (a.net.0 == a.net.0) ≡ true = grind (arith, nat_tests) in
    let offset : (a.offset == a.offset) ≡ true = grind (arith, nat_tests) in
    ap₂ (λ s t. s && t) net offset
