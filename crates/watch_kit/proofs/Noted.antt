-- Net bits that are noted, each once.
use Rattle.std.proofs.Common.{◌≡◌, ℕ, Bool, true, false, not, cond, ◌||◌, List, [], ◌∷◌, ◌++◌, map, Option, Some, None, is_some, refl, sym, ap, ◌∙◌, append_assoc, append-nil, is_eq}
use Rattle.std.specs.List.{list_any, fold}
use Rattle.std.proofs.lemmas.List.{map-append}
use Rattle.std.proofs.lemmas.List.Folds.{list_any-append}
use Rattle.watch_kit.specs.declared.net_bits.BitOf.{BitOf as Key}
use Rattle.watch_kit.specs.declared.sink_counts.SinkCounts.{SinkCounts}
use Rattle.watch_kit.specs.NetBits.{BitOf, once}
use Rattle.watch_kit.specs.FanoutLimit.{same_bit}
use Rattle.watch_kit.specs.inside.Keys.{bit_of, key_cmp, count_at}
use Rattle.watch_kit.specs.inside.Counting.{noted, Begun}
use Rattle.watch_kit.proofs.Gathered.{once-last}
use Rattle.watch_kit.proofs.Keys.{same-key, same-bit}

bit : BitOf → Key
bit b = record { net = b.net; offset = b.offset }

alike_bits : (y x k : BitOf) → same_bit k x ≡ true → not (same_bit y k) ≡ not (same_bit y x)
unfolding bit
alike_bits y x k same = ap (λ (z : Key). not (same_bit y (bit_of z))) (same-bit (bit k) (bit x) same)

noted-on : (xs ys : List BitOf) → fold noted (once same_bit xs) ys ≡ once same_bit (xs ++ ys)
noted-on xs [] = ap (once same_bit) (sym (append-nil xs))
noted-on xs (y ∷ ys) =
    ap (λ (l : List BitOf). fold noted l ys) (sym (once-last same_bit alike_bits xs y))
    ∙ noted-on (xs ++ y ∷ []) ys
    ∙ ap (once same_bit) (append_assoc xs (y ∷ []) ys)

-- noted one after the other, each stands once
pub noted-once : (xs : List BitOf) → fold noted [] xs ≡ once same_bit xs
noted-once xs = noted-on [] xs

abbrev zero_if : Bool → Option ℕ → Option ℕ
zero_if t o = cond t (Some 0) o

some-zero : (t : Bool) → is_some (zero_if t None) ≡ t
some-zero true = refl
some-zero false = refl

either-zero : (s t : Bool) → zero_if t (zero_if s None) ≡ zero_if (s || (t || false)) None
either-zero true true = refl
either-zero true false = refl
either-zero false true = refl
either-zero false false = refl

module _ (bits : List Key) (s : SinkCounts) (begun : Begun (map bit_of bits) s) (b : Key) where
  is-any : is_some (count_at s.counts.entries b) ≡ list_any (λ other. same_bit other (bit_of b)) (map bit_of bits)
  is-any = ap is_some (begun b) ∙ some-zero (list_any (λ other. same_bit other (bit_of b)) (map bit_of bits))

  pub noted-there : is_some (count_at s.counts.entries b) ≡ true → map bit_of bits ≡ noted (map bit_of bits) (bit_of b)
  noted-there there =
      sym (ap (λ (t : Bool). map bit_of bits ++ cond t [] (bit_of b ∷ [])) (sym is-any ∙ there) ∙ append-nil (map bit_of bits))

  pub noted-last : is_some (count_at s.counts.entries b) ≡ false → map bit_of (bits ++ b ∷ []) ≡ noted (map bit_of bits) (bit_of b)
  noted-last absent =
      map-append bit_of bits (b ∷ [])
      ∙ sym (ap (λ (t : Bool). map bit_of bits ++ cond t [] (bit_of b ∷ [])) (sym is-any ∙ absent))

  pub begun-last : (new : SinkCounts) → ((at : Key) → count_at new.counts.entries at ≡ zero_if (is_eq (key_cmp b at)) (count_at s.counts.entries at))
      → Begun (map bit_of (bits ++ b ∷ [])) new
  begun-last new updates at =
      let p : BitOf → Bool = λ other. same_bit other (bit_of at) in
      let any : list_any p (map bit_of (bits ++ b ∷ [])) ≡ list_any p (map bit_of bits) || (p (bit_of b) || false) =
      ap (list_any p) (map-append bit_of bits (b ∷ [])) ∙ list_any-append p (map bit_of bits) (bit_of b ∷ []) in
      updates at
      ∙ ap (λ t. zero_if t (count_at s.counts.entries at)) (same-key b at)
      ∙ ap (λ o. zero_if (p (bit_of b)) o) (begun at)
      ∙ either-zero (list_any p (map bit_of bits)) (p (bit_of b))
      ∙ ap (λ t. zero_if t None) (sym any)
