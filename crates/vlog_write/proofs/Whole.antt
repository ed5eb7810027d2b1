-- Bits that follow each other from a net's leftmost on.
use Rattle.std.proofs.Common.{◌≡◌, ◌≢◌, refl, sym, ◌∙◌, ap, ap₂, ℕ, suc, ◌+◌, ◌-◌, ◌<◌, Bool, true, false, ◌&&◌, List, [], ◌∷◌, length, drop, get_or, arith}
use Rattle.std.proofs.Math.Bool.{and-false}
use Rattle.std.proofs.lemmas.List.{drop_more}
use Rattle.std.proofs.lemmas.List.FromFn.{length-map-range_with_len}
use Rattle.emh_base.specs.declared.ids.NetId.{NetId}
use Rattle.emh_base.specs.declared.plain.Src.{Src}
use Rattle.emh_base.specs.declared.plain.Src.TheVariants.{Bit}
use Rattle.flatten_rules.specs.Lookup.{bits_from}
use Rattle.vlog_write.specs.TreeOf.{is_same, are_same}

-- the bits from a place on are those of the net from this offset on
abbrev pub follow_from : NetId → List Src → ℕ → Bool
follow_from id bits at = are_same (drop at bits) (bits_from id at (length bits - at))

follow_more : (id : NetId) (bits : List Src) (at : ℕ) (d : Src) → at < length bits
    → follow_from id bits at ≡ (is_same (get_or bits at d) (Bit id at) && follow_from id bits (at + 1))
follow_more id bits at d within =
    let more : length bits - at ≡ suc (length bits - (at + 1)) = omega arith in
    ap₂ (λ xs n. are_same xs (bits_from id at n)) (drop_more bits at d within) more

pub follow_on : (id : NetId) (bits : List Src) (at : ℕ) (d : Src) → at < length bits
    → is_same (get_or bits at d) (Bit id at) ≡ true → follow_from id bits (at + 1) ≡ follow_from id bits at
follow_on id bits at d within is =
    sym (follow_more id bits at d within ∙ ap (λ b. b && follow_from id bits (at + 1)) is)

pub follow_no_more : (id : NetId) (bits : List Src) (at : ℕ) (d : Src) → at < length bits
    → is_same (get_or bits at d) (Bit id at) ≡ false → follow_from id bits at ≡ false
follow_no_more id bits at d within other =
    follow_more id bits at d within ∙ ap (λ b. b && follow_from id bits (at + 1)) other

-- lists of two lengths aren't the same
other_length : (xs ys : List Src) → length xs ≢ length ys → are_same xs ys ≡ false
other_length [] [] differ = absurd (differ refl)
other_length [] (y ∷ ys) differ = refl
other_length (x ∷ xs) [] differ = refl
other_length (x ∷ xs) (y ∷ ys) differ =
    ap (λ b. is_same x y && b) (other_length xs ys (λ same. differ (ap suc same))) ∙ and-false (is_same x y)

pub other_bits : (id : NetId) (bits : List Src) (n : ℕ) → length bits ≢ n → are_same bits (bits_from id 0 n) ≡ false
other_bits id bits n differ =
    other_length bits (bits_from id 0 n) (λ same. differ (same ∙ length-map-range_with_len (λ k. Bit id k) 0 n))
