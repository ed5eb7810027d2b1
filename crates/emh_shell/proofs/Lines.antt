-- Lists that are compared item by item.
use Rattle.std.proofs.lemmas.Slice.Eq.{bytes_eq-Decides}
use Rattle.std.specs.Str.{bytes_eq}
use Rattle.std.proofs.Common.{◌≡◌, refl, Bool, true, false, not, ℕ, ◌+◌, ◌<◌, List, [], ◌∷◌, ◌++◌, take, drop, length, get_or, sym, ap, ap₂, ◌∙◌, add-one, drop-cons, take-add, suc}

item_here : {X : Type 0} (xs : List X) (k : ℕ) (x : X) → k < length xs → x ≡ get_or xs k x → drop k xs ≡ x ∷ drop (k + 1) xs
item_here xs k x within here = rw (add-one, drop-cons xs k x) (ap (λ z. z ∷ drop (suc k) xs) (sym here))

-- one item more of a list
pub take_more : {X : Type 0} (xs : List X) (k : ℕ) (x : X) → k < length xs → x ≡ get_or xs k x → take (k + 1) xs ≡ take k xs ++ x ∷ []
take_more xs k x within here = take-add k 1 xs ∙ ap (λ z. take k xs ++ take 1 z) (item_here xs k x within here)

-- and of two lists
pub same_more : {X : Type 0} (xs ys : List X) (k : ℕ) (x y : X) → k < length xs → k < length ys → x ≡ get_or xs k x → y ≡ get_or ys k y → x ≡ y → take k xs ≡ take k ys → take (k + 1) xs ≡ take (k + 1) ys
same_more xs ys k x y in_xs in_ys at_xs at_ys same before =
    take_more xs k x in_xs at_xs
    ∙ ap₂ (λ front item. front ++ item ∷ []) before same
    ∙ sym (take_more ys k y in_ys at_ys)

not_false : (b : Bool) → false ≡ not b → b ≡ true
not_false true e = refl
not_false false e = e

-- bytes that aren't found to differ are the same
pub same_bytes : (x y : List ℕ) → false ≡ not (bytes_eq x y) → x ≡ y
same_bytes x y e = (bytes_eq-Decides x y).0 (not_false (bytes_eq x y) e)
