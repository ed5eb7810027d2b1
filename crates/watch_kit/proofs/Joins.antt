-- Lists that a loop has gone through in part.
use Rattle.std.proofs.Common.{◌≡◌, ℕ, ◌+◌, ◌<◌, Bool, cond, List, [], ◌∷◌, ◌++◌, map, take, drop, get_or, length, sym, ap, ◌∙◌, arith, append_assoc, append-nil}
use Rattle.std.specs.List.{flat_map, zip, count_by}
use Rattle.std.proofs.lemmas.List.Sums.{sum_by-append}
use Rattle.std.proofs.lemmas.List.{take_more, drop_more, get_or_default, map-append}
use Rattle.std.proofs.lemmas.List.Concat.{flat_map-append}
use Rattle.std.proofs.lemmas.Slice.Zip.{length-zip, get_or-zip}

pub flat-more : {X Y : Type 0} (f : X → List Y) (xs : List X) (i : ℕ) (x : X) → i < length xs → x ≡ get_or xs i x → flat_map f (take (i + 1) xs) ≡ flat_map f (take i xs) ++ f x
flat-more f xs i x within at =
    ap (flat_map f) (take_more xs i x within ∙ ap (λ y. take i xs ++ y ∷ []) (sym at))
    ∙ flat_map-append f (take i xs) (x ∷ [])
    ∙ ap (λ ys. flat_map f (take i xs) ++ ys) (append-nil (f x))

pub pairs-more : {X Y Z : Type 0} (f : X × Y → Z) (xs : List X) (ys : List Y) (i : ℕ) (d : X) (y : Y) → i < length xs → length ys ≡ length xs → y ≡ get_or ys i y
    → map f (take (i + 1) (zip xs ys)) ≡ map f (take i (zip xs ys)) ++ f (get_or xs i d, y) ∷ []
pairs-more f xs ys i d y within many at =
    let x = get_or xs i d in
    let here : get_or (zip xs ys) i (x, y) ≡ (x, y) = get_or-zip xs ys i (x, y) within (omega (arith, many)) ∙ ap (λ z. (z, get_or ys i y)) (get_or_default xs i x d within) ∙ ap (λ z. (x, z)) (sym at) in
    ap (map f) (take_more (zip xs ys) i (x, y) (omega (arith, length-zip xs ys, many)) ∙ ap (λ p. take i (zip xs ys) ++ p ∷ []) here)
    ∙ map-append f (take i (zip xs ys)) ((x, y) ∷ [])

-- what is made so far, and what is to come of the items that are left
pub made-more : {X Y : Type 0} (f g : List X → List Y) (whole made new : List Y) (xs : List X) (i : ℕ) (d : X) (y : Y) → i < length xs → whole ≡ made ++ f (drop i xs)
    → ((more : List X) → f (get_or xs i d ∷ more) ≡ y ∷ g more) → new ≡ made ++ y ∷ [] → whole ≡ new ++ g (drop (i + 1) xs)
made-more f g whole made new xs i d y within before step push =
    let left = drop (i + 1) xs in
    before
    ∙ ap (λ l. made ++ f l) (drop_more xs i d within)
    ∙ ap (λ l. made ++ l) (step left)
    ∙ sym (ap (λ l. l ++ g left) push ∙ append_assoc made (y ∷ []) (g left))

pub count-more : {X : Type 0} (p : X → Bool) (xs : List X) (i : ℕ) (d : X) → i < length xs → count_by p (take (i + 1) xs) ≡ count_by p (take i xs) + cond (p (get_or xs i d)) 1 0
count-more {X} p xs i d within =
    let f : X → ℕ = λ x. cond (p x) 1 0 in
    let x = get_or xs i d in
    let one : 0 + f x ≡ f x = omega arith in
    ap (count_by p) (take_more xs i d within) ∙ sum_by-append f (take i xs) (x ∷ []) ∙ ap (λ n. count_by p (take i xs) + n) one
