-- What holds of each item, and of each item and each later one.
use Rattle.std.proofs.Common.{arith, ◌≡◌, ℕ, zero, suc, ◌+◌, ◌<◌, ◌≤◌, [], ◌∷◌, ◌++◌, List, map, length, get_or}
use Rattle.std.specs.List.{All, AllPairs}
use Rattle.std.proofs.lemmas.List.Elements.{All-append}
use Rattle.vlog_elab.specs.Named.{numbered}

pub all_none : {X : Type 0} (P : X → Type 0) → All P []
all_none P k d h = absurd (omega arith)

pub all_cons : {X : Type 0} (P : X → Type 0) (x : X) (xs : List X) → P x → All P xs → All P (x ∷ xs)
all_cons P x xs p ps zero d h = p
all_cons P x xs p ps (suc k) d h = ps k d (omega arith)

pub all_head : {X : Type 0} (P : X → Type 0) (x : X) (xs : List X) → All P (x ∷ xs) → P x
all_head P x xs h = h zero x (omega arith)

pub all_tail : {X : Type 0} (P : X → Type 0) (x : X) (xs : List X) → All P (x ∷ xs) → All P xs
all_tail P x xs h = λ k d lt. h (suc k) d (omega arith)

pub all_weaker : {X : Type 0} (P Q : X → Type 0) (xs : List X) → ((x : X) → P x → Q x) → All P xs → All Q xs
all_weaker P Q xs f h = λ k d lt. f (get_or xs k d) (h k d lt)

pub all_each : {X : Type 0} (P : X → Type 0) (xs : List X) → ((x : X) → P x) → All P xs
all_each P xs f = λ k d lt. f (get_or xs k d)

pub pairs_none : {X : Type 0} (R : X → X → Type 0) → AllPairs R []
pairs_none R i j d lt h = absurd (omega arith)

pub pairs_cons : {X : Type 0} (R : X → X → Type 0) (x : X) (xs : List X) → All (R x) xs → AllPairs R xs → AllPairs R (x ∷ xs)
pairs_cons R x xs first rest zero zero d lt h = absurd (omega arith)
pairs_cons R x xs first rest zero (suc j) d lt h = first j d (omega arith)
pairs_cons R x xs first rest (suc i) zero d lt h = absurd (omega arith)
pairs_cons R x xs first rest (suc i) (suc j) d lt h = rest i j d (omega arith) (omega arith)

pub pairs_head : {X : Type 0} (R : X → X → Type 0) (x : X) (xs : List X) → AllPairs R (x ∷ xs) → All (R x) xs
pairs_head R x xs h = λ k d lt. h zero (suc k) d (omega arith) (omega arith)

pub pairs_tail : {X : Type 0} (R : X → X → Type 0) (x : X) (xs : List X) → AllPairs R (x ∷ xs) → AllPairs R xs
pairs_tail R x xs h = λ i j d lt within. h (suc i) (suc j) d (omega arith) (omega arith)

pub pairs_append : {X : Type 0} (R : X → X → Type 0) (xs ys : List X) → AllPairs R xs → AllPairs R ys → All (λ x. All (R x) ys) xs → AllPairs R (xs ++ ys)
pairs_append R [] ys p q across = q
pairs_append R (x ∷ xs) ys p q across =
    pairs_cons R x (xs ++ ys)
    (All-append (R x) xs ys (pairs_head R x xs p) (all_head (λ x. All (R x) ys) x xs across))
    (pairs_append R xs ys (pairs_tail R x xs p) q (all_tail (λ x. All (R x) ys) x xs across))

-- Items that are numbered.

pub numbered_from : {X Y : Type 0} (number : Y → ℕ) (make : ℕ → X → Y) → ((n : ℕ) (x : X) → number (make n x) ≡ n) → (n : ℕ) (xs : List X) → All (λ y. n ≤ number y) (numbered make n xs)
numbered_from number make is n [] = all_none (λ y. n ≤ number y)
numbered_from number make is n (x ∷ xs) =
    let e : number (make n x) ≡ n = is n x in
    all_cons (λ y. n ≤ number y) (make n x) (numbered make (n + 1) xs) (omega (arith, e))
    (all_weaker (λ y. n + 1 ≤ number y) (λ y. n ≤ number y) (numbered make (n + 1) xs) (λ y h. omega (arith, h)) (numbered_from number make is (n + 1) xs))

pub numbered_below : {X Y : Type 0} (number : Y → ℕ) (make : ℕ → X → Y) → ((n : ℕ) (x : X) → number (make n x) ≡ n) → (n : ℕ) (xs : List X) → All (λ y. number y < n + length xs) (numbered make n xs)
numbered_below number make is n [] = all_none (λ y. number y < n + 0)
numbered_below number make is n (x ∷ xs) =
    let e : number (make n x) ≡ n = is n x in
    let len : n + 1 + length xs ≡ n + length (x ∷ xs) = grind arith in
    all_cons (λ y. number y < n + length (x ∷ xs)) (make n x) (numbered make (n + 1) xs) (omega (arith, e, len))
    (all_weaker (λ y. number y < n + 1 + length xs) (λ y. number y < n + length (x ∷ xs)) (numbered make (n + 1) xs) (λ y h. omega (arith, h, len)) (numbered_below number make is (n + 1) xs))

pub numbered_rise : {X Y : Type 0} (number : Y → ℕ) (make : ℕ → X → Y) → ((n : ℕ) (x : X) → number (make n x) ≡ n) → (n : ℕ) (xs : List X) → AllPairs (λ a b. number a < number b) (numbered make n xs)
numbered_rise number make is n [] = pairs_none (λ a b. number a < number b)
numbered_rise number make is n (x ∷ xs) =
    let e : number (make n x) ≡ n = is n x in
    pairs_cons (λ a b. number a < number b) (make n x) (numbered make (n + 1) xs)
    (all_weaker (λ y. n + 1 ≤ number y) (λ y. number (make n x) < number y) (numbered make (n + 1) xs) (λ y h. omega (arith, h, e)) (numbered_from number make is (n + 1) xs))
    (numbered_rise number make is (n + 1) xs)

-- what holds of each item that is made
pub all_numbered : {X Y : Type 0} (P : Y → Type 0) (make : ℕ → X → Y) → ((n : ℕ) (x : X) → P (make n x)) → (n : ℕ) (xs : List X) → All P (numbered make n xs)
all_numbered P make f n [] = all_none P
all_numbered P make f n (x ∷ xs) = all_cons P (make n x) (numbered make (n + 1) xs) (f n x) (all_numbered P make f (n + 1) xs)

pub all_numbered_of : {X Y : Type 0} (P : Y → Type 0) (Q : X → Type 0) (make : ℕ → X → Y) → ((n : ℕ) (x : X) → Q x → P (make n x)) → (n : ℕ) (xs : List X) → All Q xs → All P (numbered make n xs)
all_numbered_of P Q make f n [] h = all_none P
all_numbered_of P Q make f n (x ∷ xs) h =
    all_cons P (make n x) (numbered make (n + 1) xs) (f n x (all_head Q x xs h)) (all_numbered_of P Q make f (n + 1) xs (all_tail Q x xs h))

pub all_map_of : {X Y : Type 0} (P : Y → Type 0) (Q : X → Type 0) (make : X → Y) → ((x : X) → Q x → P (make x)) → (xs : List X) → All Q xs → All P (map make xs)
all_map_of P Q make f [] h = all_none P
all_map_of P Q make f (x ∷ xs) h = all_cons P (make x) (map make xs) (f x (all_head Q x xs h)) (all_map_of P Q make f xs (all_tail Q x xs h))
