-- Items with numbers.
use Rattle.std.proofs.Common.{arith, ◌≡◌, ℕ, ◌+◌, ◌<◌, [], ◌∷◌, ◌++◌, List, Some, map, take, length, get_or, slice_get, refl, sym, ◌∙◌, ap, append_assoc, zero-add}
use Rattle.std.specs.List.{flat_map}
use Rattle.std.proofs.lemmas.List.{length-take-le, length-append, map-append}
use Rattle.std.proofs.lemmas.Option.{slice_get-get_or, get_or_from_slice_get}
use Rattle.vlog_elab.specs.Named.{numbered}
use Rattle.vlog_elab.proofs.Walking.{one_more, flat_map-push}

pub numbered-append : {X Y : Type 0} (make : ℕ → X → Y) (n : ℕ) (xs ys : List X) → numbered make n (xs ++ ys) ≡ numbered make n xs ++ numbered make (n + length xs) ys
numbered-append make n [] ys = let none : n + 0 ≡ n = omega arith in rw none refl
numbered-append make n (x ∷ xs) ys =
    let e : n + 1 + length xs ≡ n + length (x ∷ xs) = grind arith in
    ap (λ rest. make n x ∷ rest) (numbered-append make (n + 1) xs ys ∙ (rw e refl))

pub numbered-push : {X Y : Type 0} (make : ℕ → X → Y) (n : ℕ) (xs : List X) (x : X) → numbered make n (xs ++ x ∷ []) ≡ numbered make n xs ++ make (n + length xs) x ∷ []
numbered-push make n xs x = numbered-append make n xs (x ∷ [])

pub length-numbered : {X Y : Type 0} (make : ℕ → X → Y) (n : ℕ) (xs : List X) → length (numbered make n xs) ≡ length xs
length-numbered make n [] = refl
length-numbered make n (x ∷ xs) = grind (arith, length-numbered make (n + 1) xs)

-- one item more of a list
pub numbered_more : {X Y : Type 0} (make : ℕ → X → Y) (n : ℕ) (xs : List X) (i : ℕ) (x : X) → i < length xs → x ≡ get_or xs i x
    → numbered make n (take (i + 1) xs) ≡ numbered make n (take i xs) ++ make (n + i) x ∷ []
numbered_more make n xs i x within here =
    let len : length (take i xs) ≡ i = length-take-le i xs (omega arith) in
    ap (numbered make n) (one_more xs i x within here) ∙ numbered-push make n (take i xs) x ∙ (rw len refl)

-- Loops that make rows.

-- a row of the item at each place
pub rows_more : {X Y : Type 0} (make : ℕ → X → Y) (xs : List X) (d : X) (i : ℕ) (rows grown : List Y) → i < length xs → rows ≡ numbered make 0 (take i xs)
    → ((x : X) → slice_get xs i ≡ Some x → grown ≡ rows ++ make i x ∷ []) → grown ≡ numbered make 0 (take (i + 1) xs)
rows_more make xs d i rows grown within so_far says =
    let x = get_or xs i d in
    let is : slice_get xs i ≡ Some x = slice_get-get_or xs i d within in
    let none : 0 + i ≡ i = omega arith in
    says x is ∙ ap (λ rows. rows ++ make i x ∷ []) so_far
    ∙ sym (numbered_more make 0 xs i x within (sym (get_or_from_slice_get xs i x x is)) ∙ (rw none refl))

pub map_more : {X Y : Type 0} (make : X → Y) (xs : List X) (d : X) (i : ℕ) (rows grown : List Y) → i < length xs → rows ≡ map make (take i xs)
    → ((x : X) → slice_get xs i ≡ Some x → grown ≡ rows ++ make x ∷ []) → grown ≡ map make (take (i + 1) xs)
map_more make xs d i rows grown within so_far says =
    let x = get_or xs i d in
    let is : slice_get xs i ≡ Some x = slice_get-get_or xs i d within in
    says x is ∙ ap (λ rows. rows ++ make x ∷ []) so_far
    ∙ sym (ap (map make) (one_more xs i x within (sym (get_or_from_slice_get xs i x x is))) ∙ map-append make (take i xs) (x ∷ []))

-- a row of each item, after the rows that are there
pub rows_after_more : {X Y Z : Type 0} (make : ℕ → Y → Z) (of : X → Y) (old rows grown : List Z) (xs : List X) (i : ℕ) (x : X) (row : Z) → i < length xs → x ≡ get_or xs i x
    → rows ≡ old ++ numbered make (length old) (map of (take i xs)) → row ≡ make (length rows) (of x) → grown ≡ rows ++ row ∷ []
    → grown ≡ old ++ numbered make (length old) (map of (take (i + 1) xs))
rows_after_more make of old rows grown xs i x row within here so_far is made =
    let before = map of (take i xs) in
    let len : length rows ≡ length old + length before
    = ap length so_far ∙ length-append old (numbered make (length old) before) ∙ ap (λ n. length old + n) (length-numbered make (length old) before) in
    let items : map of (take (i + 1) xs) ≡ before ++ of x ∷ [] = ap (map of) (one_more xs i x within here) ∙ map-append of (take i xs) (x ∷ []) in
    made ∙ ap (λ rows. rows ++ row ∷ []) so_far
    ∙ append_assoc old (numbered make (length old) before) (row ∷ [])
    ∙ ap (λ row. old ++ (numbered make (length old) before ++ row ∷ [])) (is ∙ ap (λ n. make n (of x)) len)
    ∙ ap (λ rows. old ++ rows) (sym (ap (numbered make (length old)) items ∙ numbered-push make (length old) before (of x)))

-- rows of each item, which has some
pub rows_flat_more : {X Y Z : Type 0} (make : ℕ → Y → Z) (of : X → List Y) (rows grown : List Z) (xs : List X) (i : ℕ) (x : X) → i < length xs → x ≡ get_or xs i x
    → rows ≡ numbered make 0 (flat_map of (take i xs)) → grown ≡ rows ++ numbered make (length rows) (of x)
    → grown ≡ numbered make 0 (flat_map of (take (i + 1) xs))
rows_flat_more make of rows grown xs i x within here so_far made =
    let before = flat_map of (take i xs) in
    let len : length rows ≡ 0 + length before = ap length so_far ∙ length-numbered make 0 before ∙ sym (zero-add (length before)) in
    let items : flat_map of (take (i + 1) xs) ≡ before ++ of x = ap (flat_map of) (one_more xs i x within here) ∙ flat_map-push of (take i xs) x in
    made ∙ (rw (len, so_far) refl)
    ∙ sym (ap (numbered make 0) items ∙ numbered-append make 0 before (of x))
