-- A text that only grows keeps what it began with.
use Rattle.std.proofs.Common.{◌≡◌, ℕ, ◌+◌, ◌<◌, ◌≤◌, Bool, true, false, cond, map, get_or, List, [], ◌∷◌, ◌++◌, take, length, Result, Ok, Err, OnErr, refl, ap, sym, ◌∙◌, arith, length-take, append_assoc, append-nil}
use Rattle.std.specs.List.{flat_map, filter, range_with_len, join_with_byte, zip}
use Rattle.std.proofs.lemmas.Slice.Zip.{length-zip, get_or-zip}
use Rattle.reports.specs.inside.Spaced.{spaced}
use Rattle.std.proofs.lemmas.List.Concat.{flat_map-append}
use Rattle.std.proofs.lemmas.List.FromFn.{map-range_with_len_more}
use Rattle.emh_base.specs.declared.ids.NetId.{NetId}
use Rattle.emh_base.specs.declared.ids.InstId.{InstId}
use Rattle.flatten_rules.specs.Domains.{NetBit}
use Rattle.std.proofs.lemmas.List.{take-take, take_at, take_more, get_or_default}

long : (a b : List ℕ) → take (length a) b ≡ a → length a ≤ length b
long a b kept = let n = ap length kept in omega (arith, n, length-take (length a) b)

pub kept_more : (a b c : List ℕ) → take (length a) b ≡ a → take (length b) c ≡ b → take (length a) c ≡ a
kept_more a b c first second =
    sym (take-take (length a) (length b) c (long a b first)) ∙ ap (take (length a)) second ∙ first

pub kept_text : (a b text : List ℕ) → b ≡ a ++ text → take (length a) b ≡ a
kept_text a b text is = ap (take (length a)) is ∙ take_at a text (length a) refl

-- a call that fails behind one that didn't
pub kept_on : (a b c text : List ℕ) → b ≡ a ++ text → take (length b) c ≡ b → take (length a) c ≡ a
kept_on a b c text is kept = kept_more a b c (kept_text a b text is) kept

pub on_err : {T E P : Type 0} (r : Result T E) → P → OnErr r P
on_err (Ok done) p = tt
on_err (Err fault) p = p

-- the lines so far with those that are still to come, and one line more
pub more_lines : {X : Type 0} (f : X → List ℕ) (old new all : List ℕ) (x : X) (before rest : List X) → old ++ flat_map f before ≡ all → before ≡ x ∷ rest → new ≡ old ++ f x → new ++ flat_map f rest ≡ all
more_lines f old new all x before rest text next line =
    ap (λ t. t ++ flat_map f rest) line
    ∙ append_assoc old (f x) (flat_map f rest)
    ∙ ap (λ xs. old ++ flat_map f xs) (sym next)
    ∙ text

pub all_lines : {X : Type 0} (f : X → List ℕ) (out all : List ℕ) (rest : List X) → out ++ flat_map f rest ≡ all → rest ≡ [] → out ≡ all
all_lines f out all rest text none = sym (append-nil out) ∙ ap (λ xs. out ++ flat_map f xs) (sym none) ∙ text

-- a text that is put down part by part
pub behind : (start next end first others : List ℕ) → next ≡ start ++ first → end ≡ next ++ others → end ≡ start ++ (first ++ others)
behind start next end first others is all = all ∙ ap (λ t. t ++ others) is ∙ append_assoc start first others

abbrev pub bit_at : List InstId → NetId → ℕ → NetBit
bit_at path net offset = record { path = path; net = net; offset = offset }

-- the parts so far, and one part more
pub parts_more : {X Y : Type 0} (f : Y → List ℕ) (g : X → List Y) (start old new : List ℕ) (xs : List X) (i : ℕ) (x : X) → old ≡ start ++ flat_map f (flat_map g (take i xs)) → i < length xs → x ≡ get_or xs i x → new ≡ old ++ flat_map f (g x) → new ≡ start ++ flat_map f (flat_map g (take (i + 1) xs))
parts_more f g start old new xs i x before within at more =
    let next : take (i + 1) xs ≡ take i xs ++ x ∷ [] = take_more xs i x within ∙ ap (λ y. take i xs ++ y ∷ []) (sym at) in
    more
    ∙ ap (λ t. t ++ flat_map f (g x)) before
    ∙ append_assoc start (flat_map f (flat_map g (take i xs))) (flat_map f (g x))
    ∙ ap (λ t. start ++ t) (sym (flat_map-append f (flat_map g (take i xs)) (g x)) ∙ ap (flat_map f) (sym (ap (flat_map g) next ∙ flat_map-append g (take i xs) (x ∷ []) ∙ ap (λ ys. flat_map g (take i xs) ++ ys) (append-nil (g x)))))

pub items_more : {X : Type 0} (f : X → List ℕ) (start old new : List ℕ) (xs : List X) (i : ℕ) (x : X) → old ≡ start ++ flat_map f (take i xs) → i < length xs → x ≡ get_or xs i x → new ≡ old ++ f x → new ≡ start ++ flat_map f (take (i + 1) xs)
items_more f start old new xs i x before within at more =
    let next : take (i + 1) xs ≡ take i xs ++ x ∷ [] = take_more xs i x within ∙ ap (λ y. take i xs ++ y ∷ []) (sym at) in
    more
    ∙ ap (λ t. t ++ f x) before
    ∙ append_assoc start (flat_map f (take i xs)) (f x)
    ∙ ap (λ t. start ++ t) (sym (ap (flat_map f) next ∙ flat_map-append f (take i xs) (x ∷ []) ∙ ap (λ ys. flat_map f (take i xs) ++ ys) (append-nil (f x))))

pub numbers_more : {X : Type 0} (f : X → List ℕ) (g : ℕ → X) (start old new : List ℕ) (k : ℕ) → old ≡ start ++ flat_map f (map g (range_with_len 0 k)) → new ≡ old ++ f (g k) → new ≡ start ++ flat_map f (map g (range_with_len 0 (k + 1)))
numbers_more f g start old new k before more =
    more
    ∙ ap (λ t. t ++ f (g k)) before
    ∙ append_assoc start (flat_map f (map g (range_with_len 0 k))) (f (g k))
    ∙ ap (λ t. start ++ t) (sym (ap (flat_map f) (map-range_with_len_more g 0 k k (omega arith)) ∙ flat_map-append f (map g (range_with_len 0 k)) (g k ∷ []) ∙ ap (λ ys. flat_map f (map g (range_with_len 0 k)) ++ ys) (append-nil (f (g k)))))

-- words with a space between each two: the first, and each other behind a space
pub join-spaced : (word : List ℕ) (words : List (List ℕ)) → join_with_byte 32 (word ∷ words) ≡ word ++ flat_map spaced words
join-spaced word [] = sym (append-nil word)
join-spaced word (next ∷ words) = ap (λ t. word ++ (32 ∷ t)) (join-spaced next words)

pub five-parts : (a b c d e : List ℕ) → (((a ++ b) ++ c) ++ d) ++ e ≡ a ++ (b ++ ((c ++ d) ++ e))
five-parts a b c d e = simp append_assoc

pub pairs_more : {X Y : Type 0} (f : X × Y → List ℕ) (start old new : List ℕ) (xs : List X) (ys : List Y) (i : ℕ) (d : X) (y : Y) → old ≡ start ++ flat_map f (take i (zip xs ys)) → i < length xs → length ys ≡ length xs → y ≡ get_or ys i y → new ≡ old ++ f (get_or xs i d, y) → new ≡ start ++ flat_map f (take (i + 1) (zip xs ys))
pairs_more f start old new xs ys i d y before within many at more =
    let x = get_or xs i d in
    let here : (x, y) ≡ get_or (zip xs ys) i (x, y) = sym (get_or-zip xs ys i (x, y) within (omega (arith, many)) ∙ ap (λ z. (z, get_or ys i y)) (get_or_default xs i x d within) ∙ ap (λ z. (x, z)) (sym at)) in
    items_more f start old new (zip xs ys) i (x, y) before (omega (arith, length-zip xs ys, many)) here more

-- the same of those that pass a test
kept-step : {X : Type 0} (f : X → List ℕ) (passes : Bool) (x : X) (rest : List X) → cond passes (f x) [] ++ flat_map f rest ≡ flat_map f (cond passes (x ∷ rest) rest)
kept-step f true x rest = refl
kept-step f false x rest = refl

pub more_kept : {X : Type 0} (f : X → List ℕ) (p : X → Bool) (old new all : List ℕ) (x : X) (before rest : List X) → old ++ flat_map f (filter p before) ≡ all → before ≡ x ∷ rest → new ≡ old ++ cond (p x) (f x) [] → new ++ flat_map f (filter p rest) ≡ all
more_kept f p old new all x before rest text next line =
    ap (λ t. t ++ flat_map f (filter p rest)) line
    ∙ append_assoc old (cond (p x) (f x) []) (flat_map f (filter p rest))
    ∙ ap (λ t. old ++ t) (kept-step f (p x) x (filter p rest))
    ∙ ap (λ xs. old ++ flat_map f (filter p xs)) (sym next)
    ∙ text

unmapped : (xs : List ℕ) → map (λ x. x) xs ≡ xs
unmapped [] = refl
unmapped (x ∷ xs) = ap (λ ys. x ∷ ys) (unmapped xs)

-- numbers in order, and one more
pub offsets_more : (f : ℕ → List ℕ) (start old new : List ℕ) (k : ℕ) → old ≡ start ++ flat_map f (range_with_len 0 k) → new ≡ old ++ f k → new ≡ start ++ flat_map f (range_with_len 0 (k + 1))
offsets_more f start old new k before more =
    numbers_more f (λ x. x) start old new k (before ∙ ap (λ xs. start ++ flat_map f xs) (sym (unmapped (range_with_len 0 k)))) more
    ∙ ap (λ xs. start ++ flat_map f xs) (unmapped (range_with_len 0 (k + 1)))
