-- Names that stay one of a kind.
use Rattle.std.proofs.Common.{◌≡◌, ◌≢◌, ℕ, zero, suc, ◌==◌, ◌<◌, Bool, true, false, cond, List, [], ◌∷◌, ◌++◌, get_or, map, All, AllPairs, bytes_eq, refl, sym, ◌∙◌, arith}
use Rattle.std.specs.List.{IsDistinct, list_any}
use Rattle.std.proofs.lemmas.Bool.{or_parts}
use Rattle.std.proofs.lemmas.Bool.Decides.{nat_tests, not_from_Decides}
use Rattle.std.proofs.lemmas.List.Elements.{All-append, All-head, All-tail, All-cons, All-nil, All-weaker, All-map}
use Rattle.std.proofs.lemmas.List.Kept.{AllPairs-cons}
use Rattle.std.proofs.lemmas.List.Quantifiers.{all_pairs_push}
use Rattle.std.proofs.lemmas.Map.Made.{IsDistinct-from_AllPairs, AllPairs-from_IsDistinct}
use Rattle.std.proofs.lemmas.Slice.Eq.{bytes_eq-Decides}
use Rattle.emh_base.specs.declared.plain.PNet.{PNet}
use Rattle.emh_base.specs.declared.plain.PInst.{PInst}

pub pairs-head : {X : Type 0} (R : X → X → Type 0) (x : X) (xs : List X) → AllPairs R (x ∷ xs) → All (R x) xs
pairs-head R x xs h = λ k d lt. h zero (suc k) d (omega arith) (omega arith)

pub pairs-tail : {X : Type 0} (R : X → X → Type 0) (x : X) (xs : List X) → AllPairs R (x ∷ xs) → AllPairs R xs
pairs-tail R x xs h = λ i j d lt within. h (suc i) (suc j) d (omega arith) (omega arith)

pub pairs-nil : {X : Type 0} (R : X → X → Type 0) → AllPairs R []
pairs-nil R = λ i j d lt within. absurd (omega arith)

pairs-append : {X : Type 0} (R : X → X → Type 0) (xs ys : List X) → AllPairs R xs → AllPairs R ys → All (λ x. All (R x) ys) xs → AllPairs R (xs ++ ys)
pairs-append R [] ys p q across = q
pairs-append R (x ∷ xs) ys p q across =
    AllPairs-cons R x (xs ++ ys)
    (All-append (R x) xs ys (pairs-head R x xs p) (All-head (λ y. All (R y) ys) x xs across))
    (pairs-append R xs ys (pairs-tail R x xs p) q (All-tail (λ y. All (R y) ys) x xs across))

all-front : {X : Type 0} (P : X → Type 0) (xs ys : List X) → All P (xs ++ ys) → All P xs
all-front P [] ys h = All-nil P
all-front P (x ∷ xs) ys h = All-cons P x xs (All-head P x (xs ++ ys) h) (all-front P xs ys (All-tail P x (xs ++ ys) h))

all-behind : {X : Type 0} (P : X → Type 0) (xs ys : List X) → All P (xs ++ ys) → All P ys
all-behind P [] ys h = h
all-behind P (x ∷ xs) ys h = all-behind P xs ys (All-tail P x (xs ++ ys) h)

pairs-front : {X : Type 0} (R : X → X → Type 0) (xs ys : List X) → AllPairs R (xs ++ ys) → AllPairs R xs
pairs-front R [] ys h = pairs-nil R
pairs-front R (x ∷ xs) ys h = AllPairs-cons R x xs (all-front (R x) xs ys (pairs-head R x (xs ++ ys) h)) (pairs-front R xs ys (pairs-tail R x (xs ++ ys) h))

pairs-behind : {X : Type 0} (R : X → X → Type 0) (xs ys : List X) → AllPairs R (xs ++ ys) → AllPairs R ys
pairs-behind R [] ys h = h
pairs-behind R (x ∷ xs) ys h = pairs-behind R xs ys (pairs-tail R x (xs ++ ys) h)

pairs-across : {X : Type 0} (R : X → X → Type 0) (xs ys : List X) → AllPairs R (xs ++ ys) → All (λ x. All (R x) ys) xs
pairs-across R [] ys h = All-nil (λ x. All (R x) ys)
pairs-across R (x ∷ xs) ys h =
    All-cons (λ y. All (R y) ys) x xs (all-behind (R x) xs ys (pairs-head R x (xs ++ ys) h)) (pairs-across R xs ys (pairs-tail R x (xs ++ ys) h))

pub all-unmap : {X Y : Type 0} (P : Y → Type 0) (f : X → Y) (xs : List X) → All P (map f xs) → All (λ x. P (f x)) xs
all-unmap P f [] h = All-nil (λ x. P (f x))
all-unmap P f (x ∷ xs) h = All-cons (λ y. P (f y)) x xs (All-head P (f x) (map f xs) h) (all-unmap P f xs (All-tail P (f x) (map f xs) h))

pub pairs-unmap : {X Y : Type 0} (R : Y → Y → Type 0) (f : X → Y) (xs : List X) → AllPairs R (map f xs) → AllPairs (λ a b. R (f a) (f b)) xs
pairs-unmap R f [] h = pairs-nil (λ a b. R (f a) (f b))
pairs-unmap R f (x ∷ xs) h =
    AllPairs-cons (λ a b. R (f a) (f b)) x xs (all-unmap (R (f x)) f xs (pairs-head R (f x) (map f xs) h)) (pairs-unmap R f xs (pairs-tail R (f x) (map f xs) h))

pub pairs-map : {X Y : Type 0} (R : Y → Y → Type 0) (f : X → Y) (xs : List X) → AllPairs (λ a b. R (f a) (f b)) xs → AllPairs R (map f xs)
pairs-map R f [] h = pairs-nil R
pairs-map {X} R f (x ∷ xs) h =
    let On : X → X → Type 0 = λ a b. R (f a) (f b) in
    AllPairs-cons R (f x) (map f xs) (All-map (R (f x)) f xs (pairs-head On x xs h)) (pairs-map R f xs (pairs-tail On x xs h))

abbrev pub Differ : List ℕ → List ℕ → Type 0
Differ a b = a ≢ b

-- Items of one list, by their names.

-- items whose names differ
abbrev pub Apart : {X : Type 0} → (X → List ℕ) → List X → Type 0
Apart name xs = AllPairs (λ a b. name a ≢ name b) xs

pub apart : {X : Type 0} (name : X → List ℕ) (xs : List X) → IsDistinct bytes_eq (map name xs) → Apart name xs
apart name xs distinct = pairs-unmap Differ name xs (AllPairs-from_IsDistinct bytes_eq-Decides (map name xs) distinct)

pub distinct : {X : Type 0} (name : X → List ℕ) (xs : List X) → Apart name xs → IsDistinct bytes_eq (map name xs)
distinct name xs differ = IsDistinct-from_AllPairs bytes_eq-Decides (map name xs) (pairs-map Differ name xs differ)

pub none-of : {X : Type 0} (p : X → Bool) (xs : List X) → list_any p xs ≡ false → All (λ x. p x ≡ false) xs
none-of p [] e = All-nil (λ x. p x ≡ false)
none-of p (x ∷ xs) e = let parts = or_parts (p x) (list_any p xs) e in All-cons (λ y. p y ≡ false) x xs parts.0 (none-of p xs parts.1)

unlike : (a b : List ℕ) → bytes_eq a b ≡ false → a ≢ b
unlike a b e = not_from_Decides (bytes_eq a b) (bytes_eq-Decides a b) e

-- no item has a name that isn't taken
pub free : {X : Type 0} (name : X → List ℕ) (new : List ℕ) (xs : List X) → list_any (λ x. bytes_eq (name x) new) xs ≡ false → All (λ x. name x ≢ new) xs
free name new xs e = λ k d within. unlike (name (get_or xs k d)) new (none-of (λ x. bytes_eq (name x) new) xs e k d within)

-- one item gets a name that no other has
module _ {X : Type 0} (name : X → List ℕ) (number : X → ℕ) (id : ℕ) (new : List ℕ) (f : X → X) (given : (x : X) → name (f x) ≡ new) where
  abbrev pub renamed : X → X
  renamed x = cond (number x == id) (f x) x

  both : (b c : Bool) (x y : X) → (b ≡ true → c ≡ true → ⊥) → name x ≢ new → name y ≢ new → name x ≢ name y → name (cond b (f x) x) ≢ name (cond c (f y) y)
  both true true x y not_both left right differ = absurd (not_both refl refl)
  both true false x y not_both left right differ = λ same. right (sym same ∙ given x)
  both false true x y not_both left right differ = λ same. left (same ∙ given y)
  both false false x y not_both left right differ = differ

  pub apart-renamed : (xs : List X) → AllPairs (λ a b. number a < number b) xs → All (λ x. name x ≢ new) xs → Apart name xs → Apart name (map renamed xs)
  apart-renamed xs rise others differ =
      pairs-map (λ a b. name a ≢ name b) renamed xs (λ i j d lt within.
      let low : number (get_or xs i d) < number (get_or xs j d) = rise i j d lt within in
      both (number (get_or xs i d) == id) (number (get_or xs j d) == id) (get_or xs i d) (get_or xs j d) (λ here there. grind (arith, nat_tests))
      (others i d (omega arith)) (others j d within) (differ i j d lt within))

  one : (b : Bool) (x : X) (other : List ℕ) → new ≢ other → name x ≢ other → name (cond b (f x) x) ≢ other
  one true x other fresh differ = λ same. fresh (sym (given x) ∙ same)
  one false x other fresh differ = differ

  -- and none of another list
  pub renamed-differs : (x : X) (other : List ℕ) → new ≢ other → name x ≢ other → name (renamed x) ≢ other
  renamed-differs x other fresh differ = one (number x == id) x other fresh differ

pub apart-push : {X : Type 0} (name : X → List ℕ) (xs : List X) (x : X) → Apart name xs → All (λ y. name y ≢ name x) xs → Apart name (xs ++ x ∷ [])
apart-push name xs x differ others = all_pairs_push (λ a b. name a ≢ name b) xs x differ others

-- The nets and instances of a module, by their names.

abbrev pub net_name : PNet → List ℕ
net_name net = net.name

abbrev pub inst_name : PInst → List ℕ
inst_name inst = inst.name

pub record NamesApart {X Y : Type 0} (name : X → List ℕ) (called : Y → List ℕ) (xs : List X) (ys : List Y) : Type 0 where
  pub left : Apart name xs
  pub right : Apart called ys
  pub across : All (λ x. All (λ y. name x ≢ called y) ys) xs

pub names_apart : {X Y : Type 0} (name : X → List ℕ) (called : Y → List ℕ) (xs : List X) (ys : List Y) → IsDistinct bytes_eq (map name xs ++ map called ys) → NamesApart name called xs ys
names_apart {X} {Y} name called xs ys distinct =
    let all : AllPairs Differ (map name xs ++ map called ys) = AllPairs-from_IsDistinct bytes_eq-Decides (map name xs ++ map called ys) distinct in
    let others : All (λ x. All (Differ x) (map called ys)) (map name xs) = pairs-across Differ (map name xs) (map called ys) all in
    record {
      left = pairs-unmap Differ name xs (pairs-front Differ (map name xs) (map called ys) all);
      right = pairs-unmap Differ called ys (pairs-behind Differ (map name xs) (map called ys) all);
      across = All-weaker (λ x. All (Differ (name x)) (map called ys)) (λ x. All (λ y. name x ≢ called y) ys) (λ x h. all-unmap (Differ (name x)) called ys h) xs
          (all-unmap (λ x. All (Differ x) (map called ys)) name xs others);
    }

pub names_distinct : {X Y : Type 0} (name : X → List ℕ) (called : Y → List ℕ) (xs : List X) (ys : List Y) → NamesApart name called xs ys → IsDistinct bytes_eq (map name xs ++ map called ys)
names_distinct name called xs ys a =
    IsDistinct-from_AllPairs bytes_eq-Decides (map name xs ++ map called ys)
    (pairs-append Differ (map name xs) (map called ys) (pairs-map Differ name xs a.left) (pairs-map Differ called ys a.right)
    (All-map (λ x. All (Differ x) (map called ys)) name xs
    (All-weaker (λ x. All (λ y. name x ≢ called y) ys) (λ x. All (Differ (name x)) (map called ys)) (λ x h. All-map (Differ (name x)) called ys h) xs a.across)))
