-- Each text of a path, a net bit, a pin or a tie is the text of one of them only, but that a path and a bit without an
-- index may share one: then the path's last name is the net's.
use Rattle.std.proofs.Common.{◌≡◌, refl, sym, ◌∙◌, ap, ap₂, subst, ℕ, ◌+◌, ◌-◌, ◌<◌, ◌^◌, ◌==◌, true, false, ◌||◌, List, [], ◌∷◌, ◌++◌, length, get_or, drop, Option, Some, None, IsTrue, arith, append_assoc, append-nil}
use Rattle.std.specs.Fmt.{decimal}
use Rattle.std.specs.List.{AllByRecursion}
use Rattle.std.proofs.lemmas.Bool.{both_ways}
use Rattle.std.proofs.lemmas.List.{append_cancel_right}
use Rattle.std.proofs.lemmas.Fmt.{decimal_injective}
use Rattle.emh_base.specs.declared.plain.Range.{Range}
use Rattle.emh_base.specs.Name.{IsName}
use Rattle.emh_base.specs.Text.{is_special, spell, path_text, front_text, bit_text, pin_text, index_of, index_text}
use Rattle.emh_base.proofs.SpellLemmas.{Stops, cancel, no_first, nothing_begins}

abbrev pub AreNames : List (List ℕ) → Type 0
AreNames names = AllByRecursion IsName names

-- nothing, or a text that begins with a byte that ends a name and goes no step further down
abbrev pub Ends : List ℕ → Type 0
Ends [] = Unit {0}
Ends (byte ∷ rest) = IsTrue (byte == 91 || byte == 46)

stops : (rest : List ℕ) → Ends rest → Stops rest
stops [] ends = tt
stops (byte ∷ rest) ends = grind (arith, ends)

no_slash : (rest x : List ℕ) → Ends rest → rest ≡ 47 ∷ x → ⊥
no_slash [] x ends same = nothing_begins 47 x (sym same)
no_slash (byte ∷ rest) x ends same =
    let byte_is : byte ≡ 47 = ap (λ text. get_or text 0 0) same in
    both_ways false refl (subst (λ b. IsTrue (b == 91 || b == 46)) byte_is ends)

-- paths below the top, with what follows them
walks_cancel : (m : List ℕ) (ms : List (List ℕ)) (n : List ℕ) (ns : List (List ℕ)) (r s : List ℕ) → Ends r → Ends s
    → path_text (m ∷ ms) ++ r ≡ path_text (n ∷ ns) ++ s → (m ∷ ms ≡ n ∷ ns) × (r ≡ s)
walks_cancel m [] n [] r s ends ends' same =
    let both = cancel m n r s (stops r ends) (stops s ends') same in
    (ap (λ name. name ∷ []) both.0, both.1)
walks_cancel m [] n (y ∷ ns) r s ends ends' same =
    let rest = path_text (y ∷ ns) ++ s in
    let both = cancel m n r (47 ∷ rest) (stops r ends) refl
    (same ∙ append_assoc (spell n) (47 ∷ path_text (y ∷ ns)) s) in
    absurd (no_slash r rest ends both.1)
walks_cancel m (x ∷ ms) n [] r s ends ends' same =
    let rest = path_text (x ∷ ms) ++ r in
    let both = cancel m n (47 ∷ rest) s refl (stops s ends')
    (sym (append_assoc (spell m) (47 ∷ path_text (x ∷ ms)) r) ∙ same) in
    absurd (no_slash s rest ends' (sym both.1))
walks_cancel m (x ∷ ms) n (y ∷ ns) r s ends ends' same =
    let both = cancel m n (47 ∷ path_text (x ∷ ms) ++ r) (47 ∷ path_text (y ∷ ns) ++ s) refl refl
    (sym (append_assoc (spell m) (47 ∷ path_text (x ∷ ms)) r) ∙ same
    ∙ append_assoc (spell n) (47 ∷ path_text (y ∷ ns)) s) in
    let below = walks_cancel x ms y ns r s ends ends' (ap (drop 1) both.1) in
    (ap₂ (λ name names. name ∷ names) both.0 below.0, below.1)

-- the text of a path below the top begins with neither a slash nor a =
walk_begins : (b : ℕ) → (is_special b || b == 61) ≡ true → (b == 92) ≡ false → (names : List (List ℕ)) (n : List ℕ)
    → IsName n → (x rest : List ℕ) → path_text (n ∷ names) ++ x ≡ b ∷ rest → ⊥
walk_begins b special plain names [] is x rest same = absurd (omega (arith, is.some_byte))
walk_begins b special plain [] (byte ∷ n) is x rest same = no_first byte b n x rest special plain same
walk_begins b special plain (y ∷ names) (byte ∷ n) is x rest same =
    no_first byte b n (47 ∷ path_text (y ∷ names) ++ x) rest special plain
    (sym (append_assoc (spell (byte ∷ n)) (47 ∷ path_text (y ∷ names)) x) ∙ same)

-- texts that begin with a path and go no step further down begin with the same path and go on alike
pub path_cancel : (names others : List (List ℕ)) (r s : List ℕ) → AreNames names → AreNames others → Ends r → Ends s
    → path_text names ++ r ≡ path_text others ++ s → (names ≡ others) × (r ≡ s)
path_cancel [] [] r s are are' ends ends' same = (refl, ap (drop 1) same)
path_cancel [] (n ∷ ns) r s are are' ends ends' same = absurd (walk_begins 47 refl refl ns n are'.0 s r (sym same))
path_cancel (m ∷ ms) [] r s are are' ends ends' same = absurd (walk_begins 47 refl refl ms m are.0 r s same)
path_cancel (m ∷ ms) (n ∷ ns) r s are are' ends ends' same = walks_cancel m ms n ns r s ends ends' same

-- two paths have different texts
pub path_text_injective : (names others : List (List ℕ)) → AreNames names → AreNames others
    → path_text names ≡ path_text others → names ≡ others
path_text_injective names others are are' same =
    (path_cancel names others [] [] are are' tt tt
    (append-nil (path_text names) ∙ same ∙ sym (append-nil (path_text others)))).0

-- one name more before a path with an instance in it
path_more : (name : List ℕ) (names : List (List ℕ)) (net : List ℕ)
    → path_text (name ∷ (names ++ net ∷ [])) ≡ spell name ++ 47 ∷ path_text (names ++ net ∷ [])
path_more name [] net = refl
path_more name (y ∷ names) net = refl

front_step : (name : List ℕ) (names : List (List ℕ)) (net rest : List ℕ)
    → front_text names ++ (spell net ++ rest) ≡ path_text (names ++ net ∷ []) ++ rest
    → front_text (name ∷ names) ++ (spell net ++ rest) ≡ path_text (name ∷ (names ++ net ∷ [])) ++ rest
front_step name names net rest same =
    append_assoc (spell name ++ 47 ∷ []) (front_text names) (spell net ++ rest)
    ∙ append_assoc (spell name) (47 ∷ []) (front_text names ++ (spell net ++ rest))
    ∙ ap (λ text. spell name ++ 47 ∷ text) same
    ∙ sym (append_assoc (spell name) (47 ∷ path_text (names ++ net ∷ [])) rest)
    ∙ ap (λ text. text ++ rest) (sym (path_more name names net))

-- a bit's text begins with that of the path that its net would have as an instance
pub front_is_path : (names : List (List ℕ)) (net rest : List ℕ)
    → front_text names ++ (spell net ++ rest) ≡ path_text (names ++ net ∷ []) ++ rest
front_is_path [] net rest = refl
front_is_path (name ∷ names) net rest = front_step name names net rest (front_is_path names net rest)

index_ends : (range : Option Range) (offset : ℕ) → Ends (index_text range offset)
index_ends None offset = tt
index_ends (Some range) offset = refl

pub names_and : (names : List (List ℕ)) (net : List ℕ) → AreNames names → IsName net → AreNames (names ++ net ∷ [])
names_and [] net are is = (is, tt)
names_and (name ∷ names) net are is = (are.0, names_and names net are.1 is)

some_left : {A : Type 0} {x : A} {xs : List A} → x ∷ xs ≡ [] → ⊥
some_left same = absurd (omega (arith, ap length (sym same)))

some_last : {A : Type 0} (x : A) (xs : List A) → xs ++ x ∷ [] ≡ [] → ⊥
some_last x [] same = some_left same
some_last x (y ∷ xs) same = some_left same

last_apart : (names others : List (List ℕ)) (net other : List ℕ) → names ++ net ∷ [] ≡ others ++ other ∷ []
    → (names ≡ others) × (net ≡ other)
last_apart [] [] net other same = (refl, ap (λ names. get_or names 0 net) same)
last_apart [] (n ∷ others) net other same = absurd (some_last other others (ap (drop 1) (sym same)))
last_apart (m ∷ names) [] net other same = absurd (some_last net names (ap (drop 1) same))
last_apart (m ∷ names) (n ∷ others) net other same =
    let rest = last_apart names others net other (ap (drop 1) same) in
    (ap₂ (λ name list. name ∷ list) (ap (λ list. get_or list 0 m) same) rest.0, rest.1)

-- a bit's text determines the path, the net and the index text
pub bit_text_same : (names others : List (List ℕ)) (net other : List ℕ) (range range' : Option Range)
    (offset offset' : ℕ)
    → AreNames names → AreNames others → IsName net → IsName other
    → bit_text names net range offset ≡ bit_text others other range' offset'
    → (names ≡ others) × (net ≡ other) × (index_text range offset ≡ index_text range' offset')
bit_text_same names others net other range range' offset offset' are are' is is' same =
    let both = path_cancel (names ++ net ∷ []) (others ++ other ∷ []) (index_text range offset)
    (index_text range' offset')
    (names_and names net are is) (names_and others other are' is') (index_ends range offset) (index_ends range' offset')
    (sym (front_is_path names net (index_text range offset)) ∙ same
    ∙ front_is_path others other (index_text range' offset')) in
    let apart = last_apart names others net other both.0 in
    (apart.0, apart.1, both.1)

-- a pin's text determines the path, the port and the index text
pub pin_text_same : (names others : List (List ℕ)) (port other : List ℕ) (range range' : Option Range)
    (offset offset' : ℕ)
    → AreNames names → AreNames others
    → pin_text names port range offset ≡ pin_text others other range' offset'
    → (names ≡ others) × (port ≡ other) × (index_text range offset ≡ index_text range' offset')
pin_text_same names others port other range range' offset offset' are are' same =
    let both = path_cancel names others (46 ∷ spell port ++ index_text range offset)
    (46 ∷ spell other ++ index_text range' offset') are are' refl refl same in
    let pin = cancel port other (index_text range offset) (index_text range' offset')
    (stops (index_text range offset) (index_ends range offset))
    (stops (index_text range' offset') (index_ends range' offset')) (ap (drop 1) both.1) in
    (both.0, pin.0, pin.1)

-- where a path and a bit share a text, the bit has no index, and the path's last name is the net's
pub path_text_bit_text : (path names : List (List ℕ)) (net : List ℕ) (range : Option Range) (offset : ℕ)
    → AreNames path → AreNames names → IsName net → path_text path ≡ bit_text names net range offset
    → (path ≡ names ++ net ∷ []) × (index_text range offset ≡ [])
path_text_bit_text path names net range offset are are' is same =
    let both = path_cancel path (names ++ net ∷ []) [] (index_text range offset) are (names_and names net are' is) tt
    (index_ends range offset)
    (append-nil (path_text path) ∙ same ∙ front_is_path names net (index_text range offset)) in
    (both.0, sym both.1)

-- no path has the text of a pin
pub path_text_pin_text : (path names : List (List ℕ)) (port : List ℕ) (range : Option Range) (offset : ℕ)
    → AreNames path → AreNames names → path_text path ≡ pin_text names port range offset → ⊥
path_text_pin_text path names port range offset are are' same =
    let pin = spell port ++ index_text range offset in
    nothing_begins 46 pin
    (sym (path_cancel path names [] (46 ∷ pin) are are' tt refl (append-nil (path_text path) ∙ same)).1)

no_dot : (range : Option Range) (offset : ℕ) (x : List ℕ) → index_text range offset ≡ 46 ∷ x → ⊥
no_dot None offset x same = nothing_begins 46 x (sym same)
no_dot (Some range) offset x same = absurd (omega (arith, ap (λ text. get_or text 0 0) same))

-- no bit has the text of a pin
pub bit_text_pin_text : (names others : List (List ℕ)) (net port : List ℕ) (range range' : Option Range)
    (offset offset' : ℕ)
    → AreNames names → AreNames others → IsName net
    → bit_text names net range offset ≡ pin_text others port range' offset' → ⊥
bit_text_pin_text names others net port range range' offset offset' are are' is same =
    let pin = spell port ++ index_text range' offset' in
    no_dot range offset pin
    (path_cancel (names ++ net ∷ []) others (index_text range offset) (46 ∷ pin) (names_and names net are is) are'
    (index_ends range offset) refl (sym (front_is_path names net (index_text range offset)) ∙ same)).1

path_begins : (names : List (List ℕ)) (x rest : List ℕ) → AreNames names → path_text names ++ x ≡ 61 ∷ rest → ⊥
path_begins [] x rest are same = absurd (omega (arith, ap (λ text. get_or text 0 0) same))
path_begins (name ∷ names) x rest are same = walk_begins 61 refl refl names name are.0 x rest same

-- a text of a path, a bit or a pin begins with no =, as those of ties and of an open connection do
pub path_text_no_tie : (names : List (List ℕ)) (rest : List ℕ) → AreNames names → path_text names ≡ 61 ∷ rest → ⊥
path_text_no_tie names rest are same = path_begins names [] rest are (append-nil (path_text names) ∙ same)

pub bit_text_no_tie : (names : List (List ℕ)) (net : List ℕ) (range : Option Range) (offset : ℕ) (rest : List ℕ)
    → AreNames names → IsName net → bit_text names net range offset ≡ 61 ∷ rest → ⊥
bit_text_no_tie names net range offset rest are is same =
    path_begins (names ++ net ∷ []) (index_text range offset) rest (names_and names net are is)
    (sym (front_is_path names net (index_text range offset)) ∙ same)

pub pin_text_no_tie : (names : List (List ℕ)) (port : List ℕ) (range : Option Range) (offset : ℕ) (rest : List ℕ)
    → AreNames names → pin_text names port range offset ≡ 61 ∷ rest → ⊥
pin_text_no_tie names port range offset rest are same =
    path_begins names (46 ∷ spell port ++ index_text range offset) rest are same

index_small : (range : Range) (a : ℕ) → range.left < 2 ^ 32 → range.right < 2 ^ 32
    → a < (range.left - range.right) + (range.right - range.left) + 1 → index_of range a < 2 ^ 64
index_small range a left right within = grind arith

index_injective : (range : Range) (a b : ℕ) → a < (range.left - range.right) + (range.right - range.left) + 1
    → b < (range.left - range.right) + (range.right - range.left) + 1 → index_of range a ≡ index_of range b → a ≡ b
index_injective range a b in_a in_b same = grind arith

-- within a range no two offsets have one index
pub index_text_injective : (range : Range) (a b : ℕ) → range.left < 2 ^ 32 → range.right < 2 ^ 32
    → a < (range.left - range.right) + (range.right - range.left) + 1
    → b < (range.left - range.right) + (range.right - range.left) + 1
    → index_text (Some range) a ≡ index_text (Some range) b → a ≡ b
index_text_injective range a b left right in_a in_b same =
    let numbers : decimal (index_of range a) ≡ decimal (index_of range b) =
    append_cancel_right (decimal (index_of range a)) (decimal (index_of range b)) (93 ∷ []) (ap (drop 1) same) in
    index_injective range a b in_a in_b
    (decimal_injective (index_of range a) (index_of range b) (index_small range a left right in_a)
    (index_small range b left right in_b) numbers)
