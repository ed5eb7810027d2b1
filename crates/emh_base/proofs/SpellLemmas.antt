-- A spelled name tells where it ends: what stands before a byte that ends it is read in one way only.
use Rattle.std.proofs.Common.{◌≡◌, refl, sym, ◌∙◌, ap, subst, ap₂, ℕ, ◌==◌, Bool, true, false, not, ◌&&◌, ◌||◌, if◌then◌else◌, List, [], ◌∷◌, ◌++◌, get_or, drop, flat_map, Option, Some, None, is_some, option_map, unwrap_or, Result, Ok, Err, IfOk, IfErr, MatchResult, ◌↔◌, ◌≤◌, length, IsTrue, eqb→eq, arith, rules, append_assoc, append-nil}
use Rattle.std.proofs.lemmas.Bool.{both_ways}
use Rattle.emh_base.specs.Text.{is_special, marked, spelled, spelled_first, spell}
use Rattle.emh_base.specs.Name.{IsName}
use Rattle.emh_base.specs.declared.spelling.SpellFault.{SpellFault}
use Rattle.emh_base.specs.declared.spelling.SpellFault.TheVariants.{NotSpelled, NoMemory}
use Rattle.emh_base.specs.Spelling.{needs_mark, read_back}

-- a byte that ends a spelled name: / [ .
abbrev pub ends_name : ℕ → Bool
ends_name byte = byte == 47 || byte == 91 || byte == 46

-- nothing, or a text that begins with a byte that ends a name
abbrev pub Stops : List ℕ → Type 0
Stops [] = Unit {0}
Stops (byte ∷ rest) = IsTrue (ends_name byte)

-- a byte that ends a name is marked within one
ends_special : (byte : ℕ) → is_special byte ≡ false → ends_name byte ≡ true → ⊥
ends_special byte plain ends = grind arith

-- the same, and a =, which is marked as a name's first byte
abbrev pub is_special_first : ℕ → Bool
is_special_first byte = is_special byte || byte == 61

plain_first : (byte : ℕ) → is_special_first byte ≡ false → is_special byte ≡ false
plain_first byte plain = grind arith

-- two texts that begin with a byte each, marked by one rule that marks the mark itself, begin with the same byte
same_byte : (mark : ℕ → Bool) → mark 92 ≡ true → (a b : ℕ) (x y : List ℕ) (p q : Bool) → mark a ≡ p → mark b ≡ q
    → marked p a ++ x ≡ marked q b ++ y → (a ≡ b) × (x ≡ y)
same_byte mark marks a b x y true true is is' same = (ap (λ text. get_or text 1 0) same, ap (drop 2) same)
same_byte mark marks a b x y false false is is' same = (ap (λ text. get_or text 0 0) same, ap (drop 1) same)
same_byte mark marks a b x y true false is is' same =
    let byte : 92 ≡ b = ap (λ text. get_or text 0 0) same in
    absurd (both_ways (mark b) is' (subst (λ c. mark c ≡ true) byte marks))
same_byte mark marks a b x y false true is is' same =
    let byte : a ≡ 92 = ap (λ text. get_or text 0 0) same in
    absurd (both_ways (mark a) is (subst (λ c. mark c ≡ true) (sym byte) marks))

filled : List ℕ → Bool
filled [] = false
filled (byte ∷ rest) = true

pub nothing_begins : (byte : ℕ) (rest : List ℕ) → byte ∷ rest ≡ [] → ⊥
unfolding filled
nothing_begins byte rest same = both_ways (filled []) refl (ap filled (sym same))

-- no spelled byte begins with a byte that ends a name
no_stop : (mark : ℕ → Bool) → ((c : ℕ) → mark c ≡ false → is_special c ≡ false) → (byte : ℕ) (x rest : List ℕ)
    → (p : Bool) → mark byte ≡ p → Stops rest → marked p byte ++ x ≡ rest → ⊥
no_stop mark marks byte x [] true is stops same = nothing_begins 92 (byte ∷ x) same
no_stop mark marks byte x [] false is stops same = nothing_begins byte x same
no_stop mark marks byte x (c ∷ rest) true is stops same =
    let first : 92 ≡ c = ap (λ text. get_or text 0 0) same in
    both_ways (ends_name 92) refl (subst (λ b. ends_name b ≡ true) (sym first) stops)
no_stop mark marks byte x (c ∷ rest) false is stops same =
    let first : byte ≡ c = ap (λ text. get_or text 0 0) same in
    ends_special byte (marks byte is) (subst (λ b. ends_name b ≡ true) (sym first) stops)

-- the same for the bytes of a name past its first
cancel_others : (m n r s : List ℕ) → Stops r → Stops s → flat_map spelled m ++ r ≡ flat_map spelled n ++ s
    → (m ≡ n) × (r ≡ s)
cancel_others [] [] r s stops stops' same = (refl, same)
cancel_others [] (b ∷ n) r s stops stops' same =
    absurd (no_stop is_special (λ c plain. plain) b (flat_map spelled n ++ s) r (is_special b) refl stops
    (sym (append_assoc (spelled b) (flat_map spelled n) s) ∙ sym same))
cancel_others (a ∷ m) [] r s stops stops' same =
    absurd (no_stop is_special (λ c plain. plain) a (flat_map spelled m ++ r) s (is_special a) refl stops'
    (sym (append_assoc (spelled a) (flat_map spelled m) r) ∙ same))
cancel_others (a ∷ m) (b ∷ n) r s stops stops' same =
    let front = same_byte is_special refl a b (flat_map spelled m ++ r) (flat_map spelled n ++ s) (is_special a)
    (is_special b) refl refl
    (sym (append_assoc (spelled a) (flat_map spelled m) r) ∙ same
    ∙ append_assoc (spelled b) (flat_map spelled n) s) in
    let rest = cancel_others m n r s stops stops' front.1 in
    (ap₂ (λ byte name. byte ∷ name) front.0 rest.0, rest.1)

-- two equal texts, each a spelled name and then nothing or a byte that ends it and more, have the same name, and the
-- same after it
pub cancel : (m n r s : List ℕ) → Stops r → Stops s → spell m ++ r ≡ spell n ++ s → (m ≡ n) × (r ≡ s)
cancel [] [] r s stops stops' same = (refl, same)
cancel [] (b ∷ n) r s stops stops' same =
    absurd (no_stop is_special_first plain_first b (flat_map spelled n ++ s) r (is_special_first b) refl stops
    (sym (append_assoc (spelled_first b) (flat_map spelled n) s) ∙ sym same))
cancel (a ∷ m) [] r s stops stops' same =
    absurd (no_stop is_special_first plain_first a (flat_map spelled m ++ r) s (is_special_first a) refl stops'
    (sym (append_assoc (spelled_first a) (flat_map spelled m) r) ∙ same))
cancel (a ∷ m) (b ∷ n) r s stops stops' same =
    let front = same_byte is_special_first refl a b (flat_map spelled m ++ r) (flat_map spelled n ++ s)
    (is_special_first a) (is_special_first b) refl refl
    (sym (append_assoc (spelled_first a) (flat_map spelled m) r) ∙ same
    ∙ append_assoc (spelled_first b) (flat_map spelled n) s) in
    let rest = cancel_others m n r s stops stops' front.1 in
    (ap₂ (λ byte name. byte ∷ name) front.0 rest.0, rest.1)

-- two names have different spelled texts
pub spell_injective : (m n : List ℕ) → spell m ≡ spell n → m ≡ n
spell_injective m n same = (cancel m n [] [] tt tt (append-nil (spell m) ∙ same ∙ sym (append-nil (spell n)))).0

no_first_by : (byte b : ℕ) (x rest : List ℕ) (p : Bool) → is_special_first byte ≡ p → is_special_first b ≡ true
    → (b == 92) ≡ false → marked p byte ++ x ≡ b ∷ rest → ⊥
no_first_by byte b x rest true is special unmarked same =
    let first : 92 ≡ b = ap (λ text. get_or text 0 0) same in
    both_ways (b == 92) unmarked (subst (λ c. (c == 92) ≡ true) first refl)
no_first_by byte b x rest false is special unmarked same =
    let first : byte ≡ b = ap (λ text. get_or text 0 0) same in
    both_ways (is_special_first b) (subst (λ c. is_special_first c ≡ false) first is) special

-- the spelled text of a name with a byte begins with none of / [ ] . and no =
pub no_first : (byte b : ℕ) (name x rest : List ℕ) → is_special_first b ≡ true → (b == 92) ≡ false
    → spell (byte ∷ name) ++ x ≡ b ∷ rest → ⊥
no_first byte b name x rest special unmarked same =
    no_first_by byte b (flat_map spelled name ++ x) rest (is_special_first byte) refl special unmarked
    (sym (append_assoc (spelled_first byte) (flat_map spelled name) x) ∙ same)

-- what is left to read, after what was read
abbrev pub with_front : List ℕ → Option (List ℕ) → Option (List ℕ)
with_front front None = None
with_front front (Some rest) = Some (front ++ rest)

-- the spelled text of bytes from a name's first one on, or of the bytes past it
abbrev spell_at : Bool → List ℕ → List ℕ
spell_at first [] = []
spell_at first (byte ∷ name) = marked (needs_mark first byte) byte ++ flat_map spelled name

or_false : (b : Bool) → (b || false) ≡ b
or_false true = refl
or_false false = refl

spell_past : (name : List ℕ) → spell_at false name ≡ flat_map spelled name
spell_past [] = refl
spell_past (byte ∷ name) = ap (λ mark. marked mark byte ++ flat_map spelled name) (or_false (is_special byte))

spell_first : (name : List ℕ) → spell_at true name ≡ spell name
spell_first [] = refl
spell_first (byte ∷ name) = refl

unmarked : (first : Bool) (byte : ℕ) → needs_mark first byte ≡ false → (byte == 92) ≡ false
unmarked first byte plain = grind arith

abbrev with_mark : Bool → List ℕ → List ℕ
with_mark true word = 92 ∷ word
with_mark false word = word

-- what one byte of a word does
abbrev read_byte : Bool → Bool → Bool → Bool → ℕ → List ℕ → Option (List ℕ)
read_byte first marked mark need byte rest =
    if not marked && mark then read_back first true rest
    else if (if need then marked else not marked) then option_map (λ name. byte ∷ name) (read_back false false rest)
    else None

some_same : {x y : List ℕ} → ◌≡◌ {A = Option (List ℕ)} (Some x) (Some y) → x ≡ y
some_same {x = x} same = ap (λ o. unwrap_or o x) same

none_some : {x : List ℕ} → ◌≡◌ {A = Option (List ℕ)} None (Some x) → ⊥
none_some same = both_ways (is_some {T = List ℕ} None) refl (ap is_some same)

-- a byte, and what the rest reads as
one_more : (byte : ℕ) (rest name : List ℕ) (read : Option (List ℕ))
    → ((others : List ℕ) → read ≡ Some others → rest ≡ flat_map spelled others)
    → option_map (λ others. byte ∷ others) read ≡ Some name
    → (others : List ℕ) × (name ≡ byte ∷ others) × (rest ≡ flat_map spelled others)
one_more byte rest name None is same = absurd (none_some same)
one_more byte rest name (Some others) is same = (others, sym (some_same same), is others refl)

read_step : (first marked mark need : Bool) (byte : ℕ) (rest name : List ℕ) → (byte == 92) ≡ mark
    → needs_mark first byte ≡ need
    → ((others : List ℕ) → read_back first true rest ≡ Some others → 92 ∷ rest ≡ spell_at first others)
    → ((others : List ℕ) → read_back false false rest ≡ Some others → rest ≡ flat_map spelled others)
    → read_byte first marked mark need byte rest ≡ Some name
    → with_mark marked (byte ∷ rest) ≡ spell_at first name
read_step first false true need byte rest name is92 needs after past same =
    let byte_is : byte ≡ 92 = eqb→eq byte 92 (search (rules, is92)) in
    ap (λ b. b ∷ rest) byte_is ∙ after name same
read_step first false false true byte rest name is92 needs after past same = absurd (none_some same)
read_step first false false false byte rest name is92 needs after past same =
    let (others, is, left) = one_more byte rest name (read_back false false rest) past same in
    rw (is, needs) (ap (λ text. byte ∷ text) left)
read_step first true mark true byte rest name is92 needs after past same =
    let (others, is, left) = one_more byte rest name (read_back false false rest) past same in
    rw (is, needs) (ap (λ text. 92 ∷ byte ∷ text) left)
read_step first true mark false byte rest name is92 needs after past same = absurd (none_some same)

-- what is read from a word spells it
read_spells : (first marked : Bool) (word name : List ℕ) → read_back first marked word ≡ Some name
    → with_mark marked word ≡ spell_at first name
read_spells first true [] name same = absurd (none_some same)
read_spells first false [] name same = ap (spell_at first) (some_same same)
read_spells first marked (byte ∷ rest) name same =
    read_step first marked (byte == 92) (needs_mark first byte) byte rest name refl refl
    (λ others read. read_spells first true rest others read)
    (λ others read. read_spells false false rest others read ∙ spell_past others) same

read_plain : (first mark need : Bool) (byte : ℕ) (rest name : List ℕ) → mark ≡ false → need ≡ false
    → read_back false false rest ≡ Some name → read_byte first false mark need byte rest ≡ Some (byte ∷ name)
read_plain first true need byte rest name mark needs read = absurd (both_ways true mark refl)
read_plain first false true byte rest name mark needs read = absurd (both_ways true needs refl)
read_plain first false false byte rest name mark needs read = ap (λ o. option_map (λ others. byte ∷ others) o) read

read_marked : (first mark need : Bool) (byte : ℕ) (rest name : List ℕ) → need ≡ true
    → read_back false false rest ≡ Some name → read_byte first true mark need byte rest ≡ Some (byte ∷ name)
read_marked first mark false byte rest name needs read = absurd (both_ways false refl needs)
read_marked first mark true byte rest name needs read = ap (λ o. option_map (λ others. byte ∷ others) o) read

spelled_step : (first : Bool) (byte : ℕ) (name : List ℕ) (need : Bool) → needs_mark first byte ≡ need
    → read_back false false (flat_map spelled name) ≡ Some name
    → read_back first false (marked need byte ++ flat_map spelled name) ≡ Some (byte ∷ name)
spelled_step first byte name true needs others =
    read_marked first (byte == 92) (needs_mark first byte) byte (flat_map spelled name) name needs others
spelled_step first byte name false needs others =
    read_plain first (byte == 92) (needs_mark first byte) byte (flat_map spelled name) name (unmarked first byte needs)
    needs others

-- a spelled text is read
spelled_reads : (first : Bool) (name : List ℕ) → read_back first false (spell_at first name) ≡ Some name
spelled_reads first [] = refl
spelled_reads first (byte ∷ name) =
    let others : read_back false false (flat_map spelled name) ≡ Some name =
    ap (read_back false false) (sym (spell_past name)) ∙ spelled_reads false name in
    spelled_step first byte name (needs_mark first byte) refl others

pub read_name : (word name : List ℕ) → read_back true false word ≡ Some name → spell name ≡ word
read_name word name read = sym (read_spells true false word name read ∙ spell_first name)

pub name_read : (name : List ℕ) → read_back true false (spell name) ≡ Some name
name_read name = ap (read_back true false) (sym (spell_first name)) ∙ spelled_reads true name

-- what `unspell` has to answer for a word that reads as these bytes
pub record Answers (word : List ℕ) (result : Result (List ℕ) SpellFault) : Type 0 where
  pub ok : IfOk result (λ name. spell name ≡ word)
  pub not_spelled : (result ≡ Err NotSpelled) ↔ ((name : List ℕ) → IsName name → spell name ≡ word → ⊥)
  pub each_name : (name : List ℕ) → IsName name → spell name ≡ word
      → MatchResult result (λ made. made ≡ name) (λ fault. fault ≡ NoMemory)

read_once : (word bytes name : List ℕ) → read_back true false word ≡ Some bytes → spell name ≡ word → bytes ≡ name
read_once word bytes name read spells =
    some_same (sym read ∙ ap (read_back true false) (sym spells) ∙ name_read name)

is_ok_result : Result (List ℕ) SpellFault → Bool
is_ok_result (Ok name) = true
is_ok_result (Err fault) = false

fault_or : SpellFault → Result (List ℕ) SpellFault → SpellFault
fault_or other (Ok name) = other
fault_or other (Err fault) = fault

is_memory : SpellFault → Bool
is_memory NotSpelled = false
is_memory NoMemory = true

pub answers : (word bytes : List ℕ) (result : Result (List ℕ) SpellFault) → read_back true false word ≡ Some bytes
    → IfOk result (λ name. name ≡ bytes) → IfOk result IsName
    → IfErr result (λ fault. (fault ≡ NoMemory) ↔ IsName bytes) → Answers word result
unfolding is_ok_result fault_or is_memory
answers word bytes (Ok name) read is named err =
    let spells : spell name ≡ word = read_name word name (read ∙ ap (λ b. Some b) (sym is)) in
    record {
      ok = spells;
      not_spelled = (
        λ same. absurd (both_ways true (ap is_ok_result same) refl),
        λ none. absurd (none name named spells),
      );
      each_name = λ other also spelled. is ∙ read_once word bytes other read spelled;
    }
answers word bytes (Err NotSpelled) read is named err = record {
  ok = tt;
  not_spelled = (
    λ same other also spelled.
        both_ways (is_memory NotSpelled) refl
        (ap is_memory (err.1 (subst IsName (sym (read_once word bytes other read spelled)) also))),
    λ none. refl,
  );
  each_name = λ other also spelled. err.1 (subst IsName (sym (read_once word bytes other read spelled)) also);
}
answers word bytes (Err NoMemory) read is named err = record {
  ok = tt;
  not_spelled = (
    λ same. absurd (both_ways (is_memory NotSpelled) refl (ap (λ r. is_memory (fault_or NoMemory r)) (sym same))),
    λ none. absurd (none bytes (err.0 refl) (read_name word bytes read)),
  );
  each_name = λ other also spelled. refl;
}

none_reads : (word : List ℕ) → ((name : List ℕ) → length name ≤ 1024 → read_back true false word ≡ Some name → ⊥)
    → (name : List ℕ) → IsName name → spell name ≡ word → ⊥
none_reads word none name is spells =
    none name is.within_limit (ap (read_back true false) (sym spells) ∙ name_read name)

-- and for one that reads as no name
pub answers_none : (word : List ℕ)
    → ((name : List ℕ) → length name ≤ 1024 → read_back true false word ≡ Some name → ⊥) → Answers word (Err NotSpelled)
answers_none word none = record {
  ok = tt;
  not_spelled = (λ same name is spells. none_reads word none name is spells, λ empty. refl);
  each_name = λ name is spells. absurd (none_reads word none name is spells);
}
