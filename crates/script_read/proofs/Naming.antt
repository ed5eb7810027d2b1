-- What `unspell` answers is the name that the word spells.
use Rattle.std.proofs.Common.{◌≡◌, ◌⊎◌, inl, inr, refl, sym, ◌∙◌, ap, subst, ℕ, true, false, List, [], ◌∷◌, ◌++◌, length, ◌+◌, ◌<◌, suc, get_or, drop, add-one, drop-cons, append_assoc, Option, Some, None, Result, Ok, Err, IfOk, nat_le, ◌&&◌}
use Rattle.std.specs.Prelude.{option_map}
use Rattle.std.specs.List.{list_all}
use Rattle.std.proofs.lemmas.Bool.{and_parts, and_from, le-leb, leb-true, both_ways, cases_Bool}
use Rattle.emh_base.specs.Name.{IsName, is_name_byte}
use Rattle.emh_base.specs.Text.{spell}
use Rattle.emh_base.specs.Spelling.{read_back}
use Rattle.emh_base.specs.declared.spelling.SpellFault.{SpellFault}
use Rattle.emh_base.specs.declared.spelling.SpellFault.TheVariants.{NotSpelled}
use Rattle.emh_base.proofs.SpellLemmas.{Answers, name_read, read_name}
use Rattle.script_read.specs.Word.{is_name, name_of, names_of}

pub is_name_true : (name : List ℕ) → IsName name → is_name name ≡ true
is_name_true name is =
    and_from (nat_le 1 (length name) && nat_le (length name) 1024) (list_all is_name_byte name)
    (and_from (nat_le 1 (length name)) (nat_le (length name) 1024) (le-leb _ _ is.some_byte) (le-leb _ _ is.within_limit)) is.printable

pub name_is : (name : List ℕ) → is_name name ≡ true → IsName name
name_is name is =
    let both = and_parts (nat_le 1 (length name) && nat_le (length name) 1024) (list_all is_name_byte name) is in
    let sizes = and_parts (nat_le 1 (length name)) (nat_le (length name) 1024) both.0 in
    record { some_byte = leb-true _ _ sizes.0; within_limit = leb-true _ _ sizes.1; printable = both.1 }

-- a name's spelled text reads as it
pub spelled_name : (name : List ℕ) → IsName name → name_of (spell name) ≡ Some name
spelled_name name is = rw (name_read name, is_name_true name is) refl

same_name : (word bytes name : List ℕ) → read_back true false word ≡ Some bytes → spell name ≡ word → bytes ≡ name
same_name word bytes name read spells =
    let both : Some bytes ≡ Some name = sym read ∙ ap (read_back true false) (sym spells) ∙ name_read name in cc

-- what the answer has to be, by what the word reads as
pub record Named (word : List ℕ) (result : Result (List ℕ) SpellFault) : Type 0 where
  pub ok : IfOk result (λ name. Some name ≡ name_of word)
  pub not_spelled : result ≡ Err NotSpelled → None ≡ name_of word

reads_none : (word : List ℕ) (result : Result (List ℕ) SpellFault) → Answers word result
    → ((name : List ℕ) → IsName name → spell name ≡ word → ⊥) → name_of word ≡ None → Named word result
reads_none word (Ok name) answers none is = absurd (let bad = answers.not_spelled.1 none in cc)
reads_none word (Err fault) answers none is = record { ok = tt; not_spelled = λ same. sym is }

reads_some : (word bytes : List ℕ) (result : Result (List ℕ) SpellFault) → Answers word result
    → IsName bytes → spell bytes ≡ word → name_of word ≡ Some bytes → Named word result
reads_some word bytes (Ok name) answers is spells reads =
    record { ok = let same = answers.each_name bytes is spells in cc; not_spelled = λ bad. absurd (cc) }
reads_some word bytes (Err fault) answers is spells reads =
    record { ok = tt; not_spelled = λ bad. absurd (let same = answers.each_name bytes is spells in cc) }

by_test : (word bytes : List ℕ) (result : Result (List ℕ) SpellFault) → Answers word result
    → read_back true false word ≡ Some bytes → (is_name bytes ≡ true) ⊎ (is_name bytes ≡ false) → Named word result
by_test word bytes result answers read (inl is) =
    reads_some word bytes result answers (name_is bytes is) (read_name word bytes read) (rw (read, is) refl)
by_test word bytes result answers read (inr isnt) =
    reads_none word result answers
    (λ name is spells. both_ways (is_name bytes) isnt
    (is_name_true bytes (subst IsName (sym (same_name word bytes name read spells)) is)))
    (rw (read, isnt) refl)

by_read : (word : List ℕ) (result : Result (List ℕ) SpellFault) → Answers word result
    → (read : Option (List ℕ)) → read_back true false word ≡ read → Named word result
by_read word result answers None read =
    reads_none word result answers
    (λ name is spells. let both : Some name ≡ None = sym (name_read name) ∙ ap (read_back true false) spells ∙ read in cc)
    (rw read refl)
by_read word result answers (Some bytes) read = by_test word bytes result answers read (cases_Bool (is_name bytes))

pub names : (word : List ℕ) (result : Result (List ℕ) SpellFault) → Answers word result → Named word result
names word result answers = by_read word result answers (read_back true false word) refl

-- a step of the walk over words that spell names
word_here : (words : List (List ℕ)) (at : ℕ) (word : List ℕ) → at < length words → word ≡ get_or words at word
    → drop at words ≡ word ∷ drop (at + 1) words
word_here words at word within here = rw (add-one, drop-cons words at word) (ap (λ x. x ∷ drop (suc at) words) (sym here))

joined : (front : List (List ℕ)) (name : List ℕ) (read : Option (List (List ℕ)))
    → option_map (λ names. front ++ names) (option_map (λ names. name ∷ names) read) ≡ option_map (λ names. (front ++ name ∷ []) ++ names) read
joined front name None = refl
joined front name (Some names) = ap (λ all. Some all) (sym (append_assoc front (name ∷ []) names))

pub walk_ends : (words : List (List ℕ)) (at : ℕ) (word : List ℕ) (front : List (List ℕ)) → at < length words → word ≡ get_or words at word
    → None ≡ name_of word → option_map (λ names. front ++ names) (names_of (drop at words)) ≡ names_of words → None ≡ names_of words
walk_ends words at word front within here none invariant =
    sym (rw (word_here words at word within here, ← none) refl) ∙ invariant

pub walk_goes_on : (words : List (List ℕ)) (at : ℕ) (word name : List ℕ) (front : List (List ℕ)) → at < length words → word ≡ get_or words at word
    → Some name ≡ name_of word → option_map (λ names. front ++ names) (names_of (drop at words)) ≡ names_of words
    → option_map (λ names. (front ++ name ∷ []) ++ names) (names_of (drop (at + 1) words)) ≡ names_of words
walk_goes_on words at word name front within here some invariant =
    sym (joined front name (names_of (drop (at + 1) words)))
    ∙ sym (rw (word_here words at word within here, ← some) refl) ∙ invariant
