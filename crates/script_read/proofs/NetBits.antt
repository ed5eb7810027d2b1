-- A net bit is read from the pieces before the last and from the last.
use Rattle.std.proofs.Common.{◌≡◌, refl, sym, ap, List, [], ◌∷◌, ◌++◌, ℕ, append_assoc, append-nil, Option, Some, None, option_and_then}
use Rattle.std.proofs.Common.{Bor, ◌∙◌}
use Rattle.std.proofs.lemmas.List.{map-append}
use Rattle.emh_base.specs.declared.report.Kind.{Kind}
use Rattle.word_table.specs.Texts.{texts}
use Rattle.script_read.specs.Word.{name_of, names_of, with_name, pieces, net_bit_in, net_bit_after}

-- what the last piece says at the instances that the names before it lead to
abbrev pub at_names : List (List ℕ) → List ℕ → List (List ℕ) → Option Kind
at_names path last names = net_bit_in (path ++ names) (pieces 91 last)

one_more : (path : List (List ℕ)) (last name : List ℕ) (names : Option (List (List ℕ)))
    → option_and_then (at_names (path ++ name ∷ []) last) names
    ≡ option_and_then (at_names path last) (with_name (Some name) names)
one_more path last name None = refl
one_more path last name (Some names) = ap (λ whole. net_bit_in whole (pieces 91 last)) (append_assoc path (name ∷ []) names)

step : (path : List (List ℕ)) (last : List ℕ) (words others : List (List ℕ)) (name : Option (List ℕ))
    → ((n : List ℕ) → net_bit_after (path ++ n ∷ []) others ≡ option_and_then (at_names (path ++ n ∷ []) last) (names_of words))
    → option_and_then (λ n. net_bit_after (path ++ n ∷ []) others) name
    ≡ option_and_then (at_names path last) (with_name name (names_of words))
step path last words others None same = refl
step path last words others (Some name) same = rw (same name) (one_more path last name (names_of words))

pub by_last : (path front : List (List ℕ)) (last : List ℕ)
    → net_bit_after path (front ++ last ∷ []) ≡ option_and_then (at_names path last) (names_of front)
by_last path [] last = ap (λ whole. net_bit_in whole (pieces 91 last)) (sym (append-nil path))
by_last path (word ∷ []) last =
    step path last [] (last ∷ []) (name_of word) (λ n. by_last (path ++ n ∷ []) [] last)
by_last path (word ∷ other ∷ front) last =
    step path last (other ∷ front) (other ∷ (front ++ last ∷ [])) (name_of word)
    (λ n. by_last (path ++ n ∷ []) (other ∷ front) last)

texts_last : (words front : List (Bor (List ℕ))) (last : Bor (List ℕ)) → words ≡ front ++ last ∷ []
    → texts words ≡ texts front ++ last.now ∷ []
texts_last words front last is = ap texts is ∙ map-append (λ (word : Bor (List ℕ)). word.now) front (last ∷ [])

pub by_pieces : (words front : List (Bor (List ℕ))) (last : Bor (List ℕ)) (path : Option (List (List ℕ)))
    → words ≡ front ++ last ∷ [] → path ≡ names_of (texts front)
    → option_and_then (at_names [] last.now) path ≡ net_bit_after [] (texts words)
by_pieces words front last path is named =
    ap (option_and_then (at_names [] last.now)) named
    ∙ sym (ap (net_bit_after []) (texts_last words front last is) ∙ by_last [] (texts front) last.now)
