-- A step of the walk over words that say sources.
use Rattle.std.proofs.Common.{◌≡◌, refl, sym, ◌∙◌, ap, ℕ, ◌+◌, ◌<◌, suc, List, [], ◌∷◌, ◌++◌, length, get_or, drop, add-one, drop-cons, append_assoc, Option, Some, None, option_map}
use Rattle.script_read.specs.declared.command.BitWord.{BitWord}
use Rattle.script_read.specs.Word.{bit_of}
use Rattle.script_read.specs.Form.{bits_of}

word_here : (words : List (List ℕ)) (at : ℕ) (word : List ℕ) → at < length words → word ≡ get_or words at word
    → drop at words ≡ word ∷ drop (at + 1) words
word_here words at word within here = rw (add-one, drop-cons words at word) (ap (λ x. x ∷ drop (suc at) words) (sym here))

joined : (front : List BitWord) (bit : BitWord) (read : Option (List BitWord))
    → option_map (λ bits. front ++ bits) (option_map (λ bits. bit ∷ bits) read) ≡ option_map (λ bits. (front ++ bit ∷ []) ++ bits) read
joined front bit None = refl
joined front bit (Some bits) = ap (λ all. Some all) (sym (append_assoc front (bit ∷ []) bits))

pub sources_begin : (first : List ℕ) (words : List (List ℕ)) (bit : BitWord) → Some bit ≡ bit_of first
    → option_map (λ bits. (bit ∷ []) ++ bits) (bits_of words) ≡ bits_of (first ∷ words)
sources_begin first words bit some = rw (← some) refl

pub sources_end : (words : List (List ℕ)) (at : ℕ) (word : List ℕ) (front : List BitWord) (whole : Option (List BitWord)) → at < length words → word ≡ get_or words at word
    → None ≡ bit_of word → option_map (λ bits. front ++ bits) (bits_of (drop at words)) ≡ whole → None ≡ whole
sources_end words at word front whole within here none invariant =
    sym (rw (word_here words at word within here, ← none) refl) ∙ invariant

pub sources_go_on : (words : List (List ℕ)) (at : ℕ) (word : List ℕ) (bit : BitWord) (front : List BitWord) (whole : Option (List BitWord)) → at < length words → word ≡ get_or words at word
    → Some bit ≡ bit_of word → option_map (λ bits. front ++ bits) (bits_of (drop at words)) ≡ whole
    → option_map (λ bits. (front ++ bit ∷ []) ++ bits) (bits_of (drop (at + 1) words)) ≡ whole
sources_go_on words at word bit front whole within here some invariant =
    sym (joined front bit (bits_of (drop (at + 1) words)))
    ∙ sym (rw (word_here words at word within here, ← some) refl) ∙ invariant
