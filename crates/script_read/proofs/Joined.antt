-- Texts joined by a byte.
use Rattle.std.proofs.Common.{◌≡◌, refl, sym, ◌∙◌, ap, ℕ, List, [], ◌∷◌, ◌++◌, map, codes, append_assoc, append-nil}
use Rattle.std.specs.List.{flat_map, join_with_byte}
use Rattle.emh_base.specs.Text.{spell, path_text}
use Rattle.script_read.specs.declared.command.BitWord.{BitWord}
use Rattle.script_read.specs.declared.command.Command.TheVariants as command
use Rattle.script_read.specs.Text.{bit_text}
use Rattle.script_read.specs.Script.{line_text}
use Rattle.script_read.specs.inside.Line.{bits_text, steps_text}

joined : (mark : ℕ) (first : List ℕ) (words : List (List ℕ))
    → join_with_byte mark (first ∷ words) ≡ first ++ flat_map (λ word. mark ∷ word) words
joined mark first [] = sym (append-nil first)
joined mark first (word ∷ words) = ap (λ rest. first ++ mark ∷ rest) (joined mark word words)

one_by_one : {X : Type 0} (mark : ℕ) (text : X → List ℕ) (xs : List X)
    → flat_map (λ word. mark ∷ word) (map text xs) ≡ flat_map (λ x. mark ∷ text x) xs
one_by_one mark text [] = refl
one_by_one mark text (x ∷ xs) = ap (λ rest. mark ∷ (text x ++ rest)) (one_by_one mark text xs)

-- a path is its first name, and each other behind a /
pub path_steps : (name : List ℕ) (names : List (List ℕ)) → path_text (name ∷ names) ≡ spell name ++ steps_text names
path_steps name names =
    joined 47 (spell name) (map spell names) ∙ ap (λ rest. spell name ++ rest) (one_by_one 47 spell names)

bits_behind : (first : List ℕ) (bits : List BitWord)
    → join_with_byte 32 (first ∷ (map bit_text bits ++ [])) ≡ first ++ bits_text bits
bits_behind first bits =
    ap (λ words. join_with_byte 32 (first ∷ words)) (append-nil (map bit_text bits))
    ∙ joined 32 first (map bit_text bits) ∙ ap (λ rest. first ++ rest) (one_by_one 32 bit_text bits)

-- the line of a connection, from its first four words and its sources
pub connect_line : (m i p line out : List ℕ) (bits : List BitWord)
    → line ≡ codes "connect" ++ 32 ∷ (spell m ++ 32 ∷ (spell i ++ 32 ∷ spell p)) → out ≡ line ++ bits_text bits
    → out ≡ line_text (command.Connect m i p bits)
connect_line m i p line out bits was is =
    is ∙ ap (λ front. front ++ bits_text bits) was
    ∙ ap (λ rest. codes "connect " ++ rest) (
    append_assoc (spell m) (32 ∷ (spell i ++ 32 ∷ spell p)) (bits_text bits)
    ∙ ap (λ rest. spell m ++ 32 ∷ rest) (
    append_assoc (spell i) (32 ∷ spell p) (bits_text bits)
    ∙ ap (λ rest. spell i ++ 32 ∷ rest) (sym (bits_behind (spell p) bits))))
