-- How many lines there are, and a step of the walk over them.
use Rattle.std.proofs.Common.{◌≡◌, ℕ, ◌+◌, ◌-◌, ◌==◌, ◌<◌, Bool, true, false, List, [], ◌∷◌, ◌++◌, take, drop, length, slice_index, get_or, Result, Ok, Err, refl, sym, ap, ◌∙◌, suc, arith, append_assoc, add-one, drop-cons}
use Rattle.std.specs.List.{count_by}
use Rattle.std.proofs.lemmas.List.{length_push, get_or_push}
use Rattle.std.proofs.lemmas.List.Splits.{length-slice_split}
use Rattle.std.proofs.Math.Seq.{take-append_seam}
use Rattle.script_read.specs.declared.command.Command.{Command}
use Rattle.script_read.specs.declared.lines.Line.{Line}
use Rattle.script_read.specs.declared.lines.Says.TheVariants.{Bad, Nothing, Asks}
use Rattle.script_read.specs.declared.lines.ScriptFault.{ScriptFault}
use Rattle.script_read.specs.declared.lines.ScriptFault.TheVariants.{BadLine}
use Rattle.script_read.specs.Script.{without_newline, lines_of, line_says, lines_from, with_front}

with_front-with_front : (front : List Line) (line : Line) (rest : Result (List Line) ScriptFault)
    → with_front front (with_front (line ∷ []) rest) ≡ with_front (front ++ line ∷ []) rest
with_front-with_front front line (Ok lines) = ap Ok (sym (append_assoc front (line ∷ []) lines))
with_front-with_front front line (Err fault) = refl

line-here : (lines : List (List ℕ)) (at : ℕ) (line : List ℕ) → at < length lines → line ≡ get_or lines at line
    → drop at lines ≡ line ∷ drop (at + 1) lines
line-here lines at line within here =
    rw (add-one, drop-cons lines at line) (ap (λ x. x ∷ drop (suc at) lines) (sym here))

-- a line outside the grammar is the script's first bad one
pub lines_from-stops : (lines : List (List ℕ)) (at : ℕ) (line : List ℕ) (front : List Line)
    → with_front front (lines_from (at + 1) (drop at lines)) ≡ lines_from 1 lines → at < length lines
    → line ≡ get_or lines at line → Bad ≡ line_says line → lines_from 1 lines ≡ Err (BadLine (at + 1))
lines_from-stops lines at line front h within here bad =
    sym h ∙ rw (line-here lines at line within here, ← bad) refl

-- one that is passed over adds nothing
pub lines_from-passes : (lines : List (List ℕ)) (at : ℕ) (line : List ℕ) (front : List Line)
    → with_front front (lines_from (at + 1) (drop at lines)) ≡ lines_from 1 lines → at < length lines
    → line ≡ get_or lines at line → Nothing ≡ line_says line
    → with_front front (lines_from (at + 1 + 1) (drop (at + 1) lines)) ≡ lines_from 1 lines
lines_from-passes lines at line front h within here nothing =
    sym (let step : lines_from (at + 1) (drop at lines) ≡ lines_from (at + 1 + 1) (drop (at + 1) lines) =
    rw (line-here lines at line within here, ← nothing) refl in
    ap (with_front front) step)
    ∙ h

-- and one that asks for a command stands behind those in front
pub lines_from-more : (lines : List (List ℕ)) (at : ℕ) (line : List ℕ) (front : List Line) (words : List (List ℕ))
    (command : Command) → with_front front (lines_from (at + 1) (drop at lines)) ≡ lines_from 1 lines
    → at < length lines → line ≡ get_or lines at line → Asks words command ≡ line_says line
    → with_front (front ++ (record { number = at + 1; words = words; command = command }) ∷ [])
    (lines_from (at + 1 + 1) (drop (at + 1) lines)) ≡ lines_from 1 lines
lines_from-more lines at line front words command h within here asks =
    let one : Line = record { number = at + 1; words = words; command = command } in
    let rest = lines_from (at + 1 + 1) (drop (at + 1) lines) in
    sym (with_front-with_front front one rest)
    ∙ sym (let step : lines_from (at + 1) (drop at lines) ≡ with_front (one ∷ []) rest =
    rw (line-here lines at line within here, ← asks) refl in
    ap (with_front front) step)
    ∙ h

abbrev ends_line : ℕ → Bool
ends_line byte = byte == 10

lines-of_text : (bytes : List ℕ) → 0 < length bytes
    → length (lines_of bytes) ≡ count_by ends_line (without_newline bytes) + 1
lines-of_text [] some = absurd (omega arith)
lines-of_text (byte ∷ bytes) some = length-slice_split ends_line (without_newline (byte ∷ bytes))

-- how many lines there are, by the newlines in the text before the last one
pub lines-ended : (bytes text : List ℕ) (last : ℕ) → bytes ≡ text ++ last ∷ [] → (last == 10) ≡ true
    → length (lines_of bytes) ≡ count_by ends_line text + 1
lines-ended bytes text last is ends =
    let all : length bytes ≡ length text + 1 = ap length is ∙ length_push text last in
    let end : length bytes - 1 ≡ length text = omega (arith, all) in
    let at : slice_index bytes (length bytes - 1) ≡ last =
    ap (λ (xs : List ℕ). slice_index xs (length bytes - 1)) is ∙ get_or_push text last 0 (length bytes - 1) (sym end) in
    let front : take (length bytes - 1) bytes ≡ text =
    ap (λ n. take n bytes) end ∙ ap (take (length text)) is ∙ take-append_seam text (last ∷ []) in
    let cut : without_newline bytes ≡ text = rw (at, ends) front in
    lines-of_text bytes (omega (arith, all)) ∙ ap (λ xs. count_by ends_line xs + 1) cut

pub lines-open : (bytes text : List ℕ) (last : ℕ) → bytes ≡ text ++ last ∷ [] → (last == 10) ≡ false
    → length (lines_of bytes) ≡ count_by ends_line bytes + 1
lines-open bytes text last is goes_on =
    let all : length bytes ≡ length text + 1 = ap length is ∙ length_push text last in
    let end : length bytes - 1 ≡ length text = omega (arith, all) in
    let at : slice_index bytes (length bytes - 1) ≡ last =
    ap (λ (xs : List ℕ). slice_index xs (length bytes - 1)) is ∙ get_or_push text last 0 (length bytes - 1) (sym end) in
    let whole : without_newline bytes ≡ bytes = rw (at, goes_on) refl in
    lines-of_text bytes (omega (arith, all)) ∙ ap (λ xs. count_by ends_line xs + 1) whole
