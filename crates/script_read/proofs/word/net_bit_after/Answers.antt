use Rattle.std.proofs.Common.{◌≡◌, ◌∙◌, sym, [], ◌∷◌, ◌++◌, Some, None, rules}
use Rattle.script_read.proofs.NetBits.{by_pieces}
use Rattle.script_read.proofs.word.net_bit_after.Goals as goal

pub returns-in-None-2 : goal.returns-in-None-2
returns-in-None-2 c =
    let words = c.args.words.now in
    let front = c.in-Some.front.now in
    let last = c.in-Some.last.now in
    let cut : words ≡ front ++ last ∷ [] = search rules in
    by_pieces words front last None cut (sym c.in-None-2.is ∙ c.in_ok-names_of-in-Some.ensures)

pub returns-in_ok-pieces_of_bit-in-Some-2 : goal.returns-in_ok-pieces_of_bit-in-Some-2
returns-in_ok-pieces_of_bit-in-Some-2 c =
    let words = c.args.words.now in
    let front = c.in-Some.front.now in
    let last = c.in-Some.last.now in
    let cut : words ≡ front ++ last ∷ [] = search rules in
    let whole = by_pieces words front last (Some c.in-Some-2.path) cut (sym c.in-Some-2.is ∙ c.in_ok-names_of-in-Some.ensures) in
    rw (← whole) (rw (c.as_slice.ensures.value, c.in_ok-pieces_of_bit-in-Some-2.ensures) at c.net_bit_in.ensures)
