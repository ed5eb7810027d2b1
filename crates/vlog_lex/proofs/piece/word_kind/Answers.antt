use Rattle.std.proofs.Common.{refl, Some, None}
use Rattle.word_table.specs.Reserved.{reserved_texts}
use Rattle.vlog_lex.proofs.Rows.{position_is}
use Rattle.vlog_lex.proofs.piece.word_kind.Goals as goal

pub returns-in-Some : goal.returns-in-Some
returns-in-Some c =
    let tells = rw c.reserved_words.ensures at c.in-Some.ensures.row in
    rw (position_is reserved_texts c.args.text.now (Some c.in-Some.row) tells) refl

pub returns-in-None : goal.returns-in-None
returns-in-None c =
    let tells = rw c.reserved_words.ensures at c.in-None.ensures.row in
    rw (position_is reserved_texts c.args.text.now None tells, c.new-in-None.ensures) refl
