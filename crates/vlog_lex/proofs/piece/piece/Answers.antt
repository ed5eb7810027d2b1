use Rattle.std.proofs.Common.{refl, sym, Err}
use Rattle.vlog_lex.specs.declared.case.Case.TheVariants as case
use Rattle.vlog_lex.specs.declared.token.LexFault.TheVariants as fault
use Rattle.vlog_lex.proofs.Finding.{by_rule}
use Rattle.vlog_lex.proofs.piece.piece.Goals as goal

pub returns-in-BlockComment : goal.returns-in-BlockComment
returns-in-BlockComment c =
    let applies = rw c.byte_at.ensures at (sym c.in-BlockComment.ensures) in
    by_rule case.BlockComment c.args.bytes.now c.args.at c.requires.place applies _ c.block_comment.ensures

pub returns-in-Attribute : goal.returns-in-Attribute
returns-in-Attribute c =
    let applies = rw c.byte_at.ensures at (sym c.in-Attribute.ensures) in
    by_rule case.Attribute c.args.bytes.now c.args.at c.requires.place applies _ c.attribute.ensures

pub returns-in-Directive : goal.returns-in-Directive
returns-in-Directive c =
    let applies = rw c.byte_at.ensures at (sym c.in-Directive.ensures) in
    by_rule case.Directive c.args.bytes.now c.args.at c.requires.place applies _ c.directive.ensures

pub returns-in-Escaped : goal.returns-in-Escaped
returns-in-Escaped c =
    let applies = rw c.byte_at.ensures at (sym c.in-Escaped.ensures) in
    by_rule case.Escaped c.args.bytes.now c.args.at c.requires.place applies _ c.escaped.ensures

pub returns-in-Word : goal.returns-in-Word
returns-in-Word c =
    let applies = rw c.byte_at.ensures at (sym c.in-Word.ensures) in
    by_rule case.Word c.args.bytes.now c.args.at c.requires.place applies _ c.word.ensures

pub returns-in-Number : goal.returns-in-Number
returns-in-Number c =
    let applies = rw c.byte_at.ensures at (sym c.in-Number.ensures) in
    by_rule case.Number c.args.bytes.now c.args.at c.requires.place applies _ c.number.ensures

pub returns-in-Apostrophe : goal.returns-in-Apostrophe
returns-in-Apostrophe c =
    let applies = rw c.byte_at.ensures at (sym c.in-Apostrophe.ensures) in
    by_rule case.Apostrophe c.args.bytes.now c.args.at c.requires.place applies (Err (fault.BadLiteral c.args.at))
    (c.args.at, (refl, refl))

pub returns-in-Unfit : goal.returns-in-Unfit
returns-in-Unfit c =
    let applies = rw c.byte_at.ensures at (sym c.in-Unfit.ensures) in
    by_rule case.Unfit c.args.bytes.now c.args.at c.requires.place applies (Err (fault.BadByte c.args.at))
    (c.args.at, (refl, refl))
