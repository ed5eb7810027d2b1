use Rattle.std.proofs.Common.{◌∙◌, ap, Err}
use Rattle.emh_base.proofs.SpellLemmas.{Answers}
use Rattle.script_read.proofs.Naming.{names}
use Rattle.script_read.proofs.word.name_of.Goals as goal

pub returns-in-Ok : goal.returns-in-Ok
returns-in-Ok c =
    let answers : Answers c.args.word.now c.unspell.result = record { ok = c.unspell.ensures.ok; not_spelled = c.unspell.ensures.not_spelled; each_name = c.unspell.ensures.each_name } in
    rw c.in-Ok.is at (names c.args.word.now c.unspell.result answers).ok

pub returns-in-Err-NotSpelled : goal.returns-in-Err-NotSpelled
returns-in-Err-NotSpelled c =
    let answers : Answers c.args.word.now c.unspell.result = record { ok = c.unspell.ensures.ok; not_spelled = c.unspell.ensures.not_spelled; each_name = c.unspell.ensures.each_name } in
    (names c.args.word.now c.unspell.result answers).not_spelled (c.in-Err-NotSpelled.is ∙ ap (λ fault. Err fault) c.in-Err-NotSpelled.field-0-is)
