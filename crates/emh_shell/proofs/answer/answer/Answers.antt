use Rattle.std.proofs.Common.{rules}
use Rattle.emh_shell.proofs.Answering.{refused_closed, refused_in, accepted_in}
use Rattle.emh_shell.proofs.answer.answer.Goals as goal

pub returns-in_ok-text-in-None-clause-answers : goal.returns-in_ok-text-in-None-clause-answers
returns-in_ok-text-in-None-clause-answers g c =
    refused_closed _ _ _ c.args.progress.now _ c.in_ok-text-in-None.text (search rules) c.in_ok-text-in-None.ensures (search rules)

pub returns-in-Refused-clause-answers : goal.returns-in-Refused-clause-answers
returns-in-Refused-clause-answers g c =
    let told = rw c.in-Refused.is at c.in_ok-text-in-Some.ensures.tells in
    let same = told.1 in
    refused_in _ _ _ c.args.progress.now _ c.in-Refused.text c.in-Some.session (search rules) told.0 (search rules)

pub returns-in-Accepted-clause-answers : goal.returns-in-Accepted-clause-answers
returns-in-Accepted-clause-answers g c =
    let told = rw c.in-Accepted.is at c.in_ok-text-in-Some.ensures.tells in
    accepted_in _ _ _ c.args.progress.now _ c.in-Accepted.text c.in-Some.session c.answer_in.new.session (search rules) told (search rules)
