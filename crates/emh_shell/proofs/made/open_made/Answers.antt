use Rattle.std.proofs.Common.{rules}
use Rattle.emh_shell.proofs.Making.{made_open, made_shut}
use Rattle.emh_shell.proofs.made.open_made.Goals as goal

pub returns-in-Ok-clause-answers : goal.returns-in-Ok-clause-answers
returns-in-Ok-clause-answers c =
    made_open _ _ _ _ _ _ _ _ (rw (c.in_ok-plain.ensures.made, c.in_ok-top.ensures, c.in-Ok.is) at c.in_ok-desk.ensures.opens) (search rules) (search rules)

pub returns-clause-answers : goal.returns-clause-answers
returns-clause-answers c =
    made_shut _ _ _ _ _ _ _ _ (rw (c.in_ok-plain.ensures.made, c.in_ok-top.ensures, c.in-Err.is) at c.in_ok-desk.ensures.opens) (search rules) (search rules)
