-- What a step in the open session tells, and what is so after it.
use Rattle.std.specs.Prelude.{◌≡◌}
use Rattle.session_rules.specs.Session.{PlainSession}
use Rattle.emh_shell.specs.Answers.{Answer, Refuses, Accepts}
use Rattle.emh_shell.specs.declared.answer.Told.{Told}
use Rattle.emh_shell.specs.declared.answer.Told.TheVariants.{Refused, Accepted}

-- an answer that there is, and a refused line leaves the session as it was
abbrev pub Tells : (PlainSession → Answer → Type 0) → PlainSession → Told → PlainSession → Type 0
Tells Has old (Refused text) new = Has old (Refuses text) × (new ≡ old)
Tells Has old (Accepted text) new = Has old (Accepts text new)
