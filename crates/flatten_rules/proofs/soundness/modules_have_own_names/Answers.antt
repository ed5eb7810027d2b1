use Rattle.std.proofs.lemmas.Bool.{false≢true}
use Rattle.flatten_rules.proofs.soundness.modules_have_own_names.Goals as goal

pub returns-then-not-branch : goal.returns-then-not-branch
returns-then-not-branch c =
    (λ yes. absurd (false≢true yes), λ distinct. absurd (c.in_ok-put_new.ensures.known c.if-not-branch.true (rw (c.new-names.ensures, c.as_slice.ensures) distinct)))
