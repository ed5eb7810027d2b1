use Rattle.std.proofs.Common.{sym, ◌∙◌}
use Rattle.timeline.proofs.StepLemmas.{length-moments}
use Rattle.timeline.proofs.history.History.past_len.Goals as goal

pub returns : goal.returns
returns g c = λ R mentions kept m. kept.past_counted ∙ sym (length-moments c.args.self.now.past.items m)
