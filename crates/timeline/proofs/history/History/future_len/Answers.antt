use Rattle.std.proofs.Common.{sym, ◌∙◌}
use Rattle.timeline.proofs.StepLemmas.{length-moments}
use Rattle.timeline.proofs.history.History.future_len.Goals as goal

pub returns : goal.returns
returns g c = λ R mentions kept m. kept.future_counted ∙ sym (length-moments c.args.self.now.future.items m)
