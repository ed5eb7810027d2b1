use Rattle.std.proofs.Common.{◌≡◌, [], refl, ap, length}
use Rattle.timeline.specs.Steps.{undo_swaps}
use Rattle.timeline.proofs.TimelineLemmas.{same_timeline}
use Rattle.timeline.proofs.history.History.begin.Goals as goal

pub returns-clause-begun : goal.returns-clause-begun
returns-clause-begun g c = λ R mentions kept live room.
    let none : c.args.self.now.swaps.items ≡ [] = kept.closed c.requires.closed in
    same_timeline _ _ refl refl refl refl (ap (λ swaps. undo_swaps swaps live) none) (ap length none) refl refl
