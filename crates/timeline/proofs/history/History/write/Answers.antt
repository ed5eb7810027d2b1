use Rattle.std.proofs.Common.{refl, ap, sym, ◌∙◌}
use Rattle.std.specs.FinMap.{get}
use Rattle.timeline.specs.Maps.{put}
use Rattle.timeline.proofs.TimelineLemmas.{few_mentions, same_timeline}
use Rattle.timeline.proofs.history.History.write.Goals as goal

pub swap-swap-requires-clause-few : goal.swap-swap-requires-clause-few
swap-swap-requires-clause-few g c = few_mentions g.R.KeptRows.order _ c.args.self.now c.args.key c.requires.kept c.requires.spare

pub returns-clause-written : goal.returns-clause-written
returns-clause-written g c =
    let key = ap (λ e. e.key) c.swap-swap.ensures.swap in
    let live = g.R.KeptRows.live c.args.rows.now in
    c.note.ensures.written g.R.KeptRows.order g.met.R.KeptRows.ordered live (g.R.KeptRows.live c.swap-swap.new.self) (g.R.KeptRows.room c.args.rows.now) (g.R.KeptRows.room c.swap-swap.new.self) c.args.value
    (ap (λ e. e.value) c.swap-swap.ensures.swap ∙ ap (get live) (sym key))
    (c.swap-swap.ensures.live ∙ ap (λ k. put live k c.args.value) (sym key))
    ∙ same_timeline _ _ c.swap-swap.ensures.live refl refl refl refl refl c.swap-swap.ensures.room refl
