use Rattle.std.proofs.Common.{ap, sym, ◌∙◌, arith}
use Rattle.timeline.specs.Steps.{undo_swaps, swaps_of}
use Rattle.timeline.proofs.StepLemmas.{swaps_of-last, swaps_of-push, undo_swaps-push}
use Rattle.timeline.proofs.walk.rewind.Goals as goal

pub exchange-requires : goal.exchange-requires
exchange-requires g c = omega (arith, c.loop-swap.invariant.mentions c.in-Some.swap.key, c.requires c.in-Some.swap.key, swaps_of-last g.met.R.KeptRows.ordered c.loop-swap.swaps.items c.pop.new.self.items c.in-Some.swap c.in-Some.ensures.items)

pub release-requires : goal.release-requires
release-requires g c = omega (arith, c.loop-swap.invariant.mentions c.in-Some.swap.key, c.requires c.in-Some.swap.key, swaps_of-last g.met.R.KeptRows.ordered c.loop-swap.swaps.items c.pop.new.self.items c.in-Some.swap c.in-Some.ensures.items, c.exchange.ensures.mentions c.in-Some.swap.key)

pub loop-swap-preserved : goal.loop-swap-preserved
loop-swap-preserved g c = record {
  live = ap (undo_swaps c.pop.new.self.items) (c.release.ensures.live ∙ c.exchange.ensures.live)
      ∙ sym (undo_swaps-push c.pop.new.self.items c.in-Some.swap (g.R.KeptRows.live c.loop-swap.rows))
      ∙ ap (λ es. undo_swaps es (g.R.KeptRows.live c.loop-swap.rows)) (sym c.in-Some.ensures.items)
      ∙ c.loop-swap.invariant.live;
  mentions = λ k. omega (arith, c.loop-swap.invariant.mentions k, c.exchange.ensures.mentions k, c.release.ensures.mentions k, ap (swaps_of g.R.KeptRows.order k) c.in-Some.ensures.items, swaps_of-push g.R.KeptRows.order k c.pop.new.self.items c.in-Some.swap);
  room = omega arith;
  swaps_capacity = cc;
}
