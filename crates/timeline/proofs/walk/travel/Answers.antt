use Rattle.std.proofs.Common.{refl, arith, ◌∷◌, [], length-append, subst}
use Rattle.timeline.specs.Steps.{BeginsWithMark}
use Rattle.timeline.specs.declared.steps.Step.TheVariants.{Write}
use Rattle.timeline.proofs.StepLemmas.{steps_of-last, steps_of-mark, steps_of-write, Travels-step, Travels-stop, BeginsWithMark-front, BeginsWithMark-push}
use Rattle.timeline.proofs.walk.travel.Goals as goal

pub returns-in-Mark-clause-moves : goal.returns-in-Mark-clause-moves
returns-in-Mark-clause-moves g c = Travels-stop _ _ _ _ _ c.loop-step.from.items _ _ c.in-Some.step c.loop-step.invariant.travels c.push_back_reserved.ensures.items c.in-Some.ensures.items c.in-Mark.is

pub returns-in-Mark-clause-steps : goal.returns-in-Mark-clause-steps
returns-in-Mark-clause-steps g c = λ k. omega (arith, c.loop-step.invariant.steps k, steps_of-mark g.R.KeptRows.order k c.loop-step.from.items c.pop_back.new.self.items c.in-Some.step c.in-Some.ensures.items c.in-Mark.is, steps_of-mark g.R.KeptRows.order k c.push_back_reserved.new.self.items c.args.to.now.items _ c.push_back_reserved.ensures.items refl)

pub exchange-value-requires : goal.exchange-value-requires
exchange-value-requires g c = omega (arith, c.loop-step.invariant.mentions c.in-Write.swap.key, c.loop-step.invariant.left c.in-Write.swap.key, c.requires.counted c.in-Write.swap.key, steps_of-last g.met.R.KeptRows.ordered c.loop-step.from.items c.pop_back.new.self.items c.in-Some.step c.in-Write.swap c.in-Some.ensures.items c.in-Write.is)

pub loop-step-preserved : goal.loop-step-preserved
loop-step-preserved g c = record {
  travels = Travels-step g.met.R.KeptRows.ordered _ _ _ (g.R.KeptRows.live c.loop-step.rows) _ c.loop-step.from.items c.pop_back.new.self.items c.loop-step.to.items _ c.in-Some.step c.in-Write.swap c.exchange-value.result c.loop-step.invariant.travels c.in-Some.ensures.items c.in-Write.is c.exchange-value.ensures.before c.exchange-value.ensures.live c.push_back_reserved-in-Write.ensures.items;
  mentions = λ k. omega (arith, c.loop-step.invariant.mentions k, c.exchange-value.ensures.mentions k);
  steps = λ k. omega (arith, c.loop-step.invariant.steps k, steps_of-write g.R.KeptRows.order k c.loop-step.from.items c.pop_back.new.self.items c.in-Some.step c.in-Write.swap c.in-Some.ensures.items c.in-Write.is, steps_of-write g.R.KeptRows.order k _ c.loop-step.to.items _ _ c.push_back_reserved-in-Write.ensures.items refl);
  left = λ k. omega (arith, c.loop-step.invariant.left k, steps_of-write g.R.KeptRows.order k c.loop-step.from.items c.pop_back.new.self.items c.in-Some.step c.in-Write.swap c.in-Some.ensures.items c.in-Write.is);
  from_begins = BeginsWithMark-front c.pop_back.new.self.items (c.in-Some.step ∷ []) (subst BeginsWithMark c.in-Some.ensures.items c.loop-step.invariant.from_begins);
  to_begins = rw c.push_back_reserved-in-Write.ensures.items (BeginsWithMark-push c.loop-step.to.items _ c.loop-step.invariant.some c.loop-step.invariant.to_begins);
  some = rw c.push_back_reserved-in-Write.ensures.items (omega (arith, length-append c.loop-step.to.items (Write (record { key = c.in-Write.swap.key; value = c.exchange-value.result }) ∷ [])));
  room = cc;
  from_capacity = cc;
  to_capacity = cc;
}
