use Rattle.std.proofs.Common.{◌∙◌, arith}
use Rattle.timeline.proofs.StepLemmas.{steps_of-last, steps_of-mark, steps_of-write}
use Rattle.timeline.proofs.walk.release_all.Goals as goal

pub release-requires : goal.release-requires
release-requires g c =
    omega (arith, c.loop-step.invariant.mentions c.in-Write.swap.key, c.requires c.in-Write.swap.key, steps_of-last g.met.R.KeptRows.ordered c.loop-step.steps.items c.pop_back.new.self.items c.in-Some.step c.in-Write.swap c.in-Some.ensures.items c.in-Write.is)

pub loop-step-preserved-in-Write : goal.loop-step-preserved-in-Write
loop-step-preserved-in-Write g c =
    record {
      live = c.release.ensures.live ∙ c.loop-step.invariant.live;
      mentions = λ k. omega (arith, c.loop-step.invariant.mentions k, c.release.ensures.mentions k, steps_of-write g.R.KeptRows.order k c.loop-step.steps.items c.pop_back.new.self.items c.in-Some.step c.in-Write.swap c.in-Some.ensures.items c.in-Write.is);
      room = omega arith;
      steps_capacity = cc;
    }

pub loop-step-preserved : goal.loop-step-preserved
loop-step-preserved g c =
    record {
      live = c.loop-step.invariant.live;
      mentions = λ k. omega (arith, c.loop-step.invariant.mentions k, steps_of-mark g.R.KeptRows.order k c.loop-step.steps.items c.pop_back.new.self.items c.in-Some.step c.in-Some.ensures.items c.in_default-step.is);
      room = c.loop-step.invariant.room;
      steps_capacity = cc;
    }
