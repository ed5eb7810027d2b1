use Rattle.std.proofs.Common.{◌≡◌, ◌∷◌, ◌++◌, take, ◌+◌, map as mapped}
use Rattle.std.specs.VecDeque.{deque_len, deque_capacity}
use Rattle.timeline.specs.declared.steps.Step.TheVariants.{Mark, Write}
use Rattle.timeline.proofs.walk.seal.Given as goal

abbrev pub invariant-loop-swap : goal.invariant-loop-swap
invariant-loop-swap g l = record {
  items : l.past.items ≡ l.fn.past.items ++ Mark ∷ mapped Write (take l.swap-index l.swap-items);
  count : deque_len l.past ≡ deque_len l.initial.past + l.swap-index;
  capacity : deque_capacity l.past ≡ deque_capacity l.initial.past;
}
