use Rattle.std.proofs.Common.{◌≡◌, true, length, reverse}
use Rattle.flatten_rules.specs.Design.{IsGood}
use Rattle.flatten_rules.specs.inside.Pending.{AreThere, pending_up, to_come}
use Rattle.flatten_rules.proofs.walk.occurrences.Walk.advance.Given as goal

-- The same is still to come from each occurrence on the way up.
abbrev pub invariant-loop-self : goal.invariant-loop-self
invariant-loop-self l = record {
  begun : l.self-inside.begun ≡ true;
  plain : l.self-inside.way.plain ≡ l.fn.self.plain;
  top : l.self-inside.way.top ≡ l.fn.self.top;
  good : IsGood l.fn.self.plain l.fn.self.top;
  there : AreThere l.fn.self.plain l.fn.self.top (pending_up l.self-inside.here.now l.self-inside.above.items) (reverse l.self-inside.way.path);
  rest : l.fn.self.rest ≡ to_come l.fn.self.plain (pending_up l.self-inside.here.now l.self-inside.above.items) (reverse l.self-inside.way.path);
}

abbrev pub decreases-loop-self : goal.decreases-loop-self
decreases-loop-self l = length l.self-inside.above.items
