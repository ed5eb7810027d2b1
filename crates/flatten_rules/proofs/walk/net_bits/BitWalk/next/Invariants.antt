use Rattle.std.proofs.Common.{◌≡◌, length}
use Rattle.flatten_rules.specs.inside.Left.{AreLeft, bit_walking}
use Rattle.flatten_rules.proofs.walk.net_bits.BitWalk.next.Given as goal

-- The same bits are still to come.
abbrev pub invariant-loop-self : goal.invariant-loop-self
invariant-loop-self l = record {
  plain : l.self-inside.walk.plain ≡ l.fn.self.plain;
  top : l.self-inside.walk.top ≡ l.fn.self.top;
  left : AreLeft l.self-inside.walk l.self-inside.nets.now l.self-inside.offset;
  rest : l.fn.self.rest ≡ (bit_walking l.self-inside.walk l.self-inside.nets.now l.self-inside.offset).rest;
}

abbrev pub decreases-loop-self : goal.decreases-loop-self
decreases-loop-self l = length l.self-inside.walk.rest
