use Rattle.flatten_rules.proofs.Following.{marked-none}
use Rattle.flatten_rules.proofs.reach.Reached.new.Goals as goal

pub invariant_of-result : goal.invariant_of-result
invariant_of-result c = rw c.new.ensures (marked-none c.args.nodes c.in_ok-vec.field-0.items (c.in_ok-vec.ensures.items_if_clones_equal (λ y e. e)))
