use Rattle.std.proofs.Common.{◌∙◌}
use Rattle.emh_base.proofs.PoolLemmas.{Added, added}
use Rattle.emh_base.proofs.pool.Pool.add.Goals as goal

result : (c : goal.Joined-branch-3) → Added (λ key. key.items) c.args.self.now c.args.name c.insert.new.self.entries
result c =
    added (λ key. key.items) c.in_ok-key.key c.self.inside.names.entries c.insert.new.self.entries c.args.self.now c.args.name
    c.self.view_is c.self.invariant (c.in_ok-key.ensures.items ∙ c.as_bytes.ensures.value) c.requires c.in_ok-insert.ensures.entries

pub invariant_of-self-2 : goal.invariant_of-self-2
invariant_of-self-2 c = (result c).paired

pub returns-clause-names : goal.returns-clause-names
returns-clause-names c = (result c).names_are
