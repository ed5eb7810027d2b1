use Rattle.emh_base.proofs.PoolLemmas.{names_differ}
use Rattle.emh_base.proofs.pool.Pool.len.Goals as goal

pub returns-clause-distinct : goal.returns-clause-distinct
returns-clause-distinct c = rw (← c.self.view_is) (names_differ (λ key. key.items) c.self.inside.names.entries c.len.ensures.unique)
