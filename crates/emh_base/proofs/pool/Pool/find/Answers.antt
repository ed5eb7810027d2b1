use Rattle.std.proofs.Common.{◌∙◌, bytes_eq}
use Rattle.emh_base.proofs.PoolLemmas.{position_of_key}
use Rattle.emh_base.proofs.pool.Pool.find.Goals as goal

pub returns : goal.returns
returns c = rw (← c.self.view_is)
    (c.get_index_of.ensures.index ∙ position_of_key (λ key. key.items) (bytes_eq c.args.name.now) c.self.inside.names.entries)
