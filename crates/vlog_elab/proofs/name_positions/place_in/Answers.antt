use Rattle.std.proofs.Common.{arith}
use Rattle.std.specs.BTreeMap.Entry.{map_with_value}
use Rattle.std.proofs.lemmas.Map.Text.{btree_map_updates_str}
use Rattle.vlog_elab.proofs.name_positions.place_in.Goals as goal

pub returns-in-Ok-clause-ok : goal.returns-in-Ok-clause-ok
returns-in-Ok-clause-ok c = λ q.
    let sets = btree_map_updates_str c.args.name.now c.args.places.now (map_with_value c.in-Ok.entry c.or_insert.result.now) _ (c.in-Ok.ensures.update.0 c.or_insert.result.now) in
    grind (arith, sets q)
