use Rattle.std.proofs.Common.{ap, sym, ◌∙◌, Some, option_map, is_some}
use Rattle.std.specs.FinMap as map
use Rattle.timeline.specs.Timeline.{Timeline}
use Rattle.undo_slots.specs.Slots.{Rows}
use Rattle.row_chains.specs.Rows.{ends_in}
use Rattle.row_chains.proofs.LiveLemmas.{last_live, live_insert}
use Rattle.mod_core.specs.declared.rows.NetRow.{NetRow}
use Rattle.mod_core.specs.inside.Linked.{port_rows, port_holders}
use Rattle.mod_core.specs.inside.Changes.{new_port}
use Rattle.mod_core.proofs.ports.port_in.Goals as goal

pub append-requires-clause-last : goal.append-requires-clause-last
append-requires-clause-last c = λ k e.
    let held = ap (option_map port_holders.ends_of) (sym c.get.ensures ∙ c.unwrap-row.ensures) in
    ap (λ (s : Timeline (Rows NetRow)). is_some (map.get s.now k)) c.set.ensures
    ∙ live_insert c.args.nets.now.now c.args.key (record c.unwrap-net.result { port = Some (new_port c.args.owner c.unwrap-row.result c.args.dir) }) k (last_live port_rows c.args.nets.now.now (ends_in port_holders c.args.mods.now.now) c.requires.chains c.args.owner c.unwrap-row.result.ports held k e)
