use Rattle.std.proofs.Common.{ap, sym, ◌∙◌, option_map, is_some}
use Rattle.std.specs.FinMap as map
use Rattle.timeline.specs.Timeline.{Timeline}
use Rattle.undo_slots.specs.Slots.{Rows}
use Rattle.row_chains.specs.Rows.{ends_in}
use Rattle.row_chains.proofs.LiveLemmas.{last_live, live_insert}
use Rattle.mod_core.specs.declared.rows.ModRow.{ModRow}
use Rattle.mod_core.specs.inside.Linked.{mod_rows, mod_holders}
use Rattle.mod_core.specs.inside.Changes.{new_module}
use Rattle.mod_core.proofs.modules.module_in.Goals as goal

pub append-requires-clause-last : goal.append-requires-clause-last
append-requires-clause-last c = λ k e.
    let held = ap (option_map mod_holders.ends_of) (sym c.get.ensures ∙ c.unwrap-root.ensures) in
    ap (λ (s : Timeline (Rows ModRow)). is_some (map.get s.now k)) c.add-key.ensures.added
    ∙ live_insert c.args.mods.now.now c.add-key.result (new_module c.args.top c.unwrap-root.result c.args.name) k (last_live mod_rows c.args.mods.now.now (ends_in mod_holders c.args.tops.now.now) c.requires.chains c.args.top c.unwrap-root.result.modules held k e)
