use Rattle.std.proofs.Common.{◌≡◌, ◌<◌, ◌≤◌, ◌∙◌, Some, ap, sym, subst, length, is_some}
use Rattle.std.specs.FinMap as map
use Rattle.timeline.specs.Timeline.{Timeline}
use Rattle.flatten_rules.specs.Lookup.{module_of}
use Rattle.undo_slots.specs.Slots.{Rows}
use Rattle.row_chains.proofs.PaysLemmas.{Pays-none}
use Rattle.mod_core.specs.declared.rows.ModRow.{ModRow}
use Rattle.flatten_rules.specs.ModuleChanges.{rename_module}
use Rattle.mod_core.specs.Mods.{name_at}
use Rattle.mod_core.specs.Mods.{KeptTable}
use Rattle.mod_core.specs.inside.Linked.{table_of, within_of, upper}
use Rattle.mod_core.proofs.KeptLemmas.{kept_paid}
use Rattle.mod_core.proofs.WholeLemmas.{whole_same}
use Rattle.mod_core.proofs.LookupLemmas.{live_key, found_module}
use Rattle.mod_core.proofs.SetLemmas.{set_pays, spare_in, module_renamed}
use Rattle.mod_core.proofs.mods.Mods.rename_module.Goals as goal

pub unwrap-key-requires : goal.unwrap-key-requires
unwrap-key-requires c =
    let i = c.self.inside in
    ap is_some c.find_under.ensures
    ∙ live_key i.names i.top (upper i.tops.now i.mods.now) i.nets.now (within_of i.names i.mods.now i.nets.now i.insts.now) c.self.invariant.all.now.good c.args.«module» (ap (λ (v : KeptTable). is_some (module_of v.table.now c.args.«module»)) c.self.view_is ∙ c.requires.live)

pub unwrap-row-requires : goal.unwrap-row-requires
unwrap-row-requires c =
    let i = c.self.inside in
    let named = sym c.find_under.ensures ∙ c.unwrap-key.ensures in
    ap is_some c.get.ensures ∙ ap is_some (found_module i.names i.top (upper i.tops.now i.mods.now) i.nets.now (within_of i.names i.mods.now i.nets.now i.insts.now) c.self.invariant.all.now.good c.args.«module» c.unwrap-key.result named).at

pub invariant_of-self : goal.invariant_of-self
invariant_of-self c =
    let i = c.self.inside in
    let g = c.self.invariant.all.now in
    let named = sym c.find_under.ensures ∙ c.unwrap-key.ensures in
    let at : map.get i.mods.now c.unwrap-key.result ≡ Some c.unwrap-row.result = sym c.get.ensures ∙ c.unwrap-row.ensures in
    let few = subst (λ ns. c.args.name < length ns) (ap (λ (v : KeptTable). v.names) (sym c.self.view_is)) c.requires.name in
    let spare = subst (λ (v : KeptTable). 1 ≤ v.table.spare_writes) (sym c.self.view_is) c.requires.spare in
    kept_paid i.names i.top i.tops i.mods i.nets i.insts c.self.invariant i.tops c.set.new.self i.nets i.insts 0 1 0 0 (Pays-none i.tops)
    (set_pays i.mods c.set.new.self _ (spare_in i.tops.spare_writes i.mods.spare_writes i.nets.spare_writes i.insts.spare_writes spare).0 c.set.ensures) (Pays-none i.nets)
    (Pays-none i.insts) (whole_same i.names i.top (upper i.tops.now i.mods.now) i.nets.now i.insts.now g (rename_module (table_of i.names i.top (upper i.tops.now i.mods.now) i.nets.now (within_of i.names i.mods.now i.nets.now i.insts.now)) c.args.«module» (name_at i.names c.args.name)) i.tops.now c.set.new.self.now i.nets.now (module_renamed i.names i.top i.tops.now i.mods.now i.nets.now (within_of i.names i.mods.now i.nets.now i.insts.now) g.good c.args.«module» c.unwrap-key.result named c.set.new.self.now c.unwrap-row.result at c.args.name few (ap (λ (s : Timeline (Rows ModRow)). s.now) c.set.ensures))).good

pub returns-clause-table : goal.returns-clause-table
returns-clause-table c =
    let i = c.self.inside in
    let g = c.self.invariant.all.now in
    let named = sym c.find_under.ensures ∙ c.unwrap-key.ensures in
    let at : map.get i.mods.now c.unwrap-key.result ≡ Some c.unwrap-row.result = sym c.get.ensures ∙ c.unwrap-row.ensures in
    let few = subst (λ ns. c.args.name < length ns) (ap (λ (v : KeptTable). v.names) (sym c.self.view_is)) c.requires.name in
    rw (← c.self.view_is)
    (whole_same i.names i.top (upper i.tops.now i.mods.now) i.nets.now i.insts.now g (rename_module (table_of i.names i.top (upper i.tops.now i.mods.now) i.nets.now (within_of i.names i.mods.now i.nets.now i.insts.now)) c.args.«module» (name_at i.names c.args.name)) i.tops.now c.set.new.self.now i.nets.now (module_renamed i.names i.top i.tops.now i.mods.now i.nets.now (within_of i.names i.mods.now i.nets.now i.insts.now) g.good c.args.«module» c.unwrap-key.result named c.set.new.self.now c.unwrap-row.result at c.args.name few (ap (λ (s : Timeline (Rows ModRow)). s.now) c.set.ensures))).table
