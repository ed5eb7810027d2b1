use Rattle.std.proofs.Common.{◌≡◌, ◌<◌, ◌≤◌, ◌∙◌, Some, ap, sym, subst, length, is_some, option_and_then}
use Rattle.std.specs.FinMap as map
use Rattle.emh_base.specs.declared.plain.PModule.{PModule}
use Rattle.flatten_rules.specs.Lookup.{module_of, net_of}
use Rattle.flatten_rules.specs.Changes.{net_in}
use Rattle.timeline.specs.Timeline.{Timeline}
use Rattle.undo_slots.specs.Slots.{Rows}
use Rattle.row_chains.proofs.PaysLemmas.{Pays-none}
use Rattle.mod_core.specs.declared.rows.NetRow.{NetRow}
use Rattle.flatten_rules.specs.NetChanges.{rename_net}
use Rattle.mod_core.specs.Mods.{name_at}
use Rattle.mod_core.specs.Mods.{KeptTable}
use Rattle.mod_core.specs.inside.Linked.{table_of, within_of, upper}
use Rattle.mod_core.proofs.KeptLemmas.{kept_paid}
use Rattle.mod_core.proofs.WholeLemmas.{whole_same}
use Rattle.mod_core.proofs.LookupLemmas.{live_key, found_module, live_net, found_net}
use Rattle.mod_core.proofs.EffectLemmas.{some_then}
use Rattle.mod_core.proofs.SetLemmas.{set_pays, spare_in, net_renamed}
use Rattle.mod_core.proofs.mods.Mods.rename_net.Goals as goal

pub unwrap-owner-requires : goal.unwrap-owner-requires
unwrap-owner-requires c =
    let i = c.self.inside in
    ap is_some c.find_under.ensures
    ∙ live_key i.names i.top (upper i.tops.now i.mods.now) i.nets.now (within_of i.names i.mods.now i.nets.now i.insts.now) c.self.invariant.all.now.good c.args.«module»
    (ap (λ (v : KeptTable). is_some (module_of v.table.now c.args.«module»)) c.self.view_is
    ∙ some_then (λ (holder : PModule). net_of holder c.args.net) (module_of c.args.self.now.table.now c.args.«module») c.requires.live)

pub unwrap-key-requires : goal.unwrap-key-requires
unwrap-key-requires c =
    let i = c.self.inside in
    let named = sym c.find_under.ensures ∙ c.unwrap-owner.ensures in
    let m = found_module i.names i.top (upper i.tops.now i.mods.now) i.nets.now (within_of i.names i.mods.now i.nets.now i.insts.now) c.self.invariant.all.now.good c.args.«module» c.unwrap-owner.result named in
    ap is_some c.find_under-2.ensures
    ∙ live_net i.names i.top (upper i.tops.now i.mods.now) i.nets.now (within_of i.names i.mods.now i.nets.now i.insts.now) c.self.invariant.all.now.good c.unwrap-owner.result m.row m.at c.args.net
    (ap is_some (sym (ap (option_and_then (λ (holder : PModule). net_of holder c.args.net)) m.shown))
    ∙ ap (λ (v : KeptTable). is_some (net_in v.table.now c.args.«module» c.args.net)) c.self.view_is ∙ c.requires.live)

pub unwrap-row-requires : goal.unwrap-row-requires
unwrap-row-requires c =
    let i = c.self.inside in
    let named = sym c.find_under.ensures ∙ c.unwrap-owner.ensures in
    let m = found_module i.names i.top (upper i.tops.now i.mods.now) i.nets.now (within_of i.names i.mods.now i.nets.now i.insts.now) c.self.invariant.all.now.good c.args.«module» c.unwrap-owner.result named in
    ap is_some c.get.ensures ∙ ap is_some (found_net i.names i.top (upper i.tops.now i.mods.now) i.nets.now (within_of i.names i.mods.now i.nets.now i.insts.now) c.self.invariant.all.now.good c.unwrap-owner.result m.row m.at c.args.net c.unwrap-key.result (sym c.find_under-2.ensures ∙ c.unwrap-key.ensures)).at

pub invariant_of-self : goal.invariant_of-self
invariant_of-self c =
    let i = c.self.inside in
    let g = c.self.invariant.all.now in
    let named = sym c.find_under.ensures ∙ c.unwrap-owner.ensures in
    let at : map.get i.nets.now c.unwrap-key.result ≡ Some c.unwrap-row.result = sym c.get.ensures ∙ c.unwrap-row.ensures in
    let few = subst (λ ns. c.args.name < length ns) (ap (λ (v : KeptTable). v.names) (sym c.self.view_is)) c.requires.name in
    let spare = subst (λ (v : KeptTable). 1 ≤ v.table.spare_writes) (sym c.self.view_is) c.requires.spare in
    kept_paid i.names i.top i.tops i.mods i.nets i.insts c.self.invariant i.tops i.mods c.set.new.self i.insts 0 0 1 0 (Pays-none i.tops) (Pays-none i.mods)
    (set_pays i.nets c.set.new.self _ (spare_in i.tops.spare_writes i.mods.spare_writes i.nets.spare_writes i.insts.spare_writes spare).1.0 c.set.ensures)
    (Pays-none i.insts) (whole_same i.names i.top (upper i.tops.now i.mods.now) i.nets.now i.insts.now g (rename_net (table_of i.names i.top (upper i.tops.now i.mods.now) i.nets.now (within_of i.names i.mods.now i.nets.now i.insts.now)) c.args.«module» c.args.net (name_at i.names c.args.name)) i.tops.now i.mods.now c.set.new.self.now (net_renamed i.names i.top i.tops.now i.mods.now i.nets.now (within_of i.names i.mods.now i.nets.now i.insts.now) g.good c.args.«module» c.unwrap-owner.result named c.args.net c.unwrap-key.result (sym c.find_under-2.ensures ∙ c.unwrap-key.ensures) c.set.new.self.now c.unwrap-row.result c.args.name at few (ap (λ (s : Timeline (Rows NetRow)). s.now) c.set.ensures))).good

pub returns-clause-table : goal.returns-clause-table
returns-clause-table c =
    let i = c.self.inside in
    let g = c.self.invariant.all.now in
    let named = sym c.find_under.ensures ∙ c.unwrap-owner.ensures in
    let at : map.get i.nets.now c.unwrap-key.result ≡ Some c.unwrap-row.result = sym c.get.ensures ∙ c.unwrap-row.ensures in
    let few = subst (λ ns. c.args.name < length ns) (ap (λ (v : KeptTable). v.names) (sym c.self.view_is)) c.requires.name in
    rw (← c.self.view_is)
    (whole_same i.names i.top (upper i.tops.now i.mods.now) i.nets.now i.insts.now g (rename_net (table_of i.names i.top (upper i.tops.now i.mods.now) i.nets.now (within_of i.names i.mods.now i.nets.now i.insts.now)) c.args.«module» c.args.net (name_at i.names c.args.name)) i.tops.now i.mods.now c.set.new.self.now (net_renamed i.names i.top i.tops.now i.mods.now i.nets.now (within_of i.names i.mods.now i.nets.now i.insts.now) g.good c.args.«module» c.unwrap-owner.result named c.args.net c.unwrap-key.result (sym c.find_under-2.ensures ∙ c.unwrap-key.ensures) c.set.new.self.now c.unwrap-row.result c.args.name at few (ap (λ (s : Timeline (Rows NetRow)). s.now) c.set.ensures))).table
