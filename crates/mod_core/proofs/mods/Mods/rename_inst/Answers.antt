use Rattle.std.proofs.Common.{◌≡◌, ◌<◌, ◌≤◌, ◌∙◌, Some, ap, sym, subst, length, is_some}
use Rattle.std.specs.FinMap as map
use Rattle.emh_base.specs.declared.plain.PModule.{PModule}
use Rattle.flatten_rules.specs.Lookup.{module_of, inst_of}
use Rattle.flatten_rules.specs.Changes.{inst_in}
use Rattle.timeline.specs.Timeline.{Timeline}
use Rattle.undo_slots.specs.Slots.{Rows}
use Rattle.row_chains.proofs.PaysLemmas.{Pays-none}
use Rattle.mod_core.specs.declared.rows.InstRow.{InstRow}
use Rattle.mod_core.specs.Mods.{KeptTable}
use Rattle.mod_core.specs.inside.Linked.{within_of, upper}
use Rattle.mod_core.proofs.KeptLemmas.{kept_paid}
use Rattle.mod_core.proofs.LookupLemmas.{live_key}
use Rattle.mod_core.proofs.EffectLemmas.{some_then}
use Rattle.mod_core.proofs.SetLemmas.{set_pays, spare_in}
use Rattle.mod_core.proofs.InstEffectLemmas.{live_inst, found_inst, inst_renamed}
use Rattle.mod_core.proofs.mods.Mods.rename_inst.Goals as goal

pub unwrap-owner-requires : goal.unwrap-owner-requires
unwrap-owner-requires c =
    let i = c.self.inside in
    let g = c.self.invariant.all.now in
    ap is_some c.find_under.ensures
    ∙ live_key i.names i.top (upper i.tops.now i.mods.now) i.nets.now (within_of i.names i.mods.now i.nets.now i.insts.now) g.good c.args.«module»
    (ap (λ (v : KeptTable). is_some (module_of v.table.now c.args.«module»)) c.self.view_is
    ∙ some_then (λ (holder : PModule). inst_of holder c.args.inst) (module_of c.args.self.now.table.now c.args.«module») c.requires.live)

pub unwrap-key-requires : goal.unwrap-key-requires
unwrap-key-requires c =
    let i = c.self.inside in
    let g = c.self.invariant.all.now in
    let named = sym c.find_under.ensures ∙ c.unwrap-owner.ensures in
    ap is_some c.find_under-2.ensures
    ∙ live_inst i.names i.top i.tops.now i.mods.now i.nets.now i.insts.now g c.args.«module» c.unwrap-owner.result named c.args.inst
    (ap (λ (v : KeptTable). is_some (inst_in v.table.now c.args.«module» c.args.inst)) c.self.view_is ∙ c.requires.live)

pub unwrap-row-requires : goal.unwrap-row-requires
unwrap-row-requires c =
    let i = c.self.inside in
    let g = c.self.invariant.all.now in
    let named = sym c.find_under.ensures ∙ c.unwrap-owner.ensures in
    let keyed = sym c.find_under-2.ensures ∙ c.unwrap-key.ensures in
    ap is_some c.get.ensures ∙ ap is_some (found_inst i.names i.top i.tops.now i.mods.now i.nets.now i.insts.now g c.args.«module» c.unwrap-owner.result named c.args.inst c.unwrap-key.result keyed).at

pub invariant_of-self : goal.invariant_of-self
invariant_of-self c =
    let i = c.self.inside in
    let g = c.self.invariant.all.now in
    let named = sym c.find_under.ensures ∙ c.unwrap-owner.ensures in
    let keyed = sym c.find_under-2.ensures ∙ c.unwrap-key.ensures in
    let at : map.get i.insts.now c.unwrap-key.result ≡ Some c.unwrap-row.result = sym c.get.ensures ∙ c.unwrap-row.ensures in
    let few = subst (λ ns. c.args.name < length ns) (ap (λ (v : KeptTable). v.names) (sym c.self.view_is)) c.requires.name in
    let spare = subst (λ (v : KeptTable). 1 ≤ v.table.spare_writes) (sym c.self.view_is) c.requires.spare in
    kept_paid i.names i.top i.tops i.mods i.nets i.insts c.self.invariant i.tops i.mods i.nets c.set.new.self 0 0 0 1 (Pays-none i.tops) (Pays-none i.mods) (Pays-none i.nets)
    (set_pays i.insts c.set.new.self _ (spare_in i.tops.spare_writes i.mods.spare_writes i.nets.spare_writes i.insts.spare_writes spare).1.1 c.set.ensures)
    (inst_renamed i.names i.top i.tops.now i.mods.now i.nets.now i.insts.now g c.args.«module» c.unwrap-owner.result named c.args.inst c.unwrap-key.result keyed c.unwrap-row.result c.args.name c.set.new.self.now at few (ap (λ (s : Timeline (Rows InstRow)). s.now) c.set.ensures)).good

pub returns-clause-table : goal.returns-clause-table
returns-clause-table c =
    let i = c.self.inside in
    let g = c.self.invariant.all.now in
    let named = sym c.find_under.ensures ∙ c.unwrap-owner.ensures in
    let keyed = sym c.find_under-2.ensures ∙ c.unwrap-key.ensures in
    let at : map.get i.insts.now c.unwrap-key.result ≡ Some c.unwrap-row.result = sym c.get.ensures ∙ c.unwrap-row.ensures in
    let few = subst (λ ns. c.args.name < length ns) (ap (λ (v : KeptTable). v.names) (sym c.self.view_is)) c.requires.name in
    rw (← c.self.view_is) (inst_renamed i.names i.top i.tops.now i.mods.now i.nets.now i.insts.now g c.args.«module» c.unwrap-owner.result named c.args.inst c.unwrap-key.result keyed c.unwrap-row.result c.args.name c.set.new.self.now at few (ap (λ (s : Timeline (Rows InstRow)). s.now) c.set.ensures)).table
