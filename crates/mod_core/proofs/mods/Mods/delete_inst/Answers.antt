use Rattle.std.proofs.Common.{◌∙◌, ap, sym, is_some}
use Rattle.emh_base.specs.declared.plain.PModule.{PModule}
use Rattle.flatten_rules.specs.Lookup.{module_of, inst_of}
use Rattle.flatten_rules.specs.Changes.{inst_in}
use Rattle.row_chains.proofs.PaysLemmas.{Pays-none}
use Rattle.mod_core.specs.Mods.{KeptTable}
use Rattle.mod_core.specs.inside.Linked.{within_of, upper}
use Rattle.mod_core.proofs.KeptLemmas.{kept_paid}
use Rattle.mod_core.proofs.LookupLemmas.{live_key}
use Rattle.mod_core.proofs.EffectLemmas.{some_then}
use Rattle.mod_core.proofs.InstEffectLemmas.{live_inst, found_inst, inst_gone}
use Rattle.mod_core.proofs.mods.Mods.delete_inst.Goals as goal

pub unwrap-owner-requires : goal.unwrap-owner-requires
unwrap-owner-requires c =
    let i = c.self.inside in
    let g = c.self.invariant.all.now in
    ap is_some c.find_under.ensures
    ∙ live_key i.names i.top (upper i.tops.now i.mods.now) i.nets.now (within_of i.names i.mods.now i.nets.now i.insts.now) g.good c.args.«module»
    (ap (λ (v : KeptTable). is_some (module_of v.table.now c.args.«module»)) c.self.view_is
    ∙ some_then (λ (holder : PModule). inst_of holder c.args.inst) (module_of c.args.self.now.table.now c.args.«module») c.requires.live)

pub unwrap-key-requires : goal.unwrap-key-requires
unwrap-key-requires c =
    let i = c.self.inside in
    let g = c.self.invariant.all.now in
    let named = sym c.find_under.ensures ∙ c.unwrap-owner.ensures in
    ap is_some c.find_under-2.ensures
    ∙ live_inst i.names i.top i.tops.now i.mods.now i.nets.now i.insts.now g c.args.«module» c.unwrap-owner.result named c.args.inst
    (ap (λ (v : KeptTable). is_some (inst_in v.table.now c.args.«module» c.args.inst)) c.self.view_is ∙ c.requires.live)

pub inst_out-requires-clause-live : goal.inst_out-requires-clause-live
inst_out-requires-clause-live c =
    let i = c.self.inside in
    let g = c.self.invariant.all.now in
    let named = sym c.find_under.ensures ∙ c.unwrap-owner.ensures in
    let keyed = sym c.find_under-2.ensures ∙ c.unwrap-key.ensures in
    ap is_some (found_inst i.names i.top i.tops.now i.mods.now i.nets.now i.insts.now g c.args.«module» c.unwrap-owner.result named c.args.inst c.unwrap-key.result keyed).at

pub invariant_of-self : goal.invariant_of-self
invariant_of-self c =
    let i = c.self.inside in
    let g = c.self.invariant.all.now in
    let named = sym c.find_under.ensures ∙ c.unwrap-owner.ensures in
    let keyed = sym c.find_under-2.ensures ∙ c.unwrap-key.ensures in
    kept_paid i.names i.top i.tops i.mods i.nets i.insts c.self.invariant i.tops c.inst_out.new.mods i.nets c.inst_out.new.insts 0 2 0 5 (Pays-none i.tops) c.inst_out.ensures.mods_pay (Pays-none i.nets) c.inst_out.ensures.insts_pay
    (inst_gone i.names i.top i.tops.now i.mods.now i.nets.now i.insts.now g c.args.«module» c.unwrap-owner.result named c.args.inst c.unwrap-key.result keyed c.inst_out.new.mods.now c.inst_out.new.insts.now c.inst_out.ensures.effect).good

pub returns-clause-table : goal.returns-clause-table
returns-clause-table c =
    let i = c.self.inside in
    let g = c.self.invariant.all.now in
    let named = sym c.find_under.ensures ∙ c.unwrap-owner.ensures in
    let keyed = sym c.find_under-2.ensures ∙ c.unwrap-key.ensures in
    rw (← c.self.view_is) (inst_gone i.names i.top i.tops.now i.mods.now i.nets.now i.insts.now g c.args.«module» c.unwrap-owner.result named c.args.inst c.unwrap-key.result keyed c.inst_out.new.mods.now c.inst_out.new.insts.now c.inst_out.ensures.effect).table
