use Rattle.std.proofs.Common.{◌≡◌, ◌<◌, ◌∙◌, Some, ap, sym, subst, length, is_some}
use Rattle.std.specs.FinMap as map
use Rattle.flatten_rules.specs.Lookup.{module_of}
use Rattle.row_chains.proofs.KeyLemmas.{same_some}
use Rattle.row_chains.proofs.PaysLemmas.{Pays-none}
use Rattle.mod_core.specs.declared.rows.ModRow.{ModRow}
use Rattle.mod_core.specs.Mods.{KeptTable}
use Rattle.mod_core.specs.inside.Linked.{within_of, module_of_row, upper}
use Rattle.mod_core.proofs.KeptLemmas.{kept_paid}
use Rattle.mod_core.proofs.LookupLemmas.{live_key, found_module}
use Rattle.mod_core.proofs.InstEffectLemmas.{inst_made}
use Rattle.mod_core.proofs.mods.Mods.create_inst.Goals as goal

pub unwrap-owner-requires : goal.unwrap-owner-requires
unwrap-owner-requires c =
    let i = c.self.inside in
    let g = c.self.invariant.all.now in
    ap is_some c.find_under.ensures
    ∙ live_key i.names i.top (upper i.tops.now i.mods.now) i.nets.now (within_of i.names i.mods.now i.nets.now i.insts.now) g.good c.args.«module» (ap (λ (v : KeptTable). is_some (module_of v.table.now c.args.«module»)) c.self.view_is ∙ c.requires.live)

pub unwrap-user-requires : goal.unwrap-user-requires
unwrap-user-requires c =
    let i = c.self.inside in
    let g = c.self.invariant.all.now in
    ap is_some c.find_under-2.ensures
    ∙ live_key i.names i.top (upper i.tops.now i.mods.now) i.nets.now (within_of i.names i.mods.now i.nets.now i.insts.now) g.good c.args.master (ap (λ (v : KeptTable). is_some (module_of v.table.now c.args.master)) c.self.view_is ∙ c.requires.master)

pub unwrap-row-requires : goal.unwrap-row-requires
unwrap-row-requires c =
    let i = c.self.inside in
    let g = c.self.invariant.all.now in
    let named = sym c.find_under.ensures ∙ c.unwrap-owner.ensures in
    ap is_some c.get.ensures ∙ ap is_some (found_module i.names i.top (upper i.tops.now i.mods.now) i.nets.now (within_of i.names i.mods.now i.nets.now i.insts.now) g.good c.args.«module» c.unwrap-owner.result named).at

pub inst_in-requires-clause-master : goal.inst_in-requires-clause-master
inst_in-requires-clause-master c =
    let i = c.self.inside in
    let g = c.self.invariant.all.now in
    let keyed = sym c.find_under-2.ensures ∙ c.unwrap-user.ensures in
    ap is_some (found_module i.names i.top (upper i.tops.now i.mods.now) i.nets.now (within_of i.names i.mods.now i.nets.now i.insts.now) g.good c.args.master c.unwrap-user.result keyed).at

pub inst_in-requires-clause-few : goal.inst_in-requires-clause-few
inst_in-requires-clause-few c =
    let i = c.self.inside in
    let g = c.self.invariant.all.now in
    let named = sym c.find_under.ensures ∙ c.unwrap-owner.ensures in
    let m = found_module i.names i.top (upper i.tops.now i.mods.now) i.nets.now (within_of i.names i.mods.now i.nets.now i.insts.now) g.good c.args.«module» c.unwrap-owner.result named in
    let at : map.get i.mods.now c.unwrap-owner.result ≡ Some c.unwrap-row.result = sym c.get.ensures ∙ c.unwrap-row.ensures in
    let same : m.row ≡ c.unwrap-row.result = same_some m.row c.unwrap-row.result (sym m.at ∙ at) in
    subst (λ (r : ModRow). r.next_inst < 4294967295) same
    (c.requires.few (module_of_row i.names i.nets.now (within_of i.names i.mods.now i.nets.now i.insts.now) m.row) (ap (λ (v : KeptTable). module_of v.table.now c.args.«module») (sym c.self.view_is) ∙ m.shown))

pub invariant_of-self : goal.invariant_of-self
invariant_of-self c =
    let i = c.self.inside in
    let g = c.self.invariant.all.now in
    let named = sym c.find_under.ensures ∙ c.unwrap-owner.ensures in
    let keyed = sym c.find_under-2.ensures ∙ c.unwrap-user.ensures in
    let at : map.get i.mods.now c.unwrap-owner.result ≡ Some c.unwrap-row.result = sym c.get.ensures ∙ c.unwrap-row.ensures in
    let few = subst (λ ns. c.args.name < length ns) (ap (λ (v : KeptTable). v.names) (sym c.self.view_is)) c.requires.name in
    kept_paid i.names i.top i.tops i.mods i.nets i.insts c.self.invariant i.tops c.inst_in.new.mods i.nets c.inst_in.new.insts 0 2 0 3 (Pays-none i.tops) c.inst_in.ensures.mods_pay (Pays-none i.nets) c.inst_in.ensures.insts_pay
    (inst_made i.names i.top i.tops.now i.mods.now i.nets.now i.insts.now g c.args.«module» c.unwrap-owner.result named c.args.master c.unwrap-user.result c.inst_in.result c.args.name c.unwrap-row.result c.inst_in.new.mods.now c.inst_in.new.insts.now keyed at few c.inst_in.ensures.effect).good

pub returns-clause-table : goal.returns-clause-table
returns-clause-table c =
    let i = c.self.inside in
    let g = c.self.invariant.all.now in
    let named = sym c.find_under.ensures ∙ c.unwrap-owner.ensures in
    let keyed = sym c.find_under-2.ensures ∙ c.unwrap-user.ensures in
    let at : map.get i.mods.now c.unwrap-owner.result ≡ Some c.unwrap-row.result = sym c.get.ensures ∙ c.unwrap-row.ensures in
    let few = subst (λ ns. c.args.name < length ns) (ap (λ (v : KeptTable). v.names) (sym c.self.view_is)) c.requires.name in
    rw (← c.self.view_is) (inst_made i.names i.top i.tops.now i.mods.now i.nets.now i.insts.now g c.args.«module» c.unwrap-owner.result named c.args.master c.unwrap-user.result c.inst_in.result c.args.name c.unwrap-row.result c.inst_in.new.mods.now c.inst_in.new.insts.now keyed at few c.inst_in.ensures.effect).table
