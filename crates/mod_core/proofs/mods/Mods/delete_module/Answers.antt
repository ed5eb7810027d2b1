use Rattle.std.proofs.Common.{◌≡◌, ◌∙◌, [], Some, false, ap, sym, subst, is_some}
use Rattle.emh_base.specs.declared.plain.PModule.{PModule}
use Rattle.flatten_rules.specs.Lookup.{module_of}
use Rattle.row_chains.proofs.PaysLemmas.{Pays-none}
use Rattle.mod_core.specs.Mods.{KeptTable, is_used}
use Rattle.mod_core.specs.inside.Linked.{within_of, upper}
use Rattle.mod_core.proofs.KeptLemmas.{kept_paid}
use Rattle.mod_core.proofs.LookupLemmas.{live_key, found_module}
use Rattle.mod_core.proofs.UserLemmas.{module_gone}
use Rattle.mod_core.proofs.mods.Mods.delete_module.Goals as goal

pub unwrap-key-requires : goal.unwrap-key-requires
unwrap-key-requires c =
    let i = c.self.inside in
    ap is_some c.find_under.ensures
    ∙ live_key i.names i.top (upper i.tops.now i.mods.now) i.nets.now (within_of i.names i.mods.now i.nets.now i.insts.now) c.self.invariant.all.now.good c.args.«module» (ap (λ (v : KeptTable). is_some (module_of v.table.now c.args.«module»)) c.self.view_is ∙ c.requires.live)

pub module_out-requires-clause-live : goal.module_out-requires-clause-live
module_out-requires-clause-live c =
    let i = c.self.inside in
    let named = sym c.find_under.ensures ∙ c.unwrap-key.ensures in
    ap is_some (found_module i.names i.top (upper i.tops.now i.mods.now) i.nets.now (within_of i.names i.mods.now i.nets.now i.insts.now) c.self.invariant.all.now.good c.args.«module» c.unwrap-key.result named).at

pub invariant_of-self : goal.invariant_of-self
invariant_of-self c =
    let i = c.self.inside in
    let g = c.self.invariant.all.now in
    let named = sym c.find_under.ensures ∙ c.unwrap-key.ensures in
    let empty = subst (λ (v : KeptTable). (m : PModule) → module_of v.table.now c.args.«module» ≡ Some m → (m.nets ≡ []) × ((m.ports ≡ []) × (m.insts ≡ []))) (sym c.self.view_is) c.requires.empty in
    let unused = subst (λ (v : KeptTable). is_used v.table.now c.args.«module» ≡ false) (sym c.self.view_is) c.requires.unused in
    let gone = module_gone i.names i.top i.tops.now i.mods.now i.nets.now i.insts.now g c.args.«module» c.unwrap-key.result named c.module_out.new.tops.now c.module_out.new.mods.now empty unused c.module_out.ensures.effect in
    kept_paid i.names i.top i.tops i.mods i.nets i.insts c.self.invariant c.module_out.new.tops c.module_out.new.mods i.nets i.insts 1 3 0 0 c.module_out.ensures.tops_pay c.module_out.ensures.mods_pay (Pays-none i.nets) (Pays-none i.insts) gone.good

pub returns-clause-table : goal.returns-clause-table
returns-clause-table c =
    let i = c.self.inside in
    let g = c.self.invariant.all.now in
    let named = sym c.find_under.ensures ∙ c.unwrap-key.ensures in
    let empty = subst (λ (v : KeptTable). (m : PModule) → module_of v.table.now c.args.«module» ≡ Some m → (m.nets ≡ []) × ((m.ports ≡ []) × (m.insts ≡ []))) (sym c.self.view_is) c.requires.empty in
    let unused = subst (λ (v : KeptTable). is_used v.table.now c.args.«module» ≡ false) (sym c.self.view_is) c.requires.unused in
    rw (← c.self.view_is)
    (module_gone i.names i.top i.tops.now i.mods.now i.nets.now i.insts.now g c.args.«module» c.unwrap-key.result named c.module_out.new.tops.now c.module_out.new.mods.now empty unused c.module_out.ensures.effect).table
