use Rattle.std.proofs.Common.{◌∙◌, ap, sym, is_some, option_and_then}
use Rattle.emh_base.specs.declared.plain.PModule.{PModule}
use Rattle.flatten_rules.specs.Lookup.{module_of, net_of}
use Rattle.flatten_rules.specs.Changes.{net_in, port_in}
use Rattle.row_chains.proofs.PaysLemmas.{Pays-none}
use Rattle.flatten_rules.specs.NetChanges.{delete_net}
use Rattle.mod_core.specs.Mods.{KeptTable}
use Rattle.mod_core.specs.inside.Linked.{table_of, within_of, upper}
use Rattle.mod_core.proofs.KeptLemmas.{kept_paid}
use Rattle.mod_core.proofs.WholeLemmas.{whole_same}
use Rattle.mod_core.proofs.LookupLemmas.{live_key, found_module, live_net, found_net}
use Rattle.mod_core.proofs.EffectLemmas.{net_gone, some_then}
use Rattle.mod_core.proofs.mods.Mods.delete_net.Goals as goal

pub unwrap-owner-requires : goal.unwrap-owner-requires
unwrap-owner-requires c =
    let i = c.self.inside in
    ap is_some c.find_under.ensures
    ∙ live_key i.names i.top (upper i.tops.now i.mods.now) i.nets.now (within_of i.names i.mods.now i.nets.now i.insts.now) c.self.invariant.all.now.good c.args.«module»
    (ap (λ (v : KeptTable). is_some (module_of v.table.now c.args.«module»)) c.self.view_is
    ∙ some_then (λ (holder : PModule). net_of holder c.args.net) (module_of c.args.self.now.table.now c.args.«module») c.requires.live)

pub unwrap-key-requires : goal.unwrap-key-requires
unwrap-key-requires c =
    let i = c.self.inside in
    let named = sym c.find_under.ensures ∙ c.unwrap-owner.ensures in
    let m = found_module i.names i.top (upper i.tops.now i.mods.now) i.nets.now (within_of i.names i.mods.now i.nets.now i.insts.now) c.self.invariant.all.now.good c.args.«module» c.unwrap-owner.result named in
    ap is_some c.find_under-2.ensures
    ∙ live_net i.names i.top (upper i.tops.now i.mods.now) i.nets.now (within_of i.names i.mods.now i.nets.now i.insts.now) c.self.invariant.all.now.good c.unwrap-owner.result m.row m.at c.args.net
    (ap is_some (sym (ap (option_and_then (λ (holder : PModule). net_of holder c.args.net)) m.shown))
    ∙ ap (λ (v : KeptTable). is_some (net_in v.table.now c.args.«module» c.args.net)) c.self.view_is ∙ c.requires.live)

pub net_out-requires-clause-live : goal.net_out-requires-clause-live
net_out-requires-clause-live c =
    let i = c.self.inside in
    let named = sym c.find_under.ensures ∙ c.unwrap-owner.ensures in
    let m = found_module i.names i.top (upper i.tops.now i.mods.now) i.nets.now (within_of i.names i.mods.now i.nets.now i.insts.now) c.self.invariant.all.now.good c.args.«module» c.unwrap-owner.result named in
    ap is_some (found_net i.names i.top (upper i.tops.now i.mods.now) i.nets.now (within_of i.names i.mods.now i.nets.now i.insts.now) c.self.invariant.all.now.good c.unwrap-owner.result m.row m.at c.args.net c.unwrap-key.result (sym c.find_under-2.ensures ∙ c.unwrap-key.ensures)).at

pub invariant_of-self : goal.invariant_of-self
invariant_of-self c =
    let i = c.self.inside in
    let g = c.self.invariant.all.now in
    let named = sym c.find_under.ensures ∙ c.unwrap-owner.ensures in
    let none = ap (λ (v : KeptTable). port_in v.table.now c.args.«module» c.args.net) c.self.view_is ∙ c.requires.alone in
    kept_paid i.names i.top i.tops i.mods i.nets i.insts c.self.invariant i.tops c.net_out.new.mods c.net_out.new.nets i.insts 0 1 3 0 (Pays-none i.tops) c.net_out.ensures.mods_pay c.net_out.ensures.nets_pay
    (Pays-none i.insts) (whole_same i.names i.top (upper i.tops.now i.mods.now) i.nets.now i.insts.now g (delete_net (table_of i.names i.top (upper i.tops.now i.mods.now) i.nets.now (within_of i.names i.mods.now i.nets.now i.insts.now)) c.args.«module» c.args.net) i.tops.now c.net_out.new.mods.now c.net_out.new.nets.now (net_gone i.names i.top i.tops.now i.mods.now i.nets.now (within_of i.names i.mods.now i.nets.now i.insts.now) g.good c.args.«module» c.unwrap-owner.result named c.net_out.new.mods.now c.net_out.new.nets.now c.args.net c.unwrap-key.result (sym c.find_under-2.ensures ∙ c.unwrap-key.ensures) none c.net_out.ensures.effect)).good

pub returns-clause-table : goal.returns-clause-table
returns-clause-table c =
    let i = c.self.inside in
    let g = c.self.invariant.all.now in
    let named = sym c.find_under.ensures ∙ c.unwrap-owner.ensures in
    let none = ap (λ (v : KeptTable). port_in v.table.now c.args.«module» c.args.net) c.self.view_is ∙ c.requires.alone in
    rw (← c.self.view_is)
    (whole_same i.names i.top (upper i.tops.now i.mods.now) i.nets.now i.insts.now g (delete_net (table_of i.names i.top (upper i.tops.now i.mods.now) i.nets.now (within_of i.names i.mods.now i.nets.now i.insts.now)) c.args.«module» c.args.net) i.tops.now c.net_out.new.mods.now c.net_out.new.nets.now (net_gone i.names i.top i.tops.now i.mods.now i.nets.now (within_of i.names i.mods.now i.nets.now i.insts.now) g.good c.args.«module» c.unwrap-owner.result named c.net_out.new.mods.now c.net_out.new.nets.now c.args.net c.unwrap-key.result (sym c.find_under-2.ensures ∙ c.unwrap-key.ensures) none c.net_out.ensures.effect)).table
