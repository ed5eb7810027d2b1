use Rattle.std.proofs.Common.{◌∙◌, ap, sym, is_some, option_and_then}
use Rattle.emh_base.specs.declared.plain.PModule.{PModule}
use Rattle.flatten_rules.specs.Lookup.{module_of, port_of}
use Rattle.flatten_rules.specs.Changes.{port_in}
use Rattle.row_chains.proofs.KeyLemmas.{same_some}
use Rattle.row_chains.proofs.PaysLemmas.{Pays-none, Pays-then}
use Rattle.mod_core.specs.declared.rows.NetRow.{NetRow}
use Rattle.flatten_rules.specs.NetChanges.{without_port, without_conn}
use Rattle.flatten_rules.specs.Changes.{with_module, port_place}
use Rattle.mod_core.specs.Mods.{KeptTable}
use Rattle.mod_core.specs.inside.Linked.{table_of, within_of, upper}
use Rattle.mod_core.proofs.KeptLemmas.{kept_paid}
use Rattle.mod_core.proofs.WholeLemmas.{whole_conns}
use Rattle.mod_core.proofs.LookupLemmas.{live_key, found_module, live_port, found_port}
use Rattle.mod_core.proofs.EffectLemmas.{port_cut_of, port_gone, some_then}
use Rattle.mod_core.proofs.mods.Mods.delete_port.Goals as goal

pub unwrap-owner-requires : goal.unwrap-owner-requires
unwrap-owner-requires c =
    let i = c.self.inside in
    ap is_some c.find_under.ensures
    ∙ live_key i.names i.top (upper i.tops.now i.mods.now) i.nets.now (within_of i.names i.mods.now i.nets.now i.insts.now) c.self.invariant.all.now.good c.args.«module»
    (ap (λ (v : KeptTable). is_some (module_of v.table.now c.args.«module»)) c.self.view_is
    ∙ some_then (λ (holder : PModule). port_of holder c.args.port) (module_of c.args.self.now.table.now c.args.«module») c.requires.live)

pub unwrap-key-requires : goal.unwrap-key-requires
unwrap-key-requires c =
    let i = c.self.inside in
    let named = sym c.find_under.ensures ∙ c.unwrap-owner.ensures in
    let m = found_module i.names i.top (upper i.tops.now i.mods.now) i.nets.now (within_of i.names i.mods.now i.nets.now i.insts.now) c.self.invariant.all.now.good c.args.«module» c.unwrap-owner.result named in
    ap is_some c.find_under-2.ensures
    ∙ live_port i.names i.top (upper i.tops.now i.mods.now) i.nets.now (within_of i.names i.mods.now i.nets.now i.insts.now) c.self.invariant.all.now.good c.unwrap-owner.result m.row m.at c.args.port
    (ap is_some (sym (ap (option_and_then (λ (holder : PModule). port_of holder c.args.port)) m.shown))
    ∙ ap (λ (v : KeptTable). is_some (port_in v.table.now c.args.«module» c.args.port)) c.self.view_is ∙ c.requires.live)

pub unwrap-net-requires : goal.unwrap-net-requires
unwrap-net-requires c =
    let i = c.self.inside in
    let named = sym c.find_under.ensures ∙ c.unwrap-owner.ensures in
    let m = found_module i.names i.top (upper i.tops.now i.mods.now) i.nets.now (within_of i.names i.mods.now i.nets.now i.insts.now) c.self.invariant.all.now.good c.args.«module» c.unwrap-owner.result named in
    ap is_some c.get.ensures
    ∙ ap is_some (found_port i.names i.top (upper i.tops.now i.mods.now) i.nets.now (within_of i.names i.mods.now i.nets.now i.insts.now) c.self.invariant.all.now.good c.unwrap-owner.result m.row m.at c.args.port c.unwrap-key.result (sym c.find_under-2.ensures ∙ c.unwrap-key.ensures)).at

pub unwrap-row-requires : goal.unwrap-row-requires
unwrap-row-requires c =
    let i = c.self.inside in
    let named = sym c.find_under.ensures ∙ c.unwrap-owner.ensures in
    let m = found_module i.names i.top (upper i.tops.now i.mods.now) i.nets.now (within_of i.names i.mods.now i.nets.now i.insts.now) c.self.invariant.all.now.good c.args.«module» c.unwrap-owner.result named in
    let f = found_port i.names i.top (upper i.tops.now i.mods.now) i.nets.now (within_of i.names i.mods.now i.nets.now i.insts.now) c.self.invariant.all.now.good c.unwrap-owner.result m.row m.at c.args.port c.unwrap-key.result (sym c.find_under-2.ensures ∙ c.unwrap-key.ensures) in
    ap (λ (r : NetRow). is_some r.port) (same_some c.unwrap-net.result f.net (sym (sym c.get.ensures ∙ c.unwrap-net.ensures) ∙ f.at))
    ∙ ap is_some f.on

pub net_out-requires-clause-chains : goal.net_out-requires-clause-chains
net_out-requires-clause-chains c =
    let i = c.self.inside in
    let named = sym c.find_under.ensures ∙ c.unwrap-owner.ensures in
    (port_cut_of i.names i.top i.tops.now i.mods.now i.nets.now (within_of i.names i.mods.now i.nets.now i.insts.now) c.self.invariant.all.now.good c.args.«module» c.unwrap-owner.result named c.args.port c.unwrap-key.result (sym c.find_under-2.ensures ∙ c.unwrap-key.ensures) c.unwrap-net.result c.unwrap-row.result (sym c.get.ensures ∙ c.unwrap-net.ensures) c.unwrap-row.ensures c.port_out.new.mods.now c.port_out.new.nets.now c.port_out.ensures.effect).shown.good.nets_of

pub net_out-requires-clause-live : goal.net_out-requires-clause-live
net_out-requires-clause-live c =
    let i = c.self.inside in
    let named = sym c.find_under.ensures ∙ c.unwrap-owner.ensures in
    ap is_some (port_cut_of i.names i.top i.tops.now i.mods.now i.nets.now (within_of i.names i.mods.now i.nets.now i.insts.now) c.self.invariant.all.now.good c.args.«module» c.unwrap-owner.result named c.args.port c.unwrap-key.result (sym c.find_under-2.ensures ∙ c.unwrap-key.ensures) c.unwrap-net.result c.unwrap-row.result (sym c.get.ensures ∙ c.unwrap-net.ensures) c.unwrap-row.ensures c.port_out.new.mods.now c.port_out.new.nets.now c.port_out.ensures.effect).at

pub invariant_of-self : goal.invariant_of-self
invariant_of-self c =
    let i = c.self.inside in
    let g = c.self.invariant.all.now in
    let named = sym c.find_under.ensures ∙ c.unwrap-owner.ensures in
    let keyed = sym c.find_under-2.ensures ∙ c.unwrap-key.ensures in
    let cut = port_cut_of i.names i.top i.tops.now i.mods.now i.nets.now (within_of i.names i.mods.now i.nets.now i.insts.now) g.good c.args.«module» c.unwrap-owner.result named c.args.port c.unwrap-key.result keyed c.unwrap-net.result c.unwrap-row.result (sym c.get.ensures ∙ c.unwrap-net.ensures) c.unwrap-row.ensures c.port_out.new.mods.now c.port_out.new.nets.now c.port_out.ensures.effect in
    kept_paid i.names i.top i.tops i.mods i.nets i.insts c.self.invariant i.tops c.net_out.new.mods c.net_out.new.nets i.insts 0 2 6 0 (Pays-none i.tops)
    (Pays-then 1 1 i.mods c.port_out.new.mods c.net_out.new.mods c.port_out.ensures.mods_pay c.net_out.ensures.mods_pay)
    (Pays-then 3 3 i.nets c.port_out.new.nets c.net_out.new.nets c.port_out.ensures.nets_pay c.net_out.ensures.nets_pay)
    (Pays-none i.insts) (whole_conns i.names i.top (upper i.tops.now i.mods.now) i.nets.now i.insts.now g (with_module (table_of i.names i.top (upper i.tops.now i.mods.now) i.nets.now (within_of i.names i.mods.now i.nets.now i.insts.now)) c.args.«module» (without_port c.args.port)) i.tops.now c.net_out.new.mods.now c.net_out.new.nets.now c.args.«module» (without_conn (port_place (module_of (table_of i.names i.top (upper i.tops.now i.mods.now) i.nets.now (within_of i.names i.mods.now i.nets.now i.insts.now)) c.args.«module») c.args.port)) (port_gone i.names i.top i.tops.now i.mods.now i.nets.now (within_of i.names i.mods.now i.nets.now i.insts.now) g.good c.args.«module» c.unwrap-owner.result named c.args.port c.unwrap-key.result keyed c.port_out.new.mods.now c.net_out.new.mods.now c.port_out.new.nets.now c.net_out.new.nets.now cut c.net_out.ensures.effect)).good

pub returns-clause-table : goal.returns-clause-table
returns-clause-table c =
    let i = c.self.inside in
    let g = c.self.invariant.all.now in
    let named = sym c.find_under.ensures ∙ c.unwrap-owner.ensures in
    let keyed = sym c.find_under-2.ensures ∙ c.unwrap-key.ensures in
    let cut = port_cut_of i.names i.top i.tops.now i.mods.now i.nets.now (within_of i.names i.mods.now i.nets.now i.insts.now) g.good c.args.«module» c.unwrap-owner.result named c.args.port c.unwrap-key.result keyed c.unwrap-net.result c.unwrap-row.result (sym c.get.ensures ∙ c.unwrap-net.ensures) c.unwrap-row.ensures c.port_out.new.mods.now c.port_out.new.nets.now c.port_out.ensures.effect in
    rw (← c.self.view_is)
    (whole_conns i.names i.top (upper i.tops.now i.mods.now) i.nets.now i.insts.now g (with_module (table_of i.names i.top (upper i.tops.now i.mods.now) i.nets.now (within_of i.names i.mods.now i.nets.now i.insts.now)) c.args.«module» (without_port c.args.port)) i.tops.now c.net_out.new.mods.now c.net_out.new.nets.now c.args.«module» (without_conn (port_place (module_of (table_of i.names i.top (upper i.tops.now i.mods.now) i.nets.now (within_of i.names i.mods.now i.nets.now i.insts.now)) c.args.«module») c.args.port)) (port_gone i.names i.top i.tops.now i.mods.now i.nets.now (within_of i.names i.mods.now i.nets.now i.insts.now) g.good c.args.«module» c.unwrap-owner.result named c.args.port c.unwrap-key.result keyed c.port_out.new.mods.now c.net_out.new.mods.now c.port_out.new.nets.now c.net_out.new.nets.now cut c.net_out.ensures.effect)).table
