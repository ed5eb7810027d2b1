use Rattle.std.proofs.Common.{◌≡◌, ◌<◌, ◌∙◌, Some, ap, sym, subst, length, is_some}
use Rattle.std.specs.FinMap as map
use Rattle.flatten_rules.specs.Lookup.{module_of}
use Rattle.row_chains.proofs.KeyLemmas.{same_some}
use Rattle.row_chains.proofs.PaysLemmas.{Pays-none, Pays-then}
use Rattle.mod_core.specs.declared.rows.ModRow.{ModRow}
use Rattle.flatten_rules.specs.NetChanges.{with_port}
use Rattle.flatten_rules.specs.Changes.{with_module}
use Rattle.emh_base.specs.declared.plain.Conn.TheVariants.{Open}
use Rattle.std.proofs.Common.{[], ◌∷◌, ◌++◌}
use Rattle.mod_core.specs.Mods.{name_at}
use Rattle.mod_core.specs.Mods.{KeptTable}
use Rattle.mod_core.specs.inside.Linked.{table_of, within_of, module_of_row, upper}
use Rattle.mod_core.proofs.KeptLemmas.{kept_paid}
use Rattle.mod_core.proofs.WholeLemmas.{whole_conns}
use Rattle.mod_core.proofs.LookupLemmas.{live_key, found_module}
use Rattle.mod_core.proofs.EffectLemmas.{net_made, port_made, come_live}
use Rattle.mod_core.proofs.mods.Mods.create_port.Goals as goal

pub unwrap-owner-requires : goal.unwrap-owner-requires
unwrap-owner-requires c =
    let i = c.self.inside in
    ap is_some c.find_under.ensures
    ∙ live_key i.names i.top (upper i.tops.now i.mods.now) i.nets.now (within_of i.names i.mods.now i.nets.now i.insts.now) c.self.invariant.all.now.good c.args.«module» (ap (λ (v : KeptTable). is_some (module_of v.table.now c.args.«module»)) c.self.view_is ∙ c.requires.live)

pub unwrap-row-requires : goal.unwrap-row-requires
unwrap-row-requires c =
    let i = c.self.inside in
    let named = sym c.find_under.ensures ∙ c.unwrap-owner.ensures in
    ap is_some c.get.ensures ∙ ap is_some (found_module i.names i.top (upper i.tops.now i.mods.now) i.nets.now (within_of i.names i.mods.now i.nets.now i.insts.now) c.self.invariant.all.now.good c.args.«module» c.unwrap-owner.result named).at

pub net_in-key-requires-clause-few : goal.net_in-key-requires-clause-few
net_in-key-requires-clause-few c =
    let i = c.self.inside in
    let named = sym c.find_under.ensures ∙ c.unwrap-owner.ensures in
    let m = found_module i.names i.top (upper i.tops.now i.mods.now) i.nets.now (within_of i.names i.mods.now i.nets.now i.insts.now) c.self.invariant.all.now.good c.args.«module» c.unwrap-owner.result named in
    let at : map.get i.mods.now c.unwrap-owner.result ≡ Some c.unwrap-row.result = sym c.get.ensures ∙ c.unwrap-row.ensures in
    let same : m.row ≡ c.unwrap-row.result = same_some m.row c.unwrap-row.result (sym m.at ∙ at) in
    subst (λ (r : ModRow). r.next_net < 4294967295) same
    (c.requires.few (module_of_row i.names i.nets.now (within_of i.names i.mods.now i.nets.now i.insts.now) m.row) (ap (λ (v : KeptTable). module_of v.table.now c.args.«module») (sym c.self.view_is) ∙ m.shown))

pub port_in-requires-clause-chains : goal.port_in-requires-clause-chains
port_in-requires-clause-chains c =
    let i = c.self.inside in
    let g = c.self.invariant.all.now in
    let named = sym c.find_under.ensures ∙ c.unwrap-owner.ensures in
    let at : map.get i.mods.now c.unwrap-owner.result ≡ Some c.unwrap-row.result = sym c.get.ensures ∙ c.unwrap-row.ensures in
    let few = subst (λ ns. c.args.name < length ns) (ap (λ (v : KeptTable). v.names) (sym c.self.view_is)) c.requires.name in
    (net_made i.names i.top i.tops.now i.mods.now i.nets.now (within_of i.names i.mods.now i.nets.now i.insts.now) g.good c.args.«module» c.unwrap-owner.result named c.net_in-key.new.mods.now c.net_in-key.new.nets.now c.unwrap-row.result c.net_in-key.result c.args.name c.args.range at few (c.net_in-key.ensures.effect c.unwrap-row.result at)).good.ports_of

pub port_in-requires-clause-owner : goal.port_in-requires-clause-owner
port_in-requires-clause-owner c =
    let i = c.self.inside in
    let g = c.self.invariant.all.now in
    let named = sym c.find_under.ensures ∙ c.unwrap-owner.ensures in
    let at : map.get i.mods.now c.unwrap-owner.result ≡ Some c.unwrap-row.result = sym c.get.ensures ∙ c.unwrap-row.ensures in
    let few = subst (λ ns. c.args.name < length ns) (ap (λ (v : KeptTable). v.names) (sym c.self.view_is)) c.requires.name in
    (come_live i.mods.now c.net_in-key.new.mods.now i.nets.now c.net_in-key.new.nets.now c.unwrap-owner.result c.net_in-key.result c.unwrap-row.result c.unwrap-row.result.next_net c.args.name c.args.range (c.net_in-key.ensures.effect c.unwrap-row.result at)).0

pub port_in-requires-clause-live : goal.port_in-requires-clause-live
port_in-requires-clause-live c =
    let i = c.self.inside in
    let g = c.self.invariant.all.now in
    let named = sym c.find_under.ensures ∙ c.unwrap-owner.ensures in
    let at : map.get i.mods.now c.unwrap-owner.result ≡ Some c.unwrap-row.result = sym c.get.ensures ∙ c.unwrap-row.ensures in
    let few = subst (λ ns. c.args.name < length ns) (ap (λ (v : KeptTable). v.names) (sym c.self.view_is)) c.requires.name in
    (come_live i.mods.now c.net_in-key.new.mods.now i.nets.now c.net_in-key.new.nets.now c.unwrap-owner.result c.net_in-key.result c.unwrap-row.result c.unwrap-row.result.next_net c.args.name c.args.range (c.net_in-key.ensures.effect c.unwrap-row.result at)).1

pub invariant_of-self : goal.invariant_of-self
invariant_of-self c =
    let i = c.self.inside in
    let g = c.self.invariant.all.now in
    let named = sym c.find_under.ensures ∙ c.unwrap-owner.ensures in
    let at : map.get i.mods.now c.unwrap-owner.result ≡ Some c.unwrap-row.result = sym c.get.ensures ∙ c.unwrap-row.ensures in
    let few = subst (λ ns. c.args.name < length ns) (ap (λ (v : KeptTable). v.names) (sym c.self.view_is)) c.requires.name in
    kept_paid i.names i.top i.tops i.mods i.nets i.insts c.self.invariant i.tops c.port_in.new.mods c.port_in.new.nets i.insts 0 2 4 0 (Pays-none i.tops)
    (Pays-then 1 1 i.mods c.net_in-key.new.mods c.port_in.new.mods c.net_in-key.ensures.mods_pay c.port_in.ensures.mods_pay)
    (Pays-then 2 2 i.nets c.net_in-key.new.nets c.port_in.new.nets c.net_in-key.ensures.nets_pay c.port_in.ensures.nets_pay)
    (Pays-none i.insts) (whole_conns i.names i.top (upper i.tops.now i.mods.now) i.nets.now i.insts.now g (with_module (table_of i.names i.top (upper i.tops.now i.mods.now) i.nets.now (within_of i.names i.mods.now i.nets.now i.insts.now)) c.args.«module» (with_port (name_at i.names c.args.name) c.args.dir c.args.range)) i.tops.now c.port_in.new.mods.now c.port_in.new.nets.now c.args.«module» (λ conns. conns ++ Open ∷ []) (port_made i.names i.top i.tops.now i.mods.now i.nets.now (within_of i.names i.mods.now i.nets.now i.insts.now) g.good c.args.«module» c.unwrap-owner.result named c.net_in-key.new.mods.now c.net_in-key.new.nets.now c.unwrap-row.result c.net_in-key.result c.args.name c.args.dir c.args.range c.port_in.new.mods.now c.port_in.new.nets.now at few (c.net_in-key.ensures.effect c.unwrap-row.result at) c.port_in.ensures.effect)).good

pub returns-clause-table : goal.returns-clause-table
returns-clause-table c =
    let i = c.self.inside in
    let g = c.self.invariant.all.now in
    let named = sym c.find_under.ensures ∙ c.unwrap-owner.ensures in
    let at : map.get i.mods.now c.unwrap-owner.result ≡ Some c.unwrap-row.result = sym c.get.ensures ∙ c.unwrap-row.ensures in
    let few = subst (λ ns. c.args.name < length ns) (ap (λ (v : KeptTable). v.names) (sym c.self.view_is)) c.requires.name in
    rw (← c.self.view_is)
    (whole_conns i.names i.top (upper i.tops.now i.mods.now) i.nets.now i.insts.now g (with_module (table_of i.names i.top (upper i.tops.now i.mods.now) i.nets.now (within_of i.names i.mods.now i.nets.now i.insts.now)) c.args.«module» (with_port (name_at i.names c.args.name) c.args.dir c.args.range)) i.tops.now c.port_in.new.mods.now c.port_in.new.nets.now c.args.«module» (λ conns. conns ++ Open ∷ []) (port_made i.names i.top i.tops.now i.mods.now i.nets.now (within_of i.names i.mods.now i.nets.now i.insts.now) g.good c.args.«module» c.unwrap-owner.result named c.net_in-key.new.mods.now c.net_in-key.new.nets.now c.unwrap-row.result c.net_in-key.result c.args.name c.args.dir c.args.range c.port_in.new.mods.now c.port_in.new.nets.now at few (c.net_in-key.ensures.effect c.unwrap-row.result at) c.port_in.ensures.effect)).table
