use Rattle.std.proofs.Common.{◌<◌, ap, sym, subst, length}
use Rattle.row_chains.proofs.PaysLemmas.{Pays-none}
use Rattle.mod_core.specs.Mods.{KeptTable}
use Rattle.mod_core.proofs.KeptLemmas.{kept_paid}
use Rattle.mod_core.proofs.UserLemmas.{module_made}
use Rattle.mod_core.proofs.mods.Mods.create_module.Goals as goal

pub invariant_of-self : goal.invariant_of-self
invariant_of-self c =
    let i = c.self.inside in
    let g = c.self.invariant.all.now in
    let few = subst (λ ns. c.args.name < length ns) (ap (λ (v : KeptTable). v.names) (sym c.self.view_is)) c.requires.name in
    let made = module_made i.names i.top i.tops.now i.mods.now i.nets.now i.insts.now g c.module_in.new.tops.now c.module_in.new.mods.now c.module_in.result c.args.name g.good.root g.good.rooted few (c.module_in.ensures.effect g.good.root g.good.rooted) in
    kept_paid i.names i.top i.tops i.mods i.nets i.insts c.self.invariant c.module_in.new.tops c.module_in.new.mods i.nets i.insts 1 2 0 0 c.module_in.ensures.tops_pay c.module_in.ensures.mods_pay (Pays-none i.nets) (Pays-none i.insts) made.good

pub returns-clause-table : goal.returns-clause-table
returns-clause-table c =
    let i = c.self.inside in
    let g = c.self.invariant.all.now in
    let few = subst (λ ns. c.args.name < length ns) (ap (λ (v : KeptTable). v.names) (sym c.self.view_is)) c.requires.name in
    rw (← c.self.view_is)
    (module_made i.names i.top i.tops.now i.mods.now i.nets.now i.insts.now g c.module_in.new.tops.now c.module_in.new.mods.now c.module_in.result c.args.name g.good.root g.good.rooted few (c.module_in.ensures.effect g.good.root g.good.rooted)).table
