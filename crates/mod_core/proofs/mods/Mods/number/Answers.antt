use Rattle.mod_core.proofs.NameLemmas.{numbered_names, kept_named, whole_named}
use Rattle.mod_core.proofs.mods.Mods.number.Goals as goal

pub invariant_of-self : goal.invariant_of-self
invariant_of-self c =
    let i = c.self.inside in
    kept_named i.names c.number.new.self i.top (numbered_names c.number.result i.names c.number.new.self c.args.name c.number.ensures.names c.number.ensures.err) i.tops i.mods i.nets i.insts c.self.invariant

pub returns-clause-table : goal.returns-clause-table
returns-clause-table c =
    let i = c.self.inside in
    rw (← c.self.view_is)
    (whole_named i.names c.number.new.self i.top (numbered_names c.number.result i.names c.number.new.self c.args.name c.number.ensures.names c.number.ensures.err) i.tops i.mods i.nets i.insts c.self.invariant)
