use Rattle.std.proofs.Common.{ap, sym, length, ◌∙◌}
use Rattle.mod_core.specs.Mods.{KeptTable}
use Rattle.mod_core.proofs.KeptLemmas.{lengths}
use Rattle.mod_core.proofs.mods.Mods.past_len.Goals as goal

pub returns : goal.returns
returns c =
    let i = c.self.inside in
    c.past_len.ensures
    ∙ sym (lengths i.names i.top i.tops i.mods i.nets i.insts c.self.invariant).nets_past
    ∙ ap (λ (v : KeptTable). length v.table.past) c.self.view_is
