use Rattle.std.proofs.Common.{ap, sym, subst, length, ◌∙◌, ◌<◌}
use Rattle.mod_core.specs.Mods.{KeptTable}
use Rattle.mod_core.proofs.KeptLemmas.{lengths, redone}
use Rattle.mod_core.proofs.mods.Mods.redo.Goals as goal

pub redo-requires-2-clause-some : goal.redo-requires-2-clause-some
redo-requires-2-clause-some c =
    let i = c.self.inside in
    let l = lengths i.names i.top i.tops i.mods i.nets i.insts c.self.invariant in
    subst (λ n. 0 < n) (ap (λ (v : KeptTable). length v.table.future) (sym c.self.view_is) ∙ l.mods_future) c.requires.some

pub redo-requires-3-clause-some : goal.redo-requires-3-clause-some
redo-requires-3-clause-some c =
    let i = c.self.inside in
    let l = lengths i.names i.top i.tops i.mods i.nets i.insts c.self.invariant in
    subst (λ n. 0 < n) (ap (λ (v : KeptTable). length v.table.future) (sym c.self.view_is) ∙ l.nets_future) c.requires.some

pub redo-requires-4-clause-some : goal.redo-requires-4-clause-some
redo-requires-4-clause-some c =
    let i = c.self.inside in
    let l = lengths i.names i.top i.tops i.mods i.nets i.insts c.self.invariant in
    subst (λ n. 0 < n) (ap (λ (v : KeptTable). length v.table.future) (sym c.self.view_is) ∙ l.insts_future) c.requires.some

pub invariant_of-self : goal.invariant_of-self
invariant_of-self c =
    let i = c.self.inside in
    (redone i.names i.top i.tops i.mods i.nets i.insts c.self.invariant c.redo.new.self c.redo-2.new.self c.redo-3.new.self c.redo-4.new.self c.redo.ensures.moves c.redo-2.ensures.moves c.redo-3.ensures.moves c.redo-4.ensures.moves c.redo.ensures.rest c.redo-2.ensures.rest c.redo-3.ensures.rest c.redo-4.ensures.rest).kept

pub returns-clause-moves : goal.returns-clause-moves
returns-clause-moves c =
    let i = c.self.inside in
    rw (← c.self.view_is)
    (redone i.names i.top i.tops i.mods i.nets i.insts c.self.invariant c.redo.new.self c.redo-2.new.self c.redo-3.new.self c.redo-4.new.self c.redo.ensures.moves c.redo-2.ensures.moves c.redo-3.ensures.moves c.redo-4.ensures.moves c.redo.ensures.rest c.redo-2.ensures.rest c.redo-3.ensures.rest c.redo-4.ensures.rest).moves
