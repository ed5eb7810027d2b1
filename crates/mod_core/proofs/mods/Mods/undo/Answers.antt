use Rattle.std.proofs.Common.{ap, sym, subst, length, ◌∙◌, ◌<◌}
use Rattle.mod_core.specs.Mods.{KeptTable}
use Rattle.mod_core.proofs.KeptLemmas.{lengths, undone}
use Rattle.mod_core.proofs.mods.Mods.undo.Goals as goal

pub undo-requires-2-clause-some : goal.undo-requires-2-clause-some
undo-requires-2-clause-some c =
    let i = c.self.inside in
    let l = lengths i.names i.top i.tops i.mods i.nets i.insts c.self.invariant in
    subst (λ n. 0 < n) (ap (λ (v : KeptTable). length v.table.past) (sym c.self.view_is) ∙ l.mods_past) c.requires.some

pub undo-requires-3-clause-some : goal.undo-requires-3-clause-some
undo-requires-3-clause-some c =
    let i = c.self.inside in
    let l = lengths i.names i.top i.tops i.mods i.nets i.insts c.self.invariant in
    subst (λ n. 0 < n) (ap (λ (v : KeptTable). length v.table.past) (sym c.self.view_is) ∙ l.nets_past) c.requires.some

pub undo-requires-4-clause-some : goal.undo-requires-4-clause-some
undo-requires-4-clause-some c =
    let i = c.self.inside in
    let l = lengths i.names i.top i.tops i.mods i.nets i.insts c.self.invariant in
    subst (λ n. 0 < n) (ap (λ (v : KeptTable). length v.table.past) (sym c.self.view_is) ∙ l.insts_past) c.requires.some

pub invariant_of-self : goal.invariant_of-self
invariant_of-self c =
    let i = c.self.inside in
    (undone i.names i.top i.tops i.mods i.nets i.insts c.self.invariant c.undo.new.self c.undo-2.new.self c.undo-3.new.self c.undo-4.new.self c.undo.ensures.moves c.undo-2.ensures.moves c.undo-3.ensures.moves c.undo-4.ensures.moves c.undo.ensures.rest c.undo-2.ensures.rest c.undo-3.ensures.rest c.undo-4.ensures.rest).kept

pub returns-clause-moves : goal.returns-clause-moves
returns-clause-moves c =
    let i = c.self.inside in
    rw (← c.self.view_is)
    (undone i.names i.top i.tops i.mods i.nets i.insts c.self.invariant c.undo.new.self c.undo-2.new.self c.undo-3.new.self c.undo-4.new.self c.undo.ensures.moves c.undo-2.ensures.moves c.undo-3.ensures.moves c.undo-4.ensures.moves c.undo.ensures.rest c.undo-2.ensures.rest c.undo-3.ensures.rest c.undo-4.ensures.rest).moves
