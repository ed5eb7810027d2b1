use Rattle.std.proofs.Common.{sym, subst, ◌∙◌}
use Rattle.timeline.specs.Timeline.{Timeline}
use Rattle.timeline.specs.Joined.{join}
use Rattle.undo_slots.specs.Slots.{Rows}
use Rattle.mod_core.specs.declared.rows.TopRow.{TopRow}
use Rattle.mod_core.specs.declared.rows.ModRow.{ModRow}
use Rattle.mod_core.specs.declared.rows.NetRow.{NetRow}
use Rattle.mod_core.specs.declared.rows.InstRow.{InstRow}
use Rattle.mod_core.specs.inside.Linked.{upper, lower, whole_of}
use Rattle.mod_core.specs.inside.Kept.{IsKept}
use Rattle.mod_core.proofs.KeptLemmas.{committed, kept_committed, whole_committed}
use Rattle.mod_core.proofs.mods.Mods.commit.Goals as goal

pub invariant_of-self : goal.invariant_of-self
invariant_of-self c =
    let i = c.self.inside in
    let l = c.commit.new.self.spare_rows in
    let m = c.commit-2.new.self.spare_rows in
    let n = c.commit-3.new.self.spare_rows in
    let o = c.commit-4.new.self.spare_rows in
    let F : Timeline (Rows TopRow) → Type 0 = λ s. IsKept i.names i.top s c.commit-2.new.self c.commit-3.new.self c.commit-4.new.self in
    let G : Timeline (Rows ModRow) → Type 0 = λ s. IsKept i.names i.top (committed i.tops l) s c.commit-3.new.self c.commit-4.new.self in
    let H : Timeline (Rows NetRow) → Type 0 = λ s. IsKept i.names i.top (committed i.tops l) (committed i.mods m) s c.commit-4.new.self in
    let K : Timeline (Rows InstRow) → Type 0 = λ s. IsKept i.names i.top (committed i.tops l) (committed i.mods m) (committed i.nets n) s in
    subst F (sym c.commit.ensures.committed) (subst G (sym c.commit-2.ensures.committed) (subst H (sym c.commit-3.ensures.committed) (subst K (sym c.commit-4.ensures.committed)
    (kept_committed i.names i.top i.tops i.mods i.nets i.insts c.self.invariant l m n o))))

pub returns-clause-committed : goal.returns-clause-committed
returns-clause-committed c =
    let i = c.self.inside in
    rw (← c.self.view_is)
    ((λ j. join (whole_of i.names i.top) (join lower (join upper (c.commit.ensures.committed j) (c.commit-2.ensures.committed j)) (c.commit-3.ensures.committed j)) (c.commit-4.ensures.committed j))
    ∙ whole_committed i.names i.top i.tops i.mods i.nets i.insts c.self.invariant c.commit.new.self.spare_rows c.commit-2.new.self.spare_rows c.commit-3.new.self.spare_rows c.commit-4.new.self.spare_rows)
