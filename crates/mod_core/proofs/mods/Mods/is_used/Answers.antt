use Rattle.std.proofs.Common.{ap, sym, is_some, ◌∙◌}
use Rattle.mod_core.specs.inside.Linked.{within_of, upper}
use Rattle.mod_core.proofs.LookupLemmas.{found_module}
use Rattle.mod_core.proofs.UserLemmas.{used_is, unused_none}
use Rattle.mod_core.proofs.mods.Mods.is_used.Goals as goal

pub unwrap-row-requires : goal.unwrap-row-requires
unwrap-row-requires c =
    let i = c.self.inside in
    ap is_some c.get.ensures
    ∙ ap is_some (found_module i.names i.top (upper i.tops.now i.mods.now) i.nets.now (within_of i.names i.mods.now i.nets.now i.insts.now) c.self.invariant.all.now.good c.args.id c.in-Some.key (sym c.find_under.ensures ∙ c.in-Some.is)).at

pub returns-in-Some : goal.returns-in-Some
returns-in-Some c =
    let i = c.self.inside in
    rw (← c.self.view_is)
    (c.is_some.ensures
    ∙ sym (used_is i.names i.top i.tops.now i.mods.now i.nets.now i.insts.now c.self.invariant.all.now c.args.id c.in-Some.key (sym c.find_under.ensures ∙ c.in-Some.is) c.unwrap-row.result (sym c.get.ensures ∙ c.unwrap-row.ensures)))

pub returns-in-None : goal.returns-in-None
returns-in-None c =
    let i = c.self.inside in
    rw (← c.self.view_is)
    (sym (unused_none i.names i.top i.tops.now i.mods.now i.nets.now i.insts.now c.self.invariant.all.now c.args.id (sym c.find_under.ensures ∙ c.in-None.is)))
