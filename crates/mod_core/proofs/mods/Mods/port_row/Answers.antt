use Rattle.std.proofs.Common.{ap, sym, ◌∙◌, option_and_then}
use Rattle.emh_base.specs.declared.plain.PModule.{PModule}
use Rattle.flatten_rules.specs.Lookup.{port_of}
use Rattle.mod_core.specs.inside.Linked.{within_of, port_of_row, port_shown, upper}
use Rattle.mod_core.proofs.LookupLemmas.{no_module, port_there}
use Rattle.mod_core.proofs.mods.Mods.port_row.Goals as goal

pub returns-in_err-owner : goal.returns-in_err-owner
returns-in_err-owner c =
    let i = c.self.inside in
    rw (← c.self.view_is)
    (ap (option_and_then (λ (h : PModule). port_of h c.args.port)) (no_module i.names i.top (upper i.tops.now i.mods.now) i.nets.now (within_of i.names i.mods.now i.nets.now i.insts.now) c.self.invariant.all.now.good c.args.«module» (sym c.find_under.ensures ∙ c.in_err-owner.was))
    ∙ ap (option_and_then port_of_row) (sym c.from_residual.ensures))

pub returns-in_err-key : goal.returns-in_err-key
returns-in_err-key c =
    let i = c.self.inside in
    rw (← c.self.view_is)
    (port_there i.names i.top (upper i.tops.now i.mods.now) i.nets.now (within_of i.names i.mods.now i.nets.now i.insts.now) c.self.invariant.all.now.good c.args.«module» c.args.port c.in_ok-owner.owner (sym c.find_under.ensures ∙ c.in_ok-owner.was)
    ∙ ap (option_and_then (port_shown i.nets.now)) (sym c.find_under-2.ensures ∙ c.in_err-key.was)
    ∙ ap (option_and_then port_of_row) (sym c.from_residual-in_err-key.ensures))

pub returns : goal.returns
returns c =
    let i = c.self.inside in
    rw (← c.self.view_is)
    (port_there i.names i.top (upper i.tops.now i.mods.now) i.nets.now (within_of i.names i.mods.now i.nets.now i.insts.now) c.self.invariant.all.now.good c.args.«module» c.args.port c.in_ok-owner.owner (sym c.find_under.ensures ∙ c.in_ok-owner.was)
    ∙ ap (option_and_then (port_shown i.nets.now)) (sym c.find_under-2.ensures ∙ c.in_ok-key.was)
    ∙ ap (option_and_then port_of_row) (sym c.get.ensures))
