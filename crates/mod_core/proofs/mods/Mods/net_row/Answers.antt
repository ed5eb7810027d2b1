use Rattle.std.proofs.Common.{ap, sym, ◌∙◌, option_map, option_and_then}
use Rattle.emh_base.specs.declared.plain.PModule.{PModule}
use Rattle.flatten_rules.specs.Lookup.{net_of}
use Rattle.row_chains.proofs.KeyLemmas.{none_some}
use Rattle.mod_core.specs.inside.Good.{net_face}
use Rattle.mod_core.specs.inside.Linked.{within_of, net_of_row, net_shown, upper}
use Rattle.mod_core.proofs.LookupLemmas.{no_module, net_there}
use Rattle.mod_core.proofs.mods.Mods.net_row.Goals as goal

pub returns-in_err-owner : goal.returns-in_err-owner
returns-in_err-owner c =
    let i = c.self.inside in
    record {
      shown = rw (← c.self.view_is)
          (ap (option_and_then (λ (h : PModule). net_of h c.args.net)) (no_module i.names i.top (upper i.tops.now i.mods.now) i.nets.now (within_of i.names i.mods.now i.nets.now i.insts.now) c.self.invariant.all.now.good c.args.«module» (sym c.find_under.ensures ∙ c.in_err-owner.was))
          ∙ ap (option_map (net_of_row i.names)) (sym c.from_residual.ensures));
      named = λ row at. absurd (none_some row (sym c.from_residual.ensures ∙ at));
    }

pub returns-in_err-key : goal.returns-in_err-key
returns-in_err-key c =
    let i = c.self.inside in
    record {
      shown = rw (← c.self.view_is)
          (net_there i.names i.top (upper i.tops.now i.mods.now) i.nets.now (within_of i.names i.mods.now i.nets.now i.insts.now) c.self.invariant.all.now.good c.args.«module» c.args.net c.in_ok-owner.owner (sym c.find_under.ensures ∙ c.in_ok-owner.was)
          ∙ ap (option_and_then (net_shown i.names i.nets.now)) (sym c.find_under-2.ensures ∙ c.in_err-key.was)
          ∙ ap (option_map (net_of_row i.names)) (sym c.from_residual-in_err-key.ensures));
      named = λ row at. absurd (none_some row (sym c.from_residual-in_err-key.ensures ∙ at));
    }

pub returns : goal.returns
returns c =
    let i = c.self.inside in
    record {
      shown = rw (← c.self.view_is)
          (net_there i.names i.top (upper i.tops.now i.mods.now) i.nets.now (within_of i.names i.mods.now i.nets.now i.insts.now) c.self.invariant.all.now.good c.args.«module» c.args.net c.in_ok-owner.owner (sym c.find_under.ensures ∙ c.in_ok-owner.was)
          ∙ ap (option_and_then (net_shown i.names i.nets.now)) (sym c.find_under-2.ensures ∙ c.in_ok-key.was)
          ∙ ap (option_map (net_of_row i.names)) (sym c.get.ensures));
      named = λ row at. rw (← c.self.view_is) (c.self.invariant.all.now.good.nets_numbered.named c.in_ok-key.key (net_face row) (ap (option_map net_face) (sym c.get.ensures ∙ at)));
    }
