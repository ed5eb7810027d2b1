use Rattle.std.proofs.Common.{ap, sym, ◌∙◌, option_map}
use Rattle.row_chains.proofs.KeyLemmas.{none_some}
use Rattle.mod_core.specs.inside.Linked.{within_of, module_of_row, upper}
use Rattle.mod_core.specs.inside.Good.{mod_face}
use Rattle.mod_core.proofs.LookupLemmas.{no_module, module_there}
use Rattle.mod_core.proofs.mods.Mods.module_row.Goals as goal

pub returns-in_err-key : goal.returns-in_err-key
returns-in_err-key c =
    let i = c.self.inside in
    record {
      shown = (
        i.nets.now,
        (
          within_of i.names i.mods.now i.nets.now i.insts.now,
          rw (← c.self.view_is)
              (no_module i.names i.top (upper i.tops.now i.mods.now) i.nets.now (within_of i.names i.mods.now i.nets.now i.insts.now) c.self.invariant.all.now.good c.args.id (sym c.find_under.ensures ∙ c.in_err-key.was)
              ∙ ap (option_map (module_of_row i.names i.nets.now (within_of i.names i.mods.now i.nets.now i.insts.now))) (sym c.from_residual.ensures)),
        ),
      );
      named = λ row at. absurd (none_some row (sym c.from_residual.ensures ∙ at));
    }

pub returns : goal.returns
returns c =
    let i = c.self.inside in
    record {
      shown = (
        i.nets.now,
        (
          within_of i.names i.mods.now i.nets.now i.insts.now,
          rw (← c.self.view_is)
              (module_there i.names i.top (upper i.tops.now i.mods.now) i.nets.now (within_of i.names i.mods.now i.nets.now i.insts.now) c.self.invariant.all.now.good c.args.id c.in_ok-key.key (sym c.find_under.ensures ∙ c.in_ok-key.was)
              ∙ ap (option_map (module_of_row i.names i.nets.now (within_of i.names i.mods.now i.nets.now i.insts.now))) (sym c.get.ensures)),
        ),
      );
      named = λ row at. rw (← c.self.view_is) (c.self.invariant.all.now.good.mods_numbered.named c.in_ok-key.key (mod_face row) (ap (option_map mod_face) (sym c.get.ensures ∙ at)));
    }
