use Rattle.std.proofs.Common.{ap, sym, subst, ◌∙◌, option_and_then}
use Rattle.std.specs.FinMap as map
use Rattle.timeline.specs.Timeline.{Timeline}
use Rattle.undo_slots.specs.Slots.{Rows}
use Rattle.row_chains.specs.Chains.{AreChains}
use Rattle.row_chains.specs.Rows.{links, ends_in}
use Rattle.row_chains.proofs.KeyLemmas.{same_some}
use Rattle.mod_core.specs.declared.rows.ModRow.{ModRow}
use Rattle.mod_core.specs.declared.rows.InstRow.{InstRow}
use Rattle.mod_core.specs.inside.Linked.{inst_rows, user_rows, user_holders}
use Rattle.mod_core.specs.inside.Changes.{InstOut, joined_rows, joined_ends}
use Rattle.mod_core.proofs.InstLemmas.{user_left, users_left}
use Rattle.mod_core.proofs.insts.inst_out.Goals as goal

pub leave-requires-clause-linked : goal.leave-requires-clause-linked
leave-requires-clause-linked c = (c.args.key, ap (option_and_then inst_rows.link_of) (sym c.get.ensures ∙ c.unwrap-row.ensures))

pub leave-requires-2-clause-chains : goal.leave-requires-2-clause-chains
leave-requires-2-clause-chains c =
    let F : Rows InstRow → Type 0 = λ m. AreChains (links user_rows m) (ends_in user_holders c.leave.new.holders.now) in
    let G : Rows ModRow → Type 0 = λ m. AreChains (links user_rows (joined_rows inst_rows c.args.insts.now.now c.unwrap-row.result.link)) (ends_in user_holders m) in
    subst F (sym c.leave.ensures.rows) (subst G (sym c.leave.ensures.holders) (users_left c.args.mods.now.now c.args.insts.now.now c.unwrap-row.result.link c.requires.users_of))

pub leave-requires-2-clause-linked : goal.leave-requires-2-clause-linked
leave-requires-2-clause-linked c = (
  c.args.key,
  ap (λ (m : Rows InstRow). links user_rows m c.args.key) c.leave.ensures.rows
      ∙ user_left c.args.mods.now.now c.args.insts.now.now c.unwrap-row.result.link c.args.key
      ∙ ap (option_and_then user_rows.link_of) (sym c.get.ensures ∙ c.unwrap-row.ensures),
)

pub returns-clause-effect : goal.returns-clause-effect
returns-clause-effect c = λ row at.
    let out = c.unwrap-row.result in
    let F : InstRow → Type 0 = λ r. InstOut c.args.mods.now.now c.leave-2.new.holders.now c.args.insts.now.now c.remove.new.self.now c.args.key r in
    subst F (same_some out row (sym (sym c.get.ensures ∙ c.unwrap-row.ensures) ∙ at)) (record {
      mods_are = c.leave-2.ensures.holders ∙ ap (λ (m : Rows ModRow). joined_ends user_holders m out.user) c.leave.ensures.holders;
      insts_are =
          ap (λ (s : Timeline (Rows InstRow)). s.now) c.remove.ensures
          ∙ ap (λ (m : Rows InstRow). map.remove m c.args.key) (c.leave-2.ensures.rows ∙ ap (λ (m : Rows InstRow). joined_rows user_rows m out.user) c.leave.ensures.rows);
    })
