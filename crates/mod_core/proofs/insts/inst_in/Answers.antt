use Rattle.std.proofs.Common.{◌≡◌, Some, ap, sym, subst, ◌∙◌, option_map, is_some, refl}
use Rattle.std.specs.FinMap as map
use Rattle.timeline.specs.Timeline.{Timeline}
use Rattle.undo_slots.specs.Slots.{Rows}
use Rattle.row_chains.specs.declared.link.Ends.{Ends}
use Rattle.row_chains.specs.Rows.{ends_in}
use Rattle.row_chains.proofs.KeyLemmas.{same_some}
use Rattle.row_chains.proofs.LiveLemmas.{last_live, live_insert}
use Rattle.row_chains.proofs.TableLemmas.{seen-lead_at}
use Rattle.mod_core.specs.declared.rows.ModRow.{ModRow}
use Rattle.mod_core.specs.declared.rows.InstRow.{InstRow}
use Rattle.mod_core.specs.inside.Linked.{inst_rows, inst_holders, user_rows, user_holders}
use Rattle.mod_core.specs.inside.Changes.{new_inst, with_last_inst, InstIn}
use Rattle.mod_core.proofs.InstLemmas.{users_kept, inst_come}
use Rattle.mod_core.proofs.insts.inst_in.Goals as goal

pub append-requires-clause-last : goal.append-requires-clause-last
append-requires-clause-last c = λ k e.
    let held = ap (option_map inst_holders.ends_of) (sym c.get.ensures ∙ c.unwrap-row.ensures) in
    ap (λ (s : Timeline (Rows InstRow)). is_some (map.get s.now k)) c.add-key.ensures.added
    ∙ live_insert c.args.insts.now.now c.add-key.result (new_inst c.args.owner c.unwrap-row.result c.args.master c.unwrap-used.result c.args.id.0 c.args.name) k (last_live inst_rows c.args.insts.now.now (ends_in inst_holders c.args.mods.now.now) c.requires.insts_of c.args.owner c.unwrap-row.result.insts held k e)

pub unwrap-holder-requires : goal.unwrap-holder-requires
unwrap-holder-requires c =
    ap is_some c.get-3.ensures
    ∙ ap (λ (m : Rows ModRow). is_some (map.get m c.args.master)) c.append.ensures.holders
    ∙ live_insert c.args.mods.now.now c.args.owner (with_last_inst c.args.id.0 c.add-key.result c.unwrap-row.result) c.args.master c.requires.master

pub append-requires-2-clause-last : goal.append-requires-2-clause-last
append-requires-2-clause-last c = λ k e.
    let row = c.unwrap-row.result in
    let used = c.unwrap-used.result in
    let at : map.get c.args.mods.now.now c.args.owner ≡ Some row = sym c.get.ensures ∙ c.unwrap-row.ensures in
    let there : map.get c.args.mods.now.now c.args.master ≡ Some used = sym c.get-2.ensures ∙ c.unwrap-used.ensures in
    let kept = users_kept c.args.mods.now.now c.args.owner c.args.master c.args.id.0 c.add-key.result row used c.unwrap-holder.result at there
    (ap (λ (m : Rows ModRow). map.get m c.args.master) (sym c.append.ensures.holders) ∙ sym c.get-3.ensures ∙ c.unwrap-holder.ensures) in
    ap (λ (m : Rows InstRow). is_some (map.get m k)) c.append.ensures.rows
    ∙ seen-lead_at inst_rows is_some (λ r to. refl) c.add-key.new.self.now row.insts.last (Some c.add-key.result) k
    ∙ ap (λ (s : Timeline (Rows InstRow)). is_some (map.get s.now k)) c.add-key.ensures.added
    ∙ live_insert c.args.insts.now.now c.add-key.result (new_inst c.args.owner row c.args.master used c.args.id.0 c.args.name) k (last_live user_rows c.args.insts.now.now (ends_in user_holders c.args.mods.now.now) c.requires.users_of c.args.master used.users (ap (option_map user_holders.ends_of) there) k (ap (λ (z : Ends). z.last) (sym kept) ∙ e))

pub returns-clause-effect : goal.returns-clause-effect
returns-clause-effect c = λ row used at there.
    let first : map.get c.args.mods.now.now c.args.owner ≡ Some c.unwrap-row.result = sym c.get.ensures ∙ c.unwrap-row.ensures in
    let second : map.get c.args.mods.now.now c.args.master ≡ Some c.unwrap-used.result = sym c.get-2.ensures ∙ c.unwrap-used.ensures in
    let come = inst_come c.args.mods.now.now c.append.new.holders.now c.append-2.new.holders.now c.args.insts.now.now c.add-key.new.self.now c.append.new.rows.now c.append-2.new.rows.now c.args.owner c.args.master c.add-key.result c.args.id.0 c.args.name c.unwrap-row.result c.unwrap-used.result c.unwrap-holder.result first second c.add-key.ensures.fresh.now
    (ap (λ (s : Timeline (Rows InstRow)). s.now) c.add-key.ensures.added) c.append.ensures.rows c.append.ensures.holders (sym c.get-3.ensures ∙ c.unwrap-holder.ensures) c.append-2.ensures.rows c.append-2.ensures.holders in
    let F : ModRow → Type 0 = λ r. InstIn c.args.mods.now.now c.append-2.new.holders.now c.args.insts.now.now c.append-2.new.rows.now c.args.owner c.args.master c.add-key.result r c.unwrap-used.result c.args.id.0 c.args.name in
    let G : ModRow → Type 0 = λ u. InstIn c.args.mods.now.now c.append-2.new.holders.now c.args.insts.now.now c.append-2.new.rows.now c.args.owner c.args.master c.add-key.result row u c.args.id.0 c.args.name in
    subst G (same_some c.unwrap-used.result used (sym second ∙ there)) (subst F (same_some c.unwrap-row.result row (sym first ∙ at)) come)
