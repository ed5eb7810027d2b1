-- What look-ups of instances find, and what the methods of instances do to the table.
use Rattle.std.proofs.Common.{◌≡◌, ℕ, ◌<◌, ◌≤◌, ◌==◌, not, filter, cond, List, length, Option, Some, None, option_map, option_and_then, is_some, true, refl, sym, ap, subst, ◌∙◌, arith}
use Rattle.std.specs.FinMap as rows
use Rattle.emh_base.specs.declared.ids.ModId.{ModId}
use Rattle.emh_base.specs.declared.ids.InstId.{InstId}
use Rattle.emh_base.specs.declared.plain.PInst.{PInst}
use Rattle.emh_base.specs.declared.plain.PModule.{PModule}
use Rattle.emh_base.specs.declared.plain.Plain.{Plain}
use Rattle.flatten_rules.specs.Lookup.{inst_of}
use Rattle.flatten_rules.specs.Changes.{inst_in, with_module, with_insts}
use Rattle.flatten_rules.specs.InstChanges.{all_open, with_new_inst, create_inst, delete_inst, rename_inst}
use Rattle.undo_slots.specs.Slots.{Rows}
use Rattle.row_chains.specs.declared.link.Link.{Link}
use Rattle.row_chains.specs.declared.link.Ends.{Ends}
use Rattle.row_chains.specs.Rows.{key_in}
use Rattle.row_chains.proofs.KeyLemmas.{same_some}
use Rattle.row_chains.proofs.FindLemmas.{found, find-listed}
use Rattle.mod_core.specs.declared.rows.TopRow.{TopRow}
use Rattle.mod_core.specs.declared.rows.ModRow.{ModRow}
use Rattle.mod_core.specs.declared.rows.NetRow.{NetRow}
use Rattle.mod_core.specs.declared.rows.InstRow.{InstRow}
use Rattle.mod_core.specs.inside.Linked.{inst_rows, inst_holders, ports_from, opens, master_of_row, master_at, inst_of as seen_of, inst_of_row, inst_shown, within_of, table_of, Upper, upper, lower}
use Rattle.mod_core.specs.inside.Good.{IsGood, IsWhole}
use Rattle.mod_core.specs.inside.Changes.{InstIn, InstOut}
use Rattle.mod_core.specs.Mods.{name_at}
use Rattle.mod_core.proofs.LookupLemmas.{some_of, mod_key, IsModule, found_module}
use Rattle.mod_core.proofs.UserLemmas.{master_live}
use Rattle.mod_core.proofs.InstLemmas.{mods_in, insts_in, inst_in_whole}
use Rattle.mod_core.proofs.InstOutLemmas.{mods_out, insts_out, inst_out_whole, insts_set, inst_set_whole}
use Rattle.mod_core.proofs.WholeLemmas.{ShowsWhole, shows_whole}

-- what is read of an instance by the row and that of its master
pub record IsRead (names : List (List ℕ)) (read : Option PInst) (row : InstRow) (master : ModRow) : Type 0 where
  pub name_is : option_map (λ (there : PInst). there.name) read ≡ Some (name_at names row.name)
  pub master_is : option_map (λ (there : PInst). there.master) read ≡ Some master.id

module _ (names : List (List ℕ)) (top : ℕ) (tops : Rows TopRow) (mods : Rows ModRow) (nets : Rows NetRow) (insts : Rows InstRow) (w : IsWhole (length names) top (lower (upper tops mods) nets) insts) where
  abbrev up : Upper
  up = upper tops mods

  abbrev within : Ends → List PInst
  within = within_of names mods nets insts

  abbrev g : IsGood (length names) top up nets
  g = w.good

  abbrev table : Plain
  table = table_of names top up nets within

  -- each row shows an instance
  inst_seen : (k : ℕ) (r : InstRow) → rows.get insts k ≡ Some r → (x : PInst) × ((inst_shown names (master_at mods nets) insts k ≡ Some x) × (x.id.0 ≡ r.id.0))
  inst_seen k r at =
      let m = some_of (rows.get mods r.user.owner) (master_live names top tops mods nets insts w k r at) in (
        seen_of names r (master_of_row nets m.0),
        (
          ap (option_and_then (inst_of_row names (master_at mods nets))) at ∙ ap (λ o. option_map (seen_of names r) (option_map (master_of_row nets) o)) m.1,
          refl,
        ),
      )

  module _ (id : ModId) (owner : ℕ) (named : mod_key names top up nets within g id ≡ Some owner) where
    abbrev holder : IsModule names top up nets within g id owner
    holder = found_module names top up nets within g id owner named

    abbrev pub inst_key : InstId → Option ℕ
    inst_key inst = key_in inst_rows inst_holders (λ r. r.id.0) insts mods owner inst.0

    pub inst_there : (inst : InstId) → inst_in table id inst ≡ option_and_then (inst_shown names (master_at mods nets) insts) (inst_key inst)
    inst_there inst =
        ap (option_and_then (λ (h : PModule). inst_of h inst)) holder.shown
        ∙ find-listed inst_rows inst_holders (λ r. r.id.0) insts mods w.insts_of owner holder.row holder.at (inst_shown names (master_at mods nets) insts) (λ (x : PInst). x.id.0)
        (λ k r link at linked mine. inst_seen k r at) inst.0

    pub live_inst : (inst : InstId) → is_some (inst_in table id inst) ≡ true → is_some (inst_key inst) ≡ true
    live_inst inst live = one (inst_key inst) (sym (ap is_some (inst_there inst)) ∙ live)
      where
        one : (o : Option ℕ) → is_some (option_and_then (inst_shown names (master_at mods nets) insts) o) ≡ true → is_some o ≡ true
        one None e = e
        one (Some k) e = refl

    module _ (inst : InstId) (key : ℕ) (keyed : inst_key inst ≡ Some key) where
      pub record IsInst : Type 0 where
        pub row : InstRow
        pub master : ModRow
        pub at : rows.get insts key ≡ Some row
        pub there : rows.get mods row.user.owner ≡ Some master
        pub mine : row.link.owner ≡ owner
        pub id_is : row.id ≡ inst

      pub found_inst : IsInst
      found_inst =
          let f = found inst_rows inst_holders (λ r. r.id.0) insts mods w.insts_of owner holder.row holder.at inst.0 key keyed in
          let m = some_of (rows.get mods f.row.user.owner) (master_live names top tops mods nets insts w key f.row f.at) in
          record {
            row = f.row;
            master = m.0;
            at = f.at;
            there = m.1;
            mine = ap (λ (l : Link). l.owner) (same_some f.row.link f.link f.linked) ∙ f.mine;
            id_is = (λ i. record { 0 = f.numbered i });
          }

      abbrev stood : IsInst
      stood = found_inst

      -- the instance is read of the rows
      pub inst_read : (row : InstRow) (master : ModRow) → rows.get insts key ≡ Some row → rows.get mods row.user.owner ≡ Some master → IsRead names (inst_in table id inst) row master
      inst_read row master at there =
          let shown : inst_in table id inst ≡ Some (seen_of names row (master_of_row nets master)) =
          inst_there inst
          ∙ ap (option_and_then (inst_shown names (master_at mods nets) insts)) keyed
          ∙ ap (option_and_then (inst_of_row names (master_at mods nets))) at
          ∙ ap (λ o. option_map (seen_of names row) (option_map (master_of_row nets) o)) there in
          record { name_is = ap (option_map (λ (x : PInst). x.name)) shown; master_is = ap (option_map (λ (x : PInst). x.master)) shown }

      was_held : rows.get mods stood.row.link.owner ≡ Some holder.row
      was_held = ap (rows.get mods) stood.mine ∙ holder.at

      pub inst_gone : (mods' : Rows ModRow) (insts' : Rows InstRow) → ((row : InstRow) → rows.get insts key ≡ Some row → InstOut mods mods' insts insts' key row) → ShowsWhole names top (delete_inst table id inst) tops mods' nets insts'
      inst_gone mods' insts' effect =
          let s = stood in
          let u = effect s.row s.at in
          let m1 : Rows ModRow = mods_out names top tops mods nets insts w key s.row holder.row s.at was_held in
          let i1 : Rows InstRow = insts_out names top tops mods nets insts w key s.row holder.row s.at was_held in
          let F : Plain → Type 0 = λ M. ShowsWhole names top M tops mods' nets insts' in
          subst F (λ i. with_module table (holder.id_is i) (λ m. record m { insts = filter (λ other. not (other.id.0 == (s.id_is i).0)) m.insts }))
          (shows_whole names top (with_module table holder.row.id (λ m. record m { insts = filter (λ other. not (other.id.0 == s.row.id.0)) m.insts })) tops tops m1 mods' nets i1 insts' refl u.mods_are u.insts_are (inst_out_whole names top tops mods nets insts w key s.row holder.row s.at was_held s.master s.there))

      pub inst_renamed : (row : InstRow) (name : ℕ) (insts' : Rows InstRow) → rows.get insts key ≡ Some row → name < length names → insts' ≡ rows.insert insts key (record row { name = name }) → ShowsWhole names top (rename_inst table id inst (name_at names name)) tops mods nets insts'
      inst_renamed row name insts' at few is =
          let s = stood in
          let same : row ≡ s.row = same_some row s.row (sym at ∙ s.at) in
          let i1 : Rows InstRow = insts_set names top tops mods nets insts w key s.row holder.row name s.at was_held few in
          let F : Plain → Type 0 = λ M. ShowsWhole names top M tops mods nets insts' in
          subst F (λ i. with_module table (holder.id_is i) (with_insts (λ other. cond (other.id.0 == (s.id_is i).0) (record other { name = name_at names name }) other)))
          (shows_whole names top (with_module table holder.row.id (with_insts (λ other. cond (other.id.0 == s.row.id.0) (record other { name = name_at names name }) other))) tops tops mods mods nets i1 insts' refl refl (is ∙ ap (λ (r : InstRow). rows.insert insts key (record r { name = name })) same) (inst_set_whole names top tops mods nets insts w key s.row holder.row name s.at was_held few))

    -- an instance has come last, of a module that is there
    pub inst_made : (master : ModId) (user key name : ℕ) (row : ModRow) (mods' : Rows ModRow) (insts' : Rows InstRow) → mod_key names top up nets within g master ≡ Some user → rows.get mods owner ≡ Some row → name < length names
        → ((r used : ModRow) → rows.get mods owner ≡ Some r → rows.get mods user ≡ Some used → InstIn mods mods' insts insts' owner user key r used row.next_inst name) → ShowsWhole names top (create_inst table id (name_at names name) master) tops mods' nets insts'
    inst_made master user key name row mods' insts' keyed at few effect =
        let m = found_module names top up nets within g master user keyed in
        let u = effect row m.row at m.at in
        let m1 : Rows ModRow = mods_in names top tops mods nets insts w owner user key row.next_inst name row m.row at m.at u.absent (at_most row.next_inst) few in
        let i1 : Rows InstRow = insts_in names top tops mods nets insts w owner user key row.next_inst name row m.row at m.at u.absent (at_most row.next_inst) few in
        let mine : row.id ≡ id = ap (λ (r : ModRow). r.id) (same_some row holder.row (sym at ∙ holder.at)) ∙ holder.id_is in
        let F : Plain → Type 0 = λ M. ShowsWhole names top M tops mods' nets insts' in
        subst F (λ i. with_module table (mine i) (with_new_inst (name_at names name) (m.id_is i) (all_open (sym m.shown i))))
        (shows_whole names top (with_module table row.id (with_new_inst (name_at names name) m.row.id (opens (ports_from nets m.row.ports)))) tops tops m1 mods' nets i1 insts' refl u.mods_are u.insts_are (inst_in_whole names top tops mods nets insts w owner user key row.next_inst name row m.row at m.at u.absent (at_most row.next_inst) few refl))
      where
        at_most : (x : ℕ) → x ≤ x
        at_most x = omega arith
