-- The table of modules, after one of them has changed.
use Rattle.std.proofs.Common.{◌≡◌, ◌≢◌, ℕ, ◌<◌, ◌≤◌, ◌==◌, true, false, Bool, cond, List, length, Option, Some, None, option_map, option_and_then, refl, sym, ap, subst, ◌∙◌, inl, inr, arith}
use Rattle.std.proofs.lemmas.Grind.{common_steps}
use Rattle.std.proofs.lemmas.Bool.{cases_eq}
use Rattle.std.specs.FinMap as rows
use Rattle.emh_base.specs.declared.ids.ModId.{ModId}
use Rattle.emh_base.specs.declared.plain.PInst.{PInst}
use Rattle.emh_base.specs.declared.plain.PModule.{PModule}
use Rattle.flatten_rules.specs.Changes.{with_module}
use Rattle.undo_slots.specs.Slots.{Rows}
use Rattle.row_chains.specs.declared.link.Ends.{Ends}
use Rattle.row_chains.specs.Chains.{AreChains}
use Rattle.row_chains.specs.Rows.{ChainHolders, links, ends_in}
use Rattle.row_chains.proofs.KeyLemmas.{same_some}
use Rattle.row_chains.proofs.TableLemmas.{AreChains-same, listed-mapped}
use Rattle.mod_core.specs.declared.rows.ModRow.{ModRow}
use Rattle.mod_core.specs.declared.rows.NetRow.{NetRow}
use Rattle.mod_core.specs.inside.Linked.{mod_rows, mod_holders, inst_holders, user_holders, opens, Master, master_of_row, master_at, module_of_row, module_shown, table_from, table_of, Upper, upper}
use Rattle.mod_core.specs.inside.Good.{ModFace, mod_face, mod_faces, mod_side, mod_sides, AreModsNumbered, IsGood}
use Rattle.mod_core.proofs.NumberLemmas.{WasCounted, mods_from}

pub unequal : (a b : ℕ) → a ≢ b → (a == b) ≡ false
unequal a b d = grind (arith, common_steps)

pub itself : (a : ℕ) → (a == a) ≡ true
itself a = grind (arith, common_steps)

-- modules' rows are of the same chains of instances and users, and no counter of instances has fallen
pub record Quiet (mods mods' : Rows ModRow) : Type 0 where
  pub insts : (o : ℕ) → ends_in inst_holders mods' o ≡ ends_in inst_holders mods o
  pub users : (o : ℕ) → ends_in user_holders mods' o ≡ ends_in user_holders mods o
  pub counted : (o : ℕ) (a : ModFace) → mod_sides mods' o ≡ Some a → WasCounted (mod_sides mods) o a

-- the table has the module of an id as it is changed
pub record Changed (names : List (List ℕ)) (top : ℕ) (up up' : Upper) (nets nets' : Rows NetRow) (within within' : Ends → List PInst) (id : ModId) (change : PModule → PModule) : Type 0 where
  pub shown : (k : ℕ) → module_shown names up'.mods nets' within' k ≡ option_map (λ (m : PModule). cond (m.id.0 == id.0) (change m) m) (module_shown names up.mods nets within k)
  pub table : table_of names top up' nets' within' ≡ with_module (table_of names top up nets within) id change

module _ (names : List (List ℕ)) (top : ℕ) (up : Upper) (mods' : Rows ModRow) (nets nets' : Rows NetRow) (g : IsGood (length names) top up nets) (owner : ℕ) (row row' : ModRow)
    (was : rows.get up.mods owner ≡ Some row) (becomes : rows.get mods' owner ≡ Some row') (others : (o : ℕ) → o ≢ owner → rows.get mods' o ≡ rows.get up.mods o) (linked : row'.link ≡ row.link) where
  mod_links : (k : ℕ) → links mod_rows mods' k ≡ links mod_rows up.mods k
  mod_links k = elim (cases_eq k owner) [
    | inl e ↦ ap (option_and_then mod_rows.link_of) (ap (rows.get mods') e ∙ becomes) ∙ ap (λ l. Some l) linked ∙ sym (ap (option_and_then mod_rows.link_of) (ap (rows.get up.mods) e ∙ was))
    | inr d ↦ ap (option_and_then mod_rows.link_of) (others k d)
  ]

  -- the modules are linked as before
  pub changed_chains : AreChains (links mod_rows mods') (ends_in mod_holders up.tops)
  changed_chains = AreChains-same mod_rows (links mod_rows up.mods) (links mod_rows mods') (ends_in mod_holders up.tops) (ends_in mod_holders up.tops) mod_links (λ o. refl) g.modules

  pub other_id : (k : ℕ) (r : ModRow) → k ≢ owner → rows.get up.mods k ≡ Some r → r.id.0 ≢ row.id.0
  other_id k r d at e = d (g.mods_numbered.one k owner (mod_face r) (mod_face row) (ap (option_map mod_face) at) (ap (option_map mod_face) was) e)

  was_face : mod_faces up.mods owner ≡ Some (mod_face row)
  was_face = ap (option_map mod_face) was

  is_face : (k : ℕ) (a : ModFace) → k ≡ owner → mod_faces mods' k ≡ Some a → mod_face row' ≡ a
  is_face k a e at = same_some (mod_face row') a (sym (ap (option_map mod_face) becomes) ∙ ap (mod_faces mods') (sym e) ∙ at)

  old_face : (k : ℕ) (a : ModFace) → k ≢ owner → mod_faces mods' k ≡ Some a → mod_faces up.mods k ≡ Some a
  old_face k a d at = sym (ap (option_map mod_face) (others k d)) ∙ at

  -- ids stay
  pub changed_numbered : row'.id ≡ row.id → row'.name < length names → AreModsNumbered (length names) g.root.next_module (mod_faces mods')
  changed_numbered same few = mods_from (length names) g.root.next_module (mod_faces up.mods) (mod_faces mods') g.mods_numbered (λ k a at. elim (cases_eq k owner) [
    | inl e ↦ record {
      was = mod_face row;
      at = ap (mod_faces up.mods) e ∙ was_face;
      id = ap (λ (z : ModId). z.0) (sym same) ∙ ap (λ (z : ModFace). z.id) (is_face k a e at);
      named = subst (λ (z : ModFace). z.name < length names) (is_face k a e at) few;
    }
    | inr d ↦ record { was = a; at = old_face k a d at; id = refl; named = g.mods_numbered.named k a (old_face k a d at) }
  ])

  pub counted_by : (F : ModRow → ModFace) → (F row).next_net ≤ (F row').next_net → (o : ℕ) (a : ModFace) → option_map F (rows.get mods' o) ≡ Some a → WasCounted (λ k. option_map F (rows.get up.mods k)) o a
  counted_by F grows o a at = elim (cases_eq o owner) [
    | inl e ↦
        let is : F row' ≡ a = same_some (F row') a (sym (ap (option_map F) (ap (rows.get mods') e ∙ becomes)) ∙ at) in
        record { was = F row; at = ap (option_map F) (ap (rows.get up.mods) e ∙ was); counted = subst (λ (z : ModFace). (F row).next_net ≤ z.next_net) is grows }
    | inr d ↦ record { was = a; at = sym (ap (option_map F) (others o d)) ∙ at; counted = at_most a.next_net }
  ]
    where
      at_most : (x : ℕ) → x ≤ x
      at_most x = omega arith

  pub changed_counted : row.next_net ≤ row'.next_net → (o : ℕ) (a : ModFace) → mod_faces mods' o ≡ Some a → WasCounted (mod_faces up.mods) o a
  changed_counted grows o a at = counted_by mod_face grows o a at

  -- the ends of a kind of chain that is not changed
  pub changed_ends : (H : ChainHolders ModRow) → H.ends_of row' ≡ H.ends_of row → (o : ℕ) → ends_in H mods' o ≡ ends_in H up.mods o
  changed_ends H same o = elim (cases_eq o owner) [
    | inl e ↦ ap (option_map H.ends_of) (ap (rows.get mods') e ∙ becomes) ∙ ap (λ z. Some z) same ∙ sym (ap (option_map H.ends_of) (ap (rows.get up.mods) e ∙ was))
    | inr d ↦ ap (option_map H.ends_of) (others o d)
  ]

  pub quiet : row'.insts ≡ row.insts → row'.users ≡ row.users → row.next_inst ≤ row'.next_inst → Quiet up.mods mods'
  quiet i u grows = record { insts = changed_ends inst_holders i; users = changed_ends user_holders u; counted = λ o a at. counted_by mod_side grows o a at }

  module _ (within within' : Ends → List PInst) (change : PModule → PModule) (here : module_of_row names nets' within' row' ≡ change (module_of_row names nets within row)) (there : (o : ℕ) (r : ModRow) → o ≢ owner → rows.get up.mods o ≡ Some r → module_of_row names nets' within' r ≡ module_of_row names nets within r) where
    abbrev pub update : PModule → PModule
    update m = cond (m.id.0 == row.id.0) (change m) m

    shown_other : (k : ℕ) → k ≢ owner → (o : Option ModRow) → rows.get up.mods k ≡ o → option_map (module_of_row names nets' within') o ≡ option_map update (option_map (module_of_row names nets within) o)
    shown_other k d None at = refl
    shown_other k d (Some r) at =
        ap (λ m. Some m) (there k r d at)
        ∙ ap (λ b. Some (cond b (change (module_of_row names nets within r)) (module_of_row names nets within r))) (sym (unequal r.id.0 row.id.0 (other_id k r d at)))

    pub changed_shown : (k : ℕ) → module_shown names mods' nets' within' k ≡ option_map update (module_shown names up.mods nets within k)
    changed_shown k = elim (cases_eq k owner) [
      | inl e ↦
          ap (option_map (module_of_row names nets' within')) (ap (rows.get mods') e ∙ becomes)
          ∙ ap (λ m. Some m) here
          ∙ ap (λ b. Some (cond b (change (module_of_row names nets within row)) (module_of_row names nets within row))) (sym (itself row.id.0))
          ∙ sym (ap (λ o. option_map update (option_map (module_of_row names nets within) o)) (ap (rows.get up.mods) e ∙ was))
      | inr d ↦ ap (option_map (module_of_row names nets' within')) (others k d) ∙ shown_other k d (rows.get up.mods k) refl
    ]

    -- the table has the module as it is changed
    pub changed_table : table_of names top (upper up.tops mods') nets' within' ≡ with_module (table_of names top up nets within) row.id change
    changed_table =
        ap (table_from names mods' nets' within') g.rooted
        ∙ (λ i. record {
          modules = listed-mapped mod_rows up.mods mods' (ends_in mod_holders up.tops) g.modules mod_links (module_shown names up.mods nets within) (module_shown names mods' nets' within') update top g.root.modules (ap (option_map mod_holders.ends_of) g.rooted) (λ k link at of. changed_shown k) i;
          next_module = g.root.next_module;
        })
        ∙ sym (ap (λ o. with_module (table_from names up.mods nets within o) row.id change) g.rooted)

    pub changed : Changed names top up (upper up.tops mods') nets nets' within within' row.id change
    changed = record { shown = changed_shown; table = changed_table }

-- what instances show of a module that is shown so
abbrev pub master_of_module : PModule → Master
master_of_module m = record { id = m.id; conns = opens m.ports }

pub master_shown : (names : List (List ℕ)) (mods : Rows ModRow) (nets : Rows NetRow) (within : Ends → List PInst) (k : ℕ) → master_at mods nets k ≡ option_map master_of_module (module_shown names mods nets within k)
master_shown names mods nets within k = one (rows.get mods k)
  where
    one : (o : Option ModRow) → option_map (master_of_row nets) o ≡ option_map master_of_module (option_map (module_of_row names nets within) o)
    one None = refl
    one (Some r) = refl

module _ (names : List (List ℕ)) (top : ℕ) (up up' : Upper) (nets nets' : Rows NetRow) (within within' : Ends → List PInst) (id : ModId) (change : PModule → PModule) (c : Changed names top up up' nets nets' within within' id change) where
  -- instances show their masters as they are changed
  pub changed_masters : (each : Master → Master) → ((k : ℕ) (m : PModule) → module_shown names up.mods nets within k ≡ Some m → (m.id.0 == id.0) ≡ true → master_of_module (change m) ≡ each (master_of_module m)) → (k : ℕ) → master_at up'.mods nets' k ≡ option_map (λ (z : Master). cond (z.id.0 == id.0) (each z) z) (master_at up.mods nets k)
  changed_masters each seen k =
      master_shown names up'.mods nets' within' k
      ∙ ap (option_map master_of_module) (c.shown k)
      ∙ one (module_shown names up.mods nets within k) refl
      ∙ sym (ap (option_map (λ (z : Master). cond (z.id.0 == id.0) (each z) z)) (master_shown names up.mods nets within k))
    where
      by : (m : PModule) → module_shown names up.mods nets within k ≡ Some m → (b : Bool) → (m.id.0 == id.0) ≡ b → master_of_module (cond b (change m) m) ≡ cond b (each (master_of_module m)) (master_of_module m)
      by m at true e = seen k m at e
      by m at false e = refl

      one : (o : Option PModule) → module_shown names up.mods nets within k ≡ o → option_map master_of_module (option_map (λ (m : PModule). cond (m.id.0 == id.0) (change m) m) o) ≡ option_map (λ (z : Master). cond (z.id.0 == id.0) (each z) z) (option_map master_of_module o)
      one None at = refl
      one (Some m) at = ap (λ z. Some z) (by m at (m.id.0 == id.0) refl)

  -- and as they were, where their ports stay
  pub same_masters : ((m : PModule) → master_of_module (change m) ≡ master_of_module m) → (k : ℕ) → master_at up'.mods nets' k ≡ master_at up.mods nets k
  same_masters seen k = changed_masters (λ z. z) (λ q m at e. seen m) k ∙ one (master_at up.mods nets k)
    where
      by : (z : Master) (b : Bool) → cond b z z ≡ z
      by z true = refl
      by z false = refl

      one : (o : Option Master) → option_map (λ (z : Master). cond (z.id.0 == id.0) z z) o ≡ o
      one None = refl
      one (Some z) = ap (λ x. Some x) (by z (z.id.0 == id.0))
