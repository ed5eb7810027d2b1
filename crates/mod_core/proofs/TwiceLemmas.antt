-- A module that is changed twice, and all instances of a module.
use Rattle.std.proofs.Common.{◌≡◌, ℕ, ◌==◌, Bool, true, false, cond, List, [], ◌∷◌, map, Option, Some, None, option_map, refl, ap, ◌∙◌}
use Rattle.std.specs.List.{filter_map, cons_option}
use Rattle.std.specs.FinMap as rows
use Rattle.emh_base.specs.declared.ids.ModId.{ModId}
use Rattle.emh_base.specs.declared.plain.PInst.{PInst}
use Rattle.emh_base.specs.declared.plain.PModule.{PModule}
use Rattle.emh_base.specs.declared.plain.Plain.{Plain}
use Rattle.flatten_rules.specs.Changes.{with_module, with_insts, at_instances}
use Rattle.undo_slots.specs.Slots.{Rows}
use Rattle.row_chains.specs.declared.link.Ends.{Ends}
use Rattle.row_chains.specs.Rows.{keys}
use Rattle.mod_core.specs.declared.rows.TopRow.{TopRow}
use Rattle.mod_core.specs.declared.rows.ModRow.{ModRow}
use Rattle.mod_core.specs.declared.rows.NetRow.{NetRow}
use Rattle.mod_core.specs.inside.Linked.{mod_rows, module_of_row, module_shown, table_from, table_of, upper}

pub twice : (f g : PModule → PModule) → ((m : PModule) → (f m).id ≡ m.id) → (M : Plain) (id : ModId) → with_module (with_module M id f) id g ≡ with_module M id (λ m. g (f m))
twice f g same M id = λ i. record M { modules = all M.modules i }
  where
    by : (m : PModule) (b : Bool) → (m.id.0 == id.0) ≡ b → cond ((cond b (f m) m).id.0 == id.0) (g (cond b (f m) m)) (cond b (f m) m) ≡ cond b (g (f m)) m
    by m true e = ap (λ (x : ModId). cond (x.0 == id.0) (g (f m)) (f m)) (same m) ∙ ap (λ b. cond b (g (f m)) (f m)) e
    by m false e = ap (λ b. cond b (g m) m) e

    all : (ms : List PModule) → map (λ (m : PModule). cond (m.id.0 == id.0) (g m) m) (map (λ (m : PModule). cond (m.id.0 == id.0) (f m) m) ms) ≡ map (λ (m : PModule). cond (m.id.0 == id.0) (g (f m)) m) ms
    all [] = refl
    all (m ∷ ms) = λ i. by m (m.id.0 == id.0) refl i ∷ all ms i

module _ (names : List (List ℕ)) (mods : Rows ModRow) (nets : Rows NetRow) (within : Ends → List PInst) (id : ModId) (change : PInst → PInst) where
  abbrev at_each : PInst → PInst
  at_each inst = cond (inst.master.0 == id.0) (change inst) inst

  abbrev pub mapped_within : Ends → List PInst
  mapped_within ends = map at_each (within ends)

  shown_each : (ks : List ℕ) → map (with_insts at_each) (filter_map (module_shown names mods nets within) ks) ≡ filter_map (module_shown names mods nets mapped_within) ks
  shown_each [] = refl
  shown_each (k ∷ ks) = one (rows.get mods k) (shown_each ks)
    where
      one : (o : Option ModRow) → map (with_insts at_each) (filter_map (module_shown names mods nets within) ks) ≡ filter_map (module_shown names mods nets mapped_within) ks → map (with_insts at_each) (cons_option (option_map (module_of_row names nets within) o) (filter_map (module_shown names mods nets within) ks)) ≡ cons_option (option_map (module_of_row names nets mapped_within) o) (filter_map (module_shown names mods nets mapped_within) ks)
      one None e = e
      one (Some r) e = ap (λ ms. module_of_row names nets mapped_within r ∷ ms) e

  -- each instance of a module, in all modules
  pub mapped_instances : (tops : Rows TopRow) (top : ℕ) → at_instances (table_of names top (upper tops mods) nets within) id change ≡ table_of names top (upper tops mods) nets mapped_within
  mapped_instances tops top = one (rows.get tops top)
    where
      one : (o : Option TopRow) → at_instances (table_from names mods nets within o) id change ≡ table_from names mods nets mapped_within o
      one None = refl
      one (Some root) = λ i. record (table_from names mods nets within (Some root)) { modules = shown_each (keys mod_rows mods root.modules.first) i }
