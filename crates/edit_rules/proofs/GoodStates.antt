-- A state after an edit is good where its table is, and the cells are as they were.
use Rattle.std.proofs.Common.{◌≡◌, ℕ, Bool, is_eq, Ordering, Less, Equal, Greater, true, false, cond, List, Option, Some, None, is_some, IsSome, IsTrue, refl, sym, ap, ◌∙◌, subst}
use Rattle.std.specs.FinMap.{get, get-retain_keys, get-insert, get-remove, insert, remove}
use Rattle.std.specs.Ordering.{eq_by_cmp}
use Rattle.std.proofs.lemmas.Bool.{and_parts, false≢true}
use Rattle.emh_base.specs.Path.{path_cmp, path_total}
use Rattle.emh_base.specs.Places.{PlacesByPath}
use Rattle.emh_base.specs.declared.ids.ModId.{ModId}
use Rattle.emh_base.specs.declared.ids.InstId.{InstId}
use Rattle.emh_base.specs.declared.placement.Placement.{Placement}
use Rattle.emh_base.specs.declared.plain.PModule.{PModule}
use Rattle.emh_base.specs.declared.plain.Plain.{Plain}
use Rattle.emh_base.specs.declared.state.Fanout.{Fanout}
use Rattle.emh_base.specs.declared.state.State.{State}
use Rattle.emh_base.specs.declared.edit.Edit.TheVariants.{Place, Unplace, SetFanout, SetGrid}
use Rattle.emh_base.proofs.PlacesLemmas.{path_apart}
use Rattle.flatten_rules.specs.Lookup.{module_of}
use Rattle.flatten_rules.specs.Design.{IsGood}
use Rattle.edit_rules.specs.Readers.{is_buffer, are_buffer_ports, is_bad_grid}
use Rattle.edit_rules.specs.Spots.{is_leaf_path, kept, place_rules}
use Rattle.edit_rules.specs.Settings.{set_fanout_rules, set_grid_rules}
use Rattle.edit_rules.specs.Carry.{carried}
use Rattle.edit_rules.specs.Apply.{after}
use Rattle.edit_rules.specs.Good.{IsFanout, IsGoodState}
use Rattle.edit_rules.proofs.GoodChecks.{Passes, first-passes, not-false}

-- a table after another is good, and the cells of the other are in it
pub record KeepsGood (M N : Plain) (top : ModId) : Type 0 where
  pub table : IsGood N top
  pub cells : (id : ModId) (m : PModule) → module_of M id ≡ Some m → m.leaf ≡ true → module_of N id ≡ Some m

passed : {X : Type 0} (b : Bool) (o : Option X) → IsSome (cond b o None) → b ≡ true
passed true o some = refl
passed false o some = absurd (false≢true some)

-- what is kept is at a leaf path
pub kept-placed : (N : Plain) (top : ModId) (places : PlacesByPath) (path : List InstId) → IsSome (get (kept N top places) path) → IsTrue (is_leaf_path N top path)
kept-placed N top places path some =
    let is : get (kept N top places) path ≡ cond (is_leaf_path N top path) (get places path) None =
    get-retain_keys places (is_leaf_path N top) path (λ x tied. ap (is_leaf_path N top) (sym (path_apart path x tied)))
    in
    passed (is_leaf_path N top path) (get places path) (sym (ap (λ (o : Option Placement). is_some o) is) ∙ some)

module _ (M N : Plain) (top : ModId) (keeps : KeepsGood M N top) where
  buffer-kept : (id : ModId) → IsTrue (is_buffer (module_of M id)) → IsTrue (is_buffer (module_of N id))
  buffer-kept id is = by_cases (module_of M id) refl is
    where
      by_cases : (o : Option PModule) → module_of M id ≡ o → IsTrue (is_buffer o) → IsTrue (is_buffer (module_of N id))
      by_cases None e is = absurd (false≢true is)
      by_cases (Some m) e is = ap is_buffer (keeps.cells id m e (and_parts m.leaf (are_buffer_ports m m.ports) is).0) ∙ is

  pub fanout-kept : (fanout : Fanout) → IsFanout M fanout → IsFanout N fanout
  fanout-kept fanout is = record { buffer = buffer-kept fanout.cell is.buffer; number = is.number }

-- the placements where an edit carries their paths
abbrev moved : State → PlacesByPath
moved S = carried (λ path. Some path) S.places

pub stays : (S : State) (N : Plain) → IsGoodState S → KeepsGood S.plain N S.top
    → IsGoodState (record { plain = N; top = S.top; places = kept N S.top (moved S); settings = S.settings })
stays S N good keeps = record {
  table = keeps.table;
  placed = kept-placed N S.top (moved S);
  fanout = λ limit is. fanout-kept S.plain N S.top keeps limit (good.fanout limit is);
  grid = good.grid;
}

-- Edits that leave the table.

pub set_fanout-good : (S : State) (max : ℕ) (cell : ModId) → IsGoodState S → Passes (set_fanout_rules S max cell) → IsGoodState (after S (SetFanout max cell))
set_fanout-good S max cell good p =
    let a = first-passes p in
    let b = first-passes a.1 in
    let c = first-passes b.1 in
    let given : Fanout = record { max = max; cell = cell } in
    let is : IsFanout S.plain given = record { buffer = not-false (is_buffer (module_of S.plain cell)) b.0; number = c.0 } in
    record {
      table = good.table;
      placed = kept-placed S.plain S.top (moved S);
      fanout = λ limit same. let at : given ≡ limit = cc in subst (IsFanout S.plain) at is;
      grid = good.grid;
    }

pub set_grid-good : (S : State) (grid : ℕ) → IsGoodState S → Passes (set_grid_rules grid) → IsGoodState (after S (SetGrid grid))
set_grid-good S grid good p =
    let a = first-passes p in
    record {
      table = good.table;
      placed = kept-placed S.plain S.top (moved S);
      fanout = good.fanout;
      grid = λ width same. let at : grid ≡ width = cc in subst (λ n. is_bad_grid n ≡ false) at a.0;
    }

pub is_equal : (order : Ordering) → is_eq order ≡ true → order ≡ Equal
is_equal Less e = absurd (false≢true e)
is_equal Equal e = refl
is_equal Greater e = absurd (false≢true e)

one_of : (b : Bool) (P : Type 0) (x : Placement) (o : Option Placement) → (b ≡ true → P) → (IsSome o → P) → IsSome (cond b (Some x) o) → P
one_of true P x o here there some = here refl
one_of false P x o here there some = there some

other_than : (b : Bool) (o : Option Placement) → IsSome (cond b None o) → IsSome o
other_than true o some = absurd (false≢true some)
other_than false o some = some

pub place-good : (S : State) (path : List InstId) (placement : Placement) → IsGoodState S → Passes (place_rules S path) → IsGoodState (after S (Place path placement))
place-good S path placement good p =
    let a = first-passes p in
    let b = first-passes a.1 in
    let old : PlacesByPath = kept S.plain S.top (moved S) in
    record {
      table = good.table;
      placed = λ q some.
          let is : get (insert old path placement) q ≡ cond (eq_by_cmp path_cmp q path) (Some placement) (get old q) = get-insert path_total old path placement q in
          one_of (eq_by_cmp path_cmp q path) (IsTrue (is_leaf_path S.plain S.top q)) placement (get old q)
          (λ at. rw (path_apart q path (is_equal (path_cmp q path) at)) (not-false (is_leaf_path S.plain S.top path) b.0))
          (kept-placed S.plain S.top (moved S) q) (sym (ap (λ (o : Option Placement). is_some o) is) ∙ some);
      fanout = good.fanout;
      grid = good.grid;
    }

pub unplace-good : (S : State) (path : List InstId) → IsGoodState S → IsGoodState (after S (Unplace path))
unplace-good S path good =
    let old : PlacesByPath = kept S.plain S.top (moved S) in
    record {
      table = good.table;
      placed = λ q some.
          let is : get (remove old path) q ≡ cond (eq_by_cmp path_cmp q path) None (get old q) = get-remove path_total old path q in
          kept-placed S.plain S.top (moved S) q (other_than (eq_by_cmp path_cmp q path) (get old q) (sym (ap (λ (o : Option Placement). is_some o) is) ∙ some));
      fanout = good.fanout;
      grid = good.grid;
    }
