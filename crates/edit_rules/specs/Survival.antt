-- Which block instances survive an edit, and edits in order, and as which. This project's own.
use Rattle.std.specs.Prelude.{◌≡◌, ◌≢◌, List, [], ◌∷◌, Option, Some, None, IsTrue}
use Rattle.emh_base.specs.declared.ids.InstId.{InstId}
use Rattle.emh_base.specs.declared.state.State.{State}
use Rattle.emh_base.specs.declared.edit.By.{By}
use Rattle.emh_base.specs.declared.edit.Edit.{Edit}
use Rattle.emh_base.specs.declared.edit.Edit.TheVariants.{Place, Unplace}
use Rattle.edit_rules.specs.Spots.{is_leaf_path}
use Rattle.edit_rules.specs.Carry.{carry}
use Rattle.edit_rules.specs.Apply.{after}

-- the block instance at p survives an edit as the one at q: the edit carries p to q, and a block
-- instance is there
pub record Survives (S : State) (e : Edit) (p q : List InstId) : Type 0 where
  pub before : IsTrue (is_leaf_path S.plain S.top p)
  pub carried : carry S e p ≡ Some q
  pub there : IsTrue (is_leaf_path (after S e).plain (after S e).top q)

-- the path of the placement that an edit sets or takes out
abbrev pub placed_path : Edit → Option (List InstId)
placed_path (Place path placement) = Some path
placed_path (Unplace path) = Some path
placed_path _ = None

-- the block instance at p survives each of some edits in order, and is at q after the last
abbrev pub SurvivesEach : State → List (By × Edit) → List InstId → List InstId → Type 0
SurvivesEach S [] p q = p ≡ q
SurvivesEach S (step ∷ steps) p q =
    (r : List InstId) × (Survives S step.1 p r × SurvivesEach (after S step.1) steps r q)

-- none of them sets or takes out the placement at the path that it has then
abbrev pub IsLeftAlone : State → List (By × Edit) → List InstId → Type 0
IsLeftAlone S [] p = Unit {0}
IsLeftAlone S (step ∷ steps) p =
    (placed_path step.1 ≢ Some p)
    × ((r : List InstId) → carry S step.1 p ≡ Some r → IsLeftAlone (after S step.1) steps r)
