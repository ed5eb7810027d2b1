-- What holds of every edit, and of edits in order. This project's own.
use Rattle.std.specs.Prelude.{◌≡◌, ◌≢◌, List, Some, None, IsSome}
use Rattle.std.specs.FinMap.{get}
use Rattle.emh_base.specs.declared.ids.InstId.{InstId}
use Rattle.emh_base.specs.declared.state.State.{State}
use Rattle.emh_base.specs.declared.edit.By.{By}
use Rattle.emh_base.specs.declared.edit.Edit.{Edit}
use Rattle.flatten_rules.specs.Check.{first_broken}
use Rattle.edit_rules.specs.Good.{IsGoodState}
use Rattle.edit_rules.specs.Apply.{checks, after, done_in_order}
use Rattle.edit_rules.specs.Survival.{Survives, placed_path, SurvivesEach, IsLeftAlone}

-- The law of good states: an edit that no rule refuses leads from a good state to a good one,
abbrev pub StaysGood : Type 0
StaysGood =
    (S : State) (e : Edit) → IsGoodState S → first_broken (checks S e) ≡ None
    → IsGoodState (after S e)

-- and so do edits in order.
abbrev pub StaysGoodInOrder : Type 0
StaysGoodInOrder =
    (S T : State) (steps : List (By × Edit)) → IsGoodState S → done_in_order S steps ≡ Some T
    → IsGoodState T

-- The law of placements: a block instance that survives an edit has its placement where it is then,
-- but for the one whose placement the edit sets or takes out;
abbrev pub SurvivorsStayPlaced : Type 0
SurvivorsStayPlaced =
    (S : State) (e : Edit) (p q : List InstId) → Survives S e p q → placed_path e ≢ Some p
    → get (after S e).places q ≡ get S.places p

-- but for that one nothing else is placed than what survives;
abbrev pub OnlySurvivorsArePlaced : Type 0
OnlySurvivorsArePlaced =
    (S : State) (e : Edit) (q : List InstId) → IsGoodState S → IsSome (get (after S e).places q)
    → placed_path e ≢ Some q
    → (p : List InstId) × Survives S e p q

-- and a block instance that survives edits in order, none of which sets or takes out its placement,
-- keeps it.
abbrev pub SurvivorsStayPlacedInOrder : Type 0
SurvivorsStayPlacedInOrder =
    (S T : State) (steps : List (By × Edit)) (p q : List InstId) → done_in_order S steps ≡ Some T
    → SurvivesEach S steps p q
    → IsLeftAlone S steps p → get T.places q ≡ get S.places p
