-- The journal of a command: its changes in order, each with who asked for it. This project's own.
use Rattle.std.specs.Prelude.{◌≡◌, List, [], ◌∷◌, map}
use Rattle.std.specs.FinMap.{get}
use Rattle.emh_base.specs.declared.ids.InstId.{InstId}
use Rattle.emh_base.specs.declared.state.State.{State}
use Rattle.emh_base.specs.declared.edit.By.{By}
use Rattle.emh_base.specs.declared.edit.Change.{Change}
use Rattle.emh_base.specs.declared.edit.Edit.{Edit}
use Rattle.edit_rules.specs.Apply.{Done, apply}
use Rattle.edit_rules.specs.Survival.{SurvivesEach, IsLeftAlone}

-- made one after the other, its changes lead from one state to another, and each is what is told of
-- its edit
abbrev pub Leads : State → List Change → State → Type 0
Leads S [] T = S ≡ T
Leads S (c ∷ J) T = (next : State) × (apply S c.by c.edit ≡ Done next c) × Leads next J T

-- who asked for what
abbrev pub steps_of : List Change → List (By × Edit)
steps_of J = map (λ (c : Change). (c.by, c.edit)) J

-- A block instance at p that survives each of its edits, and whose placement none of them sets or
-- takes out, has that placement at q, where it is then.
abbrev pub KeepsPlacements : State → List Change → State → Type 0
KeepsPlacements S J T =
    (p q : List InstId) → SurvivesEach S (steps_of J) p q → IsLeftAlone S (steps_of J) p
    → get T.places q ≡ get S.places p
