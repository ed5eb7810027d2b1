-- What the steps of a way rest on.
use Rattle.std.specs.Prelude.{◌≡◌, ℕ, ◌≤◌, List, [], ◌∷◌, map, length, reverse, take, slice_get, Option, Some}
use Rattle.std.specs.Prelude.{Vec}
use Rattle.std.specs.declared.alloc.Global.{Global}
use Rattle.emh_base.specs.declared.ids.ModId.{ModId}
use Rattle.emh_base.specs.declared.ids.InstId.{InstId}
use Rattle.emh_base.specs.declared.plain.PModule.{PModule}
use Rattle.emh_base.specs.declared.plain.Plain.{Plain}
use Rattle.emh_base.specs.Text.{front_text}
use Rattle.flatten_rules.specs.Lookup.{module_of}
use Rattle.flatten_rules.specs.Sound.{IsSound}
use Rattle.flatten_rules.specs.Checks.{AreAllPortPlaces}
use Rattle.flatten_rules.specs.Unfolding.{inst_up}
use Rattle.flatten_rules.specs.Texts.{names_up}
use Rattle.flatten_rules.specs.Way.{WayTo}
use Rattle.flatten_rules.specs.declared.walk.way.Step.{Step}

-- the instances of some steps
abbrev pub path_of : List Step → List InstId
path_of steps = map (λ step. step.inst.now.id) steps

abbrev pub way_to : Plain → ModId → List Step → WayTo
way_to M top steps = record { plain = M; top = top; path = path_of steps }

-- A step from the occurrence at an upward path: its instance, the instance's master and where the table has it, and the
-- front text of the occurrence below, which begins with that of the occurrence above.
pub record IsStep (M : Plain) (top : ModId) (step : Step) (up : List InstId) (front : List ℕ) : Type 0 where
  pub inst : inst_up M top step.inst.now.id up ≡ Some step.inst.now
  pub master : module_of M step.inst.now.master ≡ Some step.master.now
  pub place : slice_get M.modules step.place ≡ Some step.master.now
  pub text : front ≡ front_text (names_up M top (step.inst.now.id ∷ up))
  pub above : step.front ≤ length front

-- The steps, from the last one, lead up to the top; front is the text that stands before the name of a net in the
-- occurrence at their end.
unfoldable pub AreSteps : Plain → ModId → List Step → List ℕ → Type 0
AreSteps M top [] front = front ≡ []
AreSteps M top (step ∷ up) front =
    IsStep M top step (path_of up) front × AreSteps M top up (take step.front front)

-- the steps lead down from the top of a sound table
pub record LeadsDown (M : Plain) (top : ModId) (first : PModule) (ports : List (Vec (Option ℕ) Global)) (steps : List Step) (front : List ℕ) : Type 0 where
  pub sound : IsSound M
  pub top_is : module_of M top ≡ Some first
  pub places : AreAllPortPlaces M ports
  pub lead : AreSteps M top (reverse steps) front
