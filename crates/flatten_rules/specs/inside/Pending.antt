-- What a walk has still to come to.
use Rattle.std.specs.Prelude.{◌≡◌, ◌-◌, Bool, true, false, List, [], ◌∷◌, ◌++◌, map, drop, length, reverse, Some, All}
use Rattle.std.specs.List.{flat_map}
use Rattle.std.specs.Borrow.{Bor}
use Rattle.emh_base.specs.declared.ids.ModId.{ModId}
use Rattle.emh_base.specs.declared.ids.InstId.{InstId}
use Rattle.emh_base.specs.declared.plain.PInst.{PInst}
use Rattle.emh_base.specs.declared.plain.Plain.{Plain}
use Rattle.flatten_rules.specs.Unfolding.{Occurrence, unfolded, inst_up}
use Rattle.flatten_rules.specs.Design.{IsGood}
use Rattle.flatten_rules.specs.Way.{WayTo}
use Rattle.flatten_rules.specs.Walking.{Walking}

-- the occurrences below that at a path, through these instances
abbrev pub below : Plain → List InstId → List PInst → List Occurrence
below M path insts = flat_map (λ inst. unfolded M (path ++ inst.id ∷ []) inst.master (256 - length path)) insts

-- those that are still to come, by the pending instances of each occurrence on the way, from the last one up
abbrev pub to_come : Plain → List (List PInst) → List InstId → List Occurrence
to_come M [] up = []
to_come M (insts ∷ pending) up = below M (reverse up) insts ++ to_come M pending (drop 1 up)

-- the pending instances are there
abbrev pub AreThere : Plain → ModId → List (List PInst) → List InstId → Type 0
AreThere M top [] up = Unit {0}
AreThere M top (insts ∷ pending) up =
    All (λ (inst : PInst). inst_up M top inst.id up ≡ Some inst) insts × AreThere M top pending (drop 1 up)

abbrev pub pending_up : List PInst → List (Bor (List PInst)) → List (List PInst)
pending_up here above = here ∷ reverse (map (λ insts. insts.now) above)

-- the top comes first, where the walk hasn't begun
abbrev pub with_top : Bool → ModId → List Occurrence → List Occurrence
with_top true top rest = rest
with_top false top rest = ([], top) ∷ rest

abbrev pub walking : WayTo → List PInst → List (Bor (List PInst)) → Bool → Walking
walking way here above begun = record {
  plain = way.plain;
  top = way.top;
  path = way.path;
  rest = with_top begun way.top (to_come way.plain (pending_up here above) (reverse way.path));
}

pub record IsWalk (way : WayTo) (here : List PInst) (above : List (Bor (List PInst))) (begun : Bool) : Type 0 where
  pub good : IsGood way.plain way.top
  pub start : begun ≡ false → way.path ≡ []
  pub there : AreThere way.plain way.top (pending_up here above) (reverse way.path)
