-- The states that a session goes through.
use Rattle.std.specs.Prelude.{◌≡◌, ℕ, false, List, IsTrue, IsSome, Some}
use Rattle.std.specs.FinMap.{get}
use Rattle.emh_base.specs.declared.ids.InstId.{InstId}
use Rattle.emh_base.specs.declared.plain.Plain.{Plain}
use Rattle.emh_base.specs.declared.state.Fanout.{Fanout}
use Rattle.emh_base.specs.declared.state.State.{State}
use Rattle.flatten_rules.specs.Lookup.{module_of}
use Rattle.flatten_rules.specs.Design.{IsGood}
use Rattle.edit_rules.specs.Readers.{is_buffer, is_bad_fanout, is_bad_grid}
use Rattle.edit_rules.specs.Spots.{is_leaf_path}

-- the cell of a fan-out limit is there and is a buffer, and its number is in range
pub record IsFanout (M : Plain) (fanout : Fanout) : Type 0 where
  pub buffer : IsTrue (is_buffer (module_of M fanout.cell))
  pub number : is_bad_fanout fanout.max ≡ false

-- A good state: its table is sound and, at a top that is there and no leaf, within the limits; what
-- is placed is a block instance; each setting that is there is in order.
pub record IsGoodState (S : State) : Type 0 where
  pub table : IsGood S.plain S.top
  pub placed : (path : List InstId) → IsSome (get S.places path)
      → IsTrue (is_leaf_path S.plain S.top path)
  pub fanout : (limit : Fanout) → S.settings.fanout ≡ Some limit → IsFanout S.plain limit
  pub grid : (width : ℕ) → S.settings.grid ≡ Some width → is_bad_grid width ≡ false
