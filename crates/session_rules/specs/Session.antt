-- The steps of a plain session, which remembers whole states. This project's own.
use Rattle.std.specs.Prelude.{◌≡◌, ℕ, Bool, List, [], ◌∷◌, ◌++◌, map, zip, bytes_eq, if◌then◌else◌}
use Rattle.std.specs.List.{list_any}
use Rattle.emh_base.specs.declared.state.State.{State}
use Rattle.emh_base.specs.declared.edit.Edit.{Edit}
use Rattle.session_rules.specs.Take.{Wants}
use Rattle.session_rules.specs.React.{Reaction, IsRefused, IsSpent, IsDone, react}

-- the states before, the newest last; the present one; those that were gone back from, the newest
-- last; a mark for each observer, whether it is enabled; and how many changes observers may add to
-- a command
pub record PlainSession : Type 0 where
  pub past : List State
  pub now : State
  pub future : List State
  pub enabled : List Bool
  pub budget : ℕ

-- A command that comes to its end makes the present state the newest of those before, and there are
-- none to go forth to. A refused one changes nothing, nor does one whose budget was used up.
abbrev pub commanded : PlainSession → Reaction → PlainSession
commanded s (IsRefused refusal) = s
commanded s IsSpent = s
commanded s (IsDone now journal) = record s { past = s.past ++ s.now ∷ []; now = now; future = [] }

abbrev pub command : List Wants → Edit → PlainSession → PlainSession
command ws e s = commanded s (react ws s.enabled s.budget s.now e)

-- back to the newest of the states before
pub record Undoes (old new : PlainSession) : Type 0 where
  pub past : old.past ≡ new.past ++ new.now ∷ []
  pub same :
      new ≡ record old { past = new.past; now = new.now; future = old.future ++ old.now ∷ [] }

-- forth again to the state that was gone back from last
pub record Redoes (old new : PlainSession) : Type 0 where
  pub future : old.future ≡ new.future ++ new.now ∷ []
  pub same :
      new ≡ record old { past = old.past ++ old.now ∷ []; now = new.now; future = new.future }

-- some observer has the name
abbrev pub has_name : List ℕ → List (List ℕ) → Bool
has_name name names = list_any (λ other. bytes_eq other name) names

-- the marks, where those of all observers of a name are set
abbrev pub marked : List ℕ → Bool → List (List ℕ) → List Bool → List Bool
marked name on names marks =
    map (λ (p : List ℕ × Bool). if bytes_eq p.0 name then on else p.1) (zip names marks)

-- the observers of a name are enabled, or not any more; their names are those of all in order
abbrev pub mark : List ℕ → Bool → List (List ℕ) → PlainSession → PlainSession
mark name on names s = record s { enabled = marked name on names s.enabled }
