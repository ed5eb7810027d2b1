-- What holds of journals and reactions. This project's own.
use Rattle.std.specs.Prelude.{◌≡◌, ℕ, ◌≤◌, ◌+◌, Bool, List, length}
use Rattle.emh_base.specs.declared.state.State.{State}
use Rattle.emh_base.specs.declared.edit.Change.{Change}
use Rattle.emh_base.specs.declared.edit.Edit.{Edit}
use Rattle.edit_rules.specs.Good.{IsGoodState}
use Rattle.session_rules.specs.Take.{Wants, Going}
use Rattle.session_rules.specs.React.{tell, IsDone, react, react_to}
use Rattle.session_rules.specs.Journal.{Leads, KeepsPlacements}

-- The law of journals: that of a reaction leads to its state, and has no more entries than the
-- budget allows beyond those of the user;
abbrev pub ReactionsLead : Type 0
ReactionsLead =
    (ws : List Wants) (marks : List Bool) (budget : ℕ) (S now T : State) (J all : List Change)
    → Leads S J now → react_to ws marks budget now J ≡ IsDone T all
    → Leads S all T × (length all ≤ budget + length J)

-- so does that of a command.
abbrev pub CommandsLead : Type 0
CommandsLead =
    (ws : List Wants) (marks : List Bool) (budget : ℕ) (S T : State) (e : Edit) (J : List Change)
    → react ws marks budget S e ≡ IsDone T J → Leads S J T × (length J ≤ budget + 1)

-- A good state stays good along a journal,
abbrev pub JournalsStayGood : Type 0
JournalsStayGood = (S T : State) (J : List Change) → Leads S J T → IsGoodState S → IsGoodState T

-- and so does it through a command and what observers make of it.
abbrev pub CommandsStayGood : Type 0
CommandsStayGood =
    (ws : List Wants) (marks : List Bool) (budget : ℕ) (S T : State) (e : Edit) (J : List Change)
    → react ws marks budget S e ≡ IsDone T J → IsGoodState S → IsGoodState T

-- The law of placements: what survives a journal and is placed by none of its edits keeps its
-- placement.
abbrev pub SurvivorsStayPlaced : Type 0
SurvivorsStayPlaced = (S T : State) (J : List Change) → Leads S J T → KeepsPlacements S J T

-- Each entry of a journal is told: to go on for more entries than the budget allows changes
-- nothing.
abbrev pub EachEntryTold : Type 0
EachEntryTold =
    (ws : List Wants) (marks : List Bool) (budget more : ℕ) (S now : State) (J : List Change)
    → Leads S J now
    → tell (budget + length J) ws marks (budget + length J + more) 0 (Going now J)
    ≡ tell (budget + length J) ws marks (budget + length J) 0 (Going now J)
