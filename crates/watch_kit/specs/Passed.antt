-- States after edits that are asked for one after the other. This project's own.
use Rattle.std.specs.Prelude.{◌≡◌, List, [], ◌∷◌, Option, Some, None}
use Rattle.emh_base.specs.declared.state.State.{State}
use Rattle.emh_base.specs.declared.rule.Refusal.{Refusal}
use Rattle.emh_base.specs.declared.edit.Edit.{Edit}
use Rattle.flatten_rules.specs.Check.{first_broken}
use Rattle.edit_rules.specs.Apply.{checks, after}

-- the state that an edit leaves: where a rule refuses it, the state as it was
abbrev pub unless_refused : State → Edit → Option Refusal → State
unless_refused S e None = after S e
unless_refused S e (Some refusal) = S

abbrev pub passed : State → Edit → State
passed S e = unless_refused S e (first_broken (checks S e))

abbrev pub all_passed : State → List Edit → State
all_passed S [] = S
all_passed S (e ∷ es) = all_passed (passed S e) es

-- no rule refuses an edit of the list, each asked for in the state that those before it leave
abbrev pub NoneRefused : State → List Edit → Type 0
NoneRefused S [] = Unit {0}
NoneRefused S (e ∷ es) = (first_broken (checks S e) ≡ None) × NoneRefused (passed S e) es
