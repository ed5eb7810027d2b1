-- How a call answers what the definitions say of an edit. Want of memory is free.
use Rattle.std.specs.Prelude.{◌≡◌, List, Some, None, Result, Ok, Err}
use Rattle.emh_base.specs.declared.state.State.{State}
use Rattle.emh_base.specs.declared.edit.Change.{Change}
use Rattle.edit_rules.specs.declared.judged.Judged.{Judged}
use Rattle.edit_rules.specs.declared.judged.Judged.TheVariants.{Rule, NoMemory}
use Rattle.flatten_rules.specs.Check.{first_broken}
use Rattle.edit_rules.specs.Check.{Check}
use Rattle.edit_rules.specs.Apply.{Applied, Refused, Done}

-- the rules are looked at in their order: it is Ok where all are kept, and else the first broken
-- one is told
abbrev pub Looks : {X : Type 0} → List Check → Result X Judged → Type 0
Looks rules (Ok done) = first_broken rules ≡ None
Looks rules (Err (Rule refusal)) = first_broken rules ≡ Some refusal
Looks rules (Err NoMemory) = Unit {0}

-- an edit of the old state is done, or refused as the definition says; the state is then as before
abbrev pub Answers : Applied → State → Result Change Judged → State → Type 0
Answers effect old (Ok change) new = effect ≡ Done new change
Answers effect old (Err (Rule refusal)) new = (effect ≡ Refused refusal) × (new ≡ old)
Answers effect old (Err NoMemory) new = new ≡ old
