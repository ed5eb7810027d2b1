-- A walk over items in order. Before each item something is known, by which the item is checked, and it adds to what is
-- known.
use Rattle.std.specs.Prelude.{◌≡◌, List, [], ◌∷◌, Option, Some, None, Result, Ok, Err}
use Rattle.std.specs.Option.{option_or}
use Rattle.vlog_elab.specs.declared.fault.ElabFault.{ElabFault}
use Rattle.vlog_elab.specs.declared.fault.ElabFault.TheVariants.{Fault, NoMemory}
use Rattle.flatten_rules.specs.Check.{first_broken}
use Rattle.vlog_elab.specs.Check.{Check}

pub record Walk (S X : Type 0) : Type 0 where
  pub checks : S → X → List Check
  pub after : S → X → S

-- the first fault of a walk that begins with s known
abbrev pub first_fault : {S X : Type 0} → Walk S X → S → List X → Option ElabFault
first_fault w s [] = None
first_fault w s (x ∷ xs) = option_or (first_broken (w.checks s x)) (first_fault w (w.after s x) xs)

-- what is known at its end
abbrev pub at_end : {S X : Type 0} → Walk S X → S → List X → S
at_end w s [] = s
at_end w s (x ∷ xs) = at_end w (w.after s x) xs

-- this is the fault, or memory was wanting
abbrev pub Found : Option ElabFault → ElabFault → Type 0
Found found (Fault kind at name) = found ≡ Some (Fault kind at name)
Found found NoMemory = Unit {0}

-- the walk meets no fault, and t is known at its end
pub record Passed {S X : Type 0} (w : Walk S X) (s : S) (xs : List X) (t : S) : Type 0 where
  pub none : first_fault w s xs ≡ None
  pub end : t ≡ at_end w s xs

-- the walk meets this fault first, or memory was wanting
pub record Fails {S X : Type 0} (w : Walk S X) (s : S) (xs : List X) (fault : ElabFault) : Type 0 where
  pub found : Found (first_fault w s xs) fault

-- what a function gives that walks over items
abbrev pub Walks : {S X T : Type 0} → Walk S X → S → List X → Result T ElabFault → S → Type 0
Walks w s xs (Ok _) t = Passed w s xs t
Walks w s xs (Err fault) t = Fails w s xs fault

-- what a function gives that walks over items, and answers what is known at the end
abbrev pub Gives : {S X : Type 0} → Walk S X → S → List X → Result S ElabFault → Type 0
Gives w s xs (Ok t) = Passed w s xs t
Gives w s xs (Err fault) = Fails w s xs fault

-- what a function gives that looks at checks
abbrev pub Checks : {T : Type 0} → List Check → Result T ElabFault → Type 0
Checks cs (Ok _) = first_broken cs ≡ None
Checks cs (Err fault) = Found (first_broken cs) fault
