-- What a tree gives over a table: a table, or the fault of the first rule that is broken.
use Rattle.std.specs.Prelude.{◌≡◌, ◌⊎◌, ℕ, ◌+◌, Bool, List, ◌++◌, length, slice_get, Some, None}
use Rattle.emh_base.specs.declared.plain.Plain.{Plain}
use Rattle.vlog_read.specs.declared.tree.TModule.{TModule}
use Rattle.vlog_read.specs.declared.tree.Tree.{Tree}
use Rattle.vlog_elab.specs.declared.fault.ElabKind.TheVariants as kind
use Rattle.vlog_elab.specs.declared.fault.ElabFault.{ElabFault}
use Rattle.vlog_elab.specs.declared.fault.ElabFault.TheVariants.{Fault, NoMemory}
use Rattle.flatten_rules.specs.Check.{first_broken}
use Rattle.vlog_elab.specs.Check.{Check}
use Rattle.vlog_elab.specs.Interfaces.{added}
use Rattle.vlog_elab.specs.Declarations.{declaration_checks}
use Rattle.vlog_elab.specs.Connections.{connection_checks}
use Rattle.vlog_elab.specs.Table.{built}
use Rattle.flatten_rules.specs.Cycle.{IsFirstOnCycle}

-- the first two rounds: all modules' declarations, and then their connections
unfoldable pub checks : Plain → Bool → Tree → List Check
checks M all_leaf tree =
    declaration_checks M all_leaf tree.modules ++ connection_checks M all_leaf tree.modules

-- no rule is broken, no module that is added is on a cycle, and this is the table
pub record Elaborates (M : Plain) (all_leaf : Bool) (tree : Tree) (plain : Plain) : Type 0 where
  pub passed : first_broken (checks M all_leaf tree) ≡ None
  pub no_cycle : IsFirstOnCycle (built M all_leaf tree) (length M.modules) None
  pub table : plain ≡ built M all_leaf tree

-- the third round: no rule of the first two is broken, and this is the first module that is on a cycle; at its name
pub record IsRecursive (M : Plain) (all_leaf : Bool) (tree : Tree) (fault : ElabFault) : Type 0 where
  pub passed : first_broken (checks M all_leaf tree) ≡ None
  pub place : ℕ
  pub m : TModule
  pub module_at : slice_get (added M tree.modules) place ≡ Some m
  pub first_on_cycle : IsFirstOnCycle (built M all_leaf tree) (length M.modules) (Some (length M.modules + place))
  pub fault_is : fault ≡ Fault kind.Recursive m.name.at m.name.name

-- the fault of a tree
abbrev pub HasFault : Plain → Bool → Tree → ElabFault → Type 0
HasFault M all_leaf tree fault = (first_broken (checks M all_leaf tree) ≡ Some fault) ⊎ IsRecursive M all_leaf tree fault

-- P holds of a fault, unless memory was wanting
abbrev pub UnlessNoMemory : (ElabFault → Type 0) → ElabFault → Type 0
UnlessNoMemory P (Fault kind at name) = P (Fault kind at name)
UnlessNoMemory P NoMemory = Unit {0}
