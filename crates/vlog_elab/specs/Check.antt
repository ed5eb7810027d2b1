-- The rules that are looked at on the way through a text.
use Rattle.std.specs.Prelude.{ℕ, Bool, List}
use Rattle.vlog_read.specs.declared.tree.At.{At}
use Rattle.vlog_elab.specs.declared.fault.ElabKind.{ElabKind}
use Rattle.vlog_elab.specs.declared.fault.ElabFault.{ElabFault}
use Rattle.vlog_elab.specs.declared.fault.ElabFault.TheVariants.{Fault}

-- whether a rule is broken, and the fault that this is
abbrev pub Check : Type 0
Check = Bool × ElabFault

-- a rule at a place, with a name
abbrev pub check_at : ElabKind → ℕ → List ℕ → Bool → Check
check_at kind at name broken = (broken, Fault kind at name)

-- a rule at a token, with the token's name
abbrev pub check : ElabKind → At → Bool → Check
check kind token broken = check_at kind token.at token.name broken
