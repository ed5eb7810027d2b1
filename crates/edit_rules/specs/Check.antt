-- The rules of edits as they are looked at.
use Rattle.std.specs.Prelude.{Bool}
use Rattle.emh_base.specs.declared.rule.Rule.{Rule}
use Rattle.emh_base.specs.declared.rule.Object.{Object}
use Rattle.emh_base.specs.declared.rule.Refusal.{Refusal}

-- a rule that is looked at: whether it is broken, and what is told then
abbrev pub Check : Type 0
Check = Bool × Refusal

abbrev pub check : Rule → Object → Bool → Check
check rule object broken = (broken, record { rule = rule; object = object })
