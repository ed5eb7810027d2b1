-- What the writer's steps tell one another.
use Rattle.std.specs.Prelude.{ℕ, zero, suc, Bool, true, false, not, List, [], codes}
use Rattle.emh_base.specs.declared.plain.PModule.{PModule}

-- what stands before the item at a place of a list
abbrev pub comma_before : ℕ → List ℕ
comma_before zero = []
comma_before (suc n) = codes ", "

-- whether a module is a leaf, or whether it is none, as asked
abbrev pub is_kind : Bool → PModule → Bool
is_kind true m = m.leaf
is_kind false m = not m.leaf
