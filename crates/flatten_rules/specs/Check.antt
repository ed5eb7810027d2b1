-- Rules as they are looked at, one after the other, and the first that is broken. This project's
-- own.
use Rattle.std.specs.Prelude.{Bool, List, [], ◌∷◌, ◌++◌, Option, Some, None, if◌then◌else◌}

-- A rule that is looked at is whether it is broken, and what is told then. Of some rules the first
-- broken one is told, none where all are kept.
abbrev pub first_broken : {X : Type 0} → List (Bool × X) → Option X
first_broken [] = None
first_broken (c ∷ cs) = if c.0 then Some c.1 else first_broken cs

-- what f gives for each item and the items before it
abbrev pub each_after : {X Y : Type 0} → (List X → X → List Y) → List X → List X → List Y
each_after f before [] = []
each_after f before (x ∷ xs) = f before x ++ each_after f (before ++ x ∷ []) xs
