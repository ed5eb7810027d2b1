-- Names with values, in order. The first of a name counts.
use Rattle.std.specs.Prelude.{ℕ, ◌+◌, Bool, if◌then◌else◌, List, [], ◌∷◌, map, Option, is_some, bytes_eq}
use Rattle.std.specs.List.{position_from}
use Rattle.std.specs.Map.{lookup}
use Rattle.vlog_read.specs.declared.tree.At.{At}
use Rattle.flatten_rules.specs.Check.{each_after}

abbrev pub Named : Type 0 → Type 0
Named V = List (List ℕ × V)

-- the value of a name
abbrev pub named : {V : Type 0} → Named V → List ℕ → Option V
named entries name = lookup (bytes_eq name) entries

abbrev pub is_there : {V : Type 0} → Named V → List ℕ → Bool
is_there entries name = is_some (named entries name)

-- the place of a name, counted from 0
abbrev pub place_of : {V : Type 0} → Named V → List ℕ → Option ℕ
place_of entries name = position_from (λ e. bytes_eq name e.0) 0 entries

-- the first of each name
abbrev pub firsts : {V : Type 0} → Named V → Named V
firsts entries = each_after (λ before e. if is_there before e.0 then [] else e ∷ []) [] entries

-- names without values
abbrev pub just_names : List At → Named (Unit {0})
just_names names = map (λ (n : At). (n.name, tt)) names

-- what `make` gives of each item and its number, counted from n
abbrev pub numbered : {X Y : Type 0} → (ℕ → X → Y) → ℕ → List X → List Y
numbered make n [] = []
numbered make n (x ∷ xs) = make n x ∷ numbered make (n + 1) xs
