-- Graphs: for each node, by its number, the nodes that edges lead to from it.
use Rattle.std.specs.Prelude.{ℕ, ◌<◌, ◌≤◌, List, [], ◌∷◌, map, length, Option, Some, None, filter_map, slice_index_or, All, Contains}
use Rattle.emh_base.specs.declared.plain.PInst.{PInst}
use Rattle.emh_base.specs.declared.plain.PModule.{PModule}
use Rattle.emh_base.specs.declared.plain.Plain.{Plain}
use Rattle.flatten_rules.specs.Lookup.{place_of}

-- where the edges from a node lead
abbrev pub next : List (List ℕ) → ℕ → List ℕ
next G a = slice_index_or G a []

-- each edge leads to a node
abbrev pub IsGraph : List (List ℕ) → Type 0
IsGraph G = All (λ (nodes : List ℕ). All (λ b. b < length G) nodes) G

-- a walk from a to z, of at least one edge, over these nodes, the last of them first
abbrev pub Leads : List (List ℕ) → ℕ → List ℕ → ℕ → Type 0
Leads G a [] z = Contains (next G a) z
Leads G a (b ∷ up) z = Leads G a up b × Contains (next G b) z

abbrev pub Reaches : List (List ℕ) → ℕ → ℕ → Type 0
Reaches G a z = (up : List ℕ) × Leads G a up z

-- of the nodes from one up to another none reaches itself
abbrev pub NoneReturns : List (List ℕ) → ℕ → ℕ → Type 0
NoneReturns G from to = (a : ℕ) → from ≤ a → a < to → Reaches G a a → ⊥

-- the first node, at or past one, that reaches itself; none where no node from there on does
abbrev pub IsFirstReturning : List (List ℕ) → ℕ → Option ℕ → Type 0
IsFirstReturning G from None = NoneReturns G from (length G)
IsFirstReturning G from (Some a) =
    (from ≤ a) × (a < length G) × Reaches G a a × NoneReturns G from a

-- the places of the masters of instances; a master that isn't in the table has none
abbrev pub places_of : Plain → List PInst → List ℕ
places_of M insts = filter_map (λ (inst : PInst). place_of M inst.master) insts

-- the graph of a table: an edge for each instance, from the place of its module to that of its
-- master
abbrev pub graph_of : Plain → List (List ℕ)
graph_of M = map (λ (m : PModule). places_of M m.insts) M.modules

-- numbers of nodes, 0 where a node has none
abbrev pub rank_of : List ℕ → ℕ → ℕ
rank_of ranks a = slice_index_or ranks a 0

-- no edge leads to a higher rank
abbrev pub NeverRises : List ℕ → List (List ℕ) → Type 0
NeverRises ranks G =
    (a : ℕ) → a < length G → All (λ b. rank_of ranks b ≤ rank_of ranks a) (next G a)

-- each edge from a node leads to a lower rank
abbrev pub Falls : List ℕ → List (List ℕ) → ℕ → Type 0
Falls ranks G a = All (λ b. rank_of ranks b < rank_of ranks a) (next G a)
