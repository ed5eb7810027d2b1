-- What the pins of the leaves below a module lead to, told as if the module were the top.
use Rattle.std.specs.Prelude.{ℕ, ◌+◌, ◌<◌, List, [], ◌∷◌, map, reverse, count_by, length, Option, Some, None, IsSome, if◌then◌else◌}
use Rattle.std.specs.List.{flat_map}
use Rattle.emh_base.specs.declared.ids.ModId.{ModId}
use Rattle.emh_base.specs.declared.ids.NetId.{NetId}
use Rattle.emh_base.specs.declared.ids.InstId.{InstId}
use Rattle.emh_base.specs.declared.plain.PPort.{PPort}
use Rattle.emh_base.specs.declared.plain.PModule.{PModule}
use Rattle.emh_base.specs.declared.plain.Plain.{Plain}
use Rattle.emh_base.specs.declared.root.Root.{Root}
use Rattle.emh_base.specs.declared.root.Root.TheVariants.{Tie0, Tie1, Own}
use Rattle.flatten_rules.specs.Bounds.{depth_limit}
use Rattle.flatten_rules.specs.Lookup.{module_of, net_of}
use Rattle.flatten_rules.specs.Unfolding.{Occurrence, unfolded, module_up}
use Rattle.flatten_rules.specs.Root.{root_up}
use Rattle.flatten_rules.specs.Domains.{offsets}
use Rattle.reports.specs.Net.{is_same}

-- the bits of a port, by its inner net
abbrev pub port_bits : PModule → PPort → List (NetId × ℕ)
port_bits m port = map (λ offset. (port.net, offset)) (offsets (net_of m port.net))

-- the bits of the ports of a leaf cell; none of another module
abbrev pub cell_bits : Option PModule → List (NetId × ℕ)
cell_bits None = []
cell_bits (Some m) = if m.leaf then flat_map (port_bits m) m.ports else []

-- what the bits of the pins of an occurrence lead to; of an open one, itself
abbrev pub roots_at : Plain → ModId → Occurrence → List Root
roots_at M m o = map (λ bit. root_up M m (reverse o.0) bit.0 bit.1) (cell_bits (module_of M o.1))

-- and of all occurrences from module m down to that many levels
abbrev pub roots_below : Plain → ModId → ℕ → List Root
roots_below M m levels = flat_map (roots_at M m) (unfolded M [] m levels)

-- how many of them lead to a net bit of module m itself
abbrev pub pins_at : Plain → ModId → NetId → ℕ → ℕ
pins_at M m net offset = count_by (is_same (Own [] net offset)) (roots_below M m (depth_limit + 1))

-- a root of an instance's master, for the module that has the instance
abbrev pub over : Plain → ModId → InstId → Root → Root
over M m i Tie0 = Tie0
over M m i Tie1 = Tie1
over M m i (Own [] net offset) = root_up M m (i ∷ []) net offset
over M m i (Own (j ∷ path) net offset) = Own (i ∷ j ∷ path) net offset

-- all walks from a module are shorter than that
abbrev pub WalksBelow : Plain → ModId → ℕ → Type 0
WalksBelow M m levels = (up : List InstId) → IsSome (module_up M m up) → length up < levels
