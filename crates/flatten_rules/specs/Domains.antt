-- What the occurrence domain and the block domain hold, unfolded afresh from a table and its top. After OpenAccess, in
-- outline: occurrences have nets, and the block is the flat netlist of the leaf occurrences.
use Rattle.std.specs.Prelude.{◌≡◌, ◌↔◌, ℕ, ◌==◌, Bool, false, ◌&&◌, List, [], reverse, map, Option, Some, None, Contains, if◌then◌else◌}
use Rattle.std.specs.List.{flat_map, filter, range_with_len}
use Rattle.std.specs.Ordering.{is_eq}
use Rattle.emh_base.specs.Path.{path_cmp}
use Rattle.emh_base.specs.declared.ids.ModId.{ModId}
use Rattle.emh_base.specs.declared.ids.NetId.{NetId}
use Rattle.emh_base.specs.declared.ids.InstId.{InstId}
use Rattle.emh_base.specs.declared.plain.PNet.{PNet}
use Rattle.emh_base.specs.declared.plain.PPort.{PPort}
use Rattle.emh_base.specs.declared.plain.PModule.{PModule}
use Rattle.emh_base.specs.declared.plain.Plain.{Plain}
use Rattle.emh_base.specs.declared.root.Root.{Root}
use Rattle.emh_base.specs.declared.root.Root.TheVariants.{Tie0, Tie1, Own}
use Rattle.flatten_rules.specs.Lookup.{module_of, net_of, width_of}
use Rattle.flatten_rules.specs.Unfolding.{Occurrence, occurrences}
use Rattle.flatten_rules.specs.Root.{root_up, pin_root}

-- the bits of a net by their offsets from the left
abbrev pub offsets : Option PNet → List ℕ
offsets net = range_with_len 0 (width_of net)

-- a bit of a net of the occurrence at a path
pub record NetBit : Type 0 where
  pub path : List InstId
  pub net : NetId
  pub offset : ℕ

abbrev pub bits_of_net : List InstId → PNet → List NetBit
bits_of_net path net = map (λ offset. record { path = path; net = net.id; offset = offset }) (offsets (Some net))

-- the net bits of an occurrence, net by net; a leaf's aren't told
abbrev pub bits_inside : List InstId → Option PModule → List NetBit
bits_inside path None = []
bits_inside path (Some m) = if m.leaf then [] else flat_map (bits_of_net path) m.nets

-- the net bits of the occurrence domain, in the order of the occurrences
abbrev pub net_bits : Plain → ModId → List NetBit
net_bits M top = flat_map (λ (o : Occurrence). bits_inside o.0 (module_of M o.1)) (occurrences M top)

-- and what each leads to
abbrev pub root_of : Plain → ModId → NetBit → Root
root_of M top bit = root_up M top (reverse bit.path) bit.net bit.offset

abbrev pub is_leaf : Option PModule → Bool
is_leaf None = false
is_leaf (Some m) = m.leaf

-- the block instances: the leaf occurrences, each with its master
abbrev pub block_instances : Plain → ModId → List Occurrence
block_instances M top = filter (λ (o : Occurrence). is_leaf (module_of M o.1)) (occurrences M top)

-- a block net is a net bit that leads no further up
pub record IsBlockNet (M : Plain) (top : ModId) (bit : NetBit) : Type 0 where
  pub there : Contains (net_bits M top) bit
  pub own : root_of M top bit ≡ Own bit.path bit.net bit.offset

-- a root is the net bit itself
abbrev pub is_own : NetBit → Root → Bool
is_own bit Tie0 = false
is_own bit Tie1 = false
is_own bit (Own path net offset) = is_eq (path_cmp path bit.path) && net.0 == bit.net.0 && offset == bit.offset

-- the block nets, in the order of the net bits
abbrev pub block_nets : Plain → ModId → List NetBit
block_nets M top = filter (λ (bit : NetBit). is_own bit (root_of M top bit)) (net_bits M top)

-- the law of block nets: those of the list are the block nets
abbrev pub EachBlockNet : Type 0
EachBlockNet = (M : Plain) (top : ModId) (bit : NetBit) → Contains (block_nets M top) bit ↔ IsBlockNet M top bit

-- a pin of a block instance: one bit of a port of its master
pub record Pin : Type 0 where
  pub inst : Occurrence
  pub port : NetId
  pub offset : ℕ

-- the inner net of a module's port
abbrev pub port_net : Option PModule → NetId → Option PNet
port_net None port = None
port_net (Some m) port = net_of m port

abbrev pub ports_of : Option PModule → List PPort
ports_of None = []
ports_of (Some m) = m.ports

abbrev pub pins_of_port : Plain → Occurrence → PPort → List Pin
pins_of_port M inst port =
    map (λ offset. record { inst = inst; port = port.net; offset = offset }) (offsets (port_net (module_of M inst.1) port.net))

-- the pins of the block, in the order of the block instances; each port's from the left
abbrev pub pins : Plain → ModId → List Pin
pins M top = flat_map (λ (inst : Occurrence). flat_map (pins_of_port M inst) (ports_of (module_of M inst.1))) (block_instances M top)

-- and what each leads to; none where it is open
abbrev pub root_of_pin : Plain → ModId → Pin → Option Root
root_of_pin M top pin = pin_root M top (reverse pin.inst.0) pin.port pin.offset

-- the terminals of the block
abbrev pub terminals : Plain → ModId → List PPort
terminals M top = ports_of (module_of M top)
