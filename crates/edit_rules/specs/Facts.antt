-- What is read of a state to judge an edit. Where a net, a port or an instance isn't there, there
-- is nothing to see.
use Rattle.std.specs.Prelude.{ℕ, ◌==◌, Bool, true, false, nat_lt, List, [], Option, Some, None, option_map, option_and_then, find, slice_get, bytes_eq, length, if◌then◌else◌}
use Rattle.std.specs.FinMap.{get}
use Rattle.emh_base.specs.declared.ids.ModId.{ModId}
use Rattle.emh_base.specs.declared.ids.NetId.{NetId}
use Rattle.emh_base.specs.declared.ids.InstId.{InstId}
use Rattle.emh_base.specs.declared.plain.Dir.{Dir}
use Rattle.emh_base.specs.declared.plain.Range.{Range}
use Rattle.emh_base.specs.declared.plain.Src.{Src}
use Rattle.emh_base.specs.declared.plain.Conn.{Conn}
use Rattle.emh_base.specs.declared.plain.Conn.TheVariants.{Open, Bits}
use Rattle.emh_base.specs.declared.plain.PNet.{PNet}
use Rattle.emh_base.specs.declared.plain.PInst.{PInst}
use Rattle.emh_base.specs.declared.plain.PModule.{PModule}
use Rattle.emh_base.specs.declared.state.State.{State}
use Rattle.emh_base.specs.Places.{PlacesByPath}
use Rattle.flatten_rules.specs.Lookup.{module_of, insts_of}
use Rattle.flatten_rules.specs.Unfolding.{occurrences}
use Rattle.flatten_rules.specs.Limits.{bits_below, times_below}
use Rattle.flatten_rules.specs.Domains.{ports_of}
use Rattle.flatten_rules.specs.Root.{bit_of}
use Rattle.flatten_rules.specs.Design as design
use Rattle.emh_base.specs.declared.plain.Counters.{Counters}
use Rattle.edit_rules.specs.declared.facts.Totals.{Totals}
use Rattle.edit_rules.specs.declared.facts.Spot.{Spot}
use Rattle.edit_rules.specs.declared.facts.Spot.TheVariants.{Absent, Inner, Leaf}
use Rattle.edit_rules.specs.Readers.{nets_of, next_net_of, next_inst_of, net_in, port_in, inst_in, conn_of}
use Rattle.edit_rules.specs.Spots.{module_at}

abbrev pub is_top : State → ModId → Bool
is_top S m = S.top.0 == m.0

-- by names

abbrev pub module_named : State → List ℕ → Option ModId
module_named S name = option_map (λ m. m.id) (design.module_named S.plain name)

abbrev pub net_named : State → ModId → List ℕ → Option NetId
net_named S m name =
    option_map (λ net. net.id)
    (find (λ net. bytes_eq net.name name) (nets_of (module_of S.plain m)))

abbrev pub inst_named : State → ModId → List ℕ → Option InstId
inst_named S m name =
    option_map (λ inst. inst.id)
    (find (λ inst. bytes_eq inst.name name) (insts_of (module_of S.plain m)))

-- names

abbrev pub name_of_module : Option PModule → List ℕ
name_of_module None = []
name_of_module (Some m) = m.name

abbrev pub name_of_net : Option PNet → List ℕ
name_of_net None = []
name_of_net (Some net) = net.name

abbrev pub name_of_inst : Option PInst → List ℕ
name_of_inst None = []
name_of_inst (Some inst) = inst.name

-- nets and ports

abbrev pub net_range : State → ModId → NetId → Option (Option Range)
net_range S m net = option_map (λ there. there.range) (net_in S.plain m net)

abbrev pub port_dir : State → ModId → NetId → Option Dir
port_dir S m port = option_map (λ there. there.dir) (port_in S.plain m port)

-- the inner net of the port at a place
abbrev pub port_at : State → ModId → ℕ → Option NetId
port_at S m place = option_map (λ port. port.net) (slice_get (ports_of (module_of S.plain m)) place)

-- the next id

abbrev pub is_past : Option ℕ → ℕ → Bool
is_past None id = true
is_past (Some last) id = nat_lt last id

abbrev pub net_after : State → ModId → Option NetId → Option NetId
net_after S m last =
    option_map (λ net. net.id)
    (find (λ net. is_past (option_map (λ (n : NetId). n.0) last) net.id.0)
    (nets_of (module_of S.plain m)))

abbrev pub inst_after : State → ModId → Option InstId → Option InstId
inst_after S m last =
    option_map (λ inst. inst.id)
    (find (λ inst. is_past (option_map (λ (n : InstId). n.0) last) inst.id.0)
    (insts_of (module_of S.plain m)))

abbrev pub module_after : State → Option ModId → Option ModId
module_after S last =
    option_map (λ m. m.id)
    (find (λ m. is_past (option_map (λ (n : ModId). n.0) last) m.id.0) S.plain.modules)

-- instances

abbrev pub master : State → ModId → InstId → Option ModId
master S m inst = option_map (λ there. there.master) (inst_in S.plain m inst)

abbrev pub is_open_conn : Option Conn → Bool
is_open_conn None = false
is_open_conn (Some Open) = true
is_open_conn (Some (Bits bits)) = false

abbrev pub is_open : State → ModId → InstId → NetId → Bool
is_open S m inst port = is_open_conn (conn_of S.plain (inst_in S.plain m inst) port)

-- the source of one bit of a connection; none where it is open
abbrev pub src_at : State → ModId → InstId → NetId → ℕ → Option Src
src_at S m inst port offset =
    option_and_then (λ conn. bit_of conn offset) (conn_of S.plain (inst_in S.plain m inst) port)

-- numbers

abbrev pub counters : State → ModId → Counters
counters S m = record {
  next_net = next_net_of (module_of S.plain m);
  next_inst = next_inst_of (module_of S.plain m);
}

abbrev pub totals : State → Totals
totals S = record {
  occurrences = length (occurrences S.plain S.top);
  bits = bits_below S.plain S.top;
}

-- how many occurrences are of the module
abbrev pub times : State → ModId → ℕ
times S m = times_below S.plain S.top m

-- what is at a path

abbrev pub spot : PlacesByPath → List InstId → Option PModule → Spot
spot places path None = Absent
spot places path (Some m) = if m.leaf then Leaf (get places path) else Inner

abbrev pub leaf_at : State → List InstId → Spot
leaf_at S path = spot S.places path (module_at S.plain S.top path)
