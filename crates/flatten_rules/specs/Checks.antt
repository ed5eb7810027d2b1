-- What the checks of soundness tell one another.
use Rattle.std.specs.Prelude.{◌≡◌, ◌≢◌, ℕ, ◌==◌, ◌<◌, List, ◌++◌, map, length, position, slice_index_or, Option, None, IsSome, All, AllPairs}
use Rattle.std.specs.Prelude.{Vec}
use Rattle.std.specs.declared.alloc.Global.{Global}
use Rattle.emh_base.specs.declared.ids.NetId.{NetId}
use Rattle.emh_base.specs.declared.plain.PNet.{PNet}
use Rattle.emh_base.specs.declared.plain.PPort.{PPort}
use Rattle.emh_base.specs.declared.plain.PInst.{PInst}
use Rattle.emh_base.specs.declared.plain.PModule.{PModule}
use Rattle.emh_base.specs.declared.plain.Plain.{Plain}
use Rattle.flatten_rules.specs.Lookup.{net_of}
use Rattle.flatten_rules.specs.Sound.{IsAllowed, IsCounter}

-- what a look-up of a module's nets rests on: their ids rise below the counter, and their ranges
-- are allowed
pub record HasNets (m : PModule) : Type 0 where
  pub rise : AllPairs (λ (a b : PNet). a.id.0 < b.id.0) m.nets
  pub below : All (λ (net : PNet). net.id.0 < m.next_net) m.nets
  pub counter : IsCounter m.next_net
  pub ranges : All (λ (net : PNet). IsAllowed net.range) m.nets

-- each port has a net of its own
pub record HasPorts (m : PModule) : Type 0 where
  pub there : All (λ (port : PPort). IsSome (net_of m port.net)) m.ports
  pub differ : AllPairs (λ (a b : PPort). a.net ≢ b.net) m.ports

-- the names of a module's nets and instances
abbrev pub names_in : PModule → List (List ℕ)
names_in m = map (λ (net : PNet). net.name) m.nets ++ map (λ (inst : PInst). inst.name) m.insts

-- the place of the port on a net
abbrev pub port_place : PModule → NetId → Option ℕ
port_place m net = position (λ (port : PPort). port.net.0 == net.0) m.ports

-- for each net of a module, by its place, the place of the port on it
pub record ArePortPlaces (m : PModule) (places : List (Option ℕ)) : Type 0 where
  pub many : length places ≡ length m.nets
  pub each : (k : ℕ) (net : PNet) → k < length m.nets
      → slice_index_or places k None ≡ port_place m (slice_index_or m.nets k net).id

-- there are such places for each module of a table, in its order
pub record AreAllPortPlaces (M : Plain) (all : List (Vec (Option ℕ) Global)) : Type 0 where
  pub many : length all ≡ length M.modules
  pub each : (k : ℕ) (m : PModule) (places : Vec (Option ℕ) Global) → k < length M.modules
      → ArePortPlaces (slice_index_or M.modules k m) (slice_index_or all k places).items
