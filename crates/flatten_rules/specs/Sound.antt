-- When a module table is sound: what every call on a table may rest on. This project's own.
use Rattle.std.specs.Prelude.{◌≡◌, ◌≢◌, ℕ, ◌<◌, ◌≤◌, false, List, [], ◌∷◌, ◌++◌, map, length, Option, Some, None, IsTrue, IsSome, MatchOption, All, AllPairs, bytes_eq}
use Rattle.std.specs.List.{IsDistinct}
use Rattle.emh_base.specs.declared.plain.Range.{Range}
use Rattle.emh_base.specs.declared.plain.Src.{Src}
use Rattle.emh_base.specs.declared.plain.Src.TheVariants.{Tie0, Tie1, Bit}
use Rattle.emh_base.specs.declared.plain.Conn.{Conn}
use Rattle.emh_base.specs.declared.plain.Conn.TheVariants.{Open, Bits}
use Rattle.emh_base.specs.declared.plain.PNet.{PNet}
use Rattle.emh_base.specs.declared.plain.PPort.{PPort}
use Rattle.emh_base.specs.declared.plain.PInst.{PInst}
use Rattle.emh_base.specs.declared.plain.PModule.{PModule}
use Rattle.emh_base.specs.declared.plain.Plain.{Plain}
use Rattle.flatten_rules.specs.Lookup.{module_of, net_of, port_of, width, width_of}
use Rattle.flatten_rules.specs.Cycle.{OnCycle}

-- no index is above 65,535, and no net has more than 4,096 bits
abbrev pub IsAllowed : Option Range → Type 0
IsAllowed None = Unit {0}
IsAllowed (Some range) = (range.left ≤ 65535) × (range.right ≤ 65535) × (width (Some range) ≤ 4096)

-- a source is a tie, or a bit that a net of the module has
abbrev pub IsSource : PModule → Src → Type 0
IsSource m Tie0 = Unit {0}
IsSource m Tie1 = Unit {0}
IsSource m (Bit net offset) = offset < width_of (net_of m net)

-- in module m, a connection is open, or has a source for each bit of the master's port
abbrev pub FitsPort : PModule → PModule → PPort → Conn → Type 0
FitsPort m master port Open = Unit {0}
FitsPort m master port (Bits bits) =
    (length bits ≡ width_of (net_of master port.net)) × All (IsSource m) bits

-- there is a connection for each port, in the order of the ports
abbrev pub FitPorts : PModule → PModule → List PPort → List Conn → Type 0
FitPorts m master [] [] = Unit {0}
FitPorts m master [] (conn ∷ conns) = ⊥
FitPorts m master (port ∷ ports) [] = ⊥
FitPorts m master (port ∷ ports) (conn ∷ conns) =
    FitsPort m master port conn × FitPorts m master ports conns

-- the master of an instance is there, and the instance is connected as the master's ports ask
abbrev pub HasMaster : Plain → PModule → PInst → Type 0
HasMaster M m inst =
    MatchOption (module_of M inst.master) ⊥ (λ master. FitPorts m master master.ports inst.conns)

-- a leaf cell is its ports alone
pub record IsCell (m : PModule) : Type 0 where
  pub insts : m.insts ≡ []
  pub nets : All (λ (net : PNet). IsSome (port_of m net.id)) m.nets
  pub unlocked : m.locked ≡ false

-- a counter holds the next id: it ends at 4,294,967,295, which is no id
abbrev pub IsCounter : ℕ → Type 0
IsCounter next = next ≤ 4294967295

-- Names are one of a kind and ids rise below their counters, ranges are allowed, each port has a
-- net of its own, instances are connected to masters that are there.
pub record IsSoundModule (M : Plain) (m : PModule) : Type 0 where
  pub names : IsDistinct bytes_eq
      (map (λ (net : PNet). net.name) m.nets ++ map (λ (inst : PInst). inst.name) m.insts)
  pub nets_rise : AllPairs (λ (a b : PNet). a.id.0 < b.id.0) m.nets
  pub nets_below : All (λ (net : PNet). net.id.0 < m.next_net) m.nets
  pub net_counter : IsCounter m.next_net
  pub ranges : All (λ (net : PNet). IsAllowed net.range) m.nets
  pub ports_there : All (λ (port : PPort). IsSome (net_of m port.net)) m.ports
  pub ports_differ : AllPairs (λ (a b : PPort). a.net ≢ b.net) m.ports
  pub insts_rise : AllPairs (λ (a b : PInst). a.id.0 < b.id.0) m.insts
  pub insts_below : All (λ (inst : PInst). inst.id.0 < m.next_inst) m.insts
  pub inst_counter : IsCounter m.next_inst
  pub masters : All (HasMaster M m) m.insts
  pub cell : IsTrue m.leaf → IsCell m

-- Names are one of a kind and ids rise below their counter, modules are sound, none is on a cycle.
pub record IsSound (M : Plain) : Type 0 where
  pub names : IsDistinct bytes_eq (map (λ (m : PModule). m.name) M.modules)
  pub rise : AllPairs (λ (a b : PModule). a.id.0 < b.id.0) M.modules
  pub below : All (λ (m : PModule). m.id.0 < M.next_module) M.modules
  pub counter : IsCounter M.next_module
  pub modules : All (IsSoundModule M) M.modules
  pub no_cycle : (m : PModule) → OnCycle M m → ⊥
