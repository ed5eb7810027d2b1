-- What is looked up in a table, and how a table is changed in one of its parts. All else stays. The
-- edits of edit_rules, and tables that are kept, are told by these.
use Rattle.std.specs.Prelude.{ℕ, ◌+◌, ◌==◌, List, [], ◌∷◌, ◌++◌, map, position, Option, option_and_then, if◌then◌else◌}
use Rattle.emh_base.specs.declared.ids.ModId.{ModId}
use Rattle.emh_base.specs.declared.ids.NetId.{NetId}
use Rattle.emh_base.specs.declared.ids.InstId.{InstId}
use Rattle.emh_base.specs.declared.plain.Conn.{Conn}
use Rattle.emh_base.specs.declared.plain.PNet.{PNet}
use Rattle.emh_base.specs.declared.plain.PPort.{PPort}
use Rattle.emh_base.specs.declared.plain.PInst.{PInst}
use Rattle.emh_base.specs.declared.plain.PModule.{PModule}
use Rattle.emh_base.specs.declared.plain.Plain.{Plain}
use Rattle.flatten_rules.specs.Lookup.{module_of, net_of, port_of, inst_of}
use Rattle.flatten_rules.specs.Domains.{ports_of}

abbrev pub net_in : Plain → ModId → NetId → Option PNet
net_in M m net = option_and_then (λ holder. net_of holder net) (module_of M m)

abbrev pub port_in : Plain → ModId → NetId → Option PPort
port_in M m net = option_and_then (λ holder. port_of holder net) (module_of M m)

abbrev pub inst_in : Plain → ModId → InstId → Option PInst
inst_in M m inst = option_and_then (λ holder. inst_of holder inst) (module_of M m)

abbrev pub master_of : Plain → Option PInst → Option PModule
master_of M inst = option_and_then (λ there. module_of M there.master) inst

-- the place of a port among its module's ports
abbrev pub port_place : Option PModule → NetId → Option ℕ
port_place m port = position (λ other. other.net.0 == port.0) (ports_of m)

abbrev pub with_module : Plain → ModId → (PModule → PModule) → Plain
with_module M id change =
    record M { modules = map (λ m. if m.id.0 == id.0 then change m else m) M.modules }

-- each of the instances that stand in a module
abbrev pub with_insts : (PInst → PInst) → PModule → PModule
with_insts change m = record m { insts = map change m.insts }

abbrev pub with_inst : Plain → ModId → InstId → (PInst → PInst) → Plain
with_inst M m id change =
    with_module M m (with_insts (λ inst. if inst.id.0 == id.0 then change inst else inst))

-- a module is there last; its id is the counter
abbrev pub with_last_module : Plain → PModule → Plain
with_last_module M m = record M { modules = M.modules ++ m ∷ []; next_module = M.next_module + 1 }

abbrev pub with_conns : (List Conn → List Conn) → PInst → PInst
with_conns change inst = record inst { conns = change inst.conns }

-- each instance of a module, wherever it stands
abbrev pub at_instances : Plain → ModId → (PInst → PInst) → Plain
at_instances M id change = record M {
  modules =
      map (with_insts (λ inst. if inst.master.0 == id.0 then change inst else inst)) M.modules;
}
