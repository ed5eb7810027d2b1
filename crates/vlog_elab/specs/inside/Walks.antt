-- The walks over a header, over the declarations of a module, over modules, and over the connections of a module.
use Rattle.std.specs.Prelude.{◌+◌, Bool, if◌then◌else◌, [], ◌∷◌, ◌++◌}
use Rattle.vlog_read.specs.declared.tree.At.{At}
use Rattle.vlog_read.specs.declared.tree.TModule.{TModule}
use Rattle.vlog_elab.specs.declared.interface.Port.{Port}
use Rattle.vlog_elab.specs.declared.interface.Known.{Known}
use Rattle.vlog_elab.specs.declared.said.Said.{Said}
use Rattle.vlog_elab.specs.declared.scope.Scope.{Scope}
use Rattle.vlog_elab.specs.Named.{Named, is_there}
use Rattle.vlog_elab.specs.Text.{is_leaf}
use Rattle.vlog_elab.specs.Interfaces.{Place, direction_at, wire_at, port_of, ports, face_with}
use Rattle.vlog_elab.specs.Declarations.{header_checks, place_checks, direction_check, module_checks}
use Rattle.vlog_elab.specs.Steps.{Step, net_at, inst_at}
use Rattle.vlog_elab.specs.Connections.{step_checks}
use Rattle.vlog_elab.specs.inside.Walk.{Walk}

abbrev pub header_walk : Walk (Named (Unit {0})) At
header_walk = record { checks = header_checks; after = λ before n. before ++ (n.name, tt) ∷ [] }

abbrev pub after_place : Said → Place → Said
after_place before p =
    record { directions = before.directions ++ direction_at p; wires = before.wires ++ wire_at p }

abbrev pub place_walk : Bool → Named (Unit {0}) → Walk Said Place
place_walk leaf header = record { checks = place_checks leaf header; after = after_place }

-- the ports of a header
abbrev pub port_walk : Named Port → Walk (Named Port) At
port_walk dirs = record { checks = λ before n. direction_check dirs n ∷ []; after = λ before n. before ++ port_of dirs n ∷ [] }

-- a module is added where its name isn't there
abbrev pub with_module : Bool → Known → TModule → Named Port → Known
with_module leaf before m ps =
    if is_there before.interfaces m.name.name then before
    else record { interfaces = before.interfaces ++ face_with leaf before.next_module m ps ∷ []; next_module = before.next_module + 1 }

abbrev pub after_module : Bool → Known → TModule → Known
after_module all_leaf before m = with_module (is_leaf all_leaf m) before m (ports m)

abbrev pub module_walk : Bool → Walk Known TModule
module_walk all_leaf = record { checks = module_checks all_leaf; after = after_module all_leaf }

-- each goes last where its name isn't there
abbrev pub with_new : {V : Type 0} → Named V → Named V → Named V
with_new entries [] = entries
with_new entries (e ∷ es) = with_new (if is_there entries e.0 then entries else entries ++ e ∷ []) es

abbrev pub after_step : Scope → Step → Scope
after_step scope step = record { nets = with_new scope.nets (net_at step); insts = scope.insts ++ inst_at step }

abbrev pub step_walk : Walk Scope Step
step_walk = record { checks = step_checks; after = after_step }
