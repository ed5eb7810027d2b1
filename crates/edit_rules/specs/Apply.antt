-- The effect of an edit: what refuses it, or the state after it and the change that is told of it.
-- This project's own.
use Rattle.std.specs.Prelude.{◌≡◌, ℕ, ◌<◌, true, false, List, [], ◌∷◌, Option, Some, None, option_and_then, option_to_list}
use Rattle.std.specs.FinMap.{insert, remove}
use Rattle.emh_base.specs.declared.plain.Conn.{Conn}
use Rattle.emh_base.specs.declared.plain.Plain.{Plain}
use Rattle.emh_base.specs.declared.state.State.{State}
use Rattle.emh_base.specs.declared.state.Settings.{Settings}
use Rattle.emh_base.specs.declared.rule.Refusal.{Refusal}
use Rattle.emh_base.specs.declared.edit.By.{By}
use Rattle.emh_base.specs.declared.edit.Change.{Change}
use Rattle.emh_base.specs.declared.edit.Edit.{Edit}
use Rattle.emh_base.specs.declared.edit.Edit.TheVariants.{CreateModule, DeleteModule, CreateNet, DeleteNet, CreatePort, DeletePort, CreateInst, DeleteInst, Connect, Disconnect, RenameModule, RenameNet, RenameInst, Resize, Uniquify, Place, Unplace, Lock, Unlock, SetFanout, SetGrid}
use Rattle.emh_base.specs.Places.{PlacesByPath}
use Rattle.flatten_rules.specs.Lookup.{module_of}
use Rattle.flatten_rules.specs.Check.{first_broken}
use Rattle.edit_rules.specs.Check.{Check}
use Rattle.edit_rules.specs.Readers.{next_net_of, next_inst_of, inst_in, conns_of, conn_of}
use Rattle.edit_rules.specs.Modules.{create_module, create_module_rules, delete_module, delete_module_rules, rename_module, rename_module_rules, with_lock, lock_rules, unlock_rules}
use Rattle.edit_rules.specs.Nets.{create_net, create_net_rules, delete_net, delete_net_rules, create_port, create_port_rules, delete_port, delete_port_rules, rename_net, rename_net_rules}
use Rattle.edit_rules.specs.Insts.{create_inst, create_inst_rules, delete_inst, delete_inst_rules, connect, connect_rules, disconnect, disconnect_rules, rename_inst, rename_inst_rules, with_master, resize_rules, uniquify, uniquify_rules}
use Rattle.edit_rules.specs.Spots.{kept, place_rules, unplace_rules}
use Rattle.edit_rules.specs.Carry.{carry, carried}
use Rattle.edit_rules.specs.Settings.{set_fanout_rules, set_grid_rules}

-- the rules of an edit, in the order in which they are looked at
abbrev pub checks : State → Edit → List Check
checks S (CreateModule name) = create_module_rules S name
checks S (DeleteModule m) = delete_module_rules S m
checks S (CreateNet m name range) = create_net_rules S m name range
checks S (DeleteNet m net) = delete_net_rules S m net
checks S (CreatePort m name dir range) = create_port_rules S m name dir range
checks S (DeletePort m port) = delete_port_rules S m port
checks S (CreateInst m name master) = create_inst_rules S m name master
checks S (DeleteInst m inst) = delete_inst_rules S m inst
checks S (Connect m inst port bits) = connect_rules S m inst port bits
checks S (Disconnect m inst port) = disconnect_rules S m inst port
checks S (RenameModule m name) = rename_module_rules S m name
checks S (RenameNet m net name) = rename_net_rules S m net name
checks S (RenameInst m inst name) = rename_inst_rules S m inst name
checks S (Resize m inst master) = resize_rules S m inst master
checks S (Uniquify m inst name) = uniquify_rules S m inst name
checks S (Place path placement) = place_rules S path
checks S (Unplace path) = unplace_rules S path
checks S (Lock m) = lock_rules S m
checks S (Unlock m) = unlock_rules S m
checks S (SetFanout max cell) = set_fanout_rules S max cell
checks S (SetGrid grid) = set_grid_rules grid

-- the table after an edit
abbrev pub table_after : Plain → Edit → Plain
table_after M (CreateModule name) = create_module M name
table_after M (DeleteModule m) = delete_module M m
table_after M (CreateNet m name range) = create_net M m name range
table_after M (DeleteNet m net) = delete_net M m net
table_after M (CreatePort m name dir range) = create_port M m name dir range
table_after M (DeletePort m port) = delete_port M m port
table_after M (CreateInst m name master) = create_inst M m name master
table_after M (DeleteInst m inst) = delete_inst M m inst
table_after M (Connect m inst port bits) = connect M m inst port bits
table_after M (Disconnect m inst port) = disconnect M m inst port
table_after M (RenameModule m name) = rename_module M m name
table_after M (RenameNet m net name) = rename_net M m net name
table_after M (RenameInst m inst name) = rename_inst M m inst name
table_after M (Resize m inst master) = with_master M m inst master
table_after M (Uniquify m inst name) = uniquify M m inst name
table_after M (Place path placement) = M
table_after M (Unplace path) = M
table_after M (Lock m) = with_lock M m true
table_after M (Unlock m) = with_lock M m false
table_after M (SetFanout max cell) = M
table_after M (SetGrid grid) = M

-- what an edit does to the one placement that it names
abbrev pub with_place : Edit → PlacesByPath → PlacesByPath
with_place (Place path placement) places = insert places path placement
with_place (Unplace path) places = remove places path
with_place _ places = places

abbrev pub settings_after : Settings → Edit → Settings
settings_after settings (SetFanout max cell) =
    record settings { fanout = Some (record { max = max; cell = cell }) }
settings_after settings (SetGrid grid) = record settings { grid = Some grid }
settings_after settings _ = settings

-- the state after an edit: placements go where their paths are carried, and are kept where a block
-- instance is then, but for the one that is named
abbrev pub after : State → Edit → State
after S e = record {
  plain = table_after S.plain e;
  top = S.top;
  places = with_place e (kept (table_after S.plain e) S.top (carried (carry S e) S.places));
  settings = settings_after S.settings e;
}

-- the connections that stood before, where an edit takes them away
abbrev pub was : Plain → Edit → List Conn
was M (DeleteInst m inst) = conns_of (inst_in M m inst)
was M (Connect m inst port bits) = option_to_list (conn_of M (inst_in M m inst) port)
was M (Disconnect m inst port) = option_to_list (conn_of M (inst_in M m inst) port)
was M _ = []

-- the id that an edit gives: the counter's value
abbrev pub made : Plain → Edit → Option ℕ
made M (CreateModule name) = Some M.next_module
made M (CreateNet m name range) = Some (next_net_of (module_of M m))
made M (CreatePort m name dir range) = Some (next_net_of (module_of M m))
made M (CreateInst m name master) = Some (next_inst_of (module_of M m))
made M (Uniquify m inst name) = Some M.next_module
made M _ = None

-- there is an id left for what an edit makes
abbrev pub HasRoom : Plain → Edit → Type 0
HasRoom M e = (id : ℕ) → made M e ≡ Some id → id < 4294967295

abbrev pub change : State → By → Edit → Change
change S by e = record { edit = e; by = by; was = was S.plain e; made = made S.plain e }

pub data Applied : Type 0 where
  Refused : Refusal → Applied
  Done : State → Change → Applied

abbrev pub applied : State → By → Edit → Option Refusal → Applied
applied S by e (Some refusal) = Refused refusal
applied S by e None = Done (after S e) (change S by e)

-- an edit of a state, asked for by the user or an observer
abbrev pub apply : State → By → Edit → Applied
apply S by e = applied S by e (first_broken (checks S e))

-- the state after edits in order, each asked for by someone; none where one of them is refused

abbrev pub state_of : Applied → Option State
state_of (Refused refusal) = None
state_of (Done S told) = Some S

abbrev pub done_in_order : State → List (By × Edit) → Option State
done_in_order S [] = Some S
done_in_order S (step ∷ steps) =
    option_and_then (λ T. done_in_order T steps) (state_of (apply S step.0 step.1))
