-- Edits of the worked example that a reader can follow by hand: its module 2 is a pair of
-- inverters, and its top, module 3, has the two pairs p and q.
use Rattle.std.specs.Prelude.{◌≡◌, ℕ, true, false, List, [], ◌∷◌, map, Some, None, codes}
use Rattle.std.specs.FinMap.{empty}
use Rattle.emh_base.specs.declared.ids.ModId.{ModId}
use Rattle.emh_base.specs.declared.ids.NetId.{NetId}
use Rattle.emh_base.specs.declared.ids.InstId.{InstId}
use Rattle.emh_base.specs.declared.plain.Dir.TheVariants.{Input}
use Rattle.emh_base.specs.declared.plain.Range.{Range}
use Rattle.emh_base.specs.declared.plain.Src.{Src}
use Rattle.emh_base.specs.declared.plain.Src.TheVariants.{Tie0, Bit}
use Rattle.emh_base.specs.declared.plain.Conn.{Conn}
use Rattle.emh_base.specs.declared.plain.Conn.TheVariants.{Open, Bits}
use Rattle.emh_base.specs.declared.plain.Plain.{Plain}
use Rattle.emh_base.specs.declared.state.State.{State}
use Rattle.emh_base.specs.declared.rule.Rule.{Rule}
use Rattle.emh_base.specs.declared.rule.Rule.TheVariants.{NoSuchNet, IsCell, WidthMismatch, BitOutOfRange, Locked}
use Rattle.emh_base.specs.declared.rule.Object.{Object}
use Rattle.emh_base.specs.declared.rule.Object.TheVariants.{Module, Net, Port}
use Rattle.emh_base.specs.declared.edit.By.TheVariants.{User}
use Rattle.emh_base.specs.declared.edit.Edit.{Edit}
use Rattle.emh_base.specs.declared.edit.Edit.TheVariants.{CreateNet, Connect}
use Rattle.emh_base.specs.TwoLevel.{two_level}
use Rattle.flatten_rules.specs.Lookup.{module_of, insts_of}
use Rattle.flatten_rules.specs.Domains.{is_leaf}
use Rattle.edit_rules.specs.Modules.{with_lock}
use Rattle.edit_rules.specs.Nets.{create_port}
use Rattle.edit_rules.specs.Insts.{connect}
use Rattle.edit_rules.specs.Apply.{Refused, apply}
use Rattle.edit_rules.specs.Readers.{is_module, is_locked, is_name_in, net_in, inst_in, is_net_used, is_port_used, users}
use Rattle.edit_rules.specs.declared.facts.Spot.TheVariants.{Absent, Inner, Leaf}
use Rattle.edit_rules.specs.Facts.{is_top, module_named, net_named, inst_named, name_of_module, name_of_net, name_of_inst, net_range, port_dir, port_at, net_after, inst_after, module_after, master, is_open, src_at, counters, totals, times, leaf_at}

abbrev pub inverter : ModId
inverter = record { 0 = 0 }

abbrev pub buffer : ModId
buffer = record { 0 = 1 }

abbrev pub pair : ModId
pair = record { 0 = 2 }

abbrev pub top : ModId
top = record { 0 = 3 }

abbrev pub net : ℕ → NetId
net n = record { 0 = n }

abbrev pub design : Plain → State
design M = record {
  plain = M;
  top = top;
  places = empty;
  settings = record { fanout = None; grid = None };
}

abbrev pub Refuses : Plain → Edit → Rule → Object → Type 0
Refuses M e rule object =
    apply (design M) User e ≡ Refused (record { rule = rule; object = object })

-- of a lock and a name that is taken the lock is told, and of a cell and such a name the cell
abbrev pub LocksBeforeNames : Type 0
LocksBeforeNames =
    Refuses (with_lock two_level pair true) (CreateNet pair (codes "a") None) Locked (Module pair)
    × Refuses (with_lock two_level inverter true) (CreateNet inverter (codes "A") None) IsCell
    (Module inverter)

abbrev pub joined : List Src → Edit
joined bits = Connect top (record { 0 = 0 }) (net 0) bits

-- Each source is looked at before the number of bits is, and its net before its offset. Nets 0 to 2
-- are there and have one bit, as the port has.
abbrev pub SourcesBeforeWidths : Type 0
SourcesBeforeWidths =
    Refuses two_level (joined (Bit (net 0) 0 ∷ Bit (net 9) 0 ∷ [])) NoSuchNet (Net top (net 9))
    × Refuses two_level (joined (Bit (net 1) 1 ∷ Bit (net 9) 0 ∷ [])) BitOutOfRange
    (Net top (net 1))
    × Refuses two_level (joined (Bit (net 0) 0 ∷ Tie0 ∷ [])) WidthMismatch (Port pair (net 0))

abbrev pub conns_in : Plain → ModId → List (List Conn)
conns_in M m = map (λ inst. inst.conns) (insts_of (module_of M m))

abbrev pub on : ℕ → Conn
on n = Bits (Bit (net n) 0 ∷ [])

-- both pairs get the new port, open
abbrev pub EachInstanceGetsThePort : Type 0
EachInstanceGetsThePort =
    conns_in (create_port two_level pair (codes "z") Input None) top
    ≡ (on 0 ∷ on 2 ∷ Open ∷ []) ∷ (on 2 ∷ on 1 ∷ Open ∷ []) ∷ []

-- The readers of a design in which the pair has a bus port z: at the second pair it is connected to
-- net 0 of the top and, on the right, to a constant; at the first it is open.

abbrev pub inst : ℕ → InstId
inst n = record { 0 = n }

abbrev pub bus : State
bus =
    let range : Range = record { left = 1; right = 0 } in
    let wide : Plain = create_port two_level pair (codes "z") Input (Some range) in
    design (connect wide top (inst 1) (net 3) (Bit (net 0) 0 ∷ Tie0 ∷ []))

abbrev pub ModulesAreRead : Type 0
ModulesAreRead =
    (is_module bus.plain pair ≡ true)
    × (is_module bus.plain (record { 0 = 4 }) ≡ false)
    × (is_leaf (module_of bus.plain inverter) ≡ true)
    × (is_leaf (module_of bus.plain pair) ≡ false)
    × (is_locked (module_of bus.plain pair) ≡ false)
    × (is_locked (module_of (with_lock bus.plain pair true) pair) ≡ true)
    × (bus.top ≡ top)
    × (is_top bus top ≡ true)
    × (is_top bus pair ≡ false)
    × (bus.plain.next_module ≡ 4)

abbrev pub UsesAreRead : Type 0
UsesAreRead =
    (is_name_in (module_of bus.plain pair) (codes "z") ≡ true)
    × (is_name_in (module_of bus.plain pair) (codes "u1") ≡ true)
    × (is_name_in (module_of bus.plain pair) (codes "q") ≡ false)
    × (is_net_used (module_of bus.plain top) (net 2) ≡ true)
    × (is_net_used (module_of bus.plain pair) (net 3) ≡ false)
    × (is_port_used bus.plain pair (net 3) ≡ true)
    × (is_port_used bus.plain buffer (net 0) ≡ false)

abbrev pub NamesAreRead : Type 0
NamesAreRead =
    (module_named bus (codes "pair") ≡ Some pair)
    × (net_named bus pair (codes "z") ≡ Some (net 3))
    × (net_named bus pair (codes "u1") ≡ None)
    × (inst_named bus top (codes "q") ≡ Some (inst 1))
    × (inst_named bus top (codes "w") ≡ None)
    × (name_of_module (module_of bus.plain pair) ≡ codes "pair")
    × (name_of_net (net_in bus.plain pair (net 3)) ≡ codes "z")
    × (name_of_inst (inst_in bus.plain top (inst 1)) ≡ codes "q")

abbrev pub PortsAreRead : Type 0
PortsAreRead =
    (net_range bus pair (net 3) ≡ Some (Some (record { left = 1; right = 0 })))
    × (net_range bus pair (net 2) ≡ Some None)
    × (port_dir bus pair (net 3) ≡ Some Input)
    × (port_dir bus pair (net 2) ≡ None)
    × (port_at bus pair 2 ≡ Some (net 3))
    × (net_after bus pair (Some (net 2)) ≡ Some (net 3))
    × (net_after bus pair (Some (net 3)) ≡ None)
    × (counters bus pair ≡ record { next_net = 4; next_inst = 2 })

abbrev pub InstancesAreRead : Type 0
InstancesAreRead =
    (master bus top (inst 1) ≡ Some pair)
    × (is_open bus top (inst 0) (net 3) ≡ true)
    × (is_open bus top (inst 1) (net 3) ≡ false)
    × (src_at bus top (inst 1) (net 3) 0 ≡ Some (Bit (net 0) 0))
    × (src_at bus top (inst 1) (net 3) 1 ≡ Some Tie0)
    × (src_at bus top (inst 0) (net 3) 1 ≡ None)
    × (inst_after bus top None ≡ Some (inst 0))
    × (inst_after bus top (Some (inst 0)) ≡ Some (inst 1))
    × (module_after bus (Some pair) ≡ Some top)
    × (module_after bus (Some top) ≡ None)

abbrev pub UnfoldingIsRead : Type 0
UnfoldingIsRead =
    (users bus.plain pair ≡ 2)
    × (totals bus ≡ record { occurrences = 7; bits = 13 })
    × (times bus inverter ≡ 4)
    × (leaf_at bus (inst 0 ∷ inst 1 ∷ []) ≡ Leaf None)
    × (leaf_at bus (inst 1 ∷ []) ≡ Inner)
    × (leaf_at bus (inst 7 ∷ []) ≡ Absent)
