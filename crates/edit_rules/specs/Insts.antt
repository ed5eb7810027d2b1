-- The edits of instances: for each the rules in the order in which they are looked at. The table
-- after each is that of InstChanges.
use Rattle.std.specs.Prelude.{ℕ, ◌==◌, not, ◌&&◌, nat_le, List, [], ◌∷◌, ◌++◌, length, flat_map}
use Rattle.emh_base.specs.declared.ids.ModId.{ModId}
use Rattle.emh_base.specs.declared.ids.NetId.{NetId}
use Rattle.emh_base.specs.declared.ids.InstId.{InstId}
use Rattle.emh_base.specs.declared.plain.Src.{Src}
use Rattle.emh_base.specs.declared.plain.Src.TheVariants.{Tie0, Tie1, Bit}
use Rattle.emh_base.specs.declared.state.State.{State}
use Rattle.emh_base.specs.declared.rule.Rule.TheVariants.{NoSuchModule, NoSuchNet, NoSuchInst, NoSuchPort, NameTaken, IsCell, Recursive, WidthMismatch, BitOutOfRange, TooManyOccurrences, NotLeaf, PortsDiffer, AlreadyOpen, NotShared, TooDeep, TooManyBits, TooManyObjects}
use Rattle.emh_base.specs.declared.rule.Object.TheVariants.{Module, Net, Inst, Port, NewName}
use Rattle.flatten_rules.specs.Lookup.{module_of, width_of}
use Rattle.flatten_rules.specs.Domains.{is_leaf}
use Rattle.edit_rules.specs.Check.{Check, check}
use Rattle.edit_rules.specs.Readers.{is_module, next_inst_of, lacks_room, is_name_in, is_module_name, is_net, is_port, is_inst, net_in, inst_in, master_id, master_of, users, conn_of, is_connected, same_ports}
use Rattle.flatten_rules.specs.Limits.{is_too_deep, has_too_many_occurrences, has_too_many_bits, leads_to}
use Rattle.edit_rules.specs.Modules.{common}
pub use Rattle.flatten_rules.specs.InstChanges.{all_open, new_inst, with_inst_alone, with_new_inst, create_inst, delete_inst, set_conn, with_conn, connect, disconnect, rename_inst, with_master, with_copy, uniquify}

-- CreateInst: a new instance, all ports Open

abbrev pub create_inst_rules : State → ModId → List ℕ → ModId → List Check
create_inst_rules S m name master =
    common S m
    ++ check NoSuchModule (Module master) (not (is_module S.plain master))
    ∷ check NameTaken NewName (is_name_in (module_of S.plain m) name)
    ∷ check Recursive (Module master) (leads_to S.plain master m)
    ∷ check TooDeep (Module master) (is_too_deep (create_inst S.plain m name master))
    ∷ check TooManyObjects (Module m) (lacks_room (next_inst_of (module_of S.plain m)) 1)
    ∷ check TooManyOccurrences (Module master)
    (has_too_many_occurrences (create_inst S.plain m name master) S.top)
    ∷ check TooManyBits (Module master)
    (has_too_many_bits (create_inst S.plain m name master) S.top)
    ∷ []

-- DeleteInst: removes it with its connections

abbrev pub delete_inst_rules : State → ModId → InstId → List Check
delete_inst_rules S m inst =
    common S m ++ check NoSuchInst (Inst m inst) (not (is_inst S.plain m inst)) ∷ []

-- what is looked at where an edit names a port of an instance's master
abbrev pub names_port : State → ModId → InstId → NetId → List Check
names_port S m inst port =
    check NoSuchInst (Inst m inst) (not (is_inst S.plain m inst))
    ∷ check NoSuchPort (Port (master_id (inst_in S.plain m inst)) port)
    (not (is_port S.plain (master_id (inst_in S.plain m inst)) port))
    ∷ []

-- Connect: the port's connection becomes these bits, whatever it was

-- what is looked at for a source: the net is there, and has the bit
abbrev pub source_rules : State → ModId → Src → List Check
source_rules S m Tie0 = []
source_rules S m Tie1 = []
source_rules S m (Bit net offset) =
    check NoSuchNet (Net m net) (not (is_net S.plain m net))
    ∷ check BitOutOfRange (Net m net) (nat_le (width_of (net_in S.plain m net)) offset)
    ∷ []

-- there are as many bits as the port has
abbrev pub width_rules : State → ModId → InstId → NetId → ℕ → List Check
width_rules S m inst port bits =
    check WidthMismatch (Port (master_id (inst_in S.plain m inst)) port)
    (not (bits == width_of (net_in S.plain (master_id (inst_in S.plain m inst)) port)))
    ∷ []

abbrev pub connect_rules : State → ModId → InstId → NetId → List Src → List Check
connect_rules S m inst port bits =
    common S m ++ names_port S m inst port ++ flat_map (source_rules S m) bits
    ++ width_rules S m inst port (length bits)

-- Disconnect: the connection becomes Open

abbrev pub disconnect_rules : State → ModId → InstId → NetId → List Check
disconnect_rules S m inst port =
    common S m ++ names_port S m inst port
    ++ check AlreadyOpen (Port (master_id (inst_in S.plain m inst)) port)
    (not (is_connected (conn_of S.plain (inst_in S.plain m inst) port)))
    ∷ []

-- RenameInst: a new name

abbrev pub rename_inst_rules : State → ModId → InstId → List ℕ → List Check
rename_inst_rules S m inst name =
    common S m
    ++ check NoSuchInst (Inst m inst) (not (is_inst S.plain m inst))
    ∷ check NameTaken NewName (is_name_in (module_of S.plain m) name)
    ∷ []

-- Resize: another leaf as master, with the same connections by position

abbrev pub resize_rules : State → ModId → InstId → ModId → List Check
resize_rules S m inst master =
    let old = master_of S.plain (inst_in S.plain m inst) in
    let new = module_of S.plain master in
    common S m
    ++ check NoSuchInst (Inst m inst) (not (is_inst S.plain m inst))
    ∷ check NoSuchModule (Module master) (not (is_module S.plain master))
    ∷ check NotLeaf (Inst m inst) (not (is_leaf old && is_leaf new))
    ∷ check PortsDiffer (Module master) (not (same_ports old new))
    ∷ []

-- Uniquify: a new module, an unlocked copy of the master; then the instance gets it as its master

abbrev pub uniquify_rules : State → ModId → InstId → List ℕ → List Check
uniquify_rules S m inst name =
    let master = master_id (inst_in S.plain m inst) in
    common S m
    ++ check NoSuchInst (Inst m inst) (not (is_inst S.plain m inst))
    ∷ check IsCell (Module master) (is_leaf (module_of S.plain master))
    ∷ check NotShared (Module master) (users S.plain master == 1)
    ∷ check NameTaken NewName (is_module_name S.plain name)
    ∷ check TooManyObjects NewName (lacks_room S.plain.next_module 1)
    ∷ []
