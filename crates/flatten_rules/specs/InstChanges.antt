-- The table after an edit of an instance.
use Rattle.std.specs.Prelude.{ℕ, ◌+◌, ◌==◌, false, not, List, [], ◌∷◌, ◌++◌, map, filter, slice_set, Option, Some, None}
use Rattle.emh_base.specs.declared.ids.ModId.{ModId}
use Rattle.emh_base.specs.declared.ids.NetId.{NetId}
use Rattle.emh_base.specs.declared.ids.InstId.{InstId}
use Rattle.emh_base.specs.declared.plain.Src.{Src}
use Rattle.emh_base.specs.declared.plain.Conn.{Conn}
use Rattle.emh_base.specs.declared.plain.Conn.TheVariants.{Open, Bits}
use Rattle.emh_base.specs.declared.plain.PInst.{PInst}
use Rattle.emh_base.specs.declared.plain.PModule.{PModule}
use Rattle.emh_base.specs.declared.plain.Plain.{Plain}
use Rattle.flatten_rules.specs.Lookup.{module_of}
use Rattle.flatten_rules.specs.Domains.{ports_of}
use Rattle.flatten_rules.specs.Changes.{inst_in, master_of, port_place, with_module, with_inst, with_last_module, with_conns}

-- CreateInst: a new instance, all ports Open

abbrev pub all_open : Option PModule → List Conn
all_open master = map (λ port. Open) (ports_of master)

abbrev pub new_inst : ℕ → List ℕ → ModId → List Conn → PInst
new_inst id name master conns = record {
  id = record { 0 = id };
  name = name;
  master = master;
  conns = conns;
}

-- the module with an instance more, which stands last and has the counter's value as its id
abbrev pub with_inst_alone : List ℕ → ModId → List Conn → PModule → PModule
with_inst_alone name master conns m =
    record m { insts = m.insts ++ new_inst m.next_inst name master conns ∷ [] }

-- and the counter is raised
abbrev pub with_new_inst : List ℕ → ModId → List Conn → PModule → PModule
with_new_inst name master conns m =
    record (with_inst_alone name master conns m) { next_inst = m.next_inst + 1 }

abbrev pub create_inst : Plain → ModId → List ℕ → ModId → Plain
create_inst M m name master =
    with_module M m (with_new_inst name master (all_open (module_of M master)))

-- DeleteInst: the instance goes with its connections

abbrev pub delete_inst : Plain → ModId → InstId → Plain
delete_inst M m inst =
    with_module M m
    (λ holder. record holder { insts = filter (λ other. not (other.id.0 == inst.0)) holder.insts })

-- the connection of an instance at a port of its master is this one
abbrev pub set_conn : Option ℕ → Conn → List Conn → List Conn
set_conn None conn conns = conns
set_conn (Some place) conn conns = slice_set conns place conn

abbrev pub with_conn : Plain → ModId → InstId → NetId → Conn → Plain
with_conn M m inst port conn =
    with_inst M m inst
    (with_conns (set_conn (port_place (master_of M (inst_in M m inst)) port) conn))

-- Connect: the connection becomes these bits, whatever it was

abbrev pub connect : Plain → ModId → InstId → NetId → List Src → Plain
connect M m inst port bits = with_conn M m inst port (Bits bits)

-- Disconnect: it becomes Open

abbrev pub disconnect : Plain → ModId → InstId → NetId → Plain
disconnect M m inst port = with_conn M m inst port Open

-- RenameInst: a new name

abbrev pub rename_inst : Plain → ModId → InstId → List ℕ → Plain
rename_inst M m inst name = with_inst M m inst (λ there. record there { name = name })

-- Resize: another leaf as master, with the same connections by position

abbrev pub with_master : Plain → ModId → InstId → ModId → Plain
with_master M m inst master = with_inst M m inst (λ there. record there { master = master })

-- Uniquify: a new module, an unlocked copy of the master; then the instance gets it as its master

abbrev pub with_copy : Plain → Option PModule → List ℕ → Plain
with_copy M None name = M
with_copy M (Some m) name =
    with_last_module M (record m { id = record { 0 = M.next_module }; name = name; locked = false })

abbrev pub uniquify : Plain → ModId → InstId → List ℕ → Plain
uniquify M m inst name =
    with_master (with_copy M (master_of M (inst_in M m inst)) name) m inst
    (record { 0 = M.next_module })
