-- The rows of the kept tables, seen as a module table.
use Rattle.std.specs.Prelude.{◌≡◌, ℕ, List, Option, Some, None, option_map, option_and_then, map, refl}
use Rattle.std.specs.FinMap as rows
use Rattle.emh_base.specs.declared.ids.ModId.{ModId}
use Rattle.emh_base.specs.declared.ids.NetId.{NetId}
use Rattle.emh_base.specs.declared.plain.Conn.{Conn}
use Rattle.emh_base.specs.declared.plain.Conn.TheVariants.{Open}
use Rattle.emh_base.specs.declared.plain.PNet.{PNet}
use Rattle.emh_base.specs.declared.plain.PPort.{PPort}
use Rattle.emh_base.specs.declared.plain.PInst.{PInst}
use Rattle.emh_base.specs.declared.plain.PModule.{PModule}
use Rattle.emh_base.specs.declared.plain.Plain.{Plain}
use Rattle.flatten_rules.specs.Lookup.{no_modules}
use Rattle.undo_slots.specs.Slots.{Rows}
use Rattle.row_chains.specs.declared.link.Link.{Link}
use Rattle.row_chains.specs.declared.link.Ends.{Ends}
use Rattle.row_chains.specs.Chains.{with_next, with_prev}
use Rattle.row_chains.specs.Rows.{ChainRows, ChainHolders, listed}
use Rattle.mod_core.specs.declared.rows.TopRow.{TopRow}
use Rattle.mod_core.specs.declared.rows.ModRow.{ModRow}
use Rattle.mod_core.specs.declared.rows.NetRow.{NetRow}
use Rattle.mod_core.specs.declared.rows.PortRow.{PortRow}
use Rattle.mod_core.specs.declared.rows.InstRow.{InstRow}
use Rattle.mod_core.specs.Mods.{name_at}

-- a link with another neighbour

abbrev pub leading : Link → Option ℕ → Link
leading link to = record link { next = to }

abbrev pub following : Link → Option ℕ → Link
following link from = record link { prev = from }

-- the modules of the table

abbrev pub mod_rows : ChainRows ModRow
mod_rows = record {
  link_of = λ row. Some row.link;
  lead = λ row to. record row { link = leading row.link to };
  follow = λ row from. record row { link = following row.link from };
  leads = λ row to. refl;
  follows = λ row from. refl;
}

abbrev pub mod_holders : ChainHolders TopRow
mod_holders = record {
  ends_of = λ row. row.modules;
  with_ends = λ row ends. record row { modules = ends };
  holds = λ row ends. refl;
  as_it_was = λ row. refl;
}

-- the nets of a module

abbrev pub net_rows : ChainRows NetRow
net_rows = record {
  link_of = λ row. Some row.link;
  lead = λ row to. record row { link = leading row.link to };
  follow = λ row from. record row { link = following row.link from };
  leads = λ row to. refl;
  follows = λ row from. refl;
}

abbrev pub net_holders : ChainHolders ModRow
net_holders = record {
  ends_of = λ row. row.nets;
  with_ends = λ row ends. record row { nets = ends };
  holds = λ row ends. refl;
  as_it_was = λ row. refl;
}

-- the ports of a module, by the rows of their nets

abbrev pub port_link : Option PortRow → Option Link
port_link None = None
port_link (Some port) = Some port.link

abbrev pub port_leading : Option ℕ → Option PortRow → Option PortRow
port_leading to None = None
port_leading to (Some port) = Some (record port { link = leading port.link to })

abbrev pub port_following : Option ℕ → Option PortRow → Option PortRow
port_following from None = None
port_following from (Some port) = Some (record port { link = following port.link from })

pub port_leads : (port : Option PortRow) (to : Option ℕ)
    → port_link (port_leading to port) ≡ with_next to (port_link port)
port_leads None to = refl
port_leads (Some port) to = refl

pub port_follows : (port : Option PortRow) (from : Option ℕ)
    → port_link (port_following from port) ≡ with_prev from (port_link port)
port_follows None from = refl
port_follows (Some port) from = refl

abbrev pub port_rows : ChainRows NetRow
port_rows = record {
  link_of = λ row. port_link row.port;
  lead = λ row to. record row { port = port_leading to row.port };
  follow = λ row from. record row { port = port_following from row.port };
  leads = λ row to. port_leads row.port to;
  follows = λ row from. port_follows row.port from;
}

abbrev pub port_holders : ChainHolders ModRow
port_holders = record {
  ends_of = λ row. row.ports;
  with_ends = λ row ends. record row { ports = ends };
  holds = λ row ends. refl;
  as_it_was = λ row. refl;
}

-- the instances of a module

abbrev pub inst_rows : ChainRows InstRow
inst_rows = record {
  link_of = λ row. Some row.link;
  lead = λ row to. record row { link = leading row.link to };
  follow = λ row from. record row { link = following row.link from };
  leads = λ row to. refl;
  follows = λ row from. refl;
}

abbrev pub inst_holders : ChainHolders ModRow
inst_holders = record {
  ends_of = λ row. row.insts;
  with_ends = λ row ends. record row { insts = ends };
  holds = λ row ends. refl;
  as_it_was = λ row. refl;
}

-- the users of a master, which are its instances

abbrev pub user_rows : ChainRows InstRow
user_rows = record {
  link_of = λ row. Some row.user;
  lead = λ row to. record row { user = leading row.user to };
  follow = λ row from. record row { user = following row.user from };
  leads = λ row to. refl;
  follows = λ row from. refl;
}

abbrev pub user_holders : ChainHolders ModRow
user_holders = record {
  ends_of = λ row. row.users;
  with_ends = λ row ends. record row { users = ends };
  holds = λ row ends. refl;
  as_it_was = λ row. refl;
}

-- what rows show

abbrev pub net_of_row : List (List ℕ) → NetRow → PNet
net_of_row names row =
    record { id = row.id; name = name_at names row.name; range = row.range }

abbrev pub port_on : NetId → PortRow → PPort
port_on net port = record { net = net; dir = port.dir }

abbrev pub port_of_row : NetRow → Option PPort
port_of_row row = option_map (port_on row.id) row.port

abbrev pub net_shown : List (List ℕ) → Rows NetRow → ℕ → Option PNet
net_shown names nets k = option_map (net_of_row names) (rows.get nets k)

abbrev pub port_shown : Rows NetRow → ℕ → Option PPort
port_shown nets k = option_and_then port_of_row (rows.get nets k)

abbrev pub nets_from : List (List ℕ) → Rows NetRow → Ends → List PNet
nets_from names nets ends = listed net_rows (net_shown names nets) nets ends.first

abbrev pub ports_from : Rows NetRow → Ends → List PPort
ports_from nets ends = listed port_rows (port_shown nets) nets ends.first

-- what an instance shows of its master: its id, and at each port a connection that is Open
pub record Master : Type 0 where
  pub id : ModId
  pub conns : List Conn

abbrev pub opens : List PPort → List Conn
opens ports = map (λ port. Open) ports

abbrev pub master_of_row : Rows NetRow → ModRow → Master
master_of_row nets row = record { id = row.id; conns = opens (ports_from nets row.ports) }

abbrev pub master_at : Rows ModRow → Rows NetRow → ℕ → Option Master
master_at mods nets k = option_map (master_of_row nets) (rows.get mods k)

abbrev pub inst_of : List (List ℕ) → InstRow → Master → PInst
inst_of names row master = record {
  id = row.id;
  name = name_at names row.name;
  master = master.id;
  conns = master.conns;
}

abbrev pub inst_of_row : List (List ℕ) → (ℕ → Option Master) → InstRow → Option PInst
inst_of_row names masters row = option_map (inst_of names row) (masters row.user.owner)

abbrev pub inst_shown : List (List ℕ) → (ℕ → Option Master) → Rows InstRow → ℕ → Option PInst
inst_shown names masters insts k = option_and_then (inst_of_row names masters) (rows.get insts k)

abbrev pub insts_from : List (List ℕ) → (ℕ → Option Master) → Rows InstRow → Ends → List PInst
insts_from names masters insts ends =
    listed inst_rows (inst_shown names masters insts) insts ends.first

-- the instances between two ends
abbrev pub within_of : List (List ℕ) → Rows ModRow → Rows NetRow → Rows InstRow → Ends → List PInst
within_of names mods nets insts ends = insts_from names (master_at mods nets) insts ends

-- what modules show, where so many instances stand between two ends

abbrev pub module_of_row : List (List ℕ) → Rows NetRow → (Ends → List PInst) → ModRow → PModule
module_of_row names nets within row = record {
  id = row.id;
  name = name_at names row.name;
  leaf = row.leaf;
  locked = row.locked;
  nets = nets_from names nets row.nets;
  ports = ports_from nets row.ports;
  insts = within row.insts;
  next_net = row.next_net;
  next_inst = row.next_inst;
}

abbrev pub module_shown : List (List ℕ) → Rows ModRow → Rows NetRow → (Ends → List PInst) → ℕ
    → Option PModule
module_shown names mods nets within k =
    option_map (module_of_row names nets within) (rows.get mods k)

abbrev pub modules_from : List (List ℕ) → Rows ModRow → Rows NetRow → (Ends → List PInst) → Ends
    → List PModule
modules_from names mods nets within ends =
    listed mod_rows (module_shown names mods nets within) mods ends.first

abbrev pub table_from : List (List ℕ) → Rows ModRow → Rows NetRow → (Ends → List PInst)
    → Option TopRow → Plain
table_from names mods nets within None = no_modules
table_from names mods nets within (Some top) = record {
  modules = modules_from names mods nets within top.modules;
  next_module = top.next_module;
}

-- the rows of the top and of the modules in one moment
pub record Upper : Type 0 where
  pub tops : Rows TopRow
  pub mods : Rows ModRow

abbrev pub upper : Rows TopRow → Rows ModRow → Upper
upper tops mods = record { tops = tops; mods = mods }

-- and those of the nets
pub record Lower : Type 0 where
  pub up : Upper
  pub nets : Rows NetRow

abbrev pub lower : Upper → Rows NetRow → Lower
lower up nets = record { up = up; nets = nets }

-- the module table of one moment, with these instances

abbrev pub table_of : List (List ℕ) → ℕ → Upper → Rows NetRow → (Ends → List PInst) → Plain
table_of names top up nets within =
    table_from names up.mods nets within (rows.get up.tops top)

abbrev pub whole_of : List (List ℕ) → ℕ → Lower → Rows InstRow → Plain
whole_of names top low insts =
    table_of names top low.up low.nets (within_of names low.up.mods low.nets insts)
