-- What the primitives write.
use Rattle.std.specs.Prelude.{◌≡◌, ℕ, ◌+◌, false, Option, Some, None, option_map}
use Rattle.std.specs.FinMap as map
use Rattle.emh_base.specs.declared.plain.Dir.{Dir}
use Rattle.emh_base.specs.declared.plain.Range.{Range}
use Rattle.timeline.specs.Maps.{put}
use Rattle.undo_slots.specs.Slots.{Rows}
use Rattle.row_chains.specs.declared.link.Link.{Link}
use Rattle.row_chains.specs.declared.link.Ends.{Ends}
use Rattle.row_chains.specs.Chains.{ends_with, ends_without}
use Rattle.row_chains.specs.Rows.{ChainRows, ChainHolders, lead_at, follow_at}
use Rattle.mod_core.specs.declared.rows.TopRow.{TopRow}
use Rattle.mod_core.specs.declared.rows.ModRow.{ModRow}
use Rattle.mod_core.specs.declared.rows.NetRow.{NetRow}
use Rattle.mod_core.specs.declared.rows.PortRow.{PortRow}
use Rattle.mod_core.specs.declared.rows.InstRow.{InstRow}
use Rattle.mod_core.specs.inside.Linked.{mod_rows, mod_holders, net_rows, net_holders, port_rows, port_holders, inst_rows, inst_holders, user_rows, user_holders}

abbrev pub empty_chain : Ends
empty_chain = record { first = None; last = None }

-- the neighbours of a row that leaves its chain are each other's, and its owner's row has the ends
-- that are left

abbrev pub joined_rows : {R : Type 0} → ChainRows R → Rows R → Link → Rows R
joined_rows C m link = follow_at C (lead_at C m link.prev link.next) link.next link.prev

abbrev pub joined_ends : {O : Type 0} → ChainHolders O → Rows O → Link → Rows O
joined_ends H m link =
    put m link.owner (option_map (λ row. H.with_ends row (ends_without (H.ends_of row) link))
    (map.get m link.owner))

-- a module comes last

abbrev pub new_module : ℕ → TopRow → ℕ → ModRow
new_module top root name = record {
  link = record { owner = top; prev = root.modules.last; next = None };
  id = record { 0 = root.next_module };
  name = name;
  leaf = false;
  locked = false;
  next_net = 0;
  next_inst = 0;
  nets = empty_chain;
  ports = empty_chain;
  insts = empty_chain;
  users = empty_chain;
}

pub record ModuleIn (tops tops' : Rows TopRow) (mods mods' : Rows ModRow) (top key : ℕ) (root : TopRow)
    (name : ℕ) : Type 0 where
  pub absent : map.get mods key ≡ None
  pub tops_are : tops' ≡ map.insert tops top
      (record root { next_module = root.next_module + 1; modules = ends_with root.modules key })
  pub mods_are : mods' ≡ lead_at mod_rows (map.insert mods key (new_module top root name))
      root.modules.last (Some key)

-- a module goes

pub record ModuleOut (tops tops' : Rows TopRow) (mods mods' : Rows ModRow) (key : ℕ) (row : ModRow) : Type 0 where
  pub tops_are : tops' ≡ joined_ends mod_holders tops row.link
  pub mods_are : mods' ≡ map.remove (joined_rows mod_rows mods row.link) key

-- a net comes last in its module

abbrev pub new_net : ℕ → ModRow → ℕ → ℕ → Option Range → NetRow
new_net owner row id name range = record {
  link = record { owner = owner; prev = row.nets.last; next = None };
  id = record { 0 = id };
  name = name;
  range = range;
  port = None;
}

pub record NetIn (mods mods' : Rows ModRow) (nets nets' : Rows NetRow) (owner key : ℕ) (row : ModRow)
    (id name : ℕ) (range : Option Range) : Type 0 where
  pub absent : map.get nets key ≡ None
  pub mods_are : mods' ≡ map.insert mods owner
      (record row { next_net = id + 1; nets = ends_with row.nets key })
  pub nets_are : nets' ≡ lead_at net_rows
      (map.insert nets key (new_net owner row id name range)) row.nets.last (Some key)

-- a net goes

pub record NetOut (mods mods' : Rows ModRow) (nets nets' : Rows NetRow) (key : ℕ) (row : NetRow) : Type 0 where
  pub mods_are : mods' ≡ joined_ends net_holders mods row.link
  pub nets_are : nets' ≡ map.remove (joined_rows net_rows nets row.link) key

-- a net becomes the last port of its module

abbrev pub new_port : ℕ → ModRow → Dir → PortRow
new_port owner row dir = record {
  link = record { owner = owner; prev = row.ports.last; next = None };
  dir = dir;
}

pub record PortIn (mods mods' : Rows ModRow) (nets nets' : Rows NetRow) (owner key : ℕ) (row : ModRow)
    (net : NetRow) (dir : Dir) : Type 0 where
  pub mods_are : mods' ≡ map.insert mods owner (record row { ports = ends_with row.ports key })
  pub nets_are : nets' ≡ lead_at port_rows
      (map.insert nets key (record net { port = Some (new_port owner row dir) }))
      row.ports.last (Some key)

-- a net is a port no longer

pub record PortOut (mods mods' : Rows ModRow) (nets nets' : Rows NetRow) (key : ℕ) (net : NetRow)
    (port : PortRow) : Type 0 where
  pub mods_are : mods' ≡ joined_ends port_holders mods port.link
  pub nets_are : nets' ≡ map.insert (joined_rows port_rows nets port.link) key
      (record net { port = None })

-- an instance comes last in its module, and among the users of its master

abbrev pub new_inst : ℕ → ModRow → ℕ → ModRow → ℕ → ℕ → InstRow
new_inst owner row master used id name = record {
  link = record { owner = owner; prev = row.insts.last; next = None };
  id = record { 0 = id };
  name = name;
  user = record { owner = master; prev = used.users.last; next = None };
}

abbrev pub with_last_inst : ℕ → ℕ → ModRow → ModRow
with_last_inst id key row = record row { next_inst = id + 1; insts = ends_with row.insts key }

-- the row may be that of the module that holds the instance
abbrev pub with_last_user : ℕ → ModRow → ModRow
with_last_user key row = record row { users = ends_with row.users key }

-- a row is changed where it stands
abbrev pub changed_at : {R : Type 0} → Rows R → ℕ → (R → R) → Rows R
changed_at m key change = put m key (option_map change (map.get m key))

pub record InstIn (mods mods' : Rows ModRow) (insts insts' : Rows InstRow) (owner master key : ℕ)
    (row used : ModRow) (id name : ℕ) : Type 0 where
  pub absent : map.get insts key ≡ None
  pub mods_are : mods' ≡ changed_at (map.insert mods owner (with_last_inst id key row)) master
      (with_last_user key)
  pub insts_are : insts' ≡ lead_at user_rows
      (lead_at inst_rows (map.insert insts key (new_inst owner row master used id name))
      row.insts.last (Some key))
      used.users.last (Some key)

-- an instance goes

pub record InstOut (mods mods' : Rows ModRow) (insts insts' : Rows InstRow) (key : ℕ) (row : InstRow) : Type 0 where
  pub mods_are : mods' ≡ joined_ends user_holders (joined_ends inst_holders mods row.link) row.user
  pub insts_are : insts' ≡ map.remove
      (joined_rows user_rows (joined_rows inst_rows insts row.link) row.user) key
