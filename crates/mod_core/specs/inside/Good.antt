-- What holds of the rows in each moment.
use Rattle.std.specs.Prelude.{◌≡◌, ℕ, ◌<◌, Option, Some, None, option_map}
use Rattle.std.specs.FinMap as map
use Rattle.undo_slots.specs.Slots.{Rows}
use Rattle.row_chains.specs.Chains.{AreChains}
use Rattle.row_chains.specs.Rows.{links, ends_in}
use Rattle.mod_core.specs.declared.rows.TopRow.{TopRow}
use Rattle.mod_core.specs.declared.rows.ModRow.{ModRow}
use Rattle.mod_core.specs.declared.rows.NetRow.{NetRow}
use Rattle.mod_core.specs.declared.rows.PortRow.{PortRow}
use Rattle.mod_core.specs.declared.rows.InstRow.{InstRow}
use Rattle.mod_core.specs.inside.Linked.{mod_rows, mod_holders, net_rows, net_holders, port_rows, port_holders, inst_rows, inst_holders, user_rows, user_holders, Upper, Lower}

-- a module's row, but for its place in chains
pub record ModFace : Type 0 where
  pub id : ℕ
  pub name : ℕ
  pub next_net : ℕ

abbrev pub mod_face : ModRow → ModFace
mod_face row = record { id = row.id.0; name = row.name; next_net = row.next_net }

abbrev pub mod_faces : Rows ModRow → ℕ → Option ModFace
mod_faces mods k = option_map mod_face (map.get mods k)

-- a net's row, but for its neighbours
pub record NetFace : Type 0 where
  pub owner : ℕ
  pub id : ℕ
  pub name : ℕ
  pub port_owner : Option ℕ

abbrev pub port_owner : Option PortRow → Option ℕ
port_owner None = None
port_owner (Some port) = Some port.link.owner

abbrev pub net_face : NetRow → NetFace
net_face row = record {
  owner = row.link.owner;
  id = row.id.0;
  name = row.name;
  port_owner = port_owner row.port;
}

abbrev pub net_faces : Rows NetRow → ℕ → Option NetFace
net_faces nets k = option_map net_face (map.get nets k)

-- ids name one module, and are below the counter; names are in the pool
pub record AreModsNumbered (count next : ℕ) (face : ℕ → Option ModFace) : Type 0 where
  pub one : (j k : ℕ) (a b : ModFace) → face j ≡ Some a → face k ≡ Some b → a.id ≡ b.id → j ≡ k
  pub below : (k : ℕ) (a : ModFace) → face k ≡ Some a → a.id < next
  pub named : (k : ℕ) (a : ModFace) → face k ≡ Some a → a.name < count

-- ids name one net of a module, and are below its counter; names are in the pool; a port is of the
-- module of its net
pub record AreNetsNumbered (count : ℕ) (mods : ℕ → Option ModFace) (face : ℕ → Option NetFace) : Type 0 where
  pub one : (j k : ℕ) (a b : NetFace) → face j ≡ Some a → face k ≡ Some b
      → a.owner ≡ b.owner → a.id ≡ b.id → j ≡ k
  pub below : (k : ℕ) (a : NetFace) (m : ModFace) → face k ≡ Some a → mods a.owner ≡ Some m
      → a.id < m.next_net
  pub named : (k : ℕ) (a : NetFace) → face k ≡ Some a → a.name < count
  pub home : (k : ℕ) (a : NetFace) (owner : ℕ) → face k ≡ Some a → a.port_owner ≡ Some owner
      → owner ≡ a.owner

-- the rows are linked as they ought to be, where so many names are in the pool
pub record IsGood (count top : ℕ) (up : Upper) (nets : Rows NetRow) : Type 0 where
  pub root : TopRow
  pub rooted : map.get up.tops top ≡ Some root
  pub alone : (o : ℕ) (r : TopRow) → map.get up.tops o ≡ Some r → o ≡ top
  pub modules : AreChains (links mod_rows up.mods) (ends_in mod_holders up.tops)
  pub nets_of : AreChains (links net_rows nets) (ends_in net_holders up.mods)
  pub ports_of : AreChains (links port_rows nets) (ends_in port_holders up.mods)
  pub mods_numbered : AreModsNumbered count root.next_module (mod_faces up.mods)
  pub nets_numbered : AreNetsNumbered count (mod_faces up.mods) (net_faces nets)

-- instances are numbered as nets are: their module's counter is its next instance's

abbrev pub mod_side : ModRow → ModFace
mod_side row = record { id = row.id.0; name = row.name; next_net = row.next_inst }

abbrev pub mod_sides : Rows ModRow → ℕ → Option ModFace
mod_sides mods k = option_map mod_side (map.get mods k)

abbrev pub inst_face : InstRow → NetFace
inst_face row = record {
  owner = row.link.owner;
  id = row.id.0;
  name = row.name;
  port_owner = None;
}

abbrev pub inst_faces : Rows InstRow → ℕ → Option NetFace
inst_faces insts k = option_map inst_face (map.get insts k)

-- and so are the rows of instances
pub record IsWhole (count top : ℕ) (low : Lower) (insts : Rows InstRow) : Type 0 where
  pub good : IsGood count top low.up low.nets
  pub insts_of : AreChains (links inst_rows insts) (ends_in inst_holders low.up.mods)
  pub users_of : AreChains (links user_rows insts) (ends_in user_holders low.up.mods)
  pub insts_numbered : AreNetsNumbered count (mod_sides low.up.mods) (inst_faces insts)
