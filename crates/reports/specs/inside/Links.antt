-- The connections of an instance bit by bit: each bit of a port of its master with its source.
use Rattle.std.specs.Prelude.{ℕ, ◌+◌, ◌==◌, Bool, false, ◌&&◌, List, [], ◌∷◌, sum_by, if◌then◌else◌}
use Rattle.std.specs.List.{flat_map}
use Rattle.emh_base.specs.declared.ids.NetId.{NetId}
use Rattle.emh_base.specs.declared.plain.Src.{Src}
use Rattle.emh_base.specs.declared.plain.Src.TheVariants.{Tie0, Tie1, Bit}
use Rattle.emh_base.specs.declared.plain.Conn.{Conn}
use Rattle.emh_base.specs.declared.plain.Conn.TheVariants.{Open, Bits}
use Rattle.emh_base.specs.declared.plain.PPort.{PPort}
use Rattle.emh_base.specs.declared.plain.PInst.{PInst}
use Rattle.emh_base.specs.declared.plain.Plain.{Plain}
use Rattle.flatten_rules.specs.ByPath.{ports_with_conns}

pub record Link : Type 0 where
  pub port : NetId
  pub offset : ℕ
  pub source : Src

-- the bits of a connection from an offset on
abbrev pub links_from : NetId → ℕ → List Src → List Link
links_from port at [] = []
links_from port at (source ∷ bits) =
    record { port = port; offset = at; source = source } ∷ links_from port (at + 1) bits

abbrev pub links_of_conn : NetId → Conn → List Link
links_of_conn port Open = []
links_of_conn port (Bits bits) = links_from port 0 bits

abbrev pub links_of : PPort × Conn → List Link
links_of pair = links_of_conn pair.0.net pair.1

abbrev pub links : Plain → PInst → List Link
links M inst = flat_map links_of (ports_with_conns M inst)

-- a source is that net bit
abbrev pub is_bit : NetId → ℕ → Src → Bool
is_bit net offset Tie0 = false
is_bit net offset Tie1 = false
is_bit net offset (Bit other at) = other.0 == net.0 && at == offset

-- what the bits that have that net bit as source count together
abbrev pub joined : (NetId → ℕ → ℕ) → NetId → ℕ → List Link → ℕ
joined number net offset all =
    sum_by (λ (link : Link). if is_bit net offset link.source then number link.port link.offset else 0) all
