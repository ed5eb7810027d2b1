-- The connections of a module's instances, and the sinks of a net bit among them. This project's
-- own.
use Rattle.std.specs.Prelude.{ℕ, ◌+◌, List, [], ◌∷◌, ◌++◌, map, flat_map, zip, if◌then◌else◌}
use Rattle.emh_base.specs.declared.ids.ModId.{ModId}
use Rattle.emh_base.specs.declared.ids.NetId.{NetId}
use Rattle.emh_base.specs.declared.ids.InstId.{InstId}
use Rattle.emh_base.specs.declared.plain.Dir.{Dir}
use Rattle.emh_base.specs.declared.plain.Dir.TheVariants.{Input}
use Rattle.emh_base.specs.declared.plain.Src.{Src}
use Rattle.emh_base.specs.declared.plain.Conn.{Conn}
use Rattle.emh_base.specs.declared.plain.Conn.TheVariants.{Bits}
use Rattle.emh_base.specs.declared.plain.PPort.{PPort}
use Rattle.emh_base.specs.declared.plain.PInst.{PInst}
use Rattle.emh_base.specs.declared.plain.Plain.{Plain}
use Rattle.flatten_rules.specs.Lookup.{module_of, insts_of}
use Rattle.flatten_rules.specs.Domains.{ports_of}
use Rattle.watch_kit.specs.NetBits.{BitOf, is_bit}

-- an instance's connection at a port of its master
pub record Join : Type 0 where
  pub inst : InstId
  pub port : NetId
  pub dir : Dir
  pub conn : Conn

abbrev pub join : InstId → PPort × Conn → Join
join inst p = record { inst = inst; port = p.0.net; dir = p.0.dir; conn = p.1 }

abbrev pub joins_of : Plain → PInst → List Join
joins_of M inst = map (join inst.id) (zip (ports_of (module_of M inst.master)) inst.conns)

-- those in a module, in the order of the instances; each instance's in the order of the ports
abbrev pub joins : Plain → ModId → List Join
joins M m = flat_map (joins_of M) (insts_of (module_of M m))

-- what an input takes; no other port has sinks
abbrev pub taken : Dir → Conn → List Src
taken Input (Bits bits) = bits
taken _ _ = []

-- a bit of an input port of an instance
pub record Sink : Type 0 where
  pub inst : InstId
  pub port : NetId
  pub offset : ℕ

abbrev pub sinks_from : BitOf → Join → ℕ → List Src → List Sink
sinks_from b j offset [] = []
sinks_from b j offset (src ∷ more) =
    (if is_bit b src then record { inst = j.inst; port = j.port; offset = offset } ∷ [] else [])
    ++ sinks_from b j (offset + 1) more

abbrev pub sinks_at : BitOf → Join → List Sink
sinks_at b j = sinks_from b j 0 (taken j.dir j.conn)

-- the sinks of a net bit, in the order of instance, port and offset
abbrev pub sinks : Plain → ModId → BitOf → List Sink
sinks M m b = flat_map (sinks_at b) (joins M m)
