-- A module table by names: what stays of it without ids, counters and locks. Tables that are the same so describe the
-- same netlist. This project's own.
use Rattle.std.specs.Prelude.{ℕ, Bool, List, [], map, find, Option, Some, None, option_map, bytes_eq}
use Rattle.emh_base.specs.declared.plain.Dir.{Dir}
use Rattle.emh_base.specs.declared.plain.Range.{Range}
use Rattle.emh_base.specs.declared.plain.Src.{Src}
use Rattle.emh_base.specs.declared.plain.Src.TheVariants as src
use Rattle.emh_base.specs.declared.plain.Conn.{Conn}
use Rattle.emh_base.specs.declared.plain.Conn.TheVariants.{Open, Bits}
use Rattle.emh_base.specs.declared.plain.PNet.{PNet}
use Rattle.emh_base.specs.declared.plain.PPort.{PPort}
use Rattle.emh_base.specs.declared.plain.PInst.{PInst}
use Rattle.emh_base.specs.declared.plain.PModule.{PModule}
use Rattle.emh_base.specs.declared.plain.Plain.{Plain}
use Rattle.flatten_rules.specs.Lookup.{module_of, net_of}
use Rattle.flatten_rules.specs.Design.{module_named}

-- a source: a tie, or the bit of the net of a name at an offset
pub data NamedSource : Type 0 where
  Tie0 : NamedSource
  Tie1 : NamedSource
  Bit : List ℕ → ℕ → NamedSource

pub record NamedPort : Type 0 where
  pub name : List ℕ
  pub dir : Dir
  pub range : Option Range

-- an instance, with its master's name and, for each port of the master in order, its sources; none where it is open
pub record NamedInst : Type 0 where
  pub name : List ℕ
  pub master : List ℕ
  pub conns : List (Option (List NamedSource))

-- a module: its ports and instances in order, and the range of the net of each name, none where there is no such net
pub record NamedModule : Type 0 where
  pub leaf : Bool
  pub ports : List NamedPort
  pub nets : List ℕ → Option (Option Range)
  pub insts : List NamedInst

-- the module of each name, none where there is no such module
abbrev pub NamedTable : Type 0
NamedTable = List ℕ → Option NamedModule

-- what isn't there has no name, and no range
abbrev pub net_name : Option PNet → List ℕ
net_name None = []
net_name (Some net) = net.name

abbrev pub net_range : Option PNet → Option Range
net_range None = None
net_range (Some net) = net.range

abbrev pub module_name : Option PModule → List ℕ
module_name None = []
module_name (Some m) = m.name

abbrev pub net_named : PModule → List ℕ → Option PNet
net_named m name = find (λ net. bytes_eq net.name name) m.nets

abbrev pub named_source : PModule → Src → NamedSource
named_source m src.Tie0 = Tie0
named_source m src.Tie1 = Tie1
named_source m (src.Bit net offset) = Bit (net_name (net_of m net)) offset

abbrev pub named_conn : PModule → Conn → Option (List NamedSource)
named_conn m Open = None
named_conn m (Bits bits) = Some (map (named_source m) bits)

abbrev pub named_port : PModule → PPort → NamedPort
named_port m port =
    record {
      name = net_name (net_of m port.net);
      dir = port.dir;
      range = net_range (net_of m port.net);
    }

abbrev pub named_inst : Plain → PModule → PInst → NamedInst
named_inst M m inst = record {
  name = inst.name;
  master = module_name (module_of M inst.master);
  conns = map (named_conn m) inst.conns;
}

abbrev pub named_module : Plain → PModule → NamedModule
named_module M m = record {
  leaf = m.leaf;
  ports = map (named_port m) m.ports;
  nets = λ name. option_map (λ (net : PNet). net.range) (net_named m name);
  insts = map (named_inst M m) m.insts;
}

unfoldable pub named_table : Plain → NamedTable
named_table M = λ name. option_map (named_module M) (module_named M name)
