use Rattle.std.specs.Prelude.{ℕ, Bool, List, [], ◌∷◌, ◌++◌, map, Option, Some, None, is_some, not, codes, if◌then◌else◌}
use Rattle.std.specs.List.{flat_map, filter, zip}
use Rattle.std.specs.Fmt.{decimal}
use Rattle.emh_base.specs.declared.plain.Range.{Range}
use Rattle.emh_base.specs.declared.plain.Src.{Src}
use Rattle.emh_base.specs.declared.plain.Src.TheVariants.{Tie0, Tie1, Bit}
use Rattle.emh_base.specs.declared.plain.Conn.{Conn}
use Rattle.emh_base.specs.declared.plain.Conn.TheVariants.{Open, Bits}
use Rattle.emh_base.specs.declared.plain.PNet.{PNet}
use Rattle.emh_base.specs.declared.plain.PPort.{PPort}
use Rattle.emh_base.specs.declared.plain.PInst.{PInst}
use Rattle.emh_base.specs.declared.plain.PModule.{PModule}
use Rattle.emh_base.specs.declared.plain.Plain.{Plain}
use Rattle.emh_base.specs.Text.{spell, dir_text, index_text}
use Rattle.flatten_rules.specs.Lookup.{module_of, net_of, port_of}
use Rattle.flatten_rules.specs.FlatLines.{module_text}
use Rattle.reports.specs.Line.{line}

-- the name of a net, and a bit of it
abbrev pub net_word : Option PNet → List ℕ
net_word None = []
net_word (Some net) = spell net.name

abbrev pub source_bit : Option PNet → ℕ → List ℕ
source_bit None offset = []
source_bit (Some net) offset = spell net.name ++ index_text net.range offset

-- the range in brackets, a word of its own where there is one
abbrev pub range_words : Option Range → List (List ℕ)
range_words None = []
range_words (Some range) =
    (codes "[" ++ (decimal range.left ++ (codes ":" ++ (decimal range.right ++ codes "]")))) ∷ []

abbrev pub net_range : Option PNet → Option Range
net_range None = None
net_range (Some net) = net.range

-- a cell, or a module that may be edited or not
abbrev pub kind_word : PModule → List ℕ
kind_word m = if m.leaf then codes "cell" else if m.locked then codes "locked" else codes "open"

-- `port NAME DIR` and the range
abbrev pub port_line : PModule → PPort → List ℕ
port_line m port =
    line (codes "port" ∷ net_word (net_of m port.net) ∷ dir_text port.dir ∷ range_words (net_range (net_of m port.net)))

-- `wire NAME` and the range, for a net that is no port's
abbrev pub wire_line : PNet → List ℕ
wire_line net = line (codes "wire" ∷ spell net.name ∷ range_words net.range)

abbrev pub is_wire : PModule → PNet → Bool
is_wire m net = not (is_some (port_of m net.id))

-- what a bit of a connection comes from, in the module
abbrev pub source_word : PModule → Src → List ℕ
source_word m Tie0 = codes "=0"
source_word m Tie1 = codes "=1"
source_word m (Bit net offset) = source_bit (net_of m net) offset

abbrev pub source_words : PModule → Conn → List (List ℕ)
source_words m Open = codes "=open" ∷ []
source_words m (Bits bits) = map (source_word m) bits

-- `conn PORT` and the sources, for a port of an instance's master
abbrev pub conn_line : PModule → PModule → PPort × Conn → List ℕ
conn_line m master conn =
    line (codes "conn" ∷ net_word (net_of master conn.0.net) ∷ source_words m conn.1)

abbrev pub conn_lines : PModule → Option PModule → List Conn → List ℕ
conn_lines m None conns = []
conn_lines m (Some master) conns = flat_map (conn_line m master) (zip master.ports conns)

-- `inst NAME MASTER` and its connections
abbrev pub inst_lines : Plain → PModule → PInst → List ℕ
inst_lines M m inst =
    line (codes "inst" ∷ spell inst.name ∷ module_text (module_of M inst.master) ∷ [])
    ++ conn_lines m (module_of M inst.master) inst.conns

-- `module NAME` and its kind
abbrev pub module_line : PModule → List ℕ
module_line m = line (codes "module" ∷ spell m.name ∷ kind_word m ∷ [])

-- a module, then its ports, its other nets and its instances
abbrev pub module_lines : Plain → PModule → List ℕ
module_lines M m =
    module_line m
    ++ (flat_map (port_line m) m.ports
    ++ (flat_map wire_line (filter (is_wire m) m.nets)
    ++ flat_map (inst_lines M m) m.insts))

-- The report of modules: the whole table.
abbrev pub modules_text : Plain → List ℕ
modules_text M = flat_map (module_lines M) M.modules
