-- The definitions tried on a worked table: two leaf cells, and a module with names that are and
-- aren't written as they are.
use Rattle.std.specs.Prelude.{◌≡◌, ℕ, true, false, List, [], ◌∷◌, ◌++◌, Option, Some, None, codes}
use Rattle.emh_base.specs.declared.plain.Dir.{Dir}
use Rattle.emh_base.specs.declared.plain.Dir.TheVariants.{Input, Output}
use Rattle.emh_base.specs.declared.plain.Range.{Range}
use Rattle.emh_base.specs.declared.plain.Src.{Src}
use Rattle.emh_base.specs.declared.plain.Src.TheVariants.{Tie0, Tie1, Bit}
use Rattle.emh_base.specs.declared.plain.Conn.{Conn}
use Rattle.emh_base.specs.declared.plain.Conn.TheVariants.{Open, Bits}
use Rattle.emh_base.specs.declared.plain.PNet.{PNet}
use Rattle.emh_base.specs.declared.plain.PPort.{PPort}
use Rattle.emh_base.specs.declared.plain.PInst.{PInst}
use Rattle.emh_base.specs.declared.plain.PModule.{PModule}
use Rattle.emh_base.specs.declared.plain.Plain.{Plain}
use Rattle.vlog_write.specs.Written.{written}

abbrev net : ℕ → List ℕ → Option Range → PNet
net n name range = record { id = record { 0 = n }; name = name; range = range }

abbrev port : ℕ → Dir → PPort
port n dir = record { net = record { 0 = n }; dir = dir }

-- an instance of the master of that id
abbrev inst : ℕ → List ℕ → ℕ → List Conn → PInst
inst n name master conns =
    record { id = record { 0 = n }; name = name; master = record { 0 = master }; conns = conns }

-- a leaf with these nets, all of which are ports
abbrev cell : ℕ → List ℕ → List PNet → List PPort → PModule
cell n name nets ports = record {
  id = record { 0 = n };
  name = name;
  leaf = true;
  locked = false;
  nets = nets;
  ports = ports;
  insts = [];
  next_net = 2;
  next_inst = 0;
}

abbrev inverter : PModule
inverter =
    cell 1 (codes "INV") (net 0 (codes "A") None ∷ net 1 (codes "Y") None ∷ [])
    (port 0 Input ∷ port 1 Output ∷ [])

-- a leaf with one output of two bits
abbrev pair : PModule
pair =
    cell 2 (codes "PAIR") (net 0 (codes "Q") (Some (record { left = 1; right = 0 })) ∷ [])
    (port 0 Output ∷ [])

-- bit of the net of that id at an offset
abbrev bit : ℕ → ℕ → Src
bit n offset = Bit (record { 0 = n }) offset

-- a module without ports, whose first instance is on `bus[3]`, a net, and on bit 3 of the net `bus`
abbrev top : PModule
top = record {
  id = record { 0 = 0 };
  name = codes "t";
  leaf = false;
  locked = false;
  nets = net 0 (codes "a/b") None ∷ net 1 (codes "wire") None ∷ net 2 (codes "bus[3]") None
      ∷ net 3 (codes "bus") (Some (record { left = 3; right = 0 })) ∷ [];
  ports = [];
  insts =
      inst 0 (codes "x.y") 1 (Bits (bit 2 0 ∷ []) ∷ Bits (bit 3 0 ∷ []) ∷ [])
      ∷ inst 1 (codes "u") 2 (Bits (Tie0 ∷ bit 3 3 ∷ []) ∷ [])
      ∷ inst 2 (codes "v") 1 (Open ∷ Bits (Tie1 ∷ []) ∷ []) ∷ [];
  next_net = 4;
  next_inst = 3;
}

abbrev table : Plain
table = record { modules = top ∷ inverter ∷ pair ∷ []; next_module = 3 }

abbrev worked_text : List ℕ
worked_text =
    codes "`celldefine\n"
    ++ codes "module INV (A, Y);\n"
    ++ codes "  input A;\n"
    ++ codes "  output Y;\n"
    ++ codes "endmodule\n"
    ++ codes "module PAIR (Q);\n"
    ++ codes "  output [1:0] Q;\n"
    ++ codes "endmodule\n"
    ++ codes "`endcelldefine\n"
    ++ codes "module t ();\n"
    ++ codes "  wire \\a/b ;\n"
    ++ codes "  wire \\wire ;\n"
    ++ codes "  wire \\bus[3] ;\n"
    ++ codes "  wire [3:0] bus;\n"
    ++ codes "  INV \\x.y  (.A(\\bus[3] ), .Y(bus[3]));\n"
    ++ codes "  PAIR u (.Q({1'b0, bus[0]}));\n"
    ++ codes "  INV v (.A(), .Y(1'b1));\n"
    ++ codes "endmodule\n"

-- the leaf comes first, and each word is as its name, range and connection ask
abbrev pub WorkedTableIsWritten : Type 0
WorkedTableIsWritten = written table ≡ worked_text
