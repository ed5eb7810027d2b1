use Rattle.std.specs.Prelude.{ℕ, true, false, List, [], ◌∷◌, None, codes}
use Rattle.emh_base.specs.declared.plain.Dir.TheVariants.{Input, Output}
use Rattle.emh_base.specs.declared.plain.Src.TheVariants.{Bit}
use Rattle.emh_base.specs.declared.plain.Conn.{Conn}
use Rattle.emh_base.specs.declared.plain.Conn.TheVariants.{Bits}
use Rattle.emh_base.specs.declared.plain.PNet.{PNet}
use Rattle.emh_base.specs.declared.plain.PPort.{PPort}
use Rattle.emh_base.specs.declared.plain.PInst.{PInst}
use Rattle.emh_base.specs.declared.plain.PModule.{PModule}
use Rattle.emh_base.specs.declared.plain.Plain.{Plain}

-- The table of the worked example in examples/two_level: a top of two pairs, each of two inverters in a row.
-- Definitions are tried on it here and in the crates above.

abbrev scalar : ℕ → List ℕ → PNet
scalar n name = record { id = record { 0 = n }; name = name; range = None }

abbrev input : ℕ → PPort
input n = record { net = record { 0 = n }; dir = Input }

abbrev output : ℕ → PPort
output n = record { net = record { 0 = n }; dir = Output }

abbrev on : ℕ → Conn
on n = Bits (Bit (record { 0 = n }) 0 ∷ [])

-- an instance whose two ports are on these nets
abbrev between : ℕ → List ℕ → ℕ → ℕ → ℕ → PInst
between n name master from to = record {
  id = record { 0 = n };
  name = name;
  master = record { 0 = master };
  conns = on from ∷ on to ∷ [];
}

-- a leaf cell with an input A and an output Y
abbrev cell : ℕ → List ℕ → PModule
cell n name = record {
  id = record { 0 = n };
  name = name;
  leaf = true;
  locked = false;
  nets = scalar 0 (codes "A") ∷ scalar 1 (codes "Y") ∷ [];
  ports = input 0 ∷ output 1 ∷ [];
  insts = [];
  next_net = 2;
  next_inst = 0;
}

abbrev pair : PModule
pair = record {
  id = record { 0 = 2 };
  name = codes "pair";
  leaf = false;
  locked = false;
  nets = scalar 0 (codes "a") ∷ scalar 1 (codes "y") ∷ scalar 2 (codes "m") ∷ [];
  ports = input 0 ∷ output 1 ∷ [];
  insts = between 0 (codes "u1") 0 0 2 ∷ between 1 (codes "u2") 0 2 1 ∷ [];
  next_net = 3;
  next_inst = 2;
}

abbrev top : PModule
top = record {
  id = record { 0 = 3 };
  name = codes "top";
  leaf = false;
  locked = false;
  nets = scalar 0 (codes "i") ∷ scalar 1 (codes "o") ∷ scalar 2 (codes "w") ∷ [];
  ports = input 0 ∷ output 1 ∷ [];
  insts = between 0 (codes "p") 2 0 2 ∷ between 1 (codes "q") 2 2 1 ∷ [];
  next_net = 3;
  next_inst = 2;
}

unfoldable pub two_level : Plain
two_level = record {
  modules = cell 0 (codes "INV") ∷ cell 1 (codes "BUF") ∷ pair ∷ top ∷ [];
  next_module = 4;
}
