-- Made designs: modules each of which has two instances of earlier ones, by random numbers. This
-- project's own.
use Rattle.std.specs.Prelude.{ℕ, zero, suc, ◌+◌, ◌*◌, ◌-◌, ◌%◌, true, false, List, [], ◌∷◌, ◌++◌, map, Option, Some, None, codes}
use Rattle.std.specs.List.{range_with_len}
use Rattle.std.specs.Fmt.{decimal}
use Rattle.emh_base.specs.declared.ids.ModId.{ModId}
use Rattle.emh_base.specs.declared.plain.Dir.TheVariants.{Input, Output}
use Rattle.emh_base.specs.declared.plain.Range.{Range}
use Rattle.emh_base.specs.declared.plain.Src.TheVariants.{Bit}
use Rattle.emh_base.specs.declared.plain.Conn.{Conn}
use Rattle.emh_base.specs.declared.plain.Conn.TheVariants.{Bits}
use Rattle.emh_base.specs.declared.plain.PNet.{PNet}
use Rattle.emh_base.specs.declared.plain.PPort.{PPort}
use Rattle.emh_base.specs.declared.plain.PInst.{PInst}
use Rattle.emh_base.specs.declared.plain.PModule.{PModule}
use Rattle.emh_base.specs.declared.plain.Plain.{Plain}
use Rattle.gen_design.specs.Random.{draw}

abbrev pub net : ℕ → List ℕ → Option Range → PNet
net n name range = record { id = record { 0 = n }; name = name; range = range }

-- an input on net 0 and an output on net 1
abbrev pub two_ports : List PPort
two_ports =
    record { net = record { 0 = 0 }; dir = Input }
    ∷ record { net = record { 0 = 1 }; dir = Output } ∷ []

-- module 0, a leaf
abbrev pub inverter : PModule
inverter = record {
  id = record { 0 = 0 };
  name = codes "INV";
  leaf = true;
  locked = false;
  nets = net 0 (codes "A") None ∷ net 1 (codes "Y") None ∷ [];
  ports = two_ports;
  insts = [];
  next_net = 2;
  next_inst = 0;
}

-- the range of all buses, and the offset in it of an index, or the index of an offset
abbrev pub bus : ℕ → Option Range
bus width = Some (record { left = width - 1; right = 0 })

abbrev pub across : ℕ → ℕ → ℕ
across width index = width - 1 - index

-- bits of a net
abbrev pub on : ℕ → List ℕ → Conn
on n offsets = Bits (map (λ offset. Bit (record { 0 = n }) offset) offsets)

-- all bits of a net
abbrev pub whole : ℕ → ℕ → Conn
whole n width = on n (range_with_len 0 width)

-- the offset of the index that is so many higher, round and round
abbrev pub shifted_offset : ℕ → ℕ → ℕ → ℕ
shifted_offset width shift offset = across width ((across width offset + shift) % width)

-- the port's bit of index k is on the net's of index k + shift
abbrev pub shifted : ℕ → ℕ → ℕ → Conn
shifted n width shift = on n (map (shifted_offset width shift) (range_with_len 0 width))

-- an instance whose input is connected from something, and its output to something
abbrev pub inst : ℕ → List ℕ → ℕ → Conn → Conn → PInst
inst n name master from to = record {
  id = record { 0 = n };
  name = name;
  master = record { 0 = master };
  conns = from ∷ to ∷ [];
}

abbrev pub two_nets : ℕ → List PNet
two_nets width = net 0 (codes "i") (bus width) ∷ net 1 (codes "o") (bus width) ∷ []

-- the module g0, g1 and so on
abbrev pub numbered : ℕ → List PNet → List PInst → ℕ → ℕ → PModule
numbered j nets insts next_net next_inst = record {
  id = record { 0 = j + 1 };
  name = codes "g" ++ decimal j;
  leaf = false;
  locked = false;
  nets = nets;
  ports = two_ports;
  insts = insts;
  next_net = next_net;
  next_inst = next_inst;
}

-- the inverter from i[k] to o[k]
abbrev pub one_inverter : ℕ → ℕ → PInst
one_inverter width k =
    inst k (codes "u" ++ decimal k) 0 (on 0 (across width k ∷ [])) (on 1 (across width k ∷ []))

abbrev pub first_module : ℕ → PModule
first_module width =
    numbered 0 (two_nets width) (map (one_inverter width) (range_with_len 0 width)) 2 width

-- an instance a of an earlier module, from i to w, and b of another, from w, shifted, to o
abbrev pub later_module : ℕ → ℕ → ℕ → ℕ → ℕ → PModule
later_module width j first second shift =
    numbered j (two_nets width ++ net 2 (codes "w") (bus width) ∷ [])
    (inst 0 (codes "a") (first % j + 1) (whole 0 width) (whole 2 width)
    ∷ inst 1 (codes "b") (second % j + 1) (shifted 2 width shift) (whole 1 width) ∷ [])
    3 2

-- the modules by their number; each later one draws three numbers
abbrev pub made_module : ℕ → ℕ → ℕ → PModule
made_module x width zero = first_module width
made_module x width (suc j) =
    later_module width (suc j) (draw x (3 * j + 1)) (draw x (3 * j + 2)) (draw x (3 * j + 3))

abbrev pub made : ℕ → ℕ → ℕ → Plain
made x modules width = record {
  modules = inverter ∷ map (made_module x width) (range_with_len 0 modules);
  next_module = modules + 1;
}

-- the last module is to be the top
abbrev pub top_name : ℕ → List ℕ
top_name modules = codes "g" ++ decimal (modules - 1)

abbrev pub made_top : ℕ → ModId
made_top modules = record { 0 = modules }
