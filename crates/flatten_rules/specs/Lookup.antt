use Rattle.std.specs.Prelude.{ℕ, ◌==◌, ◌+◌, ◌-◌, ◌<◌, All, AllPairs, List, [], map, Option, Some, None, find, position}
use Rattle.std.specs.List.{range_with_len}
use Rattle.emh_base.specs.declared.ids.ModId.{ModId}
use Rattle.emh_base.specs.declared.ids.NetId.{NetId}
use Rattle.emh_base.specs.declared.ids.InstId.{InstId}
use Rattle.emh_base.specs.declared.plain.Range.{Range}
use Rattle.emh_base.specs.declared.plain.Src.{Src}
use Rattle.emh_base.specs.declared.plain.Src.TheVariants.{Bit}
use Rattle.emh_base.specs.declared.plain.PNet.{PNet}
use Rattle.emh_base.specs.declared.plain.PPort.{PPort}
use Rattle.emh_base.specs.declared.plain.PInst.{PInst}
use Rattle.emh_base.specs.declared.plain.PModule.{PModule}
use Rattle.emh_base.specs.declared.plain.Plain.{Plain}

-- what an id names in its table

abbrev pub module_of : Plain → ModId → Option PModule
module_of M id = find (λ m. m.id.0 == id.0) M.modules

-- the place in the table of the module of that id
abbrev pub place_of : Plain → ModId → Option ℕ
place_of M id = position (λ m. m.id.0 == id.0) M.modules

abbrev pub net_of : PModule → NetId → Option PNet
net_of m id = find (λ net. net.id.0 == id.0) m.nets

-- a port is named by its inner net
abbrev pub port_of : PModule → NetId → Option PPort
port_of m net = find (λ port. port.net.0 == net.0) m.ports

abbrev pub inst_of : PModule → InstId → Option PInst
inst_of m id = find (λ inst. inst.id.0 == id.0) m.insts

-- the instances of a module, none where it isn't there
abbrev pub insts_of : Option PModule → List PInst
insts_of None = []
insts_of (Some m) = m.insts

-- what a look-up of an instance rests on
abbrev pub InstsRise : Plain → Type 0
InstsRise M = All (λ (m : PModule). AllPairs (λ (a b : PInst). a.id.0 < b.id.0) m.insts) M.modules

-- a net without a range has one bit, else one for each index from the one end to the other
abbrev pub width : Option Range → ℕ
width None = 1
width (Some range) = (range.left - range.right) + (range.right - range.left) + 1

abbrev pub width_of : Option PNet → ℕ
width_of None = 0
width_of (Some net) = width net.range

-- bits of a net that follow each other, from an offset on
abbrev pub bits_from : NetId → ℕ → ℕ → List Src
bits_from net offset count = map (λ k. Bit net k) (range_with_len offset count)

-- the table without modules
abbrev pub no_modules : Plain
no_modules = record { modules = []; next_module = 0 }
