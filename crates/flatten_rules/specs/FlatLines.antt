-- The flat netlist of a top as lines, one for each bit of a terminal, each instance, each net and each pin of the block
-- domain. This project's own.
use Rattle.std.specs.Prelude.{ℕ, List, [], ◌++◌, map, Option, Some, None, codes}
use Rattle.std.specs.List.{flat_map}
use Rattle.emh_base.specs.declared.ids.ModId.{ModId}
use Rattle.emh_base.specs.declared.plain.PPort.{PPort}
use Rattle.emh_base.specs.declared.plain.PModule.{PModule}
use Rattle.emh_base.specs.declared.plain.Plain.{Plain}
use Rattle.emh_base.specs.Text.{dir_text, spell}
use Rattle.flatten_rules.specs.Lookup.{module_of}
use Rattle.flatten_rules.specs.Unfolding.{Occurrence}
use Rattle.flatten_rules.specs.Domains.{NetBit, Pin, offsets, terminals, block_instances, block_nets, pins, root_of_pin}
use Rattle.flatten_rules.specs.Texts.{PathAt, BitAt, PinAt, text_of, net_up, root_text}
use Rattle.flatten_rules.specs.Sorted.{sorted}

abbrev pub module_text : Option PModule → List ℕ
module_text None = []
module_text (Some m) = spell m.name

-- `term NETBIT DIR`, for a bit of a port of the top
abbrev pub term_line : Plain → ModId → PPort → ℕ → List ℕ
term_line M top port offset =
    codes "term " ++ (text_of M top (BitAt (record { path = []; net = port.net; offset = offset })) ++ (codes " " ++ dir_text port.dir))

-- `inst PATH CELL`, for a block instance
abbrev pub inst_line : Plain → ModId → Occurrence → List ℕ
inst_line M top inst = codes "inst " ++ (text_of M top (PathAt inst.0) ++ (codes " " ++ module_text (module_of M inst.1)))

-- `net NETBIT`, for a block net
abbrev pub net_line : Plain → ModId → NetBit → List ℕ
net_line M top bit = codes "net " ++ text_of M top (BitAt bit)

-- `pin PIN ROOT`, for a pin of the block
abbrev pub pin_line : Plain → ModId → Pin → List ℕ
pin_line M top pin =
    codes "pin " ++ (text_of M top (PinAt pin.inst.0 pin.port pin.offset) ++ (codes " " ++ root_text M top (root_of_pin M top pin)))

abbrev pub term_lines : Plain → ModId → PPort → List (List ℕ)
term_lines M top port = map (term_line M top port) (offsets (net_up M top [] port.net))

-- the lines of the whole block, sorted by their bytes
abbrev pub flat_lines : Plain → ModId → List (List ℕ)
flat_lines M top = sorted (
    flat_map (term_lines M top) (terminals M top) ++ (map (inst_line M top) (block_instances M top)
    ++ (map (net_line M top) (block_nets M top) ++ map (pin_line M top) (pins M top)))
    )
