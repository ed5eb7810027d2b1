use Rattle.std.specs.Prelude.{ℕ, List, [], ◌∷◌, ◌++◌, Option, Some, None, length, codes}
use Rattle.std.specs.List.{flat_map}
use Rattle.std.specs.Fmt.{decimal, signed_decimal}
use Rattle.std.specs.FinMap.{get}
use Rattle.emh_base.specs.Places.{PlacesByPath}
use Rattle.emh_base.specs.Text.{dir_text}
use Rattle.emh_base.specs.declared.ids.ModId.{ModId}
use Rattle.emh_base.specs.declared.placement.Placement.{Placement}
use Rattle.emh_base.specs.declared.plain.PPort.{PPort}
use Rattle.emh_base.specs.declared.plain.Plain.{Plain}
use Rattle.emh_base.specs.declared.root.Root.TheVariants.{Own}
use Rattle.flatten_rules.specs.Lookup.{module_of}
use Rattle.flatten_rules.specs.Unfolding.{Occurrence}
use Rattle.flatten_rules.specs.Domains.{NetBit, offsets, port_net, terminals, block_instances, block_nets}
use Rattle.flatten_rules.specs.FlatLines.{module_text}
use Rattle.script_read.specs.Text.{orient_text, status_text}
use Rattle.reports.specs.Line.{line, path_word, bit_word}
use Rattle.reports.specs.Net.{pins_led_to}

-- `term NETBIT DIR`, for a bit of a port of the top
abbrev pub term_line : Plain → ModId → PPort → ℕ → List ℕ
term_line M top port offset =
    line (codes "term" ∷ bit_word M top (record { path = []; net = port.net; offset = offset }) ∷ dir_text port.dir ∷ [])

abbrev pub term_lines : Plain → ModId → PPort → List ℕ
term_lines M top port = flat_map (term_line M top port) (offsets (port_net (module_of M top) port.net))

-- where a block instance is placed, and how
abbrev pub placement_words : Option Placement → List (List ℕ)
placement_words None = codes "unplaced" ∷ []
placement_words (Some p) =
    signed_decimal p.x ∷ signed_decimal p.y ∷ orient_text p.orient ∷ status_text p.status ∷ []

-- `inst PATH CELL unplaced` or `inst PATH CELL X Y ORIENT STATUS`
abbrev pub inst_line : Plain → ModId → PlacesByPath → Occurrence → List ℕ
inst_line M top places inst =
    line (codes "inst" ∷ path_word M top inst.0 ∷ module_text (module_of M inst.1) ∷ placement_words (get places inst.0))

-- how many pins lead to a net bit
abbrev pub pin_count : Plain → ModId → NetBit → ℕ
pin_count M top bit = length (pins_led_to M top (Own bit.path bit.net bit.offset))

-- `net NETBIT N`
abbrev pub net_line : Plain → ModId → NetBit → List ℕ
net_line M top bit = line (codes "net" ∷ bit_word M top bit ∷ decimal (pin_count M top bit) ∷ [])

-- The report of the block: the bits of the top's ports, the block instances with their placements, and the block nets
-- with how many pins each has.
abbrev pub block_text : Plain → ModId → PlacesByPath → List ℕ
block_text M top places =
    flat_map (term_lines M top) (terminals M top)
    ++ (flat_map (inst_line M top places) (block_instances M top)
    ++ flat_map (net_line M top) (block_nets M top))
