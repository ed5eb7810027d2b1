use Rattle.std.specs.Prelude.{ℕ, Bool, true, false, List, [], ◌∷◌, ◌++◌, Option, Some, None, codes}
use Rattle.std.specs.List.{flat_map, filter}
use Rattle.emh_base.specs.declared.ids.ModId.{ModId}
use Rattle.emh_base.specs.declared.plain.Plain.{Plain}
use Rattle.emh_base.specs.declared.root.Root.{Root}
use Rattle.emh_base.specs.declared.root.Root.TheVariants.{Tie0, Tie1, Own}
use Rattle.flatten_rules.specs.Domains.{NetBit, Pin, net_bits, pins, is_own, root_of, root_of_pin}
use Rattle.flatten_rules.specs.Texts.{root_text}
use Rattle.reports.specs.Line.{line, bit_word, pin_word}

-- two roots are one
abbrev pub is_same : Root → Root → Bool
is_same Tie0 Tie0 = true
is_same Tie1 Tie1 = true
is_same (Own path net offset) other = is_own (record { path = path; net = net; offset = offset }) other
is_same _ _ = false

-- the root of a pin, if it has one
abbrev pub is_led_to : Root → Option Root → Bool
is_led_to root None = false
is_led_to root (Some other) = is_same root other

-- the net bits and the pins that lead to a root
abbrev pub members : Plain → ModId → Root → List NetBit
members M top root = filter (λ (bit : NetBit). is_same root (root_of M top bit)) (net_bits M top)

abbrev pub pins_led_to : Plain → ModId → Root → List Pin
pins_led_to M top root = filter (λ (pin : Pin). is_led_to root (root_of_pin M top pin)) (pins M top)

-- `root ROOT`
abbrev pub root_line : Plain → ModId → Root → List ℕ
root_line M top root = line (codes "root" ∷ root_text M top (Some root) ∷ [])

-- `member NETBIT`
abbrev pub member_line : Plain → ModId → NetBit → List ℕ
member_line M top bit = line (codes "member" ∷ bit_word M top bit ∷ [])

-- `pin PIN`
abbrev pub joined_line : Plain → ModId → Pin → List ℕ
joined_line M top pin = line (codes "pin" ∷ pin_word M top pin ∷ [])

-- The report of a net: its root, then each net bit of the unfolding and each pin of a leaf that leads to it. Where the
-- root is a tie, these are all of the design with that tie.
abbrev pub net_text : Plain → ModId → Root → List ℕ
net_text M top root =
    root_line M top root
    ++ (flat_map (member_line M top) (members M top root)
    ++ flat_map (joined_line M top) (pins_led_to M top root))
