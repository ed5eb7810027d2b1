use Rattle.std.proofs.Common.{◌≡◌, ◌++◌, take, length}
use Rattle.std.specs.List.{flat_map, filter}
use Rattle.flatten_rules.specs.Domains.{Pin, root_of_pin}
use Rattle.reports.specs.Net.{is_led_to, pins_led_to, joined_line}
use Rattle.reports.proofs.net.push_joined.Given as goal

-- The lines so far and those of the pins that are still to come are all.
abbrev pub invariant-loop-pins : goal.invariant-loop-pins
invariant-loop-pins l = record {
  plain : l.pins.plain ≡ l.fn.plain;
  top : l.pins.top ≡ l.fn.top;
  kept : take (length l.initial.out) l.out ≡ l.initial.out;
  text : l.out ++ flat_map (joined_line l.fn.plain l.fn.top) (filter (λ (pin : Pin). is_led_to l.fn.root (root_of_pin l.fn.plain l.fn.top pin)) l.pins.rest)
      ≡ l.initial.out ++ flat_map (joined_line l.fn.plain l.fn.top) (pins_led_to l.fn.plain l.fn.top l.fn.root);
}

abbrev pub decreases-loop-pins : goal.decreases-loop-pins
decreases-loop-pins l = length l.pins.rest
