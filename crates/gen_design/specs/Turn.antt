-- A turn of random edits: a Disconnect, a Connect to constants or a Uniquify, at an instance that
-- is drawn. This project's own.
use Rattle.std.specs.Prelude.{ℕ, ◌==◌, ◌%◌, not, List, [], ◌∷◌, ◌++◌, map, filter, length, slice_get, Option, Some, option_map, option_and_then, codes, if◌then◌else◌}
use Rattle.std.specs.List.{range_with_len}
use Rattle.std.specs.Fmt.{decimal}
use Rattle.emh_base.specs.declared.plain.Src.{Src}
use Rattle.emh_base.specs.declared.plain.Src.TheVariants.{Tie0}
use Rattle.emh_base.specs.declared.plain.PPort.{PPort}
use Rattle.emh_base.specs.declared.plain.PInst.{PInst}
use Rattle.emh_base.specs.declared.plain.PModule.{PModule}
use Rattle.emh_base.specs.declared.plain.Plain.{Plain}
use Rattle.emh_base.specs.declared.edit.Edit.{Edit}
use Rattle.emh_base.specs.declared.edit.Edit.TheVariants.{Connect, Disconnect, Uniquify}
use Rattle.flatten_rules.specs.Lookup.{module_of, net_of, width_of}
use Rattle.flatten_rules.specs.Domains.{ports_of, port_net}
use Rattle.gen_design.specs.Random.{after_draws, draw}

-- the item at a drawn place, round and round; none of an empty list
abbrev pub drawn_from : {X : Type 0} → List X → ℕ → Option X
drawn_from xs number = slice_get xs (number % length xs)

-- modules that aren't leaves
abbrev pub inner_modules : Plain → List PModule
inner_modules M = filter (λ m. not m.leaf) M.modules

-- a 0 for each bit
abbrev pub ties : ℕ → List Src
ties width = map (λ bit. Tie0) (range_with_len 0 width)

-- a Disconnect for 0, a Connect for 1
abbrev pub at_port : Plain → PModule → PInst → ℕ → PPort → Edit
at_port M m inst kind port =
    if kind == 0 then Disconnect m.id inst.id port.net
    else Connect m.id inst.id port.net
    (ties (width_of (port_net (module_of M inst.master) port.net)))

-- a Uniquify for 2, of a new name
abbrev pub at_inst : Plain → PModule → ℕ → ℕ → ℕ → PInst → Option Edit
at_inst M m kind port turn inst =
    if kind == 2 then Some (Uniquify m.id inst.id (codes "c" ++ decimal turn))
    else option_map (at_port M m inst kind) (drawn_from (ports_of (module_of M inst.master)) port)

-- The edit of a turn: four draws say which kind, which module, which of its instances and which
-- port of the instance's master. None where there is no such instance or port.
abbrev pub turn_edit : Plain → ℕ → ℕ → Option Edit
turn_edit M x turn =
    option_and_then
    (λ m. option_and_then (at_inst M m (draw x 1 % 3) (draw x 4) turn)
    (drawn_from m.insts (draw x 3)))
    (drawn_from (inner_modules M) (draw x 2))

-- the random number after a turn
abbrev pub after_turn : ℕ → ℕ
after_turn x = after_draws x 4
