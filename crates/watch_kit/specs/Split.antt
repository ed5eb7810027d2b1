-- The split of a net bit: a buffer takes over its sinks past the first ones. This project's own.
use Rattle.std.specs.Prelude.{ℕ, zero, suc, ◌+◌, ◌-◌, not, nat_le, List, [], ◌∷◌, ◌++◌, map, find, length, Option, Some, None, codes, if◌then◌else◌}
use Rattle.std.specs.List.{range_with_len}
use Rattle.std.specs.Fmt.{decimal}
use Rattle.emh_base.specs.declared.ids.ModId.{ModId}
use Rattle.emh_base.specs.declared.ids.NetId.{NetId}
use Rattle.emh_base.specs.declared.ids.InstId.{InstId}
use Rattle.emh_base.specs.declared.plain.Dir.{Dir}
use Rattle.emh_base.specs.declared.plain.Dir.TheVariants.{Input, Output}
use Rattle.emh_base.specs.declared.plain.Src.{Src}
use Rattle.emh_base.specs.declared.plain.Src.TheVariants.{Bit}
use Rattle.emh_base.specs.declared.plain.PPort.{PPort}
use Rattle.emh_base.specs.declared.plain.PModule.{PModule}
use Rattle.emh_base.specs.declared.state.Fanout.{Fanout}
use Rattle.emh_base.specs.declared.state.State.{State}
use Rattle.emh_base.specs.declared.edit.Edit.{Edit}
use Rattle.emh_base.specs.declared.edit.Edit.TheVariants.{CreateNet, CreateInst, Connect}
use Rattle.flatten_rules.specs.Lookup.{module_of, insts_of}
use Rattle.flatten_rules.specs.Domains.{ports_of}
use Rattle.edit_rules.specs.Readers.{next_net_of, next_inst_of, nets_of, is_name_in, same_dir}
use Rattle.watch_kit.specs.Passed.{passed}
use Rattle.watch_kit.specs.NetBits.{BitOf, is_bit}
use Rattle.watch_kit.specs.Sinks.{Join, joins, taken, sinks_at}

abbrev pub numbered : List ℕ → ℕ → List ℕ
numbered stem k = stem ++ decimal k

-- The first number from the counter up whose name is free in the module. One of so many numbers is,
-- as there are fewer names.
abbrev pub free_number : Option PModule → List ℕ → ℕ → Option ℕ
free_number m stem counter =
    find (λ k. not (is_name_in m (numbered stem k)))
    (range_with_len counter (length (nets_of m) + length (insts_of m) + 1))

abbrev pub name_of : List ℕ → Option ℕ → List ℕ
name_of stem None = stem
name_of stem (Some k) = numbered stem k

abbrev pub free_name : Option PModule → List ℕ → ℕ → List ℕ
free_name m stem counter = name_of stem (free_number m stem counter)

-- the bits of a connection, where those that are b become the new source, but for the first ones,
-- which stay
abbrev pub moved : BitOf → Src → ℕ → List Src → List Src
moved b new stay [] = []
moved b new zero (src ∷ more) = (if is_bit b src then new else src) ∷ moved b new zero more
moved b new (suc stay) (src ∷ more) = src ∷ moved b new (if is_bit b src then stay else suc stay) more

-- a connection that is to be made
pub record Move : Type 0 where
  pub inst : InstId
  pub port : NetId
  pub bits : List Src

abbrev pub move : BitOf → Src → ℕ → Join → Move
move b new stay j = record { inst = j.inst; port = j.port; bits = moved b new stay (taken j.dir j.conn) }

-- one for each port that has a sink of b past the first ones, which stay
abbrev pub moves : BitOf → Src → ℕ → List Join → List Move
moves b new stay [] = []
moves b new stay (j ∷ js) =
    (if nat_le (length (sinks_at b j)) stay then [] else move b new stay j ∷ [])
    ++ moves b new (stay - length (sinks_at b j)) js

abbrev pub connect_to : ModId → Move → Edit
connect_to m move = Connect m move.inst move.port move.bits

-- The edits of a split in their order: the new net, the buffer, its input and its output, and the
-- sinks that move to it.

abbrev pub new_net : State → ModId → Edit
new_net S m =
    CreateNet m (free_name (module_of S.plain m) (codes "fo_n") (next_net_of (module_of S.plain m)))
    None

abbrev pub new_buffer : State → ModId → ModId → Edit
new_buffer S m cell =
    CreateInst m
    (free_name (module_of S.plain m) (codes "fo_b") (next_inst_of (module_of S.plain m))) cell

abbrev pub net_of_port : Option PPort → NetId
net_of_port None = record { 0 = 0 }
net_of_port (Some port) = port.net

-- the first port of that direction
abbrev pub port_to : Dir → Option PModule → NetId
port_to dir m = net_of_port (find (λ port. same_dir port.dir dir) (ports_of m))

-- ids are the counters just before the edit that gives them
abbrev pub made_net : State → ModId → Src
made_net S m = Bit (record { 0 = next_net_of (module_of S.plain m) }) 0

abbrev pub made_inst : State → ModId → InstId
made_inst S m = record { 0 = next_inst_of (module_of S.plain m) }

abbrev pub joined_buffer : State → ModId → ModId → BitOf → Src → InstId → List Edit
joined_buffer S m cell b new buffer =
    Connect m buffer (port_to Input (module_of S.plain cell)) (Bit b.net b.offset ∷ [])
    ∷ Connect m buffer (port_to Output (module_of S.plain cell)) (new ∷ [])
    ∷ []

abbrev pub split : State → ModId → Fanout → BitOf → List Edit
split S m limit b =
    let with_net = passed S (new_net S m) in
    new_net S m
    ∷ new_buffer with_net m limit.cell
    ∷ joined_buffer S m limit.cell b (made_net S m) (made_inst with_net m)
    ++ map (connect_to m) (moves b (made_net S m) (limit.max - 1) (joins S.plain m))
