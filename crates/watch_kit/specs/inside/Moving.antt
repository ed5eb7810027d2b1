-- Connections that move sinks, one after the other.
use Rattle.std.specs.Prelude.{◌-◌, List, ◌++◌, map}
use Rattle.watch_kit.specs.declared.mover.Mover.{Mover}
use Rattle.watch_kit.specs.Sinks.{Join}
use Rattle.watch_kit.specs.Split.{moves, connect_to}
use Rattle.watch_kit.specs.inside.Keys.{bit_of}
use Rattle.watch_kit.specs.inside.Counting.{sinks_among}

-- a mover after some connections more
abbrev pub moved_on : Mover → List Join → Mover
moved_on s js = record s {
  stay = s.stay - sinks_among js (bit_of s.bit);
  edits = s.edits ++ map (connect_to s.module) (moves (bit_of s.bit) s.to s.stay js);
}
