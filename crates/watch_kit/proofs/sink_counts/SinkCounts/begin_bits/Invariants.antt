use Rattle.std.proofs.Common.{◌≡◌, [], map, take}
use Rattle.std.specs.List.{fold, flat_map}
use Rattle.watch_kit.specs.NetBits.{bits_in}
use Rattle.watch_kit.specs.inside.Keys.{bit_of}
use Rattle.watch_kit.specs.inside.Counting.{Begun, noted}
use Rattle.watch_kit.proofs.sink_counts.SinkCounts.begin_bits.Given as goal

abbrev pub invariant-loop-source : goal.invariant-loop-source
invariant-loop-source l = record {
  bits : map bit_of l.bits ≡ fold noted [] (flat_map bits_in (take l.source-index l.sources));
  begun : Begun (map bit_of l.bits) l.self;
  limit : l.self.limit ≡ l.initial.self.limit;
}
