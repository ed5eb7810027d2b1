-- What the word spells is what was read so far and what the rest spells.
use Rattle.std.proofs.Common.{◌≡◌, ◌≤◌, ◌==◌, length, take, drop, true, false}
use Rattle.emh_base.specs.Spelling.{read_back}
use Rattle.emh_base.proofs.SpellLemmas.{with_front}
use Rattle.emh_base.proofs.spelling.take_marks.Given as goal

abbrev pub invariant-loop-byte : goal.invariant-loop-byte
invariant-loop-byte l = record {
  room : length l.bytes ≡ 1024;
  within : l.len ≤ 1024;
  spells : read_back true false l.word
      ≡ with_front (take l.len l.bytes) (read_back (l.len == 0) l.marked (drop l.byte-index l.word));
}
