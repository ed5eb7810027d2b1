-- What is left to be read gives the same as the whole; each word has given a bit at least.
use Rattle.std.proofs.Common.{◌≡◌, ◌+◌, ◌≤◌, length, drop}
use Rattle.script_read.specs.Resolve.{some_sources, sources}
use Rattle.script_read.proofs.sources.sources.Given as goal

abbrev pub invariant-loop-bit : goal.invariant-loop-bit
invariant-loop-bit g l = record {
  place : l.place ≤ length l.found + 4;
  few : length l.found ≤ 4096;
  rest : some_sources (g.F.Facts.state l.facts) l.module l.pin l.place l.found (drop l.bit-index l.bits)
      ≡ sources (g.F.Facts.state l.facts) l.module l.pin 4 l.bits;
}
