use Rattle.std.proofs.Common.{map, List, ap, subst, sym, ◌∙◌}
use Rattle.std.proofs.lemmas.Result.{on_ok_weaker}
use Rattle.watch_kit.specs.declared.net_bits.BitOf.{BitOf as Key}
use Rattle.watch_kit.specs.inside.Keys.{bit_of}
use Rattle.watch_kit.specs.inside.Counting.{Begun}
use Rattle.watch_kit.proofs.Noted.{noted-there, noted-last, begun-last}
use Rattle.watch_kit.proofs.sink_counts.SinkCounts.note.Goals as goal

pub returns-then-contains_key-clause-bits : goal.returns-then-contains_key-clause-bits
returns-then-contains_key-clause-bits c =
    noted-there c.args.bits.now c.args.self.now c.requires c.args.bit (sym c.if-contains_key.ensures)

pub returns-clause-bits : goal.returns-clause-bits
returns-clause-bits c =
    on_ok_weaker c.push.result (λ last.
    ap (map bit_of) last ∙ noted-last c.args.bits.now c.args.self.now c.requires c.args.bit (sym c.if-contains_key.ensures))
    c.push.ensures.ok

pub returns-clause-begun : goal.returns-clause-begun
returns-clause-begun c =
    let s = record c.args.self.now { counts = c.insert.new.self } in
    on_ok_weaker c.push.result (λ last.
    let P : List Key → Type 0 = λ bits. Begun (map bit_of bits) s in
    subst P (sym last) (begun-last c.args.bits.now c.args.self.now c.requires c.args.bit s c.in_ok-insert.ensures.updates.0))
    c.push.ensures.ok
