use Rattle.std.proofs.Common.{◌≡◌, ℕ, List, length, find}
use Rattle.row_chains.specs.Rows.{IsWay, is_numbered, keys}
use Rattle.row_chains.proofs.chain.find.Given as goal

abbrev pub invariant-loop-at : goal.invariant-loop-at
invariant-loop-at g l =
    (ks : List ℕ) × (IsWay g.C.Chain.rows l.rows.now l.at ks
    × (find (is_numbered g.C.Numbered.number_of l.rows.now l.number) ks ≡ find (is_numbered g.C.Numbered.number_of l.rows.now l.number) (keys g.C.Chain.rows l.rows.now l.fn.start)))

abbrev pub decreases-loop-at : goal.decreases-loop-at
decreases-loop-at g l = length (keys g.C.Chain.rows l.rows.now l.at)
