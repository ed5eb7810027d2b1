use Rattle.std.proofs.Common.{◌≡◌, ℕ, List, [], ◌∷◌, Some, Option, cond, ap, sym, ◌∙◌, is_some, find}
use Rattle.std.specs.FinMap as map
use Rattle.row_chains.specs.Rows.{is_numbered}
use Rattle.row_chains.proofs.TableLemmas.{keys-way, way-step, way-end, search-next, numbered-yes, numbered-no}
use Rattle.row_chains.proofs.chain.find.Goals as goal

pub loop-at-init : goal.loop-at-init
loop-at-init g c =
    let p = is_numbered g.C.Numbered.number_of c.args.rows.now.now c.args.number in
    (c.requires.0, (c.requires.1, ap (find p) (sym (keys-way g.C.Chain.rows c.args.rows.now.now c.args.start c.requires.0 c.requires.1))))

pub unwrap-row-requires : goal.unwrap-row-requires
unwrap-row-requires g c =
    ap is_some c.get.ensures
    ∙ ap is_some (way-step g.C.Chain.rows c.args.rows.now.now c.loop-at.at c.in-Some.key c.loop-at.invariant.0 c.in-Some.is c.loop-at.invariant.1.0).at

pub loop-at-smaller : goal.loop-at-smaller
loop-at-smaller g c =
    let at = sym c.get.ensures ∙ c.unwrap-row.ensures in
    let s = search-next g.C.Chain.rows c.args.rows.now.now c.loop-at.at c.in-Some.key c.unwrap-row.result c.loop-at.invariant.0 c.in-Some.is at c.loop-at.invariant.1.0 in
    rw c.next-at.ensures s.shorter

pub loop-at-preserved : goal.loop-at-preserved
loop-at-preserved g c =
    let at = sym c.get.ensures ∙ c.unwrap-row.ensures in
    let s = search-next g.C.Chain.rows c.args.rows.now.now c.loop-at.at c.in-Some.key c.unwrap-row.result c.loop-at.invariant.0 c.in-Some.is at c.loop-at.invariant.1.0 in
    let p = is_numbered g.C.Numbered.number_of c.args.rows.now.now c.args.number in
    let differs = numbered-no g.C.Numbered.number_of c.args.rows.now.now c.args.number c.in-Some.key c.unwrap-row.result at (λ e. c.if-number.false (c.number.ensures ∙ e)) in
    rw c.next-at.ensures
    (s.rest, (s.way, sym (ap (λ b. cond b (Some c.in-Some.key) (find p s.rest)) differs) ∙ sym (ap (find p) s.parts) ∙ c.loop-at.invariant.1.1))
