use Rattle.std.proofs.Common.{Some, ap, ◌∙◌}
use Rattle.std.proofs.lemmas.Bool.{ne_eqb, eq-eqb}
use Rattle.edit_rules.proofs.OutlineLemmas.{grown-made, bare-kept}
use Rattle.edit_rules.proofs.judging.outline.grown.Goals as goal

pub returns-then-here-id : goal.returns-then-here-id
returns-then-here-id g c =
    ap Some c.in_ok-with_inst_last.ensures
    ∙ grown-made (g.F.Facts.state c.args.facts.now).plain c.args.here c.args.id c.args.master c.args.name.now c.in_ok-holder.holder c.in_ok-holder.ensures (eq-eqb c.args.here.0 c.args.id.0 c.if-here-id.true)

pub returns : goal.returns
returns g c =
    bare-kept (g.F.Facts.state c.args.facts.now).plain c.args.here c.args.id c.args.master c.args.name.now c.in_ok-holder.holder c.in_ok-holder.ensures (ne_eqb c.args.here.0 c.args.id.0 c.if-here-id.false)
