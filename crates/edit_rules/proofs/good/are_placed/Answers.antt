use Rattle.std.proofs.Common.{List, IsTrue, All, sym, subst, ◌∙◌}
use Rattle.emh_base.specs.declared.ids.InstId.{InstId}
use Rattle.emh_base.specs.declared.placement.Placement.{Placement}
use Rattle.edit_rules.specs.Spots.{is_leaf_path}
use Rattle.edit_rules.proofs.PlacedLemmas.{placed-entries}
use Rattle.edit_rules.proofs.good.are_placed.Goals as goal

pub returns : goal.returns
returns c =
    let Placed : List (List InstId × Placement) → Type 0 = λ list. All (λ (p : List InstId × Placement). IsTrue (is_leaf_path c.args.plain.now c.args.top p.0)) list in
    let same = c.as_slice.ensures ∙ c.in_ok-list.ensures in
    let each = placed-entries c.args.plain.now c.args.top c.args.places.now in (
      λ all. each.0 (subst Placed same (c.are_leaf_paths.ensures.0 all)),
      λ placed. c.are_leaf_paths.ensures.1 (subst Placed (sym same) (each.1 placed)),
    )
