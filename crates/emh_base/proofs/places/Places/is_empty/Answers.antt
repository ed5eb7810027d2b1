use Rattle.std.proofs.Common.{◌∙◌, ap, sym, rules}
use Rattle.std.specs.FinMap as map
use Rattle.emh_base.specs.Path.{path_cmp}
use Rattle.emh_base.specs.declared.placement.Placement.{Placement}
use Rattle.emh_base.proofs.places.Places.is_empty.Goals as goal

pub returns : goal.returns
returns c = (
  λ none. map.empty_of_len c.args.self.now (sym c.len.ensures ∙ search (rules, none)),
  λ none. search (rules, c.len.ensures ∙ ap map.len none ∙ map.len-empty path_cmp Placement),
)
