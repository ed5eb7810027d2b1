use Rattle.std.proofs.Common.{rules}
use Rattle.std.proofs.lemmas.Bool.{MatchBool-at_true}
use Rattle.std.proofs.lemmas.List.Elements.{All-from_all_within}
use Rattle.std.proofs.lemmas.Iterator.{cases_from_all, YieldsList-from_slice}
use Rattle.std.proofs.lemmas.Iterator.Search.{true_from_All}
use Rattle.emh_base.specs.declared.plain.PModule.{PModule}
use Rattle.flatten_rules.specs.Checks.{HasNets}
use Rattle.flatten_rules.proofs.soundness.have_nets.Goals as goal

pub returns : goal.returns
returns c =
    let modules = c.args.plain.now.modules in
    let No : PModule → Type 0 = λ m. HasNets m → ⊥ in
    let cases =
    cases_from_all _ _ _ HasNets No c.all.ensures.ran (YieldsList-from_slice modules (search rules)) (λ x q k. search rules) (λ x q k. search rules)
    in (
      λ yes. All-from_all_within HasNets modules (MatchBool-at_true _ _ yes cases),
      λ all. true_from_All HasNets No c.all.result modules (λ m yes no. no yes) cases all,
    )
