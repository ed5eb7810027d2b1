use Rattle.std.proofs.Common.{◌≡◌, ◌%◌, List, length, slice_get, not, rules, tests, sym, ap, ◌∙◌, arith}
use Rattle.std.proofs.lemmas.Iterator.{YieldsList-from_slice}
use Rattle.std.proofs.lemmas.Iterator.Consumers.{YieldsList-from_filter, nth_from_yields_List}
use Rattle.std.proofs.lemmas.Option.{slice_get_past}
use Rattle.emh_base.specs.declared.plain.PModule.{PModule}
use Rattle.gen_design.specs.Turn.{inner_modules}
use Rattle.gen_design.proofs.turns.drawn_module.Goals as goal

pub returns-then-count-eq0 : goal.returns-then-count-eq0
returns-then-count-eq0 c =
    let xs : List PModule = inner_modules c.args.plain.now in
    sym (slice_get_past xs (c.args.number % length xs) (omega (arith, c.inner_count-count.ensures)))

pub returns : goal.returns
returns c =
    let xs : List PModule = inner_modules c.args.plain.now in
    let place : c.args.number % c.inner_count-count.result ≡ c.args.number % length xs = ap (λ n. c.args.number % n) c.inner_count-count.ensures in
    nth_from_yields_List c.nth.result c.nth.new.self (c.args.number % c.inner_count-count.result) c.nth.ensures.ran
    (YieldsList-from_filter _ (λ (m : PModule). not m.leaf) (YieldsList-from_slice c.args.plain.now.modules cc) c.filter.ensures.closure (λ x b q k. search (rules, tests)))
    ∙ ap (slice_get xs) place
