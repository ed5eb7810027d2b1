use Rattle.std.proofs.Common.{◌≡◌, List, ℕ, rules, sym, ◌∙◌, is_lt, IsSorted}
use Rattle.std.specs.Ordering.{nat_cmp}
use Rattle.std.specs.Cmp.Lexicographic.{slice_cmp, nat_list_cmp_total}
use Rattle.std.proofs.lemmas.List.{map-id}
use Rattle.std.proofs.lemmas.List.Sorted.{ranks_by, answers_always}
use Rattle.std.proofs.lemmas.Iterator.Adapters.{YieldsList-from_vec}
use Rattle.std.proofs.lemmas.Iterator.Consumers.{YieldsList-end}
use Rattle.flatten_rules.proofs.OneOrder.{sorted-only}
use Rattle.flatten_rules.proofs.sorting.sorted.Goals as goal

pub returns : goal.returns
returns c =
    let texts : List (List ℕ) = c.sort_unstable_by.new.self.items in
    let ends = YieldsList-end (YieldsList-from_vec {s = c.into_iter-text-iterator.result} texts (search rules) (search rules)) c.loop-text.yielded c.loop-text.text-iterator c.loop-text.yielded_by c.next.result c.next.new.self c.in-None.is c.next.ensures.steps in
    let all : c.loop-text.yielded ≡ texts = sym (map-id c.loop-text.yielded) ∙ ends.0 in
    let up : IsSorted (slice_cmp nat_cmp) texts =
    c.sort_unstable_by.ensures.sorted (λ x y. is_lt (slice_cmp nat_cmp x y)) (ranks_by nat_list_cmp_total (λ x. x)) (answers_always _ (λ a r. is_lt r ≡ is_lt (slice_cmp nat_cmp a.0.now a.1.0.now)) _ (λ f a r f' k. search rules)) in
    c.loop-text.invariant ∙ all ∙ sorted-only c.args.texts.items texts c.sort_unstable_by.ensures.permutation up
