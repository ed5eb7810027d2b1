use Rattle.std.proofs.Common.{◌≡◌, ◌+◌, true, false, Some, nat_le, slice_get, refl, subst, rules}
use Rattle.std.proofs.lemmas.Option.{slice_get_read}
use Rattle.std.specs.List.Sorted.{IsPartitionPoint}
use Rattle.std.proofs.lemmas.List.Sorted.{IsPartitionPoint-from_clause, IsPartitionedBy-leb}
use Rattle.flatten_rules.proofs.Places.{non_decreasing-from_rising}
use Rattle.edit_rules.proofs.FactsLemmas.{parts-behind}
use Rattle.edit_rules.proofs.reading.place_past.Goals as goal

pub returns-clause-parts : goal.returns-clause-parts
returns-clause-parts g c =
    let number = g.T.Numbered.number_of in
    let items = c.args.items.now in
    IsPartitionPoint-from_clause (λ x. nat_le (number x) c.args.last) items _ c.partition_point.ensures.partitioned
    (IsPartitionedBy-leb number items c.args.last (non_decreasing-from_rising number items c.requires))
    (λ a r q k. search rules)

pub returns-then-number-last-clause-parts : goal.returns-then-number-last-clause-parts
returns-then-number-last-clause-parts g c =
    let number = g.T.Numbered.number_of in
    let items = c.args.items.now in
    let item = c.in-Some.item.now in
    let here : slice_get items c.args.last ≡ Some item = slice_get_read items _ c.args.last item refl c.in-Some.ensures.lookup.3.0 c.in-Some.ensures.lookup.1 in
    let same : number item ≡ c.args.last = search rules in
    subst (λ last. IsPartitionPoint (λ x. nat_le (number x) last ≡ true) (λ x. nat_le (number x) last ≡ false) items (c.args.last + 1)) same
    (parts-behind number items c.args.last item c.requires here)
