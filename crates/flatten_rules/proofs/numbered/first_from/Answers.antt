use Rattle.std.proofs.Common.{nat_lt, rules}
use Rattle.std.proofs.lemmas.List.Sorted.{IsPartitionPoint-from_clause, IsPartitionedBy-ltb}
use Rattle.flatten_rules.proofs.Places.{non_decreasing-from_rising}
use Rattle.flatten_rules.proofs.numbered.first_from.Goals as goal

pub returns-clause-parts : goal.returns-clause-parts
returns-clause-parts g c =
    let number = g.T.Numbered.number_of in
    let items = c.args.items.now in
    IsPartitionPoint-from_clause (λ x. nat_lt (number x) c.args.number) items _ c.partition_point.ensures.partitioned
    (IsPartitionedBy-ltb number items c.args.number (non_decreasing-from_rising number items c.requires))
    (λ a r q k. search rules)
