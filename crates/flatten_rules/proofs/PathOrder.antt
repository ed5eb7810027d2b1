-- The entries of the maps by path are the lists.
use Rattle.std.proofs.Common.{◌≡◌, zero, suc, List, [], ◌∷◌, AllPairs, arith}
use Rattle.std.specs.List.{AllByRecursion}
use Rattle.std.specs.List.Sorted.{IsStrictlySortedBy}
use Rattle.std.specs.Map.{keys_of}
use Rattle.std.specs.declared.cmp.Ordering.TheVariants.{Less}
use Rattle.std.proofs.lemmas.List.Kept.{AllPairs-filter}
use Rattle.emh_base.specs.Path.{path_cmp, path_total}
use Rattle.emh_base.specs.declared.ids.InstId.{InstId}
use Rattle.emh_base.proofs.PlacesLemmas.{path_apart, entries_seen}
use Rattle.flatten_rules.specs.Lookup.{module_of}
use Rattle.flatten_rules.specs.Unfolding.{Occurrence, occurrences}
use Rattle.flatten_rules.specs.Domains.{is_leaf, block_instances}
use Rattle.flatten_rules.specs.ByPath.{StandsBefore, EachPathInOrder}
use Rattle.flatten_rules.proofs.Unfolded.{unfolded-rises}

-- what holds of a list of pairs holds without the second item
without-second : (e x : Occurrence) (es : List Occurrence) → AllPairs StandsBefore (e ∷ x ∷ es) → AllPairs StandsBefore (e ∷ es)
without-second e x es all zero zero d low within = absurd (omega (arith, low))
without-second e x es all zero (suc j) d low within = all 0 (suc (suc j)) d (omega arith) (omega (arith, within))
without-second e x es all (suc i) zero d low within = absurd (omega (arith, low))
without-second e x es all (suc i) (suc j) d low within = all (suc (suc i)) (suc (suc j)) d (omega (arith, low)) (omega (arith, within))

all-behind : (e : Occurrence) (es : List Occurrence) → AllPairs StandsBefore (e ∷ es) → AllByRecursion (λ (path : List InstId). path_cmp e.0 path ≡ Less) (keys_of es)
all-behind e [] all = tt
all-behind e (x ∷ es) all = (all 0 1 e (omega arith) (omega arith), all-behind e es (without-second e x es all))

rises-strictly : (es : List Occurrence) → AllPairs StandsBefore es → IsStrictlySortedBy path_cmp (keys_of es)
unfolding IsStrictlySortedBy
rises-strictly [] all = tt
rises-strictly (e ∷ es) all = (
  all-behind e es all,
  rises-strictly es (λ i j d low within. all (suc i) (suc j) d (omega (arith, low)) (omega (arith, within))),
)

pub each_path_in_order : EachPathInOrder
each_path_in_order M top rise =
    let all : AllPairs StandsBefore (occurrences M top) = unfolded-rises M rise 257 [] top in
    record {
      occurrences = entries_seen path_cmp path_total path_apart (occurrences M top) (rises-strictly (occurrences M top) all);
      block = entries_seen path_cmp path_total path_apart (block_instances M top)
          (rises-strictly (block_instances M top) (AllPairs-filter StandsBefore (λ (o : Occurrence). is_leaf (module_of M o.1)) (occurrences M top) all));
    }
