-- None of the numbers so far makes a free name.
use Rattle.std.proofs.Common.{◌≡◌, ◌-◌, not, find}
use Rattle.std.specs.List.{range_with_len}
use Rattle.flatten_rules.specs.Lookup.{module_of}
use Rattle.edit_rules.specs.Readers.{is_name_in}
use Rattle.watch_kit.specs.Split.{free_number, numbered}
use Rattle.watch_kit.proofs.naming.free_name.Given as goal

abbrev pub invariant-loop-k : goal.invariant-loop-k
invariant-loop-k l =
    free_number (module_of l.state.plain l.id) l.stem l.counter
    ≡ find (λ n. not (is_name_in (module_of l.state.plain l.id) (numbered l.stem n))) (range_with_len l.k (l.end - l.k))
