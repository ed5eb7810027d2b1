use Rattle.std.proofs.Common.{◌≡◌, ◌++◌, None, Bool, take, All}
use Rattle.std.specs.List.{flat_map}
use Rattle.flatten_rules.specs.Check.{first_broken}
use Rattle.vlog_elab.specs.Named.{numbered}
use Rattle.vlog_elab.specs.Interfaces.{added, interfaces}
use Rattle.vlog_elab.specs.Connections.{inner_checks}
use Rattle.vlog_elab.specs.Table.{row}
use Rattle.vlog_elab.specs.Counters.{HasCounters}
use Rattle.vlog_elab.proofs.table.rows_of.Given as goal

abbrev pub invariant-loop-m : goal.invariant-loop-m
invariant-loop-m l = record {
  checks : first_broken (flat_map (inner_checks l.masters) (take l.m-index l.modules)) ≡ None;
  rows : (all_leaf : Bool) → l.masters ≡ interfaces l.table all_leaf l.modules
      → l.rows ≡ l.table.modules ++ numbered (row l.masters all_leaf) l.table.next_module (added l.table (take l.m-index l.modules));
  counters : All HasCounters l.table.modules → All HasCounters l.rows;
}
