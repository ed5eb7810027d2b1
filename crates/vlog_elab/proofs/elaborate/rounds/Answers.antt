use Rattle.std.proofs.Common.{ℕ, ◌<◌, ◌+◌, List, Some, None, length, sym, ◌∙◌, subst}
use Rattle.std.specs.List.{All, AllPairs}
use Rattle.std.proofs.lemmas.Result.{err_from_is_err_and}
use Rattle.emh_base.specs.declared.plain.PInst.{PInst}
use Rattle.emh_base.specs.declared.plain.PModule.{PModule}
use Rattle.emh_base.specs.declared.plain.Plain.{Plain}
use Rattle.flatten_rules.specs.Cycle.{OnCycle, IsFirstOnCycle}
use Rattle.vlog_elab.specs.Interfaces.{added}
use Rattle.vlog_elab.specs.Table.{built}
use Rattle.vlog_elab.proofs.Rising.{modules_rise, all_insts_rise}
use Rattle.vlog_elab.proofs.Rounds.{first_round-fails, second_round}
use Rattle.vlog_elab.proofs.Walking.{found-along}
use Rattle.vlog_elab.proofs.Building.{made-is, interfaces-known, place-within, fault-of_checks, fault-of_cycle}
use Rattle.vlog_elab.proofs.Counters.{table-counters}
use Rattle.vlog_elab.proofs.elaborate.rounds.Goals as goal

pub returns-in_err-known-clause-fault : goal.returns-in_err-known-clause-fault
returns-in_err-known-clause-fault c =
    let p = err_from_is_err_and c.from_residual.result c.from_residual.ensures.1 in
    rw (p.1, p.2) (fault-of_checks c.args.table.now c.args.all_leaf c.args.tree.now c.in_err-known.field-0.0
    (first_round-fails c.args.table.now c.args.all_leaf c.args.tree.now c.as_slice-modules.result.now c.in_err-known.field-0.0 c.as_slice-modules.ensures c.in_err-known.ensures))

pub returns-in_err-rows-clause-fault : goal.returns-in_err-rows-clause-fault
returns-in_err-rows-clause-fault c =
    let p = err_from_is_err_and c.from_residual-in_err-rows.result c.from_residual-in_err-rows.ensures.1 in
    let e = c.in_err-rows.field-0.0 in
    let is = second_round c.args.table.now c.args.all_leaf c.args.tree.now c.in_ok-known.known c.as_slice-modules.result.now c.as_slice-modules.ensures c.in_ok-known.ensures.0 c.in_ok-known.ensures.1 in
    rw (p.1, p.2) (fault-of_checks c.args.table.now c.args.all_leaf c.args.tree.now e (found-along _ _ e is c.in_err-rows.ensures.checks))

pub first_on_cycle-requires-clause-rise : goal.first_on_cycle-requires-clause-rise
first_on_cycle-requires-clause-rise c =
    let made = c.in_ok-rows.ensures.rows c.args.all_leaf (interfaces-known c.args.table.now c.args.all_leaf c.in_ok-known.known c.as_slice-modules.result.now c.in_ok-known.ensures.1) in
    subst (λ (rows : List PModule). AllPairs (λ (a b : PModule). a.id.0 < b.id.0) rows) (sym made)
    (modules_rise c.args.table.now c.in_ok-known.known.interfaces c.args.all_leaf (added c.args.table.now c.as_slice-modules.result.now) c.requires)

pub first_on_cycle-requires-clause-insts : goal.first_on_cycle-requires-clause-insts
first_on_cycle-requires-clause-insts c =
    let made = c.in_ok-rows.ensures.rows c.args.all_leaf (interfaces-known c.args.table.now c.args.all_leaf c.in_ok-known.known c.as_slice-modules.result.now c.in_ok-known.ensures.1) in
    subst (λ (rows : List PModule). All (λ (m : PModule). AllPairs (λ (a b : PInst). a.id.0 < b.id.0) m.insts) rows) (sym made)
    (all_insts_rise c.args.table.now c.in_ok-known.known.interfaces c.args.all_leaf (added c.args.table.now c.as_slice-modules.result.now) c.requires)

pub recursive-requires-clause-within : goal.recursive-requires-clause-within
recursive-requires-clause-within c =
    let made = c.in_ok-rows.ensures.rows c.args.all_leaf (interfaces-known c.args.table.now c.args.all_leaf c.in_ok-known.known c.as_slice-modules.result.now c.in_ok-known.ensures.1) in
    let plain : Plain = record { modules = c.in_ok-rows.rows; next_module = c.in_ok-known.known.next_module } in
    let on_cycle : IsFirstOnCycle plain c.len.result (Some c.in-Some.place) = subst (IsFirstOnCycle plain c.len.result) c.in-Some.is c.in_ok-place.ensures in
    place-within c.args.table.now c.args.all_leaf c.in_ok-known.known.interfaces c.as_slice-modules.result.now c.in_ok-rows.rows (OnCycle plain) c.in-Some.place made on_cycle.1

pub returns-in-Some-clause-fault : goal.returns-in-Some-clause-fault
returns-in-Some-clause-fault c =
    let made = c.in_ok-rows.ensures.rows c.args.all_leaf (interfaces-known c.args.table.now c.args.all_leaf c.in_ok-known.known c.as_slice-modules.result.now c.in_ok-known.ensures.1) in
    let is = made-is c.args.table.now c.args.all_leaf c.args.tree.now c.in_ok-known.known c.as_slice-modules.result.now c.in_ok-rows.rows c.as_slice-modules.ensures c.in_ok-known.ensures.1 made in
    let plain : Plain = record { modules = c.in_ok-rows.rows; next_module = c.in_ok-known.known.next_module } in
    let at_len : IsFirstOnCycle plain (length c.args.table.now.modules) (Some c.in-Some.place)
    = subst (IsFirstOnCycle plain (length c.args.table.now.modules)) c.in-Some.is (subst (λ (n : ℕ). IsFirstOnCycle plain n c.in_ok-place.field-0) c.len.ensures c.in_ok-place.ensures) in
    let on_cycle : IsFirstOnCycle (built c.args.table.now c.args.all_leaf c.args.tree.now) (length c.args.table.now.modules) (Some c.in-Some.place)
    = subst (λ (M : Plain). IsFirstOnCycle M (length c.args.table.now.modules) (Some c.in-Some.place)) is at_len in
    let within : c.in-Some.place < length c.args.table.now.modules + length (added c.args.table.now c.args.tree.now.modules)
    = rw (← c.as_slice-modules.ensures)
    (place-within c.args.table.now c.args.all_leaf c.in_ok-known.known.interfaces c.as_slice-modules.result.now c.in_ok-rows.rows (OnCycle plain) c.in-Some.place made at_len.1) in
    let passed = second_round c.args.table.now c.args.all_leaf c.args.tree.now c.in_ok-known.known c.as_slice-modules.result.now c.as_slice-modules.ensures c.in_ok-known.ensures.0 c.in_ok-known.ensures.1 ∙ c.in_ok-rows.ensures.checks in
    fault-of_cycle c.args.table.now c.args.all_leaf c.args.tree.now c.in-Some.place c.recursive.result passed on_cycle within
    (rw c.as_slice-modules.ensures at c.recursive.ensures)

pub returns-clause-table : goal.returns-clause-table
returns-clause-table c =
    let made = c.in_ok-rows.ensures.rows c.args.all_leaf (interfaces-known c.args.table.now c.args.all_leaf c.in_ok-known.known c.as_slice-modules.result.now c.in_ok-known.ensures.1) in
    let is = made-is c.args.table.now c.args.all_leaf c.args.tree.now c.in_ok-known.known c.as_slice-modules.result.now c.in_ok-rows.rows c.as_slice-modules.ensures c.in_ok-known.ensures.1 made in
    let plain : Plain = record { modules = c.in_ok-rows.rows; next_module = c.in_ok-known.known.next_module } in
    let at_len : IsFirstOnCycle plain (length c.args.table.now.modules) None
    = subst (IsFirstOnCycle plain (length c.args.table.now.modules)) c.in-None.is (subst (λ (n : ℕ). IsFirstOnCycle plain n c.in_ok-place.field-0) c.len.ensures c.in_ok-place.ensures) in
    record {
      passed = second_round c.args.table.now c.args.all_leaf c.args.tree.now c.in_ok-known.known c.as_slice-modules.result.now c.as_slice-modules.ensures c.in_ok-known.ensures.0 c.in_ok-known.ensures.1 ∙ c.in_ok-rows.ensures.checks;
      no_cycle = subst (λ (M : Plain). IsFirstOnCycle M (length c.args.table.now.modules) None) is at_len;
      table = is;
    }

pub returns-clause-counters : goal.returns-clause-counters
returns-clause-counters c = c.in_ok-rows.ensures.counters (table-counters c.args.table.now c.requires)
