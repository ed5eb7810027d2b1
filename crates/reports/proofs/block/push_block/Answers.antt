use Rattle.std.proofs.Common.{ℕ, List, ◌++◌}
use Rattle.std.specs.List.{flat_map}
use Rattle.std.proofs.lemmas.Result.{on_ok_weaker, on_err_weaker}
use Rattle.flatten_rules.specs.Domains.{terminals, block_instances, block_nets}
use Rattle.reports.specs.Block.{term_lines, inst_line, net_line}
use Rattle.reports.proofs.Kept.{behind, kept_on}
use Rattle.reports.proofs.block.push_block.Goals as goal

pub returns-clause-ok : goal.returns-clause-ok
returns-clause-ok c =
    let M = c.args.plain.now in
    let top = c.args.top in
    let first : List ℕ = flat_map (term_lines M top) (terminals M top) in
    let second : List ℕ = flat_map (inst_line M top c.args.places.now) (block_instances M top) in
    let third : List ℕ = flat_map (net_line M top) (block_nets M top) in
    on_ok_weaker c.push_nets.result (λ last. behind c.args.out.now c.push_terms.new.out c.push_nets.new.out first (second ++ third) c.in_ok-push_terms.ensures.ok (behind c.push_terms.new.out c.push_insts.new.out c.push_nets.new.out second third c.in_ok-push_insts.ensures.ok last)) c.push_nets.ensures.ok

pub returns-clause-err : goal.returns-clause-err
returns-clause-err c =
    on_err_weaker c.push_nets.result (λ kept. kept_on _ _ _ _ c.in_ok-push_terms.ensures.ok (kept_on _ _ _ _ c.in_ok-push_insts.ensures.ok kept)) c.push_nets.ensures.err
