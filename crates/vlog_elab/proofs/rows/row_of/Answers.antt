use Rattle.std.proofs.Common.{◌≡◌, length, refl, ◌∙◌, ap}
use Rattle.vlog_elab.specs.Table.{inst_row, nets, insts}
use Rattle.vlog_elab.proofs.Numbering.{length-numbered}
use Rattle.vlog_elab.proofs.rows.row_of.Goals as goal

pub returns-clause-row : goal.returns-clause-row
returns-clause-row c = λ all_leaf id own.
    let next_net : c.in_ok-counter.field-0 ≡ length (nets c.args.m.now) = c.in_ok-counter.ensures.is ∙ c.len.ensures ∙ ap length c.requires in
    let next_inst : c.in_ok-counter-2.field-0 ≡ length (insts c.args.m.now)
    = c.in_ok-counter-2.ensures.is ∙ c.len-2.ensures ∙ ap length c.in_ok-insts.ensures ∙ length-numbered (inst_row c.args.interfaces.now c.args.nets.now) 0 (insts c.args.m.now) in
    rw (own, c.in_ok-copy.ensures, c.in_ok-net_rows.ensures, c.in_ok-port_rows.ensures, own, c.in_ok-insts.ensures, next_net, next_inst, c.requires) refl
