use Rattle.reports.specs.Block.{term_line}
use Rattle.reports.proofs.Kept.{kept_text, offsets_more}
use Rattle.reports.proofs.block.push_term_bits.Goals as goal

pub loop-offset-preserved : goal.loop-offset-preserved
loop-offset-preserved c =
    let text = offsets_more (term_line c.args.way.now.plain c.args.way.now.top (record { net = c.args.net.now.id; dir = c.args.dir })) c.args.out.now c.loop-offset.out c.push_term.new.out c.loop-offset.offset c.loop-offset.invariant.text c.in_ok-push_term.ensures.ok in
    record { kept = kept_text _ _ _ text; text = text }
