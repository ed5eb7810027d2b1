use Rattle.reports.specs.Occurrences.{bit_line}
use Rattle.reports.proofs.Kept.{bit_at, kept_text, numbers_more}
use Rattle.reports.proofs.occurrences.push_net_bits.Goals as goal

pub loop-offset-preserved : goal.loop-offset-preserved
loop-offset-preserved c =
    let text = numbers_more (bit_line c.args.way.now.plain c.args.way.now.top) (bit_at c.args.way.now.path c.args.net.now.id) c.args.out.now c.loop-offset.out c.push_bit_line.new.out c.loop-offset.offset c.loop-offset.invariant.text c.in_ok-push_bit_line.ensures.ok in
    record { kept = kept_text _ _ _ text; text = text }
