use Rattle.std.proofs.Common.{◌==◌, sym}
use Rattle.emh_base.specs.declared.plain.PNet.{PNet}
use Rattle.flatten_rules.specs.Sound.{IsAllowed}
use Rattle.flatten_rules.specs.FlatLines.{term_line}
use Rattle.flatten_rules.proofs.Sound.{All-find}
use Rattle.flatten_rules.proofs.Told.{numbered-more}
use Rattle.flatten_rules.proofs.lines.push_term.Goals as goal

pub width-offset-end-requires : goal.width-offset-end-requires
width-offset-end-requires c =
    All-find (λ (net : PNet). IsAllowed net.range) (λ (net : PNet). net.id.0 == c.args.port.now.net.0) c.args.holder.now.nets c.in-Some.net.now c.requires.sound.ranges (sym c.in-Some.ensures)

pub loop-offset-preserved : goal.loop-offset-preserved
loop-offset-preserved c =
    numbered-more (term_line c.args.way.now.plain c.args.way.now.top c.args.port.now) c.loop-offset.offset c.in_ok-term_line.field-0 c.args.lines.now.items c.loop-offset.lines.items c.push.new.self.items c.loop-offset.invariant c.in_ok-term_line.ensures c.in_ok-push.ensures.items
