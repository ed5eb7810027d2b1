use Rattle.emh_base.specs.declared.edit.Edit.TheVariants.{DeleteNet}
use Rattle.watch_kit.specs.Sweep.{is_left_over}
use Rattle.watch_kit.proofs.Gathered.{kept-more}
use Rattle.watch_kit.proofs.sweep.left_over.Goals as goal

pub loop-net-preserved : goal.loop-net-preserved
loop-net-preserved c =
    kept-more (DeleteNet c.args.id) (is_left_over c.args.state.now c.args.id) c.args.nets.now c.loop-net.net-index (record { 0 = 0 }) c.loop-net.edits c.push_left_over.new.edits
    c.loop-net-test.true c.loop-net.invariant c.in_ok-push_left_over.ensures
