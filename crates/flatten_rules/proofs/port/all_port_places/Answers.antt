use Rattle.std.proofs.Common.{◌<◌, ◌∙◌, length, get_or, List, ap, arith}
use Rattle.emh_base.specs.declared.plain.PModule.{PModule}
use Rattle.flatten_rules.proofs.Checking.{first_places-more}
use Rattle.flatten_rules.proofs.port.all_port_places.Goals as goal

pub loop-holder-preserved : goal.loop-holder-preserved
loop-holder-preserved c =
    let M = c.args.plain.now in
    let items = c.as_slice-holder-items.ensures in
    let i = c.loop-holder.holder-index in
    let holder : PModule = c.holder-item.result in
    let within : i < length M.modules = omega (arith, ap length items, c.loop-holder-test.true) in
    let at = c.holder-item.is ∙ ap (λ (modules : List PModule). get_or modules i holder) items in
    rw c.in_ok-push-in-Some.ensures.items
    (first_places-more M c.loop-holder.all.items i holder c.in-Some.places within at c.loop-holder.invariant (rw c.in-Some.is at c.in_ok-places.ensures.places))
