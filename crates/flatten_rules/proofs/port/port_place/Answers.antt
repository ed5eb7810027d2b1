use Rattle.std.proofs.Common.{◌==◌, ◌∙◌, position, ap}
use Rattle.emh_base.specs.declared.plain.PNet.{PNet}
use Rattle.flatten_rules.proofs.Checking.{port-at, port-nowhere}
use Rattle.flatten_rules.proofs.port.port_place.Goals as goal

pub returns-in-Some : goal.returns-in-Some
returns-in-Some c =
    port-at c.args.holder.now c.args.places.now c.args.net c.in-Some.place c.requires.places
    (c.in-Some.ensures ∙ ap (position (λ (net : PNet). net.id.0 == c.args.net.0)) c.as_slice.ensures)

pub returns-in-None : goal.returns-in-None
returns-in-None c =
    port-nowhere c.args.holder.now c.args.net c.requires.ports
    (c.in-None.ensures ∙ ap (position (λ (net : PNet). net.id.0 == c.args.net.0)) c.as_slice.ensures)
