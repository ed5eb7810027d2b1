use Rattle.flatten_rules.proofs.Checking.{cell-from_places, places-from_cell}
use Rattle.flatten_rules.proofs.cell.is_cell.Goals as goal

pub returns : goal.returns
returns c =
    let m = c.args.holder.now in
    let places = c.args.places.now in (
      λ all. record {
        insts = c.is_empty.ensures.0 c.if-not-is_empty.false;
        nets = cell-from_places m places c.requires (c.have_ports.ensures.0 all);
        unlocked = c.if-holder.false;
      },
      λ cell. c.have_ports.ensures.1 (places-from_cell m places c.requires cell.nets),
    )
