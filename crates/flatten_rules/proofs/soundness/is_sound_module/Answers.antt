use Rattle.std.proofs.Common.{refl}
use Rattle.flatten_rules.specs.Checks.{HasPorts}
use Rattle.flatten_rules.proofs.soundness.is_sound_module.Goals as goal

pub returns : goal.returns
returns c =
    let m = c.args.holder.now in
    let ports : HasPorts m = c.in_ok-places.ensures.own.0 (rw c.in-Some.is refl) in
    let insts = rw c.as_slice.ensures at (c.rises.ensures.rises.0 c.if-not-rises.false) in (
      λ cell. record {
        names = c.in_ok-has_own_names.ensures.0 c.if-not-branch.false;
        nets_rise = c.requires.own.rise;
        nets_below = c.requires.own.below;
        net_counter = c.requires.own.counter;
        ranges = c.requires.own.ranges;
        ports_there = ports.there;
        ports_differ = ports.differ;
        insts_rise = insts.0;
        insts_below = insts.1;
        inst_counter = c.rises.ensures.counter;
        masters = c.have_masters.ensures.0 c.if-not-have_masters.false;
        cell = c.is_cell_if_leaf.ensures.0 cell;
      },
      λ sound. c.is_cell_if_leaf.ensures.1 sound.cell,
    )
