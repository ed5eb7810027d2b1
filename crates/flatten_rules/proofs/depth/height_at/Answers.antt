use Rattle.std.proofs.Common.{sym}
use Rattle.flatten_rules.proofs.Heights.{height-at, height-low, height-absent}
use Rattle.flatten_rules.proofs.depth.height_at.Goals as goal

pub returns-in-Some-clause-value : goal.returns-in-Some-clause-value
returns-in-Some-clause-value c =
    height-at c.args.plain.now c.args.levels c.args.level.now c.args.id c.in-Some.place c.requires.known c.in-Some.ensures.found

pub returns-in-Some-clause-low : goal.returns-in-Some-clause-low
returns-in-Some-clause-low c =
    rw (height-at c.args.plain.now c.args.levels c.args.level.now c.args.id c.in-Some.place c.requires.known c.in-Some.ensures.found)
    (height-low c.args.plain.now c.args.levels c.args.id)

pub returns-in-None-clause-value : goal.returns-in-None-clause-value
returns-in-None-clause-value c = sym (height-absent c.args.plain.now c.args.id c.args.levels c.in-None.ensures.none)
