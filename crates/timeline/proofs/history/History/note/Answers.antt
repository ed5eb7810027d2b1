use Rattle.std.proofs.Common.{refl, ◌-◌}
use Rattle.timeline.proofs.TimelineLemmas.{IsKept-note, timeline-note}
use Rattle.timeline.proofs.history.History.note.Goals as goal

pub returns-clause-kept : goal.returns-clause-kept
returns-clause-kept g c = λ R before after kept more. IsKept-note R before after c.args.self.now _ c.args.swap kept c.requires.spare c.requires.open more refl c.push_reserved.ensures.items c.push_reserved.ensures.capacity

pub returns-clause-written : goal.returns-clause-written
returns-clause-written g c = λ R o live live' room room' value is now. timeline-note o live live' room room' c.args.self.now (record c.args.self.now { swaps = c.push_reserved.new.self; spare_writes = c.args.self.now.spare_writes - 1 }) c.args.swap value is now refl c.push_reserved.ensures.items
