use Rattle.std.proofs.Common.{rules, ◌≡◌}
use Rattle.vlog_elab.specs.declared.name_positions.Look.TheVariants.{Free, At, Past}
use Rattle.vlog_elab.specs.inside.Agree.{look_up}
use Rattle.vlog_elab.proofs.Placing.{named-at, next-free, next-again, next-other, on-ok}
use Rattle.vlog_elab.proofs.name_positions.NamePositions.add.Goals as goal

pub returns-in-Free-clause-ok : goal.returns-in-Free-clause-ok
returns-in-Free-clause-ok g c =
    let ends : look_up c.args.self.now.slots.items c.args.entries.now c.as_bytes-name.result.now ≡ Free c.in-Free.slot = search rules in
    on-ok c.put.result (λ puts. next-free c.args.self.now.slots.items c.put.new.slots.items c.args.self.now.by_name c.args.entries.now c.args.place c.index-entries-place.result c.as_bytes-name.result.now c.in-Free.slot
    c.requires.within c.index-entries-place.is (named-at c.args.entries.now c.args.place c.index-entries-place.result c.as_bytes-name.result.now c.index-entries-place.is c.as_bytes-name.ensures.value) c.put.ensures.len ends (search (rules, puts)) c.requires.before) c.put.ensures.ok

pub returns-in-At-clause-ok : goal.returns-in-At-clause-ok
returns-in-At-clause-ok g c =
    let ends : look_up c.args.self.now.slots.items c.args.entries.now c.as_bytes-name.result.now ≡ At c.in-At.field-0 = search rules in
    next-again c.args.self.now.slots.items c.args.self.now.by_name c.args.entries.now c.args.place c.index-entries-place.result c.as_bytes-name.result.now c.in-At.field-0
    c.requires.within c.index-entries-place.is (named-at c.args.entries.now c.args.place c.index-entries-place.result c.as_bytes-name.result.now c.index-entries-place.is c.as_bytes-name.ensures.value) ends c.requires.before

pub returns-in_ok-place_in-in-Past-clause-ok : goal.returns-in_ok-place_in-in-Past-clause-ok
returns-in_ok-place_in-in-Past-clause-ok g c =
    let ends : look_up c.args.self.now.slots.items c.args.entries.now c.as_bytes-name.result.now ≡ Past = search rules in
    next-other c.args.self.now.slots.items c.args.self.now.by_name c.place_in.new.places c.args.entries.now c.args.place c.index-entries-place.result c.as_bytes-name.result.now c.in_ok-place_in-in-Past.field-0
    c.requires.within c.index-entries-place.is (named-at c.args.entries.now c.args.place c.index-entries-place.result c.as_bytes-name.result.now c.index-entries-place.is c.as_bytes-name.ensures.value) ends c.in_ok-place_in-in-Past.ensures.first c.in_ok-place_in-in-Past.ensures.ok c.requires.before
