use Rattle.std.proofs.Common.{◌≡◌, ◌-◌, ◌<◌, List, length, get_or, refl, ap, subst, ◌∙◌, arith, rules}
use Rattle.std.proofs.lemmas.Result.{on_ok_weaker}
use Rattle.emh_base.specs.declared.plain.PModule.{PModule}
use Rattle.emh_base.specs.declared.plain.PInst.{PInst}
use Rattle.flatten_rules.proofs.Sound.{sound-module}
use Rattle.reports.specs.inside.Below.{WalksBelow}
use Rattle.reports.proofs.Filling.{is-here, at-place, inst-master, some-master, so-more, so-whole, so-all, joins-through, module-at, counted-there, place-within, set-counted, set-there}
use Rattle.reports.proofs.pin_counts.PinCounts.+fill.Goals as goal

pub add_below-returns-clause-joined : goal.add_below-returns-clause-joined
add_below-returns-clause-joined t c =
    let M = c.args.plain.now in
    let inst = c.args.inst.now in
    let master = c.index-as_slice-place.result in
    let there = module-at M c.in-Some.place inst.master master c.as_slice.result.now c.as_slice.ensures c.in-Some.ensures.found c.index-as_slice-place.is in
    let counted = counted-there M c.fill.new.self.modules.items c.in-Some.place inst.master c.index.result.now c.in-Some-index.below c.in_ok-fill-in-Some.ensures.counted c.in-Some.ensures.found c.index.ensures c.in-Some-index.is in
    on_ok_weaker c.add_inst.result (joins-through M inst master c.in-Some-index.below.counts.entries c.args.made.now.counts.entries c.add_inst.new.self.counts.entries there counted) c.add_inst.ensures

pub count-add_cell-requires : goal.count-add_cell-requires
count-add_cell-requires t c = (c.args.plain.now, sound-module c.args.plain.now c.args.holder.now.id c.args.holder.now c.requires.sound c.requires.there)

pub count-overflow_sub-levels : goal.count-overflow_sub-levels
count-overflow_sub-levels t c =
    let here = is-here c.args.plain.now c.args.levels c.args.holder.now c.requires.sound c.requires.there c.requires.short in
    let some = here.some in
    omega (arith, some)

pub count-add_below-requires : goal.count-add_below-requires
count-add_below-requires t c =
    let M = c.args.plain.now in
    let inst = c.inst-item.result in
    let here = is-here M c.args.levels c.args.holder.now c.requires.sound c.requires.there c.requires.short in
    let some : 0 < c.args.levels = here.some in
    let within = subst (λ (xs : List PInst). c.loop-inst.inst-index < length xs) c.as_slice-inst-items.ensures c.loop-inst-test.true in
    let at = c.inst-item.is ∙ ap (λ (xs : List PInst). get_or xs c.loop-inst.inst-index inst) c.as_slice-inst-items.ensures in
    let master = inst-master M c.args.levels c.args.holder.now c.requires.sound here c.loop-inst.inst-index inst within at in (
      search rules,
      (
        c.requires.sound,
        (
          c.requires.walks,
          (
            c.loop-inst.invariant.counted,
            (
              some-master M inst (λ (m : PModule). WalksBelow M m.id (c.args.levels - 1)) master.master master.there master.short,
              some-master M inst (λ (m : PModule). length inst.conns ≡ length m.ports) master.master master.there master.many,
            ),
          ),
        ),
      ),
    )

pub count-loop-inst-preserved : goal.count-loop-inst-preserved
count-loop-inst-preserved t c = record {
  counted = c.in_ok-add_below.ensures.counted;
  made = so-more c.args.plain.now c.args.holder.now c.as_slice-inst-items.result.now c.loop-inst.inst-index c.inst-item.result c.loop-inst.made.counts.entries c.add_below.new.made.counts.entries c.loop-inst-test.true c.inst-item.is c.loop-inst.invariant.made c.in_ok-add_below.ensures.joined;
}

pub count-returns-clause-made : goal.count-returns-clause-made
count-returns-clause-made t c =
    let M = c.args.plain.now in
    let m = c.args.holder.now in
    let here = is-here M c.args.levels m c.requires.sound c.requires.there c.requires.short in
    so-all M c.args.levels m c.loop-inst.made.counts.entries c.requires.sound c.requires.walks here
    (so-whole M m c.as_slice-inst-items.result.now c.loop-inst.inst-index c.loop-inst.made.counts.entries c.as_slice-inst-items.ensures c.loop-inst-test.false c.loop-inst.invariant.made)

pub fill-count-requires : goal.fill-count-requires
fill-count-requires t c =
    let at = at-place c.args.plain.now c.args.place c.args.levels c.index-as_slice-place.result c.as_slice.result.now c.requires.sound c.as_slice.ensures c.requires.short c.index-as_slice-place.is in
    (search rules, (c.requires.sound, (c.requires.walks, (c.requires.counted, (at.found, at.short)))))

pub fill-index_mut-requires : goal.fill-index_mut-requires
fill-index_mut-requires t c =
    let M = c.args.plain.now in
    let within = place-within M.modules c.args.place (λ (m : PModule). WalksBelow M m.id c.args.levels) c.requires.short in
    omega (arith, within, c.in_ok-made.ensures.counted.many)

pub fill-returns-clause-counted : goal.fill-returns-clause-counted
fill-returns-clause-counted t c =
    let at = at-place c.args.plain.now c.args.place c.args.levels c.index-as_slice-place.result c.as_slice.result.now c.requires.sound c.as_slice.ensures c.requires.short c.index-as_slice-place.is in
    set-counted c.args.plain.now c.count.new.self.modules.items _ c.args.place c.index-as_slice-place.result c.in_ok-made.made c.in_ok-made.ensures.counted at.at c.in_ok-made.ensures.made refl

pub fill-returns-clause-there : goal.fill-returns-clause-there
fill-returns-clause-there t c =
    let M = c.args.plain.now in
    let within = place-within M.modules c.args.place (λ (m : PModule). WalksBelow M m.id c.args.levels) c.requires.short in
    set-there c.count.new.self.modules.items _ c.args.place c.in_ok-made.made (omega (arith, within, c.in_ok-made.ensures.counted.many)) refl
