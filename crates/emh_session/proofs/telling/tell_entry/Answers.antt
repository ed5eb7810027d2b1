use Rattle.std.proofs.Common.{◌<◌, false, length, arith}
use Rattle.std.proofs.lemmas.Option.{slice_get_within}
use Rattle.std.proofs.lemmas.Result.{err_from_is_err_and}
use Rattle.emh_session.proofs.Growing.{map_here, mark_here}
use Rattle.emh_session.proofs.Told.{told-none, told-next, told-halt}
use Rattle.emh_session.proofs.telling.tell_entry.Goals as goal

pub loop-i-init : goal.loop-i-init
loop-i-init g c = told-none _ _ _ _ c.requires.there

pub tell_one-requires-clause-there : goal.tell_one-requires-clause-there
tell_one-requires-clause-there g c = slice_get_within _ _ _ c.loop-i.invariant.there

pub returns-in_err-tell_one : goal.returns-in_err-tell_one
returns-in_err-tell_one g c =
    let p = err_from_is_err_and c.from_residual.result c.from_residual.ensures.1 in
    let within : c.loop-i.i < length c.args.enabled.now = omega arith in
    rw (p.1, p.2)
    (told-halt _ c.args.enabled.now c.args.entry c.loop-i.i c.args.desk.now c.loop-i.desk c.loop-i.invariant _ _
    (map_here _ c.args.watch.now c.loop-i.i c.index-watch-i.result c.loop-i-test.true c.index-watch-i.is)
    (mark_here c.args.enabled.now c.loop-i.i false within) _ c.tell_one.new.desk c.in_err-tell_one.ensures)

pub loop-i-preserved : goal.loop-i-preserved
loop-i-preserved g c =
    let within : c.loop-i.i < length c.args.enabled.now = omega arith in
    told-next _ c.args.enabled.now c.args.entry c.loop-i.i c.args.desk.now c.loop-i.desk c.loop-i.invariant _ _
    (map_here _ c.args.watch.now c.loop-i.i c.index-watch-i.result c.loop-i-test.true c.index-watch-i.is)
    (mark_here c.args.enabled.now c.loop-i.i false within) c.tell_one.new.desk c.in_ok-tell_one.ensures
