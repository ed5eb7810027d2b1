use Rattle.std.proofs.Common.{◌≡◌, ◌∙◌, length, ap, sym, refl, arith, if◌then◌else◌, Err, Bool, true, false, subst}
use mir.Val.{bool_byte}
use Rattle.std.proofs.lemmas.Result.{err_from_is_err_and}
use Rattle.emh_io.specs.PutAll.{PutsAll}
use Rattle.emh_shell.specs.Progress.{Progress}
use Rattle.emh_shell.proofs.Playing.{at-begin, Standing-start, Standing-more, Ends-line, Ends-put, Ends-out}
use Rattle.emh_shell.proofs.play.run_lines.Goals as goal

byte-of : (refused : Bool) → bool_byte refused ≡ (if refused then 1 else 0)
byte-of true = refl
byte-of false = refl

pub loop-line-init : goal.loop-line-init
loop-line-init g c = record {
  stands = Standing-start _ _ (g.F.Shelf.told c.args.shelf.now) (g.K.Sink.told c.args.out.now) c.args.lines.now c.new-progress.result (c.new-progress.ensures ∙ at-begin (λ b. (goal.Observer-dyn g (b.vtable, b.value)).called b.value) (λ b. (goal.Observer-dyn g (b.vtable, b.value)).wants b.value) c.args.watch.now c.args.budget (length c.args.watch.now) refl);
  watchers = sym (ap (λ (z : Progress). z.watchers) c.new-progress.ensures);
}

pub loop-line-preserved : goal.loop-line-preserved
loop-line-preserved g c = record {
  stands =
      Standing-more _ _ (g.F.Shelf.told c.args.shelf.now) (g.F.Shelf.told c.loop-line.shelf) (g.F.Shelf.told c.step.new.shelf) (g.K.Sink.told c.args.out.now) (g.K.Sink.told c.loop-line.out) (g.K.Sink.told c.put_all.new.out) c.args.lines.now c.loop-line.line-index c.loop-line.progress c.step.new.progress c.line-item.result c.in_ok-said.said c.loop-line.invariant.stands (omega arith) c.line-item.is c.in_ok-said.ensures.ends (rw c.as_slice.ensures at c.in_ok-put_all.ensures);
  watchers = c.loop-line.invariant.watchers ∙ sym c.step.ensures.watchers;
}

pub returns : goal.returns
returns g c = λ words reads under.
    Ends-out _ _ (g.F.Shelf.told c.args.shelf.now) (g.F.Shelf.told c.loop-line.shelf) (g.K.Sink.told c.args.out.now) (g.K.Sink.told c.loop-line.out) c.args.lines.now c.loop-line.line-index c.loop-line.progress words c.from.result c.loop-line.invariant.stands (omega arith) reads under (c.from.ensures ∙ ap bool_byte c.has_refused.ensures ∙ byte-of c.loop-line.progress.has_refused)

pub returns-in_err-said : goal.returns-in_err-said
returns-in_err-said g c = λ words reads under.
    let p = err_from_is_err_and c.from_residual.result c.from_residual.ensures.1 in
    rw (p.1, p.2)
    (Ends-line _ _ (g.F.Shelf.told c.args.shelf.now) (g.F.Shelf.told c.loop-line.shelf) (g.F.Shelf.told c.step.new.shelf) (g.K.Sink.told c.args.out.now) (g.K.Sink.told c.loop-line.out) c.args.lines.now c.loop-line.line-index c.loop-line.progress c.step.new.progress c.line-item.result words c.in_err-said.field-0.0 c.loop-line.invariant.stands (omega arith) c.line-item.is reads under c.in_err-said.ensures.ends)

pub returns-in_err-put_all : goal.returns-in_err-put_all
returns-in_err-put_all g c = λ words reads under.
    let p = err_from_is_err_and c.from_residual-in_err-put_all.result c.from_residual-in_err-put_all.ensures.1 in
    let put : PutsAll c.as_slice.result.now (g.K.Sink.told c.loop-line.out) (g.K.Sink.told c.put_all.new.out) (Err c.in_err-put_all.field-0.0) = c.in_err-put_all.ensures in
    rw (p.1, p.2)
    (Ends-put _ _ (g.F.Shelf.told c.args.shelf.now) (g.F.Shelf.told c.loop-line.shelf) (g.F.Shelf.told c.step.new.shelf) (g.K.Sink.told c.args.out.now) (g.K.Sink.told c.loop-line.out) (g.K.Sink.told c.put_all.new.out) c.args.lines.now c.loop-line.line-index c.loop-line.progress c.step.new.progress c.line-item.result c.in_ok-said.said words c.in_err-put_all.field-0.0 c.loop-line.invariant.stands (omega arith) c.line-item.is reads under c.in_ok-said.ensures.ends (subst (λ z. PutsAll z (g.K.Sink.told c.loop-line.out) (g.K.Sink.told c.put_all.new.out) (Err c.in_err-put_all.field-0.0)) c.as_slice.ensures put))
