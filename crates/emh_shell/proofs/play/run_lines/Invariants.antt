use Rattle.std.proofs.Common.{◌≡◌, length}
use Rattle.emh_shell.specs.Answers.{watched}
use Rattle.emh_shell.proofs.Playing.{Standing}
use Rattle.emh_shell.proofs.play.run_lines.Given as goal

abbrev pub invariant-loop-line : goal.invariant-loop-line
invariant-loop-line g l = record {
  stands :
      Standing
      (watched (λ b. (goal.Observer-dyn g (b.vtable, b.value)).called b.value) (λ b. (goal.Observer-dyn g (b.vtable, b.value)).wants b.value) l.watch)
      l.budget (g.F.Shelf.told l.initial.shelf) (g.F.Shelf.told l.shelf) (g.K.Sink.told l.initial.out) (g.K.Sink.told l.out) l.lines l.line-index l.progress;
  watchers : length l.watch ≡ l.progress.watchers;
}
