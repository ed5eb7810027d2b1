use Rattle.emh_shell.specs.Answers.{watched}
use Rattle.emh_shell.proofs.step.step.Goals as goal

pub returns-in-Load-clause-ends : goal.returns-in-Load-clause-ends
returns-in-Load-clause-ends g c =
    rw c.in-Load.is (rw c.as_slice.ensures at (c.load.ensures.ends (watched (λ b. (goal.Observer-dyn g (b.vtable, b.value)).called b.value) (λ b. (goal.Observer-dyn g (b.vtable, b.value)).wants b.value) c.args.watch.now)))

pub returns-in-Cells-clause-ends : goal.returns-in-Cells-clause-ends
returns-in-Cells-clause-ends g c =
    rw c.in-Cells.is (rw c.as_slice-in-Cells.ensures at (c.cells.ensures.ends (watched (λ b. (goal.Observer-dyn g (b.vtable, b.value)).called b.value) (λ b. (goal.Observer-dyn g (b.vtable, b.value)).wants b.value) c.args.watch.now)))

pub returns-in-Write-clause-ends : goal.returns-in-Write-clause-ends
returns-in-Write-clause-ends g c =
    rw c.in-Write.is (rw c.as_slice-in-Write.ensures at (c.write.ensures.ends (watched (λ b. (goal.Observer-dyn g (b.vtable, b.value)).called b.value) (λ b. (goal.Observer-dyn g (b.vtable, b.value)).wants b.value) c.args.watch.now)))

pub returns-in-Compare-clause-ends : goal.returns-in-Compare-clause-ends
returns-in-Compare-clause-ends g c =
    rw c.in-Compare.is (rw c.as_slice-in-Compare.ensures at (c.compare.ensures.ends (watched (λ b. (goal.Observer-dyn g (b.vtable, b.value)).called b.value) (λ b. (goal.Observer-dyn g (b.vtable, b.value)).wants b.value) c.args.watch.now)))
