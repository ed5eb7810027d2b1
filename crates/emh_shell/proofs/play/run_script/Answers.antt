use Rattle.std.proofs.Common.{◌∙◌, inr, refl, sym}
use Rattle.std.proofs.lemmas.Result.{err_from_is_err_and}
use Rattle.script_read.specs.declared.lines.ScriptFault.TheVariants.{BadLine}
use Rattle.emh_shell.proofs.Starting.{Cut-nothing, Ends-fault, Faulty-ask}
use Rattle.emh_shell.proofs.play.run_script.Goals as goal

pub returns-in-Ok : goal.returns-in-Ok
returns-in-Ok g c = λ words ask asks under gives.
    c.run_lines.ensures words (record {
      ask = ask;
      bytes = c.args.bytes.now;
      asks = asks;
      gives = gives;
      read = rw c.as_slice.ensures c.in-Ok.ensures.answer;
    }) under

pub returns-in-Err-NoMemory : goal.returns-in-Err-NoMemory
returns-in-Err-NoMemory g c = λ words ask asks under gives.
    Cut-nothing _ _ (g.F.Shelf.told c.args.shelf.now) (g.F.Shelf.told c.args.shelf.now) (g.K.Sink.told c.args.out.now) refl

pub returns-in_err-text-in-Err-BadLine : goal.returns-in_err-text-in-Err-BadLine
returns-in_err-text-in-Err-BadLine g c = λ words ask asks under gives.
    let p = err_from_is_err_and c.from_residual.result c.from_residual.ensures.1 in
    rw (p.1, p.2)
    (Cut-nothing _ _ (g.F.Shelf.told c.args.shelf.now) (g.F.Shelf.told c.args.shelf.now) (g.K.Sink.told c.args.out.now) refl)

pub returns-in_ok-text-in-Err-BadLine : goal.returns-in_ok-text-in-Err-BadLine
returns-in_ok-text-in-Err-BadLine g c = λ words ask asks under gives.
    Ends-fault _ words (g.F.Shelf.told c.args.shelf.now) (g.F.Shelf.told c.args.shelf.now) (g.K.Sink.told c.args.out.now) (g.K.Sink.told c.print_fault-in-Err-BadLine.new.out) c.as_slice-in-Err-BadLine.result.now c.print_fault-in-Err-BadLine.result
    (Faulty-ask (g.F.Shelf.told c.args.shelf.now).holds words ask _ asks (inr (record {
      bytes = c.args.bytes.now;
      gives = gives;
      fault = BadLine c.in-Err-BadLine.line;
      read = rw c.in-Err-BadLine.field-0-is at c.in-Err-BadLine.ensures.answer;
      told = c.as_slice-in-Err-BadLine.ensures ∙ c.in_ok-text-in-Err-BadLine.ensures;
    }))) refl (refl, refl) c.print_fault-in-Err-BadLine.ensures
