use Rattle.std.proofs.Common.{ℕ, [], List, get_or, sym, ◌∙◌, arith, length-append, Bor}
use Rattle.std.proofs.lemmas.List.{get_or-map, length-map}
use Rattle.word_table.specs.Texts.{texts}
use Rattle.script_read.proofs.Division.{lines_from-stops, lines_from-passes, lines_from-more}
use Rattle.script_read.proofs.lines.read_lines.Goals as goal
use Rattle.script_read.proofs.lines.read_lines.Goals.{in-Nothing, in-Asks+in_ok-push-in-Asks}

pub returns-in-Bad-clause-answer : goal.returns-in-Bad-clause-answer
returns-in-Bad-clause-answer c =
    let none : Bor (List ℕ) = record { ref_ptr = (0, 0); now = [] } in
    let lines = c.args.lines.now in
    let at = c.loop-at.at in
    let line : List ℕ = (get_or lines at none).now in
    lines_from-stops (texts lines) at line c.loop-at.found c.loop-at.invariant.front (simp length-map (omega arith)) (sym (get_or-map (λ (word : Bor (List ℕ)). word.now) lines at none line (omega arith))) (sym c.in-Bad.is ∙ c.in_ok-read_line.ensures)

pub loop-at-preserved : goal.loop-at-preserved
loop-at-preserved c =
    let none : Bor (List ℕ) = record { ref_ptr = (0, 0); now = [] } in
    let lines = c.args.lines.now in
    let at = c.loop-at.at in
    let line : List ℕ = (get_or lines at none).now in
    elim c.match-branch-2.branch [
      | in-Nothing w ↦ record {
        front = rw w.found-is (lines_from-passes (texts lines) at line c.loop-at.found c.loop-at.invariant.front (simp length-map (omega arith)) (sym (get_or-map (λ (word : Bor (List ℕ)). word.now) lines at none line (omega arith))) (sym w.in-Nothing.is ∙ c.in_ok-read_line.ensures));
        count = rw w.found-is (omega (arith, c.loop-at.invariant.count));
      }
      | in-Asks+in_ok-push-in-Asks w ↦ record {
        front = rw (w.found-is, w.in_ok-push-in-Asks.ensures.ok) (lines_from-more (texts lines) at line c.loop-at.found w.in-Asks.words w.in-Asks.command c.loop-at.invariant.front (simp length-map (omega arith)) (sym (get_or-map (λ (word : Bor (List ℕ)). word.now) lines at none line (omega arith))) (sym w.in-Asks.is ∙ c.in_ok-read_line.ensures));
        count = rw (w.found-is, w.in_ok-push-in-Asks.ensures.ok, length-append) (omega (arith, c.loop-at.invariant.count));
      }
    ]
