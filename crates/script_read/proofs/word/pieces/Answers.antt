use Rattle.std.proofs.Common.{◌+◌, ◌∙◌, sym, arith}
use Rattle.std.proofs.lemmas.List.{map-append}
use Rattle.std.proofs.lemmas.List.Edits.{between_none}
use Rattle.word_table.specs.Texts.{texts}
use Rattle.script_read.specs.Word.{pieces}
use Rattle.script_read.proofs.Pieces.{walk_stops, walk_goes_on}
use Rattle.script_read.proofs.word.pieces.Goals as goal
use Rattle.script_read.proofs.word.pieces.Goals.{then-is_stop+in_ok-push, else-is_stop}

pub loop-at-preserved : goal.loop-at-preserved
loop-at-preserved c =
    elim c.if-is_stop.branch [
      | then-is_stop+in_ok-push w ↦ record {
        within = omega arith;
        rest =
            let on = walk_stops c.args.stop c.args.text.now c.loop-at.from c.loop-at.at c.loop-at.marked (texts c.loop-at.found.items) (pieces c.args.stop c.args.text.now)
            c.loop-at-test.true (sym c.is_stop.ensures ∙ w.if-is_stop.true) c.loop-at.invariant.rest in
            rw (w.found-is, w.from-is, w.marked-is, w.in_ok-push.ensures.items, between_none c.args.text.now (c.loop-at.at + 1)) (rw map-append on);
      }
      | else-is_stop w ↦ record {
        within = omega arith;
        rest =
            let on = walk_goes_on c.args.stop c.args.text.now c.loop-at.from c.loop-at.at c.loop-at.marked (texts c.loop-at.found.items) (pieces c.args.stop c.args.text.now)
            c.loop-at.invariant.within c.loop-at-test.true (sym c.is_stop.ensures ∙ w.if-is_stop.false) c.loop-at.invariant.rest in
            rw (w.found-is, w.from-is, w.marked-is, w.is_mark-marked.ensures) on;
      }
    ]
