use Rattle.std.proofs.Common.{ℕ, [], List, get_or, sym, ◌∙◌, arith, Bor}
use Rattle.std.proofs.lemmas.List.{get_or-map, length-map}
use Rattle.word_table.specs.Texts.{texts}
use Rattle.script_read.specs.Form.{bits_of}
use Rattle.script_read.proofs.BitWalks.{sources_end, sources_go_on}
use Rattle.script_read.proofs.insts.bits_of.Goals as goal

pub returns-in-None : goal.returns-in-None
returns-in-None c =
    let none : Bor (List ℕ) = record { ref_ptr = (0, 0); now = [] } in
    let words = c.args.words.now in
    let at = c.loop-word.word-index in
    let word : List ℕ = (get_or words at none).now in
    sources_end (texts words) at word c.loop-word.bits (bits_of (texts words)) (simp length-map (omega arith)) (sym (get_or-map (λ (w : Bor (List ℕ)). w.now) words at none word (omega arith))) (sym c.in-None.is ∙ c.in_ok-bit_of.ensures) c.loop-word.invariant

pub loop-word-preserved : goal.loop-word-preserved
loop-word-preserved c =
    let none : Bor (List ℕ) = record { ref_ptr = (0, 0); now = [] } in
    let words = c.args.words.now in
    let at = c.loop-word.word-index in
    let word : List ℕ = (get_or words at none).now in
    rw c.in_ok-push-in-Some.ensures.ok (sources_go_on (texts words) at word c.in-Some.bit c.loop-word.bits (bits_of (texts words)) (simp length-map (omega arith)) (sym (get_or-map (λ (w : Bor (List ℕ)). w.now) words at none word (omega arith))) (sym c.in-Some.is ∙ c.in_ok-bit_of.ensures) c.loop-word.invariant)
