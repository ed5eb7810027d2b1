use Rattle.std.proofs.Common.{List, ◌++◌, sym, ap, ◌∙◌, arith}
use Rattle.std.specs.List.{flat_map}
use Rattle.std.proofs.lemmas.List.{take_all}
use Rattle.std.proofs.lemmas.List.Folds.{flat_map-map}
use Rattle.emh_base.specs.declared.plain.Src.{Src}
use Rattle.emh_base.specs.declared.plain.Conn.{Conn}
use Rattle.reports.specs.Modules.{source_word, source_words}
use Rattle.reports.specs.inside.Spaced.{spaced}
use Rattle.reports.proofs.modules.push_sources.Goals as goal

pub returns-after-loop-bit-clause-ok : goal.returns-after-loop-bit-clause-ok
returns-after-loop-bit-clause-ok c =
    let m = c.args.holder.now in
    let items = c.as_slice-bit-items.result.now in
    c.loop-bit.invariant.text
    ∙ ap (λ (xs : List Src). c.args.out.now ++ flat_map (λ bit. spaced (source_word m bit)) xs) (take_all c.loop-bit.bit-index items (omega arith) ∙ c.as_slice-bit-items.ensures)
    ∙ ap (λ t. c.args.out.now ++ t) (sym (flat_map-map spaced (source_word m) c.in-Bits.bits))
    ∙ ap (λ (conn : Conn). c.args.out.now ++ flat_map spaced (source_words m conn)) (sym c.in-Bits.is)
