use Rattle.std.proofs.Common.{◌≡◌, ◌++◌, ◌∙◌, ap, sym}
use Rattle.std.specs.Prelude.{codes}
use Rattle.std.proofs.lemmas.Result.{on_ok_weaker}
use Rattle.vlog_write.specs.Word.{text, name_text}
use Rattle.vlog_write.specs.Layout as layout
use Rattle.vlog_write.specs.TreeOf.{span_of}
use Rattle.vlog_write.proofs.Texts.{wire_text, four}
use Rattle.vlog_write.proofs.module.push_wire.Goals as goal

pub returns : goal.returns
returns c =
    let net = c.args.net.now in
    let range = text (layout.range (span_of net.range)) in
    let called : c.push_name.new.out ≡ c.push_range.new.out ++ name_text net.name =
    c.in_ok-push_name.ensures ∙ ap (λ n. c.push_range.new.out ++ name_text n) c.as_bytes.ensures.value in
    on_ok_weaker c.extend-2.result (λ last.
    last
    ∙ ap (λ t. t ++ codes ";\n") (called
    ∙ ap (λ t. t ++ name_text net.name) (c.in_ok-push_range.ensures
    ∙ ap (λ t. t ++ range) c.in_ok-extend.ensures.ok))
    ∙ four c.args.out.now (codes "  wire ") range (name_text net.name) (codes ";\n")
    ∙ ap (λ t. c.args.out.now ++ t) (sym (wire_text net))) c.extend-2.ensures.ok
