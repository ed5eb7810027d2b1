use Rattle.std.proofs.Common.{◌++◌, ◌∙◌, ap, sym}
use Rattle.std.specs.Prelude.{codes}
use Rattle.std.proofs.lemmas.Result.{on_ok_weaker}
use Rattle.vlog_write.specs.Word.{text}
use Rattle.vlog_write.specs.Layout as layout
use Rattle.vlog_write.specs.TreeOf.{module_tree}
use Rattle.vlog_write.proofs.Texts.{module_text, three}
use Rattle.vlog_write.proofs.module.push_module.Goals as goal

pub returns : goal.returns
returns c =
    let tree = module_tree c.args.plain.now c.args.holder.now in
    let head = text (layout.heading tree.name tree.header) in
    let body = text (layout.items tree.items) in
    on_ok_weaker c.extend.result (λ last.
    last
    ∙ ap (λ t. t ++ codes "endmodule\n") (c.in_ok-push_items.ensures ∙ ap (λ t. t ++ body) c.in_ok-push_heading.ensures)
    ∙ three c.args.out.now head body (codes "endmodule\n")
    ∙ ap (λ t. c.args.out.now ++ t) (sym (module_text tree))) c.extend.ensures.ok
