use Rattle.std.proofs.Common.{◌≡◌, ◌++◌, ◌∙◌, ap, sym}
use Rattle.std.specs.Prelude.{codes}
use Rattle.std.proofs.lemmas.Result.{on_ok_weaker}
use Rattle.vlog_read.specs.Bare.{name_at}
use Rattle.vlog_read.specs.declared.tree.Header.TheVariants.{Names}
use Rattle.vlog_write.specs.Word.{text, name_text}
use Rattle.vlog_write.specs.Layout as layout
use Rattle.vlog_write.specs.TreeOf.{port_names}
use Rattle.vlog_write.proofs.Texts.{heading_text, five}
use Rattle.vlog_write.proofs.module.push_heading.Goals as goal

pub returns : goal.returns
returns c =
    let m = c.args.holder.now in
    let names = text (layout.names (port_names m)) in
    let called : c.push_name.new.out ≡ c.extend.new.self ++ name_text m.name =
    c.in_ok-push_name.ensures ∙ ap (λ n. c.extend.new.self ++ name_text n) c.as_bytes.ensures.value in
    on_ok_weaker c.extend-3.result (λ last.
    last
    ∙ ap (λ t. t ++ codes ");\n") (c.in_ok-push_port_names.ensures
    ∙ ap (λ t. t ++ names) (c.in_ok-extend-2.ensures.ok
    ∙ ap (λ t. t ++ codes " (") (called
    ∙ ap (λ t. t ++ name_text m.name) c.in_ok-extend.ensures.ok)))
    ∙ five c.args.out.now (codes "module ") (name_text m.name) (codes " (") names (codes ");\n")
    ∙ ap (λ t. c.args.out.now ++ t) (sym (heading_text (name_at m.name) (Names (port_names m))))) c.extend-3.ensures.ok
