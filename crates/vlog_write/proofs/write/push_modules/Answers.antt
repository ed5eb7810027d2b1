use Rattle.std.proofs.Common.{◌≡◌, ◌++◌, ◌∙◌, ap, ◌∷◌, [], map, drop, ◌+◌}
use Rattle.std.specs.List.{filter}
use Rattle.emh_base.specs.declared.plain.PModule.{PModule}
use Rattle.vlog_write.specs.Word.{text}
use Rattle.vlog_write.specs.Layout as layout
use Rattle.vlog_write.specs.TreeOf.{module_tree}
use Rattle.vlog_write.specs.inside.Steps.{is_kind}
use Rattle.vlog_write.proofs.Texts.{kept_more}
use Rattle.vlog_write.proofs.write.push_modules.Goals as goal

pub loop-holder-preserved : goal.loop-holder-preserved
loop-holder-preserved c =
    let tree = module_tree c.args.plain.now in
    let holders = c.as_slice-holders.result.now in
    let i = c.loop-holder.holder-index in
    let step = kept_more layout.one_module tree (is_kind c.args.leaf) c.loop-holder.out holders i c.holder-item.result c.loop-holder-test.true in
    let put : c.push_kind.new.out ≡ c.loop-holder.out ++ text (layout.modules (map tree (filter (is_kind c.args.leaf) (c.holder-item.result ∷ [])))) = c.in_ok-push_kind.ensures in
    let rest = text (layout.modules (map tree (filter (is_kind c.args.leaf) (drop (i + 1) holders)))) in
    ap (λ t. t ++ rest) (put ∙ ap (λ (m : PModule). c.loop-holder.out ++ text (layout.modules (map tree (filter (is_kind c.args.leaf) (m ∷ []))))) c.holder-item.is)
    ∙ step ∙ c.loop-holder.invariant
