use Rattle.std.proofs.Common.{◌≡◌, ◌++◌, drop, map}
use Rattle.std.specs.List.{filter}
use Rattle.vlog_write.specs.Word.{text}
use Rattle.vlog_write.specs.Layout.{modules}
use Rattle.vlog_write.specs.TreeOf.{module_tree}
use Rattle.vlog_write.specs.inside.Steps.{is_kind}
use Rattle.vlog_write.proofs.write.push_modules.Given as goal

abbrev pub invariant-loop-holder : goal.invariant-loop-holder
invariant-loop-holder l =
    l.out ++ text (modules (map (module_tree l.plain) (filter (is_kind l.leaf) (drop l.holder-index l.holders))))
    ≡ l.initial.out ++ text (modules (map (module_tree l.plain) (filter (is_kind l.leaf) l.holders)))
