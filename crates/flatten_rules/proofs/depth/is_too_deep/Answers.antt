use Rattle.std.proofs.Common.{nat_lt, ap, ◌∙◌}
use Rattle.std.specs.List.{list_any}
use Rattle.emh_base.specs.declared.plain.PModule.{PModule}
use Rattle.flatten_rules.specs.Counting.{height}
use Rattle.flatten_rules.proofs.Heights.{any-map}
use Rattle.flatten_rules.proofs.depth.is_too_deep.Goals as goal

pub returns : goal.returns
returns c =
    c.is_any_high.ensures ∙ ap (list_any (λ high. nat_lt 256 high)) (c.as_slice.ensures ∙ c.in_ok-level.ensures)
    ∙ any-map (λ (m : PModule). height c.args.plain.now m.id 257) c.args.plain.now.modules
