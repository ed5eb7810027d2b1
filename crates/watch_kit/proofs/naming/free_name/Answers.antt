use Rattle.std.proofs.Common.{sym, ap, ◌∙◌}
use Rattle.flatten_rules.specs.Lookup.{module_of}
use Rattle.edit_rules.specs.Readers.{is_name_in}
use Rattle.watch_kit.specs.Split.{name_of}
use Rattle.watch_kit.proofs.Names.{taken-next, free-here}
use Rattle.watch_kit.proofs.naming.free_name.Goals as goal

pub loop-k-preserved : goal.loop-k-preserved
loop-k-preserved c =
    let m = module_of c.args.state.now.plain c.args.id in
    let stem = c.args.stem.now in
    c.loop-k.invariant
    ∙ taken-next m stem c.loop-k.k _ c.loop-k-test.true
    (sym (ap (is_name_in m) (c.as_bytes.ensures.value ∙ c.in_ok-name.ensures)) ∙ sym c.is_name_in.ensures ∙ c.if-not-is_name_in.false)

pub returns-then-not-is_name_in : goal.returns-then-not-is_name_in
returns-then-not-is_name_in c =
    let m = module_of c.args.state.now.plain c.args.id in
    let stem = c.args.stem.now in
    c.in_ok-name.ensures
    ∙ ap (name_of stem) (sym (c.loop-k.invariant
    ∙ free-here m stem c.loop-k.k _ c.loop-k-test.true
    (sym (ap (is_name_in m) (c.as_bytes.ensures.value ∙ c.in_ok-name.ensures)) ∙ sym c.is_name_in.ensures ∙ c.if-not-is_name_in.true)))
