use Rattle.std.proofs.Common.{ap, is_some, bytes_eq, ◌∙◌}
use Rattle.edit_rules.specs.Readers.{is_module_name}
use Rattle.edit_rules.proofs.ReadLemmas.{any-found}
use Rattle.edit_rules.proofs.judging.common.is_module_name.Goals as goal

pub returns : goal.returns
returns g c =
    let M = (g.F.Facts.state c.args.facts.now).plain in
    c.is_some.ensures ∙ ap is_some c.module_named.ensures
    ∙ any-found (λ m. m.id) (λ m. bytes_eq m.name c.as_bytes.result.now) M.modules
    ∙ ap (is_module_name M) c.as_bytes.ensures.value
