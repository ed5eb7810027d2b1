use Rattle.std.proofs.Common.{◌≡◌, ℕ, Option, IfOk, subst, ap, ap₂, ◌∙◌}
use Rattle.emh_base.specs.declared.plain.PModule.{PModule}
use Rattle.emh_base.specs.declared.plain.Plain.{Plain}
use Rattle.edit_rules.specs.Readers.{port_place}
use Rattle.flatten_rules.specs.Changes.{at_instances, with_conns}
use Rattle.edit_rules.specs.Nets.{without_conn}
use Rattle.edit_rules.proofs.nets.delete_port.Goals as goal

pub returns : goal.returns
returns c =
    let Is : Plain → Type 0 = λ table. IfOk c.at_instances.result (λ made. made ≡ table) in
    subst Is
    (ap₂ (λ (inside : Plain) (place : Option ℕ). at_instances inside c.args.id (with_conns (without_conn place))) c.in_ok-inside.ensures
    (c.place_of_port-place.ensures ∙ ap (λ (holder : Option PModule). port_place holder c.args.port) c.module_of.ensures))
    c.at_instances.ensures
