use Rattle.std.proofs.Common.{◌≡◌, IfOk, subst, sym, ap, ◌∙◌}
use Rattle.std.specs.Option.{option_copied}
use Rattle.emh_base.specs.declared.plain.Plain.{Plain}
use Rattle.flatten_rules.specs.Lookup.{module_of}
use Rattle.edit_rules.specs.Insts.{with_new_inst, all_open}
use Rattle.flatten_rules.specs.Changes.{with_module}
use Rattle.edit_rules.proofs.ChangeLemmas.{absent_changed, found_changed}
use Rattle.edit_rules.proofs.insts.create_inst.Goals as goal

pub returns-in-None : goal.returns-in-None
returns-in-None c =
    let M = c.args.plain.now in
    let Is : Plain → Type 0 = λ table. IfOk c.copy.result (λ made. made ≡ table) in
    subst Is (absent_changed (with_new_inst c.args.name.now c.args.master (all_open (module_of c.args.plain.now c.args.master))) M c.args.id (ap option_copied (sym c.in-None.is) ∙ c.module_of.ensures)) c.copy.ensures

pub returns-in_ok-module-in-Some : goal.returns-in_ok-module-in-Some
returns-in_ok-module-in-Some c =
    let M = c.args.plain.now in
    let Is : Plain → Type 0 = λ table. IfOk c.with_module.result (λ made. made ≡ table) in
    let changed : c.in_ok-module-in-Some.«module» ≡ with_new_inst c.args.name.now c.args.master (all_open (module_of c.args.plain.now c.args.master)) c.in-Some.holder.now = c.in_ok-module-in-Some.ensures ∙ ap (λ conns. with_new_inst c.args.name.now c.args.master conns c.in-Some.holder.now) c.in_ok-conns-in-Some.ensures in
    subst Is
    (ap (λ m. with_module M c.args.id (λ _. m)) changed
    ∙ found_changed (with_new_inst c.args.name.now c.args.master (all_open (module_of c.args.plain.now c.args.master))) M c.args.id c.in-Some.holder.now c.requires.rise (ap option_copied (sym c.in-Some.is) ∙ c.module_of.ensures))
    c.with_module.ensures
