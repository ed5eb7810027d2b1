-- The counters of tables and of what is built of a tree.
use Rattle.std.proofs.Common.{◌≡◌, ℕ, ◌+◌, ◌==◌, ◌&&◌, Bool, true, false, cond, not, None, List, [], ◌∷◌, length, refl, sym, subst, ◌∙◌, arith}
use Rattle.std.specs.List.{All}
use Rattle.std.proofs.lemmas.Bool.Decides.{nat_tests}
use Rattle.emh_base.specs.declared.plain.Plain.{Plain}
use Rattle.flatten_rules.specs.Check.{first_broken}
use Rattle.flatten_rules.specs.Sound.{IsSound, IsCounter}
use Rattle.vlog_read.specs.declared.tree.TModule.{TModule}
use Rattle.vlog_read.specs.declared.tree.Tree.{Tree}
use Rattle.vlog_elab.specs.declared.interface.Known.{Known}
use Rattle.vlog_elab.specs.declared.fault.ElabKind.TheVariants as kind
use Rattle.vlog_elab.specs.Check.{Check, check}
use Rattle.vlog_elab.specs.Named.{is_there, named}
use Rattle.vlog_elab.specs.Text.{is_leaf}
use Rattle.vlog_elab.specs.Interfaces.{added, ports, known}
use Rattle.vlog_elab.specs.Declarations.{name_check, inside_checks, has_other_ports, entry_checks, declaration_checks}
use Rattle.vlog_elab.specs.Connections.{connection_checks}
use Rattle.vlog_elab.specs.Elaboration.{checks}
use Rattle.vlog_elab.specs.inside.Walk.{first_fault, at_end}
use Rattle.vlog_elab.specs.inside.Walks.{after_module, module_walk}
use Rattle.vlog_elab.specs.Counters.{HasCounters}
use Rattle.vlog_elab.proofs.Passing.{none_left, none_right, unbroken}
use Rattle.vlog_elab.proofs.Declaring.{module-parts}
use Rattle.vlog_elab.proofs.Knowing.{declaration_checks-walk, known-walk}
use Rattle.vlog_elab.proofs.Rounds.{checks-rounds}

-- a sound table's
pub table-counters : (M : Plain) → IsSound M → All HasCounters M.modules
table-counters M sound = λ k d within. let s = sound.modules k d within in (s.net_counter, s.inst_counter)

-- a module is added where an id is left
added-counted : (there : Bool) (n : ℕ) → (not there && n == 4294967295) ≡ false → IsCounter n → IsCounter (cond there n (n + 1))
added-counted true n room few = few
added-counted false n room few = let last : (n == 4294967295) ≡ false = room in grind (arith, nat_tests)

next-after : (all_leaf : Bool) (k : Known) (m : TModule) → (after_module all_leaf k m).next_module ≡ cond (is_there k.interfaces m.name.name) k.next_module (k.next_module + 1)
next-after all_leaf k m = by (is_there k.interfaces m.name.name) refl
  where
    by : (b : Bool) → is_there k.interfaces m.name.name ≡ b → (after_module all_leaf k m).next_module ≡ cond (is_there k.interfaces m.name.name) k.next_module (k.next_module + 1)
    by true e = rw e refl
    by false e = rw e refl

step-counted : (all_leaf : Bool) (k : Known) (m : TModule) → first_broken ((module_walk all_leaf).checks k m) ≡ None → IsCounter k.next_module → IsCounter (after_module all_leaf k m).next_module
step-counted all_leaf k m passed few =
    let name = first_broken (name_check (is_leaf all_leaf m) k m ∷ []) in
    let inside = first_broken (inside_checks (is_leaf all_leaf m) m) in
    let entry = first_broken (entry_checks k (ports m) m) in
    let rest = none_right name _ (sym (module-parts all_leaf k m) ∙ passed) in
    let entries = none_right inside entry rest in
    let other_ports : Check = check kind.NameTaken m.name (has_other_ports (ports m) (named k.interfaces m.name.name)) in
    let no_id : Check = check kind.TooManyModules m.name (not (is_there k.interfaces m.name.name) && k.next_module == 4294967295) in
    let other = unbroken other_ports (no_id ∷ []) entries in
    let room = (unbroken no_id [] other.1).0 in
    subst IsCounter (sym (next-after all_leaf k m)) (added-counted (is_there k.interfaces m.name.name) k.next_module room few)

walk-counted : (all_leaf : Bool) (k : Known) (ms : List TModule) → first_fault (module_walk all_leaf) k ms ≡ None → IsCounter k.next_module → IsCounter (at_end (module_walk all_leaf) k ms).next_module
walk-counted all_leaf k [] passed few = few
walk-counted all_leaf k (m ∷ ms) passed few =
    let w = module_walk all_leaf in
    let here = none_left (first_broken (w.checks k m)) (first_fault w (w.after k m) ms) passed in
    let rest = none_right (first_broken (w.checks k m)) (first_fault w (w.after k m) ms) passed in
    walk-counted all_leaf (w.after k m) ms rest (step-counted all_leaf k m here few)

-- where no rule is broken, the modules that are added are counted
pub modules-counted : (M : Plain) (all_leaf : Bool) (tree : Tree) → first_broken (checks M all_leaf tree) ≡ None → IsCounter M.next_module → IsCounter (M.next_module + length (added M tree.modules))
modules-counted M all_leaf tree passed few =
    let one = none_left (first_broken (declaration_checks M all_leaf tree.modules)) (first_broken (connection_checks M all_leaf tree.modules)) (sym (checks-rounds M all_leaf tree) ∙ passed) in
    let walked = sym (declaration_checks-walk M all_leaf tree.modules) ∙ one in
    let none : M.next_module + 0 ≡ M.next_module = omega arith in
    subst (λ (k : Known). IsCounter k.next_module) (sym (known-walk M all_leaf tree.modules))
    (walk-counted all_leaf (known M all_leaf []) tree.modules walked (omega (arith, few, none)))
