-- The first two rounds together.
use Rattle.std.proofs.Common.{◌≡◌, [], ◌∷◌, None, Bool, true, false, List, map, refl, sym, ◌∙◌, ap, cond}
use Rattle.std.specs.Prelude.{if◌then◌else◌}
use Rattle.std.specs.List.{flat_map, All}
use Rattle.std.specs.Option.{option_or}
use Rattle.emh_base.specs.declared.plain.Plain.{Plain}
use Rattle.vlog_read.specs.declared.tree.TModule.{TModule}
use Rattle.vlog_read.specs.declared.tree.Tree.{Tree}
use Rattle.vlog_elab.specs.declared.interface.Interface.{Interface}
use Rattle.vlog_elab.specs.declared.interface.Known.{Known}
use Rattle.vlog_elab.specs.declared.fault.ElabFault.{ElabFault}
use Rattle.flatten_rules.specs.Check.{first_broken}
use Rattle.flatten_rules.proofs.FirstBroken.{first_broken-append}
use Rattle.vlog_elab.specs.Check.{Check}
use Rattle.vlog_elab.specs.Named.{Named}
use Rattle.vlog_elab.specs.Text.{is_leaf}
use Rattle.vlog_elab.specs.Interfaces.{ports, row_face, known}
use Rattle.vlog_elab.specs.Declarations.{name_check, inside_checks, entry_checks, module_checks, declaration_checks}
use Rattle.vlog_elab.specs.Connections.{inner_checks, connection_checks}
use Rattle.vlog_elab.specs.Elaboration.{checks}
use Rattle.vlog_elab.specs.inside.Walk.{first_fault, Found, Passed, Fails}
use Rattle.vlog_elab.specs.inside.Walks.{module_walk}
use Rattle.vlog_elab.proofs.Each.{all_head, all_tail}
use Rattle.vlog_elab.proofs.Walking.{found-along, found-or}
use Rattle.vlog_elab.proofs.Declaring.{module-parts}
use Rattle.vlog_elab.proofs.Knowing.{known-none, known-walk, declaration_checks-walk}
use Rattle.vlog_elab.proofs.Passing.{none_left, none_right, each_passes}
use Rattle.vlog_elab.proofs.Saying.{PassesInside, passes_inside}
use Rattle.vlog_elab.proofs.Header.{leaf_passes}

-- the checks of the connections, where the modules have these interfaces
abbrev pub checks_by : Named Interface → Bool → List TModule → List Check
checks_by fs all_leaf modules = flat_map (λ (m : TModule). if is_leaf all_leaf m then [] else inner_checks fs m) modules

abbrev at_first : Plain → Known
at_first M = record { interfaces = map row_face M.modules; next_module = M.next_module }

pub checks-rounds : (M : Plain) (all_leaf : Bool) (tree : Tree)
    → first_broken (checks M all_leaf tree) ≡ option_or (first_broken (declaration_checks M all_leaf tree.modules)) (first_broken (connection_checks M all_leaf tree.modules))
unfolding checks
checks-rounds M all_leaf tree = first_broken-append (declaration_checks M all_leaf tree.modules) (connection_checks M all_leaf tree.modules)

-- The first round.

declarations-walk : (M : Plain) (all_leaf : Bool) (k : Known) (ms : List TModule) → k ≡ at_first M → first_broken (declaration_checks M all_leaf ms) ≡ first_fault (module_walk all_leaf) k ms
declarations-walk M all_leaf k ms is = declaration_checks-walk M all_leaf ms ∙ ap (λ k. first_fault (module_walk all_leaf) k ms) (known-none M all_leaf ∙ sym is)

pub declarations-fail : (M : Plain) (all_leaf : Bool) (k : Known) (ms : List TModule) (e : ElabFault) → k ≡ at_first M
    → Fails (module_walk all_leaf) k ms e → Found (first_broken (declaration_checks M all_leaf ms)) e
declarations-fail M all_leaf k ms e is q = found-along _ _ e (declarations-walk M all_leaf k ms is) q.found

pub declarations-pass : (M : Plain) (all_leaf : Bool) (k end : Known) (ms : List TModule) → k ≡ at_first M
    → Passed (module_walk all_leaf) k ms end → (first_broken (declaration_checks M all_leaf ms) ≡ None) × (end ≡ known M all_leaf ms)
declarations-pass M all_leaf k end ms is p =
    (declarations-walk M all_leaf k ms is ∙ p.none, p.end ∙ (rw (is, ← known-none M all_leaf) (sym (known-walk M all_leaf ms))))

-- the headers and declarations of all modules pass
pub insides_pass : (M : Plain) (all_leaf : Bool) (ms : List TModule) → first_broken (declaration_checks M all_leaf ms) ≡ None → All (λ (m : TModule). PassesInside (is_leaf all_leaf m) m) ms
insides_pass M all_leaf ms h =
    each_passes (λ before m. module_checks all_leaf (known M all_leaf before) m) (λ (m : TModule). PassesInside (is_leaf all_leaf m) m)
    (λ before m g.
    let k : Known = known M all_leaf before in
    let parts = sym (module-parts all_leaf k m) ∙ g in
    passes_inside (is_leaf all_leaf m) m
    (none_left (first_broken (inside_checks (is_leaf all_leaf m) m)) (first_broken (entry_checks k (ports m) m)) (none_right (first_broken (name_check (is_leaf all_leaf m) k m ∷ [])) _ parts)))
    [] ms h

-- The second round. A leaf that passes the first one has no connections, so all modules may be looked at alike.

leaf_alike : (fs : Named Interface) (m : TModule) (leaf : Bool) → PassesInside leaf m → first_broken (cond leaf [] (inner_checks fs m)) ≡ first_broken (inner_checks fs m)
leaf_alike fs m true p = sym (leaf_passes fs m p)
leaf_alike fs m false p = refl

leaves_alike : (fs : Named Interface) (all_leaf : Bool) (ms : List TModule) → All (λ (m : TModule). PassesInside (is_leaf all_leaf m) m) ms
    → first_broken (checks_by fs all_leaf ms) ≡ first_broken (flat_map (inner_checks fs) ms)
leaves_alike fs all_leaf [] h = refl
leaves_alike fs all_leaf (m ∷ ms) h =
    let inside : TModule → Type 0 = λ m. PassesInside (is_leaf all_leaf m) m in
    first_broken-append (if is_leaf all_leaf m then [] else inner_checks fs m) (checks_by fs all_leaf ms)
    ∙ ap (λ o. option_or o (first_broken (checks_by fs all_leaf ms))) (leaf_alike fs m (is_leaf all_leaf m) (all_head inside m ms h))
    ∙ ap (option_or (first_broken (inner_checks fs m))) (leaves_alike fs all_leaf ms (all_tail inside m ms h))
    ∙ sym (first_broken-append (inner_checks fs m) (flat_map (inner_checks fs) ms))

-- Both.

pub first_round-fails : (M : Plain) (all_leaf : Bool) (tree : Tree) (ms : List TModule) (e : ElabFault) → ms ≡ tree.modules
    → Found (first_broken (declaration_checks M all_leaf ms)) e → Found (first_broken (checks M all_leaf tree)) e
first_round-fails M all_leaf tree ms e same q =
    found-along _ _ e (checks-rounds M all_leaf tree)
    (found-or (first_broken (declaration_checks M all_leaf tree.modules)) (first_broken (connection_checks M all_leaf tree.modules)) e (rw (← same) q))

-- after a first round that breaks no rule, what breaks one is a connection
connections_left : (M : Plain) (all_leaf : Bool) (tree : Tree) (k : Known) (ms : List TModule) → ms ≡ tree.modules → first_broken (declaration_checks M all_leaf ms) ≡ None
    → k ≡ known M all_leaf ms → first_broken (checks M all_leaf tree) ≡ first_broken (checks_by k.interfaces all_leaf ms)
connections_left M all_leaf tree k ms same passed is =
    checks-rounds M all_leaf tree
    ∙ ap (λ ms. option_or (first_broken (declaration_checks M all_leaf ms)) (first_broken (connection_checks M all_leaf ms))) (sym same)
    ∙ ap (λ o. option_or o (first_broken (connection_checks M all_leaf ms))) passed
    ∙ ap (λ (k : Known). first_broken (checks_by k.interfaces all_leaf ms)) (sym is)

pub second_round : (M : Plain) (all_leaf : Bool) (tree : Tree) (k : Known) (ms : List TModule) → ms ≡ tree.modules → first_broken (declaration_checks M all_leaf ms) ≡ None
    → k ≡ known M all_leaf ms → first_broken (checks M all_leaf tree) ≡ first_broken (flat_map (inner_checks k.interfaces) ms)
second_round M all_leaf tree k ms same passed is =
    connections_left M all_leaf tree k ms same passed is ∙ leaves_alike k.interfaces all_leaf ms (insides_pass M all_leaf ms passed)

pub both-pass : (M : Plain) (all_leaf : Bool) (tree : Tree) (k end : Known) (ms : List TModule) → ms ≡ tree.modules → k ≡ at_first M
    → Passed (module_walk all_leaf) k ms end → first_broken (checks_by end.interfaces all_leaf ms) ≡ None → (first_broken (checks M all_leaf tree) ≡ None) × (end ≡ known M all_leaf tree.modules)
both-pass M all_leaf tree k end ms same is p q =
    let first = declarations-pass M all_leaf k end ms is p in
    (connections_left M all_leaf tree end ms same first.0 first.1 ∙ q, first.1 ∙ ap (known M all_leaf) same)
