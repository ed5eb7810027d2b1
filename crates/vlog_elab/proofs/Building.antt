-- What elaboration answers, from its parts.
use Rattle.std.proofs.Common.{arith, ◌≡◌, ℕ, zero, suc, ◌+◌, ◌-◌, ◌<◌, ◌≤◌, [], ◌∷◌, ◌++◌, Bool, Option, Some, None, List, length, slice_get, refl, ◌∙◌, ap, inl, inr}
use Rattle.std.specs.Prelude.{IsSomeAnd}
use Rattle.std.proofs.lemmas.List.{length-append}
use Rattle.std.proofs.lemmas.Option.{slice_get_within}
use Rattle.emh_base.specs.declared.plain.PModule.{PModule}
use Rattle.emh_base.specs.declared.plain.Plain.{Plain}
use Rattle.flatten_rules.specs.Cycle.{IsFirstOnCycle}
use Rattle.vlog_read.specs.declared.tree.TModule.{TModule}
use Rattle.vlog_read.specs.declared.tree.Tree.{Tree}
use Rattle.vlog_elab.specs.declared.interface.Interface.{Interface}
use Rattle.vlog_elab.specs.declared.interface.Known.{Known}
use Rattle.vlog_elab.specs.declared.fault.ElabFault.{ElabFault}
use Rattle.vlog_elab.specs.declared.fault.ElabFault.TheVariants.{Fault, NoMemory}
use Rattle.vlog_elab.specs.declared.fault.ElabKind.TheVariants as kind
use Rattle.flatten_rules.specs.Check.{first_broken}
use Rattle.vlog_elab.specs.Named.{Named, numbered}
use Rattle.vlog_elab.specs.Interfaces.{added, interfaces, known}
use Rattle.vlog_elab.specs.Table.{row, built}
use Rattle.vlog_elab.specs.Elaboration.{checks, HasFault, UnlessNoMemory}
use Rattle.vlog_elab.specs.inside.Walk.{Found}
use Rattle.vlog_elab.proofs.Numbering.{length-numbered}

-- the table that is made is the one that is built
pub made-is : (M : Plain) (all_leaf : Bool) (tree : Tree) (k : Known) (ms : List TModule) (rows : List PModule) → ms ≡ tree.modules → k ≡ known M all_leaf ms
    → rows ≡ M.modules ++ numbered (row k.interfaces all_leaf) M.next_module (added M ms) → record { modules = rows; next_module = k.next_module } ≡ built M all_leaf tree
unfolding built
made-is M all_leaf tree k ms rows same is made =
    let e : rows ≡ M.modules ++ numbered (row (interfaces M all_leaf ms) all_leaf) M.next_module (added M ms)
    = made ∙ ap (λ (k : Known). M.modules ++ numbered (row k.interfaces all_leaf) M.next_module (added M ms)) is in
    rw (e, is, same) refl

-- a place that holds a module is one of the table's, or of a module that is added
pub place-within : (M : Plain) (all_leaf : Bool) (fs : Named Interface) (ms : List TModule) (rows : List PModule) (P : PModule → Type 0) (place : ℕ)
    → rows ≡ M.modules ++ numbered (row fs all_leaf) M.next_module (added M ms) → IsSomeAnd (slice_get rows place) P → place < length M.modules + length (added M ms)
place-within M all_leaf fs ms rows P place made h = at_o (slice_get rows place) refl h
  where
    len : length rows ≡ length M.modules + length (added M ms)
    len = ap length made ∙ length-append M.modules (numbered (row fs all_leaf) M.next_module (added M ms))
        ∙ ap (λ n. length M.modules + n) (length-numbered (row fs all_leaf) M.next_module (added M ms))

    at_o : (o : Option PModule) → slice_get rows place ≡ o → IsSomeAnd o P → place < length M.modules + length (added M ms)
    at_o None e h = absurd h
    at_o (Some m) e h = let below : place < length rows = slice_get_within rows place m e in omega (arith, below, len)

-- a fault of the first two rounds
pub fault-of_checks : (M : Plain) (all_leaf : Bool) (tree : Tree) (e : ElabFault) → Found (first_broken (checks M all_leaf tree)) e → UnlessNoMemory (HasFault M all_leaf tree) e
fault-of_checks M all_leaf tree (Fault k at name) h = inl h
fault-of_checks M all_leaf tree NoMemory h = tt

-- the fault of the third round
pub fault-of_cycle : (M : Plain) (all_leaf : Bool) (tree : Tree) (place : ℕ) (e : ElabFault) → first_broken (checks M all_leaf tree) ≡ None
    → IsFirstOnCycle (built M all_leaf tree) (length M.modules) (Some place) → place < length M.modules + length (added M tree.modules)
    → ((k : ℕ) (m : TModule) → place ≡ length M.modules + k → slice_get (added M tree.modules) k ≡ Some m → Found (Some (Fault kind.Recursive m.name.at m.name.name)) e)
    → UnlessNoMemory (HasFault M all_leaf tree) e
fault-of_cycle M all_leaf tree place e passed on_cycle within says = at_o (slice_get (added M tree.modules) k) refl
  where
    k : ℕ
    k = place - length M.modules

    here : place ≡ length M.modules + k
    here = let after : length M.modules ≤ place = on_cycle.0 in omega arith

    at_o : (o : Option TModule) → slice_get (added M tree.modules) k ≡ o → UnlessNoMemory (HasFault M all_leaf tree) e
    at_o None h =
        let below : k < length (added M tree.modules) = omega (arith, here, within) in
        absurd (no_item (added M tree.modules) k below h)
      where
        no_item : (ms : List TModule) (k : ℕ) → k < length ms → slice_get ms k ≡ None → ⊥
        no_item [] k h e = omega arith
        no_item (m ∷ ms) zero h e = cc e
        no_item (m ∷ ms) (suc k) h e = no_item ms k (omega arith) e
    at_o (Some m) h = at_e e (says k m here h)
      where
        at_e : (e : ElabFault) → Found (Some (Fault kind.Recursive m.name.at m.name.name)) e → UnlessNoMemory (HasFault M all_leaf tree) e
        at_e (Fault x at name) f = inr (record {
          passed = passed;
          place = k;
          m = m;
          module_at = h;
          first_on_cycle = rw (← here) on_cycle;
          fault_is = let same : Some (Fault kind.Recursive m.name.at m.name.name) ≡ Some (Fault x at name) = f in cc;
        })
        at_e NoMemory f = tt

-- the interfaces that are known are those of the text
pub interfaces-known : (M : Plain) (all_leaf : Bool) (k : Known) (ms : List TModule) → k ≡ known M all_leaf ms → k.interfaces ≡ interfaces M all_leaf ms
interfaces-known M all_leaf k ms is = ap (λ (k : Known). k.interfaces) is
