-- A tree has no two answers, and what was answered is the one that it has.
use Rattle.std.proofs.Common.{arith, ◌≡◌, ℕ, ◌+◌, ◌≤◌, ◌<◌, Bool, Option, Some, None, length, slice_get, refl, sym, ◌∙◌, ap, inl, inr, ⊎_elim}
use Rattle.std.specs.List.{All}
use Rattle.std.specs.Prelude.{Result, Ok, Err, IfOk, IfErr, MatchResult, IsSomeAnd}
use Rattle.std.proofs.lemmas.Bool.{cases_lt}
use Rattle.std.proofs.lemmas.Option.{slice_get_within}
use Rattle.emh_base.specs.declared.plain.PModule.{PModule}
use Rattle.emh_base.specs.declared.plain.Plain.{Plain}
use Rattle.flatten_rules.specs.Cycle.{OnCycle, IsFirstOnCycle, NoneOnCycle}
use Rattle.flatten_rules.specs.Sound.{IsSound}
use Rattle.flatten_rules.proofs.Walks.{same-some}
use Rattle.vlog_read.specs.declared.tree.TModule.{TModule}
use Rattle.vlog_read.specs.declared.tree.Tree.{Tree}
use Rattle.vlog_elab.specs.declared.fault.ElabFault.{ElabFault}
use Rattle.vlog_elab.specs.declared.fault.ElabFault.TheVariants.{Fault, NoMemory}
use Rattle.vlog_elab.specs.declared.fault.ElabKind.TheVariants as kind
use Rattle.flatten_rules.specs.Check.{first_broken}
use Rattle.vlog_elab.specs.Interfaces.{added}
use Rattle.vlog_elab.specs.Table.{built}
use Rattle.vlog_elab.specs.Elaboration.{checks, Elaborates, HasFault, IsRecursive, UnlessNoMemory}
use Rattle.vlog_elab.specs.Law.{EachHasAtMostOneAnswer}
use Rattle.vlog_elab.specs.Counters.{HasCounters}
use Rattle.vlog_elab.proofs.Staying.{built_sound}

-- where a place holds a module on a cycle, none before it does, and no other place is the first
some_there : (o : Option PModule) (P : PModule → Type 0) → IsSomeAnd o P → (m : PModule) × (o ≡ Some m) × P m
some_there None P h = absurd h
some_there (Some m) P h = (m, refl, h)

not_before : (B : Plain) (from to k : ℕ) → NoneOnCycle B from to → from ≤ k → k < to → IsSomeAnd (slice_get B.modules k) (OnCycle B) → ⊥
not_before B from to k none low high h =
    let there = some_there (slice_get B.modules k) (OnCycle B) h in
    none k there.0 low high there.1 there.2

one_first : (B : Plain) (from j k : ℕ) → IsFirstOnCycle B from (Some j) → IsFirstOnCycle B from (Some k) → j ≡ k
one_first B from j k one two =
    ⊎_elim (λ (below : j < k). absurd (not_before B from k j two.2 one.0 below one.1))
    (λ (past : k ≤ j). ⊎_elim (λ (below : k < j). absurd (not_before B from j k one.2 two.0 below two.1)) (λ (past2 : j ≤ k). omega arith) (cases_lt k j))
    (cases_lt j k)

-- none is on a cycle, and one is
none_first : (B : Plain) (from k : ℕ) → IsFirstOnCycle B from None → IsFirstOnCycle B from (Some k) → ⊥
none_first B from k none one =
    let there = some_there (slice_get B.modules k) (OnCycle B) one.1 in
    none k there.0 one.0 (slice_get_within B.modules k there.0 there.1) there.1 there.2

one_table : (M : Plain) (all_leaf : Bool) (tree : Tree) (some other : Plain) → Elaborates M all_leaf tree some → Elaborates M all_leaf tree other → some ≡ other
one_table M all_leaf tree some other is also = is.table ∙ sym also.table

none_and_some : {T : Type 0} (o : Option T) (x : T) → o ≡ None → o ≡ Some x → ⊥
none_and_some o x a b = let no : None ≡ Some x = sym a ∙ b in cc no

not_both : (M : Plain) (all_leaf : Bool) (tree : Tree) (plain : Plain) (fault : ElabFault) → Elaborates M all_leaf tree plain → HasFault M all_leaf tree fault → ⊥
not_both M all_leaf tree plain fault is (inl broken) = none_and_some (first_broken (checks M all_leaf tree)) fault is.passed broken
not_both M all_leaf tree plain fault is (inr recursive) =
    none_first (built M all_leaf tree) (length M.modules) (length M.modules + recursive.place) is.no_cycle recursive.first_on_cycle

one_recursive : (M : Plain) (all_leaf : Bool) (tree : Tree) (some other : ElabFault) → IsRecursive M all_leaf tree some → IsRecursive M all_leaf tree other → some ≡ other
one_recursive M all_leaf tree some other one two =
    let places : length M.modules + one.place ≡ length M.modules + two.place
    = one_first (built M all_leaf tree) (length M.modules) (length M.modules + one.place) (length M.modules + two.place) one.first_on_cycle two.first_on_cycle in
    let place : one.place ≡ two.place = omega (arith, places) in
    let same : one.m ≡ two.m = same-some (slice_get (added M tree.modules) one.place) one.m two.m one.module_at (ap (slice_get (added M tree.modules)) place ∙ two.module_at) in
    one.fault_is ∙ ap (λ (m : TModule). Fault kind.Recursive m.name.at m.name.name) same ∙ sym two.fault_is

one_fault : (M : Plain) (all_leaf : Bool) (tree : Tree) (some other : ElabFault) → HasFault M all_leaf tree some → HasFault M all_leaf tree other → some ≡ other
one_fault M all_leaf tree some other (inl one) (inl two) = same-some (first_broken (checks M all_leaf tree)) some other one two
one_fault M all_leaf tree some other (inl one) (inr two) = absurd (none_and_some (first_broken (checks M all_leaf tree)) some two.passed one)
one_fault M all_leaf tree some other (inr one) (inl two) = absurd (none_and_some (first_broken (checks M all_leaf tree)) other one.passed two)
one_fault M all_leaf tree some other (inr one) (inr two) = one_recursive M all_leaf tree some other one two

pub one_answer : EachHasAtMostOneAnswer
one_answer M all_leaf tree = record {
  not_both = not_both M all_leaf tree;
  one_table = one_table M all_leaf tree;
  one_fault = one_fault M all_leaf tree;
}

-- what was answered is what the tree has

pub is_sound : (M : Plain) (all_leaf : Bool) (tree : Tree) (result : Result Plain ElabFault) → IsSound M → IfOk result (Elaborates M all_leaf tree) → IfOk result (λ made. All HasCounters made.modules) → IfOk result IsSound
is_sound M all_leaf tree (Ok plain) sound table counters = built_sound M all_leaf tree plain sound table counters
is_sound M all_leaf tree (Err fault) sound table counters = tt

pub each_table : (M : Plain) (all_leaf : Bool) (tree : Tree) (result : Result Plain ElabFault) → IfOk result (Elaborates M all_leaf tree)
    → IfErr result (UnlessNoMemory (HasFault M all_leaf tree)) → (made : Plain) → Elaborates M all_leaf tree made → MatchResult result (λ it. it ≡ made) (UnlessNoMemory (λ _. ⊥))
each_table M all_leaf tree (Ok plain) table fault made is = one_table M all_leaf tree plain made table is
each_table M all_leaf tree (Err (Fault kind at name)) table fault made is = not_both M all_leaf tree made (Fault kind at name) is fault
each_table M all_leaf tree (Err NoMemory) table fault made is = tt

pub each_fault : (M : Plain) (all_leaf : Bool) (tree : Tree) (result : Result Plain ElabFault) → IfOk result (Elaborates M all_leaf tree)
    → IfErr result (UnlessNoMemory (HasFault M all_leaf tree)) → (it : ElabFault) → HasFault M all_leaf tree it → MatchResult result (λ _. ⊥) (UnlessNoMemory (λ other. other ≡ it))
each_fault M all_leaf tree (Ok plain) table fault it has = not_both M all_leaf tree plain it table has
each_fault M all_leaf tree (Err (Fault kind at name)) table fault it has = one_fault M all_leaf tree (Fault kind at name) it fault has
each_fault M all_leaf tree (Err NoMemory) table fault it has = tt
