-- The laws of elaboration, which a public call carries.
use Rattle.std.specs.Prelude.{◌≡◌, ◌↔◌, ◌⊎◌, Bool, All}
use Rattle.emh_base.specs.declared.plain.Plain.{Plain}
use Rattle.flatten_rules.specs.Sound.{IsSound}
use Rattle.vlog_read.specs.declared.tree.Tree.{Tree}
use Rattle.vlog_read.specs.Bare.{bare}
use Rattle.vlog_elab.specs.declared.fault.ElabFault.{ElabFault}
use Rattle.vlog_elab.specs.Elaboration.{Elaborates, HasFault}
use Rattle.vlog_elab.specs.Counters.{IsCountable}

-- over a table a tree never gives a table and has a fault, gives only one table, and has only one fault
pub record HasAtMostOneAnswer (M : Plain) (all_leaf : Bool) (tree : Tree) : Type 0 where
  pub not_both : (plain : Plain) (fault : ElabFault) → Elaborates M all_leaf tree plain → HasFault M all_leaf tree fault → ⊥
  pub one_table : (some other : Plain) → Elaborates M all_leaf tree some → Elaborates M all_leaf tree other → some ≡ other
  pub one_fault : (some other : ElabFault) → HasFault M all_leaf tree some → HasFault M all_leaf tree other → some ≡ other

-- over a sound table each tree gives a table or has a fault
abbrev pub EachHasSomeAnswer : Type 0
EachHasSomeAnswer = (M : Plain) (all_leaf : Bool) (tree : Tree) → IsSound M
    → ((plain : Plain) × Elaborates M all_leaf tree plain) ⊎ ((fault : ElabFault) × HasFault M all_leaf tree fault)

-- no tree has two answers
abbrev pub EachHasAtMostOneAnswer : Type 0
EachHasAtMostOneAnswer = (M : Plain) (all_leaf : Bool) (tree : Tree) → HasAtMostOneAnswer M all_leaf tree

-- from a sound table, and a tree whose modules have no more nets and instances than there are ids, the result is sound
abbrev pub StaysSound : Type 0
StaysSound = (M : Plain) (all_leaf : Bool) (tree : Tree) (plain : Plain) → IsSound M
    → All IsCountable tree.modules → Elaborates M all_leaf tree plain → IsSound plain

-- places tell where a fault is and nothing else: a tree gives a table exactly where it gives it without its places
abbrev pub PlacesDoNotMatter : Type 0
PlacesDoNotMatter = (M : Plain) (all_leaf : Bool) (tree : Tree) (plain : Plain)
    → Elaborates M all_leaf tree plain ↔ Elaborates M all_leaf (bare tree) plain
