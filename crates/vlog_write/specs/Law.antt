-- The law of writing, which a public call carries: what is written of a table spells the table's tree.
use Rattle.std.specs.Prelude.{◌≡◌, ℕ, List, All}
use Rattle.emh_base.specs.declared.plain.PModule.{PModule}
use Rattle.emh_base.specs.declared.plain.Plain.{Plain}
use Rattle.emh_base.specs.Name.{IsName}
use Rattle.flatten_rules.specs.Sound.{IsSound}
use Rattle.flatten_rules.specs.Texts.{HasNames}
use Rattle.vlog_read.specs.declared.tree.Tree.{Tree}
use Rattle.vlog_read.specs.Bare.{bare}
use Rattle.vlog_read.specs.HasTree.{HasTree}
use Rattle.vlog_write.specs.TreeOf.{tree_of}
use Rattle.vlog_write.specs.Written.{written}

-- the name of a module and the names in it are names, as the type of names has it
pub record IsNamed (m : PModule) : Type 0 where
  pub name : IsName m.name
  pub inside : HasNames m

abbrev pub AllNamed : Plain → Type 0
AllNamed M = All IsNamed M.modules

-- the bytes spell the tree, but for its places
pub record IsTextOf (tree : Tree) (bytes : List ℕ) : Type 0 where
  pub spelled : Tree
  pub has_tree : HasTree bytes spelled
  pub same : bare spelled ≡ tree

-- what is written of a sound table whose names are names spells the table's tree
abbrev pub EachTableIsSpelled : Type 0
EachTableIsSpelled = (M : Plain) → IsSound M → AllNamed M → IsTextOf (tree_of M) (written M)
