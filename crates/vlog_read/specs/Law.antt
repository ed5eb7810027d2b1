-- The law of the grammar, which a public call carries.
use Rattle.std.specs.Prelude.{◌≡◌, ◌⊎◌, ℕ, List}
use Rattle.vlog_lex.specs.declared.token.Token.{Token}
use Rattle.vlog_read.specs.declared.tree.Tree.{Tree}
use Rattle.vlog_read.specs.declared.fault.ParseFault.{ParseFault}
use Rattle.vlog_read.specs.Sentence.{Spells, HasFault}

-- the tokens of `len` bytes spell a tree or have a fault, never both, and only one tree or one fault
pub record HasOneAnswer (len : ℕ) (T : List Token) : Type 0 where
  pub some : ((tree : Tree) × Spells tree T) ⊎ ((fault : ParseFault) × HasFault len T fault)
  pub not_both : (tree : Tree) (fault : ParseFault) → Spells tree T → HasFault len T fault → ⊥
  pub one_tree : (some other : Tree) → Spells some T → Spells other T → some ≡ other
  pub one_fault : (some other : ParseFault) → HasFault len T some → HasFault len T other → some ≡ other

-- all tokens have one answer
abbrev pub EachHasOneAnswer : Type 0
EachHasOneAnswer = (len : ℕ) (T : List Token) → HasOneAnswer len T
