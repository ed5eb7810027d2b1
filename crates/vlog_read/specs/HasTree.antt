use Rattle.std.specs.Prelude.{ℕ, List}
use Rattle.vlog_lex.specs.declared.token.Token.{Token}
use Rattle.vlog_lex.specs.Lexes.{Lexes}
use Rattle.vlog_read.specs.declared.tree.Tree.{Tree}
use Rattle.vlog_read.specs.Sentence.{Spells}

-- the bytes of a file have tokens that spell this tree
pub record HasTree (bytes : List ℕ) (tree : Tree) : Type 0 where
  pub tokens : List Token
  pub lexes : Lexes bytes tokens
  pub spells : Spells tree tokens
