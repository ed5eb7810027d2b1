-- A file has at most one tree.
use Rattle.std.proofs.Common.{◌≡◌, ℕ, List}
use Rattle.vlog_lex.proofs.OneAnswer.{one_list}
use Rattle.vlog_read.specs.declared.tree.Tree.{Tree}
use Rattle.vlog_read.specs.HasTree.{HasTree}
use Rattle.vlog_read.proofs.OneAnswer.{law}

pub one-tree : (bytes : List ℕ) (tree other : Tree) → HasTree bytes tree → HasTree bytes other → tree ≡ other
one-tree bytes tree other a b =
    let same = one_list bytes a.tokens b.tokens a.lexes b.lexes in
    (law 0 a.tokens).one_tree tree other a.spells (rw same b.spells)
