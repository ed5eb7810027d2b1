use Rattle.std.proofs.Common.{refl, inr}
use Rattle.vlog_lex.proofs.piece.block_comment.Goals as goal

pub returns-in-None : goal.returns-in-None
returns-in-None c = (c.args.at, inr (c.in-None.ensures.none, refl, refl))
