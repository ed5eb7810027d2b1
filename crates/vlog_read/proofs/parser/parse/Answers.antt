use Rattle.std.proofs.Common.{List, subst}
use Rattle.vlog_lex.specs.declared.token.Token.{Token}
use Rattle.vlog_read.specs.inside.Machine.Reads.{Gives}
use Rattle.vlog_read.proofs.OneAnswer.{is_tree, is_fault, each_tree, each_fault}
use Rattle.vlog_read.proofs.parser.parse.Goals as goal

pub returns : goal.returns
returns c =
    let len = c.args.tokens.now.len in
    let T = c.args.tokens.now.items in
    let gives : Gives len T c.modules.result =
    subst (λ (U : List Token). Gives len U c.modules.result) c.as_slice.ensures c.modules.ensures in
    record {
      tree = is_tree len T c.modules.result gives;
      fault = is_fault len T c.modules.result gives;
      each_tree = each_tree len T c.modules.result gives;
      each_fault = each_fault len T c.modules.result gives;
    }
