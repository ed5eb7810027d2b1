use Rattle.std.proofs.Common.{subst}
use Rattle.vlog_lex.specs.Piece.{PieceBy, DirectiveIs}
use Rattle.vlog_lex.specs.declared.case.Directive.TheVariants.{DefaultNettype}
use Rattle.vlog_lex.specs.declared.case.Case.TheVariants as case
use Rattle.vlog_lex.proofs.Finding.{finds_map}
use Rattle.vlog_lex.proofs.directive.directive.Goals as goal

pub returns-in-DefaultNettype : goal.returns-in-DefaultNettype
returns-in-DefaultNettype c =
    let bytes = c.args.bytes.now in
    let n = c.run_end-name_end.result in
    finds_map (DirectiveIs DefaultNettype bytes c.args.at n) (PieceBy case.Directive bytes c.args.at)
    (λ b kind is. (
      n,
      c.run_end-name_end.ensures.run,
      subst (λ d. DirectiveIs d bytes c.args.at n b kind)
          c.in-DefaultNettype.ensures is,
    ))
    _ c.default_nettype.ensures
