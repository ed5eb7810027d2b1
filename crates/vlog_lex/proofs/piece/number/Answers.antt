use Rattle.std.proofs.Common.{sym, subst, ◌∙◌, true}
use Rattle.std.proofs.lemmas.Bool.{eq-eqb}
use Rattle.std.specs.Prelude.{slice_index}
use Rattle.vlog_lex.specs.Byte.{apostrophe}
use Rattle.vlog_lex.specs.Piece.{PieceBy, NumberIs}
use Rattle.vlog_lex.specs.declared.case.Case.TheVariants as case
use Rattle.vlog_lex.proofs.Finding.{finds_map}
use Rattle.vlog_lex.proofs.piece.number.Goals as goal

pub returns-then-byte_at-eq39 : goal.returns-then-byte_at-eq39
returns-then-byte_at-eq39 c =
    let bytes = c.args.bytes.now in
    let n = c.run_end-end.result in
    finds_map (NumberIs true bytes c.args.at n) (PieceBy case.Number bytes c.args.at)
    (λ b kind is. (
      n,
      c.run_end-end.ensures.run,
      subst (λ here. NumberIs here bytes c.args.at n b kind)
          (sym (eq-eqb (slice_index bytes n) apostrophe (sym c.byte_at.ensures ∙ c.if-byte_at-eq39.true))) is,
    ))
    _ c.literal.ensures
