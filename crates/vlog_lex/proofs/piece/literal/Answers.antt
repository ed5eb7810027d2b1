use Rattle.std.proofs.Common.{refl, sym, ◌+◌, ◌≡◌, ◌∙◌, ap, None}
use Rattle.vlog_lex.specs.Byte.{is_literal_byte}
use Rattle.std.specs.Prelude.{slice_index}
use Rattle.vlog_lex.specs.Number.{base_of}
use Rattle.vlog_lex.proofs.Places.{run_there}
use Rattle.vlog_lex.proofs.piece.literal.Goals as goal

pub returns-in_default : goal.returns-in_default
returns-in_default c =
    let (b, run) = run_there is_literal_byte c.args.bytes.now (c.args.apostrophe + 2) refl in
    let none : base_of (slice_index c.args.bytes.now (c.args.apostrophe + 1)) ≡ None =
    ap base_of (sym c.byte_at.ensures) ∙ sym c.base_of.ensures ∙ c.in_default.is in
    (b, (run, rw none refl))
