-- The law of tokens, which a public call carries.
use Rattle.std.specs.Prelude.{ℕ, List}
use Rattle.vlog_lex.specs.Lexes.{HasOneAnswer}

-- all bytes have one answer
abbrev pub EachHasOneAnswer : Type 0
EachHasOneAnswer = (bytes : List ℕ) → HasOneAnswer bytes
