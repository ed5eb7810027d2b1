-- What a function that reads a single token promises, and short forms for the machine's contexts.
use Rattle.std.specs.Prelude.{◌≡◌, ℕ, Bool, true, false, ◌||◌, List, Result, Ok, Err}
use Rattle.vlog_lex.specs.declared.token.Token.{Token}
use Rattle.vlog_lex.specs.declared.token.TokenKind.{TokenKind}
use Rattle.vlog_lex.specs.declared.token.TokenKind.TheVariants.{Cell, EndCell, Literal}
use Rattle.vlog_read.specs.declared.tree.TModule.{TModule}
use Rattle.vlog_read.specs.declared.tree.At.{At}
use Rattle.vlog_read.specs.declared.tree.Header.{Header}
use Rattle.vlog_read.specs.declared.tree.Item.{Item}
use Rattle.vlog_read.specs.declared.tree.Part.{Part}
use Rattle.vlog_read.specs.declared.tree.Part.TheVariants.{Lit}
use Rattle.vlog_read.specs.declared.fault.ParseFault.{ParseFault}
use Rattle.vlog_read.specs.Grammar.{Reading, Never, One}
use Rattle.vlog_read.specs.inside.Machine.State.{SoFar, InModule}
use Rattle.vlog_read.specs.inside.Machine.Step.{is_cell, is_end_cell}
use Rattle.vlog_read.specs.inside.Machine.Reads.{is_real, Refused}

-- the first token is refused with this fault, unless memory was wanting
abbrev pub Refuses : (TokenKind → Bool) → ℕ → List Token → ParseFault → Type 0
Refuses test len T fault = is_real fault ≡ true → Refused test len T fault

-- a token that has to pass the test is read, or is refused
abbrev pub Takes : {A : Type 0} → (TokenKind → Bool) → (A → Reading) → ℕ → List Token → List Token → Result A ParseFault
    → Type 0
Takes test R len T U (Ok v) = R v T U
Takes test R len T U (Err fault) = Refuses test len T fault

-- LIT, as a part of an expression
abbrev pub literal : Part → Reading
literal (Lit size value) = One (Literal size value)
literal _ = Never

-- `celldefine | `endcelldefine, by whether it marks what follows
abbrev pub celldefine : Bool → Reading
celldefine true = One Cell
celldefine false = One EndCell

abbrev pub is_celldefine : TokenKind → Bool
is_celldefine kind = is_cell kind || is_end_cell kind

-- between modules, by the fields
abbrev pub so_far : List TModule → Bool → SoFar
so_far ms marked = record { modules = ms; marked = marked }

-- in a module, by the fields
abbrev pub inside : List TModule → Bool → At → Header → List Item → InModule
inside ms marked n h is =
    record { modules = ms; current = record { name = n; marked = marked; header = h; items = is } }
