-- What a function that reads a part of the grammar promises: the machine gives the same before and after it.
use Rattle.std.specs.Prelude.{◌≡◌, ℕ, Bool, true, false, List, [], ◌∷◌, Option, Some, None, Result, Ok, Err}
use Rattle.vlog_lex.specs.declared.token.Token.{Token}
use Rattle.vlog_lex.specs.declared.token.TokenKind.{TokenKind}
use Rattle.vlog_read.specs.declared.tree.Tree.{Tree}
use Rattle.vlog_read.specs.declared.fault.ParseFault.{ParseFault}
use Rattle.vlog_read.specs.declared.fault.ParseFault.TheVariants.{Unexpected, Unsupported, NoMemory}
use Rattle.vlog_read.specs.Sentence.{fault_at}
use Rattle.vlog_read.specs.inside.Machine.State.{State}
use Rattle.vlog_read.specs.inside.Machine.Step.{read, start}

-- a fault of the tokens
abbrev pub is_real : ParseFault → Bool
is_real (Unexpected at) = true
is_real (Unsupported at word) = true
is_real NoMemory = false

-- from this state the tokens are read to that one, or they have this fault; want of memory says nothing
abbrev pub Reads : {A : Type 0} → ℕ → State → (A → State) → List Token → List Token → Result A ParseFault → Type 0
Reads len s n T U (Ok v) = read len s T ≡ read len (n v) U
Reads len s n T U (Err fault) = is_real fault ≡ true → read len s T ≡ Err fault

-- the first token passes the test
abbrev pub IsNext : (TokenKind → Bool) → List Token → Bool
IsNext test [] = false
IsNext test (t ∷ T) = test t.kind

-- the first token fails the test, and this is the fault at it
abbrev pub Refused : (TokenKind → Bool) → ℕ → List Token → ParseFault → Type 0
Refused test len [] fault = fault ≡ Unexpected len
Refused test len (t ∷ T) fault = (test t.kind ≡ false) × (fault ≡ fault_at t)

-- the first token was taken where it passes the test
abbrev pub Took : (TokenKind → Bool) → (List Token → List Token → Type 0) → List Token → List Token → Bool → Type 0
Took test R T U true = R T U
Took test R T U false = (U ≡ T) × (IsNext test T ≡ false)

-- the same where the token says something
abbrev pub TookSome : {A : Type 0} → (TokenKind → Bool) → (A → List Token → List Token → Type 0) → List Token
    → List Token → Option A → Type 0
TookSome test R T U (Some v) = R v T U
TookSome test R T U None = (U ≡ T) × (IsNext test T ≡ false)

-- what the reading of all tokens gives
abbrev pub Gives : ℕ → List Token → Result Tree ParseFault → Type 0
Gives len T (Ok tree) = read len start T ≡ Ok tree
Gives len T (Err fault) = is_real fault ≡ true → read len start T ≡ Err fault
