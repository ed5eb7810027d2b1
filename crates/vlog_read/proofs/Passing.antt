-- Where a part of the grammar that may be missing is missing, one state is as good as another.
use Rattle.std.proofs.Common.{◌≡◌, refl, ℕ, Bool, true, false, ◌||◌, List, [], ◌∷◌, Some, None}
use Rattle.emh_base.specs.declared.plain.Dir.{Dir}
use Rattle.vlog_lex.specs.declared.token.Token.{Token}
use Rattle.vlog_read.specs.declared.tree.At.{At}
use Rattle.vlog_read.specs.declared.tree.Header.TheVariants.{Names}
use Rattle.vlog_read.specs.declared.tree.Decl.{Decl}
use Rattle.vlog_read.specs.declared.tree.Part.{Part}
use Rattle.vlog_read.specs.declared.tree.Part.TheVariants.{Name}
use Rattle.vlog_read.specs.Words.{wire_word, left_parenthesis, right_parenthesis, comma, dot, left_bracket}
use Rattle.vlog_read.specs.Grammar.{first_at}
use Rattle.vlog_read.specs.inside.Machine.State.{SoFar, DeclFor, InInst, InConn, module_of, decl_of, with_conn, empty_conn, expr_of, with_part, with_expr, AfterModuleName, AfterPorts, AfterDir, AfterWire, DeclName, FirstConn, NextConn, FirstExpr, NextExpr, AfterPartName, AfterExpr, AfterConn}
use Rattle.vlog_read.specs.inside.Machine.Step.{is_mark, is_word, ends_conn, read}
use Rattle.vlog_read.specs.inside.Machine.Reads.{IsNext}

-- no header
pub no_header : (len : ℕ) (s : SoFar) (n : At) (T : List Token) → IsNext (is_mark left_parenthesis) T ≡ false
    → read len (AfterModuleName s n) T ≡ read len (AfterPorts (module_of s n (Names []))) T
no_header len s n [] h = refl
no_header len s n (t ∷ T) h = rw h refl

-- no `wire` after a direction
pub no_wire : (len : ℕ) (for : DeclFor) (d : Dir) (T : List Token) → IsNext (is_word wire_word) T ≡ false
    → read len (AfterDir for d) T ≡ read len (AfterWire for (decl_of (Some d) false None [])) T
no_wire len for d [] h = refl
no_wire len for d (t ∷ T) h = rw h refl

-- no range
pub no_range : (len : ℕ) (for : DeclFor) (d : Decl) (T : List Token) → IsNext (is_mark left_bracket) T ≡ false
    → read len (AfterWire for d) T ≡ read len (DeclName for d) T
no_range len for d [] h = refl
no_range len for d (t ∷ T) h = rw h refl

-- some connection
pub some_conn : (len : ℕ) (i : InInst) (T : List Token) → IsNext (is_mark right_parenthesis) T ≡ false
    → read len (FirstConn i) T ≡ read len (NextConn i) T
some_conn len i [] h = refl
some_conn len i (t ∷ T) h = rw h refl

-- an empty connection by order
no_conn_at : (len : ℕ) (i : InInst) (t : Token) (T : List Token) (follows closes : Bool)
    → is_mark comma t.kind ≡ follows → is_mark right_parenthesis t.kind ≡ closes → (follows || closes) ≡ true
    → read len (NextConn i) (t ∷ T) ≡ read len (AfterConn (with_conn i (empty_conn t.at))) (t ∷ T)
no_conn_at len i t T true closes follows closes_is h = rw follows refl
no_conn_at len i t T false true follows closes h = rw (follows, closes) refl
no_conn_at len i t T false false follows closes h = cc

pub no_conn : (len : ℕ) (i : InInst) (T : List Token) → IsNext ends_conn T ≡ true
    → read len (NextConn i) T ≡ read len (AfterConn (with_conn i (empty_conn (first_at T)))) T
no_conn len i [] h = refl
no_conn len i (t ∷ T) h = no_conn_at len i t T (is_mark comma t.kind) (is_mark right_parenthesis t.kind) refl refl h

-- a connection by order that isn't empty
some_conn_at : (len : ℕ) (i : InInst) (t : Token) (T : List Token) (follows closes : Bool)
    → is_mark comma t.kind ≡ follows → is_mark right_parenthesis t.kind ≡ closes → (follows || closes) ≡ false
    → is_mark dot t.kind ≡ false
    → read len (NextConn i) (t ∷ T) ≡ read len (NextExpr (expr_of i t.at None t.at []) 0) (t ∷ T)
some_conn_at len i t T true closes follows closes_is h g = cc
some_conn_at len i t T false true follows closes h g = cc
some_conn_at len i t T false false follows closes h g = rw (follows, closes, g) refl

pub conn_by_order : (len : ℕ) (i : InInst) (T : List Token) → IsNext ends_conn T ≡ false
    → IsNext (is_mark dot) T ≡ false
    → read len (NextConn i) T ≡ read len (NextExpr (expr_of i (first_at T) None (first_at T) []) 0) T
conn_by_order len i [] h g = refl
conn_by_order len i (t ∷ T) h g =
    some_conn_at len i t T (is_mark comma t.kind) (is_mark right_parenthesis t.kind) refl refl h g

-- the end of one
pub end_by_order : (len : ℕ) (i : InInst) (at expr_at : ℕ) (ps : List Part) (T : List Token)
    → read len (AfterExpr (expr_of i at None expr_at ps) 0) T
    ≡ read len (AfterConn (with_expr (expr_of i at None expr_at ps))) T
end_by_order len i at expr_at ps [] = refl
end_by_order len i at expr_at ps (t ∷ T) = refl

-- some expression of a connection by name
pub some_expr : (len : ℕ) (i : InInst) (at : ℕ) (port : At) (T : List Token)
    → IsNext (is_mark right_parenthesis) T ≡ false
    → read len (FirstExpr i at port) T ≡ read len (NextExpr (expr_of i at (Some port) (first_at T) []) 0) T
some_expr len i at port [] h = refl
some_expr len i at port (t ∷ T) h = rw h refl

-- no bits are selected
pub no_select : (len : ℕ) (e : InConn) (depth : ℕ) (n : At) (T : List Token) → IsNext (is_mark left_bracket) T ≡ false
    → read len (AfterPartName e depth n) T ≡ read len (AfterExpr (with_part e (Name n)) depth) T
no_select len e depth n [] h = refl
no_select len e depth n (t ∷ T) h = rw h refl
