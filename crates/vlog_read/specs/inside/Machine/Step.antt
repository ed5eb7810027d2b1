-- One step of the machine, and what it gives for all tokens.
use Rattle.std.specs.Prelude.{ℕ, ◌+◌, ◌-◌, Bool, true, false, ◌==◌, nat_lt, ◌||◌, if◌then◌else◌, List, [], ◌∷◌, ◌++◌, Option, Some, None, Result, Ok, Err}
use Rattle.emh_base.specs.declared.plain.Dir.{Dir}
use Rattle.emh_base.specs.declared.plain.Dir.TheVariants.{Input, Output, Inout}
use Rattle.vlog_lex.specs.declared.token.Token.{Token}
use Rattle.vlog_lex.specs.declared.token.TokenKind.{TokenKind}
use Rattle.vlog_lex.specs.declared.token.TokenKind.TheVariants.{Ident, Reserved, Cell, EndCell, Number, Literal, Mark}
use Rattle.vlog_read.specs.declared.tree.Tree.{Tree}
use Rattle.vlog_read.specs.declared.tree.At.{At}
use Rattle.vlog_read.specs.declared.tree.Header.TheVariants.{Names, Decls}
use Rattle.vlog_read.specs.declared.tree.Decl.{Decl}
use Rattle.vlog_read.specs.declared.tree.Item.TheVariants.{Decl as Declaration}
use Rattle.vlog_read.specs.declared.tree.Part.{Part}
use Rattle.vlog_read.specs.declared.tree.Part.TheVariants.{Name, Bit, Bits, Lit}
use Rattle.vlog_read.specs.declared.fault.ParseFault.{ParseFault}
use Rattle.vlog_read.specs.declared.fault.ParseFault.TheVariants.{Unexpected}
use Rattle.vlog_read.specs.Words.{module_word, endmodule_word, wire_word, input_word, output_word, inout_word, left_parenthesis, right_parenthesis, comma, dot, colon, semicolon, left_bracket, right_bracket, left_brace, right_brace}
use Rattle.vlog_read.specs.Sentence.{fault_at}
use Rattle.vlog_read.specs.inside.Machine.State.{State, DeclFor, InInst, InConn, ForHeader, ForItem, with_mark, module_of, with_item, finished, decl_of, with_range, with_name, range_of, span_of, insts_of, inst_of, with_conn, with_inst, with_insts, empty_conn, expr_of, with_part, with_expr, Top, ModuleName, AfterModuleName, FirstHeader, HeaderName, AfterHeaderName, HeaderDecl, AfterPorts, AfterDir, AfterWire, RangeLeft, RangeColon, RangeRight, RangeClose, DeclName, AfterDeclName, InItems, InstName, AfterInstName, FirstConn, NextConn, PortName, AfterPortName, FirstExpr, NextExpr, AfterPartName, SelectLeft, AfterSelect, SelectRight, SelectClose, AfterExpr, AfterConn, AfterInst}

-- tests of a token
abbrev pub is_mark : ℕ → TokenKind → Bool
is_mark byte (Mark found) = found == byte
is_mark byte _ = false

abbrev pub is_word : ℕ → TokenKind → Bool
is_word row (Reserved found) = found == row
is_word row _ = false

abbrev pub is_name : TokenKind → Bool
is_name (Ident name) = true
is_name _ = false

abbrev pub is_number : TokenKind → Bool
is_number (Number value) = true
is_number _ = false

abbrev pub is_literal : TokenKind → Bool
is_literal (Literal size value) = true
is_literal _ = false

abbrev pub is_cell : TokenKind → Bool
is_cell Cell = true
is_cell _ = false

abbrev pub is_end_cell : TokenKind → Bool
is_end_cell EndCell = true
is_end_cell _ = false

abbrev pub is_dir : TokenKind → Bool
is_dir kind = is_word input_word kind || is_word output_word kind || is_word inout_word kind

-- what ends a connection
abbrev pub ends_conn : TokenKind → Bool
ends_conn kind = is_mark comma kind || is_mark right_parenthesis kind

-- what a token says where it passes its test
abbrev pub text_of : TokenKind → List ℕ
text_of (Ident name) = name
text_of _ = []

abbrev pub name_of : Token → At
name_of t = record { name = text_of t.kind; at = t.at }

abbrev pub number_of : TokenKind → ℕ
number_of (Number value) = value
number_of _ = 0

abbrev pub literal_of : TokenKind → Part
literal_of (Literal size value) = Lit size value
literal_of _ = Lit 0 0

abbrev pub dir_of : TokenKind → Dir
dir_of kind = if is_word input_word kind then Input else (if is_word output_word kind then Output else Inout)

-- the ways from a state: the first whose test the token passes is taken
abbrev pub taken : List (Bool × State) → Option State
taken [] = None
taken ((test, n) ∷ ways) = if test then Some n else taken ways

-- after a connection
abbrev pub after_conn : InInst → Token → List (Bool × State)
after_conn i t = (is_mark comma t.kind, NextConn i) ∷ (is_mark right_parenthesis t.kind, AfterInst (with_inst i)) ∷ []

-- at an expression
abbrev pub next_expr : InConn → ℕ → Token → List (Bool × State)
next_expr e depth t =
    (is_name t.kind, AfterPartName e depth (name_of t))
    ∷ (is_literal t.kind, AfterExpr (with_part e (literal_of t.kind)) depth)
    ∷ (is_mark left_brace t.kind, NextExpr e (depth + 1)) ∷ []

-- after an expression that isn't in braces: one of a connection by order ends the connection
abbrev pub end_of_expr : Option At → InConn → Token → List (Bool × State)
end_of_expr None e t = after_conn (with_expr e) t
end_of_expr (Some port) e t = (is_mark right_parenthesis t.kind, AfterConn (with_expr e)) ∷ []

-- after an expression
abbrev pub after_expr : InConn → ℕ → Token → List (Bool × State)
after_expr e depth t =
    if nat_lt 0 depth
    then (is_mark comma t.kind, NextExpr e depth) ∷ (is_mark right_brace t.kind, AfterExpr e (depth - 1)) ∷ []
    else end_of_expr e.port e t

-- at a connection that isn't empty
abbrev pub some_conn : InInst → Token → List (Bool × State)
some_conn i t = (is_mark dot t.kind, PortName i t.at) ∷ next_expr (expr_of i t.at None t.at []) 0 t

-- after the name of a declaration
abbrev pub after_decl_name : DeclFor → Decl → Token → List (Bool × State)
after_decl_name (ForHeader s n ds) d t =
    (is_mark comma t.kind, HeaderDecl s n ds d)
    ∷ (is_mark right_parenthesis t.kind, AfterPorts (module_of s n (Decls (ds ++ d ∷ [])))) ∷ []
after_decl_name (ForItem m) d t =
    (is_mark comma t.kind, DeclName (ForItem m) d)
    ∷ (is_mark semicolon t.kind, InItems (with_item m (Declaration d))) ∷ []

-- at the name of a declaration
abbrev pub decl_name : DeclFor → Decl → Token → List (Bool × State)
decl_name for d t = (is_name t.kind, AfterDeclName for (with_name d (name_of t))) ∷ []

-- at the range of a declaration
abbrev pub maybe_range : DeclFor → Decl → Token → List (Bool × State)
maybe_range for d t = (is_mark left_bracket t.kind, RangeLeft for d) ∷ decl_name for d t

-- where a token leads from each state
abbrev pub ways : State → Token → List (Bool × State)
ways (Top s) t =
    (is_cell t.kind, Top (with_mark s true)) ∷ (is_end_cell t.kind, Top (with_mark s false))
    ∷ (is_word module_word t.kind, ModuleName s) ∷ []
ways (ModuleName s) t = (is_name t.kind, AfterModuleName s (name_of t)) ∷ []
ways (AfterModuleName s n) t =
    (is_mark left_parenthesis t.kind, FirstHeader s n)
    ∷ (is_mark semicolon t.kind, InItems (module_of s n (Names []))) ∷ []
ways (FirstHeader s n) t =
    (is_name t.kind, AfterHeaderName s n (name_of t ∷ []))
    ∷ (is_dir t.kind, AfterDir (ForHeader s n []) (dir_of t.kind))
    ∷ (is_mark right_parenthesis t.kind, AfterPorts (module_of s n (Names []))) ∷ []
ways (HeaderName s n ns) t = (is_name t.kind, AfterHeaderName s n (ns ++ name_of t ∷ [])) ∷ []
ways (AfterHeaderName s n ns) t =
    (is_mark comma t.kind, HeaderName s n ns)
    ∷ (is_mark right_parenthesis t.kind, AfterPorts (module_of s n (Names ns))) ∷ []
ways (HeaderDecl s n ds d) t =
    (is_dir t.kind, AfterDir (ForHeader s n (ds ++ d ∷ [])) (dir_of t.kind)) ∷ decl_name (ForHeader s n ds) d t
ways (AfterPorts m) t = (is_mark semicolon t.kind, InItems m) ∷ []
ways (AfterDir for d) t =
    (is_word wire_word t.kind, AfterWire for (decl_of (Some d) true None []))
    ∷ maybe_range for (decl_of (Some d) false None []) t
ways (AfterWire for d) t = maybe_range for d t
ways (RangeLeft for d) t = (is_number t.kind, RangeColon for d (number_of t.kind) t.at) ∷ []
ways (RangeColon for d left at) t = (is_mark colon t.kind, RangeRight for d left at) ∷ []
ways (RangeRight for d left at) t =
    (is_number t.kind, RangeClose for (with_range d (span_of left (number_of t.kind) at))) ∷ []
ways (RangeClose for d) t = (is_mark right_bracket t.kind, DeclName for d) ∷ []
ways (DeclName for d) t = decl_name for d t
ways (AfterDeclName for d) t = after_decl_name for d t
ways (InItems m) t =
    (is_word endmodule_word t.kind, Top (finished m)) ∷ (is_dir t.kind, AfterDir (ForItem m) (dir_of t.kind))
    ∷ (is_word wire_word t.kind, AfterWire (ForItem m) (decl_of None true None []))
    ∷ (is_name t.kind, InstName (insts_of m (name_of t) [])) ∷ []
ways (InstName g) t = (is_name t.kind, AfterInstName g (name_of t)) ∷ []
ways (AfterInstName g n) t = (is_mark left_parenthesis t.kind, FirstConn (inst_of g n [])) ∷ []
ways (FirstConn i) t =
    (is_mark right_parenthesis t.kind, AfterInst (with_inst i))
    ∷ (is_mark comma t.kind, NextConn (with_conn i (empty_conn t.at))) ∷ some_conn i t
ways (NextConn i) t = after_conn (with_conn i (empty_conn t.at)) t ++ some_conn i t
ways (PortName i at) t = (is_name t.kind, AfterPortName i at (name_of t)) ∷ []
ways (AfterPortName i at port) t = (is_mark left_parenthesis t.kind, FirstExpr i at port) ∷ []
ways (FirstExpr i at port) t =
    let e = expr_of i at (Some port) t.at [] in
    (is_mark right_parenthesis t.kind, AfterConn (with_expr e)) ∷ next_expr e 0 t
ways (NextExpr e depth) t = next_expr e depth t
ways (AfterPartName e depth n) t =
    (is_mark left_bracket t.kind, SelectLeft e depth n) ∷ after_expr (with_part e (Name n)) depth t
ways (SelectLeft e depth n) t = (is_number t.kind, AfterSelect e depth n (number_of t.kind)) ∷ []
ways (AfterSelect e depth n left) t =
    (is_mark right_bracket t.kind, AfterExpr (with_part e (Bit n left)) depth)
    ∷ (is_mark colon t.kind, SelectRight e depth n left) ∷ []
ways (SelectRight e depth n left) t = (is_number t.kind, SelectClose e depth n left (number_of t.kind)) ∷ []
ways (SelectClose e depth n left right) t =
    (is_mark right_bracket t.kind, AfterExpr (with_part e (Bits n (range_of left right))) depth) ∷ []
ways (AfterExpr e depth) t = after_expr e depth t
ways (AfterConn i) t = after_conn i t
ways (AfterInst g) t =
    (is_mark comma t.kind, InstName g) ∷ (is_mark semicolon t.kind, InItems (with_insts g)) ∷ []

-- one step
abbrev pub step : State → Token → Option State
step s t = taken (ways s t)

-- where a state came, and what there is where none did
abbrev pub upon : {A : Type 0} → Option State → (State → A) → A → A
upon (Some s) f none = f s
upon None f none = none

-- what the end of the tokens gives, where the file has `len` bytes
abbrev pub at_end : ℕ → State → Result Tree ParseFault
at_end len (Top s) = Ok (record { modules = s.modules })
at_end len _ = Err (Unexpected len)

-- what the tokens give from a state on
abbrev pub read : ℕ → State → List Token → Result Tree ParseFault
read len s [] = at_end len s
read len s (t ∷ T) = upon (step s t) (λ n. read len n T) (Err (fault_at t))

-- where the tokens lead from a state
abbrev pub run : State → List Token → Option State
run s [] = Some s
run s (t ∷ T) = upon (step s t) (λ n. run n T) None

-- before all tokens
abbrev pub start : State
start = Top (record { modules = []; marked = false })
