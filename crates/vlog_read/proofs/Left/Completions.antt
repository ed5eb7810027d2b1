-- From each state some tokens lead to a tree: the next token that closes something, and then the same again.
use Rattle.std.proofs.Common.{◌≡◌, refl, ℕ, zero, suc, ◌-◌, nat_lt, true, false, List, [], ◌∷◌, ◌++◌, Option, Some, None, arith}
use Rattle.std.proofs.lemmas.Bool.{lt-ltb}
use Rattle.vlog_lex.specs.declared.token.Token.{Token}
use Rattle.vlog_lex.specs.declared.token.TokenKind.{TokenKind}
use Rattle.vlog_lex.specs.declared.token.TokenKind.TheVariants.{Ident, Reserved, Number, Literal, Mark}
use Rattle.vlog_read.specs.declared.tree.Tree.{Tree}
use Rattle.vlog_read.specs.declared.tree.At.{At}
use Rattle.vlog_read.specs.declared.tree.Header.TheVariants.{Names, Decls}
use Rattle.vlog_read.specs.declared.tree.Decl.{Decl}
use Rattle.vlog_read.specs.declared.tree.Item.TheVariants.{Decl as Declaration}
use Rattle.vlog_read.specs.declared.tree.Part.{Part}
use Rattle.vlog_read.specs.declared.tree.Part.TheVariants.{Bit, Bits, Lit}
use Rattle.vlog_read.specs.Words.{endmodule_word, left_parenthesis, right_parenthesis, colon, semicolon, left_bracket, right_bracket, right_brace}
use Rattle.vlog_read.specs.Grammar.{the_end}
use Rattle.vlog_read.specs.inside.Machine.State.{State, SoFar, InModule, DeclFor, InInsts, InInst, InConn, ForHeader, ForItem, module_of, with_item, finished, decl_of, with_range, with_name, range_of, span_of, inst_of, with_conn, with_inst, with_insts, empty_conn, expr_of, with_part, with_expr, Top, ModuleName, AfterModuleName, FirstHeader, HeaderName, AfterHeaderName, HeaderDecl, AfterPorts, AfterDir, AfterWire, RangeLeft, RangeColon, RangeRight, RangeClose, DeclName, AfterDeclName, InItems, InstName, AfterInstName, FirstConn, NextConn, PortName, AfterPortName, FirstExpr, NextExpr, AfterPartName, SelectLeft, AfterSelect, SelectRight, SelectClose, AfterExpr, AfterConn, AfterInst}
use Rattle.vlog_read.specs.inside.Machine.Step.{ways, step}
use Rattle.vlog_read.proofs.Left.Ends.{Ends}
use Rattle.vlog_read.proofs.Left.Tokens.{chosen}
use Rattle.vlog_read.proofs.Left.Modules.{back}

-- some tokens lead to some tree
abbrev pub Can : State → Type 0
Can s = (U : List Token) × (tree : Tree) × Ends s tree U

-- they do where a token leads to a state from which some do
via : (s n : State) (kind : TokenKind) → step s (record { kind = kind; at = 0; end = 0 }) ≡ Some n → Can n → Can s
via s n kind is (U, tree, rest) =
    let t : Token = record { kind = kind; at = 0; end = 0 } in
    (t ∷ U, tree, back s tree t U (chosen (λ m. Ends m tree U) n (ways s t) is rest))

-- a name
abbrev some_name : At
some_name = record { name = 97 ∷ []; at = 0 }

abbrev ident : TokenKind
ident = Ident (97 ∷ [])

can_top : (s : SoFar) → Can (Top s)
can_top s = ([], record { modules = s.modules ++ [] }, ([], the_end, refl))

can_items : (m : InModule) → Can (InItems m)
can_items m = via (InItems m) (Top (finished m)) (Reserved endmodule_word) refl (can_top (finished m))

can_ports : (m : InModule) → Can (AfterPorts m)
can_ports m = via (AfterPorts m) (InItems m) (Mark semicolon) refl (can_items m)

can_module : (s : SoFar) (n : At) → Can (AfterModuleName s n)
can_module s n =
    via (AfterModuleName s n) (InItems (module_of s n (Names []))) (Mark semicolon) refl
    (can_items (module_of s n (Names [])))

can_header : (s : SoFar) (n : At) → Can (FirstHeader s n)
can_header s n =
    via (FirstHeader s n) (AfterPorts (module_of s n (Names []))) (Mark right_parenthesis) refl
    (can_ports (module_of s n (Names [])))

can_header_names : (s : SoFar) (n : At) (ns : List At) → Can (AfterHeaderName s n ns)
can_header_names s n ns =
    via (AfterHeaderName s n ns) (AfterPorts (module_of s n (Names ns))) (Mark right_parenthesis) refl
    (can_ports (module_of s n (Names ns)))

can_decl : (for : DeclFor) (d : Decl) → Can (AfterDeclName for d)
can_decl (ForHeader s n ds) d =
    let m : InModule = module_of s n (Decls (ds ++ d ∷ [])) in
    via (AfterDeclName (ForHeader s n ds) d) (AfterPorts m) (Mark right_parenthesis) refl (can_ports m)
can_decl (ForItem m) d =
    via (AfterDeclName (ForItem m) d) (InItems (with_item m (Declaration d))) (Mark semicolon) refl
    (can_items (with_item m (Declaration d)))

can_decl_name : (for : DeclFor) (d : Decl) → Can (DeclName for d)
can_decl_name for d =
    via (DeclName for d) (AfterDeclName for (with_name d some_name)) ident refl (can_decl for (with_name d some_name))

can_range_close : (for : DeclFor) (d : Decl) → Can (RangeClose for d)
can_range_close for d = via (RangeClose for d) (DeclName for d) (Mark right_bracket) refl (can_decl_name for d)

can_range_right : (for : DeclFor) (d : Decl) (left at : ℕ) → Can (RangeRight for d left at)
can_range_right for d left at =
    let e : Decl = with_range d (span_of left 0 at) in
    via (RangeRight for d left at) (RangeClose for e) (Number 0) refl (can_range_close for e)

can_range_colon : (for : DeclFor) (d : Decl) (left at : ℕ) → Can (RangeColon for d left at)
can_range_colon for d left at =
    via (RangeColon for d left at) (RangeRight for d left at) (Mark colon) refl (can_range_right for d left at)

can_insts : (g : InInsts) → Can (AfterInst g)
can_insts g = via (AfterInst g) (InItems (with_insts g)) (Mark semicolon) refl (can_items (with_insts g))

can_conns : (i : InInst) → Can (AfterConn i)
can_conns i = via (AfterConn i) (AfterInst (with_inst i)) (Mark right_parenthesis) refl (can_insts (with_inst i))

can_first_conn : (i : InInst) → Can (FirstConn i)
can_first_conn i = via (FirstConn i) (AfterInst (with_inst i)) (Mark right_parenthesis) refl (can_insts (with_inst i))

can_next_conn : (i : InInst) → Can (NextConn i)
can_next_conn i =
    let j : InInst = with_conn i (empty_conn 0) in
    via (NextConn i) (AfterInst (with_inst j)) (Mark right_parenthesis) refl (can_insts (with_inst j))

can_inst_name : (g : InInsts) (n : At) → Can (AfterInstName g n)
can_inst_name g n =
    via (AfterInstName g n) (FirstConn (inst_of g n [])) (Mark left_parenthesis) refl (can_first_conn (inst_of g n []))

can_port_expr : (i : InInst) (at : ℕ) (port : At) → Can (FirstExpr i at port)
can_port_expr i at port =
    let e : InConn = expr_of i at (Some port) 0 [] in
    via (FirstExpr i at port) (AfterConn (with_expr e)) (Mark right_parenthesis) refl (can_conns (with_expr e))

can_port : (i : InInst) (at : ℕ) (port : At) → Can (AfterPortName i at port)
can_port i at port =
    via (AfterPortName i at port) (FirstExpr i at port) (Mark left_parenthesis) refl (can_port_expr i at port)

can_whole_expr : (i : InInst) (at : ℕ) (port : Option At) (expr_at : ℕ) (ps : List Part)
    → Can (AfterExpr (expr_of i at port expr_at ps) 0)
can_whole_expr i at None expr_at ps =
    let j : InInst = with_expr (expr_of i at None expr_at ps) in
    via (AfterExpr (expr_of i at None expr_at ps) 0) (AfterInst (with_inst j)) (Mark right_parenthesis) refl
    (can_insts (with_inst j))
can_whole_expr i at (Some port) expr_at ps =
    let j : InInst = with_expr (expr_of i at (Some port) expr_at ps) in
    via (AfterExpr (expr_of i at (Some port) expr_at ps) 0) (AfterConn j) (Mark right_parenthesis) refl (can_conns j)

can_expr : (e : InConn) (depth : ℕ) → Can (AfterExpr e depth)
can_expr e zero = can_whole_expr e.inside e.at e.port e.expr_at e.parts
can_expr e (suc depth) =
    let opened : nat_lt 0 (suc depth) ≡ true = lt-ltb 0 (suc depth) (omega arith) in
    let closed : suc depth - 1 ≡ depth = omega arith in
    via (AfterExpr e (suc depth)) (AfterExpr e depth) (Mark right_brace) (rw (opened, closed) refl) (can_expr e depth)

can_select_close : (e : InConn) (depth : ℕ) (n : At) (left right : ℕ) → Can (SelectClose e depth n left right)
can_select_close e depth n left right =
    let f : InConn = with_part e (Bits n (range_of left right)) in
    via (SelectClose e depth n left right) (AfterExpr f depth) (Mark right_bracket) refl (can_expr f depth)

can_select : (e : InConn) (depth : ℕ) (n : At) (left : ℕ) → Can (AfterSelect e depth n left)
can_select e depth n left =
    let f : InConn = with_part e (Bit n left) in
    via (AfterSelect e depth n left) (AfterExpr f depth) (Mark right_bracket) refl (can_expr f depth)

can_select_left : (e : InConn) (depth : ℕ) (n : At) → Can (SelectLeft e depth n)
can_select_left e depth n =
    via (SelectLeft e depth n) (AfterSelect e depth n 0) (Number 0) refl (can_select e depth n 0)

pub can : (s : State) → Can s
can (Top s) = can_top s
can (ModuleName s) = via (ModuleName s) (AfterModuleName s some_name) ident refl (can_module s some_name)
can (AfterModuleName s n) = can_module s n
can (FirstHeader s n) = can_header s n
can (HeaderName s n ns) =
    via (HeaderName s n ns) (AfterHeaderName s n (ns ++ some_name ∷ [])) ident refl
    (can_header_names s n (ns ++ some_name ∷ []))
can (AfterHeaderName s n ns) = can_header_names s n ns
can (HeaderDecl s n ds d) =
    via (HeaderDecl s n ds d) (AfterDeclName (ForHeader s n ds) (with_name d some_name)) ident refl
    (can_decl (ForHeader s n ds) (with_name d some_name))
can (AfterPorts m) = can_ports m
can (AfterDir for d) =
    let e : Decl = decl_of (Some d) false None (some_name ∷ []) in
    via (AfterDir for d) (AfterDeclName for e) ident refl (can_decl for e)
can (AfterWire for d) =
    via (AfterWire for d) (AfterDeclName for (with_name d some_name)) ident refl (can_decl for (with_name d some_name))
can (RangeLeft for d) = via (RangeLeft for d) (RangeColon for d 0 0) (Number 0) refl (can_range_colon for d 0 0)
can (RangeColon for d left at) = can_range_colon for d left at
can (RangeRight for d left at) = can_range_right for d left at
can (RangeClose for d) = can_range_close for d
can (DeclName for d) = can_decl_name for d
can (AfterDeclName for d) = can_decl for d
can (InItems m) = can_items m
can (InstName g) = via (InstName g) (AfterInstName g some_name) ident refl (can_inst_name g some_name)
can (AfterInstName g n) = can_inst_name g n
can (FirstConn i) = can_first_conn i
can (NextConn i) = can_next_conn i
can (PortName i at) = via (PortName i at) (AfterPortName i at some_name) ident refl (can_port i at some_name)
can (AfterPortName i at port) = can_port i at port
can (FirstExpr i at port) = can_port_expr i at port
can (NextExpr e depth) =
    via (NextExpr e depth) (AfterExpr (with_part e (Lit 0 0)) depth) (Literal 0 0) refl
    (can_expr (with_part e (Lit 0 0)) depth)
can (AfterPartName e depth n) =
    via (AfterPartName e depth n) (SelectLeft e depth n) (Mark left_bracket) refl (can_select_left e depth n)
can (SelectLeft e depth n) = can_select_left e depth n
can (AfterSelect e depth n left) = can_select e depth n left
can (SelectRight e depth n left) =
    via (SelectRight e depth n left) (SelectClose e depth n left 0) (Number 0) refl (can_select_close e depth n left 0)
can (SelectClose e depth n left right) = can_select_close e depth n left right
can (AfterExpr e depth) = can_expr e depth
can (AfterConn i) = can_conns i
can (AfterInst g) = can_insts g
