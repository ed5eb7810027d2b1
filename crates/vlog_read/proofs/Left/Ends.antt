-- The tokens that lead from each state to a tree, told by the grammar.
use Rattle.std.proofs.Common.{◌≡◌, ◌⊎◌, ℕ, zero, suc, Bool, List, [], ◌∷◌, ◌++◌, Option, Some, None}
use Rattle.emh_base.specs.declared.plain.Dir.{Dir}
use Rattle.vlog_lex.specs.declared.token.Token.{Token}
use Rattle.vlog_lex.specs.declared.token.TokenKind.TheVariants.{Reserved, Number, Mark}
use Rattle.vlog_read.specs.declared.tree.Tree.{Tree}
use Rattle.vlog_read.specs.declared.tree.TModule.{TModule}
use Rattle.vlog_read.specs.declared.tree.At.{At}
use Rattle.vlog_read.specs.declared.tree.Span.{Span}
use Rattle.vlog_read.specs.declared.tree.Header.{Header}
use Rattle.vlog_read.specs.declared.tree.Header.TheVariants.{Names, Decls}
use Rattle.vlog_read.specs.declared.tree.Decl.{Decl}
use Rattle.vlog_read.specs.declared.tree.Item.{Item}
use Rattle.vlog_read.specs.declared.tree.Item.TheVariants.{Decl as Declaration}
use Rattle.vlog_read.specs.declared.tree.TInst.{TInst}
use Rattle.vlog_read.specs.declared.tree.TConn.{TConn}
use Rattle.vlog_read.specs.declared.tree.Part.{Part}
use Rattle.vlog_read.specs.declared.tree.Part.TheVariants.{Name, Bit, Bits}
use Rattle.vlog_read.specs.Words.{endmodule_word, left_parenthesis, right_parenthesis, colon, semicolon, left_bracket, right_bracket, right_brace}
use Rattle.vlog_read.specs.Grammar.{Reading, One, OneAt, name, more_names, range, direction, maybe_wire, Expr, MoreExprs, maybe_expr, conn, more_conns, conns, inst, more_insts, items, more_port_decls, header, ports, Source, first_at}
use Rattle.vlog_read.specs.inside.Machine.State.{State, SoFar, InModule, DeclFor, InInsts, InInst, InConn, ForHeader, ForItem, module_of, with_item, finished, decl_of, with_range, with_name, range_of, span_of, inst_of, with_conn, with_inst, with_insts, expr_of, with_part, with_expr, Top, ModuleName, AfterModuleName, FirstHeader, HeaderName, AfterHeaderName, HeaderDecl, AfterPorts, AfterDir, AfterWire, RangeLeft, RangeColon, RangeRight, RangeClose, DeclName, AfterDeclName, InItems, InstName, AfterInstName, FirstConn, NextConn, PortName, AfterPortName, FirstExpr, NextExpr, AfterPartName, SelectLeft, AfterSelect, SelectRight, SelectClose, AfterExpr, AfterConn, AfterInst}
use Rattle.vlog_read.proofs.Spelled.Decls.{with_names}
use Rattle.vlog_read.proofs.Spelled.Exprs.{with_parts, with_conns, more_insts_of}
use Rattle.vlog_read.proofs.Spelled.Modules.{with_items}

-- all that is left
abbrev pub Rest : Type 1
Rest = List Token → Type 0

infixr 5 ◌and◌
-- a part of the grammar, and what is left after it
abbrev pub ◌and◌ : Reading → Rest → Rest
(R and E) T = (U : List Token) × R T U × E U

-- modules
abbrev pub ends_top : SoFar → Tree → Rest
ends_top s tree T = (ms : List TModule) × Source s.marked ms T × (tree ≡ record { modules = s.modules ++ ms })

abbrev pub ends_items : InModule → Tree → Rest
ends_items m tree T =
    (is : List Item) × (items is and One (Reserved endmodule_word) and ends_top (finished (with_items m is)) tree) T

abbrev pub ends_ports : InModule → Tree → Rest
ends_ports m tree = One (Mark semicolon) and ends_items m tree

abbrev pub ends_module_name : SoFar → At → Tree → Rest
ends_module_name s n tree T = (h : Header) × (ports h and ends_ports (module_of s n h) tree) T

-- headers
abbrev pub ends_header : SoFar → At → Header → Tree → Rest
ends_header s n h tree = One (Mark right_parenthesis) and ends_ports (module_of s n h) tree

abbrev pub ends_header_name : SoFar → At → List At → Tree → Rest
ends_header_name s n ns tree T = (ms : List At) × (more_names ms and ends_header s n (Names (ns ++ ms)) tree) T

-- declarations
abbrev pub ends_decl : DeclFor → Decl → Tree → Rest
ends_decl (ForHeader s n ds) d tree T =
    (es : List Decl) × (more_port_decls es and ends_header s n (Decls (ds ++ d ∷ es)) tree) T
ends_decl (ForItem m) d tree T = (One (Mark semicolon) and ends_items (with_item m (Declaration d)) tree) T

abbrev pub ends_decl_name : DeclFor → Decl → Tree → Rest
ends_decl_name for d tree T = (ns : List At) × (more_names ns and ends_decl for (with_names d ns) tree) T

abbrev pub at_decl_name : DeclFor → Decl → Tree → Rest
at_decl_name for d tree T = (n : At) × (name n and ends_decl_name for (with_name d n) tree) T

abbrev pub at_range_close : DeclFor → Decl → Tree → Rest
at_range_close for d tree = One (Mark right_bracket) and at_decl_name for d tree

abbrev pub at_range_right : DeclFor → Decl → ℕ → ℕ → Tree → Rest
at_range_right for d left at tree T =
    (right : ℕ) × (One (Number right) and at_range_close for (with_range d (span_of left right at)) tree) T

abbrev pub at_range_colon : DeclFor → Decl → ℕ → ℕ → Tree → Rest
at_range_colon for d left at tree = One (Mark colon) and at_range_right for d left at tree

abbrev pub at_range_left : DeclFor → Decl → Tree → Rest
at_range_left for d tree T =
    (left : ℕ) × (at : ℕ) × (OneAt at (Number left) and at_range_colon for d left at tree) T

abbrev pub ends_wire : DeclFor → Decl → Tree → Rest
ends_wire for d tree T =
    at_decl_name for d tree T ⊎ ((s : Span) × (range s and at_decl_name for (with_range d s) tree) T)

abbrev pub ends_dir : DeclFor → Dir → Tree → Rest
ends_dir for d tree T = (w : Bool) × (maybe_wire w and ends_wire for (decl_of (Some d) w None []) tree) T

abbrev pub at_header_decl : SoFar → At → List Decl → Decl → Tree → Rest
at_header_decl s n ds d tree T =
    at_decl_name (ForHeader s n ds) d tree T
    ⊎ ((e : Dir) × (direction e and ends_dir (ForHeader s n (ds ++ d ∷ [])) e tree) T)

-- instances
abbrev pub ends_inst : InInsts → Tree → Rest
ends_inst g tree T =
    (is : List TInst) × (more_insts is and One (Mark semicolon) and ends_items (with_insts (more_insts_of g is)) tree) T

abbrev pub at_inst : InInsts → Tree → Rest
at_inst g tree T = (i : TInst) × (inst i and ends_inst (more_insts_of g (i ∷ [])) tree) T

-- connections
abbrev pub at_conns : InInst → Tree → Rest
at_conns i tree T =
    (cs : List TConn)
    × (conns cs and One (Mark right_parenthesis) and ends_inst (with_inst (with_conns i cs)) tree) T

abbrev pub ends_conn : InInst → Tree → Rest
ends_conn i tree T =
    (cs : List TConn)
    × (more_conns cs and One (Mark right_parenthesis) and ends_inst (with_inst (with_conns i cs)) tree) T

abbrev pub at_conn : InInst → Tree → Rest
at_conn i tree T = (c : TConn) × (conn c and ends_conn (with_conn i c) tree) T

abbrev pub at_port_expr : InInst → ℕ → At → Tree → Rest
at_port_expr i at port tree T =
    (ps : List Part)
    × (maybe_expr ps and One (Mark right_parenthesis)
    and ends_conn (with_expr (expr_of i at (Some port) (first_at T) ps)) tree) T

abbrev pub ends_port : InInst → ℕ → At → Tree → Rest
ends_port i at port tree = One (Mark left_parenthesis) and at_port_expr i at port tree

abbrev pub at_port : InInst → ℕ → Tree → Rest
at_port i at tree T = (port : At) × (name port and ends_port i at port tree) T

-- expressions
abbrev pub ends_whole_expr : Option At → InConn → Tree → Rest
ends_whole_expr None e tree T = ends_conn (with_expr e) tree T
ends_whole_expr (Some port) e tree T = (One (Mark right_parenthesis) and ends_conn (with_expr e) tree) T

abbrev pub ends_expr : InConn → ℕ → Tree → Rest
ends_expr e zero tree T = ends_whole_expr e.port e tree T
ends_expr e (suc depth) tree T =
    (ps : List Part) × (MoreExprs ps and One (Mark right_brace) and ends_expr (with_parts e ps) depth tree) T

abbrev pub at_expr : InConn → ℕ → Tree → Rest
at_expr e depth tree T = (ps : List Part) × (Expr ps and ends_expr (with_parts e ps) depth tree) T

abbrev pub at_select_close : InConn → ℕ → At → ℕ → ℕ → Tree → Rest
at_select_close e depth n left right tree =
    One (Mark right_bracket) and ends_expr (with_part e (Bits n (range_of left right))) depth tree

abbrev pub at_select_right : InConn → ℕ → At → ℕ → Tree → Rest
at_select_right e depth n left tree T =
    (right : ℕ) × (One (Number right) and at_select_close e depth n left right tree) T

abbrev pub ends_select : InConn → ℕ → At → ℕ → Tree → Rest
ends_select e depth n left tree T =
    (One (Mark right_bracket) and ends_expr (with_part e (Bit n left)) depth tree) T
    ⊎ (One (Mark colon) and at_select_right e depth n left tree) T

abbrev pub at_select_left : InConn → ℕ → At → Tree → Rest
at_select_left e depth n tree T = (left : ℕ) × (One (Number left) and ends_select e depth n left tree) T

abbrev pub ends_part_name : InConn → ℕ → At → Tree → Rest
ends_part_name e depth n tree T =
    ends_expr (with_part e (Name n)) depth tree T ⊎ (One (Mark left_bracket) and at_select_left e depth n tree) T

-- from this state the tokens lead to the tree
abbrev pub Ends : State → Tree → Rest
Ends (Top s) tree T = ends_top s tree T
Ends (ModuleName s) tree T = (n : At) × (name n and ends_module_name s n tree) T
Ends (AfterModuleName s n) tree T = ends_module_name s n tree T
Ends (FirstHeader s n) tree T = (h : Header) × (header h and ends_header s n h tree) T
Ends (HeaderName s n ns) tree T = (m : At) × (name m and ends_header_name s n (ns ++ m ∷ []) tree) T
Ends (AfterHeaderName s n ns) tree T = ends_header_name s n ns tree T
Ends (HeaderDecl s n ds d) tree T = at_header_decl s n ds d tree T
Ends (AfterPorts m) tree T = ends_ports m tree T
Ends (AfterDir for d) tree T = ends_dir for d tree T
Ends (AfterWire for d) tree T = ends_wire for d tree T
Ends (RangeLeft for d) tree T = at_range_left for d tree T
Ends (RangeColon for d left at) tree T = at_range_colon for d left at tree T
Ends (RangeRight for d left at) tree T = at_range_right for d left at tree T
Ends (RangeClose for d) tree T = at_range_close for d tree T
Ends (DeclName for d) tree T = at_decl_name for d tree T
Ends (AfterDeclName for d) tree T = ends_decl_name for d tree T
Ends (InItems m) tree T = ends_items m tree T
Ends (InstName g) tree T = at_inst g tree T
Ends (AfterInstName g n) tree T = (One (Mark left_parenthesis) and at_conns (inst_of g n []) tree) T
Ends (FirstConn i) tree T = at_conns i tree T
Ends (NextConn i) tree T = at_conn i tree T
Ends (PortName i at) tree T = at_port i at tree T
Ends (AfterPortName i at port) tree T = ends_port i at port tree T
Ends (FirstExpr i at port) tree T = at_port_expr i at port tree T
Ends (NextExpr e depth) tree T = at_expr e depth tree T
Ends (AfterPartName e depth n) tree T = ends_part_name e depth n tree T
Ends (SelectLeft e depth n) tree T = at_select_left e depth n tree T
Ends (AfterSelect e depth n left) tree T = ends_select e depth n left tree T
Ends (SelectRight e depth n left) tree T = at_select_right e depth n left tree T
Ends (SelectClose e depth n left right) tree T = at_select_close e depth n left right tree T
Ends (AfterExpr e depth) tree T = ends_expr e depth tree T
Ends (AfterConn i) tree T = ends_conn i tree T
Ends (AfterInst g) tree T = ends_inst g tree T
