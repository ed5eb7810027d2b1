-- Items, modules, and all states.
use Rattle.std.proofs.Common.{refl, sym, ◌∙◌, ap, subst, true, List, [], ◌∷◌, None, append_assoc, append-nil, inl, inr}
use Rattle.vlog_lex.specs.declared.token.Token.{Token}
use Rattle.vlog_lex.specs.declared.token.TokenKind.TheVariants.{Reserved}
use Rattle.vlog_read.specs.declared.tree.Tree.{Tree}
use Rattle.vlog_read.specs.declared.tree.TModule.{TModule}
use Rattle.vlog_read.specs.declared.tree.Item.{Item}
use Rattle.vlog_read.specs.declared.tree.Item.TheVariants.{Decl as Declaration, Insts}
use Rattle.vlog_read.specs.Words.{endmodule_word, module_word, wire_word, left_parenthesis, colon, semicolon, right_bracket}
use Rattle.vlog_read.specs.Grammar.{One, item, one_module, cell, end_cell, next_module}
use Rattle.vlog_read.specs.inside.Machine.State.{State, SoFar, InModule, ForItem, with_item, finished, Top, ModuleName, AfterModuleName, FirstHeader, HeaderName, AfterHeaderName, HeaderDecl, AfterPorts, AfterDir, AfterWire, RangeLeft, RangeColon, RangeRight, RangeClose, DeclName, AfterDeclName, InItems, InstName, AfterInstName, FirstConn, NextConn, PortName, AfterPortName, FirstExpr, NextExpr, AfterPartName, SelectLeft, AfterSelect, SelectRight, SelectClose, AfterExpr, AfterConn, AfterInst}
use Rattle.vlog_read.specs.inside.Machine.Step.{number_of, name_of, dir_of}
use Rattle.vlog_read.proofs.Spelled.Modules.{items_of}
use Rattle.vlog_read.proofs.Left.Ends.{Ends, ends_top, ends_items}
use Rattle.vlog_read.proofs.Left.Tokens.{by_mark, by_word, by_name, by_number, by_cell, by_end_cell, by_dir}
use Rattle.vlog_read.proofs.Left.Decls.{Follows, left_range, left_decl, back_decl_name, back_after_decl_name, back_after_wire, back_after_dir, back_header_decl, back_after_header_name, back_first_header, back_after_module_name}
use Rattle.vlog_read.proofs.Left.Exprs.{back_after_conn, back_next_expr, back_after_expr, back_after_part_name, back_after_select, back_first_expr, back_first_conn, back_next_conn, back_inst_name, back_after_inst}

-- one more item
next_item : (m : InModule) (i : Item) (tree : Tree) (T U : List Token) → item i T U
    → ends_items (with_item m i) tree U → ends_items m tree T
next_item m i tree T U is (js, (V, are, (W, close, rest))) =
    let P : List Item → Type 0 = λ ks. ends_top (finished (items_of m ks)) tree W in
    (i ∷ js, (V, (U, is, are), (W, close, subst P (append_assoc m.current.items (i ∷ []) js) rest)))

-- no more items
last_item : (m : InModule) (tree : Tree) (t : Token) (U : List Token) → One (Reserved endmodule_word) (t ∷ U) U
    → ends_top (finished m) tree U → ends_items m tree (t ∷ U)
last_item m tree t U close rest =
    let P : List Item → Type 0 = λ ks. ends_top (finished (items_of m ks)) tree U in
    ([], (t ∷ U, refl, (U, close, subst P (sym (append-nil m.current.items)) rest)))

back_items : (m : InModule) (tree : Tree) (t : Token) (U : List Token) → Follows (InItems m) tree t U
    → ends_items m tree (t ∷ U)
back_items m tree t U (inl (a, rest)) = last_item m tree t U (by_word endmodule_word t U a) rest
back_items m tree t U (inr (inl (a, rest))) =
    let (d, some, (V, decl_is, (W, close, rest'))) =
    left_decl (ForItem m) (dir_of t.kind) tree (t ∷ U) U (by_dir t U a) rest in
    next_item m (Declaration d) tree (t ∷ U) W (V, decl_is, close) rest'
back_items m tree t U (inr (inr (inl (a, rest)))) =
    let (r, ns, V, W, range_is, names_are, (X, close, rest')) = left_range (ForItem m) None true tree U rest in
    next_item m (Declaration (record { dir = None; wire = true; range = r; names = ns })) tree (t ∷ U) X
    (W, (U, by_word wire_word t U a, (V, range_is, names_are)), close) rest'
back_items m tree t U (inr (inr (inr (inl (a, (i, (V, inst_is, (is, (W, more, (X, close, rest)))))))))) =
    next_item m (Insts (name_of t) (i ∷ is)) tree (t ∷ U) X (U, by_name t U a, (W, (V, inst_is, more), close)) rest
back_items m tree t U (inr (inr (inr (inr none)))) = absurd none

back_top : (s : SoFar) (tree : Tree) (t : Token) (U : List Token) → Follows (Top s) tree t U
    → ends_top s tree (t ∷ U)
back_top s tree t U (inl (a, (ms, is, same))) = (ms, cell (by_cell t U a) is, same)
back_top s tree t U (inr (inl (a, (ms, is, same)))) = (ms, end_cell (by_end_cell t U a) is, same)
back_top s tree t U (inr (inr (inl (a, (n, (V, name_is, (h, (W, ports_are, (X, close, left))))))))) =
    let (is, (Y, items_are, (Z, end_is, (ms, rest, same)))) = left in
    let m : TModule = record { name = n; marked = s.marked; header = h; items = is } in
    let one : one_module m (t ∷ U) Z =
    (U, by_word module_word t U a, (V, name_is, (W, ports_are, (X, close, (Y, items_are, end_is))))) in
    (m ∷ ms, next_module refl one rest, same ∙ ap (λ ks. record { modules = ks }) (append_assoc s.modules (m ∷ []) ms))
back_top s tree t U (inr (inr (inr none))) = absurd none

-- the token t before the tokens U
pub back : (s : State) (tree : Tree) (t : Token) (U : List Token) → Follows s tree t U → Ends s tree (t ∷ U)
back (Top s) tree t U h = back_top s tree t U h
back (ModuleName s) tree t U (inl (a, rest)) = (name_of t, (U, by_name t U a, rest))
back (ModuleName s) tree t U (inr none) = absurd none
back (AfterModuleName s n) tree t U h = back_after_module_name s n tree t U h
back (FirstHeader s n) tree t U h = back_first_header s n tree t U h
back (HeaderName s n ns) tree t U (inl (a, rest)) = (name_of t, (U, by_name t U a, rest))
back (HeaderName s n ns) tree t U (inr none) = absurd none
back (AfterHeaderName s n ns) tree t U h = back_after_header_name s n ns tree t U h
back (HeaderDecl s n ds d) tree t U h = back_header_decl s n ds d tree t U h
back (AfterPorts m) tree t U (inl (a, rest)) = (U, by_mark semicolon t U a, rest)
back (AfterPorts m) tree t U (inr none) = absurd none
back (AfterDir for d) tree t U h = back_after_dir for d tree t U h
back (AfterWire for d) tree t U h = back_after_wire for d tree t U h
back (RangeLeft for d) tree t U (inl (a, rest)) = (number_of t.kind, t.at, (U, by_number t U a, rest))
back (RangeLeft for d) tree t U (inr none) = absurd none
back (RangeColon for d left at) tree t U (inl (a, rest)) = (U, by_mark colon t U a, rest)
back (RangeColon for d left at) tree t U (inr none) = absurd none
back (RangeRight for d left at) tree t U (inl (a, rest)) = (number_of t.kind, (U, (t.at, by_number t U a), rest))
back (RangeRight for d left at) tree t U (inr none) = absurd none
back (RangeClose for d) tree t U (inl (a, rest)) = (U, by_mark right_bracket t U a, rest)
back (RangeClose for d) tree t U (inr none) = absurd none
back (DeclName for d) tree t U h = back_decl_name for d tree t U h
back (AfterDeclName for d) tree t U h = back_after_decl_name for d tree t U h
back (InItems m) tree t U h = back_items m tree t U h
back (InstName g) tree t U h = back_inst_name g tree t U h
back (AfterInstName g n) tree t U (inl (a, rest)) = (U, by_mark left_parenthesis t U a, rest)
back (AfterInstName g n) tree t U (inr none) = absurd none
back (FirstConn i) tree t U h = back_first_conn i tree t U h
back (NextConn i) tree t U h = back_next_conn i tree t U h
back (PortName i at) tree t U (inl (a, rest)) = (name_of t, (U, by_name t U a, rest))
back (PortName i at) tree t U (inr none) = absurd none
back (AfterPortName i at port) tree t U (inl (a, rest)) = (U, by_mark left_parenthesis t U a, rest)
back (AfterPortName i at port) tree t U (inr none) = absurd none
back (FirstExpr i at port) tree t U h = back_first_expr i at port tree t U h
back (NextExpr e depth) tree t U h = back_next_expr e depth tree t U h
back (AfterPartName e depth n) tree t U h = back_after_part_name e depth n tree t U h
back (SelectLeft e depth n) tree t U (inl (a, rest)) = (number_of t.kind, (U, (t.at, by_number t U a), rest))
back (SelectLeft e depth n) tree t U (inr none) = absurd none
back (AfterSelect e depth n left) tree t U h = back_after_select e depth n left tree t U h
back (SelectRight e depth n left) tree t U (inl (a, rest)) = (number_of t.kind, (U, (t.at, by_number t U a), rest))
back (SelectRight e depth n left) tree t U (inr none) = absurd none
back (SelectClose e depth n left right) tree t U (inl (a, rest)) = (U, by_mark right_bracket t U a, rest)
back (SelectClose e depth n left right) tree t U (inr none) = absurd none
back (AfterExpr e depth) tree t U h = back_after_expr e depth tree t U h
back (AfterConn i) tree t U h = back_after_conn i tree t U h
back (AfterInst g) tree t U h = back_after_inst g tree t U h
