-- Expressions, connections and instances.
use Rattle.std.proofs.Common.{◌≡◌, refl, sym, subst, ℕ, zero, suc, ◌+◌, ◌-◌, nat_lt, true, List, [], ◌∷◌, ◌++◌, Option, Some, None, append_assoc, append-nil, inl, inr, arith}
use Rattle.std.proofs.lemmas.Bool.{lt-ltb}
use Rattle.vlog_lex.specs.declared.token.Token.{Token}
use Rattle.vlog_lex.specs.declared.token.TokenKind.TheVariants.{Mark}
use Rattle.vlog_read.specs.declared.tree.Tree.{Tree}
use Rattle.vlog_read.specs.declared.tree.At.{At}
use Rattle.vlog_read.specs.declared.tree.TConn.{TConn}
use Rattle.vlog_read.specs.declared.tree.TInst.{TInst}
use Rattle.vlog_read.specs.declared.tree.Part.{Part}
use Rattle.vlog_read.specs.declared.tree.Part.TheVariants.{Name, Bit, Bits}
use Rattle.vlog_read.specs.Words.{right_parenthesis, comma, dot, colon, semicolon, left_bracket, right_bracket, left_brace, right_brace}
use Rattle.vlog_read.specs.Grammar.{One, part, Expr, alone, joined, no_more, one_more, maybe_expr, conn, lone_conn, first_at}
use Rattle.vlog_read.specs.inside.Machine.State.{InInsts, InInst, InConn, range_of, insts_of, with_conn, with_inst, with_insts, conn_of, empty_conn, expr_of, with_part, with_expr, InstName, FirstConn, NextConn, FirstExpr, NextExpr, AfterPartName, AfterSelect, AfterExpr, AfterConn, AfterInst}
use Rattle.vlog_read.specs.inside.Machine.Step.{is_mark, end_of_expr, some_conn, name_of, literal_of}
use Rattle.vlog_read.proofs.Spelled.Exprs.{not_empty, parts_of, with_parts, conns_of, with_conns, lone_is_conn}
use Rattle.vlog_read.proofs.Left.Ends.{Ends, ◌and◌, ends_items, ends_inst, at_inst, at_conns, ends_conn, at_conn, at_port_expr, ends_whole_expr, ends_expr, at_expr, ends_select, ends_part_name}
use Rattle.vlog_read.proofs.Left.Tokens.{Chosen, by_mark, by_mark_at, by_name, by_literal}
use Rattle.vlog_read.proofs.Left.Decls.{Follows}

-- no more connections, one more, and two more
whole_inst : (i : InInst) (tree : Tree) (T : List Token) → ends_inst (with_inst i) tree T
    → ends_inst (with_inst (with_conns i [])) tree T
whole_inst i tree T rest =
    let P : List TConn → Type 0 = λ cs. ends_inst (with_inst (conns_of i cs)) tree T in
    subst P (sym (append-nil i.conns)) rest

later_conn : (i : InInst) (c : TConn) (cs : List TConn) (tree : Tree) (T : List Token)
    → ends_inst (with_inst (with_conns (with_conn i c) cs)) tree T
    → ends_inst (with_inst (with_conns i (c ∷ cs))) tree T
later_conn i c cs tree T rest =
    let P : List TConn → Type 0 = λ ds. ends_inst (with_inst (conns_of i ds)) tree T in
    subst P (append_assoc i.conns (c ∷ []) cs) rest

-- the instance ends where a closing parenthesis stands
close_conns : (i : InInst) (tree : Tree) (t : Token) (U : List Token) → One (Mark right_parenthesis) (t ∷ U) U
    → ends_inst (with_inst i) tree U → ends_conn i tree (t ∷ U)
close_conns i tree t U close rest = ([], (t ∷ U, refl, (U, close, whole_inst i tree U rest)))

-- one more connection after a comma
next_conn : (i : InInst) (tree : Tree) (t : Token) (U : List Token) → One (Mark comma) (t ∷ U) U → at_conn i tree U
    → ends_conn i tree (t ∷ U)
next_conn i tree t U comma_is (c, (V, conn_is, (cs, (W, more, (X, close, rest))))) =
    (c ∷ cs, (W, (U, comma_is, (V, conn_is, more)), (X, close, later_conn i c cs tree X rest)))

pub back_after_conn : (i : InInst) (tree : Tree) (t : Token) (U : List Token) → Follows (AfterConn i) tree t U
    → ends_conn i tree (t ∷ U)
back_after_conn i tree t U (inl (a, rest)) = next_conn i tree t U (by_mark comma t U a) rest
back_after_conn i tree t U (inr (inl (a, rest))) = close_conns i tree t U (by_mark right_parenthesis t U a) rest
back_after_conn i tree t U (inr (inr none)) = absurd none

-- expressions
more_parts : (e : InConn) (depth : ℕ) (ps qs : List Part) (tree : Tree) (T : List Token)
    → ends_expr (with_parts (with_parts e ps) qs) depth tree T → ends_expr (with_parts e (ps ++ qs)) depth tree T
more_parts e depth ps qs tree T rest =
    let P : List Part → Type 0 = λ rs. ends_expr (parts_of e rs) depth tree T in
    subst P (append_assoc e.parts ps qs) rest

pub back_next_expr : (e : InConn) (depth : ℕ) (tree : Tree) (t : Token) (U : List Token)
    → Follows (NextExpr e depth) tree t U → at_expr e depth tree (t ∷ U)
back_next_expr e depth tree t U (inl (a, inl rest)) = (Name (name_of t) ∷ [], (U, alone (by_name t U a), rest))
back_next_expr e depth tree t U (inl (a, inr (V, left_is, (l, (W, l_is, inl (X, right_is, rest)))))) =
    (Bit (name_of t) l ∷ [], (X, alone (U, by_name t U a, (V, left_is, (W, l_is, right_is))), rest))
back_next_expr e depth tree t U (inl (a, inr (V, left_is, (l, (W, l_is, inr (X, colon_is, (r, (Y, r_is, close)))))))) =
    let (Z, right_is, rest) = close in
    let p : Part = Bits (name_of t) (range_of l r) in
    let part_is : part p (t ∷ U) Z = (U, by_name t U a, (V, left_is, (W, l_is, (X, colon_is, (Y, r_is, right_is))))) in
    (p ∷ [], (Z, alone part_is, rest))
back_next_expr e depth tree t U (inr (inl (a, rest))) = (literal_of t.kind ∷ [], (U, alone (by_literal t U a), rest))
back_next_expr e depth tree t U (inr (inr (inl (a, (ps, (V, expr_is, rest)))))) =
    let next : depth + 1 ≡ suc depth = omega arith in
    let P : ℕ → Type 0 = λ d. ends_expr (with_parts e ps) d tree V in
    let rest' : ends_expr (with_parts e ps) (suc depth) tree V = subst P next rest in
    let (qs, (W, more, (X, close, rest))) = rest' in
    (ps ++ qs, (X, joined (by_mark left_brace t U a) expr_is more close refl, more_parts e depth ps qs tree X rest))
back_next_expr e depth tree t U (inr (inr (inr none))) = absurd none

back_end_of_expr : (port : Option At) (e : InConn) (tree : Tree) (t : Token) (U : List Token)
    → Chosen (end_of_expr port e t) (λ n. Ends n tree U) → ends_whole_expr port e tree (t ∷ U)
back_end_of_expr None e tree t U h = back_after_conn (with_expr e) tree t U h
back_end_of_expr (Some port) e tree t U (inl (a, rest)) = (U, by_mark right_parenthesis t U a, rest)
back_end_of_expr (Some port) e tree t U (inr none) = absurd none

-- in braces
back_in_braces : (e : InConn) (depth : ℕ) (tree : Tree) (t : Token) (U : List Token)
    → Chosen ((is_mark comma t.kind, NextExpr e (suc depth)) ∷ (is_mark right_brace t.kind, AfterExpr e depth) ∷ [])
    (λ n. Ends n tree U)
    → ends_expr e (suc depth) tree (t ∷ U)
back_in_braces e depth tree t U (inl (a, (ps, (V, expr_is, (qs, (W, more, (X, close, rest))))))) =
    (ps ++ qs, (W, one_more (by_mark comma t U a) expr_is more refl, (X, close, more_parts e depth ps qs tree X rest)))
back_in_braces e depth tree t U (inr (inl (a, rest))) =
    let P : List Part → Type 0 = λ rs. ends_expr (parts_of e rs) depth tree U in
    ([], (t ∷ U, no_more, (U, by_mark right_brace t U a, subst P (sym (append-nil e.parts)) rest)))
back_in_braces e depth tree t U (inr (inr none)) = absurd none

pub back_after_expr : (e : InConn) (depth : ℕ) (tree : Tree) (t : Token) (U : List Token)
    → Follows (AfterExpr e depth) tree t U → ends_expr e depth tree (t ∷ U)
back_after_expr e zero tree t U h = back_end_of_expr e.port e tree t U h
back_after_expr e (suc depth) tree t U h =
    let opened : nat_lt 0 (suc depth) ≡ true = lt-ltb 0 (suc depth) (omega arith) in
    let closed : suc depth - 1 ≡ depth = omega arith in
    back_in_braces e depth tree t U (rw (opened, closed) at h)

pub back_after_part_name : (e : InConn) (depth : ℕ) (n : At) (tree : Tree) (t : Token) (U : List Token)
    → Follows (AfterPartName e depth n) tree t U → ends_part_name e depth n tree (t ∷ U)
back_after_part_name e depth n tree t U (inl (a, rest)) = inr (U, by_mark left_bracket t U a, rest)
back_after_part_name e depth n tree t U (inr h) = inl (back_after_expr (with_part e (Name n)) depth tree t U h)

pub back_after_select : (e : InConn) (depth : ℕ) (n : At) (left : ℕ) (tree : Tree) (t : Token) (U : List Token)
    → Follows (AfterSelect e depth n left) tree t U → ends_select e depth n left tree (t ∷ U)
back_after_select e depth n left tree t U (inl (a, rest)) = inl (U, by_mark right_bracket t U a, rest)
back_after_select e depth n left tree t U (inr (inl (a, rest))) = inr (U, by_mark colon t U a, rest)
back_after_select e depth n left tree t U (inr (inr none)) = absurd none

-- connections
maybe : {ps : List Part} {T U : List Token} → Expr ps T U → maybe_expr ps T U
maybe {ps = []} is = absurd (not_empty is refl)
maybe {ps = p ∷ ps} is = is

pub back_first_expr : (i : InInst) (at : ℕ) (port : At) (tree : Tree) (t : Token) (U : List Token)
    → Follows (FirstExpr i at port) tree t U → at_port_expr i at port tree (t ∷ U)
back_first_expr i at port tree t U (inl (a, rest)) = ([], (t ∷ U, refl, (U, by_mark right_parenthesis t U a, rest)))
back_first_expr i at port tree t U (inr h) =
    let (ps, (V, expr_is, rest)) = back_next_expr (expr_of i at (Some port) t.at []) 0 tree t U h in
    (ps, (V, maybe expr_is, rest))

-- a connection that isn't empty
back_some_conn : (i : InInst) (tree : Tree) (t : Token) (U : List Token)
    → Chosen (some_conn i t) (λ n. Ends n tree U)
    → (c : TConn) × (lone_conn c and ends_conn (with_conn i c) tree) (t ∷ U)
back_some_conn i tree t U (inl (a, (port, (V, port_is, (W, left_is, (ps, (X, expr_is, (Y, right_is, rest)))))))) = (
  conn_of t.at (Some port) (first_at W) ps,
  (Y, (U, by_mark_at dot t U a, (V, port_is, (W, left_is, (W, (refl, refl), (X, expr_is, right_is))))), rest),
)
back_some_conn i tree t U (inr h) =
    let (ps, (V, expr_is, rest)) = back_next_expr (expr_of i t.at None t.at []) 0 tree t U h in
    (conn_of t.at None t.at ps, (V, (refl, (t ∷ U, (refl, refl), expr_is)), rest))

-- it is the first of all connections
lone_conns : (i : InInst) (c : TConn) (tree : Tree) (T V : List Token) → lone_conn c T V
    → ends_conn (with_conn i c) tree V → at_conns i tree T
lone_conns i c tree T V is ([], (W, same, (X, close, rest))) =
    (c ∷ [], (W, subst (λ Y. lone_conn c T Y) same is, (X, close, later_conn i c [] tree X rest)))
lone_conns i c tree T V is (d ∷ ds, (W, more, (X, close, rest))) = (
  c ∷ d ∷ ds,
  (W, (V, lone_is_conn c.at c.port c.expr_at c.parts T V is, more), (X, close, later_conn i c (d ∷ ds) tree X rest)),
)

-- an empty connection takes no token
empty_is_conn : (t : Token) (U : List Token) → conn (empty_conn t.at) (t ∷ U) (t ∷ U)
empty_is_conn t U = (refl, (t ∷ U, (refl, refl), refl))

pub back_first_conn : (i : InInst) (tree : Tree) (t : Token) (U : List Token) → Follows (FirstConn i) tree t U
    → at_conns i tree (t ∷ U)
back_first_conn i tree t U (inl (a, rest)) =
    ([], (t ∷ U, refl, (U, by_mark right_parenthesis t U a, whole_inst i tree U rest)))
back_first_conn i tree t U (inr (inl (a, (c, (V, conn_is, (cs, (W, more, (X, close, rest)))))))) =
    let e = empty_conn t.at in (
      e ∷ c ∷ cs,
      (
        W,
        (t ∷ U, empty_is_conn t U, (U, by_mark comma t U a, (V, conn_is, more))),
        (X, close, later_conn i e (c ∷ cs) tree X (later_conn (with_conn i e) c cs tree X rest)),
      ),
    )
back_first_conn i tree t U (inr (inr h)) =
    let (c, (V, is, rest)) = back_some_conn i tree t U h in
    lone_conns i c tree (t ∷ U) V is rest

pub back_next_conn : (i : InInst) (tree : Tree) (t : Token) (U : List Token) → Follows (NextConn i) tree t U
    → at_conn i tree (t ∷ U)
back_next_conn i tree t U (inl (a, rest)) = (
  empty_conn t.at,
  (t ∷ U, empty_is_conn t U, next_conn (with_conn i (empty_conn t.at)) tree t U (by_mark comma t U a) rest),
)
back_next_conn i tree t U (inr (inl (a, rest))) = (
  empty_conn t.at,
  (
    t ∷ U,
    empty_is_conn t U,
    close_conns (with_conn i (empty_conn t.at)) tree t U (by_mark right_parenthesis t U a) rest,
  ),
)
back_next_conn i tree t U (inr (inr h)) =
    let (c, (V, is, rest)) = back_some_conn i tree t U h in
    (c, (V, lone_is_conn c.at c.port c.expr_at c.parts (t ∷ U) V is, rest))

-- instances
pub back_inst_name : (g : InInsts) (tree : Tree) (t : Token) (U : List Token) → Follows (InstName g) tree t U
    → at_inst g tree (t ∷ U)
back_inst_name g tree t U (inl (a, (V, left_is, (cs, (W, conns_are, (X, close, rest)))))) =
    (record { name = name_of t; conns = cs }, (X, (U, by_name t U a, (V, left_is, (W, conns_are, close))), rest))
back_inst_name g tree t U (inr none) = absurd none

pub back_after_inst : (g : InInsts) (tree : Tree) (t : Token) (U : List Token) → Follows (AfterInst g) tree t U
    → ends_inst g tree (t ∷ U)
back_after_inst g tree t U (inl (a, (i, (V, inst_is, (is, (W, more, (X, close, rest))))))) =
    let P : List TInst → Type 0 = λ ks. ends_items (with_insts (insts_of g.inside g.master ks)) tree X in
    let rest' : P (g.insts ++ i ∷ is) = subst P (append_assoc g.insts (i ∷ []) is) rest in
    (i ∷ is, (W, (U, by_mark comma t U a, (V, inst_is, more)), (X, close, rest')))
back_after_inst g tree t U (inr (inl (a, rest))) =
    let P : List TInst → Type 0 = λ ks. ends_items (with_insts (insts_of g.inside g.master ks)) tree U in
    ([], (t ∷ U, refl, (U, by_mark semicolon t U a, subst P (sym (append-nil g.insts)) rest)))
back_after_inst g tree t U (inr (inr none)) = absurd none
