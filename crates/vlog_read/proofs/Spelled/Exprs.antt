-- Expressions, connections and instances.
use Rattle.std.proofs.Common.{◌≡◌, refl, sym, ◌∙◌, ap, ℕ, ◌+◌, ◌-◌, nat_lt, Bool, true, false, List, [], ◌∷◌, ◌++◌, Option, Some, None, append_assoc, append-nil, arith}
use Rattle.std.proofs.lemmas.Bool.{lt-ltb}
use Rattle.vlog_lex.specs.declared.token.Token.{Token}
use Rattle.vlog_lex.specs.declared.token.TokenKind.{TokenKind}
use Rattle.vlog_lex.specs.declared.token.TokenKind.TheVariants.{Ident, Reserved, Cell, EndCell, Number, Literal, Mark}
use Rattle.vlog_read.specs.declared.tree.At.{At}
use Rattle.vlog_read.specs.declared.tree.TConn.{TConn}
use Rattle.vlog_read.specs.declared.tree.TInst.{TInst}
use Rattle.vlog_read.specs.declared.tree.Item.TheVariants.{Insts}
use Rattle.vlog_read.specs.declared.tree.Part.{Part}
use Rattle.vlog_read.specs.declared.tree.Part.TheVariants.{Name, Bit, Bits, Lit}
use Rattle.vlog_read.specs.Words.{comma, dot, right_parenthesis, semicolon, left_bracket, left_brace, right_brace}
use Rattle.vlog_read.specs.Grammar.{One, name, part, Expr, MoreExprs, alone, joined, no_more, one_more, by_order, by_name, conn, lone_conn, more_conns, conns, inst, more_insts, insts, first_at}
use Rattle.vlog_read.specs.inside.Machine.State as state
use Rattle.vlog_read.specs.inside.Machine.State.{InModule, InInsts, InInst, InConn, with_item, insts_of, inst_of, with_conn, with_inst, with_insts, empty_conn, expr_of, with_part, with_expr, InItems, InstName, AfterInstName, FirstConn, NextConn, PortName, AfterPortName, FirstExpr, NextExpr, AfterPartName, AfterExpr, AfterConn, AfterInst}
use Rattle.vlog_read.specs.inside.Machine.Step.{is_mark, ends_conn, read}
use Rattle.vlog_read.specs.inside.Machine.Reads.{IsNext}
use Rattle.vlog_read.proofs.Passing.{some_conn, no_conn, conn_by_order, end_by_order, some_expr, no_select}

-- an expression with these parts, and with more parts
abbrev pub parts_of : InConn → List Part → InConn
parts_of e ps = expr_of e.inside e.at e.port e.expr_at ps

abbrev pub with_parts : InConn → List Part → InConn
with_parts e ps = parts_of e (e.parts ++ ps)

-- the first token is of this kind
is_next : (test : TokenKind → Bool) (kind : TokenKind) (T U : List Token) → One kind T U → IsNext test T ≡ test kind
is_next test kind T U (_, (_, e)) = rw e refl

part_read : (len : ℕ) (e : InConn) (depth : ℕ) (p : Part) (T U : List Token) → part p T U
    → IsNext (is_mark left_bracket) U ≡ false
    → read len (NextExpr e depth) T ≡ read len (AfterExpr (with_part e p) depth) U
part_read len e depth (Name n) T U (_, a) h = rw a (no_select len e depth n U h)
part_read len e depth (Bit n i) T U (V, (_, a), (W, (_, (_, b)), (X, (_, (_, c)), (_, (_, d))))) h =
    rw (a, b, c, d) refl
part_read len e depth (Bits n r) T U (V, (_, a), (W, (_, (_, b)), (X, (_, (_, c)), (Y, (_, (_, d)), rest)))) h =
    let (Z, (_, (_, f)), (_, (_, g))) = rest in
    rw (a, b, c, d, f, g) refl
part_read len e depth (Lit size value) T U (_, (_, a)) h = rw a refl

-- a brace that closes
close_read : (len : ℕ) (e : InConn) (depth : ℕ) (T U : List Token) → One (Mark right_brace) T U
    → read len (AfterExpr e (depth + 1)) T ≡ read len (AfterExpr e depth) U
close_read len e depth T U (_, (_, a)) =
    let opened : nat_lt 0 (depth + 1) ≡ true = lt-ltb 0 (depth + 1) (omega arith) in
    let closed : depth + 1 - 1 ≡ depth = omega arith in
    rw (a, opened, closed) refl

comma_read : (len : ℕ) (e : InConn) (depth : ℕ) (T U : List Token) → One (Mark comma) T U
    → read len (AfterExpr e (depth + 1)) T ≡ read len (NextExpr e (depth + 1)) U
comma_read len e depth T U (_, (_, a)) =
    let opened : nat_lt 0 (depth + 1) ≡ true = lt-ltb 0 (depth + 1) (omega arith) in
    rw (a, opened) refl

-- what follows in braces begins with a comma or a closing brace
after_more : {qs : List Part} {T U V : List Token} → MoreExprs qs T U → One (Mark right_brace) U V
    → IsNext (is_mark left_bracket) T ≡ false
after_more no_more close = is_next (is_mark left_bracket) (Mark right_brace) _ _ close
after_more (one_more a first rest same) close = is_next (is_mark left_bracket) (Mark comma) _ _ a

mutual
  expr_read : (len : ℕ) (e : InConn) (depth : ℕ) {ps : List Part} {T U : List Token} → Expr ps T U
      → IsNext (is_mark left_bracket) U ≡ false
      → read len (NextExpr e depth) T ≡ read len (AfterExpr (with_parts e ps) depth) U
  expr_read len e depth (alone is) h = part_read len e depth _ _ _ is h
  expr_read len e depth {U = U} (joined {ps = ps} {qs = qs} {W = W} {X = X} (_, (_, a)) first rest close same) h =
      rw (a, same) (expr_read len e (depth + 1) first (after_more rest close)
      ∙ more_exprs_read len (with_parts e ps) depth rest close
      ∙ ap (λ rs. read len (AfterExpr (parts_of e rs) (depth + 1)) X) (append_assoc e.parts ps qs)
      ∙ close_read len (with_parts e (ps ++ qs)) depth X U close)

  more_exprs_read : (len : ℕ) (e : InConn) (depth : ℕ) {ps : List Part} {T U V : List Token} → MoreExprs ps T U
      → One (Mark right_brace) U V
      → read len (AfterExpr e (depth + 1)) T ≡ read len (AfterExpr (with_parts e ps) (depth + 1)) U
  more_exprs_read len e depth {U = U} no_more close =
      ap (λ rs. read len (AfterExpr (parts_of e rs) (depth + 1)) U) (sym (append-nil e.parts))
  more_exprs_read len e depth {T = T} {U = U} (one_more {ps = ps} {qs = qs} {V = V} {W = W} a first rest same) close =
      rw same (comma_read len e depth T V a
      ∙ expr_read len e (depth + 1) first (after_more rest close)
      ∙ more_exprs_read len (with_parts e ps) depth rest close
      ∙ ap (λ rs. read len (AfterExpr (parts_of e rs) (depth + 1)) U) (append_assoc e.parts ps qs))

-- an expression has a part
front_empty : (ps qs : List Part) → ps ++ qs ≡ [] → ps ≡ []
front_empty [] qs e = refl
front_empty (p ∷ ps) qs e = cc

pub not_empty : {ps : List Part} {T U : List Token} → Expr ps T U → ps ≡ [] → ⊥
not_empty (alone is) e = cc
not_empty (joined {ps = ps} {qs = qs} a first rest close same) e = not_empty first (front_empty ps qs (sym same ∙ e))

-- an expression begins with a name, a literal or a brace
part_begins : (test : TokenKind → Bool) → ((text : List ℕ) → test (Ident text) ≡ false)
    → ((size value : ℕ) → test (Literal size value) ≡ false) → (p : Part) (T U : List Token) → part p T U
    → IsNext test T ≡ false
part_begins test ident literal (Name n) T U (_, a) = rw a (ident n.name)
part_begins test ident literal (Bit n i) T U (V, (_, a), rest) = rw a (ident n.name)
part_begins test ident literal (Bits n r) T U (V, (_, a), rest) = rw a (ident n.name)
part_begins test ident literal (Lit size value) T U (_, (_, a)) = rw a (literal size value)

expr_begins : (test : TokenKind → Bool) → ((text : List ℕ) → test (Ident text) ≡ false)
    → ((size value : ℕ) → test (Literal size value) ≡ false) → test (Mark left_brace) ≡ false
    → {ps : List Part} {T U : List Token} → Expr ps T U → IsNext test T ≡ false
expr_begins test ident literal brace (alone is) = part_begins test ident literal _ _ _ is
expr_begins test ident literal brace (joined (_, (_, a)) first rest close same) = rw a brace

-- what ends a connection is no bracket
no_bracket : (kind : TokenKind) → ends_conn kind ≡ true → is_mark left_bracket kind ≡ false
no_bracket (Mark byte) h = grind arith
no_bracket (Ident name) h = refl
no_bracket (Reserved row) h = refl
no_bracket Cell h = refl
no_bracket EndCell h = refl
no_bracket (Number value) h = refl
no_bracket (Literal size value) h = refl

no_bracket_next : (T : List Token) → IsNext ends_conn T ≡ true → IsNext (is_mark left_bracket) T ≡ false
no_bracket_next [] h = refl
no_bracket_next (t ∷ T) h = no_bracket t.kind h

order_read : (len : ℕ) (i : InInst) (at expr_at : ℕ) (ps : List Part) (T U : List Token)
    → by_order (state.conn_of at None expr_at ps) T U → IsNext ends_conn U ≡ true
    → read len (NextConn i) T ≡ read len (AfterConn (with_conn i (state.conn_of at None expr_at ps))) U
order_read len i at expr_at [] T U (same, (V, (first, a), b)) h = rw (same, sym first, a, b) (no_conn len i U h)
order_read len i at expr_at (p ∷ ps) T U (same, (V, (first, a), is)) h =
    rw (same, sym first, a)
    (conn_by_order len i V (expr_begins ends_conn (λ _. refl) (λ _ _. refl) refl is)
    (expr_begins (is_mark dot) (λ _. refl) (λ _ _. refl) refl is)
    ∙ expr_read len (expr_of i (first_at V) None (first_at V) []) 0 is (no_bracket_next U h)
    ∙ end_by_order len i (first_at V) (first_at V) (p ∷ ps) U)

name_read : (len : ℕ) (i : InInst) (at : ℕ) (port : At) (expr_at : ℕ) (ps : List Part) (T U : List Token)
    → by_name port (state.conn_of at (Some port) expr_at ps) T U
    → read len (NextConn i) T ≡ read len (AfterConn (with_conn i (state.conn_of at (Some port) expr_at ps))) U
name_read len i at port expr_at [] T U (V, (_, a), (W, (_, b), (X, (_, (_, c)), (Y, (first, d), rest)))) =
    let (Z, e, (_, (_, f))) = rest in
    rw (a, b, c, sym first, d, e, f) refl
name_read len i at port expr_at (p ∷ ps) T U (V, (_, a), (W, (_, b), (X, (_, (_, c)), (Y, (first, d), rest)))) =
    let (Z, is, close) = rest in
    rw (a, b, c, sym first, d)
    (some_expr len i at port Y (expr_begins (is_mark right_parenthesis) (λ _. refl) (λ _ _. refl) refl is)
    ∙ expr_read len (expr_of i at (Some port) (first_at Y) []) 0 is
    (is_next (is_mark left_bracket) (Mark right_parenthesis) Z U close)
    ∙ rw close.1.1 refl)

conn_read : (len : ℕ) (i : InInst) (at : ℕ) (port : Option At) (expr_at : ℕ) (ps : List Part) (T U : List Token)
    → conn (state.conn_of at port expr_at ps) T U → IsNext ends_conn U ≡ true
    → read len (NextConn i) T ≡ read len (AfterConn (with_conn i (state.conn_of at port expr_at ps))) U
conn_read len i at None expr_at ps T U is h = order_read len i at expr_at ps T U is h
conn_read len i at (Some port) expr_at ps T U is h = name_read len i at port expr_at ps T U is

-- an instance with these connections, and with more connections
abbrev pub conns_of : InInst → List TConn → InInst
conns_of i cs = inst_of i.inside i.name cs

abbrev pub with_conns : InInst → List TConn → InInst
with_conns i cs = conns_of i (i.conns ++ cs)

ends_next : (cs : List TConn) (T V U : List Token) → more_conns cs T V → One (Mark right_parenthesis) V U
    → IsNext ends_conn T ≡ true
ends_next [] T V U same (_, (_, a)) = rw (same, a) refl
ends_next (c ∷ cs) T V U (W, (_, (_, a)), rest) close = rw a refl

more_conns_read : (len : ℕ) (i : InInst) (cs : List TConn) (T V U : List Token) → more_conns cs T V
    → One (Mark right_parenthesis) V U
    → read len (AfterConn i) T ≡ read len (AfterInst (with_inst (with_conns i cs))) U
more_conns_read len i [] T V U same (_, (_, a)) = rw (same, a, append-nil i.conns) refl
more_conns_read len i (c ∷ cs) T V U (W, (_, (_, a)), (X, is, more)) close =
    rw a (conn_read len i c.at c.port c.expr_at c.parts W X is (ends_next cs X V U more close)
    ∙ more_conns_read len (with_conn i c) cs X V U more close
    ∙ ap (λ ds. read len (AfterInst (with_inst (conns_of i ds))) U) (append_assoc i.conns (c ∷ []) cs))

-- a connection that isn't empty begins with no closing parenthesis
lone_begins : (at : ℕ) (port : Option At) (expr_at : ℕ) (ps : List Part) (T U : List Token)
    → lone_conn (state.conn_of at port expr_at ps) T U → IsNext (is_mark right_parenthesis) T ≡ false
lone_begins at None expr_at ps T U (same, (V, (first, a), is)) =
    rw a (expr_begins (is_mark right_parenthesis) (λ _. refl) (λ _ _. refl) refl is)
lone_begins at (Some port) expr_at ps T U (V, (_, a), rest) = rw a refl

pub lone_is_conn : (at : ℕ) (port : Option At) (expr_at : ℕ) (ps : List Part) (T U : List Token)
    → lone_conn (state.conn_of at port expr_at ps) T U → conn (state.conn_of at port expr_at ps) T U
lone_is_conn at None expr_at [] T U (same, (V, b, is)) = absurd (not_empty is refl)
lone_is_conn at None expr_at (p ∷ ps) T U is = is
lone_is_conn at (Some port) expr_at ps T U is = is

-- nor does one before a comma
conn_begins : (at : ℕ) (port : Option At) (expr_at : ℕ) (ps : List Part) (T V U : List Token)
    → conn (state.conn_of at port expr_at ps) T V → One (Mark comma) V U
    → IsNext (is_mark right_parenthesis) T ≡ false
conn_begins at None expr_at [] T V U (same, (W, (first, a), b)) (_, (_, c)) = rw (a, b, c) refl
conn_begins at None expr_at (p ∷ ps) T V U is after = lone_begins at None expr_at (p ∷ ps) T V is
conn_begins at (Some port) expr_at ps T V U is after = lone_begins at (Some port) expr_at ps T V is

conns_read : (len : ℕ) (i : InInst) (cs : List TConn) (T V U : List Token) → conns cs T V
    → One (Mark right_parenthesis) V U
    → read len (FirstConn i) T ≡ read len (AfterInst (with_inst (with_conns i cs))) U
conns_read len i [] T V U same (_, (_, a)) = rw (same, a, append-nil i.conns) refl
conns_read len i (c ∷ []) T V U is close =
    some_conn len i T (lone_begins c.at c.port c.expr_at c.parts T V is)
    ∙ conn_read len i c.at c.port c.expr_at c.parts T V (lone_is_conn c.at c.port c.expr_at c.parts T V is)
    (is_next ends_conn (Mark right_parenthesis) V U close)
    ∙ rw close.1.1 refl
conns_read len i (c ∷ d ∷ cs) T V U (W, is, (X, a, more)) close =
    some_conn len i T (conn_begins c.at c.port c.expr_at c.parts T W X is a)
    ∙ conn_read len i c.at c.port c.expr_at c.parts T W is (is_next ends_conn (Mark comma) W X a)
    ∙ more_conns_read len (with_conn i c) (d ∷ cs) W V U (X, a, more) close
    ∙ ap (λ ds. read len (AfterInst (with_inst (conns_of i ds))) U) (append_assoc i.conns (c ∷ []) (d ∷ cs))

-- an item with more instances
abbrev pub more_insts_of : InInsts → List TInst → InInsts
more_insts_of g is = insts_of g.inside g.master (g.insts ++ is)

inst_read : (len : ℕ) (g : InInsts) (i : TInst) (T U : List Token) → inst i T U
    → read len (InstName g) T ≡ read len (AfterInst (more_insts_of g (i ∷ []))) U
inst_read len g i T U (V, (_, a), (W, (_, (_, b)), (X, are, close))) =
    rw (a, b) (conns_read len (inst_of g i.name []) i.conns W X U are close)

more_insts_read : (len : ℕ) (g : InInsts) (is : List TInst) (T U : List Token) → more_insts is T U
    → read len (AfterInst g) T ≡ read len (AfterInst (more_insts_of g is)) U
more_insts_read len g [] T U same = rw (same, append-nil g.insts) refl
more_insts_read len g (i ∷ is) T U (V, (_, (_, a)), (W, one, more)) =
    rw a (inst_read len g i V W one
    ∙ more_insts_read len (more_insts_of g (i ∷ [])) is W U more
    ∙ ap (λ ks. read len (AfterInst (insts_of g.inside g.master ks)) U) (append_assoc g.insts (i ∷ []) is))

pub insts_item : (len : ℕ) (m : InModule) (master : At) (is : List TInst) (T V W U : List Token) → name master T V
    → insts is V W → One (Mark semicolon) W U
    → read len (InItems m) T ≡ read len (InItems (with_item m (Insts master is))) U
insts_item len m master [] T V W U a none close = absurd none
insts_item len m master (i ∷ is) T V W U (_, a) (X, one, more) (_, (_, b)) =
    rw a (inst_read len (insts_of m master []) i V X one
    ∙ more_insts_read len (insts_of m master (i ∷ [])) is X W more
    ∙ rw b refl)
