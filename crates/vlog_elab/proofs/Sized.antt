-- The tokens of a module are no fewer than the nets that it mentions and its instances together.
use Rattle.std.proofs.Common.{◌≡◌, inl, inr, ℕ, ◌+◌, ◌≤◌, Bool, true, false, cond, List, [], ◌∷◌, ◌++◌, length, Option, Some, None, ap, ◌∙◌, arith}
use Rattle.std.specs.List.{flat_map, All}
use Rattle.std.proofs.lemmas.Grind.{flat_map-append}
use Rattle.std.proofs.lemmas.List.{length-append, length-map}
use Rattle.emh_base.specs.declared.plain.Dir.{Dir}
use Rattle.flatten_rules.specs.Check.{each_after}
use Rattle.vlog_lex.specs.declared.token.Token.{Token}
use Rattle.vlog_read.specs.declared.tree.At.{At}
use Rattle.vlog_read.specs.declared.tree.Span.{Span}
use Rattle.vlog_read.specs.declared.tree.Decl.{Decl}
use Rattle.vlog_read.specs.declared.tree.Header.{Header}
use Rattle.vlog_read.specs.declared.tree.Header.TheVariants.{Names, Decls}
use Rattle.vlog_read.specs.declared.tree.Part.{Part}
use Rattle.vlog_read.specs.declared.tree.Part.TheVariants.{Name, Bit, Bits, Lit}
use Rattle.vlog_read.specs.declared.tree.TConn.{TConn}
use Rattle.vlog_read.specs.declared.tree.TInst.{TInst}
use Rattle.vlog_read.specs.declared.tree.Item.{Item}
use Rattle.vlog_read.specs.declared.tree.Item.TheVariants.{Decl as Declaration, Insts}
use Rattle.vlog_read.specs.declared.tree.TModule.{TModule}
use Rattle.vlog_read.specs.Grammar.{more_names, names, maybe_range, maybe_wire, declares, decl, part, Expr, MoreExprs, alone, joined, no_more, one_more, maybe_expr, conn_of, conn, lone_conn_of, more_conns, conns, inst, more_insts, insts, item, items, more_port_decls, header, ports, one_module, Source, the_end, cell, end_cell, next_module}
use Rattle.vlog_elab.specs.declared.scope.Net.{Net}
use Rattle.vlog_elab.specs.Named.{Named, is_there, firsts}
use Rattle.vlog_elab.specs.Text.{header_decls, range_of}
use Rattle.vlog_elab.specs.Table as table
use Rattle.vlog_elab.specs.Table.{part_net, name_net, decl_nets, conn_nets, inst_nets, item_nets, insts_in, nets}
use Rattle.vlog_elab.proofs.Each.{all_none, all_cons}

more-names-take : (ns : List At) (T U : List Token) → more_names ns T U → length U + length ns ≤ length T
more-names-take [] T U is = omega (arith, ap length is)
more-names-take (n ∷ ns) T U (V, (at, (end, p)), (W, (last, q), rest)) = omega (arith, ap length p, ap length q, more-names-take ns W U rest)

names-take : (ns : List At) (T U : List Token) → names ns T U → length U + length ns ≤ length T
names-take [] T U never = absurd never
names-take (n ∷ ns) T U (V, (end, p), rest) = omega (arith, ap length p, more-names-take ns V U rest)

range-take : (range : Option Span) (T U : List Token) → maybe_range range T U → length U ≤ length T
range-take None T U is = omega (arith, ap length is)
range-take (Some s) T U (A, (a, (a2, p)), (B, (b2, q), (C, (c, (c2, r)), (D, (d, (d2, s2)), (e, (e2, t)))))) = omega (arith, ap length p, ap length q, ap length r, ap length s2, ap length t)

wire-take : (wire : Bool) (T U : List Token) → maybe_wire wire T U → length U ≤ length T
wire-take false T U is = omega (arith, ap length is)
wire-take true T U (at, (end, is)) = omega (arith, ap length is)

declares-take : (dir : Option Dir) (wire : Bool) (T U : List Token) → declares dir wire T U → length U ≤ length T
declares-take (Some d) wire T U (V, (at, (end, p)), rest) = omega (arith, ap length p, wire-take wire V U rest)
declares-take None true T U (at, (end, is)) = omega (arith, ap length is)
declares-take None false T U never = absurd never

decl-take : (d : Decl) (T U : List Token) → decl d T U → length U + length (decl_nets d) ≤ length T
decl-take d T U (V, a, (W, b, c)) =
    omega (arith, declares-take d.dir d.wire T V a, range-take d.range V W b, names-take d.names W U c, length-map d.names (name_net (range_of d)))

part-take : (p : Part) (T U : List Token) → part p T U → length U + length (part_net p) ≤ length T
part-take (Name n) T U (end, is) = omega (arith, ap length is)
part-take (Bit n i) T U (A, (a2, p), (B, (b, (b2, q)), (C, (c, (c2, r)), (d, (d2, s))))) = omega (arith, ap length p, ap length q, ap length r, ap length s)
part-take (Bits n range) T U (A, (a2, p), (B, (b, (b2, q)), (C, (c, (c2, r)), (D, (d, (d2, s)), (E, (e, (e2, t)), (f, (f2, u))))))) =
    omega (arith, ap length p, ap length q, ap length r, ap length s, ap length t, ap length u)
part-take (Lit size value) T U (at, (end, is)) = omega (arith, ap length is)

both-parts : (ps qs rs : List Part) → rs ≡ ps ++ qs → length (flat_map part_net rs) ≡ length (flat_map part_net ps) + length (flat_map part_net qs)
both-parts ps qs rs same =
    ap (λ xs. length (flat_map part_net xs)) same ∙ ap length (flat_map-append part_net ps qs) ∙ length-append (flat_map part_net ps) (flat_map part_net qs)

mutual
  expr-take : {ps : List Part} {T U : List Token} → Expr ps T U → length U + length (flat_map part_net ps) ≤ length T
  expr-take {T = T} {U = U} (alone {p = p} is) = omega (arith, part-take p T U is, length-append (part_net p) [])
  expr-take (joined {ps = ps} {qs = qs} {rs = rs} (a, (a2, p)) one more (b, (b2, q)) same) =
      omega (arith, ap length p, ap length q, expr-take one, more-exprs-take more, both-parts ps qs rs same)

  more-exprs-take : {ps : List Part} {T U : List Token} → MoreExprs ps T U → length U + length (flat_map part_net ps) ≤ length T
  more-exprs-take no_more = omega arith
  more-exprs-take (one_more {ps = ps} {qs = qs} {rs = rs} (a, (a2, p)) one more same) =
      omega (arith, ap length p, expr-take one, more-exprs-take more, both-parts ps qs rs same)

maybe-take : (ps : List Part) (T U : List Token) → maybe_expr ps T U → length U + length (flat_map part_net ps) ≤ length T
maybe-take [] T U is = omega (arith, ap length is)
maybe-take (p ∷ ps) T U is = expr-take is

conn-of-take : (port : Option At) (c : TConn) (T U : List Token) → conn_of port c T U → length U + length (conn_nets c) ≤ length T
conn-of-take None c T U (same, (V, (at, is), rest)) = omega (arith, ap length is, maybe-take c.parts V U rest)
conn-of-take (Some port) c T U (A, (a2, p), (B, (b2, q), (C, (d, (d2, r)), (D, (at, is), (E, rest, (f, (f2, s))))))) =
    omega (arith, ap length p, ap length q, ap length r, ap length is, maybe-take c.parts D E rest, ap length s)

conn-take : (c : TConn) (T U : List Token) → conn c T U → length U + length (conn_nets c) ≤ length T
conn-take c T U is = conn-of-take c.port c T U is

lone-of-take : (port : Option At) (c : TConn) (T U : List Token) → lone_conn_of port c T U → length U + length (conn_nets c) ≤ length T
lone-of-take None c T U (same, (V, (at, is), rest)) = omega (arith, ap length is, expr-take rest)
lone-of-take (Some port) c T U is = conn-of-take (Some port) c T U is

more-conns-take : (cs : List TConn) (T U : List Token) → more_conns cs T U → length U + length (flat_map conn_nets cs) ≤ length T
more-conns-take [] T U is = omega (arith, ap length is)
more-conns-take (c ∷ cs) T U (V, (a, (a2, p)), (W, one, rest)) =
    omega (arith, ap length p, conn-take c V W one, more-conns-take cs W U rest, length-append (conn_nets c) (flat_map conn_nets cs))

conns-take : (cs : List TConn) (T U : List Token) → conns cs T U → length U + length (flat_map conn_nets cs) ≤ length T
conns-take [] T U is = omega (arith, ap length is)
conns-take (c ∷ []) T U is = omega (arith, lone-of-take c.port c T U is, length-append (conn_nets c) [])
conns-take (c ∷ d ∷ cs) T U (V, one, rest) =
    omega (arith, conn-take c T V one, more-conns-take (d ∷ cs) V U rest, length-append (conn_nets c) (flat_map conn_nets (d ∷ cs)))

inst-take : (i : TInst) (T U : List Token) → inst i T U → length U + length (inst_nets i) + 1 ≤ length T
inst-take i T U (A, (a2, p), (B, (b, (b2, q)), (C, rest, (d, (d2, r))))) = omega (arith, ap length p, ap length q, conns-take i.conns B C rest, ap length r)

more-insts-take : (is : List TInst) (T U : List Token) → more_insts is T U → length U + length (flat_map inst_nets is) + length is ≤ length T
more-insts-take [] T U is = omega (arith, ap length is)
more-insts-take (i ∷ is) T U (V, (a, (a2, p)), (W, one, rest)) =
    omega (arith, ap length p, inst-take i V W one, more-insts-take is W U rest, length-append (inst_nets i) (flat_map inst_nets is))

insts-take : (is : List TInst) (T U : List Token) → insts is T U → length U + length (flat_map inst_nets is) + length is ≤ length T
insts-take [] T U never = absurd never
insts-take (i ∷ is) T U (V, one, rest) =
    omega (arith, inst-take i T V one, more-insts-take is V U rest, length-append (inst_nets i) (flat_map inst_nets is))

item-take : (i : Item) (T U : List Token) → item i T U → length U + length (item_nets i) + length (insts_in i) ≤ length T
item-take (Declaration d) T U (V, one, (a, (a2, p))) = omega (arith, decl-take d T V one, ap length p)
item-take (Insts master is) T U (A, (a2, p), (B, rest, (b, (b2, q)))) =
    omega (arith, ap length p, insts-take is A B rest, ap length q, length-map {B = At × TInst} is (λ i. (master, i)))

items-take : (is : List Item) (T U : List Token) → items is T U → length U + length (flat_map item_nets is) + length (flat_map insts_in is) ≤ length T
items-take [] T U is = omega (arith, ap length is)
items-take (i ∷ is) T U (V, one, rest) =
    omega (
      arith,
      item-take i T V one,
      items-take is V U rest,
      length-append (item_nets i) (flat_map item_nets is),
      length-append (insts_in i) (flat_map insts_in is),
    )

port-decls-take : (ds : List Decl) (T U : List Token) → more_port_decls ds T U → length U + length (flat_map decl_nets ds) ≤ length T
port-decls-take [] T U is = omega (arith, ap length is)
port-decls-take (d ∷ ds) T U (V, (a, (a2, p)), (W, (some, one), rest)) =
    omega (arith, ap length p, decl-take d V W one, port-decls-take ds W U rest, length-append (decl_nets d) (flat_map decl_nets ds))

header-take : (h : Header) (T U : List Token) → header h T U → length U + length (flat_map decl_nets (header_decls h)) ≤ length T
header-take (Names []) T U is = omega (arith, ap length is)
header-take (Names (n ∷ ns)) T U (V, (end, p), rest) = omega (arith, ap length p, more-names-take ns V U rest)
header-take (Decls []) T U never = absurd never
header-take (Decls (d ∷ ds)) T U (V, (some, one), rest) =
    omega (arith, decl-take d T V one, port-decls-take ds V U rest, length-append (decl_nets d) (flat_map decl_nets ds))

ports-take : (h : Header) (T U : List Token) → ports h T U → length U + length (flat_map decl_nets (header_decls h)) ≤ length T
ports-take h T U (inl (bare, is)) = omega (arith, ap length is, ap (λ (h : Header). length (flat_map decl_nets (header_decls h))) bare)
ports-take h T U (inr (A, (a, (a2, p)), (B, rest, (b, (b2, q))))) = omega (arith, ap length p, header-take h A B rest, ap length q)

-- what a module mentions
abbrev mentioned : TModule → Named Net
mentioned m = flat_map decl_nets (header_decls m.header) ++ flat_map item_nets m.items

module-take : (m : TModule) (T U : List Token) → one_module m T U → length U + length (mentioned m) + length (table.insts m) ≤ length T
module-take m T U (A, (a, (a2, p)), (B, (b2, q), (C, head, (D, (d, (d2, r)), (E, rest, (e, (e2, s))))))) =
    omega (
      arith,
      ap length p,
      ap length q,
      ports-take m.header B C head,
      ap length r,
      items-take m.items D E rest,
      ap length s,
      length-append (flat_map decl_nets (header_decls m.header)) (flat_map item_nets m.items),
    )

-- no more are given for items than one for each
each-few : {X Y : Type 0} (f : List X → X → List Y) → ((before : List X) (x : X) → length (f before x) ≤ 1) → (before xs : List X) → length (each_after f before xs) ≤ length xs
each-few f one before [] = omega arith
each-few f one before (x ∷ xs) =
    omega (arith, one before x, each-few f one (before ++ x ∷ []) xs, length-append (f before x) (each_after f (before ++ x ∷ []) xs))

one-or-none : {X : Type 0} (b : Bool) (x : X) → length (cond b [] (x ∷ [])) ≤ 1
one-or-none true x = omega arith
one-or-none false x = omega arith

firsts-few : {V : Type 0} (es : Named V) → length (firsts es) ≤ length es
firsts-few es = each-few _ (λ before e. one-or-none (is_there before e.0) e) [] es

-- the nets and the instances of a module are no more than a number
abbrev pub AreFew : ℕ → TModule → Type 0
AreFew n m = (length (nets m) ≤ n) × (length (table.insts m) ≤ n)

pub source-few : (n : ℕ) {marked : Bool} {ms : List TModule} {T : List Token} → Source marked ms T → length T ≤ n → All (AreFew n) ms
source-few n the_end few = all_none (AreFew n)
source-few n (cell (a, (a2, p)) rest) few = source-few n rest (omega (arith, ap length p, few))
source-few n (end_cell (a, (a2, p)) rest) few = source-few n rest (omega (arith, ap length p, few))
source-few n (next_module {m = m} {ms = ms} {T = T} {U = U} mark one rest) few =
    let takes = module-take m T U one in
    all_cons (AreFew n) m ms
    (omega (arith, takes, few, firsts-few (mentioned m)), omega (arith, takes, few))
    (source-few n rest (omega (arith, takes, few)))
