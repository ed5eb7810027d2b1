-- The grammar: which tokens spell which tree. It is a part of that of IEEE 1364-2005, annex A; each production stands
-- above its definition. DIR is `input`, `output` or `inout`, NAME an identifier, NUM a number and LIT a literal.
use Rattle.std.specs.Prelude.{◌≡◌, ◌⊎◌, ℕ, Bool, true, false, List, [], ◌∷◌, ◌++◌, Option, Some, None, IsSome}
use Rattle.emh_base.specs.declared.plain.Dir.{Dir}
use Rattle.vlog_lex.specs.declared.token.Token.{Token}
use Rattle.vlog_lex.specs.declared.token.TokenKind.{TokenKind}
use Rattle.vlog_lex.specs.declared.token.TokenKind.TheVariants.{Ident, Reserved, Cell, EndCell, Number, Literal, Mark}
use Rattle.vlog_read.specs.declared.tree.TModule.{TModule}
use Rattle.vlog_read.specs.declared.tree.At.{At}
use Rattle.vlog_read.specs.declared.tree.Span.{Span}
use Rattle.vlog_read.specs.declared.tree.Header.{Header}
use Rattle.vlog_read.specs.declared.tree.Header.TheVariants.{Names, Decls}
use Rattle.vlog_read.specs.declared.tree.Decl.{Decl}
use Rattle.vlog_read.specs.declared.tree.Item.{Item}
use Rattle.vlog_read.specs.declared.tree.Item.TheVariants.{Decl as Declaration, Insts}
use Rattle.vlog_read.specs.declared.tree.TInst.{TInst}
use Rattle.vlog_read.specs.declared.tree.TConn.{TConn}
use Rattle.vlog_read.specs.declared.tree.Part.{Part}
use Rattle.vlog_read.specs.declared.tree.Part.TheVariants.{Name, Bit, Bits, Lit}
use Rattle.vlog_read.specs.Words.{module_word, endmodule_word, wire_word, dir_word, left_parenthesis, right_parenthesis, comma, dot, colon, semicolon, left_bracket, right_bracket, left_brace, right_brace}

-- a reading is told by the tokens that it begins with and those that it leaves
abbrev pub Reading : Type 1
Reading = List Token → List Token → Type 0

-- it takes no token
abbrev pub Nothing : Reading
Nothing T U = T ≡ U

-- it can't be
abbrev pub Never : Reading
Never T U = ⊥

infixr 6 ◌then◌
-- one after the other
abbrev pub ◌then◌ : Reading → Reading → Reading
(R then S) T U = (V : List Token) × R T V × S V U

-- one token of this kind, at this place
abbrev pub OneAt : ℕ → TokenKind → Reading
OneAt at kind T U = (end : ℕ) × (T ≡ record { kind = kind; at = at; end = end } ∷ U)

-- one token of this kind
abbrev pub One : TokenKind → Reading
One kind T U = (at : ℕ) × OneAt at kind T U

-- the place of the next token
abbrev pub first_at : List Token → ℕ
first_at [] = 0
first_at (t ∷ T) = t.at

-- no token; the next stands at this place
abbrev pub NextAt : ℕ → Reading
NextAt at T U = (first_at T ≡ at) × (T ≡ U)

-- NAME
abbrev pub name : At → Reading
name n = OneAt n.at (Ident n.name)

-- { "," NAME }
abbrev pub more_names : List At → Reading
more_names [] = Nothing
more_names (n ∷ ns) = One (Mark comma) then name n then more_names ns

-- NAME { "," NAME }
abbrev pub names : List At → Reading
names [] = Never
names (n ∷ ns) = name n then more_names ns

-- "[" NUM ":" NUM "]"
abbrev pub range : Span → Reading
range s =
    One (Mark left_bracket) then OneAt s.at (Number s.range.left) then One (Mark colon)
    then One (Number s.range.right) then One (Mark right_bracket)

-- [ range ]
abbrev pub maybe_range : Option Span → Reading
maybe_range None = Nothing
maybe_range (Some s) = range s

-- DIR
abbrev pub direction : Dir → Reading
direction d = One (Reserved (dir_word d))

-- [ "wire" ]
abbrev pub maybe_wire : Bool → Reading
maybe_wire false = Nothing
maybe_wire true = One (Reserved wire_word)

-- DIR [ "wire" ] | "wire"
abbrev pub declares : Option Dir → Bool → Reading
declares (Some d) wire = direction d then maybe_wire wire
declares None true = One (Reserved wire_word)
declares None false = Never

-- ( DIR [ "wire" ] | "wire" ) [ range ] NAME { "," NAME }
abbrev pub decl : Decl → Reading
decl d = declares d.dir d.wire then maybe_range d.range then names d.names

-- NAME | NAME "[" NUM "]" | NAME range | LIT
abbrev pub part : Part → Reading
part (Name n) = name n
part (Bit n i) = name n then One (Mark left_bracket) then One (Number i) then One (Mark right_bracket)
part (Bits n r) =
    name n then One (Mark left_bracket) then One (Number r.left) then One (Mark colon) then One (Number r.right)
    then One (Mark right_bracket)
part (Lit size value) = One (Literal size value)

-- expr = NAME | NAME "[" NUM "]" | NAME range | LIT | "{" expr { "," expr } "}", by its parts from the left
mutual
  pub data Expr : List Part → List Token → List Token → Type 0 where
    alone : {p : Part} {T U : List Token} → part p T U → Expr (p ∷ []) T U
    joined : {ps qs rs : List Part} {T V W X U : List Token} → One (Mark left_brace) T V → Expr ps V W
        → MoreExprs qs W X → One (Mark right_brace) X U → rs ≡ ps ++ qs → Expr rs T U

  -- { "," expr }
  pub data MoreExprs : List Part → List Token → List Token → Type 0 where
    no_more : {T : List Token} → MoreExprs [] T T
    one_more : {ps qs rs : List Part} {T V W U : List Token} → One (Mark comma) T V → Expr ps V W
        → MoreExprs qs W U → rs ≡ ps ++ qs → MoreExprs rs T U

-- [ expr ]
abbrev pub maybe_expr : List Part → Reading
maybe_expr [] = Nothing
maybe_expr (p ∷ ps) = Expr (p ∷ ps)

-- a connection by order that isn't empty stands where its expression does
abbrev pub filled : TConn → Reading
filled c T U = (c.expr_at ≡ c.at) × (NextAt c.at then Expr c.parts) T U

-- [ expr ]
abbrev pub by_order : TConn → Reading
by_order c T U = (c.expr_at ≡ c.at) × (NextAt c.at then maybe_expr c.parts) T U

-- "." NAME "(" [ expr ] ")"
abbrev pub by_name : At → TConn → Reading
by_name port c =
    OneAt c.at (Mark dot) then name port then One (Mark left_parenthesis)
    then NextAt c.expr_at then maybe_expr c.parts then One (Mark right_parenthesis)

-- conn = [ expr ] | "." NAME "(" [ expr ] ")"
abbrev pub conn_of : Option At → TConn → Reading
conn_of None c = by_order c
conn_of (Some port) c = by_name port c

abbrev pub conn : TConn → Reading
conn c = conn_of c.port c

-- a connection that isn't empty
abbrev pub lone_conn_of : Option At → TConn → Reading
lone_conn_of None c = filled c
lone_conn_of (Some port) c = by_name port c

abbrev pub lone_conn : TConn → Reading
lone_conn c = lone_conn_of c.port c

-- { "," conn }
abbrev pub more_conns : List TConn → Reading
more_conns [] = Nothing
more_conns (c ∷ cs) = One (Mark comma) then conn c then more_conns cs

-- conn { "," conn }, where a single empty connection is none
abbrev pub conns : List TConn → Reading
conns [] = Nothing
conns (c ∷ []) = lone_conn c
conns (c ∷ d ∷ cs) = conn c then more_conns (d ∷ cs)

-- inst = NAME "(" conn { "," conn } ")"
abbrev pub inst : TInst → Reading
inst i = name i.name then One (Mark left_parenthesis) then conns i.conns then One (Mark right_parenthesis)

-- { "," inst }
abbrev pub more_insts : List TInst → Reading
more_insts [] = Nothing
more_insts (i ∷ is) = One (Mark comma) then inst i then more_insts is

-- inst { "," inst }
abbrev pub insts : List TInst → Reading
insts [] = Never
insts (i ∷ is) = inst i then more_insts is

-- item = ( DIR [ "wire" ] | "wire" ) [ range ] NAME { "," NAME } ";" | NAME inst { "," inst } ";"
abbrev pub item : Item → Reading
item (Declaration d) = decl d then One (Mark semicolon)
item (Insts master is) = name master then insts is then One (Mark semicolon)

-- { item }
abbrev pub items : List Item → Reading
items [] = Nothing
items (i ∷ is) = item i then items is

-- decl { "," NAME }, where decl = DIR [ "wire" ] [ range ] NAME: each NAME belongs to the declaration before it
abbrev pub port_decl : Decl → Reading
port_decl d T U = IsSome d.dir × decl d T U

-- { "," decl { "," NAME } }
abbrev pub more_port_decls : List Decl → Reading
more_port_decls [] = Nothing
more_port_decls (d ∷ ds) = One (Mark comma) then port_decl d then more_port_decls ds

-- [ header ], where header = NAME { "," NAME } | decl { "," ( decl | NAME ) }
abbrev pub header : Header → Reading
header (Names []) = Nothing
header (Names (n ∷ ns)) = name n then more_names ns
header (Decls []) = Never
header (Decls (d ∷ ds)) = port_decl d then more_port_decls ds

-- [ "(" [ header ] ")" ], where a missing header is one of no name
abbrev pub ports : Header → Reading
ports h T U =
    ((h ≡ Names []) × (T ≡ U)) ⊎ (One (Mark left_parenthesis) then header h then One (Mark right_parenthesis)) T U

-- module = "module" NAME [ "(" [ header ] ")" ] ";" { item } "endmodule"
abbrev pub one_module : TModule → Reading
one_module m =
    One (Reserved module_word) then name m.name then ports m.header then One (Mark semicolon)
    then items m.items then One (Reserved endmodule_word)

-- source = { `celldefine | `endcelldefine | module }: the last celldefine token before a module says whether it is
-- marked, and before the first one it isn't
pub data Source : Bool → List TModule → List Token → Type 0 where
  the_end : {marked : Bool} → Source marked [] []
  cell : {marked : Bool} {ms : List TModule} {T U : List Token} → One Cell T U → Source true ms U → Source marked ms T
  end_cell : {marked : Bool} {ms : List TModule} {T U : List Token} → One EndCell T U → Source false ms U
      → Source marked ms T
  next_module : {marked : Bool} {m : TModule} {ms : List TModule} {T U : List Token} → m.marked ≡ marked
      → one_module m T U → Source marked ms U → Source marked (m ∷ ms) T
