-- What the machine knows between two tokens: what was read so far, and what may come next.
use Rattle.std.specs.Prelude.{ℕ, Bool, List, [], ◌∷◌, ◌++◌, Option, Some, None}
use Rattle.emh_base.specs.declared.plain.Dir.{Dir}
use Rattle.emh_base.specs.declared.plain.Range.{Range}
use Rattle.vlog_read.specs.declared.tree.TModule.{TModule}
use Rattle.vlog_read.specs.declared.tree.At.{At}
use Rattle.vlog_read.specs.declared.tree.Span.{Span}
use Rattle.vlog_read.specs.declared.tree.Header.{Header}
use Rattle.vlog_read.specs.declared.tree.Decl.{Decl}
use Rattle.vlog_read.specs.declared.tree.Item.{Item}
use Rattle.vlog_read.specs.declared.tree.Item.TheVariants.{Insts}
use Rattle.vlog_read.specs.declared.tree.TInst.{TInst}
use Rattle.vlog_read.specs.declared.tree.TConn.{TConn}
use Rattle.vlog_read.specs.declared.tree.Part.{Part}

-- between modules: the modules so far, and what the last celldefine token said
pub record SoFar : Type 0 where
  pub modules : List TModule
  pub marked : Bool

-- in a module, with the items so far
pub record InModule : Type 0 where
  pub modules : List TModule
  pub current : TModule

-- what a declaration is a part of: a header with the declarations so far, or a module
pub data DeclFor : Type 0 where
  ForHeader : SoFar → At → List Decl → DeclFor
  ForItem : InModule → DeclFor

-- in an item of this master, with the instances so far
pub record InInsts : Type 0 where
  pub inside : InModule
  pub master : At
  pub insts : List TInst

-- in an instance, with the connections so far
pub record InInst : Type 0 where
  pub inside : InInsts
  pub name : At
  pub conns : List TConn

-- in the expression of a connection, with the parts so far
pub record InConn : Type 0 where
  pub inside : InInst
  pub at : ℕ
  pub port : Option At
  pub expr_at : ℕ
  pub parts : List Part

abbrev pub with_mark : SoFar → Bool → SoFar
with_mark s marked = record { modules = s.modules; marked = marked }

-- a module without items
abbrev pub module_of : SoFar → At → Header → InModule
module_of s n h =
    record { modules = s.modules; current = record { name = n; marked = s.marked; header = h; items = [] } }

abbrev pub with_item : InModule → Item → InModule
with_item m i = record {
  modules = m.modules;
  current = record {
    name = m.current.name;
    marked = m.current.marked;
    header = m.current.header;
    items = m.current.items ++ i ∷ [];
  };
}

abbrev pub finished : InModule → SoFar
finished m = record { modules = m.modules ++ m.current ∷ []; marked = m.current.marked }

-- a declaration, by its fields
abbrev pub decl_of : Option Dir → Bool → Option Span → List At → Decl
decl_of d wire r ns = record { dir = d; wire = wire; range = r; names = ns }

abbrev pub with_range : Decl → Span → Decl
with_range d s = decl_of d.dir d.wire (Some s) d.names

abbrev pub with_name : Decl → At → Decl
with_name d n = decl_of d.dir d.wire d.range (d.names ++ n ∷ [])

abbrev pub range_of : ℕ → ℕ → Range
range_of left right = record { left = left; right = right }

abbrev pub span_of : ℕ → ℕ → ℕ → Span
span_of left right at = record { range = range_of left right; at = at }

abbrev pub insts_of : InModule → At → List TInst → InInsts
insts_of m master is = record { inside = m; master = master; insts = is }

abbrev pub inst_of : InInsts → At → List TConn → InInst
inst_of g n cs = record { inside = g; name = n; conns = cs }

abbrev pub with_conn : InInst → TConn → InInst
with_conn i c = inst_of i.inside i.name (i.conns ++ c ∷ [])

abbrev pub with_inst : InInst → InInsts
with_inst i =
    insts_of i.inside.inside i.inside.master (i.inside.insts ++ record { name = i.name; conns = i.conns } ∷ [])

abbrev pub with_insts : InInsts → InModule
with_insts g = with_item g.inside (Insts g.master g.insts)

-- a connection, by its fields
abbrev pub conn_of : ℕ → Option At → ℕ → List Part → TConn
conn_of at port expr_at ps = record { at = at; port = port; expr_at = expr_at; parts = ps }

-- an empty connection by order, where the next token stands at this place
abbrev pub empty_conn : ℕ → TConn
empty_conn at = conn_of at None at []

abbrev pub expr_of : InInst → ℕ → Option At → ℕ → List Part → InConn
expr_of i at port expr_at ps = record { inside = i; at = at; port = port; expr_at = expr_at; parts = ps }

abbrev pub with_part : InConn → Part → InConn
with_part e p = expr_of e.inside e.at e.port e.expr_at (e.parts ++ p ∷ [])

abbrev pub with_expr : InConn → InInst
with_expr e = with_conn e.inside (conn_of e.at e.port e.expr_at e.parts)

-- each state is named after what may come next or what came last; a number behind an expression counts open braces
pub data State : Type 0 where
  Top : SoFar → State
  ModuleName : SoFar → State
  AfterModuleName : SoFar → At → State
  FirstHeader : SoFar → At → State
  HeaderName : SoFar → At → List At → State
  AfterHeaderName : SoFar → At → List At → State
  HeaderDecl : SoFar → At → List Decl → Decl → State
  AfterPorts : InModule → State
  AfterDir : DeclFor → Dir → State
  AfterWire : DeclFor → Decl → State
  RangeLeft : DeclFor → Decl → State
  RangeColon : DeclFor → Decl → ℕ → ℕ → State
  RangeRight : DeclFor → Decl → ℕ → ℕ → State
  RangeClose : DeclFor → Decl → State
  DeclName : DeclFor → Decl → State
  AfterDeclName : DeclFor → Decl → State
  InItems : InModule → State
  InstName : InInsts → State
  AfterInstName : InInsts → At → State
  FirstConn : InInst → State
  NextConn : InInst → State
  PortName : InInst → ℕ → State
  AfterPortName : InInst → ℕ → At → State
  FirstExpr : InInst → ℕ → At → State
  NextExpr : InConn → ℕ → State
  AfterPartName : InConn → ℕ → At → State
  SelectLeft : InConn → ℕ → At → State
  AfterSelect : InConn → ℕ → At → ℕ → State
  SelectRight : InConn → ℕ → At → ℕ → State
  SelectClose : InConn → ℕ → At → ℕ → ℕ → State
  AfterExpr : InConn → ℕ → State
  AfterConn : InInst → State
  AfterInst : InInsts → State
