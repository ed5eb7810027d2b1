-- Which trees are read again as they were written: what a name, a number, a literal and a declaration have to be.
use Rattle.std.specs.Prelude.{◌≡◌, ◌<◌, ◌^◌, Bool, true, List, [], ◌∷◌, Option, Some, None}
use Rattle.std.specs.List.{AllByRecursion}
use Rattle.emh_base.specs.declared.plain.Dir.{Dir}
use Rattle.emh_base.specs.Name.{IsName}
use Rattle.vlog_read.specs.declared.tree.TModule.{TModule}
use Rattle.vlog_read.specs.declared.tree.At.{At}
use Rattle.vlog_read.specs.declared.tree.Span.{Span}
use Rattle.vlog_read.specs.declared.tree.Header.{Header}
use Rattle.vlog_read.specs.declared.tree.Header.TheVariants.{Names, Decls}
use Rattle.vlog_read.specs.declared.tree.Item.{Item}
use Rattle.vlog_read.specs.declared.tree.Item.TheVariants.{Decl as Declaration, Insts}
use Rattle.vlog_read.specs.declared.tree.TInst.{TInst}
use Rattle.vlog_read.specs.declared.tree.TConn.{TConn}
use Rattle.vlog_read.specs.declared.tree.Part.{Part}
use Rattle.vlog_read.specs.declared.tree.Part.TheVariants.{Name, Bit, Bits, Lit}

abbrev pub HasName : At → Type 0
HasName n = IsName n.name

-- some, each of which is so
abbrev pub AllOfSome : {A : Type 0} → (A → Type 0) → List A → Type 0
AllOfSome P [] = ⊥
AllOfSome P (x ∷ xs) = P x × AllByRecursion P xs

abbrev pub IsRange : Option Span → Type 0
IsRange None = Unit {0}
IsRange (Some s) = (s.range.left < 2 ^ 32) × (s.range.right < 2 ^ 32)

abbrev pub IsPart : Part → Type 0
IsPart (Name n) = HasName n
IsPart (Bit n i) = HasName n × (i < 2 ^ 32)
IsPart (Bits n r) = HasName n × (r.left < 2 ^ 32) × (r.right < 2 ^ 32)
IsPart (Lit size value) = (size ≡ 1) × (value < 2)

abbrev pub IsPort : Option At → Type 0
IsPort None = ⊥
IsPort (Some n) = HasName n

abbrev pub IsConn : TConn → Type 0
IsConn c = IsPort c.port × AllByRecursion IsPart c.parts

abbrev pub IsInst : TInst → Type 0
IsInst i = HasName i.name × AllByRecursion IsConn i.conns

abbrev pub IsDeclared : Option Dir → Bool → Type 0
IsDeclared None wire = wire ≡ true
IsDeclared (Some d) wire = Unit {0}

abbrev pub IsItem : Item → Type 0
IsItem (Declaration d) = IsDeclared d.dir d.wire × IsRange d.range × AllOfSome HasName d.names
IsItem (Insts master is) = HasName master × AllOfSome IsInst is

abbrev pub IsHeader : Header → Type 0
IsHeader (Names ns) = AllByRecursion HasName ns
IsHeader (Decls ds) = ⊥

abbrev pub IsModule : TModule → Type 0
IsModule m = HasName m.name × IsHeader m.header × AllByRecursion IsItem m.items

abbrev pub IsMarked : Bool → TModule → Type 0
IsMarked marked m = (m.marked ≡ marked) × IsModule m
