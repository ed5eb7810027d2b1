-- A tree without its places: each of them is 0. Two trees that are the same so differ in places alone.
use Rattle.std.specs.Prelude.{ℕ, List, map, Option, option_map}
use Rattle.vlog_read.specs.declared.tree.At.{At}
use Rattle.vlog_read.specs.declared.tree.Span.{Span}
use Rattle.vlog_read.specs.declared.tree.Decl.{Decl}
use Rattle.vlog_read.specs.declared.tree.Part.{Part}
use Rattle.vlog_read.specs.declared.tree.Part.TheVariants.{Name, Bit, Bits, Lit}
use Rattle.vlog_read.specs.declared.tree.TConn.{TConn}
use Rattle.vlog_read.specs.declared.tree.TInst.{TInst}
use Rattle.vlog_read.specs.declared.tree.Item.{Item}
use Rattle.vlog_read.specs.declared.tree.Item.TheVariants.{Decl as Declaration, Insts}
use Rattle.vlog_read.specs.declared.tree.Header.{Header}
use Rattle.vlog_read.specs.declared.tree.Header.TheVariants.{Names, Decls}
use Rattle.vlog_read.specs.declared.tree.TModule.{TModule}
use Rattle.vlog_read.specs.declared.tree.Tree.{Tree}

-- a name at no place
abbrev pub name_at : List ℕ → At
name_at name = record { name = name; at = 0 }

abbrev pub bare_name : At → At
bare_name n = name_at n.name

abbrev pub bare_span : Span → Span
bare_span s = record { range = s.range; at = 0 }

abbrev pub bare_decl : Decl → Decl
bare_decl d =
    record { dir = d.dir; wire = d.wire; range = option_map bare_span d.range; names = map bare_name d.names }

abbrev pub bare_part : Part → Part
bare_part (Name n) = Name (bare_name n)
bare_part (Bit n index) = Bit (bare_name n) index
bare_part (Bits n range) = Bits (bare_name n) range
bare_part (Lit size value) = Lit size value

abbrev pub bare_conn : TConn → TConn
bare_conn c = record { at = 0; port = option_map bare_name c.port; expr_at = 0; parts = map bare_part c.parts }

abbrev pub bare_inst : TInst → TInst
bare_inst i = record { name = bare_name i.name; conns = map bare_conn i.conns }

abbrev pub bare_item : Item → Item
bare_item (Declaration d) = Declaration (bare_decl d)
bare_item (Insts master insts) = Insts (bare_name master) (map bare_inst insts)

abbrev pub bare_header : Header → Header
bare_header (Names names) = Names (map bare_name names)
bare_header (Decls decls) = Decls (map bare_decl decls)

abbrev pub bare_module : TModule → TModule
bare_module m =
    record { name = bare_name m.name; marked = m.marked; header = bare_header m.header; items = map bare_item m.items }

abbrev pub bare : Tree → Tree
bare tree = record { modules = map bare_module tree.modules }
