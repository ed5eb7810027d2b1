-- What a module's text says of its header.
use Rattle.std.specs.Prelude.{Bool, ◌||◌, List, [], Option, option_map}
use Rattle.std.specs.List.{flat_map}
use Rattle.emh_base.specs.declared.plain.Range.{Range}
use Rattle.vlog_read.specs.declared.tree.At.{At}
use Rattle.vlog_read.specs.declared.tree.Span.{Span}
use Rattle.vlog_read.specs.declared.tree.Decl.{Decl}
use Rattle.vlog_read.specs.declared.tree.Header.{Header}
use Rattle.vlog_read.specs.declared.tree.Header.TheVariants.{Names, Decls}
use Rattle.vlog_read.specs.declared.tree.TModule.{TModule}

-- a module is a leaf where all are, or where it is marked
abbrev pub is_leaf : Bool → TModule → Bool
is_leaf all_leaf m = all_leaf || m.marked

-- the names of a header, which are those of the ports, in order
abbrev pub header_names : Header → List At
header_names (Names names) = names
header_names (Decls decls) = flat_map (λ (d : Decl). d.names) decls

-- the declarations of a header
abbrev pub header_decls : Header → List Decl
header_decls (Names names) = []
header_decls (Decls decls) = decls

-- the range of a declaration
abbrev pub range_of : Decl → Option Range
range_of d = option_map (λ (s : Span). s.range) d.range
