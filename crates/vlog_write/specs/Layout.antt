-- How a tree is laid out as words; the form stands above each definition. This project's own.
use Rattle.std.specs.Prelude.{Bool, true, false, ◌==◌, List, [], ◌∷◌, ◌++◌, map, Option, Some, None}
use Rattle.std.specs.List.{flat_map}
use Rattle.emh_base.specs.declared.plain.Dir.{Dir}
use Rattle.vlog_read.specs.declared.tree.TModule.{TModule}
use Rattle.vlog_read.specs.declared.tree.At.{At}
use Rattle.vlog_read.specs.declared.tree.Span.{Span}
use Rattle.vlog_read.specs.declared.tree.Header.{Header}
use Rattle.vlog_read.specs.declared.tree.Header.TheVariants.{Names, Decls}
use Rattle.vlog_read.specs.declared.tree.Item.{Item}
use Rattle.vlog_read.specs.declared.tree.Item.TheVariants.{Decl as Declaration, Insts}
use Rattle.vlog_read.specs.declared.tree.TInst.{TInst}
use Rattle.vlog_read.specs.declared.tree.TConn.{TConn}
use Rattle.vlog_read.specs.declared.tree.Part.{Part}
use Rattle.vlog_read.specs.declared.tree.Part.TheVariants.{Name, Bit, Bits, Lit}
use Rattle.vlog_read.specs.Words.{module_word, endmodule_word, wire_word, dir_word, left_parenthesis, right_parenthesis, comma, dot, colon, semicolon, left_bracket, right_bracket, left_brace, right_brace}
use Rattle.vlog_write.specs.Word.{Word, Reserved, Mark, Number, Tie, Cell, EndCell, Space, Newline}
use Rattle.vlog_write.specs.Word as word

-- each item after a comma and a space
abbrev pub after_commas : List (List Word) → List Word
after_commas [] = []
after_commas (words ∷ others) = Mark comma ∷ Space ∷ words ++ after_commas others

-- items with a comma and a space between
abbrev pub with_commas : List (List Word) → List Word
with_commas [] = []
with_commas (words ∷ others) = words ++ after_commas others

-- NAME
abbrev pub name : At → List Word
name n = word.Name n.name ∷ []

-- NAME, NAME, ..
abbrev pub names : List At → List Word
names ns = with_commas (map name ns)

-- [LEFT:RIGHT] and a space, or nothing
abbrev pub range : Option Span → List Word
range None = []
range (Some s) =
    Mark left_bracket ∷ Number s.range.left ∷ Mark colon ∷ Number s.range.right ∷ Mark right_bracket
    ∷ Space ∷ []

-- a direction, `wire` or both, each with a space after it
abbrev pub declares : Option Dir → Bool → List Word
declares None wire = Reserved wire_word ∷ Space ∷ []
declares (Some d) false = Reserved (dir_word d) ∷ Space ∷ []
declares (Some d) true = Reserved (dir_word d) ∷ Space ∷ Reserved wire_word ∷ Space ∷ []

-- NAME, NAME[INDEX], NAME[LEFT:RIGHT], 1'b0 or 1'b1
abbrev pub part : Part → List Word
part (Name n) = word.Name n.name ∷ []
part (Bit n index) = word.Name n.name ∷ Mark left_bracket ∷ Number index ∷ Mark right_bracket ∷ []
part (Bits n r) =
    word.Name n.name ∷ Mark left_bracket ∷ Number r.left ∷ Mark colon ∷ Number r.right
    ∷ Mark right_bracket ∷ []
part (Lit size value) = Tie (value == 1) ∷ []

-- nothing, one part, or {PART, PART, ..}
abbrev pub expr : List Part → List Word
expr [] = []
expr (p ∷ []) = part p
expr (p ∷ q ∷ ps) =
    Mark left_brace ∷ part p ++ (after_commas (map part (q ∷ ps)) ++ Mark right_brace ∷ [])

-- .PORT(EXPR), or EXPR where the port isn't named
abbrev pub conn_of : Option At → List Part → List Word
conn_of None parts = expr parts
conn_of (Some port) parts =
    Mark dot ∷ word.Name port.name ∷ Mark left_parenthesis
    ∷ expr parts ++ Mark right_parenthesis ∷ []

abbrev pub conn : TConn → List Word
conn c = conn_of c.port c.parts

-- CONN, CONN, ..
abbrev pub conns : List TConn → List Word
conns cs = with_commas (map conn cs)

-- NAME (CONNS)
abbrev pub inst : TInst → List Word
inst i =
    word.Name i.name.name ∷ Space ∷ Mark left_parenthesis
    ∷ conns i.conns ++ Mark right_parenthesis ∷ []

-- INST, INST, ..
abbrev pub insts : List TInst → List Word
insts is = with_commas (map inst is)

-- a line, two spaces in: DIR RANGE NAMES; or MASTER INSTS;
abbrev pub item : Item → List Word
item (Declaration d) =
    Space ∷ Space ∷ declares d.dir d.wire
    ++ (range d.range ++ (names d.names ++ Mark semicolon ∷ Newline ∷ []))
item (Insts master is) =
    Space ∷ Space ∷ word.Name master.name ∷ Space ∷ insts is ++ Mark semicolon ∷ Newline ∷ []

abbrev pub items : List Item → List Word
items is = flat_map item is

-- NAMES; the tree of a table declares no port in a header
abbrev pub header : Header → List Word
header (Names ns) = names ns
header (Decls ds) = []

-- a line: module NAME (HEADER);
abbrev pub heading : At → Header → List Word
heading n h =
    Reserved module_word ∷ Space ∷ word.Name n.name ∷ Space ∷ Mark left_parenthesis ∷ header h
    ++ (Mark right_parenthesis ∷ Mark semicolon ∷ Newline ∷ [])

-- the heading, a line for each item, and the line endmodule
abbrev pub one_module : TModule → List Word
one_module m =
    heading m.name m.header ++ (items m.items ++ (Reserved endmodule_word ∷ Newline ∷ []))

abbrev pub modules : List TModule → List Word
modules ms = flat_map one_module ms

-- modules between the lines `celldefine and `endcelldefine; nothing where there are none
abbrev pub cells : List TModule → List Word
cells [] = []
cells (m ∷ ms) = Cell ∷ Newline ∷ modules (m ∷ ms) ++ (EndCell ∷ Newline ∷ [])
