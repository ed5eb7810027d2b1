-- The definitions, tried on worked sentences and faults.
use Rattle.std.proofs.Common.{refl, ℕ, suc, Bool, true, false, List, [], ◌∷◌, ◌++◌, Some, None}
use Rattle.std.specs.Prelude.{codes}
use Rattle.emh_base.specs.declared.plain.Dir.TheVariants.{Input, Output}
use Rattle.word_table.specs.Reserved.{reserved_texts}
use Rattle.vlog_lex.specs.declared.token.Token.{Token}
use Rattle.vlog_lex.specs.declared.token.TokenKind.{TokenKind}
use Rattle.vlog_lex.specs.declared.token.TokenKind.TheVariants.{Ident, Reserved, Cell, EndCell, Number, Literal, Mark}
use Rattle.vlog_read.specs.declared.tree.Tree.{Tree}
use Rattle.vlog_read.specs.declared.tree.TModule.{TModule}
use Rattle.vlog_read.specs.declared.tree.At.{At}
use Rattle.vlog_read.specs.declared.tree.Header.{Header}
use Rattle.vlog_read.specs.declared.tree.Header.TheVariants.{Names, Decls}
use Rattle.vlog_read.specs.declared.tree.Item.{Item}
use Rattle.vlog_read.specs.declared.tree.Item.TheVariants.{Decl as Declaration, Insts}
use Rattle.vlog_read.specs.declared.tree.TInst.{TInst}
use Rattle.vlog_read.specs.declared.tree.TConn.{TConn}
use Rattle.vlog_read.specs.declared.tree.Part.TheVariants.{Bit, Bits, Lit}
use Rattle.vlog_read.specs.declared.fault.ParseFault.TheVariants.{Unexpected, Unsupported}
use Rattle.vlog_read.specs.Words
use Rattle.vlog_read.specs.Sentence.{Spells, HasFault}
use Rattle.vlog_read.specs.inside.Machine.State.{decl_of, span_of, range_of, conn_of, empty_conn}
use Rattle.vlog_read.proofs.Sentences.{read_spelled, read_fault}

-- tokens at the places 0, 1, 2 ..
abbrev from : ℕ → List TokenKind → List Token
from at [] = []
from at (kind ∷ kinds) = record { kind = kind; at = at; end = suc at } ∷ from (suc at) kinds

-- tokens by short names
abbrev a : TokenKind
a = Ident (codes "a")

abbrev b : TokenKind
b = Ident (codes "b")

abbrev l : TokenKind
l = Mark Words.left_parenthesis

abbrev r : TokenKind
r = Mark Words.right_parenthesis

abbrev c : TokenKind
c = Mark Words.comma

abbrev s : TokenKind
s = Mark Words.semicolon

abbrev begin : TokenKind
begin = Reserved Words.module_word

abbrev over : TokenKind
over = Reserved Words.endmodule_word

abbrev wire : TokenKind
wire = Reserved Words.wire_word

abbrev input : TokenKind
input = Reserved Words.input_word

abbrev output : TokenKind
output = Reserved Words.output_word

-- names at a place
abbrev a_at : ℕ → At
a_at at = record { name = codes "a"; at = at }

abbrev b_at : ℕ → At
b_at at = record { name = codes "b"; at = at }

-- [ left : right ]
abbrev bits : ℕ → ℕ → List TokenKind
bits left right =
    Mark Words.left_bracket ∷ Number left ∷ Mark Words.colon ∷ Number right ∷ Mark Words.right_bracket ∷ []

abbrev module_of : At → Bool → Header → List Item → TModule
module_of n marked h is = record { name = n; marked = marked; header = h; items = is }

abbrev tree_of : List TModule → Tree
tree_of ms = record { modules = ms }

-- a module with these tokens between `module a ;` and `endmodule`
abbrev within : List TokenKind → List Token
within kinds = from 0 (begin ∷ a ∷ s ∷ kinds ++ over ∷ [])

abbrev tree_within : List Item → Tree
tree_within is = tree_of (module_of (a_at 1) false (Names []) is ∷ [])

abbrev inst_of : At → List TConn → TInst
inst_of n cs = record { name = n; conns = cs }

-- `endcelldefine `celldefine
nothing : Spells (tree_of []) (from 0 (EndCell ∷ Cell ∷ []))
nothing = read_spelled 0 _ _ refl

-- `celldefine module a ( ) ; endmodule `endcelldefine `endcelldefine module b ; endmodule
marks : Spells (tree_of (module_of (a_at 2) true (Names []) [] ∷ module_of (b_at 10) false (Names []) [] ∷ []))
    (from 0 (Cell ∷ begin ∷ a ∷ l ∷ r ∷ s ∷ over ∷ EndCell ∷ EndCell ∷ begin ∷ b ∷ s ∷ over ∷ []))
marks = read_spelled 0 _ _ refl

-- module a ( input wire [ 3 : 0 ] a , b , output b ) ; endmodule
header : Spells
    (tree_of (module_of (a_at 1) false
    (Decls (decl_of (Some Input) true (Some (span_of 3 0 6)) (a_at 10 ∷ b_at 12 ∷ [])
    ∷ decl_of (Some Output) false None (b_at 15 ∷ []) ∷ [])) [] ∷ []))
    (from 0 (begin ∷ a ∷ l ∷ input ∷ wire ∷ bits 3 0 ++ a ∷ c ∷ b ∷ c ∷ output ∷ b ∷ r ∷ s ∷ over ∷ []))
header = read_spelled 0 _ _ refl

-- wire a , b ; output wire a ;
decls : Spells
    (tree_within (Declaration (decl_of None true None (a_at 4 ∷ b_at 6 ∷ []))
    ∷ Declaration (decl_of (Some Output) true None (a_at 10 ∷ [])) ∷ []))
    (within (wire ∷ a ∷ c ∷ b ∷ s ∷ output ∷ wire ∷ a ∷ s ∷ []))
decls = read_spelled 0 _ _ refl

-- a b ( ) , a ( , ) ;
empty : Spells
    (tree_within (Insts (a_at 3)
    (inst_of (b_at 4) [] ∷ inst_of (a_at 8) (empty_conn 10 ∷ empty_conn 11 ∷ []) ∷ []) ∷ []))
    (within (a ∷ b ∷ l ∷ r ∷ c ∷ a ∷ l ∷ c ∷ r ∷ s ∷ []))
empty = read_spelled 0 _ _ refl

-- a b ( . a ( ) , { a [ 1 ] , { b [ 2 : 3 ] , 4'd5 } } ) ;
parts : Spells
    (tree_within (Insts (a_at 3) (inst_of (b_at 4)
    (conn_of 6 (Some (a_at 7)) 9 []
    ∷ conn_of 11 None 11 (Bit (a_at 12) 1 ∷ Bits (b_at 18) (range_of 2 3) ∷ Lit 4 5 ∷ []) ∷ []) ∷ []) ∷ []))
    (within (a ∷ b ∷ l ∷ Mark Words.dot ∷ a ∷ l ∷ r ∷ c ∷ Mark Words.left_brace
    ∷ a ∷ Mark Words.left_bracket ∷ Number 1 ∷ Mark Words.right_bracket ∷ c ∷ Mark Words.left_brace
    ∷ b ∷ bits 2 3 ++ c ∷ Literal 4 5 ∷ Mark Words.right_brace ∷ Mark Words.right_brace ∷ r ∷ s ∷ []))
parts = read_spelled 0 _ _ refl

-- module a ( a , input
mixed : HasFault 9 (from 0 (begin ∷ a ∷ l ∷ a ∷ c ∷ input ∷ [])) (Unexpected 5)
mixed = read_fault 9 _ _ refl

-- module a ( a , )
comma_last : HasFault 9 (from 0 (begin ∷ a ∷ l ∷ a ∷ c ∷ r ∷ [])) (Unexpected 5)
comma_last = read_fault 9 _ _ refl

-- module a ; module
nested : HasFault 9 (from 0 (begin ∷ a ∷ s ∷ begin ∷ [])) (Unexpected 3)
nested = read_fault 9 _ _ refl

-- module a ; assign
word : HasFault 9 (from 0 (begin ∷ a ∷ s ∷ Reserved 2 ∷ [])) (Unsupported 3 (codes "assign"))
unfolding reserved_texts
word = read_fault 9 _ _ refl

-- module a ; a #
hash : HasFault 9 (from 0 (begin ∷ a ∷ s ∷ a ∷ Mark 35 ∷ [])) (Unsupported 4 (codes "#"))
hash = read_fault 9 _ _ refl

-- module a ;
early : HasFault 9 (from 0 (begin ∷ a ∷ s ∷ [])) (Unexpected 9)
early = read_fault 9 _ _ refl
