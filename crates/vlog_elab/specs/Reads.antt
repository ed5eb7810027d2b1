-- How a netlist is read over a library: its bytes have tokens, these spell a tree, and the tree gives a table; or the fault
-- of the first of these that fails.
use Rattle.std.specs.Prelude.{◌≡◌, ◌⊎◌, ℕ, Bool, List, length}
use Rattle.emh_base.specs.declared.plain.Plain.{Plain}
use Rattle.flatten_rules.specs.Sound.{IsSound, IsCounter}
use Rattle.vlog_lex.specs.declared.token.Token.{Token}
use Rattle.vlog_lex.specs.Lexes.{Lexes}
use Rattle.vlog_lex.specs.Lexes as lex
use Rattle.vlog_lex.specs.Found as lex_found
use Rattle.vlog_read.specs.declared.tree.Tree.{Tree}
use Rattle.vlog_read.specs.declared.fault.ParseFault.{ParseFault}
use Rattle.vlog_read.specs.HasTree.{HasTree}
use Rattle.vlog_read.specs.Sentence as sentence
use Rattle.vlog_read.specs.Found as parse_found
use Rattle.vlog_elab.specs.declared.fault.ElabFault.{ElabFault}
use Rattle.vlog_elab.specs.declared.reads.ReadFault.{ReadFault}
use Rattle.vlog_elab.specs.declared.reads.ReadFault.TheVariants.{Lex, Parse, Elab}
use Rattle.vlog_elab.specs.Elaboration.{Elaborates}
use Rattle.vlog_elab.specs.Elaboration as elaboration

-- over the library the bytes give this table; all modules of the bytes are leaves, or those that are marked as cells
pub record Reads (library : Plain) (all_leaf : Bool) (bytes : List ℕ) (plain : Plain) : Type 0 where
  pub tree : Tree
  pub has_tree : HasTree bytes tree
  pub elaborates : Elaborates library all_leaf tree plain

-- the bytes have tokens, whose fault this is
pub record HasParseFault (bytes : List ℕ) (fault : ParseFault) : Type 0 where
  pub tokens : List Token
  pub lexes : Lexes bytes tokens
  pub has_fault : sentence.HasFault (length bytes) tokens fault

-- the bytes have a tree, whose fault over the library this is
pub record HasElabFault (library : Plain) (all_leaf : Bool) (bytes : List ℕ) (fault : ElabFault) : Type 0 where
  pub tree : Tree
  pub has_tree : HasTree bytes tree
  pub has_fault : elaboration.HasFault library all_leaf tree fault

-- the fault that keeps the bytes from having a tree
abbrev pub HasTreeFault : List ℕ → ReadFault → Type 0
HasTreeFault bytes (Lex fault) = lex.HasFault bytes fault
HasTreeFault bytes (Parse fault) = HasParseFault bytes fault
HasTreeFault bytes (Elab fault) = ⊥

-- the fault that keeps the bytes from giving a table over the library
abbrev pub HasReadFault : Plain → Bool → List ℕ → ReadFault → Type 0
HasReadFault library all_leaf bytes (Lex fault) = lex.HasFault bytes fault
HasReadFault library all_leaf bytes (Parse fault) = HasParseFault bytes fault
HasReadFault library all_leaf bytes (Elab fault) = HasElabFault library all_leaf bytes fault

-- P holds of a fault, unless memory was wanting
abbrev pub UnlessNoMemory : (ReadFault → Type 0) → ReadFault → Type 0
UnlessNoMemory P (Lex fault) = lex_found.UnlessNoMemory (λ it. P (Lex it)) fault
UnlessNoMemory P (Parse fault) = parse_found.UnlessNoMemory (λ it. P (Parse it)) fault
UnlessNoMemory P (Elab fault) = elaboration.UnlessNoMemory (λ it. P (Elab it)) fault

-- over a library bytes never give a table and have a fault, give only one table, and have only one fault
pub record HasAtMostOneReading (library : Plain) (all_leaf : Bool) (bytes : List ℕ) : Type 0 where
  pub not_both : (plain : Plain) (fault : ReadFault) → Reads library all_leaf bytes plain
      → HasReadFault library all_leaf bytes fault → ⊥
  pub one_table : (some other : Plain) → Reads library all_leaf bytes some → Reads library all_leaf bytes other
      → some ≡ other
  pub one_fault : (some other : ReadFault) → HasReadFault library all_leaf bytes some
      → HasReadFault library all_leaf bytes other → some ≡ other

-- over a sound library bytes give a table or have a fault
abbrev pub EachHasSomeReading : Type 0
EachHasSomeReading = (library : Plain) (all_leaf : Bool) (bytes : List ℕ) → IsSound library
    → ((plain : Plain) × Reads library all_leaf bytes plain)
    ⊎ ((fault : ReadFault) × HasReadFault library all_leaf bytes fault)

-- no file has two readings
abbrev pub EachHasAtMostOneReading : Type 0
EachHasAtMostOneReading = (library : Plain) (all_leaf : Bool) (bytes : List ℕ) → HasAtMostOneReading library all_leaf bytes

-- from a sound library, and no more bytes than there are ids, the table is sound
abbrev pub EachReadingStaysSound : Type 0
EachReadingStaysSound =
    (library plain : Plain) (all_leaf : Bool) (bytes : List ℕ) → IsSound library
    → IsCounter (length bytes) → Reads library all_leaf bytes plain → IsSound plain
