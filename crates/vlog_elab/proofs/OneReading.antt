-- Over a library a file has at most one table or one fault.
use Rattle.std.proofs.Common.{arith, ◌≡◌, ◌≤◌, ℕ, Bool, List, length, ap, Result, Ok, Err, inl, inr}
use Rattle.std.specs.Prelude.{◌⊎◌, IfOk, IfErr, MatchResult}
use Rattle.emh_base.specs.declared.plain.Plain.{Plain}
use Rattle.vlog_lex.specs.declared.token.LexFault.TheVariants as lex
use Rattle.vlog_lex.specs.declared.token.LexFault.TheVariants.{BadByte, OpenComment, OpenAttribute, BadLiteral, LongName, Directive}
use Rattle.vlog_lex.proofs.OneAnswer.{one_list, one_fault, not_both}
use Rattle.vlog_lex.proofs.OneAnswer.{law as lex_answer}
use Rattle.vlog_lex.specs.declared.token.Token.{Token}
use Rattle.vlog_lex.specs.declared.token.LexFault.{LexFault}
use Rattle.vlog_lex.specs.Lexes.{Lexes}
use Rattle.vlog_lex.specs.Lexes as lex_rules
use Rattle.vlog_read.specs.declared.fault.ParseFault.{ParseFault}
use Rattle.vlog_read.specs.Sentence.{Spells}
use Rattle.vlog_read.specs.Sentence as sentence
use Rattle.vlog_read.specs.declared.tree.Tree.{Tree}
use Rattle.vlog_read.specs.HasTree.{HasTree}
use Rattle.vlog_read.specs.declared.fault.ParseFault.TheVariants as parse
use Rattle.vlog_read.specs.declared.fault.ParseFault.TheVariants.{Unexpected, Unsupported}
use Rattle.vlog_read.proofs.OneAnswer.{law}
use Rattle.vlog_read.proofs.OneTree.{one-tree}
use Rattle.vlog_elab.specs.declared.fault.ElabFault.TheVariants as elab
use Rattle.vlog_elab.specs.declared.fault.ElabFault.TheVariants.{Fault}
use Rattle.vlog_elab.specs.declared.reads.ReadFault.{ReadFault}
use Rattle.vlog_elab.specs.declared.reads.ReadFault.TheVariants.{Lex, Parse, Elab}
use Rattle.vlog_elab.specs.Reads.{Reads, HasParseFault, HasElabFault, HasReadFault, UnlessNoMemory, EachHasAtMostOneReading, EachHasSomeReading, EachReadingStaysSound}
use Rattle.vlog_elab.specs.Elaboration.{Elaborates}
use Rattle.vlog_elab.specs.Elaboration as elaboration
use Rattle.vlog_elab.specs.declared.fault.ElabFault.{ElabFault}
use Rattle.vlog_elab.proofs.OneAnswer.{one_answer}
use Rattle.vlog_elab.proofs.SomeAnswer.{some_answer}
use Rattle.vlog_elab.proofs.Staying.{stays_sound}
use Rattle.vlog_elab.proofs.Sized.{source-few}
use Rattle.vlog_lex.proofs.Few.{lexes_few}

-- what has a tree has no fault of its grammar
no-parse-fault : (bytes : List ℕ) (tree : Tree) (fault : _) → HasTree bytes tree → HasParseFault bytes fault → ⊥
no-parse-fault bytes tree fault a b =
    let same = one_list bytes a.tokens b.tokens a.lexes b.lexes in
    (law (length bytes) a.tokens).not_both tree fault a.spells (rw same b.has_fault)

one-parse-fault : (bytes : List ℕ) (fault other : _) → HasParseFault bytes fault → HasParseFault bytes other → fault ≡ other
one-parse-fault bytes fault other a b =
    let same = one_list bytes a.tokens b.tokens a.lexes b.lexes in
    (law (length bytes) a.tokens).one_fault fault other a.has_fault (rw same b.has_fault)

module _ (library : Plain) (all_leaf : Bool) (bytes : List ℕ) where
  pub one-table : (plain other : Plain) → Reads library all_leaf bytes plain → Reads library all_leaf bytes other → plain ≡ other
  one-table plain other a b =
      let same = one-tree bytes a.tree b.tree a.has_tree b.has_tree in
      (one_answer library all_leaf a.tree).one_table plain other a.elaborates (rw same b.elaborates)

  no-elab-fault : (plain : Plain) (fault : _) → Reads library all_leaf bytes plain → HasElabFault library all_leaf bytes fault → ⊥
  no-elab-fault plain fault a b =
      let same = one-tree bytes a.tree b.tree a.has_tree b.has_tree in
      (one_answer library all_leaf a.tree).not_both plain fault a.elaborates (rw same b.has_fault)

  pub no-fault : (plain : Plain) (fault : ReadFault) → Reads library all_leaf bytes plain → HasReadFault library all_leaf bytes fault → ⊥
  no-fault plain (Lex fault) a b = not_both bytes a.has_tree.tokens fault a.has_tree.lexes b
  no-fault plain (Parse fault) a b = no-parse-fault bytes a.tree fault a.has_tree b
  no-fault plain (Elab fault) a b = no-elab-fault plain fault a b

  one-elab-fault : (fault other : _) → HasElabFault library all_leaf bytes fault → HasElabFault library all_leaf bytes other → fault ≡ other
  one-elab-fault fault other a b =
      let same = one-tree bytes a.tree b.tree a.has_tree b.has_tree in
      (one_answer library all_leaf a.tree).one_fault fault other a.has_fault (rw same b.has_fault)

  pub one-read-fault : (fault other : ReadFault) → HasReadFault library all_leaf bytes fault → HasReadFault library all_leaf bytes other → fault ≡ other
  one-read-fault (Lex fault) (Lex other) a b = ap Lex (one_fault bytes fault other a b)
  one-read-fault (Lex fault) (Parse other) a b = absurd (not_both bytes b.tokens fault b.lexes a)
  one-read-fault (Lex fault) (Elab other) a b = absurd (not_both bytes b.has_tree.tokens fault b.has_tree.lexes a)
  one-read-fault (Parse fault) (Lex other) a b = absurd (not_both bytes a.tokens other a.lexes b)
  one-read-fault (Parse fault) (Parse other) a b = ap Parse (one-parse-fault bytes fault other a b)
  one-read-fault (Parse fault) (Elab other) a b = absurd (no-parse-fault bytes b.tree fault b.has_tree a)
  one-read-fault (Elab fault) (Lex other) a b = absurd (not_both bytes a.has_tree.tokens other a.has_tree.lexes b)
  one-read-fault (Elab fault) (Parse other) a b = absurd (no-parse-fault bytes a.tree other a.has_tree b)
  one-read-fault (Elab fault) (Elab other) a b = ap Elab (one-elab-fault fault other a b)

pub one_reading : EachHasAtMostOneReading
one_reading library all_leaf bytes = record {
  not_both = no-fault library all_leaf bytes;
  one_table = one-table library all_leaf bytes;
  one_fault = one-read-fault library all_leaf bytes;
}

-- what follows from a fault that was told holds, unless memory was wanting
follows : (P Q : ReadFault → Type 0) → ((it : ReadFault) → P it → Q it) → (fault : ReadFault) → UnlessNoMemory P fault → UnlessNoMemory Q fault
follows P Q each (Lex (BadByte at)) told = each (Lex (BadByte at)) told
follows P Q each (Lex (OpenComment at)) told = each (Lex (OpenComment at)) told
follows P Q each (Lex (OpenAttribute at)) told = each (Lex (OpenAttribute at)) told
follows P Q each (Lex (BadLiteral at)) told = each (Lex (BadLiteral at)) told
follows P Q each (Lex (LongName at)) told = each (Lex (LongName at)) told
follows P Q each (Lex (Directive at)) told = each (Lex (Directive at)) told
follows P Q each (Lex lex.NoMemory) told = tt
follows P Q each (Parse (Unexpected at)) told = each (Parse (Unexpected at)) told
follows P Q each (Parse (Unsupported at word)) told = each (Parse (Unsupported at word)) told
follows P Q each (Parse parse.NoMemory) told = tt
follows P Q each (Elab (Fault kind at name)) told = each (Elab (Fault kind at name)) told
follows P Q each (Elab elab.NoMemory) told = tt

module _ (library : Plain) (all_leaf : Bool) (bytes : List ℕ) where
  pub each-table : (result : Result Plain ReadFault) → IfOk result (Reads library all_leaf bytes)
      → IfErr result (UnlessNoMemory (HasReadFault library all_leaf bytes)) → (made : Plain) → Reads library all_leaf bytes made
      → MatchResult result (λ it. it ≡ made) (UnlessNoMemory (λ _. ⊥))
  each-table (Ok plain) table fault made is = one-table library all_leaf bytes plain made table is
  each-table (Err told) table fault made is =
      follows (HasReadFault library all_leaf bytes) (λ _. ⊥) (λ it has. no-fault library all_leaf bytes made it is has) told fault

  pub each-fault : (result : Result Plain ReadFault) → IfOk result (Reads library all_leaf bytes)
      → IfErr result (UnlessNoMemory (HasReadFault library all_leaf bytes)) → (fault : ReadFault) → HasReadFault library all_leaf bytes fault
      → MatchResult result (λ _. ⊥) (UnlessNoMemory (λ it. it ≡ fault))
  each-fault (Ok plain) table told fault has = no-fault library all_leaf bytes plain fault table has
  each-fault (Err it) table told fault has =
      follows (HasReadFault library all_leaf bytes) (λ other. other ≡ fault) (λ other here. one-read-fault library all_leaf bytes other fault here has) it told

pub some_reading : EachHasSomeReading
some_reading library all_leaf bytes sound = by_tokens (lex_answer bytes).some
  where
    by_table : (tree : Tree) → HasTree bytes tree → ((plain : Plain) × Elaborates library all_leaf tree plain) ⊎ ((fault : ElabFault) × elaboration.HasFault library all_leaf tree fault)
        → ((plain : Plain) × Reads library all_leaf bytes plain) ⊎ ((fault : ReadFault) × HasReadFault library all_leaf bytes fault)
    by_table tree has (inl made) = inl (made.0, record { tree = tree; has_tree = has; elaborates = made.1 })
    by_table tree has (inr told) = inr (Elab told.0, record { tree = tree; has_tree = has; has_fault = told.1 })

    by_tree : (tokens : List Token) → Lexes bytes tokens → ((tree : Tree) × Spells tree tokens) ⊎ ((fault : ParseFault) × sentence.HasFault (length bytes) tokens fault)
        → ((plain : Plain) × Reads library all_leaf bytes plain) ⊎ ((fault : ReadFault) × HasReadFault library all_leaf bytes fault)
    by_tree tokens lexes (inl spelled) =
        by_table spelled.0 (record { tokens = tokens; lexes = lexes; spells = spelled.1 }) (some_answer library all_leaf spelled.0 sound)
    by_tree tokens lexes (inr told) = inr (Parse told.0, record { tokens = tokens; lexes = lexes; has_fault = told.1 })

    by_tokens : ((tokens : List Token) × Lexes bytes tokens) ⊎ ((fault : LexFault) × lex_rules.HasFault bytes fault)
        → ((plain : Plain) × Reads library all_leaf bytes plain) ⊎ ((fault : ReadFault) × HasReadFault library all_leaf bytes fault)
    by_tokens (inl read) = by_tree read.0 read.1 (law (length bytes) read.0).some
    by_tokens (inr told) = inr (Lex told.0, told.1)

-- a file's table has no more nets and instances in a module than the file has bytes
pub reading_sound : EachReadingStaysSound
reading_sound library plain all_leaf bytes sound few reads =
    let tokens : length reads.has_tree.tokens ≤ 4294967295 = omega (arith, few, lexes_few bytes reads.has_tree.tokens reads.has_tree.lexes) in
    stays_sound library all_leaf reads.tree plain sound (source-few 4294967295 reads.has_tree.spells tokens) reads.elaborates
