-- A file of a told shelf is one table, or has one fault; and so as a design.
use Rattle.std.proofs.Common.{◌≡◌, ℕ, Bool, false, List, Option, Some, None, refl, sym, ap, subst, ◌∙◌, Ok, Err}
use Rattle.std.specs.Prelude.{Result}
use Rattle.emh_base.specs.declared.plain.Plain.{Plain}
use Rattle.emh_base.specs.declared.state.State.{State}
use Rattle.emh_io.specs.Files.{Files, held}
use Rattle.vlog_elab.specs.declared.reads.ReadFault.{ReadFault}
use Rattle.vlog_elab.specs.Reads.{Reads, HasReadFault}
use Rattle.vlog_elab.proofs.OneReading.{one_reading}
use Rattle.edit_rules.specs.declared.opening.OpenFault.{OpenFault}
use Rattle.emh_shell.specs.Fetching.{Gives, Lacks, HasTable, HasDesign, Opens}
use Rattle.emh_shell.specs.declared.fault.FileFault.{FileFault}
use Rattle.emh_shell.specs.declared.fault.FileFault.TheVariants.{TooLong, Reading}
use Rattle.emh_shell.specs.declared.fault.DesignFault.{DesignFault}
use Rattle.emh_shell.specs.declared.fault.DesignFault.TheVariants.{File, Opening}
use Rattle.emh_shell.proofs.Giving.{ok_long, ok_ok, lacks_ok, lacks_long}

module _ (files : Files) (library : Plain) (all_leaf : Bool) (file : List ℕ) where
  both_ways : (p : Plain) (f : ReadFault) → HasTable (Some files) library all_leaf file (Ok p) → HasTable (Some files) library all_leaf file (Err (Reading f)) → ⊥
  both_ways p f a b =
      (one_reading library all_leaf a.0).not_both p f a.2
      (subst (λ z. HasReadFault library all_leaf z f) (sym (ok_ok files file a.0 b.0 a.1 b.1)) b.2)

  pub one_table_reply : (reply other : Result Plain FileFault) → HasTable (Some files) library all_leaf file reply → HasTable (Some files) library all_leaf file other → reply ≡ other
  one_table_reply (Ok p) (Ok q) a b =
      ap Ok ((one_reading library all_leaf a.0).one_table p q a.2
      (subst (λ z. Reads library all_leaf z q) (sym (ok_ok files file a.0 b.0 a.1 b.1)) b.2))
  one_table_reply (Ok p) (Err TooLong) a b = absurd (ok_long files file a.0 a.1 b)
  one_table_reply (Ok p) (Err (Reading f)) a b = absurd (both_ways p f a b)
  one_table_reply (Err TooLong) (Ok q) a b = absurd (ok_long files file b.0 b.1 a)
  one_table_reply (Err TooLong) (Err TooLong) a b = refl
  one_table_reply (Err TooLong) (Err (Reading f)) a b = absurd (ok_long files file b.0 b.1 a)
  one_table_reply (Err (Reading f)) (Ok q) a b = absurd (both_ways q f b a)
  one_table_reply (Err (Reading f)) (Err TooLong) a b = absurd (ok_long files file a.0 a.1 b)
  one_table_reply (Err (Reading f)) (Err (Reading g)) a b =
      ap (λ z. Err (Reading z)) ((one_reading library all_leaf a.0).one_fault f g a.2
      (subst (λ z. HasReadFault library all_leaf z g) (sym (ok_ok files file a.0 b.0 a.1 b.1)) b.2))

  -- a file that isn't held is no table
  pub lacks_table : (reply : Result Plain FileFault) → Lacks (Some files) file → HasTable (Some files) library all_leaf file reply → ⊥
  lacks_table (Ok p) lacks a = lacks_ok files file a.0 lacks a.1
  lacks_table (Err TooLong) lacks a = lacks_long files file lacks a
  lacks_table (Err (Reading f)) lacks a = lacks_ok files file a.0 lacks a.1

-- a table is opened in one way
pub one_opening : (plain : Plain) (top : List ℕ) (reply other : Result State OpenFault) → Opens plain top reply → Opens plain top other → reply ≡ other
one_opening plain top (Ok d) (Ok e) a b = let same : Some d ≡ Some e = sym a.1 ∙ b.1 in ap Ok (cc)
one_opening plain top (Ok d) (Err f) a b = let never : None ≡ Some f = sym a.0 ∙ b in absurd (cc)
one_opening plain top (Err f) (Ok d) a b = let never : None ≡ Some f = sym b.0 ∙ a in absurd (cc)
one_opening plain top (Err f) (Err g) a b = let same : Some f ≡ Some g = sym a ∙ b in ap Err (cc)

module _ (files : Files) (library : Plain) (file top : List ℕ) where
  one_table : (p q : Plain) → HasTable (Some files) library false file (Ok p) → HasTable (Some files) library false file (Ok q) → p ≡ q
  one_table p q a b = let same = one_table_reply files library false file (Ok p) (Ok q) a b in cc

  table_or_fault : (p : Plain) (f : FileFault) → HasTable (Some files) library false file (Ok p) → HasTable (Some files) library false file (Err f) → ⊥
  table_or_fault p f a b =
      let never = one_table_reply files library false file (Ok p) (Err f) a b in
      cc

  -- so is the table of a file
  pub one_opened : (reply other : Result State OpenFault) (p q : Plain) → HasTable (Some files) library false file (Ok p) → HasTable (Some files) library false file (Ok q) → Opens p top reply → Opens q top other → reply ≡ other
  one_opened reply other p q has has_too a b =
      one_opening q top reply other (subst (λ z. Opens z top reply) (one_table p q has has_too) a) b

  abbrev opened : Result State OpenFault → Result State DesignFault
  opened (Ok design) = Ok design
  opened (Err fault) = Err (Opening fault)

  pub one_design_reply : (reply other : Result State DesignFault) → HasDesign (Some files) library file top reply → HasDesign (Some files) library file top other → reply ≡ other
  one_design_reply (Ok d) (Ok e) a b = ap opened (one_opened (Ok d) (Ok e) a.0 b.0 a.1 b.1 a.2 b.2)
  one_design_reply (Ok d) (Err (File f)) a b = absurd (table_or_fault a.0 f a.1 b)
  one_design_reply (Ok d) (Err (Opening f)) a b = ap opened (one_opened (Ok d) (Err f) a.0 b.0 a.1 b.1 a.2 b.2)
  one_design_reply (Err (File f)) (Ok e) a b = absurd (table_or_fault b.0 f b.1 a)
  one_design_reply (Err (File f)) (Err (File g)) a b =
      let same = one_table_reply files library false file (Err f) (Err g) a b in
      ap (λ z. Err (File z)) (cc)
  one_design_reply (Err (File f)) (Err (Opening g)) a b = absurd (table_or_fault b.0 f b.1 a)
  one_design_reply (Err (Opening f)) (Ok e) a b = ap opened (one_opened (Err f) (Ok e) a.0 b.0 a.1 b.1 a.2 b.2)
  one_design_reply (Err (Opening f)) (Err (File g)) a b = absurd (table_or_fault a.0 g a.1 b)
  one_design_reply (Err (Opening f)) (Err (Opening g)) a b = ap opened (one_opened (Err f) (Err g) a.0 b.0 a.1 b.1 a.2 b.2)

  pub lacks_design : (reply : Result State DesignFault) → Lacks (Some files) file → HasDesign (Some files) library file top reply → ⊥
  lacks_design (Ok d) lacks a = lacks_table files library false file (Ok a.0) lacks a.1
  lacks_design (Err (File f)) lacks a = lacks_table files library false file (Err f) lacks a
  lacks_design (Err (Opening f)) lacks a = lacks_table files library false file (Ok a.0) lacks a.1
