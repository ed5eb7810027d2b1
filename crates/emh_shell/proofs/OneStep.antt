-- A line of a session over told files goes one way, and leaves files told.
use Rattle.std.proofs.Common.{◌≡◌, ℕ, true, false, List, ◌++◌, Option, Some, None, inl, inr, refl, sym, ap, subst, ◌∙◌}
use Rattle.std.specs.Prelude.{Result, Ok, Err, IsSome, codes}
use Rattle.std.specs.Option.{option_map}
use Rattle.emh_base.specs.declared.state.State.{State}
use Rattle.emh_io.specs.Files.{Files, held, stored}
use Rattle.flatten_rules.specs.FlatLines.{flat_lines}
use Rattle.session_rules.specs.Session.{PlainSession}
use Rattle.script_read.specs.declared.command.Command.{Command}
use Rattle.script_read.specs.declared.command.Command.TheVariants.{Load, Cells, Write, Compare, Generate}
use Rattle.script_read.specs.declared.lines.Line.{Line}
use Rattle.vlog_write.specs.Written.{written}
use Rattle.gen_design.specs.Made.{made, top_name}
use Rattle.emh_shell.specs.Progress.{Progress}
use Rattle.emh_shell.specs.Printing.{ok_line}
use Rattle.emh_shell.specs.Answers.{Watched}
use Rattle.emh_shell.specs.Fetching.{Lacks}
use Rattle.emh_shell.specs.Netlists.{Loads, AddsCells, Writes, Compares, ComparesWith, CompareSays, TellsWhether, load_text, after_load, cells_text, after_cells, after_compare}
use Rattle.emh_shell.specs.Made.{out_of_range, made_text, after_made, GeneratesIn}
use Rattle.emh_shell.specs.Steps.{Does, Fetches, SessionAnswers, first_word}
use Rattle.emh_shell.specs.declared.fault.DesignFault.{DesignFault}
use Rattle.emh_shell.proofs.OneReply.{one_opening, one_table_reply, one_design_reply, lacks_table, lacks_design}
use Rattle.emh_shell.proofs.OneAnswer.{Same, one_answered, one_session}

one_load : (files : Files) (number : ℕ) (file top : List ℕ) (s : Progress) (said other : List ℕ) (t u : Progress) → Loads number file top (Some files) s said t → Loads number file top (Some files) s other u → Same said other t u
one_load files number file top s said other t u a b =
    let same = one_design_reply files s.library file top a.reply b.reply a.reads b.reads in
    (a.prints ∙ ap (load_text number file top) same ∙ sym b.prints, a.leads ∙ ap (after_load s) same ∙ sym b.leads)

one_cells : (files : Files) (number : ℕ) (file : List ℕ) (s : Progress) (said other : List ℕ) (t u : Progress) → AddsCells number file (Some files) s said t → AddsCells number file (Some files) s other u → Same said other t u
one_cells files number file s said other t u a b =
    let same = one_table_reply files s.library true file a.reply b.reply a.reads b.reads in
    (a.prints ∙ ap (cells_text number file) same ∙ sym b.prints, a.leads ∙ ap (after_cells s) same ∙ sym b.leads)

one_made : (line : Line) (seed modules width : ℕ) (s : Progress) (said other : List ℕ) (t u : Progress) (place : Option ℕ) → GeneratesIn line seed modules width s said t place → GeneratesIn line seed modules width s other u place → Same said other t u
one_made line seed modules width s said other t u None a b =
    let same = one_opening (made seed modules width) (top_name modules) a.reply b.reply a.opens b.opens in
    (a.prints ∙ ap (made_text line.number (top_name modules)) same ∙ sym b.prints, a.leads ∙ ap (after_made s) same ∙ sym b.leads)
one_made line seed modules width s said other t u (Some place) a b = (a.0 ∙ sym b.0, a.1 ∙ sym b.1)

one_told : (P : Type 0) (told other : List ℕ) → TellsWhether P told → TellsWhether P other → told ≡ other
one_told P told other (inl a) (inl b) = a.1 ∙ sym b.1
one_told P told other (inl a) (inr b) = absurd (b.0 a.0)
one_told P told other (inr a) (inl b) = absurd (a.0 b.0)
one_told P told other (inr a) (inr b) = a.1 ∙ sym b.1

one_says : (number : ℕ) (file top : List ℕ) (design : State) (reply : Result State DesignFault) (said other : List ℕ) → CompareSays number file top design reply said → CompareSays number file top design reply other → said ≡ other
one_says number file top design (Ok e) said other a b =
    a.2 ∙ ap (λ z. ok_line number ++ z) (one_told (flat_lines e.plain e.top ≡ flat_lines design.plain design.top) a.0 b.0 a.1 b.1) ∙ sym b.2
one_says number file top design (Err fault) said other a b = a ∙ sym b

one_compare : (files : Files) (number : ℕ) (first file top : List ℕ) (s : Progress) (said other : List ℕ) (t u : Progress) (there : Option PlainSession) → Compares number first file top (Some files) s said t there → Compares number first file top (Some files) s other u there → Same said other t u
one_compare files number first file top s said other t u None a b = (a.0 ∙ sym b.0, a.1 ∙ sym b.1)
one_compare files number first file top s said other t u (Some session) a b =
    let same = one_design_reply files s.library file top a.reply b.reply a.reads b.reads in (
      one_says number file top session.now a.reply said other a.prints (subst (λ z. CompareSays number file top session.now z other) (sym same) b.prints),
      a.leads ∙ ap (after_compare s) same ∙ sym b.leads,
    )

abbrev pub SameAll : List ℕ → List ℕ → Option Files → Option Files → Progress → Progress → Type 0
SameAll said other after another t u = (said ≡ other) × (after ≡ another) × (t ≡ u)

one_write : (holds : Option Files) (number : ℕ) (first file : List ℕ) (s : Progress) (said other : List ℕ) (after another : Option Files) (t u : Progress) (there : Option PlainSession) → Writes number first file holds s said after t there → Writes number first file holds s other another u there → SameAll said other after another t u
one_write holds number first file s said other after another t u None a b = (a.0 ∙ sym b.0, a.1 ∙ sym b.1, a.2 ∙ sym b.2)
one_write holds number first file s said other after another t u (Some session) a b = (a.0 ∙ sym b.0, a.1 ∙ sym b.1, a.2 ∙ sym b.2)

-- what is said of texts and progresses, and of files
with_files : (said other : List ℕ) (after another : Option Files) (t u : Progress) → Same said other t u → after ≡ another → SameAll said other after another t u
with_files said other after another t u both files = (both.0, files, both.1)

pub one_step : (W : Watched) (command : Command) (files : Files) (line : Line) (s : Progress) (said other : List ℕ) (after another : Option Files) (t u : Progress) → Does W command line (Some files) s said after t → Does W command line (Some files) s other another u → SameAll said other after another t u
one_step W (Load file top) files line s said other after another t u a b =
    with_files said other after another t u (one_load files line.number file top s said other t u a.0 b.0) (a.1 ∙ sym b.1)
one_step W (Cells file) files line s said other after another t u a b =
    with_files said other after another t u (one_cells files line.number file s said other t u a.0 b.0) (a.1 ∙ sym b.1)
one_step W (Write file) files line s said other after another t u a b =
    one_write (Some files) line.number (first_word line) file s said other after another t u s.session a b
one_step W (Compare file top) files line s said other after another t u a b =
    with_files said other after another t u (one_compare files line.number (first_word line) file top s said other t u s.session a.0 b.0) (a.1 ∙ sym b.1)
one_step W (Generate seed modules width) files line s said other after another t u a b =
    with_files said other after another t u (one_made line seed modules width s said other t u (out_of_range modules width) a.0 b.0) (a.1 ∙ sym b.1)
one_step W command files line s said other after another t u a b =
    with_files said other after another t u (one_answered line.number (first_word line) (SessionAnswers W command line) (one_session W command line) s said other t u a.0 b.0) (a.1 ∙ sym b.1)

-- told files stay told
abbrev pub Told : Option Files → Type 0
Told holds = (files : Files) × (holds ≡ Some files)

told_write : (files : Files) (number : ℕ) (first file : List ℕ) (s : Progress) (said : List ℕ) (after : Option Files) (t : Progress) (there : Option PlainSession) → Writes number first file (Some files) s said after t there → Told after
told_write files number first file s said after t None a = (files, a.1)
told_write files number first file s said after t (Some session) a = (stored file (written session.now.plain) files, a.1)

pub told_step : (W : Watched) (command : Command) (files : Files) (line : Line) (s : Progress) (said : List ℕ) (after : Option Files) (t : Progress) → Does W command line (Some files) s said after t → Told after
told_step W (Load file top) files line s said after t a = (files, a.1)
told_step W (Cells file) files line s said after t a = (files, a.1)
told_step W (Write file) files line s said after t a = told_write files line.number (first_word line) file s said after t s.session a
told_step W (Compare file top) files line s said after t a = (files, a.1)
told_step W (Generate seed modules width) files line s said after t a = (files, a.1)
told_step W command files line s said after t a = (files, a.1)

-- a line doesn't go on that fetches a file that isn't held
stuck_compare : (files : Files) (number : ℕ) (first file top : List ℕ) (s : Progress) (said : List ℕ) (t : Progress) (there : Option PlainSession) → IsSome there → Lacks (Some files) file → Compares number first file top (Some files) s said t there → ⊥
stuck_compare files number first file top s said t None some lacks a = let never : false ≡ true = some in cc
stuck_compare files number first file top s said t (Some session) some lacks a = lacks_design files s.library file top a.reply lacks a.reads

pub stuck_step : (W : Watched) (command : Command) (files : Files) (line : Line) (s : Progress) (name said : List ℕ) (after : Option Files) (t : Progress) → Fetches command s name → Lacks (Some files) name → Does W command line (Some files) s said after t → ⊥
stuck_step W (Load file top) files line s name said after t by lacks a =
    lacks_design files s.library file top a.0.reply (ap (held files) (sym by) ∙ lacks) a.0.reads
stuck_step W (Cells file) files line s name said after t by lacks a =
    lacks_table files s.library true file a.0.reply (ap (held files) (sym by) ∙ lacks) a.0.reads
stuck_step W (Compare file top) files line s name said after t by lacks a =
    stuck_compare files line.number (first_word line) file top s said t s.session by.0 (ap (held files) (sym by.1) ∙ lacks) a.0
stuck_step W command files line s name said after t by lacks a = by
