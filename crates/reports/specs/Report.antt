-- The reports of a design, each a function of its state, and how a call that makes one answers.
use Rattle.std.specs.Prelude.{◌≡◌, ℕ, Bool, true, false, List, ◌++◌, take, length, Option, Some, None, Result, Ok, Err}
use Rattle.emh_base.specs.declared.report.Kind.{Kind}
use Rattle.emh_base.specs.declared.report.Kind.TheVariants as kind
use Rattle.emh_base.specs.declared.state.State.{State}
use Rattle.flatten_rules.specs.Domains.{root_of}
use Rattle.script_read.specs.Resolve.{Looked, on, a_module}
use Rattle.reports.specs.Block.{block_text}
use Rattle.reports.specs.Counts.{counts_text}
use Rattle.reports.specs.Modules.{modules_text}
use Rattle.reports.specs.Net.{net_text}
use Rattle.reports.specs.NetBit.{a_net_bit}
use Rattle.reports.specs.Occurrences.{occurrences_text}
use Rattle.reports.specs.Pins.{pins_text}
use Rattle.reports.specs.Where.{where_text}
use Rattle.reports.specs.declared.fault.ReportFault.{ReportFault}
use Rattle.reports.specs.declared.fault.ReportFault.TheVariants as fault

-- the log is a session's and no design's
abbrev pub is_log : Kind → Bool
is_log kind.Log = true
is_log _ = false

-- The text of each report. The words that name a net bit or a module are looked up; each stands at the place 2 of its
-- line.
abbrev pub report_of : State → Kind → Option (Looked (List ℕ))
report_of S kind.Pins = Some (Ok (pins_text S.plain S.top))
report_of S kind.Block = Some (Ok (block_text S.plain S.top S.places))
report_of S kind.Occurrences = Some (Ok (occurrences_text S.plain S.top))
report_of S kind.Modules = Some (Ok (modules_text S.plain))
report_of S kind.Counts = Some (Ok (counts_text S.plain S.top S.places))
report_of S (kind.Net path net index) =
    Some (on (a_net_bit S 2 path net index) (λ bit. Ok (net_text S.plain S.top (root_of S.plain S.top bit))))
report_of S (kind.Where name) = Some (on (a_module S 2 name) (λ id. Ok (where_text S.plain S.top id)))
report_of S kind.Log = None

-- The answer of a call that puts a report last: its text is put, or the report is refused and all is as before. After
-- want of memory some of the text may stand there.
abbrev pub PutsReport : Option (Looked (List ℕ)) → List ℕ → Result (Unit {0}) ReportFault → List ℕ → Type 0
PutsReport wanted old (Ok done) new = (text : List ℕ) × (wanted ≡ Some (Ok text)) × (new ≡ old ++ text)
PutsReport wanted old (Err (fault.Rule refusal)) new = (wanted ≡ Some (Err refusal)) × (new ≡ old)
PutsReport wanted old (Err fault.NoMemory) new = take (length old) new ≡ old

-- the answer of a call that gives a report
abbrev pub GivesReport : Option (Looked (List ℕ)) → Result (List ℕ) ReportFault → Type 0
GivesReport wanted (Ok text) = wanted ≡ Some (Ok text)
GivesReport wanted (Err (fault.Rule refusal)) = wanted ≡ Some (Err refusal)
GivesReport wanted (Err fault.NoMemory) = Unit {0}
