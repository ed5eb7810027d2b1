use Rattle.edit_rules.specs.declared.judged.Judged.{Judged}
use Rattle.edit_rules.specs.declared.judged.Judged.TheVariants as judged
use Rattle.reports.specs.declared.fault.ReportFault.{ReportFault}
use Rattle.reports.specs.declared.fault.ReportFault.TheVariants as fault

-- what a look-up refuses, as a report's fault
abbrev pub fault_of : Judged → ReportFault
fault_of (judged.Rule refusal) = fault.Rule refusal
fault_of judged.NoMemory = fault.NoMemory
