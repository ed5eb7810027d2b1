-- The numbers by which faults of the grammar are told in print.
use Rattle.std.specs.Prelude.{ℕ}
use Rattle.vlog_read.specs.declared.fault.ParseFault.{ParseFault}
use Rattle.vlog_read.specs.declared.fault.ParseFault.TheVariants.{Unexpected, Unsupported, NoMemory}

-- want of memory is never told
abbrev pub parse_code : ParseFault → ℕ
parse_code (Unexpected at) = 48
parse_code (Unsupported at word) = 49
parse_code NoMemory = 0
