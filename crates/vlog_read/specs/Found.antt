-- A fault of the tokens, or want of memory.
use Rattle.vlog_read.specs.declared.fault.ParseFault.{ParseFault}
use Rattle.vlog_read.specs.declared.fault.ParseFault.TheVariants.{Unexpected, Unsupported, NoMemory}

-- P holds of a fault, unless memory was wanting
abbrev pub UnlessNoMemory : (ParseFault → Type 0) → ParseFault → Type 0
UnlessNoMemory P (Unexpected at) = P (Unexpected at)
UnlessNoMemory P (Unsupported at word) = P (Unsupported at word)
UnlessNoMemory P NoMemory = Unit {0}
