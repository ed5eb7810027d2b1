-- Why a run ends, by the call that failed.
use Rattle.emh_io.specs.declared.sink.PutFault.{PutFault}
use Rattle.emh_io.specs.declared.sink.PutFault.TheVariants.{Failed, NoMemory}
use Rattle.emh_shell.specs.declared.fault.Halt.{Halt}
use Rattle.emh_shell.specs.declared.fault.Halt.TheVariants as halt

abbrev pub halt_of_put : PutFault → Halt
halt_of_put Failed = halt.Put
halt_of_put NoMemory = halt.NoMemory
