-- What ends a program. Assumes nothing.
use Rattle.std.specs.declared.io.ErrorKind.{ErrorKind}
use Rattle.std.specs.declared.io.ErrorKind.TheVariants.{OutOfMemory}
use Rattle.console.specs.declared.fault.Fault.{Fault}
use Rattle.console.specs.declared.fault.Fault.TheVariants.{Memory, Output}

-- an error of the output, unless memory ran out
abbrev pub fault_of : ErrorKind → Fault
fault_of OutOfMemory = Memory
fault_of _ = Output
