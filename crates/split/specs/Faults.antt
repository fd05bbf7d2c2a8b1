-- The fault that may come at any line.
use Rattle.split.specs.declared.faults.Fault.{Fault}
use Rattle.split.specs.declared.faults.Fault.TheVariants.{Memory}

-- no memory is left
abbrev pub IsMemory : Fault → Type 0
IsMemory (Memory e) = Unit {0}
IsMemory other = ⊥
