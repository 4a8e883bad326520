-- The ends of connections.
use Rattle.call_dispatch.specs.declared.end.ConnEnd.{ConnEnd}
use Rattle.call_dispatch.specs.declared.end.ConnEnd.TheVariants.{ReadFault, WriteFault, OutOfMemory}

abbrev pub IsWriteFault : ConnEnd → Type 0
IsWriteFault (WriteFault sent) = Unit {0}
IsWriteFault _ = ⊥

-- The input alone brings this end: nothing outside failed.
abbrev pub IsSettled : ConnEnd → Type 0
IsSettled ReadFault = ⊥
IsSettled (WriteFault sent) = ⊥
IsSettled OutOfMemory = ⊥
IsSettled _ = Unit {0}
