-- What readers answer.
use Rattle.std.specs.Prelude.{◌≡◌, Option, Some, None, Result, Ok, Err}
use Rattle.journal.specs.declared.unread.Unread.{Unread}
use Rattle.journal.specs.declared.unread.Unread.TheVariants.{NotSpelled}

-- The answer is a value that is spelled there; None only where none is.
abbrev pub Finds : {X Y : Type 0} → (X → Y → Type 0) → Option X → Y → Type 0
Finds Spells (Some x) text = Spells x text
Finds {X} Spells None text = (x : X) → Spells x text → ⊥

-- The answer is a value that is spelled there; NotSpelled only where none is. Want of memory says nothing.
abbrev pub Reads : {X Y : Type 0} → (X → Y → Type 0) → Result X Unread → Y → Type 0
Reads Spells (Ok x) text = Spells x text
Reads {X} Spells (Err e) text = e ≡ NotSpelled → (x : X) → Spells x text → ⊥
