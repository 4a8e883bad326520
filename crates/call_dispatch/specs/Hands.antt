-- What holds of a hand that no connection has yet.
use Rattle.std.specs.Prelude.{◌≡◌, List, [], Option, Some, None}
use Rattle.call_dispatch.specs.Acts.{Call, States}

-- A hand that shows its calls, which are these, was told of nothing yet, nor given an invocation.
abbrev pub IsUntold : Option (List Call) → Type 0
IsUntold None = Unit {0}
IsUntold (Some told) = told ≡ []

-- A hand that shows its numbers of objects, which are these, has none yet.
abbrev pub IsUncounted : Option States → Type 0
IsUncounted None = Unit {0}
IsUncounted (Some numbers) = numbers ≡ []
