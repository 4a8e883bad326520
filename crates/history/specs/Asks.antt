-- Kinds of asks.
use Rattle.std.specs.Prelude.{Bool, true, false}
use Rattle.history.specs.declared.asks.Ask.{Ask}
use Rattle.history.specs.declared.asks.Ask.TheVariants.{Finish, Dirty, Clean}

-- An ask that has lists of kinds or objects.
abbrev pub has_lists : Ask → Bool
has_lists (Finish object made listed uid) = true
has_lists (Dirty client number asked objects) = true
has_lists (Clean client number objects strong) = true
has_lists _ = false
