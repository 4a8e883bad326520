-- What contracts see of a log of entries.
use Rattle.std.specs.Prelude.{ℕ, Bool, List}
use Rattle.space.specs.declared.asked.Asked.{Asked}

-- The entries of a port, oldest first; how many of them there is room for; and whether one that isn't plain may come.
pub record AskedRecord : Type 0 where
  pub items : List Asked
  pub capacity : ℕ
  pub spare : Bool
