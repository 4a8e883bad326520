-- The host that the program serves at.
use Rattle.std.specs.Prelude.{ℕ, codes, List}

-- The text `127.0.0.1`.
abbrev pub loopback_host : List ℕ
loopback_host = codes "127.0.0.1"
