-- Legal histories: what a connection's entries leave of one is legal too.
use Rattle.std.specs.Prelude.{ℕ, List}
use Rattle.history.specs.declared.asks.SpaceConfig.{SpaceConfig}
use Rattle.history.specs.declared.asks.Event.{Event}
use Rattle.history.specs.Steps.{IsLegal}
use Rattle.space.specs.declared.asked.Asked.{Asked}
use Rattle.ports.specs.Ports.{Went}

-- Entries lead from a legal history to a legal one.
abbrev pub WentStaysLegal : Type 0
WentStaysLegal = (config : SpaceConfig) (by : ℕ) (h last : List Event) (entries : List Asked) → IsLegal config h → Went config by h entries last → IsLegal config last
