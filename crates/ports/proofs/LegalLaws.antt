-- A connection's entries lead from a legal history to a legal one.
use Rattle.std.proofs.Common.{ℕ, List, [], ◌∷◌, Ok, Err, sym, subst}
use Rattle.history.specs.declared.asks.Ask.{Ask}
use Rattle.history.specs.declared.asks.SpaceConfig.{SpaceConfig}
use Rattle.history.specs.declared.asks.Event.{Event}
use Rattle.history.specs.Steps.{IsLegal, turn_of}
use Rattle.history.proofs.StepLaws.{IsLegal-step}
use Rattle.space.specs.declared.asked.AskedEnd.{AskedEnd}
use Rattle.space.specs.declared.asked.AskedEnd.TheVariants.{Turned, Abandoned, Refused as Denied}
use Rattle.space.specs.Acts.{event_of}
use Rattle.ports.specs.Legal.{WentStaysLegal}
use Rattle.ports.specs.Ports.{GoesBy}

-- One entry.
one-legal : (config : SpaceConfig) (by : ℕ) (h next : List Event) (moment : ℕ) (ask : Ask) (end : AskedEnd) → IsLegal config h → GoesBy config by h moment ask end next → IsLegal config next
one-legal config by h next moment ask (Turned turn) legal step = IsLegal-step config h next (event_of by moment ask) (Ok turn) legal step
one-legal config by h next moment ask (Denied refused) legal gave = IsLegal-step config h next (event_of by moment ask) (Err refused) legal gave.1
one-legal config by h next moment ask (Abandoned place) legal gave = IsLegal-step config h next (event_of by moment ask) (Ok (turn_of config h (event_of by moment ask))) legal gave.2

pub went-stays-legal : WentStaysLegal
went-stays-legal config by h h2 [] legal went = subst (IsLegal config) (sym went) legal
went-stays-legal config by h h2 (entry ∷ more) legal went =
    went-stays-legal config by went.0 h2 more (one-legal config by h went.0 entry.moment entry.ask entry.end legal went.1) went.2
