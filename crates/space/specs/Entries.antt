-- Entries of turns.
use Rattle.std.specs.Prelude.{ℕ, Result, Ok, Err}
use Rattle.history.specs.declared.asks.Ask.{Ask}
use Rattle.history.specs.declared.replies.Turn.{Turn}
use Rattle.history.specs.declared.replies.Refused.{Refused}
use Rattle.space.specs.declared.asked.Asked.{Asked}
use Rattle.space.specs.declared.asked.AskedEnd.{AskedEnd}
use Rattle.space.specs.declared.asked.AskedEnd.TheVariants.{Turned, Refused as Denied}

-- How a turn that is answered so ends.
abbrev pub end_of : Result Turn Refused → AskedEnd
end_of (Ok turn) = Turned turn
end_of (Err refused) = Denied refused

-- The entry of a turn.
abbrev pub entry_of : ℕ → Ask → Result Turn Refused → Asked
entry_of moment ask answer = record { moment = moment; ask = ask; end = end_of answer }
