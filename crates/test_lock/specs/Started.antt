-- Whether a call was begun, and whether all calls that were begun have ended.
use Rattle.std.specs.Prelude.{◌≡◌, Bool, false, List, Result, Ok, Err}
use Rattle.object_ids.specs.declared.ids.ObjId.{ObjId}
use Rattle.history.specs.declared.replies.Refused.{Refused}
use Rattle.history.specs.declared.replies.Turn.{Turn}
use Rattle.ports.specs.Balance.{calls_begun, calls_ended}
use Rattle.ports.specs.Ports.{is_started}
use Rattle.space.specs.declared.asked.Asked.{Asked}

-- The answer is that a call was begun.
abbrev pub started_by : Result Turn Refused → Bool
started_by (Ok turn) = is_started turn.reply
started_by (Err refused) = false

-- All calls of the object that the entries begin they end.
abbrev pub AllEnded : List Asked → ObjId → Type 0
AllEnded entries o = calls_begun entries o ≡ calls_ended entries o
