-- The entries of a log's rows.
use Rattle.std.specs.Prelude.{◌≡◌, ◌<◌, ℕ, List, [], slice_get, unwrap_or}
use Rattle.history.specs.declared.asks.Ask.{Ask}
use Rattle.history.specs.declared.asks.Ask.TheVariants.{Begin, Finish, Abandon, Ack, Tick}
use Rattle.history.specs.declared.replies.Reply.{Reply}
use Rattle.history.specs.declared.replies.Reply.TheVariants.{Started, Finished, Done}
use Rattle.history.specs.declared.replies.Refused.TheVariants.{OutOfMemory}
use Rattle.history.specs.declared.replies.Turn.{Turn}
use Rattle.space.specs.declared.asked.Asked.{Asked}
use Rattle.space.specs.declared.asked.AskedEnd.{AskedEnd}
use Rattle.space.specs.declared.asked.AskedEnd.TheVariants.{Turned, Abandoned, Refused as Denied}
use Rattle.ports.specs.declared.asked_rows.AskedRow.{AskedRow}
use Rattle.ports.specs.declared.asked_rows.AskedWhat.{AskedWhat}
use Rattle.ports.specs.declared.asked_rows.AskedWhat.TheVariants.{Began, Returned, GivenUp, Acked, Whole}

-- ---- plain entries

abbrev pub IsStarted : Reply → Type 0
IsStarted (Started kind) = Unit {0}
IsStarted _ = ⊥

abbrev pub IsAbandon : Ask → Type 0
IsAbandon (Abandon object) = Unit {0}
IsAbandon _ = ⊥

-- A reply that starts a call, one to a Finish that makes and lists nothing and ends a call, or the reply to an Ack.
abbrev pub IsPlainReply : Ask → Reply → Type 0
IsPlainReply (Begin object) reply = IsStarted reply
IsPlainReply (Finish object made listed uid) reply = (made ≡ []) × (listed ≡ []) × (reply ≡ Finished [])
IsPlainReply (Ack uid) reply = reply ≡ Done
IsPlainReply _ reply = ⊥

-- An entry with such a reply and nothing told as gone, or of a call that was ended without an answer.
abbrev pub IsPlainEnd : Ask → AskedEnd → Type 0
IsPlainEnd ask (Turned turn) = (turn.gone ≡ []) × IsPlainReply ask turn.reply
IsPlainEnd ask (Abandoned place) = IsAbandon ask
IsPlainEnd ask (Denied refused) = ⊥

-- ---- rows

-- A turn with nothing told as gone.
abbrev pub plain_turn : ℕ → Reply → Turn
plain_turn place reply = record { place = place; reply = reply; gone = [] }

-- The entry of a number that no entry has.
abbrev pub no_entry : Asked
no_entry = record { moment = 0; ask = Tick; end = Denied OutOfMemory }

-- The entry that is kept whole under this number.
abbrev pub whole_at : List Asked → ℕ → Asked
whole_at wholes number = unwrap_or (slice_get wholes number) no_entry

-- The entry of a moment that says this, where these are the entries that are kept whole, by their numbers.
abbrev pub entry_with : List Asked → ℕ → AskedWhat → Asked
entry_with wholes moment (Began place object kind) = record { moment = moment; ask = Begin object; end = Turned (plain_turn place (Started kind)) }
entry_with wholes moment (Returned place object uid) = record { moment = moment; ask = Finish object [] [] uid; end = Turned (plain_turn place (Finished [])) }
entry_with wholes moment (GivenUp place object) = record { moment = moment; ask = Abandon object; end = Abandoned place }
entry_with wholes moment (Acked place uid) = record { moment = moment; ask = Ack uid; end = Turned (plain_turn place Done) }
entry_with wholes moment (Whole number) = whole_at wholes number

-- The entry of a row.
abbrev pub entry_of_row : List Asked → AskedRow → Asked
entry_of_row wholes row = entry_with wholes row.moment row.what

-- The number that it says is one of so many.
abbrev pub IsAmongWhole : ℕ → AskedWhat → Type 0
IsAmongWhole count (Whole number) = number < count
IsAmongWhole count _ = Unit {0}

abbrev pub IsKnownRow : ℕ → AskedRow → Type 0
IsKnownRow count row = IsAmongWhole count row.what
