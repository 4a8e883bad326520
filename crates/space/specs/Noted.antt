-- What is beside a turn before it is taken, so that noting it takes no memory: room for the identifiers of a return, the objects that it tells as gone, and the names.
use Rattle.std.specs.Prelude.{◌≡◌, ◌≤◌, ℕ, List, length, Result, Ok, Err, vec_capacity}
use Rattle.object_ids.specs.declared.ids.ObjId.{ObjId}
use Rattle.history.specs.declared.asks.Ask.{Ask}
use Rattle.history.specs.declared.asks.Ask.TheVariants.{Finish}
use Rattle.history.specs.declared.replies.Refused.{Refused}
use Rattle.history.specs.declared.replies.Reply.TheVariants.{Finished, Names}
use Rattle.history.specs.declared.replies.Turn.{Turn}
use Rattle.space.specs.declared.noted.Note.{Note}

-- How many objects an ask makes by a return.
abbrev pub made_by : Ask → ℕ
made_by (Finish object made listed uid) = length made
made_by _ = 0

-- The answer, where a turn has beside it the objects that it tells as gone.
abbrev pub turn_answer : Result (Turn × List ObjId) Refused → Result Turn Refused
turn_answer (Ok x) = Ok x.0
turn_answer (Err refused) = Err refused

-- There is room for so many identifiers, and these are the objects that it tells as gone, and the names.
pub record HasRoomFor (turn : Turn) (gone : List ObjId) (ids : ℕ) (names : List (List ℕ)) : Type 0 where
  pub ids_fit : (os : List ObjId) → turn.reply ≡ Finished os → length os ≤ ids
  pub gone_are : gone ≡ turn.gone
  pub names_are : (ns : List (List ℕ)) → turn.reply ≡ Names ns → names ≡ ns

abbrev pub NoteFitsIn : Result (Turn × List ObjId) Refused → ℕ → List (List ℕ) → Type 0
NoteFitsIn (Ok x) ids names = HasRoomFor x.0 x.1 ids names
NoteFitsIn (Err refused) ids names = Unit {0}

abbrev pub NoteFits : Result (Turn × List ObjId) Refused → Note → Type 0
NoteFits answer note = NoteFitsIn answer (vec_capacity note.ids) note.names
