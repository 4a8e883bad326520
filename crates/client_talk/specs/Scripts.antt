-- A command as a script: what it does next, step by step. And what the bytes, hosts and moments to come make of a script.
use Rattle.std.specs.Prelude.{ℕ, ◌+◌, List, [], ◌∷◌, drop, Option, Some, None, Result, Ok, Err, nat_eq, if◌then◌else◌}
use Rattle.client_talk.specs.declared.place.Place.{Place}

-- Why a command goes no further.
pub data Cause : Type 0 where
  -- there was no memory
  by_memory : Cause
  -- no link was given
  by_dial : Cause
  -- a link's source failed
  by_read : Cause
  -- a link's sink failed
  by_write : Cause
  -- a link's bytes end
  by_shortage : Cause
  -- a link's bytes say so
  by_answer : Cause
  -- the client's table refused
  by_table : Cause
  -- the session was over before
  by_past : Cause

-- What bytes to come answer to a message: an answer, and how many bytes are its own; or an end.
pub data Heard (A E : Type 0) : Type 0 where
  got : A → ℕ → Heard A E
  stopped : E → Heard A E

-- The messages of a client, and what a server answers to them. Positions count the bytes that the server sent on the link, from 0.
pub record Protocol : Type 1 where
  pub Message : Type 0
  pub Answer : Type 0
  pub End : Type 0
  pub cause : End → Cause
  -- These bytes are the message.
  pub IsMessage : Message → List ℕ → Type 0
  -- These bytes, from this position on, are a reply to the message, with this answer.
  pub IsReply : Message → ℕ → List ℕ → Answer → Type 0
  -- This was sent of the message, this was taken for it, from this position on, this is left behind that, where it is told, and it came to this end.
  pub Stops : Message → ℕ → List ℕ → List ℕ → Option (List ℕ) → End → Type 0
  -- what the bytes to come, from this position on, answer to the message
  pub heard : Message → ℕ → List ℕ → Heard Answer End

-- What is still to do. A link has the number of the links dialled before it. V is the type of the command's value.
pub data Script (p : Protocol) (V : Type 0) : Type 0 where
  -- a link to this place is dialled; the host of the client's own end decides the rest
  dials : Place → (List ℕ → Script p V) → Script p V
  -- a message is sent on this link and its reply read there; the answer decides the rest
  asks : ℕ → p.Message → (p.Answer → Script p V) → Script p V
  -- a message is sent on this link, which has no reply
  tells : ℕ → p.Message → Script p V → Script p V
  -- the clock is read
  reads_clock : (ℕ → Script p V) → Script p V
  -- all is done, with this value
  done : V → Script p V
  -- it goes no further, and ends so
  halts : p.End → Script p V

-- ---- what is to come

-- What a link has to come: the bytes, and the position of the first one.
pub record Coming : Type 0 where
  pub position : ℕ
  pub bytes : List ℕ

-- so many bytes later
abbrev pub past : ℕ → Coming → Coming
past n c = record { position = c.position + n; bytes = drop n c.bytes }

-- what the links have to come, by their numbers, with this at one of them
abbrev pub set_at : ℕ → Coming → (ℕ → Coming) → ℕ → Coming
set_at k c coming j = if nat_eq j k then c else coming j

-- How a script goes where nothing outside fails: the messages that are sent, each with its link's number, and the end. There is None where the hosts or the
-- moments to come are too few.
pub record Played (p : Protocol) (V : Type 0) : Type 0 where
  pub said : List (ℕ × p.Message)
  pub end : Option (Result V p.End)

abbrev pub ends_with : {p : Protocol} {V : Type 0} → Option (Result V p.End) → Played p V
ends_with end = record { said = []; end = end }

abbrev pub says : {p : Protocol} {V : Type 0} → ℕ → p.Message → Played p V → Played p V
says k message played = record { said = (k, message) ∷ played.said; end = played.end }

abbrev pub goes_on : {p : Protocol} {V : Type 0} → Heard p.Answer p.End → (p.Answer → ℕ → Played p V) → Played p V
goes_on (got answer n) more = more answer n
goes_on (stopped end) more = ends_with (Some (Err end))

-- How it goes over what its links have to come, the hosts of its own ends, and the moments that its clock gives.
unfoldable pub plays : {p : Protocol} {V : Type 0} → Script p V → (ℕ → Coming) → List (List ℕ) → List ℕ → Played p V
plays (dials place next) coming [] moments = ends_with None
plays (dials place next) coming (host ∷ hosts) moments = plays (next host) coming hosts moments
plays {p = p} (asks k message next) coming hosts moments =
    says k message (goes_on (p.heard message (coming k).position (coming k).bytes) (λ answer n. plays (next answer) (set_at k (past n (coming k)) coming) hosts moments))
plays (tells k message next) coming hosts moments = says k message (plays next coming hosts moments)
plays (reads_clock next) coming hosts [] = ends_with None
plays (reads_clock next) coming hosts (moment ∷ moments) = plays (next moment) coming hosts moments
plays (done value) coming hosts moments = ends_with (Some (Ok value))
plays (halts end) coming hosts moments = ends_with (Some (Err end))
