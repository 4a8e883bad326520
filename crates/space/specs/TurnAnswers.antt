-- Which answers a turn may have.
use Rattle.std.specs.Prelude.{◌≡◌, ◌≤◌, length, Result, Ok, Err}
use Rattle.std.specs.List.{AllByRecursion}
use Rattle.object_ids.specs.declared.ids.FullKind.{FullKind}
use Rattle.object_ids.specs.declared.ids.FullKind.TheVariants.{Exports, Awaiting, Clients, Pairs, Names as FullNames}
use Rattle.object_ids.specs.declared.ids.ObjId.{ObjId}
use Rattle.history.specs.declared.asks.Ask.{Ask}
use Rattle.history.specs.declared.asks.Ask.TheVariants.{Open, Begin, Finish, Abandon, Dirty, Clean, Ack, Bind, Rebind, Unbind, Lookup, List as ListNames, Tick}
use Rattle.history.specs.declared.limits.TheConstants.{MAX_DURATION_MS, MAX_NAMES, MAX_NAME_UNITS}
use Rattle.history.specs.declared.replies.Reply.{Reply}
use Rattle.history.specs.declared.replies.Reply.TheVariants.{Opened, Started, NoObject, Finished, NotRunning, Granted, Done, Bound, AlreadyBound, Unbound, NotBound, Found, Names}
use Rattle.history.specs.declared.replies.Turn.{Turn}
use Rattle.history.specs.declared.replies.Refused.{Refused}
use Rattle.history.specs.declared.replies.Refused.TheVariants.{Full}

-- The reply is one of the ask's, where these are the objects of which the connection runs a call: there is an identifier for each object
-- that a return makes, and leases, names and their list are within their limits.
abbrev pub IsReplyTo : (ObjId → Type 0) → Ask → Reply → Type 0
IsReplyTo runs (Open kind pinned) (Opened object) = Unit {0}
IsReplyTo runs (Begin object) (Started kind) = Unit {0}
IsReplyTo runs (Begin object) NoObject = Unit {0}
IsReplyTo runs (Finish object made listed uid) (Finished objects) = length objects ≡ length made
IsReplyTo runs (Finish object made listed uid) NotRunning = runs object → ⊥
IsReplyTo runs (Abandon object) Done = Unit {0}
IsReplyTo runs (Abandon object) NotRunning = runs object → ⊥
IsReplyTo runs (Dirty client number asked objects) (Granted duration) = duration ≤ MAX_DURATION_MS
IsReplyTo runs (Clean client number objects strong) Done = Unit {0}
IsReplyTo runs (Ack uid) Done = Unit {0}
IsReplyTo runs (Bind name object) Bound = Unit {0}
IsReplyTo runs (Bind name object) AlreadyBound = Unit {0}
IsReplyTo runs (Bind name object) NoObject = Unit {0}
IsReplyTo runs (Rebind name object) Bound = Unit {0}
IsReplyTo runs (Rebind name object) NoObject = Unit {0}
IsReplyTo runs (Unbind name) Unbound = Unit {0}
IsReplyTo runs (Unbind name) NotBound = Unit {0}
IsReplyTo runs (Lookup name uid) (Found object kind) = Unit {0}
IsReplyTo runs (Lookup name uid) NotBound = Unit {0}
IsReplyTo runs ListNames (Names names) = (length names ≤ MAX_NAMES) × AllByRecursion (λ name. length name ≤ MAX_NAME_UNITS) names
IsReplyTo runs Tick Done = Unit {0}
IsReplyTo runs _ _ = ⊥

-- The tables to which an ask may bring entries.
abbrev pub MayFill : Ask → FullKind → Type 0
MayFill (Open kind pinned) Exports = Unit {0}
MayFill (Finish object made listed uid) Exports = Unit {0}
MayFill (Finish object made listed uid) Awaiting = Unit {0}
MayFill (Lookup name uid) Awaiting = Unit {0}
MayFill (Dirty client number asked objects) Clients = Unit {0}
MayFill (Dirty client number asked objects) Pairs = Unit {0}
MayFill (Clean client number objects strong) Pairs = Unit {0}
MayFill (Bind name object) FullNames = Unit {0}
MayFill (Rebind name object) FullNames = Unit {0}
MayFill _ _ = ⊥

abbrev pub IsRefusalOf : Ask → Refused → Type 0
IsRefusalOf ask (Full kind) = MayFill ask kind
IsRefusalOf ask _ = Unit {0}

-- The answer is one of the ask's row.
abbrev pub IsAnswerTo : (ObjId → Type 0) → Ask → Result Turn Refused → Type 0
IsAnswerTo runs ask (Ok turn) = IsReplyTo runs ask turn.reply
IsAnswerTo runs ask (Err refused) = IsRefusalOf ask refused
