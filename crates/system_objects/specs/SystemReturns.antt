-- What calls of the registry and the collector are answered (Java RMI Specification, 6.1 and 9.1): the bytes of their Returns.
use Rattle.std.specs.Prelude.{ℕ, pos, true, codes, List, ◌++◌, [], Option, None, Some, Result, Ok, Err, slice_get}
use Rattle.object_ids.specs.declared.ids.ObjId.{ObjId}
use Rattle.object_ids.specs.declared.ids.Uid.{Uid}
use Rattle.history.specs.declared.asks.Ask.{Ask}
use Rattle.history.specs.declared.replies.Reply.{Reply}
use Rattle.history.specs.declared.replies.Reply.TheVariants.{NoObject, Granted, Done, Bound, AlreadyBound, Unbound, NotBound, Found, Names}
use Rattle.history.specs.declared.replies.Turn.{Turn}
use Rattle.history.specs.declared.replies.Refused.{Refused}
use Rattle.java_shapes.specs.LeaseGraph.{lease_nodes, lease_items}
use Rattle.java_shapes.specs.TextsGraph.{texts_nodes, texts_items}
use Rattle.jrmp_frames.specs.declared.message.Body.TheVariants as bodies
use Rattle.jrmp_frames.specs.Messages.{return_message}
use Rattle.system_objects.specs.declared.book.Kind.{Kind}
use Rattle.system_objects.specs.declared.request.ReplyContext.{ReplyContext}
use Rattle.system_objects.specs.declared.request.ReplyContext.TheVariants as kept
use Rattle.system_objects.specs.SystemRequests.{kept_of}
use Rattle.system_objects.specs.ReturnBytes.{graph_return, own_return, fault_return, full, no_object, wrong_outcome}
use Rattle.system_objects.specs.Terms.{Terms}

-- ---- messages

-- the exceptional Return with a message that goes on with a name
abbrev pub named_fault : Uid → List ℕ → List ℕ → List ℕ
named_fault uid front name = fault_return uid (front ++ name)

abbrev pub already_bound : List ℕ
already_bound = codes "java.rmi.AlreadyBoundException: "

abbrev pub not_bound : List ℕ
not_bound = codes "java.rmi.NotBoundException: "

-- ---- Returns

-- the normal Return of nothing
unfoldable pub void_return : Uid → List ℕ
void_return uid = return_message true uid bodies.Void

-- A lookup found an object of this kind: its reference has the kind's interface.
abbrev pub found_return : Terms → Uid → ObjId → Option Kind → List ℕ
found_return terms uid object None = fault_return uid wrong_outcome
found_return terms uid object (Some kind) = own_return terms uid kind.interface object

-- what is kept of the ask, in the Return of a lease, and in those that tell of a name
abbrev pub lease_return : Uid → ℕ → ReplyContext → List ℕ
lease_return uid duration (kept.Client client) = graph_return uid (lease_nodes (pos duration) client) lease_items
lease_return uid duration _ = []

abbrev pub bound_return : Uid → ReplyContext → List ℕ
bound_return uid (kept.Name name) = named_fault uid already_bound name
bound_return uid _ = []

abbrev pub unbound_return : Uid → ReplyContext → List ℕ
unbound_return uid (kept.Name name) = named_fault uid not_bound name
unbound_return uid _ = []

-- The Return of a reply, where this is kept of the ask. Other replies answer no call of the registry or the collector.
abbrev pub reply_return : Terms → Uid → ReplyContext → Reply → List ℕ
reply_return terms uid k (Granted duration) = lease_return uid duration k
reply_return terms uid k Done = void_return uid
reply_return terms uid k Bound = void_return uid
reply_return terms uid k Unbound = void_return uid
reply_return terms uid k (Found object kind) = found_return terms uid object (slice_get terms.kinds kind)
reply_return terms uid k (Names names) = graph_return uid (texts_nodes names) texts_items
reply_return terms uid k AlreadyBound = bound_return uid k
reply_return terms uid k NotBound = unbound_return uid k
reply_return terms uid k NoObject = fault_return uid no_object
reply_return terms uid k _ = []

-- The Return of what an ask was answered, where this is kept of it.
abbrev pub kept_return : Terms → Uid → ReplyContext → Result Turn Refused → List ℕ
kept_return terms uid k (Ok turn) = reply_return terms uid k turn.reply
kept_return terms uid k (Err refused) = fault_return uid (full refused)

-- The Return of what an ask was answered.
unfoldable pub answer_written : Terms → Uid → Ask → Result Turn Refused → List ℕ
answer_written terms uid ask answer = kept_return terms uid (kept_of ask) answer
