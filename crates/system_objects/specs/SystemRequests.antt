-- What a call of the registry or the collector asks for (Java RMI Specification, 6.1 and 9.1), and why it is rejected before any turn.
use Rattle.std.specs.Prelude.{◌≡◌, ℕ, ℤ, length, Bool, nat_le, codes, List, Option, None, Some, Result, Ok, Err, slice_get, if◌then◌else◌}
use Rattle.class_desc.specs.declared.slot.Slot.{Slot}
use Rattle.ser_values.specs.declared.value.Value.TheVariants as values
use Rattle.object_ids.specs.declared.ids.ObjId.{ObjId}
use Rattle.object_ids.specs.declared.ids.Uid.{Uid}
use Rattle.object_ids.specs.Client.{Client}
use Rattle.method_hash.specs.declared.system.RegistryMethod.{RegistryMethod}
use Rattle.method_hash.specs.declared.system.RegistryMethod.TheVariants as registry
use Rattle.method_hash.specs.declared.system.CollectorMethod.{CollectorMethod}
use Rattle.method_hash.specs.declared.system.CollectorMethod.TheVariants as collector
use Rattle.history.specs.declared.asks.Ask.{Ask}
use Rattle.history.specs.declared.asks.Ask.TheVariants as asks
use Rattle.history.specs.declared.limits.TheConstants.{MAX_NAME_UNITS}
use Rattle.java_shapes.specs.declared.fault.ShapeFault.{ShapeFault}
use Rattle.java_shapes.specs.declared.fault.ShapeFault.TheVariants.{WrongShape, OutOfMemory}
use Rattle.java_shapes.specs.declared.lease_views.LeaseView.{LeaseView}
use Rattle.java_shapes.specs.declared.ref_views.LiveRef.{LiveRef}
use Rattle.java_shapes.specs.Ids.{objids_at, lease_at, vmid_at}
use Rattle.java_shapes.specs.LiveRefs.{live_ref_at}
use Rattle.java_shapes.specs.LocalRefs.{is_local}
use Rattle.java_shapes.specs.Objects.{text_at, ◌>>=◌}
use Rattle.jrmp_frames.specs.declared.arguments.Arg.{Arg}
use Rattle.jrmp_frames.specs.declared.arguments.Arg.TheVariants as args
use Rattle.jrmp_frames.specs.declared.arguments.Arguments.{Arguments}
use Rattle.system_objects.specs.declared.request.Rejection.{Rejection}
use Rattle.system_objects.specs.declared.request.Rejection.TheVariants.{WrongArgument, BindingClosed, NameTooLong, ForeignReference}
use Rattle.system_objects.specs.declared.request.ReplyContext.{ReplyContext}
use Rattle.system_objects.specs.declared.request.ReplyContext.TheVariants as kept
use Rattle.system_objects.specs.declared.request.SystemRequest.{SystemRequest}
use Rattle.system_objects.specs.declared.request.SystemRequest.TheVariants.{Rejected, Asks, AsksForNew}
use Rattle.system_objects.specs.declared.request.NoRequest.{NoRequest}
use Rattle.system_objects.specs.declared.request.NoRequest.TheVariants as stops
use Rattle.system_ids.specs.declared.methods.SystemMethod.{SystemMethod}
use Rattle.system_ids.specs.declared.methods.SystemMethod.TheVariants.{Registry, Collector}
use Rattle.system_objects.specs.Terms.{Terms}

-- ---- arguments

abbrev pub as_reference : Option Arg → Option Slot
as_reference (Some (args.Ref s)) = Some s
as_reference _ = None

abbrev pub as_number : Option Arg → Option ℤ
as_number (Some (args.Prim (values.Long number))) = Some number
as_number _ = None

abbrev pub as_truth : Option Arg → Option Bool
as_truth (Some (args.Prim (values.Boolean truth))) = Some truth
as_truth _ = None

-- The argument at this place, counted from 0, as a reference, a number of 64 bits or a truth value, if it is one.
abbrev pub reference_in : Arguments → ℕ → Option Slot
reference_in arguments n = as_reference (slice_get arguments.values n)

abbrev pub number_in : Arguments → ℕ → Option ℤ
number_in arguments n = as_number (slice_get arguments.values n)

abbrev pub truth_in : Arguments → ℕ → Option Bool
truth_in arguments n = as_truth (slice_get arguments.values n)

-- as a text, a reference to a remote object, a list of objects, a client or a lease, if it is one
abbrev pub text_in : Arguments → ℕ → Option (List ℕ)
text_in arguments n = reference_in arguments n >>= text_at arguments.graph.nodes

abbrev pub live_ref_in : Arguments → ℕ → Option LiveRef
live_ref_in arguments n = reference_in arguments n >>= live_ref_at arguments.graph.nodes

abbrev pub objids_in : Arguments → ℕ → Option (List ObjId)
objids_in arguments n = reference_in arguments n >>= objids_at arguments.graph.nodes

abbrev pub vmid_in : Arguments → ℕ → Option Client
vmid_in arguments n = reference_in arguments n >>= vmid_at arguments.graph.nodes

abbrev pub lease_in : Arguments → ℕ → Option LeaseView
lease_in arguments n = reference_in arguments n >>= lease_at arguments.graph.nodes

-- ---- names and references

-- A name has at most 255 units.
abbrev pub short_name : List ℕ → Result (List ℕ) Rejection
short_name name = if nat_le (length name) MAX_NAME_UNITS then Ok name else Err NameTooLong

-- The name to look up.
abbrev pub name_to_find : Option (List ℕ) → Result (List ℕ) Rejection
name_to_find None = Err WrongArgument
name_to_find (Some name) = short_name name

-- The name to bind or unbind, where names may be bound.
abbrev pub name_to_change : Bool → List ℕ → Result (List ℕ) Rejection
name_to_change binding name = if binding then short_name name else Err BindingClosed

-- The name to unbind.
abbrev pub name_to_unbind : Terms → Option (List ℕ) → Result (List ℕ) Rejection
name_to_unbind terms None = Err WrongArgument
name_to_unbind terms (Some name) = name_to_change terms.binding name

-- the object of a reference, which is one of the server's own host and port
abbrev pub own_object : Terms → LiveRef → Result ObjId Rejection
own_object terms r = if is_local terms.host terms.port r then Ok r.id else Err ForeignReference

abbrev pub both : Result (List ℕ) Rejection → Result ObjId Rejection → Result (List ℕ × ObjId) Rejection
both (Err bar) object = Err bar
both (Ok name) (Err bar) = Err bar
both (Ok name) (Ok object) = Ok (name, object)

-- The name to bind, and the object.
abbrev pub name_and_object : Terms → Option (List ℕ) → Option LiveRef → Result (List ℕ × ObjId) Rejection
name_and_object terms None r = Err WrongArgument
name_and_object terms (Some name) None = Err WrongArgument
name_and_object terms (Some name) (Some r) = both (name_to_change terms.binding name) (own_object terms r)

-- ---- clients

-- The client of a lease; where it names none, the machine at the connection's mark with the identifier that was drawn for it.
abbrev pub client_or : Terms → Uid → Option Client → Client
client_or terms uid (Some client) = client
client_or terms uid None = record { addr = terms.mark; uid = uid }

-- ---- demands

abbrev pub bind_of : Result (List ℕ × ObjId) Rejection → Result Ask Rejection
bind_of (Ok parts) = Ok (asks.Bind parts.0 parts.1)
bind_of (Err bar) = Err bar

abbrev pub rebind_of : Result (List ℕ × ObjId) Rejection → Result Ask Rejection
rebind_of (Ok parts) = Ok (asks.Rebind parts.0 parts.1)
rebind_of (Err bar) = Err bar

abbrev pub unbind_of : Result (List ℕ) Rejection → Result Ask Rejection
unbind_of (Ok name) = Ok (asks.Unbind name)
unbind_of (Err bar) = Err bar

abbrev pub lookup_of : Uid → Result (List ℕ) Rejection → Result Ask Rejection
lookup_of uid (Ok name) = Ok (asks.Lookup name uid)
lookup_of uid (Err bar) = Err bar

-- a clean call with this number, which is strong or not, of this client and these objects
abbrev pub clean_of : Option ℤ → Option Bool → Option Client → Option (List ObjId) → Result Ask Rejection
clean_of (Some number) (Some strong) (Some client) (Some objects) = Ok (asks.Clean client number objects strong)
clean_of _ _ _ _ = Err WrongArgument

-- a dirty call with this number, of this lease and these objects
abbrev pub dirty_of : Terms → Uid → Option ℤ → Option LeaseView → Option (List ObjId) → Result Ask Rejection
dirty_of terms uid (Some number) (Some lease) (Some objects) = Ok (asks.Dirty (client_or terms uid lease.vmid) number lease.value objects)
dirty_of terms uid _ _ _ = Err WrongArgument

-- What a call of a method with these arguments asks for, or why it is rejected: a wrong argument comes first, then that binding is closed, a name that is
-- too long, and a reference of another host or port. The identifiers are those of a client that names none, and of the Return.
abbrev pub registry_request : Terms → RegistryMethod → Arguments → Uid → Result Ask Rejection
registry_request terms registry.Bind arguments uid = bind_of (name_and_object terms (text_in arguments 0) (live_ref_in arguments 1))
registry_request terms registry.List arguments uid = Ok asks.List
registry_request terms registry.Lookup arguments uid = lookup_of uid (name_to_find (text_in arguments 0))
registry_request terms registry.Rebind arguments uid = rebind_of (name_and_object terms (text_in arguments 0) (live_ref_in arguments 1))
registry_request terms registry.Unbind arguments uid = unbind_of (name_to_unbind terms (text_in arguments 0))

abbrev pub collector_request : Terms → CollectorMethod → Arguments → Uid → Result Ask Rejection
collector_request terms collector.Clean arguments client = clean_of (number_in arguments 1) (truth_in arguments 3) (vmid_in arguments 2) (objids_in arguments 0)
collector_request terms collector.Dirty arguments client = dirty_of terms client (number_in arguments 1) (lease_in arguments 2) (objids_in arguments 0)

unfoldable pub request_of : Terms → SystemMethod → Arguments → Uid → Uid → Result Ask Rejection
request_of terms (Registry method) arguments client uid = registry_request terms method arguments uid
request_of terms (Collector method) arguments client uid = collector_request terms method arguments client

-- ---- identifiers

abbrev pub unnamed_of : Option Client → Option (List ObjId) → ℕ
unnamed_of None (Some objects) = 1
unnamed_of _ _ = 0

abbrev pub unnamed : Option ℤ → Option LeaseView → Option (List ObjId) → ℕ
unnamed (Some number) (Some lease) objects = unnamed_of lease.vmid objects
unnamed _ _ objects = 0

-- How many identifiers are drawn for clients: one for a dirty whose arguments are right and whose lease names no client.
unfoldable pub client_draws : SystemMethod → Arguments → ℕ
client_draws (Collector collector.Dirty) arguments = unnamed (number_in arguments 1) (lease_in arguments 2) (objids_in arguments 0)
client_draws _ arguments = 0

-- ---- messages

-- the message of the exceptional Return of a call that is rejected
unfoldable pub rejection_message : Rejection → List ℕ
rejection_message WrongArgument = codes "java.rmi.UnmarshalException: wrong argument"
rejection_message BindingClosed = codes "java.rmi.AccessException: binding is not allowed"
rejection_message NameTooLong = codes "java.rmi.ServerException: name too long"
rejection_message ForeignReference = codes "java.rmi.ServerException: foreign reference"

-- ---- turns

-- The ask begins and ends no call.
abbrev pub IsQuiet : Ask → Type 0
IsQuiet (asks.Begin object) = ⊥
IsQuiet (asks.Finish object made listed uid) = ⊥
IsQuiet (asks.Abandon object) = ⊥
IsQuiet _ = Unit {0}

-- ---- what is kept of an ask for its Return

abbrev pub kept_of : Ask → ReplyContext
kept_of (asks.Dirty client number asked objects) = kept.Client client
kept_of (asks.Bind name object) = kept.Name name
kept_of (asks.Unbind name) = kept.Name name
kept_of (asks.Lookup name uid) = kept.Name name
kept_of _ = kept.Nothing

-- What was demanded, where so many identifiers are drawn for clients.
abbrev pub IsRequest : Result Ask Rejection → ℕ → SystemRequest → Type 0
IsRequest (Err bar) draws (Rejected b) = (b ≡ bar) × (draws ≡ 0)
IsRequest (Ok ask) draws (Asks a k) = (a ≡ ask) × (k ≡ kept_of ask) × (draws ≡ 0)
IsRequest (Ok ask) draws (AsksForNew a k) = (a ≡ ask) × (k ≡ kept_of ask) × (draws ≡ 1)
IsRequest _ _ _ = ⊥

-- ---- how far a function that finds it has come

abbrev pub stop_from : ShapeFault → NoRequest
stop_from WrongShape = stops.Rejected WrongArgument
stop_from OutOfMemory = stops.OutOfMemory

-- What was found, or why nothing is. Want of memory may stand in place of any answer.
abbrev pub Finds : {A : Type 0} → Result A NoRequest → Result A Rejection → Type 0
Finds (Ok found) shown = shown ≡ Ok found
Finds (Err (stops.Rejected bar)) shown = shown ≡ Err bar
Finds (Err stops.OutOfMemory) shown = Unit {0}

-- an argument that was found, or there is none such
abbrev pub FindsArgument : {A : Type 0} → Result A NoRequest → Option A → Type 0
FindsArgument (Ok found) shown = shown ≡ Some found
FindsArgument (Err (stops.Rejected bar)) shown = (shown ≡ None) × (bar ≡ WrongArgument)
FindsArgument (Err stops.OutOfMemory) shown = Unit {0}

-- the request that was found, for which so many identifiers are drawn for clients
abbrev pub FindsRequest : Result SystemRequest NoRequest → Result Ask Rejection → ℕ → Type 0
FindsRequest (Ok request) shown draws = IsRequest shown draws request
FindsRequest (Err (stops.Rejected bar)) shown draws = (shown ≡ Err bar) × (draws ≡ 0)
FindsRequest (Err stops.OutOfMemory) shown draws = Unit {0}
