-- Remote objects that are found and held.
use Rattle.std.specs.Prelude.{◌≡◌, ◌⊎◌, ℕ, ℤ, min, Bool, true, false, List, [], ◌∷◌, Some, Ok, Err}
use Rattle.wire_io.specs.Links.{Dialed, Dialing, with_next}
use Rattle.object_ids.specs.Client.{Client}
use Rattle.object_ids.specs.declared.ids.ObjId.{ObjId}
use Rattle.object_ids.specs.declared.ids.Uid.{Uid}
use Rattle.class_desc.specs.declared.field.TypeCode.TheVariants as types
use Rattle.java_shapes.specs.declared.ref_views.LiveRef.{LiveRef}
use Rattle.dgc_client.specs.declared.limits.TheConstants.{MAX_GRANTED_MS}
use Rattle.dgc_client.specs.declared.plan.Plan.TheVariants.{Dirty}
use Rattle.dgc_client.specs.Log.{Registers, Dues, Answers}
use Rattle.dgc_client.specs.StandsForLog.{Parts, StandsFor}
use Rattle.method_hash.specs.declared.system.RegistryMethod.TheVariants as registry
use Rattle.rmi_client.specs.declared.end.ClientEnd.{ClientEnd}
use Rattle.rmi_client.specs.Leases.{IsPlanCall, grant_in, want_of_plan}
use Rattle.rmi_client.specs.Requests.{HearsSeen, IsNameCall, found_in}
use Rattle.rmi_client.specs.Sessions.{LinkState, Asks, Begins, IsDgcAck, Tells}
use Rattle.class_desc.specs.declared.slot.Slot.{Slot}
use Rattle.java_shapes.specs.LiveRefs.{live_ref_at}
use Rattle.rmi_caller.specs.Answers.{nodes_in, slot_in}
use Rattle.rmi_caller.specs.declared.answer.Answer.{Answer}
use Rattle.rmi_caller.specs.declared.remote.TheConstants.{ASKED_MS}

-- A link was dialled at this host and port, and a session began over it.
abbrev pub Connects : Dialing → Dialing → List ℕ → ℤ → LinkState → Type 0
Connects old new host port link =
    (dialed : Dialed) × (fresh : LinkState) × (dialed.asked_host ≡ host) × (dialed.asked_port ≡ port) × (new.dialed ≡ with_next old.dialed dialed)
    × (fresh.read.left ≡ dialed.link.left) × (fresh.write.held ≡ dialed.link.held) × (fresh.at ≡ 0)
    × Begins {A = Unit {0}} dialed.link.host fresh link (Ok tt)

-- The first lease call of a client is a dirty call that names the object. It was sent at a moment, and answered at a later one.
pub record TakesLease (client : Client) (object : ObjId) (table : Parts) (old new : LinkState) : Type 0 where
  pub first : ℤ
  pub sent : ℕ
  pub granted : ℕ
  pub heard : ℕ
  pub asks : Asks (IsPlanCall client (Dirty first (object ∷ [])) ASKED_MS)
      (HearsSeen (grant_in (Dirty first (object ∷ []))) (want_of_plan (Dirty first (object ∷ [])))) old new (Ok granted)
  pub stands : StandsFor client first table (Answers first (min granted MAX_GRANTED_MS) heard ∷ Dues sent ∷ Registers object ∷ [])

-- A reference is held: its server was dialled, and a lease on its object taken there.
abbrev pub Holds : Dialing → Dialing → LiveRef → ObjId → Parts → LinkState → Type 0
Holds old new reference object table link =
    (client : Client) × (begun : LinkState) × Connects old new reference.host reference.port begun × (object ≡ reference.id) × TakesLease client reference.id table begun link

-- A Return was acknowledged where the reference in it was made for a result.
abbrev pub AcksIf : Bool → Uid → LinkState → LinkState → Type 0
AcksIf true uid old new = Tells {A = Unit {0}} (IsDgcAck uid) old new (Ok tt)
AcksIf false uid old new = new ≡ old

-- It was not; or sending the acknowledgement failed, or the session was over.
abbrev pub AcksNot : Uid → LinkState → LinkState → Type 0
AcksNot uid old new = (new ≡ old) ⊎ ((end : ClientEnd) × Tells {A = Unit {0}} (IsDgcAck uid) old new (Err end))

-- A name was looked up in the registry at this host and port, and the object that it stands for is held; then the lookup was acknowledged.
abbrev pub Finds : Dialing → Dialing → List ℕ → ℤ → List ℕ → ObjId → Parts → LinkState → Type 0
Finds old new host port name object table link =
    (mid : Dialing) × (begun found left : LinkState) × (uid : Uid) × (reference : LiveRef) × Connects old mid host port begun
    × Asks (IsNameCall registry.Lookup name) (HearsSeen found_in (Some types.Object)) begun found (Ok (uid, reference))
    × Holds mid new reference object table link × AcksIf reference.result uid found left

-- A result is this reference.
abbrev pub RefersTo : Answer → LiveRef → Type 0
RefersTo answer reference = (slot : Slot) × (slot_in answer.heard.body ≡ Some slot) × (live_ref_at (nodes_in answer.heard.body) slot ≡ Some reference)
