-- The lease calls that a client makes of the collector (Java RMI Specification, 9.1), and what their Returns hold.
use Rattle.std.specs.Prelude.{ℕ, ℤ, pos, negsuc, min, Bool, List, [], ◌∷◌, Option, Some, None, option_map}
use Rattle.object_ids.specs.declared.ids.ObjId.{ObjId}
use Rattle.class_desc.specs.declared.field.TypeCode.{TypeCode}
use Rattle.class_desc.specs.declared.slot.Slot.{Slot}
use Rattle.class_desc.specs.declared.slot.Item.TheVariants as items
use Rattle.ser_values.specs.declared.node.Node.{Node}
use Rattle.java_shapes.specs.Ids.{lease_at}
use Rattle.java_shapes.specs.RefNotes.{truth_byte}
use Rattle.jrmp_frames.specs.declared.head.CallHead.{CallHead}
use Rattle.method_hash.specs.System.{collector_number}
use Rattle.system_ids.specs.SystemIds.{collector_id}
use Rattle.system_ids.specs.declared.methods.TheConstants.{COLLECTOR_INTERFACE}
use Rattle.rmi_client.specs.Replies.{reference_of, viewed}
use Rattle.rmi_client.specs.Requests.{IsBuiltCall}
use Rattle.rmi_client.specs.declared.reply.Answer.{Answer}
use Rattle.std.specs.Int.{w64}
use Rattle.object_ids.specs.Client.{Client}
use Rattle.object_ids.specs.Bytes.{signed_bytes}
use Rattle.class_desc.specs.declared.field.TypeCode.TheVariants as codes_of
use Rattle.java_shapes.specs.declared.lease_views.LeaseView.{LeaseView}
use Rattle.java_shapes.specs.Shapes.{LeaseAt, ObjIdsAt, VmidAt}
use Rattle.method_hash.specs.declared.system.CollectorMethod.{CollectorMethod}
use Rattle.method_hash.specs.declared.system.CollectorMethod.TheVariants as collector
use Rattle.dgc_client.specs.declared.limits.TheConstants.{MAX_GRANTED_MS}
use Rattle.dgc_client.specs.declared.plan.Plan.{Plan}
use Rattle.dgc_client.specs.declared.plan.Plan.TheVariants.{Dirty, Clean}

abbrev pub collector_head : CollectorMethod → CallHead
collector_head method = record { id = collector_id; operation = collector_number method; hash = COLLECTOR_INTERFACE }

-- The call of `dirty` with this number for these objects, which asks for a lease of so many milliseconds for this client.
abbrev pub IsDirtyCall : Client → List ObjId → ℤ → ℤ → List ℕ → Type 0
IsDirtyCall vmid ids number asked bytes = (loose : List Node) × (s l : Slot) × ObjIdsAt loose ids s × LeaseAt loose asked vmid l
    × IsBuiltCall (collector_head collector.Dirty) loose (items.Ref s ∷ items.Bytes (signed_bytes w64 number) ∷ items.Ref l ∷ []) bytes

-- The call of `clean` with this number for these objects of this client, strong or not.
abbrev pub IsCleanCall : Client → List ObjId → ℤ → Bool → List ℕ → Type 0
IsCleanCall vmid ids number strong bytes = (loose : List Node) × (s v : Slot) × ObjIdsAt loose ids s × VmidAt loose vmid v
    × IsBuiltCall (collector_head collector.Clean) loose (items.Ref s ∷ items.Bytes (signed_bytes w64 number) ∷ items.Ref v ∷ items.Bytes (truth_byte strong ∷ []) ∷ []) bytes

-- The call of a plan.
abbrev pub IsPlanCall : Client → Plan → ℤ → List ℕ → Type 0
IsPlanCall vmid (Dirty number ids) asked bytes = IsDirtyCall vmid ids number asked bytes
IsPlanCall vmid (Clean number ids strong) asked bytes = IsCleanCall vmid ids number strong bytes

-- ---- what a Return holds

-- a granted duration, in milliseconds, as it is taken: none below 0, and 2^40 for each above that
abbrev pub granted_ms : ℤ → ℕ
granted_ms (pos n) = min n MAX_GRANTED_MS
granted_ms (negsuc n) = 0

-- the duration of a dirty call's Return
abbrev pub granted_in : Answer → Option ℕ
granted_in answer = option_map (λ (lease : LeaseView). granted_ms lease.value) (viewed lease_at (reference_of answer.body))

-- the type of a plan's result, and its duration: a clean call has none
abbrev pub want_of_plan : Plan → Option TypeCode
want_of_plan (Dirty number ids) = Some codes_of.Object
want_of_plan (Clean number ids strong) = None

abbrev pub grant_in : Plan → Answer → Option ℕ
grant_in (Dirty number ids) answer = granted_in answer
grant_in (Clean number ids strong) answer = Some 0
