-- The calls that a client makes of the registry (Java RMI Specification, 6.1), and what their Returns hold.
use Rattle.std.specs.Prelude.{◌≡◌, ◌⊎◌, ℕ, false, List, [], ◌∷◌, codes, Option, Some, None, Result, Ok, Err, option_map}
use Rattle.wire_io.specs.Pulled.{PullState}
use Rattle.object_ids.specs.declared.ids.Uid.{Uid}
use Rattle.class_desc.specs.declared.field.TypeCode.{TypeCode}
use Rattle.class_desc.specs.declared.slot.Slot.{Slot}
use Rattle.class_desc.specs.declared.slot.Item.{Item}
use Rattle.class_desc.specs.declared.slot.Item.TheVariants as items
use Rattle.ser_values.specs.declared.node.Node.{Node}
use Rattle.ser_values.specs.declared.graph.Graph.{Graph}
use Rattle.ser_values.specs.Finished.{IsGraphOf}
use Rattle.java_shapes.specs.declared.ref_views.LiveRef.{LiveRef}
use Rattle.java_shapes.specs.declared.fault.ShapeFault.{ShapeFault}
use Rattle.java_shapes.specs.declared.fault.ShapeFault.TheVariants as faults
use Rattle.java_shapes.specs.Ids.{texts_at}
use Rattle.java_shapes.specs.LiveRefs.{live_ref_at}
use Rattle.java_shapes.specs.Objects.{text_at}
use Rattle.java_shapes.specs.Proxies.{ProxyAt}
use Rattle.java_shapes.specs.RefNotes.{ref_note}
use Rattle.jrmp_frames.specs.declared.head.CallHead.{CallHead}
use Rattle.method_hash.specs.declared.system.RegistryMethod.{RegistryMethod}
use Rattle.method_hash.specs.declared.system.RegistryMethod.TheVariants as registry
use Rattle.method_hash.specs.System.{registry_number}
use Rattle.system_ids.specs.SystemIds.{registry_id}
use Rattle.system_ids.specs.declared.methods.TheConstants.{REGISTRY_INTERFACE}
use Rattle.rmi_client.specs.Replies.{HearsAnswer, reference_of, viewed}
use Rattle.rmi_client.specs.Sessions.{IsCall}
use Rattle.rmi_client.specs.declared.end.ReplyKind.TheVariants.{WrongShape}
use Rattle.rmi_client.specs.declared.end.ClientEnd.{ClientEnd}
use Rattle.rmi_client.specs.declared.end.ClientEnd.TheVariants as ends
use Rattle.rmi_client.specs.declared.reply.Answer.{Answer}

-- ---- heads: a method by its operation's number, beside the hash of its interface

abbrev pub registry_head : RegistryMethod → CallHead
registry_head method = record { id = registry_id; operation = registry_number method; hash = REGISTRY_INTERFACE }

-- ---- what is sent

-- The bytes are the call with this head whose arguments are these items over a builder's loose nodes.
pub record IsBuiltCall (head : CallHead) (loose : List Node) (arguments : List Item) (bytes : List ℕ) : Type 0 where
  pub graph : Graph
  pub built : IsGraphOf loose arguments graph.nodes graph.items
  pub call : IsCall head graph bytes

-- The call of a method of the registry whose one argument is this name.
abbrev pub IsNameCall : RegistryMethod → List ℕ → List ℕ → Type 0
IsNameCall method name bytes = (loose : List Node) × (s : Slot) × (text_at loose s ≡ Some name) × IsBuiltCall (registry_head method) loose (items.Ref s ∷ []) bytes

-- The call of `list`, which has no arguments.
abbrev pub IsListCall : List ℕ → Type 0
IsListCall bytes = IsBuiltCall (registry_head registry.List) [] [] bytes

-- a reference as a client sends it: not one made for a result
abbrev pub sent_ref : LiveRef → LiveRef
sent_ref reference = record reference { result = false }

-- The call of `bind` with this name, and this reference as a proxy of java.rmi.Remote alone.
abbrev pub IsBindCall : List ℕ → LiveRef → List ℕ → Type 0
IsBindCall name reference bytes = (loose : List Node) × (s r : Slot) × (text_at loose s ≡ Some name)
    × ProxyAt loose (codes "java.rmi.Remote") (ref_note (sent_ref reference)) r
    × IsBuiltCall (registry_head registry.Bind) loose (items.Ref s ∷ items.Ref r ∷ []) bytes

-- ---- what a Return holds

-- the reference of a lookup's Return, and the Return's identifier
abbrev pub found_in : Answer → Option (Uid × LiveRef)
found_in answer = option_map (λ reference. (answer.uid, reference)) (viewed live_ref_at (reference_of answer.body))

-- the names of a list's Return
abbrev pub names_in : Answer → Option (List (List ℕ))
names_in answer = viewed texts_at (reference_of answer.body)

-- nothing is read of a Return without a result
abbrev pub nothing_in : Answer → Option (Unit {0})
nothing_in answer = Some tt

-- the end where a Return that ends at this position has not the shape that is read
abbrev pub shape_end : ShapeFault → ℕ → ClientEnd
shape_end faults.WrongShape at = ends.BadReply WrongShape at
shape_end faults.OutOfMemory at = ends.OutOfMemory

-- A call answers what `view` shows, or that it shows nothing, at this position; or there was no memory.
abbrev pub Sees : {V : Type 0} → ℕ → Option V → Result V ClientEnd → Type 0
Sees at shown (Ok value) = shown ≡ Some value
Sees at shown (Err end) = ((shown ≡ None) × (end ≡ ends.BadReply WrongShape at)) ⊎ (end ≡ ends.OutOfMemory)

-- The Return of a call with this type of result was read, and the call answers what `view` shows of it; or it was none.
abbrev pub HearsSeen : {V : Type 0} → (Answer → Option V) → Option TypeCode → PullState → PullState → Result V ClientEnd → Type 0
HearsSeen view want old new result = ((answer : Answer) × HearsAnswer old new want (Ok answer) × Sees new.at (view answer) result)
    ⊎ ((end : ClientEnd) × HearsAnswer old new want (Err end) × (result ≡ Err end))
