-- The shape of a reference to a remote object, as it is built: a dynamic proxy and its handler, which has the reference as its note.
use Rattle.std.specs.Prelude.{◌≡◌, ℕ, List, [], ◌∷◌, Some, codes, if◌then◌else◌}
use Rattle.class_desc.specs.declared.slot.Slot.{Slot}
use Rattle.class_desc.specs.declared.slot.Slot.TheVariants as slots
use Rattle.class_desc.specs.declared.slot.Item.TheVariants as items
use Rattle.class_desc.specs.declared.desc.ProxyDesc.{ProxyDesc}
use Rattle.class_desc.specs.declared.known_class.KnownClass.TheVariants as known
use Rattle.ser_values.specs.declared.value.Part.{Part}
use Rattle.ser_values.specs.declared.node.Node.{Node}
use Rattle.ser_values.specs.declared.node.Node.TheVariants.{Object, Proxy}
use Rattle.ser_values.specs.Builder.{number_of}
use Rattle.java_shapes.specs.Objects.{same_text, node_at}
use Rattle.java_shapes.specs.Put.{IsClassAt, no_codebase}
use Rattle.java_shapes.specs.Fault.{reference, empty_part}

-- a part of a note alone, which is one run of bytes
abbrev pub noted_part : List ℕ → Part
noted_part bytes = record { values = []; note = items.Bytes bytes ∷ [] }

-- The slot names an object of java.rmi.server.RemoteObjectInvocationHandler, whose part of RemoteObject has this note.
pub record HandlerAt (nodes : List Node) (bytes : List ℕ) (s : Slot) : Type 0 where
  pub remote_object : Slot
  pub class : Slot
  pub above : IsClassAt nodes known.RemoteObject slots.Null remote_object
  pub own : IsClassAt nodes known.RefHandler remote_object class
  pub is : node_at nodes s ≡ Some (Object (number_of class) (noted_part bytes ∷ empty_part ∷ []))

-- java.rmi.Remote, and the interface where it is another.
abbrev pub interfaces : List ℕ → List (List ℕ)
interfaces interface = if same_text interface (codes "java.rmi.Remote") then interface ∷ [] else codes "java.rmi.Remote" ∷ interface ∷ []

abbrev pub proxy_with : List ℕ → Slot → ProxyDesc
proxy_with interface parent = record { names = interfaces interface; note = no_codebase; parent = parent }

-- The slot names the description of a proxy class of these interfaces, whose superclass is java.lang.reflect.Proxy.
pub record ProxyClassAt (nodes : List Node) (interface : List ℕ) (s : Slot) : Type 0 where
  pub proxy : Slot
  pub above : IsClassAt nodes known.Proxy slots.Null proxy
  pub is : node_at nodes s ≡ Some (Proxy (proxy_with interface proxy))

-- The slot names a proxy of that interface, whose handler has this note.
pub record ProxyAt (nodes : List Node) (interface bytes : List ℕ) (s : Slot) : Type 0 where
  pub class : Slot
  pub handler : Slot
  pub own : ProxyClassAt nodes interface class
  pub handler_is : HandlerAt nodes bytes handler
  pub is : node_at nodes s ≡ Some (Object (number_of class) (reference handler ∷ empty_part ∷ []))
