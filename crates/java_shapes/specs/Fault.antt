-- The shape of a fault: a java.rmi.RemoteException with a message.
use Rattle.std.specs.Prelude.{◌≡◌, ℕ, List, [], ◌∷◌, ◌++◌, Some, codes}
use Rattle.class_desc.specs.declared.slot.Slot.{Slot}
use Rattle.class_desc.specs.declared.slot.Slot.TheVariants as slots
use Rattle.class_desc.specs.declared.slot.Item.{Item}
use Rattle.class_desc.specs.declared.slot.Item.TheVariants as items
use Rattle.class_desc.specs.declared.known_class.KnownClass.{KnownClass}
use Rattle.class_desc.specs.declared.known_class.KnownClass.TheVariants as known
use Rattle.class_desc.specs.KnownClass.{parts_of}
use Rattle.ser_values.specs.declared.value.Value.TheVariants as values
use Rattle.ser_values.specs.declared.value.Part.{Part}
use Rattle.ser_values.specs.declared.node.Node.{Node}
use Rattle.ser_values.specs.declared.node.Node.TheVariants.{Text, Desc, Object}
use Rattle.ser_values.specs.Builder.{number_of}
use Rattle.java_shapes.specs.Objects.{node_at, text_at}
use Rattle.java_shapes.specs.Put.{IsClassAt, desc_with}

-- a part of one reference, and one of no fields
abbrev pub reference : Slot → Part
reference s = record { values = values.Ref s ∷ []; note = [] }

abbrev pub empty_part : Part
empty_part = record { values = []; note = [] }

-- The parts of a fault, the highest superclass first: the message is Throwable's, and RemoteException has a null detail.
abbrev pub fault_parts : Slot → List Part
fault_parts text = reference text ∷ empty_part ∷ empty_part ∷ reference slots.Null ∷ []

-- The slot names the description of java.rmi.RemoteException, over those of IOException, Exception and Throwable.
pub record FaultClassAt (nodes : List Node) (remote_exception : Slot) : Type 0 where
  pub throwable : Slot
  pub exception : Slot
  pub io_exception : Slot
  pub highest : IsClassAt nodes known.Throwable slots.Null throwable
  pub second : IsClassAt nodes known.Exception throwable exception
  pub third : IsClassAt nodes known.IoException exception io_exception
  pub own : IsClassAt nodes known.RemoteException io_exception remote_exception

-- The slot names an object of java.rmi.RemoteException, over IOException, Exception and Throwable, with this message.
pub record FaultAt (nodes : List Node) (message : List ℕ) (s : Slot) : Type 0 where
  pub throwable : Slot
  pub exception : Slot
  pub io_exception : Slot
  pub remote_exception : Slot
  pub text : Slot
  pub highest : IsClassAt nodes known.Throwable slots.Null throwable
  pub second : IsClassAt nodes known.Exception throwable exception
  pub third : IsClassAt nodes known.IoException exception io_exception
  pub own : IsClassAt nodes known.RemoteException io_exception remote_exception
  pub told : text_at nodes text ≡ Some message
  pub is : node_at nodes s ≡ Some (Object (number_of remote_exception) (fault_parts text))

-- What is told of such a fault.
abbrev pub fault_text : List ℕ → List ℕ
fault_text message = codes "java.rmi.RemoteException: " ++ message

-- ---- the graph of a fault

abbrev pub class_node : KnownClass → List Slot → Slot → Node
class_node which texts parent = Desc (desc_with (parts_of which) texts parent)

-- the descriptions of its classes, each with its type text after it
abbrev pub fault_classes : List Node
fault_classes =
    class_node known.RemoteException (slots.Node 1 ∷ []) (slots.Node 2)
    ∷ Text (codes "Ljava/lang/Throwable;")
    ∷ class_node known.IoException [] (slots.Node 3)
    ∷ class_node known.Exception [] (slots.Node 4)
    ∷ class_node known.Throwable (slots.Node 5 ∷ []) slots.Null
    ∷ Text (codes "Ljava/lang/String;")
    ∷ []

-- The nodes of the graph of a fault with this message, in the order of their handles.
unfoldable pub fault_nodes : List ℕ → List Node
fault_nodes message = fault_classes ++ (Object 0 (fault_parts (slots.Node 7)) ∷ Text message ∷ [])

-- its one item: the object
abbrev pub fault_items : List Item
fault_items = items.Ref (slots.Node 6) ∷ []
