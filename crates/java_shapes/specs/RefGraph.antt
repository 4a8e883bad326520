-- The graph of a reference to a remote object.
use Rattle.std.specs.Prelude.{ℕ, List, [], ◌∷◌, ◌++◌, codes}
use Rattle.class_desc.specs.declared.slot.Slot.TheVariants as slots
use Rattle.class_desc.specs.declared.slot.Item.{Item}
use Rattle.class_desc.specs.declared.slot.Item.TheVariants as items
use Rattle.class_desc.specs.declared.known_class.KnownClass.TheVariants as known
use Rattle.ser_values.specs.declared.node.Node.{Node}
use Rattle.ser_values.specs.declared.node.Node.TheVariants.{Text, Object, Proxy}
use Rattle.java_shapes.specs.declared.ref_views.LiveRef.{LiveRef}
use Rattle.java_shapes.specs.Fault.{class_node, reference, empty_part}
use Rattle.java_shapes.specs.Proxies.{noted_part, proxy_with}
use Rattle.java_shapes.specs.RefNotes.{ref_note}

-- The class of a proxy of the interface with its superclass and a type text, and the proxy; its handler is node 6.
abbrev pub proxy_first : List ℕ → List Node
proxy_first interface =
    Proxy (proxy_with interface (slots.Node 1))
    ∷ class_node known.Proxy (slots.Node 2 ∷ []) slots.Null
    ∷ Text (codes "Ljava/lang/reflect/InvocationHandler;")
    ∷ Object 0 (reference (slots.Node 6) ∷ empty_part ∷ [])
    ∷ []

-- The handler's class with its superclass.
abbrev pub handler_classes : List Node
handler_classes = class_node known.RefHandler [] (slots.Node 5) ∷ class_node known.RemoteObject [] slots.Null ∷ []

-- The handler, which has this note.
abbrev pub handler_last : List ℕ → List Node
handler_last note = Object 4 (noted_part note ∷ empty_part ∷ []) ∷ []

-- the nodes of a proxy of the interface whose handler has this note
unfoldable pub noted_nodes : List ℕ → List ℕ → List Node
noted_nodes interface note = proxy_first interface ++ (handler_classes ++ handler_last note)

-- The nodes of the graph of a reference with this interface, in the order of their handles.
abbrev pub ref_nodes : List ℕ → LiveRef → List Node
ref_nodes interface r = noted_nodes interface (ref_note r)

-- its one item: the proxy
abbrev pub ref_items : List Item
ref_items = items.Ref (slots.Node 3) ∷ []
