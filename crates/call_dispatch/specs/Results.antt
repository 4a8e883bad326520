-- What outcomes that are remote objects, and the references in results, bring into a call's Finish and its Return.
use Rattle.std.specs.Prelude.{ℕ, Bool, true, false, unwrap_or, List, [], ◌∷◌, slice_get, Option, None, Some}
use Rattle.ser_values.specs.declared.node.Node.{Node}
use Rattle.object_ids.specs.declared.ids.ObjId.{ObjId}
use Rattle.object_ids.specs.declared.ids.Uid.{Uid}
use Rattle.history.specs.declared.asks.Ask.{Ask}
use Rattle.history.specs.declared.asks.Ask.TheVariants.{Finish}
use Rattle.history.specs.declared.replies.Reply.{Reply}
use Rattle.history.specs.declared.replies.Reply.TheVariants.{Finished}
use Rattle.java_shapes.specs.Flags.{flags_in, set_flags}
use Rattle.java_shapes.specs.LocalRefs.{local_ids}
use Rattle.jrmp_frames.specs.declared.message.Body.TheVariants as bodies
use Rattle.jrmp_frames.specs.Messages.{return_message}
use Rattle.system_objects.specs.declared.book.Kind.{Kind}
use Rattle.call_dispatch.specs.declared.outcome.Outcome.{Outcome}
use Rattle.call_dispatch.specs.declared.outcome.Outcome.TheVariants.{Prim, Tree, NewRemote, OldRemote}
use Rattle.system_objects.specs.Terms.{Terms}
use Rattle.system_objects.specs.ReturnBytes.{graph_return, own_return}

-- ---- what Finish is told

-- the kinds of the objects that an outcome makes
abbrev pub made_by : Outcome → List ℕ
made_by (NewRemote kind) = kind ∷ []
made_by _ = []

-- the server's own objects to which the Return of an outcome refers, each once: an old object itself, and those of the references in a graph that
-- are of the server's host and port
abbrev pub listed_by : Terms → Outcome → List ObjId
listed_by terms (OldRemote object kind) = object ∷ []
listed_by terms (Tree graph) = local_ids graph.nodes terms.host terms.port
listed_by terms _ = []

-- the turn that ends a call with the Return of an outcome, which lists these objects
abbrev pub finish_with : ObjId → Outcome → List ObjId → Uid → Ask
finish_with object outcome listed uid = Finish object (made_by outcome) listed uid

-- the same with the objects to which the outcome's Return refers
abbrev pub finish_of : Terms → ObjId → Outcome → Uid → Ask
finish_of terms object outcome uid = finish_with object outcome (listed_by terms outcome) uid

-- ---- kinds

abbrev pub is_there : Option Kind → Bool
is_there (Some kind) = true
is_there None = false

-- The number is that of a kind's place.
abbrev pub is_place : List Kind → ℕ → Bool
is_place kinds kind = is_there (slice_get kinds kind)

abbrev pub interface_in : Option Kind → List ℕ
interface_in (Some kind) = kind.interface
interface_in None = []

-- the name of the interface of the kind at a place
abbrev pub interface_of : List Kind → ℕ → List ℕ
interface_of kinds kind = interface_in (slice_get kinds kind)

-- ---- Returns

-- the nodes, in which each reference says that it was made for a result
abbrev pub with_flags : List Node → List Node
with_flags nodes = unwrap_or (set_flags nodes (flags_in nodes)) nodes

-- the normal Return of a reference to an object of a kind
abbrev pub remote_return : Terms → Uid → ℕ → ObjId → List ℕ
remote_return terms uid kind object = own_return terms uid (interface_of terms.kinds kind) object

-- the same for the new object that a Finish was answered
abbrev pub made_return : Terms → Uid → ℕ → Reply → List ℕ
made_return terms uid kind (Finished (object ∷ [])) = remote_return terms uid kind object
made_return terms uid kind _ = []

-- the normal Return of an outcome that is no remote object
abbrev pub plain_return : Uid → Outcome → List ℕ
plain_return uid (Prim value) = return_message true uid (bodies.Prim value)
plain_return uid (Tree graph) = graph_return uid (with_flags graph.nodes) graph.items
plain_return uid _ = return_message true uid bodies.Void

-- the normal Return of an outcome whose Finish got this reply
abbrev pub normal_return : Terms → Uid → Outcome → Reply → List ℕ
normal_return terms uid (NewRemote kind) reply = made_return terms uid kind reply
normal_return terms uid (OldRemote object kind) reply = remote_return terms uid kind object
normal_return terms uid outcome reply = plain_return uid outcome
