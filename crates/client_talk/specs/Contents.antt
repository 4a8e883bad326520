-- What the Return of a call holds, and the references in it.
use Rattle.std.specs.Prelude.{ℕ, ℤ, Bool, List, [], ◌∷◌, Option, Some, None, Result, Ok, Err}
use Rattle.std.specs.List.{list_any}
use Rattle.object_ids.specs.Bytes.{bytes_of_uid}
use Rattle.object_ids.specs.declared.ids.ObjId.{ObjId}
use Rattle.class_desc.specs.declared.field.TypeCode.{TypeCode}
use Rattle.class_desc.specs.declared.slot.Slot.{Slot}
use Rattle.class_desc.specs.declared.slot.Item.{Item}
use Rattle.class_desc.specs.declared.slot.Item.TheVariants as items
use Rattle.ser_values.specs.declared.value.Value.{Value}
use Rattle.ser_values.specs.declared.node.Node.{Node}
use Rattle.java_shapes.specs.declared.ref_views.LiveRef.{LiveRef}
use Rattle.java_shapes.specs.LocalRefs.{refs_in, local_among}
use Rattle.jrmp_frames.specs.declared.message.Body.{Body}
use Rattle.jrmp_frames.specs.declared.message.Body.TheVariants as bodies
use Rattle.jrmp_frames.specs.Messages.{value_of}
use Rattle.rmi_client.specs.Replies.{reference_in}
use Rattle.rmi_client.specs.declared.reply.Answer.{Answer}
use Rattle.client_talk.specs.declared.end.CommandEnd.{CommandEnd}

-- What a Return holds behind its identifier.
pub data Content : Type 0 where
  -- nothing: the method has no result
  nothing : Content
  -- a number, a character or a truth value
  single : Value → Content
  -- a reference, as the nodes of the Return's stream and its items
  tree : List Node → List Item → Content

-- what a body holds
abbrev pub content_of : Body → Content
content_of bodies.Void = nothing
content_of (bodies.Prim value) = single value
content_of (bodies.Tree graph) = tree graph.nodes graph.items

-- what is held where the result has this type, or there is none, and these nodes and answers are read
abbrev pub content_in : Option TypeCode → List Node → List Item → Content
content_in None nodes answers = nothing
content_in (Some code) nodes (items.Bytes bytes ∷ []) = single (value_of code bytes)
content_in (Some code) nodes (items.Ref s ∷ []) = tree nodes (items.Ref s ∷ [])
content_in (Some code) nodes _ = nothing

-- the one reference that is held
abbrev pub reference_held : Content → Option (List Node × Slot)
reference_held (tree nodes held) = reference_in nodes held
reference_held _ = None

-- the references to remote objects that are held, in the order of the nodes
abbrev pub refs_held : Content → List LiveRef
refs_held (tree nodes held) = refs_in nodes
refs_held _ = []

-- the objects of those that are of this host and port, each once, in their order
abbrev pub ids_held : List ℕ → ℤ → Content → List ObjId
ids_held host port content = local_among host port (refs_held content)

abbrev pub is_for_result : LiveRef → Bool
is_for_result reference = reference.result

-- One of them was made for a result, so that its receiver acknowledges it.
abbrev pub is_flagged : Content → Bool
is_flagged content = list_any is_for_result (refs_held content)

-- ---- what a command answers

-- What the Return of a call is: the bytes of its identifier, and what it holds.
pub record CallAnswer : Type 0 where
  pub uid : List ℕ
  pub content : Content

abbrev pub returned : Answer → CallAnswer
returned answer = record { uid = bytes_of_uid answer.uid; content = content_of answer.body }

-- a call's answer, by what it holds
abbrev pub with_content : Result Answer CommandEnd → Result CallAnswer CommandEnd
with_content (Ok answer) = Ok (returned answer)
with_content (Err end) = Err end

-- this answer once all is done, or the end that comes before
abbrev pub answering : CallAnswer → Result (Unit {0}) CommandEnd → Result CallAnswer CommandEnd
answering answer (Ok _) = Ok answer
answering answer (Err end) = Err end
