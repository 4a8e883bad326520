-- Laws of calls and returns, which functions of `laws` promise.
use Rattle.std.specs.Prelude.{◌≡◌, ◌↔◌, ℕ, Bool, List, [], ◌∷◌, ◌++◌, length, Option, Some, None, Ok}
use Rattle.object_ids.specs.declared.ids.Uid.{Uid}
use Rattle.object_ids.specs.Bytes.{bytes_of_uid}
use Rattle.class_desc.specs.declared.field.TypeCode.{TypeCode}
use Rattle.class_desc.specs.declared.slot.Slot.{Slot}
use Rattle.class_desc.specs.declared.slot.Item.{Item}
use Rattle.class_desc.specs.declared.slot.Item.TheVariants as items
use Rattle.ser_values.specs.declared.node.Node.{Node}
use Rattle.ser_read.specs.declared.serving.Want.TheVariants as wanted
use Rattle.stream_grammar.specs.Faults.{AreBytes}
use Rattle.ser_read.specs.Heading.{EndsInBlock}
use Rattle.ser_read.specs.SpelledWants.{SpellsWants}
use Rattle.ser_write.specs.Canonical.{value_bytes}
use Rattle.jrmp_frames.specs.declared.head.CallHead.{CallHead}
use Rattle.jrmp_frames.specs.declared.arguments.Arguments.{Arguments}
use Rattle.jrmp_frames.specs.declared.message.Body.{Body}
use Rattle.jrmp_frames.specs.declared.message.Body.TheVariants.{Void, Prim, Tree}
use Rattle.jrmp_frames.specs.Messages.{head_bytes, return_front, want_of, value_of, CallBytes, ReturnBytes}
use Rattle.jrmp_frames.specs.Returns.{carried_type, wants_carried, ReturnOf, of_kind, return_at}

-- The bytes begin a call and end with its head: 50, the stream's magic number and version, and block data up to the last of the head's 34
-- bytes, after which so many are left of the present block.
pub record HeadBytes (head : CallHead) (left : ℕ) (bytes : List ℕ) : Type 0 where
  pub contents : List ℕ
  pub headed : bytes ≡ 0x50 ∷ 0xAC ∷ 0xED ∷ 0x00 ∷ 0x05 ∷ contents
  pub ends : EndsInBlock 34 contents (head_bytes head) left

-- Fronts of one list of bytes that are calls of methods with the same types of parameters are one, with one head and one list of arguments:
-- no call is a proper front of another.
abbrev pub CallIsOne : Type 0
CallIsOne = (params : List TypeCode) (head other_head : CallHead) (arguments others : Arguments) (one other after behind : List ℕ) → CallBytes head params arguments one → CallBytes other_head params others other → one ++ after ≡ other ++ behind
    → (one ≡ other) × (head_bytes head ≡ head_bytes other_head) × (arguments.graph.nodes ≡ others.graph.nodes) × (arguments.graph.items ≡ others.graph.items) × (arguments.values ≡ others.values)

-- What a call begins with, up to the end of its head.
pub record BeginsWithHead (head : CallHead) (bytes : List ℕ) : Type 0 where
  pub left : ℕ
  pub front : List ℕ
  pub rest : List ℕ
  pub is : bytes ≡ front ++ rest
  pub ends : HeadBytes head left front

-- A call begins so.
abbrev pub CallHasHead : Type 0
CallHasHead = (head : CallHead) (params : List TypeCode) (arguments : Arguments) (bytes : List ℕ) → CallBytes head params arguments bytes → BeginsWithHead head bytes

-- ---- returns

-- The bytes are the magic number, the version and contents, and then others. The contents are a return of this kind, with this identifier, whose
-- wants gave this over these nodes.
pub record ReturnInFront (result_type : Option TypeCode) (normal : Bool) (uid : Uid) (answers : List Item) (nodes : List Node) (bytes rest : List ℕ) : Type 0 where
  pub contents : List ℕ
  pub is : bytes ≡ 0xAC ∷ 0xED ∷ 0x00 ∷ 0x05 ∷ (contents ++ rest)
  pub asked : SpellsWants (wanted.Bytes 15 ∷ wants_carried (carried_type result_type normal)) (items.Bytes (return_front normal uid) ∷ answers) nodes contents

-- Reading gives a return where one stands in front, whatever comes after it, and nowhere else.
abbrev pub ReturnsAreRead : Type 0
ReturnsAreRead = (result_type : Option TypeCode) (end : ℕ) (normal : Bool) (uid : Uid) (answers : List Item) (nodes : List Node) (bytes rest : List ℕ) → AreBytes bytes
    → (((whole : List Item) × (return_at result_type end bytes ≡ Ok (of_kind normal (items.Bytes (bytes_of_uid uid) ∷ answers) nodes whole, rest)))
    ↔ ReturnInFront result_type normal uid answers nodes bytes rest)

-- Two bodies are of one kind, with one value, or graphs with the same nodes and items.
abbrev pub SameBody : Body → Body → Type 0
SameBody Void Void = Unit {0}
SameBody (Prim value) (Prim other) = value ≡ other
SameBody (Tree graph) (Tree other) = (graph.nodes ≡ other.nodes) × (graph.items ≡ other.items)
SameBody _ _ = ⊥

-- Fronts of one list of bytes that are returns for one type of result are one, of one kind, with one identifier and one body: no return is a
-- proper front of another.
abbrev pub ReturnIsOne : Type 0
ReturnIsOne = (result_type : Option TypeCode) (normal second : Bool) (uid other_uid : Uid) (body other_body : Body) (one other after behind : List ℕ)
    → ReturnOf result_type normal uid body one → ReturnOf result_type second other_uid other_body other → one ++ after ≡ other ++ behind
    → (one ≡ other) × (normal ≡ second) × (bytes_of_uid uid ≡ bytes_of_uid other_uid) × SameBody body other_body

-- A body is of this type: a value that its bytes tell, or a graph with one reference.
abbrev pub HasType : Option TypeCode → Body → Type 0
HasType None Void = Unit {0}
HasType (Some code) (Prim value) = (want_of code ≡ wanted.Bytes (length (value_bytes value))) × (value_of code (value_bytes value) ≡ value)
HasType (Some code) (Tree graph) = (want_of code ≡ wanted.Slot) × ((s : Slot) × (graph.items ≡ items.Ref s ∷ []))
HasType _ _ = ⊥

-- A return that is written of a body of the type that its kind carries, is one for that type.
abbrev pub WrittenIsReturn : Type 0
WrittenIsReturn = (result_type : Option TypeCode) (normal : Bool) (uid : Uid) (body : Body) (bytes : List ℕ) → HasType (carried_type result_type normal) body
    → ReturnBytes normal uid body bytes → ReturnOf result_type normal uid body bytes
