-- What reading a return does.
use Rattle.wire_io.specs.Wire.{ReadHalf}
use Rattle.std.specs.Prelude.{◌≡◌, ◌≢◌, ℕ, ◌+◌, ◌-◌, nat_eq, Bool, true, false, List, [], ◌∷◌, length, Option, Some, None, Result, Ok, Err, if◌then◌else◌}
use Rattle.wire_io.specs.Pulled.{PullState, Takes}
use Rattle.wire_io.specs.declared.pull.Pull.{Pull}
use Rattle.object_ids.specs.declared.ids.Uid.{Uid}
use Rattle.object_ids.specs.Bytes.{bytes_of_uid}
use Rattle.class_desc.specs.declared.field.TypeCode.{TypeCode}
use Rattle.class_desc.specs.declared.field.TypeCode.TheVariants as codes
use Rattle.class_desc.specs.declared.slot.Item.{Item}
use Rattle.class_desc.specs.declared.slot.Item.TheVariants as items
use Rattle.ser_values.specs.declared.node.Node.{Node}
use Rattle.ser_values.specs.declared.graph.Graph.{Graph}
use Rattle.stream_grammar.specs.Reading.{short}
use Rattle.ser_read.specs.declared.serving.Want.{Want}
use Rattle.ser_read.specs.declared.serving.Want.TheVariants as wanted
use Rattle.ser_read.specs.Here.{Reads, IsTold, env, coming}
use Rattle.ser_read.specs.Wants.{WantFault, inside, ◌▸◌, Stand, ReaderState, serve, serve_to_close, WantFails, WantBreaks}
use Rattle.ser_read.specs.SpelledWants.{SpellsWants}
use Rattle.jrmp_frames.specs.declared.arguments.Arg.{Arg}
use Rattle.jrmp_frames.specs.declared.arguments.Arg.TheVariants as arguments
use Rattle.jrmp_frames.specs.declared.message.Body.{Body}
use Rattle.jrmp_frames.specs.declared.message.Body.TheVariants.{Void, Prim, Tree}
use Rattle.jrmp_frames.specs.declared.fault.FrameFault.{FrameFault}
use Rattle.jrmp_frames.specs.declared.fault.FrameFault.TheVariants.{BadKind, Stream}
use Rattle.jrmp_frames.specs.Messages.{return_front, want_of, value_of, arg_of}
use Rattle.jrmp_frames.specs.Calls.{front_at}

-- ---- returns of a method

-- the type of what a return carries, where the method's result has this type, or it has none: a result, or an exception, which is a reference
abbrev pub carried_type : Option TypeCode → Bool → Option TypeCode
carried_type result_type true = result_type
carried_type result_type false = Some codes.Object

-- what is wanted of the stream for it
abbrev pub wants_carried : Option TypeCode → List Want
wants_carried None = []
wants_carried (Some code) = want_of code ∷ []

-- What wants gave over these nodes is this body, of this type.
abbrev pub Carries : Option TypeCode → List Item → List Node → Body → Type 0
Carries None [] nodes Void = Unit {0}
Carries (Some code) (items.Bytes b ∷ []) nodes (Prim value) = value ≡ value_of code b
Carries (Some code) (items.Ref s ∷ []) nodes (Tree graph) = (graph.nodes ≡ nodes) × (graph.items ≡ items.Ref s ∷ [])
Carries _ _ _ _ = ⊥

-- The bytes are a return for a method whose result has this type, or that has none: 51, and a stream of the 15 bytes that a return begins with,
-- followed by what it carries, in whatever blocks, the last of which is not empty.
pub record ReturnOf (result_type : Option TypeCode) (normal : Bool) (uid : Uid) (body : Body) (bytes : List ℕ) : Type 0 where
  pub contents : List ℕ
  pub headed : bytes ≡ 0x51 ∷ 0xAC ∷ 0xED ∷ 0x00 ∷ 0x05 ∷ contents
  pub answers : List Item
  pub nodes : List Node
  pub asked : SpellsWants (wanted.Bytes 15 ∷ wants_carried (carried_type result_type normal)) (items.Bytes (return_front normal uid) ∷ answers) nodes contents
  pub carries : Carries (carried_type result_type normal) answers nodes body

-- ---- as they are read

-- whether a return of this kind has a result, or an exception; None for the byte of no kind
abbrev pub kind_of_byte : ℕ → Option Bool
kind_of_byte byte = if nat_eq byte 1 then Some true else (if nat_eq byte 2 then Some false else None)

-- What follows the code of a return: a byte that is no kind, at its position; or the kind, what its wants gave (the identifier's bytes first),
-- and the nodes and the items of its stream.
pub data ReturnRead : Type 0 where
  no_kind : ℕ → ℕ → ReturnRead
  of_kind : Bool → List Item → List Node → List Item → ReturnRead

-- the kind of a return, behind its code: one byte
unfoldable pub kind_at : ℕ → List ℕ → Result (List ℕ × Stand × List ℕ) WantFault
kind_at end bs = front_at 1 end bs

-- the identifier and what is carried, up to the end
abbrev pub contents_at : Option TypeCode → ℕ → Stand → List ℕ → Result (List Item × List Node × List Item × List ℕ) WantFault
contents_at code end stand bs = serve_to_close end (wanted.Bytes 14 ∷ wants_carried code) stand bs

-- what follows this byte in the place of a kind
abbrev pub by_kind : Option TypeCode → ℕ → Option Bool → ℕ → Stand → List ℕ → Result (ReturnRead × List ℕ) WantFault
by_kind result_type byte None end stand bs = Ok (no_kind byte (end - length bs - 1), bs)
by_kind result_type byte (Some normal) end stand bs = contents_at (carried_type result_type normal) end stand bs ▸ λ x. Ok (of_kind normal x.0 x.1 x.2, x.3)

abbrev pub behind_kind : Option TypeCode → ℕ → ℕ → Stand → List ℕ → Result (ReturnRead × List ℕ) WantFault
behind_kind result_type byte end stand bs = by_kind result_type byte (kind_of_byte byte) end stand bs

abbrev pub first_byte : List ℕ → ℕ
first_byte [] = 0
first_byte (byte ∷ more) = byte

-- A return behind its code, as it is read.
unfoldable pub return_at : Option TypeCode → ℕ → List ℕ → Result (ReturnRead × List ℕ) WantFault
return_at result_type end bs = kind_at end bs ▸ λ k. behind_kind result_type (first_byte k.0) end k.1 k.2

-- ---- what is answered

-- What follows 51 was taken, and is a return for a method whose result has this type.
pub record TakesReturn (old new : PullState) (result_type : Option TypeCode) (normal : Bool) (uid : Uid) (body : Body) : Type 0 where
  pub message : List ℕ
  pub takes : Takes old new message
  pub is : ReturnOf result_type normal uid body (0x51 ∷ message)

-- Bytes were taken, and whatever comes after them, reading gives this return.
pub record ReadsReturn (old new : PullState) (read : ℕ → List ℕ → Result (ReturnRead × List ℕ) WantFault) (result_type : Option TypeCode) (normal : Bool) (uid : Uid) (body : Body) : Type 0 where
  pub answers : List Item
  pub nodes : List Node
  pub whole : List Item
  pub reads : Reads (inside short) old new read (λ rest. (of_kind normal (items.Bytes (bytes_of_uid uid) ∷ answers) nodes whole, rest))
  pub carries : Carries (carried_type result_type normal) answers nodes body

-- Which bytes were taken where this fault is answered, and why reading ends there. At a byte that is no kind they end with it.
abbrev pub BreaksReturn : PullState → PullState → FrameFault → (ℕ → List ℕ → Result (ReturnRead × List ℕ) WantFault) → Type 0
BreaksReturn old new (BadKind byte at) read = (byte ≢ 1) × (byte ≢ 2) × (new.at ≡ at + 1) × Reads (inside short) old new read (λ rest. (no_kind byte at, rest))
BreaksReturn old new (Stream fault) read = WantBreaks old new fault read
BreaksReturn old new _ read = ⊥

-- Where the bytes are told, a call answers what reading gives of those to come.
abbrev pub GivesReturn : {S : Type 0} → (S → ReadHalf) → Pull S → Pull S → Option TypeCode → Result (Bool × Uid × Body) FrameFault → Type 0
GivesReturn half old new result_type (Ok x) = IsTold half old → (answers : List Item) × (nodes : List Node) × (whole : List Item)
    × (return_at result_type (env half old).end (coming half old) ≡ Ok (of_kind x.0 (items.Bytes (bytes_of_uid x.1) ∷ answers) nodes whole, coming half new))
    × Carries (carried_type result_type x.0) answers nodes x.2
GivesReturn half old new result_type (Err (BadKind byte at)) = IsTold half old → return_at result_type (env half old).end (coming half old) ≡ Ok (no_kind byte at, coming half new)
GivesReturn half old new result_type (Err (Stream fault)) = IsTold half old → WantFails (env half old).after fault (return_at result_type (env half old).end (coming half old))
GivesReturn half old new result_type (Err _) = ⊥

-- ---- inside

-- The reader stands behind one byte of block data, and it has no other item of its stream.
abbrev pub HasKind : ReaderState → Type 0
HasKind reader = (reader.refused ≡ None) × (byte : ℕ) × (reader.stand.items ≡ items.Bytes (byte ∷ []) ∷ [])

-- What wants gave is this argument, or there is none.
abbrev pub IsArgument : Option TypeCode → List Item → Option Arg → Type 0
IsArgument None [] None = Unit {0}
IsArgument (Some code) (answer ∷ []) (Some arg) = arg ≡ arg_of code answer
IsArgument _ _ _ = ⊥

-- From where the reader stood, what is carried was taken, and it stands so behind it.
pub record ReadsCarried (old new : PullState) (stand later : Stand) (code : Option TypeCode) (arg : Option Arg) : Type 0 where
  pub answers : List Item
  pub reads : Reads (inside short) old new (λ end. serve end (wants_carried code) stand) (λ rest. (answers, later, rest))
  pub is : IsArgument code answers arg

-- The same up to the end, with the graph of the whole stream.
pub record ReadsToClose (old new : PullState) (stand : Stand) (code : Option TypeCode) (arg : Option Arg) (graph : Graph) : Type 0 where
  pub answers : List Item
  pub reads : Reads (inside short) old new (λ end. serve_to_close end (wants_carried code) stand) (λ rest. (answers, graph.nodes, graph.items, rest))
  pub is : IsArgument code answers arg

-- From where the reader stood behind the kind, an identifier and this body were taken up to the end.
pub record ReadsContents (old new : PullState) (stand : Stand) (code : Option TypeCode) (uid : Uid) (body : Body) : Type 0 where
  pub answers : List Item
  pub nodes : List Node
  pub whole : List Item
  pub reads : Reads (inside short) old new (λ end. contents_at code end stand) (λ rest. (items.Bytes (bytes_of_uid uid) ∷ answers, nodes, whole, rest))
  pub carries : Carries code answers nodes body

-- The body of an argument, over the nodes of a stream and the items behind its front.
abbrev pub IsBodyOf : Option Arg → List Node → Option (List Item) → Body → Type 0
IsBodyOf None nodes rest Void = Unit {0}
IsBodyOf (Some (arguments.Prim value)) nodes rest (Prim other) = other ≡ value
IsBodyOf (Some (arguments.Ref s)) nodes rest (Tree graph) = (graph.nodes ≡ nodes) × (rest ≡ Some graph.items)
IsBodyOf _ _ _ _ = ⊥
