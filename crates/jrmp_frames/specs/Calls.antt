-- What reading a call does.
use Rattle.wire_io.specs.Wire.{ReadHalf}
use Rattle.std.specs.Prelude.{◌≡◌, ◌≤◌, ℕ, List, [], ◌∷◌, length, None, Result, Ok, Err}
use Rattle.wire_io.specs.Pulled.{PullState, Takes}
use Rattle.wire_io.specs.declared.pull.Pull.{Pull}
use Rattle.class_desc.specs.declared.field.TypeCode.{TypeCode}
use Rattle.class_desc.specs.declared.slot.Item.{Item}
use Rattle.class_desc.specs.declared.slot.Item.TheVariants as items
use Rattle.stream_grammar.specs.Spelled.{joined}
use Rattle.stream_grammar.specs.Reading.{short, magic_at}
use Rattle.ser_read.specs.Here.{Caused, Reads, IsTold, env, coming}
use Rattle.ser_read.specs.Wants.{WantFault, inside, ◌▸◌, lift_fault, Stand, nothing_read, bytes_at, want_at, serve, serve_to_close, ReaderState, WantFails, WantBreaks}
use Rattle.jrmp_frames.specs.declared.arguments.Arg.{Arg}
use Rattle.jrmp_frames.specs.declared.head.CallHead.{CallHead}
use Rattle.jrmp_frames.specs.declared.arguments.Arguments.{Arguments}
use Rattle.jrmp_frames.specs.declared.fault.FrameFault.{FrameFault}
use Rattle.jrmp_frames.specs.declared.fault.FrameFault.TheVariants.{Stream}
use Rattle.jrmp_frames.specs.Messages.{head_bytes, want_of, wants_of, arg_of, args_of, CallBytes}

-- what a message's stream begins with, as it is read: the magic number and the version, and then so many bytes of block data
abbrev pub front_at : ℕ → ℕ → List ℕ → Result (List ℕ × Stand × List ℕ) WantFault
front_at n end bs = lift_fault (magic_at end (0xAC ∷ 0xED ∷ 0x00 ∷ 0x05 ∷ []) bs) ▸ bytes_at end n nothing_read

-- The head of a call behind its code, as it is read: 34 bytes
unfoldable pub head_at : ℕ → List ℕ → Result (List ℕ × Stand × List ℕ) WantFault
head_at end bs = front_at 34 end bs

-- ---- what is answered

-- What follows 50 was taken up to the end of this head, and the reader stands so behind it.
abbrev pub ReadsHead : PullState → PullState → CallHead → Stand → Type 0
ReadsHead old new head stand = Reads (inside short) old new head_at (λ rest. (head_bytes head, stand, rest))

-- The reader stands behind 34 bytes of block data, and it has no other item of its stream.
abbrev pub HasHead : ReaderState → Type 0
HasHead reader = (reader.refused ≡ None) × (bytes : List ℕ) × (length bytes ≡ 34) × (reader.stand.items ≡ items.Bytes bytes ∷ [])

-- From where the reader stood, the argument for a parameter of this type was taken, and it stands so behind it.
pub record ReadsArgument (old new : PullState) (stand later : Stand) (code : TypeCode) (arg : Arg) : Type 0 where
  pub answer : Item
  pub reads : Reads (inside short) old new (λ end. want_at end (want_of code) stand) (λ rest. (answer, later, rest))
  pub value : arg ≡ arg_of code answer

-- The same of the arguments for parameters of these types, one after the other.
pub record ReadsEach (old new : PullState) (stand later : Stand) (params : List TypeCode) (args : List Arg) : Type 0 where
  pub answers : List Item
  pub reads : Reads (inside short) old new (λ end. serve end (wants_of params) stand) (λ rest. (answers, later, rest))
  pub values : args ≡ args_of params answers

-- From where the reader stood, the arguments for parameters of these types were taken up to their end.
pub record ReadsArguments (old new : PullState) (stand : Stand) (params : List TypeCode) (arguments : Arguments) : Type 0 where
  pub answers : List Item
  pub whole : List Item
  pub reads : Reads (inside short) old new (λ end. serve_to_close end (wants_of params) stand) (λ rest. (answers, arguments.graph.nodes, whole, rest))
  pub items : arguments.graph.items ≡ joined answers
  pub values : arguments.values ≡ args_of params answers

-- What follows 50 was taken, and is a call with this head, for parameters of these types, with these arguments.
pub record TakesCall (old new : PullState) (head : CallHead) (params : List TypeCode) (arguments : Arguments) : Type 0 where
  pub message : List ℕ
  pub takes : Takes old new message
  pub call : CallBytes head params arguments (0x50 ∷ message)

-- Which bytes were taken where this fault is answered, and why reading ends there.
abbrev pub BreaksIn : {Y : Type 0} → PullState → PullState → FrameFault → (ℕ → List ℕ → Result Y WantFault) → Type 0
BreaksIn old new (Stream fault) read = WantBreaks old new fault read
BreaksIn old new _ read = ⊥

-- A read fault comes only where the count of faults rose, and it never falls.
abbrev pub CausedIn : {A : Type 0} → ℕ → ℕ → Result A FrameFault → Type 0
CausedIn {A} before after (Err (Stream fault)) = Caused {A = A} before after (Err fault)
CausedIn before after _ = before ≤ after

-- Where the bytes are told, a call answers what reading gives of those to come.
abbrev pub GivesIn : {S X Y : Type 0} → (S → ReadHalf) → Pull S → Pull S → Result X FrameFault → (ℕ → List ℕ → Result Y WantFault) → (X → List ℕ → Y) → Type 0
GivesIn half old new (Ok x) read out = IsTold half old → read (env half old).end (coming half old) ≡ Ok (out x (coming half new))
GivesIn half old new (Err (Stream fault)) read out = IsTold half old → WantFails (env half old).after fault (read (env half old).end (coming half old))
GivesIn half old new (Err _) read out = ⊥
