-- What `rmi call` asks for, and what it prints.
use Rattle.std.specs.Prelude.{◌≡◌, ◌⊎◌, ◌%◌, ◌^◌, ◌-◌, ℕ, pos, negsuc, List, [], ◌∷◌, ◌++◌, codes, slice_index, Option, Some, None}
use Rattle.std.specs.Int.{w64, to_be_bytes}
use Rattle.class_desc.specs.declared.slot.Slot.{Slot}
use Rattle.class_desc.specs.declared.slot.Slot.TheVariants as slots
use Rattle.class_desc.specs.declared.slot.Item.{Item}
use Rattle.class_desc.specs.declared.slot.Item.TheVariants as items
use Rattle.history.specs.Texts.{name_text}
use Rattle.method_hash.specs.Hash.{hash_of}
use Rattle.ser_values.specs.declared.node.Node.{Node}
use Rattle.graph_text.specs.GraphText.{graph_text, value_text}
use Rattle.java_shapes.specs.declared.ref_views.LiveRef.{LiveRef}
use Rattle.java_shapes.specs.LiveRefs.{live_ref_at}
use Rattle.java_shapes.specs.Objects.{text_at}
use Rattle.system_objects.specs.declared.setup.TheConstants.{DRAWS_BEGIN_BELOW}
use Rattle.conn_server.specs.Plans.{low_signed}
use Rattle.client_talk.specs.Calling.{Lessee, lessee_of, call_script}
use Rattle.client_talk.specs.Contents.{CallAnswer, Content, nothing, single, tree}
use Rattle.client_talk.specs.declared.request.Request.{Request}
use Rattle.rmi_words.specs.Command.{AskFor}
use Rattle.rmi_words.specs.declared.call_words.CallWords.{CallWords}
use Rattle.rmi_words.specs.declared.command.Command.{Command}
use Rattle.rmi_words.specs.declared.command.Command.TheVariants.{Answer, Serve, Host, Client, Call}
use Rattle.rmi_words.specs.declared.host_words.HostWords.{HostWords}
use Rattle.rmi_words.specs.declared.options.ServeWords.{ServeWords}
use Rattle.rmi_cli.specs.Arguments.{argument_items, argument_nodes}
use Rattle.rmi_cli.specs.Talked.{Asks, Side, place_of, reference_text}
use Rattle.rmi_cli.specs.Told.{Reported, TellsEnd}
use Rattle.rmi_cli.specs.declared.end.RunEnd.{RunEnd}
use Rattle.rmi_cli.specs.declared.end.RunEnd.TheVariants.{OutOfMemory}

-- ---- who calls

-- The client that calls, by the seed of the run: the 8 bytes of the fourth word are its address, the low 32 bits of the first its unique number,
-- the second modulo 2^61 its time. Its lease calls are numbered from the least number on, and ask for ten minutes.
abbrev pub caller_of : List ℕ → Lessee
caller_of seed = record {
  client = record {
    addr = to_be_bytes w64 (slice_index seed 3);
    uid = record { unique = low_signed (slice_index seed 0); time = pos (slice_index seed 1 % DRAWS_BEGIN_BELOW); count = pos 0 };
  };
  first = negsuc (2 ^ 63 - 1);
  asked = pos 600000;
}

-- This is the call that the words ask for, by the client that the seed gives: of the object for which the name stands in the registry at the
-- server, and of the method whose hash is that of its text, with the arguments as the items of a graph.
pub record IsRequestOf (seed : List ℕ) (call : CallWords) (request : Request) : Type 0 where
  pub caller : lessee_of request.caller ≡ caller_of seed
  pub place : request.place ≡ place_of call.server
  pub name : request.name ≡ call.name
  pub hash : request.method.hash ≡ hash_of call.method.text
  pub nodes : request.method.arguments.nodes ≡ argument_nodes call.arguments
  pub items : request.method.arguments.items ≡ argument_items call.arguments
  pub result : request.method.result ≡ call.method.result

-- ---- what is printed

-- `ref` and a reference to a remote object, where there is one; else these lines
abbrev pub remote_text : Option LiveRef → List ℕ → List ℕ
remote_text (Some reference) lines = codes "ref " ++ reference_text reference
remote_text None lines = lines

-- a string in quotation marks, where there is one; else these lines
abbrev pub string_text : Option (List ℕ) → List ℕ → List ℕ
string_text (Some units) lines = name_text units ++ 10 ∷ []
string_text None lines = lines

-- `null`; a node that is a string, or that refers to a remote object; else these lines
abbrev pub slot_text : List Node → Slot → List ℕ → List ℕ
slot_text nodes slots.Null lines = codes "null" ++ 10 ∷ []
slot_text nodes (slots.Node k) lines = string_text (text_at nodes (slots.Node k)) (remote_text (live_ref_at nodes (slots.Node k)) lines)

-- the one reference that is an item of the graph; else the lines that `show` prints
abbrev pub tree_text : List Node → List Item → List ℕ
tree_text nodes (items.Ref s ∷ []) = slot_text nodes s (graph_text nodes (items.Ref s ∷ []))
tree_text nodes held = graph_text nodes held

-- What is printed of what a Return holds: `void`, a number or a truth value, or a reference.
abbrev pub content_text : Content → List ℕ
content_text nothing = codes "void" ++ 10 ∷ []
content_text (single value) = value_text value ++ 10 ∷ []
content_text (tree nodes held) = tree_text nodes held

abbrev pub answer_text : CallAnswer → List ℕ
answer_text answer = content_text answer.content

-- ---- the command

-- There was no memory for what is asked, and nothing was done: no server was dialled, the clock was not read, nothing was printed.
pub record LacksRequest (old new : Side) (given given2 : Option (List ℕ)) (end : RunEnd) : Type 0 where
  pub same : new ≡ old
  pub unread : given2 ≡ given
  pub ends : end ≡ OutOfMemory

-- The call that the words ask for was talked to an answer, which was printed, at these moments; or there was no memory for it.
abbrev pub Calls : List ℕ → CallWords → Side → Side → Option (List ℕ) → Option (List ℕ) → RunEnd → Type 0
Calls seed call old new given given2 end =
    ((request : Request) × IsRequestOf seed call request × Asks (call_script request) answer_text old new given given2 end)
    ⊎ LacksRequest old new given given2 end

-- An object was called to an end, which is told.
abbrev pub CallsObject : List ℕ → CallWords → Side → Side → Option (List ℕ) → Option (List ℕ) → Reported → Type 0
CallsObject seed call old new given given2 told = (end : RunEnd) × Calls seed call old new given given2 end × TellsEnd told end

-- ---- which commands do so

-- The command asks a server: it dials, and reads nothing of the input.
abbrev pub AsksAServer : Command → Type 0
AsksAServer (Client command) = Unit {0}
AsksAServer (Call call) = Unit {0}
AsksAServer _ = ⊥

-- The command asks the clock.
abbrev pub AsksTheClock : Command → Type 0
AsksTheClock (Answer options) = Unit {0}
AsksTheClock (Call call) = Unit {0}
AsksTheClock (Host host) = Unit {0}
AsksTheClock _ = ⊥

-- ---- words that ask for no such command

-- These words ask for no command that asks a server.
abbrev pub AskNoServer : List (List ℕ) → Type 0
AskNoServer words = (command : Command) → AskFor words command → AsksAServer command → ⊥

-- They ask for none that asks the clock.
abbrev pub AskNoClock : List (List ℕ) → Type 0
AskNoClock words = (command : Command) → AskFor words command → AsksTheClock command → ⊥

-- They don't ask for `serve`.
abbrev pub AskNoServe : List (List ℕ) → Type 0
AskNoServe words = (serve : ServeWords) → AskFor words (Serve serve) → ⊥

-- They don't ask for `host`.
abbrev pub AskNoHost : List (List ℕ) → Type 0
AskNoHost words = (asked : HostWords) → AskFor words (Host asked) → ⊥
