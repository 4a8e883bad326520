-- How often a Call is invoked, and with what.
use Rattle.std.specs.Prelude.{◌≡◌, ℕ, ◌+◌, ◌⊎◌, Option, List, [], ◌∷◌, ◌++◌, length, map, slice_get, Some}
use Rattle.std.specs.List.{flat_map}
use Rattle.wire_io.specs.Wire.{with_front}
use Rattle.object_ids.specs.declared.ids.Uid.{Uid}
use Rattle.method_hash.specs.declared.method.Method.{Method}
use Rattle.jrmp_frames.specs.declared.head.CallHead.{CallHead}
use Rattle.jrmp_frames.specs.Messages.{CallBytes}
use Rattle.system_objects.specs.declared.book.Kind.{Kind}
use Rattle.call_dispatch.specs.declared.outcome.Invocation.{Invocation}
use Rattle.call_dispatch.specs.Acts.{Act, Call, calls, invocations, TellsMore}
use Rattle.system_objects.specs.Book.{methods_of}
use Rattle.call_dispatch.specs.Served.{AtHead, IsMethodOf, served_acts, IsServed}
use Rattle.system_objects.specs.Terms.{Terms}
use Rattle.call_dispatch.specs.ConnectionState.{ConnectionState, Transcript}
use Rattle.call_dispatch.specs.declared.end.ConnEnd.{ConnEnd}
use Rattle.call_dispatch.specs.Rows.{taken_by}
use Rattle.call_dispatch.specs.Dialogue.{Completed, IsCompleted, taken_in, exchanges_in, Dialogue}

-- the invocations among some acts, in their order
abbrev pub invocations_in : List Act → List Invocation
invocations_in acts = flat_map invocations (flat_map calls acts)

-- The invocation is of the object that the head names, and of the first method of its kind that has the head's hash, with the graph that the
-- Call's bytes spell. They stand behind the Call's code.
pub record IsInvocationOf (kinds : List Kind) (head : CallHead) (bytes : List ℕ) (call : Invocation) : Type 0 where
  pub object : call.object ≡ head.id
  pub known : IsMethodOf kinds call.kind head call.method
  pub method : Method
  pub method_is : slice_get (methods_of kinds call.kind) call.method ≡ Some method
  pub spelled : CallBytes head method.params call.arguments (0x50 ∷ bytes)

-- There is at most one, and it is so.
abbrev pub IsInvokedOnce : List Kind → CallHead → List ℕ → List Invocation → Type 0
IsInvokedOnce kinds head bytes [] = Unit {0}
IsInvokedOnce kinds head bytes (call ∷ []) = IsInvocationOf kinds head bytes call
IsInvokedOnce kinds head bytes (call ∷ more ∷ others) = ⊥

-- Each Call is invoked at most once, with the graph that it spells.
abbrev pub CallIsInvokedOnce : Type 0
CallIsInvokedOnce = (terms : Terms) (head : CallHead) (bytes : List ℕ) (uid : Uid) (s : AtHead) → IsServed terms head bytes uid s → IsInvokedOnce terms.kinds head bytes (invocations_in (served_acts head uid s))

-- ---- in a connection

-- The message, from its code on, is a Call, and this is its invocation: of the object that its head names, of the first method of the object's
-- kind that has the head's hash, with the graph that the bytes spell.
abbrev pub IsCallOf : List Kind → List ℕ → Invocation → Type 0
IsCallOf kinds message call = (head : CallHead) × (bytes : List ℕ) × (message ≡ 0x50 ∷ bytes) × IsInvocationOf kinds head bytes call

-- These messages, in their order, lead to these invocations: each to none or to one, which is its own, and nothing else leads to one.
abbrev pub LeadTo : List Kind → List (List ℕ) → List Invocation → Type 0
LeadTo kinds [] invoked = invoked ≡ []
LeadTo kinds (message ∷ more) invoked =
    LeadTo kinds more invoked ⊎ ((call : Invocation) × (others : List Invocation) × (invoked ≡ call ∷ others) × IsCallOf kinds message call × LeadTo kinds more others)

-- A connection that began at `before` invoked each message that it read at most once, and each with what it spells: the bytes taken are an opening,
-- whole messages and what was taken behind them; the worker was given so many invocations more, and its calls, where it tells them, are these;
-- and the messages, what was taken behind them among them, lead to the invocations.
pub record InvokesEachOnce (terms : Terms) (before now : ConnectionState) : Type 0 where
  pub whole : Completed
  pub behind : List ℕ
  pub is_whole : IsCompleted terms before.drawn whole
  pub taken : before.wires.left ≡ with_front (taken_in whole ++ behind) now.wires.left
  pub told : List Call
  pub count : now.side.invoked ≡ before.side.invoked + length (flat_map invocations told)
  pub seen : TellsMore before.side.seen told now.side.seen
  pub once : LeadTo terms.kinds (map taken_by (exchanges_in whole) ++ behind ∷ []) (flat_map invocations told)

-- What a transcript took is what stands whole and what came behind it, and these messages lead to its invocations.
pub record InvokesIn (terms : Terms) (drawn : ℕ) (c : Transcript) : Type 0 where
  pub whole : Completed
  pub behind : List ℕ
  pub is_whole : IsCompleted terms drawn whole
  pub taken : c.taken ≡ taken_in whole ++ behind
  pub once : LeadTo terms.kinds (map taken_by (exchanges_in whole) ++ behind ∷ []) (invocations_in c.acts)

-- In each dialogue a message leads to at most one invocation, which is its own, and nothing else leads to one.
abbrev pub DialogueInvokesEachOnce : Type 0
DialogueInvokesEachOnce = (terms : Terms) (drawn : ℕ) (c : Transcript) (rest : Option (List ℕ)) (end : ConnEnd) → Dialogue terms drawn c rest end → InvokesIn terms drawn c
