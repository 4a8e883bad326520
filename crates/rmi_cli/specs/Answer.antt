-- What `rmi answer` does.
use Rattle.std.specs.Prelude.{◌≡◌, Bool, ℕ, ◌+◌, ◌%◌, ◌^◌, pos, ◌⊎◌, List, [], ◌++◌, slice_index, Option, Some}
use Rattle.std.specs.List.{flat_map}
use Rattle.std.specs.Int.{w64, to_be_bytes}
use Rattle.wire_io.specs.Wire.{Wires, with_front, with_end, Gave, Rose}
use Rattle.history.specs.declared.asks.Event.{Event}
use Rattle.ports.specs.Ports.{Went}
use Rattle.call_dispatch.specs.declared.end.ConnEnd.{ConnEnd}
use Rattle.call_dispatch.specs.declared.end.ConnEnd.TheVariants.{Ended, ReadFault}
use Rattle.call_dispatch.specs.End.{IsSettled, IsWriteFault}
use Rattle.system_objects.specs.Terms.{Terms}
use Rattle.call_dispatch.specs.Acts.{States, entries, moments, calls, MayAll, Moves}
use Rattle.call_dispatch.specs.Tape.{OutsideAnswer, tape}
use Rattle.call_dispatch.specs.ConnectionState.{Transcript}
use Rattle.call_dispatch.specs.Complete.{Sent, IsWholeInput, FindsAll, AnswersEach, IsUnfailed, CompletesIn}
use Rattle.call_dispatch.specs.Dialogue.{Opening, Dialogue}
use Rattle.call_dispatch.specs.Invoked.{InvokesIn}
use Rattle.system_objects.specs.declared.setup.TheConstants.{DRAWS_BEGIN_BELOW}
use Rattle.sample_app.specs.Kinds.{sample_kinds}
use Rattle.sample_app.specs.Opened.{sample_events}
use Rattle.sample_app.specs.Does as sample
use Rattle.conn_server.specs.Plans.{low_signed}
use Rattle.rmi_cli.specs.Loopback.{loopback_host}
use Rattle.rmi_cli.specs.Opening.{served_space}
use Rattle.rmi_cli.specs.Told.{Failures, Reported, TellsExactly, TellsEnd}
use Rattle.rmi_cli.specs.declared.end.RunEnd.TheVariants.{Answered}
use Rattle.rmi_words.specs.declared.options.LeaseOptions.{LeaseOptions}

-- The terms of the connection, by the seed and by whether clients may bind names: it has the number 1, its peer is 127.0.0.1, port 1234, its own
-- end is 127.0.0.1, port 1099, and the kinds of objects are the sample's.
abbrev pub answer_terms : List ℕ → Bool → Terms
answer_terms seed binding = record {
  by = 1;
  peer_host = loopback_host;
  peer_port = pos 1234;
  host = loopback_host;
  port = pos 1099;
  binding = binding;
  mark = to_be_bytes w64 (slice_index seed 2);
  unique = low_signed ((slice_index seed 0 + 1) % 2 ^ 64);
  time = pos (slice_index seed 1 % DRAWS_BEGIN_BELOW);
  kinds = sample_kinds;
}

-- This course is the only one of its input and of what the outside answered: where the input was told and a settled dialogue stands for it,
-- in which the outside's answers begin as those that were given here, as far as both go, the connection went so, unless something outside failed.
abbrev pub IsOnly : List ℕ → Bool → Wires → Wires → Transcript → ConnEnd → Type 0
IsOnly seed binding old new course result = (other : Transcript) (rest : List ℕ) (end : ConnEnd) (t t2 : List OutsideAnswer)
    → old.left ≡ Some (other.taken ++ rest) → Dialogue (answer_terms seed binding) 0 other (Some rest) end → IsSettled end → IsSettled result
    → tape course.acts ++ t ≡ tape other.acts ++ t2 → (result ≡ end) × (course ≡ other) × (new.left ≡ Some rest)

-- One connection was served: what was taken, done and written is a dialogue with the end, on terms by the seed and the words, before which nothing was
-- drawn, and the only one of the input and the outside's answers. The clock gave the moments of its turns, and these are, one after the other, steps
-- of the sample space's history. A whole input whose calls all found their objects was answered to its end, unless something outside failed. Each Call was invoked at most once, with what its own bytes spell, and nothing else was. Each invocation came out as
-- one of a sample object may, and the calls of the worker count from no numbers on.
pub record ServesOne (seed : List ℕ) (options : LeaseOptions) (old new : Wires) (gave gave_after : Option (List ℕ)) (end : ConnEnd) : Type 0 where
  pub course : Transcript
  pub left : old.left ≡ with_front course.taken new.left
  pub held : new.held ≡ with_end old.held course.written
  pub dialogue : Dialogue (answer_terms seed options.binding) 0 course new.left end
  pub complete : IsUnfailed end → CompletesIn (answer_terms seed options.binding) 0 old.left course new.left end
  pub only : IsOnly seed options.binding old new course end
  pub once : InvokesIn (answer_terms seed options.binding) 0 course
  pub given : Gave gave gave_after (flat_map moments course.acts)
  pub events : List Event
  pub went : Went (served_space seed options) 1 (sample_events (served_space seed options)) (flat_map entries course.acts) events
  pub may_all : MayAll sample.May (flat_map calls course.acts)
  pub numbers : States
  pub counted : Moves sample.Moves [] (flat_map calls course.acts) numbers

-- Where a settled dialogue without acts stands for the input that was told, the connection went so, unless something outside failed.
unfoldable pub ServesExactly : List ℕ → LeaseOptions → Wires → Wires → ConnEnd → Type 0
ServesExactly seed options old new result = (other : Transcript) (rest : List ℕ) (end : ConnEnd)
    → old.left ≡ Some (other.taken ++ rest) → Dialogue (answer_terms seed options.binding) 0 other (Some rest) end → other.acts ≡ [] → IsSettled end → IsSettled result
    → (result ≡ end) × (new.left ≡ Some rest) × (new.held ≡ with_end old.held other.written)

-- The outside failed: reading, writing or memory.
abbrev pub IsOutsideStatus : ℕ → Type 0
IsOutsideStatus status = (status ≡ 3) ⊎ ((status ≡ 4) ⊎ (status ≡ 5))

-- Where the input that was told is an opening and whole messages, whose calls all found their objects as this course shows, each message was answered
-- and all of the input taken, and then the end is told, `ended`, with the status 0; unless the outside failed.
unfoldable pub AnswersWhole : List ℕ → LeaseOptions → Wires → Transcript → Wires → Reported → Type 0
AnswersWhole seed options old course new told = (opening : Opening) (sents : List Sent) (input : List ℕ)
    → old.left ≡ Some input → IsWholeInput sample_kinds opening sents input → FindsAll (flat_map entries course.acts) sents
    → (TellsExactly told (Answered Ended) × (new.left ≡ Some []) × AnswersEach (answer_terms seed options.binding) 0 opening sents course) ⊎ IsOutsideStatus told.status

-- One connection was served, and its end is told. It is a fault of reading or of writing only where the input or the output failed.
pub record Answers (seed : List ℕ) (options : LeaseOptions) (old new : Wires) (failed failed_after : Failures) (given given_after : Option (List ℕ)) (told : Reported) : Type 0 where
  pub end : ConnEnd
  pub serves : ServesOne seed options old new given given_after end
  pub read_fault : end ≡ ReadFault → Rose failed.input failed_after.input
  pub write_fault : IsWriteFault end → Rose failed.output failed_after.output
  pub tells : TellsEnd told (Answered end)
  pub whole : AnswersWhole seed options old serves.course new told

-- Where a settled dialogue that neither makes a turn nor invokes anything stands for the input that was told, it is the one that was had: its
-- rest is left, its output was written, and its end is told; unless the outside failed.
unfoldable pub AnswersExactly : List ℕ → LeaseOptions → Wires → Wires → Reported → Type 0
AnswersExactly seed options old new told = (other : Transcript) (rest : List ℕ) (end : ConnEnd)
    → old.left ≡ Some (other.taken ++ rest) → Dialogue (answer_terms seed options.binding) 0 other (Some rest) end → other.acts ≡ [] → IsSettled end
    → (TellsExactly told (Answered end) × (new.left ≡ Some rest) × (new.held ≡ with_end old.held other.written)) ⊎ IsOutsideStatus told.status
