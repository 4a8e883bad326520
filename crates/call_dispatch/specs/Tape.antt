-- What the outside hands a connection beside its input, in order: the answers of turns with their moments, and the outcomes of invocations.
use Rattle.std.specs.Prelude.{ℕ, List, [], ◌∷◌}
use Rattle.std.specs.List.{flat_map}
use Rattle.space.specs.declared.asked.AskedEnd.{AskedEnd}
use Rattle.call_dispatch.specs.declared.outcome.Outcome.{Outcome}
use Rattle.call_dispatch.specs.Acts.{Act, asks, lost, called, invokes, unreferenced}

-- the answer of a turn at a moment, or the outcome of an invocation
pub data OutsideAnswer : Type 0 where
  turn_answer : (moment : ℕ) (end : AskedEnd) → OutsideAnswer
  worker_outcome : Outcome → OutsideAnswer

abbrev pub outside_answers : Act → List OutsideAnswer
outside_answers (asks entry) = turn_answer entry.moment entry.end ∷ []
outside_answers (lost moment) = []
outside_answers (called (invokes call outcome)) = worker_outcome outcome ∷ []
outside_answers (called (unreferenced object)) = []

-- what the outside handed in at these acts
abbrev pub tape : List Act → List OutsideAnswer
tape acts = flat_map outside_answers acts
