-- The calls that a worker keeps.
use Rattle.std.specs.Prelude.{List, [], ◌∷◌}
use Rattle.call_dispatch.specs.declared.outcome.Outcome.{Outcome}
use Rattle.call_dispatch.specs.declared.recording.Recorded.{Recorded}
use Rattle.call_dispatch.specs.declared.recording.Recorded.TheVariants.{Invoked, Unreferenced}
use Rattle.call_dispatch.specs.Acts.{Call, invokes, unreferenced}

-- the call that was kept so
abbrev pub call_of : Recorded → Call
call_of (Invoked call outcome) = invokes call outcome
call_of (Unreferenced object) = unreferenced object

-- the first of some outcomes
abbrev pub head_or : Outcome → List Outcome → Outcome
head_or default [] = default
head_or default (outcome ∷ outcomes) = outcome
