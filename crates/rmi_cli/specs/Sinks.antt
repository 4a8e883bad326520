-- What a sink holds that is given a text in pieces.
use Rattle.std.specs.Prelude.{◌≡◌, ◌<◌, ◌≤◌, ℕ, List, ◌∷◌, ◌++◌, length, take, Option}
use Rattle.std.specs.List.{flat_map}
use Rattle.wire_io.specs.Wire.{WriteHalf, with_end, Rose}
use Rattle.rmi_cli.specs.declared.sink_state.SinkState.{SinkState}
use Rattle.rmi_cli.specs.declared.sink_state.SinkState.TheVariants.{Whole, Failed, Lost}

-- The text of pieces.
abbrev pub joined : List (List ℕ) → List ℕ
joined pieces = flat_map (λ (piece : List ℕ). piece) pieces

-- A front of these bytes, and not all, was written.
abbrev pub WroteLess : Option (List ℕ) → Option (List ℕ) → List ℕ → Type 0
WroteLess held held_after bytes = (sent : ℕ) × (sent < length bytes) × (held_after ≡ with_end held (take sent bytes))

-- The pieces before one were written, each as a whole, and nothing else was.
pub record WroteBefore (held held_after : Option (List ℕ)) (pieces : List (List ℕ)) : Type 0 where
  pub written : List (List ℕ)
  pub lost : List ℕ
  pub rest : List (List ℕ)
  pub pieces_are : pieces ≡ written ++ lost ∷ rest
  pub held_is : held_after ≡ with_end held (joined written)

-- All pieces were written, and the sink counted no fault. Or less than their text was, since the sink failed. Or those before one were, for which
-- there was no memory; the sink counted no fault then.
abbrev pub Wrote : Option (List ℕ) → Option (List ℕ) → ℕ → ℕ → List (List ℕ) → SinkState → Type 0
Wrote held held_after faults faults_after pieces Whole = (held_after ≡ with_end held (joined pieces)) × (faults_after ≡ faults)
Wrote held held_after faults faults_after pieces Failed = WroteLess held held_after (joined pieces) × Rose faults faults_after
Wrote held held_after faults faults_after pieces Lost = WroteBefore held held_after pieces × (faults_after ≡ faults)

-- The sink was given these pieces in the one state, and is in the other: where it took all before them, they were written on; else nothing was.
abbrev pub Goes : WriteHalf → WriteHalf → List (List ℕ) → SinkState → SinkState → Type 0
Goes before after pieces Whole state =
    Wrote before.held after.held before.faults after.faults pieces state × (before.faults ≤ after.faults) × (after.shut ≡ before.shut)
Goes before after pieces Failed state = (after ≡ before) × (state ≡ Failed)
Goes before after pieces Lost state = (after ≡ before) × (state ≡ Lost)
