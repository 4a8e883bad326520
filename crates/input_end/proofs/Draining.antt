-- A look that drops pieces: what it dropped before a step, and then what the step did.
use Rattle.std.proofs.Common.{◌≡◌, ◌+◌, ◌<◌, ◌≤◌, Bool, true, false, ℕ, List, [], ◌++◌, length, arith, ap, refl, ◌∙◌, inl, inr}
use Rattle.std.proofs.lemmas.List.{length-append}
use Rattle.wire_io.specs.Wire.{ReadHalf, with_front, with_front-with_front}
use Rattle.input_end.specs.Ends.{Drops, Steps, Finds}
use Rattle.input_end.specs.declared.drained.PieceEnd.TheVariants.{Dropped, Ended, Stopped}
use Rattle.input_end.specs.declared.watch.Readiness.{Readiness}
use Rattle.input_end.specs.declared.watch.Readiness.TheVariants.{WouldWait, WouldAnswer, HungUp}

-- bytes were dropped, and then more
pub drops_more : (old mid new : ReadHalf) (a b : List ℕ) → Drops old mid a → Drops mid new b → Drops old new (a ++ b)
drops_more old mid new a b first then = record {
  front = first.front ∙ ap (with_front a) then.front ∙ with_front-with_front a b new.left;
  faults = omega (arith, first.faults, then.faults);
  shut = then.shut ∙ first.shut;
}

-- What a look did so far whose steps each dropped a piece, so many of them, by what the watch answered last.
abbrev pub Dropping : Readiness → ReadHalf → ReadHalf → ℕ → Type 0
Dropping answered old new count =
    (bytes : List ℕ) × Drops old new bytes × (count ≤ length bytes) × (0 < count → answered ≡ WouldAnswer)

-- What a look did, and what it found.
abbrev pub Looks : ℕ → Readiness → ReadHalf → ReadHalf → Bool → Type 0
Looks most answered old new found = (bytes : List ℕ) × Drops old new bytes × Finds most answered old new bytes found

-- one more piece was dropped
pub steps_on : (before answered : Readiness) (old mid new : ReadHalf) (count : ℕ) → Dropping before old mid count → Steps answered mid new Dropped → Dropping answered old new (count + 1)
steps_on before WouldWait old mid new count so step = let e = step.0 in absurd (cc)
steps_on before HungUp old mid new count so step = let e = step.0 in absurd (cc)
steps_on before WouldAnswer old mid new count so step = (
  so.0 ++ step.0,
  drops_more old mid new so.0 step.0 so.1 step.2,
  (let a = so.2 in let b = step.1 in omega (arith, length-append so.0 step.0)),
  λ _. refl,
)

-- the end came
pub ends : (most : ℕ) (before answered : Readiness) (old mid new : ReadHalf) (count : ℕ) → Dropping before old mid count → Steps answered mid new Ended → Looks most answered old new true
ends most before WouldWait old mid new count so step = let e = step.0 in absurd (cc)
ends most before HungUp old mid new count so step = (so.0, rw step.1 so.1, refl)
ends most before WouldAnswer old mid new count so step = (so.0 ++ [], drops_more old mid new so.0 [] so.1 step.1, step.0)

-- a read would wait, or it failed
pub stops : (most : ℕ) (before answered : Readiness) (old mid new : ReadHalf) (count : ℕ) → Dropping before old mid count → Steps answered mid new Stopped → Looks most answered old new false
stops most before WouldWait old mid new count so step = (so.0, rw step.1 so.1, refl)
stops most before HungUp old mid new count so step = let e = step.0 in absurd (cc)
stops most before WouldAnswer old mid new count so step = (
  so.0 ++ [],
  drops_more old mid new so.0 [] so.1 step.1,
  inl ((let a = so.1.faults in let b = step.0.0 in omega (arith)), (let a = so.1.faults in let b = step.0.1 in omega (arith))),
)

-- as many pieces came as one look reads
pub fills : (most : ℕ) (answered : Readiness) (old new : ReadHalf) (count : ℕ) → 0 < most → most ≤ count → Dropping answered old new count → Looks most answered old new false
fills most answered old new count some full so =
    let last : answered ≡ WouldAnswer = so.3 (omega (arith)) in
    (so.0, so.1, rw last (inr (let a = so.2 in omega (arith))))
