-- The generator of a drill's numbers, a linear congruential one: a state of 64 bits, of which each draw gives the upper 31.
use Rattle.std.specs.Prelude.{ℕ, ◌+◌, ◌*◌, ◌/◌, ◌%◌, ◌^◌, nat_eq, if◌then◌else◌}
use Rattle.drill.specs.declared.generator.Choice.{Choice}
use Rattle.drill.specs.declared.generator.Choice.TheVariants.{Make, Hold, GiveUp, GiveUpStrongly, Renew, Acknowledge, HoldLate, Pass}
use Rattle.drill.specs.declared.generator.Draws.{Draws}

-- the state that follows a state
abbrev pub next_state : ℕ → ℕ
next_state x = (x * 6364136223846793005 + 1442695040888963407) % 2 ^ 64

-- what is drawn with a state
abbrev pub drawn_with : ℕ → ℕ
drawn_with x = x / 2 ^ 33

-- the choice that a number from 0 to 7 makes
abbrev pub choice_of : ℕ → Choice
choice_of n =
    if nat_eq n 0 then Make else
    if nat_eq n 1 then Hold else
    if nat_eq n 2 then GiveUp else
    if nat_eq n 3 then GiveUpStrongly else
    if nat_eq n 4 then Renew else
    if nat_eq n 5 then Acknowledge else
    if nat_eq n 6 then HoldLate else
    Pass

-- the draws after a state
unfoldable pub draws_after : ℕ → Draws
draws_after x =
    let a = next_state x in
    let b = next_state a in
    let c = next_state b in
    let d = next_state c in
    let e = next_state d in
    record { steps = drawn_with a; choice = choice_of (drawn_with b % 8); client = drawn_with c; object = drawn_with d; late = drawn_with e; state = e }
