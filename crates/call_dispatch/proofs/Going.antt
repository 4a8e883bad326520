-- Courses one after another.
use Rattle.std.proofs.Common.{◌≡◌, ℕ, ◌+◌, List, [], ◌∷◌, ◌++◌, length, Option, None, Some, refl, ap, sym, subst, ◌∙◌, arith, append_assoc, append-nil, add-zero, length-append}
use Rattle.std.specs.List.{flat_map}
use Rattle.std.proofs.lemmas.Grind.{flat_map-append}
use Rattle.wire_io.specs.Wire.{with_front, with_end, with_front-with_front, with_front-nothing, with_end-with_end, with_end-nothing, Gave-nothing, Gave-append}
use Rattle.call_dispatch.specs.declared.outcome.Invocation.{Invocation}
use Rattle.call_dispatch.specs.declared.outcome.Outcome.{Outcome}
use Rattle.call_dispatch.specs.Acts.{Call, invokes, unreferenced, States, Act, entries, moments, calls, invocations, TellsMore, Moves, LeadsStates, MayAll, Observed, Led}
use Rattle.call_dispatch.specs.ConnectionState.{ConnectionState, Transcript, bytes_exchanged, bytes_taken, followed_by, LeadsFrom}

tells_more : (a b c : Option (List Call)) (xs ys : List Call) → TellsMore a xs b → TellsMore b ys c → TellsMore a (xs ++ ys) c
tells_more a b None xs ys first then = tt
tells_more a None (Some c) xs ys first then = absurd then
tells_more None (Some b) (Some c) xs ys first then = absurd first
tells_more (Some a) (Some b) (Some c) xs ys first then = then ∙ ap (λ l. l ++ ys) first ∙ append_assoc a xs ys

pub tells_nothing : (a : Option (List Call)) → TellsMore a [] a
tells_nothing None = tt
tells_nothing (Some a) = sym (append-nil a)

moves_more : (moves : States → Call → States → Type 0) (a b c : States) (xs ys : List Call) → Moves moves a xs b → Moves moves b ys c → Moves moves a (xs ++ ys) c
moves_more moves a b c [] ys first then = let P : States → Type 0 = λ s. Moves moves s ys c in subst P first then
moves_more moves a b c (x ∷ xs) ys (mid, one, more) then = (mid, one, moves_more moves mid b c xs ys more then)

leads_more : (moves : States → Call → States → Type 0) (a b c : Option States) (xs ys : List Call) → LeadsStates moves a xs b → LeadsStates moves b ys c → LeadsStates moves a (xs ++ ys) c
leads_more moves a b None xs ys first then = tt
leads_more moves a None (Some c) xs ys first then = absurd then
leads_more moves None (Some b) (Some c) xs ys first then = absurd first
leads_more moves (Some a) (Some b) (Some c) xs ys first then = moves_more moves a b c xs ys first then

pub leads_nothing : (moves : States → Call → States → Type 0) (a : Option States) → LeadsStates moves a [] a
leads_nothing moves None = tt
leads_nothing moves (Some a) = refl

may_more : (may : Invocation → Outcome → Type 0) (xs ys : List Call) → MayAll may xs → MayAll may ys → MayAll may (xs ++ ys)
may_more may [] ys first then = then
may_more may (invokes call outcome ∷ xs) ys first then = (first.0, may_more may xs ys first.1 then)
may_more may (unreferenced object ∷ xs) ys first then = may_more may xs ys first then

-- No acts lead nowhere.
pub led_nothing : (may : Invocation → Outcome → Type 0) (moves : States → Call → States → Type 0) (a : Observed) → Led may moves a a []
led_nothing may moves a = record {
  asked = sym (append-nil a.asked);
  given = Gave-nothing a.given;
  invoked = sym (add-zero a.invoked);
  may_all = tt;
  seen = tells_nothing a.seen;
  state = leads_nothing moves a.state;
  number = refl;
}

-- Some acts, and then others.
pub led_more : (may : Invocation → Outcome → Type 0) (moves : States → Call → States → Type 0) (a b c : Observed) (xs ys : List Act)
    → Led may moves a b xs → Led may moves b c ys → Led may moves a c (xs ++ ys)
led_more may moves a b c xs ys first then =
    let cs : flat_map calls (xs ++ ys) ≡ flat_map calls xs ++ flat_map calls ys = flat_map-append calls xs ys in
    let ms : flat_map moments (xs ++ ys) ≡ flat_map moments xs ++ flat_map moments ys = flat_map-append moments xs ys in
    record {
      asked = then.asked ∙ ap (λ l. l ++ flat_map entries ys) first.asked ∙ append_assoc a.asked (flat_map entries xs) (flat_map entries ys)
          ∙ ap (λ l. a.asked ++ l) (sym (flat_map-append entries xs ys));
      given = rw ms (Gave-append a.given b.given c.given (flat_map moments xs) (flat_map moments ys) first.given then.given);
      invoked = then.invoked ∙ ap (λ n. n + length (flat_map invocations (flat_map calls ys))) first.invoked
          ∙ (let long : length (flat_map invocations (flat_map calls (xs ++ ys))) ≡ length (flat_map invocations (flat_map calls xs)) + length (flat_map invocations (flat_map calls ys))
          = ap (λ l. length (flat_map invocations l)) cs ∙ ap length (flat_map-append invocations (flat_map calls xs) (flat_map calls ys))
          ∙ length-append (flat_map invocations (flat_map calls xs)) (flat_map invocations (flat_map calls ys)) in omega (arith, long));
      may_all = rw cs (may_more may (flat_map calls xs) (flat_map calls ys) first.may_all then.may_all);
      seen = rw cs (tells_more a.seen b.seen c.seen (flat_map calls xs) (flat_map calls ys) first.seen then.seen);
      state = rw cs (leads_more moves a.state b.state c.state (flat_map calls xs) (flat_map calls ys) first.state then.state);
      number = then.number ∙ first.number;
    }

-- Nothing was done yet.
pub goes_nothing : (may : Invocation → Outcome → Type 0) (moves : States → Call → States → Type 0) (a : ConnectionState) → LeadsFrom may moves a a (bytes_taken [])
goes_nothing may moves a = record {
  left = sym (with_front-nothing a.wires.left);
  held = sym (with_end-nothing a.wires.held);
  led = led_nothing may moves a.side;
  drawn = sym (add-zero a.drawn);
}

-- Bytes were taken and others written, and nothing else was done.
pub goes_exchanged : (may : Invocation → Outcome → Type 0) (moves : States → Call → States → Type 0) (a b : ConnectionState) (taken written : List ℕ)
    → a.wires.left ≡ with_front taken b.wires.left → b.wires.held ≡ with_end a.wires.held written → b.side ≡ a.side → b.drawn ≡ a.drawn
    → LeadsFrom may moves a b (bytes_exchanged taken written)
goes_exchanged may moves a b taken written left held side drawn = record {
  left = left;
  held = held;
  led = (let P : Observed → Type 0 = λ s. Led may moves a.side s [] in subst P (sym side) (led_nothing may moves a.side));
  drawn = drawn ∙ sym (add-zero a.drawn);
}

-- Bytes were taken, and nothing else was done.
pub goes_took : (may : Invocation → Outcome → Type 0) (moves : States → Call → States → Type 0) (a b : ConnectionState) (taken : List ℕ)
    → a.wires.left ≡ with_front taken b.wires.left → b.wires.held ≡ a.wires.held → b.side ≡ a.side → b.drawn ≡ a.drawn → LeadsFrom may moves a b (bytes_taken taken)
goes_took may moves a b taken left held side drawn =
    goes_exchanged may moves a b taken [] left (held ∙ sym (with_end-nothing a.wires.held)) side drawn

-- One transcript, and then another.
pub goes_on : (may : Invocation → Outcome → Type 0) (moves : States → Call → States → Type 0) (a b c : ConnectionState) (x y : Transcript)
    → LeadsFrom may moves a b x → LeadsFrom may moves b c y → LeadsFrom may moves a c (followed_by x y)
goes_on may moves a b c x y first then = record {
  left = first.left ∙ ap (with_front x.taken) then.left ∙ with_front-with_front x.taken y.taken c.wires.left;
  held = then.held ∙ ap (λ told. with_end told y.written) first.held ∙ with_end-with_end a.wires.held x.written y.written;
  led = led_more may moves a.side b.side c.side x.acts y.acts first.led then.led;
  drawn = omega (arith, first.drawn, then.drawn);
}
