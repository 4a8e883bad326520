-- What a replay answers to an input is determined by the input.
use Rattle.std.proofs.Common.{◌≡◌, ◌≢◌, ℕ, ◌+◌, ◌≤◌, ◌<◌, List, [], ◌∷◌, ◌++◌, length, Option, Some, None, Result, Ok, Err, ◌⊎◌, inl, inr, refl, ap, sym, subst, ◌∙◌, arith, append_assoc, append-nil, length-append}
use Rattle.history.specs.declared.asks.SpaceConfig.{SpaceConfig}
use Rattle.history.specs.declared.asks.Event.{Event}
use Rattle.history.specs.Limits.{limits, refusal}
use Rattle.history.specs.Outline.{outline}
use Rattle.history.specs.Table.{places}
use Rattle.journal.specs.Grammar.{SpellsConfig, SpellsEvent, SpellsFront}
use Rattle.journal.proofs.Laws.{event_once, event_lacks, config_once, config_lacks}
use Rattle.journal.proofs.Splitting.{line_injective}
use Rattle.wire_io.specs.Wire.{Wires, with_front, with_end, with_end-nothing, NothingLeft}
use Rattle.rmi_cli.specs.declared.outlines.ReplayFault.{ReplayFault}
use Rattle.rmi_cli.specs.declared.outlines.ReplayFault.TheVariants.{BadLine, Refused as RefusedTurn, OutOfMemory}
use Rattle.rmi_cli.specs.declared.end.RunEnd.{RunEnd}
use Rattle.rmi_cli.specs.declared.end.RunEnd.TheVariants as ends
use Rattle.rmi_cli.specs.Answer.{IsOutsideStatus}
use Rattle.rmi_cli.specs.Replay.{EventIsTaken, BeginsWith, OpensJournal, ReplayStops, AllTaken, IsJournalUpTo, Replays}
use Rattle.rmi_cli.specs.declared.journal_input.TheConstants.{JOURNAL_BYTES}
use Rattle.rmi_cli.specs.Replayed.{TakesWhole, ReplayEnds, end_of, output_of, ReplaysExactly}
use Rattle.rmi_cli.specs.Told.{Reported, TellsExactly, TellsEnd}

-- ---- stops

no_lines : (line more : List ℕ) → [] ≡ line ++ 10 ∷ more → ⊥
no_lines [] more is = cc
no_lines (b ∷ line) more is = cc

-- It is no want of memory.
abbrev pub IsKnown : {X : Type 0} → Result X ReplayFault → Type 0
IsKnown (Ok x) = Unit {0}
IsKnown (Err (BadLine line)) = Unit {0}
IsKnown (Err RefusedTurn) = Unit {0}
IsKnown (Err OutOfMemory) = ⊥

-- Lines stop in one way.
same_stop : (config : SpaceConfig) (h : List Event) (rest : List ℕ) (number : ℕ) (a b : Result (Unit {0}) ReplayFault) → IsKnown a → IsKnown b
    → ReplayStops config h rest number a → ReplayStops config h rest number b → a ≡ b
same_stop config h rest number (Err OutOfMemory) b known_a known_b of_a of_b = absurd known_a
same_stop config h rest number a (Err OutOfMemory) known_a known_b of_a of_b = absurd known_b
same_stop config h rest number (Ok u) (Ok v) known_a known_b of_a of_b = refl
same_stop config h rest number (Ok u) (Err (BadLine m)) known_a known_b of_a of_b = absurd (of_b.0 of_a)
same_stop config h rest number (Ok u) (Err RefusedTurn) known_a known_b of_a (e, (line, more, spells, is), cause) = absurd (no_lines line more (sym of_a ∙ is))
same_stop config h rest number (Err (BadLine n)) (Ok v) known_a known_b of_a of_b = absurd (of_a.0 of_b)
same_stop config h rest number (Err (BadLine n)) (Err (BadLine m)) known_a known_b of_a of_b = let same : n ≡ m = of_a.2 ∙ sym of_b.2 in cc
same_stop config h rest number (Err (BadLine n)) (Err RefusedTurn) known_a known_b of_a (e, begins, cause) = absurd (of_a.1 e begins)
same_stop config h rest number (Err RefusedTurn) (Ok v) known_a known_b (e, (line, more, spells, is), cause) of_b = absurd (no_lines line more (sym of_b ∙ is))
same_stop config h rest number (Err RefusedTurn) (Err (BadLine m)) known_a known_b (e, begins, cause) of_b = absurd (of_b.1 e begins)
same_stop config h rest number (Err RefusedTurn) (Err RefusedTurn) known_a known_b of_a of_b = refl

-- Where the first line spells an event that is taken, lines don't stop.
no_stop : (config : SpaceConfig) (h : List Event) (rest : List ℕ) (number : ℕ) (stop : Result (Unit {0}) ReplayFault) (y : Event) → IsKnown stop
    → BeginsWith config rest y → EventIsTaken config h y → ReplayStops config h rest number stop → ⊥
no_stop config h rest number (Ok u) y known (line, more, spells, is) taken stops = no_lines line more (sym stops ∙ is)
no_stop config h rest number (Err (BadLine n)) y known begins taken stops = stops.1 y begins
no_stop config h rest number (Err OutOfMemory) y known begins taken stops = known
no_stop config h rest number (Err RefusedTurn) y known (line, more, spells, is) taken (e, (line2, more2, spells2, is2), (cause, why)) =
    let same = line_injective 10 line2 line more2 more (event_lacks config.uid e line2 spells2) (event_lacks config.uid y line spells) (sym is2 ∙ is) in
    let event : e ≡ y = event_once config.uid e y line2 spells2 (subst (SpellsEvent config.uid y) (sym same.0) spells) in
    let both : None ≡ Some cause = sym taken ∙ ap (refusal (limits config) config (places config h)) (sym event) ∙ why in
    cc

-- The same stop after one more event.
shifted : (config : SpaceConfig) (h : List Event) (e : Event) (events : List Event) (rest : List ℕ) (number : ℕ) (stop : Result (Unit {0}) ReplayFault)
    → ReplayStops config (h ++ e ∷ events) rest (number + length (e ∷ events)) stop → ReplayStops config ((h ++ e ∷ []) ++ events) rest (number + 1 + length events) stop
shifted config h e events rest number stop stops =
    let P : List Event → Type 0 = λ g. ReplayStops config g rest (number + length (e ∷ events)) stop in
    let Q : ℕ → Type 0 = λ n. ReplayStops config ((h ++ e ∷ []) ++ events) rest n stop in
    let count : number + length (e ∷ events) ≡ number + 1 + length events = omega arith in
    subst Q count (subst P (sym (append_assoc h (e ∷ []) events)) stops)

-- Lines are taken in one way up to a stop.
walk : (config : SpaceConfig) (h xs ys : List Event) (bytes r s : List ℕ) (number : ℕ) (a b : Result (Unit {0}) ReplayFault) → IsKnown a → IsKnown b
    → SpellsFront config.uid xs bytes r → AllTaken config h xs → ReplayStops config (h ++ xs) r (number + length xs) a
    → SpellsFront config.uid ys bytes s → AllTaken config h ys → ReplayStops config (h ++ ys) s (number + length ys) b → (xs ≡ ys) × (a ≡ b)
walk config h [] [] bytes r s number a b known_a known_b of_x taken_x stops_a of_y taken_y stops_b =
    let P : List ℕ → Type 0 = λ t. ReplayStops config (h ++ []) t (number + 0) a in
    (refl, same_stop config (h ++ []) s (number + 0) a b known_a known_b (subst P (sym of_x ∙ of_y) stops_a) stops_b)
walk config h [] (y ∷ ys) bytes r s number a b known_a known_b of_x taken_x stops_a (line, others, one, more, is) taken_y stops_b =
    let P : List Event → Type 0 = λ g. EventIsTaken config g y in
    absurd (no_stop config (h ++ []) r (number + 0) a y known_a (line, others, one, sym of_x ∙ is) (subst P (sym (append-nil h)) taken_y.0) stops_a)
walk config h (x ∷ xs) [] bytes r s number a b known_a known_b (line, others, one, more, is) taken_x stops_a of_y taken_y stops_b =
    let P : List Event → Type 0 = λ g. EventIsTaken config g x in
    absurd (no_stop config (h ++ []) s (number + 0) b x known_b (line, others, one, sym of_y ∙ is) (subst P (sym (append-nil h)) taken_x.0) stops_b)
walk config h (x ∷ xs) (y ∷ ys) bytes r s number a b known_a known_b (line, others, one, more, is) taken_x stops_a (line2, others2, one2, more2, is2) taken_y stops_b =
    let same = line_injective 10 line line2 others others2 (event_lacks config.uid x line one) (event_lacks config.uid y line2 one2) (sym is ∙ is2) in
    let head : x ≡ y = event_once config.uid x y line one (subst (SpellsEvent config.uid y) (sym same.0) one2) in
    let F : List ℕ → Type 0 = λ t. SpellsFront config.uid ys t s in
    let T : Event → Type 0 = λ e. AllTaken config (h ++ e ∷ []) ys in
    let S : Event → Type 0 = λ e. ReplayStops config ((h ++ e ∷ []) ++ ys) s (number + 1 + length ys) b in
    let tail = walk config (h ++ x ∷ []) xs ys others r s (number + 1) a b known_a known_b more taken_x.1 (shifted config h x xs r number a stops_a)
    (subst F (sym same.1) more2) (subst T (sym head) taken_y.1) (subst S (sym head) (shifted config h y ys s number b stops_b)) in
    (ap (λ e. e ∷ xs) head ∙ ap (λ es. y ∷ es) tail.0, tail.1)

-- ---- answers

abbrev stop_of : Result (List ℕ) ReplayFault → Result (Unit {0}) ReplayFault
stop_of (Ok output) = Ok tt
stop_of (Err fault) = Err fault

abbrev Says : SpaceConfig → List Event → Result (List ℕ) ReplayFault → Type 0
Says config events (Ok output) = output ≡ outline config events
Says config events (Err fault) = Unit {0}

-- The input's lines were taken up to the stop that the answer tells.
record Went (input : List ℕ) (answer : Result (List ℕ) ReplayFault) : Type 0 where
  config : SpaceConfig
  events : List Event
  rest : List ℕ
  up : IsJournalUpTo input config events rest
  stops : ReplayStops config events rest (2 + length events) (stop_of answer)
  says : Says config events answer

-- Its first line spells no configuration, and this is the answer.
abbrev IsUnopened : List ℕ → Result (List ℕ) ReplayFault → Type 0
IsUnopened input answer = (answer ≡ Err (BadLine 1)) × ((config : SpaceConfig) (lines : List ℕ) → OpensJournal input config lines → ⊥)

went_or_not : (input : List ℕ) (answer : Result (List ℕ) ReplayFault) → IsKnown answer → Replays input answer → IsUnopened input answer ⊎ Went input answer
went_or_not input (Ok output) known (config, events, (line, lines, opens, spelled, is), taken, says) =
    inr (record { config = config; events = events; rest = []; up = record { lines = lines; opens = (line, opens, is); spelled = spelled; taken = taken }; stops = refl; says = says })
went_or_not input (Err (BadLine n)) known (inl (first, none)) = inl (ap (λ (m : ℕ). Err (BadLine m)) first, none)
went_or_not input (Err (BadLine n)) known (inr (config, events, rest, up, bad, number)) =
    inr (record { config = config; events = events; rest = rest; up = up; stops = (bad.0, bad.1, number); says = tt })
went_or_not input (Err RefusedTurn) known (config, events, rest, up, refused) =
    inr (record { config = config; events = events; rest = rest; up = up; stops = refused; says = tt })
went_or_not input (Err OutOfMemory) known replays = absurd known

known_stop : (answer : Result (List ℕ) ReplayFault) → IsKnown answer → IsKnown (stop_of answer)
known_stop (Ok output) known = tt
known_stop (Err (BadLine n)) known = tt
known_stop (Err RefusedTurn) known = tt
known_stop (Err OutOfMemory) known = absurd known

fault_in : Result (Unit {0}) ReplayFault → ReplayFault
fault_in (Ok u) = OutOfMemory
fault_in (Err fault) = fault

same_answer : (config config2 : SpaceConfig) (events events2 : List Event) (a b : Result (List ℕ) ReplayFault) → config2 ≡ config → events ≡ events2
    → Says config events a → Says config2 events2 b → stop_of a ≡ stop_of b → a ≡ b
unfolding fault_in
same_answer config config2 events events2 (Ok x) (Ok y) c e of_a of_b same =
    ap Ok (of_a ∙ ap (outline config) e ∙ ap (λ (k : SpaceConfig). outline k events2) (sym c) ∙ sym of_b)
same_answer config config2 events events2 (Ok x) (Err g) c e of_a of_b same = cc
same_answer config config2 events events2 (Err f) (Ok y) c e of_a of_b same = cc
same_answer config config2 events events2 (Err f) (Err g) c e of_a of_b same = ap Err (ap fault_in same)

went_once : (input : List ℕ) (a b : Result (List ℕ) ReplayFault) → IsKnown a → IsKnown b → Went input a → Went input b → a ≡ b
went_once input a b known_a known_b w v = by_opens w.up.opens v.up.opens
  where
    by_opens : OpensJournal input w.config w.up.lines → OpensJournal input v.config v.up.lines → a ≡ b
    by_opens (line, opens, is) (line2, opens2, is2) =
        let same = line_injective 10 line2 line v.up.lines w.up.lines (config_lacks v.config line2 opens2) (config_lacks w.config line opens) (sym is2 ∙ is) in
        let config : v.config ≡ w.config = config_once v.config w.config line2 opens2 (subst (SpellsConfig w.config) (sym same.0) opens) in
        let F : SpaceConfig → Type 0 = λ c. SpellsFront c.uid v.events v.up.lines v.rest in
        let L : List ℕ → Type 0 = λ l. SpellsFront w.config.uid v.events l v.rest in
        let T : SpaceConfig → Type 0 = λ c. AllTaken c [] v.events in
        let S : SpaceConfig → Type 0 = λ c. ReplayStops c v.events v.rest (2 + length v.events) (stop_of b) in
        let all = walk w.config [] w.events v.events w.up.lines w.rest v.rest 2 (stop_of a) (stop_of b) (known_stop a known_a) (known_stop b known_b)
        w.up.spelled w.up.taken w.stops (subst L same.1 (subst F config v.up.spelled)) (subst T config v.up.taken) (subst S config v.stops) in
        same_answer w.config v.config w.events v.events a b config all.0 w.says v.says all.1

unopened : (input : List ℕ) (a b : Result (List ℕ) ReplayFault) → IsUnopened input a → Went input b → ⊥
unopened input a b (is, none) w = none w.config w.up.lines w.up.opens

-- An input has one answer.
pub replays_once : (input : List ℕ) (a b : Result (List ℕ) ReplayFault) → IsKnown a → IsKnown b → Replays input a → Replays input b → a ≡ b
replays_once input a b known_a known_b of_a of_b = both (went_or_not input a known_a of_a) (went_or_not input b known_b of_b)
  where
    both : IsUnopened input a ⊎ Went input a → IsUnopened input b ⊎ Went input b → a ≡ b
    both (inl x) (inl y) = x.0 ∙ sym y.0
    both (inl x) (inr y) = absurd (unopened input a b x y)
    both (inr x) (inl y) = absurd (unopened input b a y x)
    both (inr x) (inr y) = went_once input a b known_a known_b x y

-- ---- the whole input

is_known : (answer : Result (List ℕ) ReplayFault) → answer ≢ Err OutOfMemory → IsKnown answer
is_known (Ok output) told = tt
is_known (Err (BadLine n)) told = tt
is_known (Err RefusedTurn) told = tt
is_known (Err OutOfMemory) told = absurd (told refl)

-- What was taken whole of a told input is that input.
pub whole_is : (input taken : List ℕ) (left : Option (List ℕ)) → Some input ≡ with_front taken left → NothingLeft left → (taken ≡ input) × (left ≡ Some [])
whole_is input taken None is nothing = absurd (cc)
whole_is input taken (Some rest) is nothing =
    let same : input ≡ taken ++ rest = cc in
    (sym (same ∙ ap (λ r. taken ++ r) nothing ∙ append-nil taken), ap Some nothing)

pub all_taken : (old new : Wires) (input taken : List ℕ) → old.left ≡ Some input → TakesWhole old new taken → (taken ≡ input) × (new.left ≡ Some [])
all_taken old new input taken told whole = whole_is input taken new.left (sym told ∙ whole.left) whole.nothing

-- A front is no longer than the input.
pub front_short : (input front : List ℕ) (left : Option (List ℕ)) → Some input ≡ with_front front left → length front ≤ length input
front_short input front None is = absurd (cc)
front_short input front (Some rest) is = let same : input ≡ front ++ rest = cc in omega (arith, ap length same, length-append front rest)

-- The end is told as the answer's.
abbrev Ends : Wires → Wires → Reported → Result (List ℕ) ReplayFault → Type 0
Ends old new told answer = TellsExactly told (end_of answer) × (new.left ≡ Some []) × (new.held ≡ with_end old.held (output_of answer))

at_whole : (old new : Wires) (told : Reported) (input taken : List ℕ) (answer mine : Result (List ℕ) ReplayFault) → old.left ≡ Some input → TakesWhole old new taken
    → IsKnown answer → IsKnown mine → Replays input answer → Replays taken mine → TellsExactly told (end_of mine) → new.held ≡ with_end old.held (output_of mine) → Ends old new told answer
at_whole old new told input taken answer mine left whole known known_mine replays mines tells held =
    let all = all_taken old new input taken left whole in
    let P : List ℕ → Type 0 = λ i. Replays i mine in
    let same : mine ≡ answer = replays_once input mine answer known_mine known (subst P all.0 mines) replays in
    let Q : Result (List ℕ) ReplayFault → Type 0 = λ x. Ends old new told x in
    subst Q same (tells, all.1, held)

within : (old new : Wires) (told : Reported) (end : RunEnd) → ReplayEnds old new end → TellsExactly told end
    → (input : List ℕ) (answer : Result (List ℕ) ReplayFault) → old.left ≡ Some input → length input ≤ JOURNAL_BYTES → Replays input answer → IsKnown answer
    → Ends old new told answer ⊎ IsOutsideStatus told.status
within old new told ends.Done (taken, output, whole, outlines, held) tells input answer left short replays known =
    inl (at_whole old new told input taken answer (Ok output) left whole known tt replays outlines tells held)
within old new told ends.Usage e tells input answer left short replays known = absurd e
within old new told (ends.Answered end) e tells input answer left short replays known = absurd e
within old new told (ends.Talked end) e tells input answer left short replays known = absurd e
within old new told (ends.BadLine n) (taken, whole, bad, held) tells input answer left short replays known =
    inl (at_whole old new told input taken answer (Err (BadLine n)) left whole known tt replays bad tells (held ∙ sym (with_end-nothing old.held)))
within old new told ends.Refused (taken, whole, refused, held) tells input answer left short replays known =
    inl (at_whole old new told input taken answer (Err RefusedTurn) left whole known tt replays refused tells (held ∙ sym (with_end-nothing old.held)))
within old new told (ends.TooLarge limit) (is, (front, long, most, front_is), held) tells input answer left short replays known =
    absurd (omega (arith, front_short input front new.left (sym left ∙ front_is), long, short))
within old new told (ends.NotShown fault) e tells input answer left short replays known = absurd e
within old new told ends.ListenFault e tells input answer left short replays known = absurd e
within old new told ends.AcceptFault e tells input answer left short replays known = absurd e
within old new told ends.ReadFault e tells input answer left short replays known = inr (inl tells.0)
within old new told ends.WriteFault e tells input answer left short replays known = inr (inr (inl tells.0))
within old new told ends.OutOfMemory e tells input answer left short replays known = inr (inr (inr tells.0))

pub no_room : (old new : Wires) (input taken : List ℕ) → old.left ≡ Some input → JOURNAL_BYTES < length input → TakesWhole old new taken → ⊥
no_room old new input taken left long whole = let all = all_taken old new input taken left whole in omega (arith, ap length all.0, whole.short, long)

past : (old new : Wires) (told : Reported) (end : RunEnd) → ReplayEnds old new end → TellsExactly told end → (input : List ℕ) → old.left ≡ Some input → JOURNAL_BYTES < length input
    → (TellsExactly told (ends.TooLarge JOURNAL_BYTES) × (new.held ≡ old.held)) ⊎ IsOutsideStatus told.status
past old new told ends.Done (taken, output, whole, outlines, held) tells input left long = absurd (no_room old new input taken left long whole)
past old new told ends.Usage e tells input left long = absurd e
past old new told (ends.Answered end) e tells input left long = absurd e
past old new told (ends.Talked end) e tells input left long = absurd e
past old new told (ends.BadLine n) (taken, whole, bad, held) tells input left long = absurd (no_room old new input taken left long whole)
past old new told ends.Refused (taken, whole, refused, held) tells input left long = absurd (no_room old new input taken left long whole)
past old new told (ends.TooLarge limit) (is, front, held) tells input left long =
    let P : ℕ → Type 0 = λ n. TellsExactly told (ends.TooLarge n) in inl (subst P is tells, held)
past old new told (ends.NotShown fault) e tells input left long = absurd e
past old new told ends.ListenFault e tells input left long = absurd e
past old new told ends.AcceptFault e tells input left long = absurd e
past old new told ends.ReadFault e tells input left long = inr (inl tells.0)
past old new told ends.WriteFault e tells input left long = inr (inr (inl tells.0))
past old new told ends.OutOfMemory e tells input left long = inr (inr (inr tells.0))

-- A replay that ended so, and was told, is exact.
pub replays_exactly : (old new : Wires) (told : Reported) (end : RunEnd) → ReplayEnds old new end → TellsEnd told end → ReplaysExactly old new told
replays_exactly old new told end e (inl tells) = record {
  within = λ input answer left short replays known. within old new told end e tells input answer left short replays (is_known answer known);
  past = past old new told end e tells;
}
replays_exactly old new told end e (inr memory) = record {
  within = λ input answer left short replays known. inr (inr (inr memory.1.0));
  past = λ input left long. inr (inr (inr memory.1.0));
}
