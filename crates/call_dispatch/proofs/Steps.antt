-- Steps of a dialogue, over plain lists.
use Rattle.std.proofs.Common.{◌≡◌, ℕ, ◌+◌, ◌<◌, ◌⊎◌, inl, List, [], ◌∷◌, ◌++◌, length, take, Option, refl, ap, sym, subst, ◌∙◌, arith, add-zero, length-append}
use Rattle.std.proofs.lemmas.List.{flat_map_more}
use Rattle.wire_io.specs.Wire.{with_front}
use Rattle.wire_io.specs.Pulled.{PullState, Takes}
use Rattle.wire_io.specs.declared.pull.PullEnd.{PullEnd}
use Rattle.wire_io.specs.declared.pull.PullEnd.TheVariants.{End, Limit, ReadFault, OutOfMemory}
use Rattle.wire_io.proofs.Pulling.{takes_stop}
use Rattle.jrmp_frames.specs.Gives.{StopsInside, StopsIn}
use Rattle.jrmp_frames.specs.declared.fault.FrameFault.TheVariants as frames
use Rattle.ser_read.specs.declared.fault.StreamFault.{StreamFault}
use Rattle.ser_read.specs.declared.fault.StreamFault.TheVariants as faults
use Rattle.ser_read.specs.declared.fault.Large.TheVariants as larges
use Rattle.ser_read.specs.Here.{fault_of}
use Rattle.call_dispatch.specs.declared.outcome.Invocation.{Invocation}
use Rattle.call_dispatch.specs.declared.outcome.Outcome.{Outcome}
use Rattle.call_dispatch.specs.declared.end.ConnEnd.{ConnEnd}
use Rattle.call_dispatch.specs.declared.end.ConnEnd.TheVariants as ends
use Rattle.system_objects.specs.Terms.{Terms}
use Rattle.call_dispatch.specs.Acts.{Act, Call, States, Observed}
use Rattle.call_dispatch.specs.ConnectionState.{ConnectionState, Transcript, bytes_taken, followed_by, LeadsFrom}
use Rattle.call_dispatch.specs.Rows.{Exchange, taken_by, acts_by, draws_by, written_by, draws_in, transcript_by, IsExchange, IsOpen, StaysOpen, IsChain}
use Rattle.call_dispatch.specs.Dialogue.{Opening, stream, single_op, opening_taken, opening_written, most_messages, Completed, nothing, opened, IsCompleted, taken_in, written_in, transcript_in, IsAtCode, IsInside, IsAnswered, Ends}
use Rattle.call_dispatch.specs.Progress.{StandsWhole, Talked, end_from}
use Rattle.call_dispatch.proofs.Going.{goes_nothing, goes_took, goes_on}

-- a transcript, by its parts
abbrev transcript : List ℕ → List Act → ℕ → List ℕ → Transcript
transcript taken acts draws written = record { taken = taken; acts = acts; draws = draws; written = written }

-- Courses of the same parts are the same.
pub transcript_is : (t t2 : List ℕ) (a a2 : List Act) (d d2 : ℕ) (w w2 : List ℕ) → t ≡ t2 → a ≡ a2 → d ≡ d2 → w ≡ w2 → transcript t a d w ≡ transcript t2 a2 d2 w2
transcript_is t t2 a a2 d d2 w w2 taken acts draws written =
    ap (λ x. transcript x a d w) taken ∙ ap (λ x. transcript t2 x d w) acts ∙ ap (λ x. transcript t2 a2 x w) draws ∙ ap (transcript t2 a2 d2) written

-- Nothing stands yet.
pub stands_nothing : (may : Invocation → Outcome → Type 0) (moves : States → Call → States → Type 0) (terms : Terms) (start : ConnectionState) (at : ℕ) → at ≡ 0 → StandsWhole may moves terms start start at 0 nothing
stands_nothing may moves terms start at first = record { whole = tt; goes = goes_nothing may moves start; position = first; count = refl }

-- More was done, so that more stands whole.
pub stands_on : (may : Invocation → Outcome → Type 0) (moves : States → Call → States → Type 0) (terms : Terms) (start before now : ConnectionState) (at sent at2 sent2 : ℕ) (w w2 : Completed) (c : Transcript)
    → StandsWhole may moves terms start before at sent w → IsCompleted terms start.drawn w2 → transcript_in terms w2 ≡ followed_by (transcript_in terms w) c
    → LeadsFrom may moves before now c → at2 ≡ at + length c.taken → sent2 ≡ sent + length c.written
    → StandsWhole may moves terms start now at2 sent2 w2
stands_on may moves terms start before now at sent at2 sent2 w w2 c stands whole is goes ats sents = record {
  whole = whole;
  goes = (let P : Transcript → Type 0 = λ x. LeadsFrom may moves start now x in subst P (sym is) (goes_on may moves start before now (transcript_in terms w) c stands.goes goes));
  position = ats ∙ ap (λ n. n + length c.taken) stands.position ∙ sym (length-append (taken_in w) c.taken) ∙ ap (λ (x : Transcript). length x.taken) (sym is);
  count = sents ∙ ap (λ n. n + length c.written) stands.count ∙ sym (length-append (written_in terms w) c.written) ∙ ap (λ (x : Transcript). length x.written) (sym is);
}

-- More was done, and the connection ended.
pub talks_on : (may : Invocation → Outcome → Type 0) (moves : States → Call → States → Type 0) (terms : Terms) (start before now : ConnectionState) (at sent : ℕ) (w : Completed) (tail : Transcript) (end : ConnEnd)
    → StandsWhole may moves terms start before at sent w → LeadsFrom may moves before now tail → Ends terms start.drawn w tail now.wires.left end
    → Talked may moves terms start now end
talks_on may moves terms start before now at sent w tail end stands goes ends = (
  followed_by (transcript_in terms w) tail,
  record { goes = goes_on may moves start before now (transcript_in terms w) tail stands.goes goes; dialogue = (w, tail, stands.whole, refl, ends) },
)

-- More was taken, and the connection ended with nothing else done.
pub talks_took : (may : Invocation → Outcome → Type 0) (moves : States → Call → States → Type 0) (terms : Terms) (start before now : ConnectionState) (at sent : ℕ) (w : Completed) (more : List ℕ) (end : ConnEnd)
    → StandsWhole may moves terms start before at sent w → before.wires.left ≡ with_front more now.wires.left → now.wires.held ≡ before.wires.held
    → now.side ≡ before.side → now.drawn ≡ before.drawn
    → Ends terms start.drawn w (bytes_taken more) now.wires.left end → Talked may moves terms start now end
talks_took may moves terms start before now at sent w more end stands taken held side drawn ends =
    talks_on may moves terms start before now at sent w (bytes_taken more) end stands (goes_took may moves before now more taken held side drawn) ends

-- An answer was cut.
pub talks_cut : (may : Invocation → Outcome → Type 0) (moves : States → Call → States → Type 0) (terms : Terms) (start before now : ConnectionState) (at sent part : ℕ) (w : Completed) (c : Transcript)
    → StandsWhole may moves terms start before at sent w → IsAnswered terms start.drawn w c → part < length c.written
    → LeadsFrom may moves before now (record c { written = take part c.written })
    → Talked may moves terms start now (ends.WriteFault (sent + part))
talks_cut may moves terms start before now at sent part w c stands answered less goes =
    talks_on may moves terms start before now at sent w (record c { written = take part c.written }) (ends.WriteFault (sent + part)) stands goes
    (c, part, answered, less, ap (λ n. n + part) stands.count, refl)

-- a place of a source, with the rest as it stands
abbrev pub spot_at : PullState → Option (List ℕ) → Observed → ℕ → ConnectionState
spot_at p held side drawn = record { wires = record { left = p.left; held = held }; side = side; drawn = drawn }

-- The input stopped inside what was to come next.
pub talks_stop : (may : Invocation → Outcome → Type 0) (moves : States → Call → States → Type 0) (terms : Terms) (start : ConnectionState) (old new : PullState) (held : Option (List ℕ)) (side : Observed) (drawn sent : ℕ) (w : Completed)
    (P : List ℕ → Type 0) (e : PullEnd)
    → StandsWhole may moves terms start (spot_at old held side drawn) old.at sent w → (stops : StopsInside P old new e)
    → old.at + length stops.part < old.stop → ((at : ℕ) → e ≡ End at → IsInside w stops.part) → IsInside w stops.part ⊎ (IsAtCode w × (stops.part ≡ []))
    → Talked may moves terms start (spot_at new held side drawn) (end_from (frames.Stream (fault_of e)))
talks_stop may moves terms start old new held side drawn sent w P (End at) stands stops room ended inside =
    let whole : Takes old new stops.part = takes_stop _ _ _ _ stops.takes stops.stops.1 in
    talks_took may moves terms start _ _ old.at sent w stops.part (ends.Truncated at) stands whole.left refl refl refl
    (inl (stops.part, ended at refl, stops.stops.2, omega (arith, stops.stops.0, stops.takes.at, stands.position, length-append (taken_in w) stops.part), refl))
talks_stop may moves terms start old new held side drawn sent w P (Limit at) stands stops room ended inside =
    absurd (omega (arith, stops.stops.1.at_stop, stops.takes.stop, stops.takes.at, room))
talks_stop may moves terms start old new held side drawn sent w P ReadFault stands stops room ended inside =
    let whole : Takes old new stops.part = takes_stop _ _ _ _ stops.takes stops.stops.0 in
    talks_took may moves terms start _ _ old.at sent w stops.part ends.ReadFault stands whole.left refl refl refl (inl (stops.part, inside, refl))
talks_stop may moves terms start old new held side drawn sent w P OutOfMemory stands stops room ended inside = absurd (stops.memory refl)

-- the same, where a stream's fault says how it stopped
pub talks_in : (may : Invocation → Outcome → Type 0) (moves : States → Call → States → Type 0) (terms : Terms) (start : ConnectionState) (old new : PullState) (held : Option (List ℕ)) (side : Observed) (drawn sent : ℕ) (w : Completed)
    (P : List ℕ → Type 0) (fault : StreamFault) → StandsWhole may moves terms start (spot_at old held side drawn) old.at sent w → StopsIn P old new fault → ((part : List ℕ) → P part → old.at + length part < old.stop)
    → ((part : List ℕ) → P part → ((at : ℕ) → fault ≡ faults.Truncated at → IsInside w part) × (IsInside w part ⊎ (IsAtCode w × (part ≡ [])))) → Talked may moves terms start (spot_at new held side drawn) (end_from (frames.Stream fault))
talks_in may moves terms start old new held side drawn sent w P (faults.Truncated at) stands stops room how =
    let x = how stops.part stops.inside in
    talks_stop may moves terms start old new held side drawn sent w P (End at) stands stops (room stops.part stops.inside) (λ k is. x.0 at refl) x.1
talks_in may moves terms start old new held side drawn sent w P (faults.TooLarge larges.Bytes at) stands stops room how =
    let x = how stops.part stops.inside in
    talks_stop may moves terms start old new held side drawn sent w P (Limit at) stands stops (room stops.part stops.inside) (λ k is. absurd cc) x.1
talks_in may moves terms start old new held side drawn sent w P faults.ReadFault stands stops room how =
    let x = how stops.part stops.inside in
    talks_stop may moves terms start old new held side drawn sent w P ReadFault stands stops (room stops.part stops.inside) (λ k is. absurd cc) x.1
talks_in may moves terms start old new held side drawn sent w P (faults.TooLarge larges.Nodes at) stands stops room how = absurd stops
talks_in may moves terms start old new held side drawn sent w P (faults.TooLarge larges.Depth at) stands stops room how = absurd stops
talks_in may moves terms start old new held side drawn sent w P (faults.Bad kind at) stands stops room how = absurd stops
talks_in may moves terms start old new held side drawn sent w P faults.OutOfMemory stands stops room how = absurd stops

-- ---- chains

-- A further exchange in its place.
pub chain_more : (terms : Terms) (drawn : ℕ) (exchanges : List Exchange) (e : Exchange)
    → IsChain terms drawn exchanges → StaysOpen exchanges → IsExchange terms (drawn + draws_in exchanges) e → IsChain terms drawn (exchanges ++ e ∷ [])
chain_more terms drawn [] e chain goes is =
    let P : ℕ → Type 0 = λ n. IsExchange terms n e in subst P (add-zero drawn) is
chain_more terms drawn (x ∷ []) e chain goes is =
    let P : ℕ → Type 0 = λ n. IsExchange terms (drawn + n) e in (chain, goes, subst P (add-zero (draws_by x)) is)
chain_more terms drawn (x ∷ y ∷ more) e chain goes is =
    let same : drawn + (draws_by x + draws_in (y ∷ more)) ≡ drawn + draws_by x + draws_in (y ∷ more) = omega arith in
    let P : ℕ → Type 0 = λ n. IsExchange terms n e in
    (chain.0, chain.1, chain_more terms (drawn + draws_by x) (y ∷ more) e chain.2 goes (subst P same is))

-- The connection goes on after a further exchange that doesn't close it.
pub goes_on_more : (exchanges : List Exchange) (e : Exchange) → IsOpen e → StaysOpen (exchanges ++ e ∷ [])
goes_on_more [] e is = is
goes_on_more (x ∷ []) e is = is
goes_on_more (x ∷ y ∷ more) e is = goes_on_more (y ∷ more) e is

draws_more : (exchanges : List Exchange) (e : Exchange) → draws_in (exchanges ++ e ∷ []) ≡ draws_in exchanges + draws_by e
draws_more [] e = omega arith
draws_more (x ∷ xs) e = let more = draws_more xs e in omega (arith, more)

at_code_goes : (opening : Opening) (exchanges : List Exchange) → IsAtCode (opened opening exchanges) → StaysOpen exchanges
at_code_goes (stream endpoint) exchanges code = code
at_code_goes single_op [] code = refl
at_code_goes single_op (e ∷ exchanges) code = absurd code

-- A further exchange.
pub stands_more : (may : Invocation → Outcome → Type 0) (moves : States → Call → States → Type 0) (terms : Terms) (start before now : ConnectionState) (at sent at2 sent2 : ℕ) (opening : Opening) (exchanges : List Exchange) (e : Exchange)
    → StandsWhole may moves terms start before at sent (opened opening exchanges) → IsAtCode (opened opening exchanges) → length exchanges < most_messages opening
    → IsExchange terms (start.drawn + draws_in exchanges) e → LeadsFrom may moves before now (transcript_by e)
    → at2 ≡ at + length (taken_by e) → sent2 ≡ sent + length (written_by e)
    → StandsWhole may moves terms start now at2 sent2 (opened opening (exchanges ++ e ∷ []))
stands_more may moves terms start before now at sent at2 sent2 opening exchanges e stands code room is goes ats sents =
    stands_on may moves terms start before now at sent at2 sent2 (opened opening exchanges) (opened opening (exchanges ++ e ∷ [])) (transcript_by e)
    stands (stands.whole.0, chain_more terms start.drawn exchanges e stands.whole.1 (at_code_goes opening exchanges code) is, omega (arith, length-append exchanges (e ∷ []), room))
    (transcript_is _ _ _ _ _ _ _ _ (sym (flat_map_more taken_by (opening_taken opening) exchanges e)) (sym (flat_map_more acts_by [] exchanges e))
    (draws_more exchanges e) (sym (flat_map_more written_by (opening_written terms opening) exchanges e)))
    goes ats sents
