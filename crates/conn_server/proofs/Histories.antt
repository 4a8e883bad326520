-- Histories to which a connection's entries lead, with other connections' events before and behind.
use Rattle.std.proofs.Common.{◌≡◌, ◌≢◌, ℕ, suc, ◌+◌, ◌≤◌, Bool, true, false, true≢false, arith, ◌==◌, List, [], ◌∷◌, ◌++◌, length, drop, sym, refl, ap, ◌∙◌, subst, cond, ne_eqb, eq-eqb, append_assoc, append-nil, length-append}
use Rattle.std.proofs.lemmas.List.{append_cancel_left}
use Rattle.std.proofs.lemmas.List.Elements.{filter-append}
use Rattle.std.proofs.Math.Seq.{drop-append_seam}
use Rattle.history.specs.declared.asks.Event.{Event}
use Rattle.history.specs.declared.asks.SpaceConfig.{SpaceConfig}
use Rattle.history.specs.Steps.{turn_of}
use Rattle.space.specs.Acts.{event_of}
use Rattle.ports.specs.Balance.{AreOfOthers, WentAmong}
use Rattle.space.specs.Built.{SpaceHistory}
use Rattle.ports.specs.Ports.{GoesBy}
use Rattle.space.specs.declared.asked.Asked.{Asked}
use Rattle.space.specs.declared.asked.AskedEnd.{AskedEnd}
use Rattle.space.specs.declared.asked.AskedEnd.TheVariants.{Turned, Abandoned, Refused as Denied}
use Rattle.history.specs.declared.asks.Ask.{Ask}
use Rattle.history.specs.declared.replies.Turn.{Turn}
use Rattle.space.proofs.NotedLaws.{taken-turn, refused-turn}
use Rattle.turn_lock.specs.Answers.{events_of, taken_with}
use Rattle.turn_lock.specs.PortLaws.{among_on}
use Rattle.turn_lock.specs.Rule.{Events, StartsWith, events_by}
use Rattle.conn_server.specs.Made.{AreTakenFrom, IsTakenFrom}
use Rattle.conn_server.specs.Reports.{AreTurnsOf, events_after}

pub starts_self : (h : Events) → StartsWith h h
starts_self h = ([], sym (append-nil h))

pub starts_on : (a b c : Events) → StartsWith a b → StartsWith b c → StartsWith a c
starts_on a b c x y = (y.0 ++ x.0, x.1 ∙ (ap (λ l. l ++ x.0) y.1 ∙ append_assoc c y.0 x.0))

by_on : (k : ℕ) (xs ys : Events) → events_by k (xs ++ ys) ≡ events_by k xs ++ events_by k ys
by_on k xs ys = filter-append (λ (e : Event). e.by == k) xs ys

-- None of these events is the connection's, where no event of its number is among them; and the other way round.
none_by : (k : ℕ) (xs : Events) → AreOfOthers k xs → events_by k xs ≡ []
none_by k [] a = refl
none_by k (x ∷ xs) a = ap (λ b. cond b (x ∷ events_by k xs) (events_by k xs)) (ne_eqb x.by k a.0) ∙ none_by k xs a.1

other_first : (k : ℕ) (e : Event) (es : Events) (b : Bool) → (e.by == k) ≡ b → cond b (e ∷ events_by k es) (events_by k es) ≡ [] → (e.by ≢ k) × (events_by k es ≡ [])
other_first k e es true q some_there = let l : suc (length (events_by k es)) ≡ 0 = ap length some_there in absurd (omega (arith, l))
other_first k e es false q rest = ((λ same. true≢false (sym (eq-eqb e.by k same) ∙ q)), rest)

pub others_by : (k : ℕ) (xs : Events) → events_by k xs ≡ [] → AreOfOthers k xs
others_by k [] none = tt
others_by k (e ∷ es) none = let two = other_first k e es (e.by == k) refl none in (two.0, others_by k es two.1)

-- ---- what entries leave

-- An entry of a connection leaves its event, if it was taken.
goes_event : (config : SpaceConfig) (k : ℕ) (h : Events) (m : ℕ) (a : Ask) (end : AskedEnd) (next : Events) → GoesBy config k h m a end next
    → next ≡ h ++ taken_with k (record { moment = m; ask = a; end = end }) end
goes_event config k h m a (Turned turn) next g = (taken-turn config h next (event_of k m a) turn g).1
goes_event config k h m a (Abandoned place) next g = (taken-turn config h next (event_of k m a) (turn_of config h (event_of k m a)) g.2).1
goes_event config k h m a (Denied refused) next g = (refused-turn config h next (event_of k m a) refused g.1).1 ∙ sym (append-nil h)

own_taken : (k m : ℕ) (a : Ask) (end : AskedEnd) → events_by k (taken_with k (record { moment = m; ask = a; end = end }) end) ≡ taken_with k (record { moment = m; ask = a; end = end }) end
own_taken k m a (Turned turn) = ap (λ b. cond b (event_of k m a ∷ []) []) (eq-eqb k k refl)
own_taken k m a (Abandoned place) = ap (λ b. cond b (event_of k m a ∷ []) []) (eq-eqb k k refl)
own_taken k m a (Denied refused) = refl

-- The further events of the connection's number are those of its entries.
pub went_events : (config : SpaceConfig) (k : ℕ) (h last : Events) (entries : List Asked) → WentAmong config k h entries last → (more : Events) × (last ≡ h ++ more) × (events_by k more ≡ events_of k entries)
went_events config k h last [] w = (w.0, w.2, none_by k w.0 w.1)
went_events config k h last (x ∷ xs) w =
    let others = w.0 in
    let here = taken_with k x x.end in
    let goes = goes_event config k (h ++ others) x.moment x.ask x.end w.1 w.3 in
    let rest = went_events config k w.1 last xs w.4 in (
      others ++ (here ++ rest.0),
      rest.1 ∙ (ap (λ l. l ++ rest.0) goes ∙ (append_assoc (h ++ others) here rest.0 ∙ append_assoc h others (here ++ rest.0))),
      by_on k others (here ++ rest.0) ∙ (ap (λ l. l ++ events_by k (here ++ rest.0)) (none_by k others w.2)
          ∙ (by_on k here rest.0 ∙ (ap (λ l. l ++ events_by k rest.0) (own_taken k x.moment x.ask x.end) ∙ ap (λ l. here ++ l) rest.2))),
    )

-- ---- where entries were taken

goes_from : (config : SpaceConfig) (k n : ℕ) (h : Events) (m : ℕ) (a : Ask) (end : AskedEnd) (next : Events) → n ≤ length h → GoesBy config k h m a end next → IsTakenFrom n end × (n ≤ length next)
goes_from config k n h m a (Turned turn) next le g =
    let took = taken-turn config h next (event_of k m a) turn g in
    let at_end : turn.place ≡ length h = ap (λ (x : Turn). x.place) took.0 in
    let longer : length next ≡ length h + 1 = ap length took.1 ∙ length-append h (event_of k m a ∷ []) in
    (omega (arith, le, at_end), omega (arith, le, longer))
goes_from config k n h m a (Abandoned place) next le g =
    let took = taken-turn config h next (event_of k m a) (turn_of config h (event_of k m a)) g.2 in
    let at_end : place ≡ length h = g.1 in
    let longer : length next ≡ length h + 1 = ap length took.1 ∙ length-append h (event_of k m a ∷ []) in
    (omega (arith, le, at_end), omega (arith, le, longer))
goes_from config k n h m a (Denied refused) next le g =
    let same : length next ≡ length h = ap length (refused-turn config h next (event_of k m a) refused g.1).1 in (tt, omega (arith, le, same))

-- They were taken behind the history that they lead from.
pub taken_from : (config : SpaceConfig) (k n : ℕ) (h last : Events) (entries : List Asked) → n ≤ length h → WentAmong config k h entries last → AreTakenFrom n entries
taken_from config k n h last [] le w = tt
taken_from config k n h last (x ∷ xs) le w =
    let longer : length (h ++ w.0) ≡ length h + length w.0 = length-append h w.0 in
    let le2 : n ≤ length (h ++ w.0) = omega (arith, le, longer) in
    let goes = goes_from config k n (h ++ w.0) x.moment x.ask x.end w.1 le2 w.3 in
    (goes.0, taken_from config k n w.1 last xs goes.1 w.4)

-- Other connections' events may come before and behind.
pub went_between : (config : SpaceConfig) (k : ℕ) (h before last behind : Events) (entries : List Asked) → AreOfOthers k before → AreOfOthers k behind → WentAmong config k (h ++ before) entries last → WentAmong config k h entries (last ++ behind)
went_between config k h before last behind entries a b w =
    let first = among_on config k h (h ++ before) last [] entries (before, a, refl) w in
    let all = among_on config k h last (last ++ behind) entries [] first (behind, b, refl) in
    subst (λ (l : List Asked). WentAmong config k h l (last ++ behind)) (append-nil entries) all

pub went_before : (config : SpaceConfig) (k : ℕ) (h before last : Events) (entries : List Asked) → AreOfOthers k before → WentAmong config k (h ++ before) entries last → WentAmong config k h entries last
went_before config k h before last entries a w = among_on config k h (h ++ before) last [] entries (before, a, refl) w

nothing_more : (xs ys : Events) → xs ++ ys ≡ xs → ys ≡ []
nothing_more xs ys same = append_cancel_left xs ys [] (same ∙ sym (append-nil xs))

-- Entries that lead from a space to a history that begins the last one lead to the last one, where all events of their number there are theirs.
pub turns_closed : (s h : SpaceHistory) (k : ℕ) (entries : List Asked) (last tail : Events) → WentAmong s.configuration k s.events entries last → StartsWith h.events last → h.events ≡ s.events ++ tail → events_by k tail ≡ events_of k entries → AreTurnsOf s k entries h
turns_closed s h k entries last tail went starts begins own =
    let e = went_events s.configuration k s.events last entries went in
    let split : tail ≡ e.0 ++ starts.0 = append_cancel_left s.events tail (e.0 ++ starts.0) (sym begins ∙ (starts.1 ∙ (ap (λ l. l ++ starts.0) e.1 ∙ append_assoc s.events e.0 starts.0))) in
    let none : events_by k starts.0 ≡ [] = nothing_more (events_of k entries) (events_by k starts.0)
    (ap (λ l. l ++ events_by k starts.0) (sym e.2) ∙ (sym (by_on k e.0 starts.0) ∙ (ap (events_by k) (sym split) ∙ own))) in
    let all = among_on s.configuration k s.events last (last ++ starts.0) entries [] went (starts.0, others_by k starts.0 none, refl) in
    record {
      went = subst (λ (x : List Asked × Events). WentAmong s.configuration k s.events x.0 x.1) (λ i. (append-nil entries i, sym starts.1 i)) all;
      events = after_opening ∙ own;
    }
  where
    after_opening : events_after s k h ≡ events_by k tail
    after_opening = ap (λ l. events_by k (drop (length s.events) l)) begins ∙ ap (events_by k) (drop-append_seam s.events tail)
