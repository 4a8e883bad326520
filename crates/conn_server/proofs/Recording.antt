-- Which events were handed on, as the history grows.
use Rattle.std.proofs.Common.{◌≡◌, ℕ, ◌+◌, ◌++◌, [], ap, sym, refl, ◌∙◌, subst, append_assoc, append-nil, length, length-append}
use Rattle.std.proofs.Math.Seq.{take-append_seam}
use Rattle.std.proofs.lemmas.List.{take-append-drop}
use Rattle.std.specs.Prelude.{Option, Some, None, IfSome, MatchOption, drop, take}
use Rattle.turn_lock.specs.Handles.{opening_of}
use Rattle.turn_lock.specs.Recent.{IsRest}
use Rattle.turn_lock.specs.Rule.{Events, StartsWith}
use Rattle.turn_lock.specs.declared.handles.TurnLock.{TurnLock}
use Rattle.turn_lock.specs.declared.view.View.{View}
use Rattle.conn_server.specs.Handed.{AreHanded}
use Rattle.conn_server.proofs.Histories.{starts_on}
use Rattle.conn_server.proofs.Rows.{none_left}

pub place_same : (next : Option ℕ) (m n : ℕ) → m ≡ n → IfSome next (λ k. k ≡ m) → IfSome next (λ k. k ≡ n)
place_same next m n same p = let P : ℕ → Type 0 = λ x. IfSome next (λ k. k ≡ x) in subst P same p

-- A history that begins with these events has behind them what it has from their end on.
pub rest_behind : (h front part : Events) (from : ℕ) → StartsWith h front → from ≡ length front → h ≡ take from h ++ part → h ≡ front ++ part
rest_behind h front part from starts at_end is =
    let P : ℕ → Events → Type 0 = λ n l. take n l ≡ front in
    let there : take (length front) (front ++ starts.0) ≡ front = take-append_seam front starts.0 in
    let taken : take from h ≡ front = subst (λ (x : ℕ × Events). P x.0 x.1) (λ i. (sym at_end i, sym starts.1 i)) there in
    is ∙ ap (λ l. l ++ part) taken

-- At first none was handed on.
pub handed_first : (lock : TurnLock) (v : View) (events : Events) (next : Option ℕ) → v.seen ≡ (opening_of lock).events → events ≡ [] → IfSome next (λ n. n ≡ length (opening_of lock).events) → AreHanded lock v events next
handed_first lock v events next seen none at_end =
    let opening = (opening_of lock).events in
    let same : opening ++ events ≡ opening = ap (λ l. opening ++ l) none ∙ append-nil opening in
    record {
      begins = ([], seen ∙ (sym same ∙ sym (append-nil (opening ++ events))));
      place = place_same next (length opening) (length (opening ++ events)) (ap length (sym same)) at_end;
    }

-- More was seen, and nothing handed on.
pub handed_later : (lock : TurnLock) (v w : View) (events events_too : Events) (next next_too : Option ℕ) → AreHanded lock v events next → StartsWith w.seen v.seen → events_too ≡ events → next_too ≡ next → AreHanded lock w events_too next_too
handed_later lock v w events events_too next next_too is seen same same_next =
    let later : AreHanded lock w events next = record { begins = starts_on w.seen v.seen ((opening_of lock).events ++ events) seen is.begins; place = is.place } in
    subst (λ (x : Events × Option ℕ). AreHanded lock w x.0 x.1) (λ i. (sym same i, sym same_next i)) later

-- All that was seen behind them was handed on.
pub handed_more : (lock : TurnLock) (v w : View) (events events_after part : Events) (from : ℕ) (next : Option ℕ) → AreHanded lock v events (Some from) → StartsWith w.seen v.seen → IsRest from w.seen part
    → events_after ≡ events ++ part → IfSome next (λ n. n ≡ from + length part) → AreHanded lock w events_after next
handed_more lock v w events events_after part from next is seen rest longer at_end =
    let opening = (opening_of lock).events in
    let front = opening ++ events in
    let behind = rest_behind w.seen front part from (starts_on w.seen v.seen front seen is.begins) is.place rest.1 in
    let whole : opening ++ events_after ≡ front ++ part = ap (λ l. opening ++ l) longer ∙ sym (append_assoc opening events part) in
    let count : from + length part ≡ length (opening ++ events_after) = ap (λ n. n + length part) is.place ∙ (sym (length-append front part) ∙ ap length (sym whole)) in
    record {
      begins = ([], behind ∙ (sym whole ∙ sym (append-nil (opening ++ events_after))));
      place = place_same next (from + length part) (length (opening ++ events_after)) count at_end;
    }

-- A history that was closed, with the events that are left behind those that were handed on.
pub handed_all : (lock : TurnLock) (v : View) (h events events_after part : Events) (from : ℕ) → AreHanded lock v events (Some from) → StartsWith h v.seen → IsRest from h part → events_after ≡ events ++ part
    → h ≡ (opening_of lock).events ++ events_after
handed_all lock v h events events_after part from is seen rest longer =
    let opening = (opening_of lock).events in
    let front = opening ++ events in
    rest_behind h front part from (starts_on h v.seen front seen is.begins) is.place rest.1 ∙ (append_assoc opening events part ∙ ap (λ l. opening ++ l) (sym longer))

-- The same where none are left to be handed on.
pub handed_some : (lock : TurnLock) (v : View) (h events : Events) (next : Option ℕ) → AreHanded lock v events next → StartsWith h v.seen → StartsWith h ((opening_of lock).events ++ events)
handed_some lock v h events next is seen = starts_on h v.seen ((opening_of lock).events ++ events) seen is.begins

-- The same where it isn't told beforehand that some are to be handed on.
pub handed_closed : (lock : TurnLock) (v : View) (h events events_after part : Events) (next : Option ℕ) (rest : Option Events) → AreHanded lock v events next → StartsWith h v.seen
    → MatchOption next (rest ≡ None) (λ from. IfSome rest (λ l. IsRest from h l)) → rest ≡ Some part → events_after ≡ events ++ part → h ≡ (opening_of lock).events ++ events_after
handed_closed lock v h events events_after part None rest is seen none some longer = absurd (cc)
handed_closed lock v h events events_after part (Some from) rest is seen there some longer =
    let P : Option Events → Type 0 = λ o. IfSome o (λ l. IsRest from h l) in
    handed_all lock v h events events_after part from is seen (subst P some there) longer

-- Events were recorded in parts, the last of which is the rest.
pub parts_on : (had then part more rest : Events) (n : ℕ) → then ≡ had ++ part → part ≡ take n rest → more ≡ drop n rest → then ++ more ≡ had ++ rest
parts_on had then part more rest n longer front back = ap (λ l. l ++ more) longer ∙ (append_assoc had part more ∙ ap (λ l. had ++ l) ((λ i. front i ++ back i) ∙ take-append-drop n rest))

-- No event is left.
pub none_behind : (had rest then : Events) → length rest ≡ 0 → had ++ rest ≡ then → had ≡ then
none_behind had rest then none is = sym (append-nil had) ∙ (ap (λ l. had ++ l) (sym (none_left 0 rest (sym none) refl)) ∙ is)
