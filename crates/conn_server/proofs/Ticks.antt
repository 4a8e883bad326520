-- The server's own turns, and what a hand is told of them.
use Rattle.std.proofs.Common.{◌≡◌, ◌<◌, ◌+◌, ℕ, List, [], ◌∷◌, ◌++◌, length, map, refl, ap, sym, ◌∙◌, subst, arith, append-nil, length-append, inl, inr}
use Rattle.std.specs.Prelude.{Option, Some, None, Result, Ok, Err, IfSome, MatchOption, option_to_list}
use Rattle.std.specs.List.{flat_map}
use Rattle.object_ids.specs.declared.ids.ObjId.{ObjId}
use Rattle.history.specs.declared.asks.Ask.{Ask}
use Rattle.history.specs.declared.asks.Ask.TheVariants.{Tick}
use Rattle.history.specs.declared.replies.Refused.{Refused}
use Rattle.history.specs.declared.replies.Refused.TheVariants.{HistoryFull, Full, OutOfMemory}
use Rattle.history.specs.declared.replies.Turn.{Turn}
use Rattle.space.specs.Acts.{event_of}
use Rattle.space.specs.Entries.{end_of, entry_of}
use Rattle.space.proofs.NotedLaws.{taken-turn}
use Rattle.turn_lock.specs.Rule.{TurnedWithEntry}
use Rattle.turn_lock.specs.declared.view.View.{View}
use Rattle.ports.specs.Ports.{entries_of}
use Rattle.space.specs.declared.asked.Asked.{Asked}
use Rattle.conn_server.specs.Made.{IsTakenBelow, IsTickEnd, gone_with, told_of}
use Rattle.call_dispatch.specs.Acts.{Call, calls, unreferenced, tells_of}

pub calls_told : (gone : List ObjId) → flat_map calls (tells_of gone) ≡ map unreferenced gone
calls_told [] = refl
calls_told (o ∷ gone) = ap (λ l. unreferenced o ∷ l) (calls_told gone)

head_is : (x y : Asked) → x ∷ [] ≡ y ∷ [] → x ≡ y
head_is x y same = ap (first x) same
  where
    first : Asked → List Asked → Asked
    first d [] = d
    first d (z ∷ zs) = z

none_there : (x : Asked) → x ∷ [] ≡ [] → ⊥
none_there x same = let n : 1 ≡ 0 = ap length same in absurd (omega (arith, n))

-- It is what the turn was answered, if there is one.
pub entry_there : (P : Asked → Type 0) (m : ℕ) (a : Ask) (answer : Result Turn Refused) (r : Option Asked) → option_to_list r ≡ entries_of m a answer → P (entry_of m a answer) → IfSome r P
entry_there P m a answer None is p = tt
entry_there P m a (Ok turn) (Some e) is p = subst P (sym (head_is e (entry_of m a (Ok turn)) is)) p
entry_there P m a (Err HistoryFull) (Some e) is p = subst P (sym (head_is e (entry_of m a (Err HistoryFull)) is)) p
entry_there P m a (Err (Full kind)) (Some e) is p = subst P (sym (head_is e (entry_of m a (Err (Full kind))) is)) p
entry_there P m a (Err OutOfMemory) (Some e) is p = absurd (none_there e is)

-- Where the turn has an entry, it was taken or refused since the history is full: no table can be full for a Tick.
pub end_there : (v w : View) (by m : ℕ) (answer : Result Turn Refused) (r : Option Asked) → option_to_list r ≡ entries_of m Tick answer → TurnedWithEntry v by m Tick answer w → IfSome r (λ entry. IsTickEnd entry.end)
end_there v w by m answer None is t = tt
end_there v w by m (Ok turn) (Some e) is t = let P : Asked → Type 0 = λ x. IsTickEnd x.end in subst P (sym (head_is e (entry_of m Tick (Ok turn)) is)) tt
end_there v w by m (Err HistoryFull) (Some e) is t = let P : Asked → Type 0 = λ x. IsTickEnd x.end in subst P (sym (head_is e (entry_of m Tick (Err HistoryFull)) is)) refl
end_there v w by m (Err (Full kind)) (Some e) is (inl t) = absurd (let never = t.2 in never)
end_there v w by m (Err (Full kind)) (Some e) is (inr t) = absurd (let same = t.0 in cc)
end_there v w by m (Err OutOfMemory) (Some e) is t = absurd (none_there e is)

-- Where the turn has an entry that was taken, its place is below the end of the history that is seen then.
pub place_there : (v w : View) (by m : ℕ) (answer : Result Turn Refused) (r : Option Asked) → option_to_list r ≡ entries_of m Tick answer → TurnedWithEntry v by m Tick answer w
    → IfSome r (λ entry. IsTakenBelow (length w.seen) entry.end)
place_there v w by m answer None is t = tt
place_there v w by m (Ok turn) (Some e) is (inl t) =
    let took = taken-turn v.config t.0 w.seen (event_of by m Tick) turn t.1.step in
    let at_end : turn.place ≡ length t.0 = ap (λ (x : Turn). x.place) took.0 in
    let longer : length w.seen ≡ length t.0 + 1 = ap length took.1 ∙ length-append t.0 (event_of by m Tick ∷ []) in
    let below : turn.place < length w.seen = omega (arith, at_end, longer) in
    let P : Asked → Type 0 = λ x. IsTakenBelow (length w.seen) x.end in
    subst P (sym (head_is e (entry_of m Tick (Ok turn)) is)) below
place_there v w by m (Ok turn) (Some e) is (inr t) = absurd (let same = t.0 in cc)
place_there v w by m (Err HistoryFull) (Some e) is t = let P : Asked → Type 0 = λ x. IsTakenBelow (length w.seen) x.end in subst P (sym (head_is e (entry_of m Tick (Err HistoryFull)) is)) tt
place_there v w by m (Err (Full kind)) (Some e) is t = let P : Asked → Type 0 = λ x. IsTakenBelow (length w.seen) x.end in subst P (sym (head_is e (entry_of m Tick (Err (Full kind))) is)) tt
place_there v w by m (Err OutOfMemory) (Some e) is t = absurd (none_there e is)

-- What holds of an entry that was kept holds of what is known of it.
pub known_there : {K : Type 0} (value : K → Asked) (P : Asked → Type 0) (entry : Option Asked) (r : Option K) → MatchOption r (entry ≡ None) (λ k. entry ≡ Some (value k)) → IfSome entry P → IfSome r (λ k. P (value k))
known_there value P entry None is p = tt
known_there value P entry (Some k) is p = let Q : Option Asked → Type 0 = λ e. IfSome e P in subst Q is p

pub known_as : {K : Type 0} (value : K → Asked) (A : Type 0) (P : Asked → Type 0) (entry : Option Asked) (r : Option K) → MatchOption r (entry ≡ None) (λ k. entry ≡ Some (value k)) → MatchOption entry A P → MatchOption r A (λ k. P (value k))
known_as value A P entry None is p = let Q : Option Asked → Type 0 = λ e. MatchOption e A P in subst Q is p
known_as value A P entry (Some k) is p = let Q : Option Asked → Type 0 = λ e. MatchOption e A P in subst Q is p

pub kept_there : {K : Type 0} (value : K → Asked) (before after : List Asked) (entry : Option Asked) (r : Option K) → MatchOption r (entry ≡ None) (λ k. entry ≡ Some (value k)) → after ≡ before ++ option_to_list entry
    → MatchOption r (after ≡ before) (λ k. after ≡ before ++ value k ∷ [])
kept_there value before after entry None is items = items ∙ (ap (λ e. before ++ option_to_list e) is ∙ append-nil before)
kept_there value before after entry (Some k) is items = items ∙ ap (λ e. before ++ option_to_list e) is

-- What the entry of a Tick tells is what the Tick's answer tells, and nothing where there is no entry.
pub told_there : (m : ℕ) (answer : Result Turn Refused) (r : Option Asked) → option_to_list r ≡ entries_of m Tick answer → flat_map told_of (option_to_list r) ≡ map unreferenced (gone_with (end_of answer))
told_there m answer r is = ap (flat_map told_of) is ∙ of_answer answer
  where
    of_answer : (answer : Result Turn Refused) → flat_map told_of (entries_of m Tick answer) ≡ map unreferenced (gone_with (end_of answer))
    of_answer (Ok turn) = append-nil (map unreferenced turn.gone)
    of_answer (Err HistoryFull) = refl
    of_answer (Err (Full kind)) = refl
    of_answer (Err OutOfMemory) = refl

-- What holds of all that a Tick's answer tells holds of what its entry tells, or of nothing where there is no entry.
pub told_as : (P : List Call → Type 0) (m : ℕ) (answer : Result Turn Refused) (r : Option Asked) → option_to_list r ≡ entries_of m Tick answer → P (map unreferenced (gone_with (end_of answer))) → MatchOption r (P []) (λ e. P (told_of e))
told_as P m answer None is p = subst P (sym (told_there m answer None is)) p
told_as P m answer (Some e) is p = subst P (append-nil (told_of e)) (subst P (sym (told_there m answer (Some e) is)) p)
