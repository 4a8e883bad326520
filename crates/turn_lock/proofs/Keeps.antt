-- Each step keeps the rule of the turn lock.
use Rattle.std.proofs.Common.{◌≡◌, ◌≢◌, ◌⊎◌, ℕ, zero, suc, ◌+◌, ◌-◌, ◌%◌, ◌<◌, ◌≤◌, Bool, true, false, true≢false, List, [], ◌∷◌, ◌++◌, length, set, drop, get_or, sym, refl, ap, ◌∙◌, ap₂, cond, ltb, ltb-true, ltb-false, ◌==◌, eq-eqb, ne_eqb, subst, ⊎_elim, inl, inr, arith, length-set, length-append, append_assoc, append-nil, Option, Some}
use Rattle.std.specs.Prelude.{Contains, slice_index, slice_set}
use Rattle.std.proofs.lemmas.List.Elements.{filter-append, Contains-append_cases, Contains-append_left, Contains-append_right}
use Rattle.std.proofs.lemmas.List.Sums.{sum_by-append}
use mathlib.Core.Logic.{dite}
use mathlib.Core.Option.{some, none, some-ne-none, some-injective}
use mathlib.Core.Option as maybe
use native.Mathlib.Decide.{ℕ_discrete}
use lib.ListN.{get_elem?}
use Rattle.atomic_table.specs.Table.{State, step, keeps, takes, gives, Allows, Splits, Joins, opening, Final, Seen}
use Rattle.atomic_table.proofs.Lists.{at_longer, at_set, set_here, set_else}
use Rattle.history.specs.declared.asks.SpaceConfig.{SpaceConfig}
use Rattle.history.specs.declared.asks.Event.{Event}
use Rattle.history.specs.Steps.{IsLegal}
use Rattle.ports.specs.Balance.{AreOfOthers}
use Rattle.history.specs.Table.{places, table}
use Rattle.space.specs.Built.{SpaceHistory}
use Rattle.space.proofs.CollectLaws.{space-shown}
use Rattle.turn_lock.specs.declared.view.View.{View}
use Rattle.turn_lock.specs.declared.view.SeatState.{SeatState}
use Rattle.turn_lock.specs.declared.view.SeatState.TheVariants.{Idle, Drawn, Called}
use Rattle.turn_lock.specs.Rule.{Events, StartsWith, events_by, longer, space_with, HasOwn, MayComeTo, Waits, Knows, SeatFits, HasEnded, KeepsRule, root, spent_seat, at_home, holding, in_state, word_of, tickets_of, DrawsTicket, LooksAtServing, PublishesEvent, PassesOver, AdvancesServing, AbsorbsSeen, left_of, right_of, both_of, Settled}
use Rattle.turn_lock.proofs.Views.{all_set, sum_set, sum_one, sum_rest, sum_same, sum_le, within, same_at, put, put_here, put_else}

abbrev St : Type 0
St = State (Option SpaceHistory) View

-- a step in the state Idle or Drawn is no call
abbrev IsCalled : SeatState → Bool
IsCalled (Called t h) = true
IsCalled _ = false

one_ticket : (g : SeatState) → tickets_of g ≤ 1
one_ticket Idle = omega arith
one_ticket (Drawn word) = omega arith
one_ticket (Called word h) = omega arith

-- a seat without a part has no ticket
ticket_of_part : (v : View) → (v.parts ≡ 0 → v.state ≡ Idle) → tickets_of v.state ≤ v.parts
ticket_of_part v still = let le = one_ticket v.state in dite (ℕ_discrete v.parts 0)
    (λ none_left. let e : tickets_of v.state ≡ 0 = ap tickets_of (still none_left) in omega (arith, e))
    (λ some_left. omega (arith, le, some_left))

-- the tickets that are still to be served are far fewer than the words
few : (h0 : SpaceHistory) (s : St) (r : KeepsRule h0 s) → r.ticket ≤ r.serving + 4294967296
few h0 s r = let le = sum_le (λ (v : View). tickets_of v.state) (λ (v : View). v.parts) s.views (λ j u e. ticket_of_part u (r.each j u e).still) in
    let w = r.waiting in let p = r.parts in omega (arith, le, w, p)

-- the seat's own numbers stay: what the rule says of the sums and the ended passes
abbrev IsSameHolder : View → View → Type 0
IsSameHolder v w = (w.parts ≡ v.parts) × (w.made ≡ v.made) × (w.ended ≡ v.ended)

counted_set : (h0 : SpaceHistory) (s : St) (r : KeepsRule h0 s) (id : ℕ) (v w : View) → get_elem? s.views id ≡ some v → IsSameHolder v w
    → (u : View) → get_elem? (set s.views id w) 0 ≡ some u → length (set s.views id w) ≡ suc u.made
counted_set h0 s r id v w at same u e = length-set s.views id w ∙ ⊎_elim
    (λ (x : (0 ≡ id) × (w ≡ u)). r.counted v (subst (λ k. get_elem? s.views k ≡ some v) (sym x.0) at) ∙ ap suc (sym same.1 ∙ ap (λ (y : View). y.made) x.1))
    (λ (x : (0 ≢ id) × (get_elem? s.views 0 ≡ some u)). r.counted u x.1)
    (at_set s.views id 0 w u e)

ended_one : (tail tail' : Events) (views : List View) (id : ℕ) (v w : View) (p : ℕ × Events) → get_elem? views id ≡ some v → w.parts ≡ v.parts → ((n : ℕ) → n ≢ id → events_by n tail' ≡ events_by n tail)
    → (v.parts ≡ 0 → tail' ≡ tail) → HasEnded tail views p → HasEnded tail' (set views id w) p
ended_one tail tail' views id v w p at same others none_new e = dite (ℕ_discrete p.0 id)
    (λ here. let is : v ≡ e.1.0 = same_at views id v e.1.0 at (subst (λ k. get_elem? views k ≡ some e.1.0) here e.1.1) in
    let zero : v.parts ≡ 0 = ap (λ (y : View). y.parts) is ∙ e.1.2 in
    (ap (events_by p.0) (none_new zero) ∙ e.0, (w, subst (λ k. get_elem? (set views id w) k ≡ some w) (sym here) (set_here views id w (within views id v at)), same ∙ zero)))
    (λ other. (others p.0 other ∙ e.0, (e.1.0, set_else views id p.0 w other ∙ e.1.1, e.1.2)))

ended_set : (h0 : SpaceHistory) (s : St) (r : KeepsRule h0 s) (tail' : Events) (id : ℕ) (v w : View) → get_elem? s.views id ≡ some v → IsSameHolder v w → ((n : ℕ) → n ≢ id → events_by n tail' ≡ events_by n r.tail) → (v.parts ≡ 0 → tail' ≡ r.tail)
    → (u : View) → get_elem? (set s.views id w) 0 ≡ some u → (p : ℕ × Events) → Contains u.ended p → HasEnded tail' (set s.views id w) p
ended_set h0 s r tail' id v w at same others none_new u e p has = ended_one r.tail tail' s.views id v w p at same.0 others none_new (⊎_elim
    (λ (x : (0 ≡ id) × (w ≡ u)). r.ended v (subst (λ k. get_elem? s.views k ≡ some v) (sym x.0) at) p (subst (λ l. Contains l p) (ap (λ (y : View). y.ended) (sym x.1) ∙ same.2) has))
    (λ (x : (0 ≢ id) × (get_elem? s.views 0 ≡ some u)). r.ended u x.1 p has)
    (at_set s.views id 0 w u e))

spent_set : (h0 : SpaceHistory) (s : St) (r : KeepsRule h0 s) (id : ℕ) (v w : View) → get_elem? s.views id ≡ some v → IsSameHolder v w
    → (u : View) → get_elem? (set s.views id w) 0 ≡ some u → (j : ℕ) (y : View) → get_elem? (set s.views id w) j ≡ some y → y.parts ≡ 0 → (l : Events) × Contains u.ended (j, l)
spent_set h0 s r id v w at same u e j y e' nil =
    let old : (y' : View) × (get_elem? s.views j ≡ some y') × (y'.parts ≡ 0) = ⊎_elim
    (λ (x : (j ≡ id) × (w ≡ y)). (v, subst (λ k. get_elem? s.views k ≡ some v) (sym x.0) at, sym same.0 ∙ (ap (λ (z : View). z.parts) x.1 ∙ nil)))
    (λ (x : (j ≢ id) × (get_elem? s.views j ≡ some y)). (y, x.1, nil))
    (at_set s.views id j w y e') in
    ⊎_elim
    (λ (x : (0 ≡ id) × (w ≡ u)). subst (λ (z : List (ℕ × Events)). (l : Events) × Contains z (j, l)) (sym same.2 ∙ ap (λ (z : View). z.ended) x.1) (r.spent_ones v (subst (λ k. get_elem? s.views k ≡ some v) (sym x.0) at) j old.0 old.1 old.2))
    (λ (x : (0 ≢ id) × (get_elem? s.views 0 ≡ some u)). r.spent_ones u x.1 j old.0 old.1 old.2)
    (at_set s.views id 0 w u e)

starts_more : (first tail tail' seen : Events) → (more : Events) × (tail' ≡ tail ++ more) → StartsWith (first ++ tail) seen → StartsWith (first ++ tail') seen
starts_more first tail tail' seen grows st = (st.0 ++ grows.0, ap (λ l. first ++ l) grows.1 ∙ (sym (append_assoc first tail grows.0) ∙ (ap (λ l. l ++ grows.0) st.1 ∙ append_assoc seen st.0 grows.0)))

-- ---- the events of one number

-- a list without a connection's events has only others'
other_first : (by : ℕ) (e : Event) (es : Events) (b : Bool) → (e.by == by) ≡ b → cond b (e ∷ events_by by es) (events_by by es) ≡ [] → (e.by ≢ by) × (events_by by es ≡ [])
other_first by e es true q some_there = let l : suc (length (events_by by es)) ≡ 0 = ap length some_there in absurd (omega (arith, l))
other_first by e es false q rest = ((λ same. true≢false (sym (eq-eqb e.by by same) ∙ q)), rest)

all_others : (by : ℕ) (xs : Events) → events_by by xs ≡ [] → AreOfOthers by xs
all_others by [] empty = tt
all_others by (e ∷ es) empty = let two = other_first by e es (e.by == by) refl empty in (two.0, all_others by es two.1)

none_in_both : (xs ys : Events) → xs ++ ys ≡ [] → (xs ≡ []) × (ys ≡ [])
none_in_both [] ys e = (refl, e)
none_in_both (x ∷ xs) ys e = let l : suc (length (xs ++ ys)) ≡ 0 = ap length e in absurd (omega (arith, l))

no_more : (own more : Events) → own ≡ own ++ more → more ≡ []
no_more own [] is = refl
no_more own (x ∷ xs) is =
    let a : length own ≡ length (own ++ x ∷ xs) = ap length is in let b = length-append own (x ∷ xs) in let c : length (x ∷ xs) ≡ suc (length xs) = refl in absurd (omega (arith, a, b, c))

after_first : (first tail : Events) → drop (length first) (first ++ tail) ≡ tail
after_first [] tail = refl
after_first (x ∷ xs) tail = after_first xs tail

same_tail : (first xs ys : Events) → first ++ xs ≡ first ++ ys → xs ≡ ys
same_tail first xs ys e = sym (after_first first xs) ∙ (ap (λ l. drop (length first) l) e ∙ after_first first ys)

-- where a beginning has these own events, and the whole too, the rest has empty
rest_others : (first : Events) (by : ℕ) (own tail seen rest : Events) → HasOwn first by own seen → first ++ tail ≡ seen ++ rest → events_by by tail ≡ own → events_by by rest ≡ []
rest_others first by own tail seen rest h split all =
    let is : tail ≡ h.0 ++ rest = same_tail first tail (h.0 ++ rest) (split ∙ (ap (λ l. l ++ rest) h.1 ∙ append_assoc first h.0 rest)) in
    no_more own (events_by by rest) (sym all ∙ (ap (events_by by) is ∙ (filter-append (λ (x : Event). x.by == by) h.0 rest ∙ ap (λ l. l ++ events_by by rest) h.2)))

-- and so has a longer beginning
longer_own : (first : Events) (by : ℕ) (own tail seen more rest : Events) → HasOwn first by own seen → first ++ tail ≡ (seen ++ more) ++ rest → events_by by tail ≡ own → HasOwn first by own (seen ++ more)
longer_own first by own tail seen more rest h split all =
    let empty = rest_others first by own tail seen (more ++ rest) h (split ∙ append_assoc seen more rest) all in
    let two = none_in_both (events_by by more) (events_by by rest) (sym (filter-append (λ (x : Event). x.by == by) more rest) ∙ empty) in (
      h.0 ++ more,
      ap (λ l. l ++ more) h.1 ∙ append_assoc first h.0 more,
      filter-append (λ (x : Event). x.by == by) h.0 more ∙ (ap (λ l. events_by by h.0 ++ l) two.0 ∙ (append-nil (events_by by h.0) ∙ h.2)),
    )

-- a beginning of what has empty of a number's events has empty of them
own_none : (first : Events) (by other : ℕ) (own tail seen rest : Events) → HasOwn first by own seen → first ++ tail ≡ seen ++ rest → events_by other tail ≡ [] → HasOwn first other [] seen
own_none first by other own tail seen rest h split empty =
    let is : tail ≡ h.0 ++ rest = same_tail first tail (h.0 ++ rest) (split ∙ (ap (λ l. l ++ rest) h.1 ∙ append_assoc first h.0 rest)) in
    let two = none_in_both (events_by other h.0) (events_by other rest) (sym (filter-append (λ (x : Event). x.by == other) h.0 rest) ∙ (ap (events_by other) (sym is) ∙ empty)) in
    (h.0, h.1, two.0)

-- what one seat's step to the view w leaves of the rule
stepped_kept : (h0 : SpaceHistory) (s : St) (r : KeepsRule h0 s) (id : ℕ) (v w : View) (ticket' serving' : ℕ) (tail' : Events) (out' : Bool) (owner' : ℕ → ℕ) (words' : List ℕ) (homes' : List (maybe.Option (Option SpaceHistory)))
    → get_elem? s.views id ≡ some v → IsSameHolder v w → (more : Events) × (tail' ≡ r.tail ++ more) → words' ≡ word_of ticket' ∷ word_of serving' ∷ length (h0.events ++ tail') ∷ [] → serving' ≤ ticket' → IsLegal h0.configuration (h0.events ++ tail')
    → homes' ≡ at_home out' (space_with h0.configuration (h0.events ++ tail')) ∷ []
    → (out' ≡ true → (u : View) × (get_elem? (set s.views id w) (owner' serving') ≡ some u) × (u.state ≡ Called (word_of serving') (h0.events ++ tail')))
    → SeatFits h0 tail' ticket' serving' out' owner' id w
    → ((j : ℕ) (g : SeatState) → j ≢ id → Waits r.ticket r.serving r.out (h0.events ++ r.tail) r.owner j g → Waits ticket' serving' out' (h0.events ++ tail') owner' j g)
    → ((n : ℕ) → n ≢ id → events_by n tail' ≡ events_by n r.tail) → (v.parts ≡ 0 → tail' ≡ r.tail)
    → tickets_of w.state + r.ticket + serving' ≡ tickets_of v.state + ticket' + r.serving
    → KeepsRule h0 record { words = words'; homes = homes'; views = set s.views id w }
stepped_kept h0 s r id v w ticket' serving' tail' out' owner' words' homes' at same grows words order legal home caller here waits others none_new waiting = record {
  ticket = ticket';
  serving = serving';
  tail = tail';
  out = out';
  owner = owner';
  words = words;
  order = order;
  legal = legal;
  home = home;
  caller = caller;
  each = all_set (SeatFits h0 tail' ticket' serving' out' owner') s.views id w here
      (λ j u other e. let f = r.each j u e in record {
        mine = λ some_part. let m = f.mine some_part in record {
          numbered = m.numbered;
          configured = m.configured;
          opened = m.opened;
          begun = starts_more h0.events r.tail tail' u.seen grows m.begun;
          begun_heard = starts_more h0.events r.tail tail' u.heard grows m.begun_heard;
          owned = others j other ∙ m.owned;
          owned_seen = m.owned_seen;
        };
        still = f.still;
        waits = waits j u.state other f.waits;
      });
  strangers = λ n le. let size = length-set s.views id w in let inside = within s.views id v at in
      others n (λ e. absurd (omega (arith, e, le, inside, size))) ∙ r.strangers n (omega (arith, le, size));
  waiting = let a = sum_set (λ (y : View). tickets_of y.state) s.views id v w at in let d = r.waiting in omega (arith, a, d, waiting);
  parts = sum_same (λ (y : View). y.parts) s.views id v w at same.0 ∙ r.parts;
  counted = counted_set h0 s r id v w at same;
  ended = ended_set h0 s r tail' id v w at same others none_new;
  spent_ones = spent_set h0 s r id v w at same;
}

stays : (h0 : SpaceHistory) (s : St) (r : KeepsRule h0 s) → (more : Events) × (r.tail ≡ r.tail ++ more)
stays h0 s r = ([], sym (append-nil r.tail))

not_called : (g : SeatState) (t : ℕ) (h : Events) → IsCalled g ≡ false → ¬ (g ≡ Called t h)
not_called g t h quiet e = true≢false (sym (ap IsCalled e) ∙ quiet)

-- the caller is another seat than one that is not called
caller_else : (h0 : SpaceHistory) (s : St) (r : KeepsRule h0 s) (id : ℕ) (v w : View) (owner' : ℕ → ℕ) → get_elem? s.views id ≡ some v → IsCalled v.state ≡ false → ((t : ℕ) → t < r.ticket → owner' t ≡ r.owner t)
    → r.out ≡ true → (u : View) × (get_elem? (set s.views id w) (owner' r.serving) ≡ some u) × (u.state ≡ Called (word_of r.serving) (h0.events ++ r.tail))
caller_else h0 s r id v w owner' at quiet same is_out =
    let c = r.caller is_out in
    let waits : Waits r.ticket r.serving r.out (h0.events ++ r.tail) r.owner (r.owner r.serving) (Called (word_of r.serving) (h0.events ++ r.tail)) = subst (Waits r.ticket r.serving r.out (h0.events ++ r.tail) r.owner (r.owner r.serving)) c.2 (r.each (r.owner r.serving) c.0 c.1).waits in
    let owned : owner' r.serving ≡ r.owner r.serving = same r.serving waits.1 in
    let apart : r.owner r.serving ≢ id = λ e. not_called v.state (word_of r.serving) (h0.events ++ r.tail) quiet (ap (λ (y : View). y.state) (same_at s.views id v c.0 at (subst (λ k. get_elem? s.views k ≡ some c.0) e c.1)) ∙ c.2) in
    (c.0, ap (get_elem? (set s.views id w)) owned ∙ (set_else s.views id (r.owner r.serving) w apart ∙ c.1), c.2)

-- the same seat and the same waiting, where only a new ticket is drawn by another
draws_on : (ticket serving : ℕ) (out : Bool) (log : Events) (owner : ℕ → ℕ) (id j : ℕ) (g : SeatState) → Waits ticket serving out log owner j g → Waits (ticket + 1) serving out log (put owner ticket id) j g
draws_on ticket serving out log owner id j Idle h = tt
draws_on ticket serving out log owner id j (Drawn word) h = (h.0, h.1, h.2, omega (arith, h.3), put_else owner ticket id h.0 (λ e. let lt = h.3 in absurd (omega (arith, e, lt))) ∙ h.4)
draws_on ticket serving out log owner id j (Called word hand) h = (h.0, omega (arith, h.1), put_else owner ticket id serving (λ e. let lt = h.1 in absurd (omega (arith, e, lt))) ∙ h.2, h.3, h.4)

quiet_idle : (g : SeatState) → g ≡ Idle → IsCalled g ≡ false
quiet_idle g e = ap IsCalled e

quiet_drawn : (g : SeatState) (t : ℕ) → g ≡ Drawn t → IsCalled g ≡ false
quiet_drawn g t e = ap IsCalled e

pub draws : (h0 : SpaceHistory) (id : ℕ) (v : View) → v.state ≡ Idle → 0 < v.parts
    → Allows (KeepsRule h0) 1 id (v, []) 0 (λ n. (n + 1) % 18446744073709551616) (DrawsTicket (step 1 0 1 0 none) (v, []))
draws h0 id v idle part s r deep at fits =
    let n : ℕ = slice_index s.words 0 in
    let is : n ≡ word_of r.ticket = ap (λ ws. slice_index ws 0) r.words in
    let w : View = in_state v (Drawn n) in
    let sum : (n + 1) % 18446744073709551616 ≡ word_of (r.ticket + 1) = omega (arith, is) in
    let none_yet : tickets_of v.state ≡ 0 = ap tickets_of idle in
    let f = r.each id v at in
    let before = r.order in (
      w,
      keeps,
      tt,
      stepped_kept h0 s r id v w (r.ticket + 1) r.serving r.tail r.out (put r.owner r.ticket id) (slice_set s.words 0 ((n + 1) % 18446744073709551616)) s.homes at (refl, refl, refl) (stays h0 s r)
          (ap (λ x. slice_set s.words 0 x) sum ∙ ap (λ ws. slice_set ws 0 (word_of (r.ticket + 1))) r.words) (omega (arith, before)) r.legal r.home
          (caller_else h0 s r id v w (put r.owner r.ticket id) at (quiet_idle v.state idle) (λ t lt. put_else r.owner r.ticket id t (λ e. absurd (omega (arith, e, lt)))))
          (record {
            mine = f.mine;
            still = λ zero. absurd (omega (arith, zero, part));
            waits = (r.ticket, is, before, omega arith, put_here r.owner r.ticket id);
          })
          (λ j g other h. draws_on r.ticket r.serving r.out (h0.events ++ r.tail) r.owner id j g h)
          (λ m other. refl) (λ zero. refl) (omega (arith, none_yet)),
      refl,
    )

abbrev ticket_of : SeatState → ℕ
ticket_of Idle = 0
ticket_of (Drawn t) = t
ticket_of (Called t h) = t

abbrev is_drawn : SeatState → Bool
is_drawn (Drawn t) = true
is_drawn _ = false

abbrev hand_of : SeatState → Events
hand_of (Called t h) = h
hand_of _ = []

-- the word that a look reads is written back
same_words : (h0 : SpaceHistory) (s : St) (r : KeepsRule h0 s) → slice_set s.words 1 (slice_index s.words 1) ≡ word_of r.ticket ∷ word_of r.serving ∷ length (h0.events ++ r.tail) ∷ []
same_words h0 s r = ap (λ ws. slice_set ws 1 (slice_index ws 1)) r.words

-- while the seat's ticket is served and the seat has not been called, the slot is at home
slot_home : (h0 : SpaceHistory) (s : St) (r : KeepsRule h0 s) (id : ℕ) (v : View) (t : ℕ) → get_elem? s.views id ≡ some v → v.state ≡ Drawn t → r.owner r.serving ≡ id → (b : Bool) → r.out ≡ b → b ≡ false
slot_home h0 s r id v t at drawn here false is = refl
slot_home h0 s r id v t at drawn here true is =
    let c = r.caller is in
    let same : v ≡ c.0 = same_at s.views id v c.0 at (subst (λ k. get_elem? s.views k ≡ some c.0) here c.1) in
    absurd (not_called v.state (word_of r.serving) (h0.events ++ r.tail) (quiet_drawn v.state t drawn) (ap (λ (y : View). y.state) same ∙ c.2))

calls_on : (ticket serving : ℕ) (out : Bool) (log : Events) (owner : ℕ → ℕ) (j : ℕ) (g : SeatState) → Waits ticket serving out log owner j g → Waits ticket serving true log owner j g
calls_on ticket serving out log owner j Idle h = tt
calls_on ticket serving out log owner j (Drawn t) h = h
calls_on ticket serving out log owner j (Called t hand) h = (h.0, h.1, h.2, h.3, refl)

-- of few tickets no two have one word
same_count : (serving ticket t : ℕ) → word_of serving ≡ word_of t → serving ≤ t → t < ticket → ticket ≤ serving + 4294967296 → t ≡ serving
same_count serving ticket t same low high few_are = omega (arith, same, low, high, few_are)

-- what a seat that knows what is so knows of the whole history
comes : (h0 : SpaceHistory) (j : ℕ) (tail : Events) (v : View) → IsLegal h0.configuration (h0.events ++ tail) → Knows h0 tail j v → MayComeTo v (h0.events ++ tail)
comes h0 j tail v legal m =
    let rest : Events = m.begun.0 in
    let empty : events_by j rest ≡ [] = rest_others h0.events j v.own tail v.seen rest m.owned_seen m.begun.1 m.owned in
    record {
      others = rest;
      after = m.begun.1;
      apart = all_others v.number rest (ap (λ k. events_by k rest) m.numbered ∙ empty);
      legal = subst (λ (c : SpaceConfig). IsLegal c (h0.events ++ tail)) (sym m.configured) legal;
      has_own = (tail, ap (λ l. l ++ tail) (sym m.opened), ap (λ k. events_by k tail) m.numbered ∙ m.owned);
    }

pub looks : (h0 : SpaceHistory) (id : ℕ) (v : View) (t : ℕ) → v.state ≡ Drawn t → 0 < v.parts → Allows (KeepsRule h0) 1 id (v, []) 1 (λ n. n) (LooksAtServing (step 1 1 0 0 none) (v, []))
looks h0 id v t drawn part s r deep at fits =
    let n : ℕ = slice_index s.words 1 in
    let is : n ≡ word_of r.serving = ap (λ ws. slice_index ws 1) r.words in
    let log : Events = h0.events ++ r.tail in
    let f = r.each id v at in
    let waits : Waits r.ticket r.serving r.out log r.owner id (Drawn t) = subst (Waits r.ticket r.serving r.out log r.owner id) drawn f.waits in
    dite (ℕ_discrete n t)
    (λ now.
    let mine_is : waits.0 ≡ r.serving = same_count r.serving r.ticket waits.0 (sym is ∙ (now ∙ waits.1)) waits.2 waits.3 (few h0 s r) in
    let here : r.owner r.serving ≡ id = ap r.owner (sym mine_is) ∙ waits.4 in
    let away : r.out ≡ false = slot_home h0 s r id v t at drawn here r.out refl in
    let one : tickets_of v.state ≡ 1 = ap tickets_of drawn in
    let mine = f.mine part in
    let whole : SpaceHistory = space_with h0.configuration log in
    let here_is : some (Some whole) ≡ some (Some (space_with v.config log)) = ap (λ c. some (Some (space_with c log))) (sym mine.configured) in
    let home : s.homes ≡ some (Some (space_with v.config log)) ∷ [] = r.home ∙ (ap (λ b. at_home b whole ∷ []) away ∙ ap (λ x. x ∷ []) here_is) in
    let w : View = in_state v (Called n log) in (
      w,
      takes 0 (Some (space_with v.config log)),
      ap (λ hs. get_elem? hs 0) home,
      stepped_kept h0 s r id v w r.ticket r.serving r.tail true r.owner (slice_set s.words 1 n) (slice_set s.homes 0 none) at (refl, refl, refl) (stays h0 s r)
          (same_words h0 s r) r.order r.legal (ap (λ hs. slice_set hs 0 none) home)
          (λ _. (w, ap (get_elem? (set s.views id w)) here ∙ set_here s.views id w (within s.views id v at), ap (λ k. Called k log) is))
          (record { mine = f.mine; still = λ zero. absurd (omega (arith, zero, part)); waits = (is, omega (arith, mine_is, waits.3), here, refl, refl) })
          (λ j g other h. calls_on r.ticket r.serving r.out log r.owner j g h)
          (λ m other. refl) (λ zero. refl) (omega (arith, one)),
      λ t' drawn'. ((λ _. (log, refl, comes h0 id r.tail v r.legal mine)), (λ other. absurd (other (now ∙ ap ticket_of (sym drawn ∙ drawn'))))),
    ))
    (λ later. (
      v,
      keeps,
      tt,
      stepped_kept h0 s r id v v r.ticket r.serving r.tail r.out r.owner (slice_set s.words 1 n) s.homes at (refl, refl, refl) (stays h0 s r)
          (same_words h0 s r) r.order r.legal r.home (caller_else h0 s r id v v r.owner at (quiet_drawn v.state t drawn) (λ k lt. refl)) f (λ j g other h. h) (λ m other. refl) (λ zero. refl) refl,
      λ t' drawn'. ((λ e. absurd (later (e ∙ ap ticket_of (sym drawn' ∙ drawn)))), (λ _. refl)),
    ))

-- where one seat is called, another that waits holds a later ticket
advances_on : (ticket serving : ℕ) (out : Bool) (log : Events) (owner : ℕ → ℕ) (id j : ℕ) (g : SeatState) → owner serving ≡ id → j ≢ id → Waits ticket serving out log owner j g → Waits ticket (serving + 1) false log owner j g
advances_on ticket serving out log owner id j Idle here other h = tt
advances_on ticket serving out log owner id j (Drawn word) here other h =
    let apart : h.0 ≢ serving = λ e. other (sym h.4 ∙ (ap owner e ∙ here)) in let le = h.2 in (h.0, h.1, omega (arith, apart, le), h.3, h.4)
advances_on ticket serving out log owner id j (Called word hand) here other h = absurd (other (sym h.2 ∙ here))

pub advances : (h0 : SpaceHistory) (id : ℕ) (v : View) (t : ℕ) (hand : Events) → v.state ≡ Called t hand → 0 < v.parts
    → Allows (KeepsRule h0) 1 id (v, holding (space_with v.config hand)) 1 (λ n. (n + 1) % 18446744073709551616) (AdvancesServing (step 1 1 1 0 none) (v, holding (space_with v.config hand)))
advances h0 id v t hand called part s r deep at fits =
    let n : ℕ = slice_index s.words 1 in
    let is : n ≡ word_of r.serving = ap (λ ws. slice_index ws 1) r.words in
    let log : Events = h0.events ++ r.tail in
    let f = r.each id v at in
    let waits : Waits r.ticket r.serving r.out log r.owner id (Called t hand) = subst (Waits r.ticket r.serving r.out log r.owner id) called f.waits in
    let here : r.owner r.serving ≡ id = waits.2 in
    let low = waits.1 in
    let sum : (n + 1) % 18446744073709551616 ≡ word_of (r.serving + 1) = omega (arith, is) in
    let one : tickets_of v.state ≡ 1 = ap tickets_of called in
    let home : s.homes ≡ none ∷ [] = r.home ∙ ap (λ b. at_home b (space_with h0.configuration log) ∷ []) waits.4 in
    let whole : space_with v.config hand ≡ space_with h0.configuration log = ap₂ space_with (f.mine part).configured waits.3 in
    let w : View = in_state v Idle in (
      w,
      gives,
      tt,
      stepped_kept h0 s r id v w r.ticket (r.serving + 1) r.tail false r.owner (slice_set s.words 1 ((n + 1) % 18446744073709551616)) (slice_set s.homes 0 (some (Some (space_with v.config hand)))) at (refl, refl, refl) (stays h0 s r)
          (ap (λ x. slice_set s.words 1 x) sum ∙ ap (λ ws. slice_set ws 1 (word_of (r.serving + 1))) r.words) (omega (arith, low)) r.legal
          (ap (λ hs. slice_set hs 0 (some (Some (space_with v.config hand)))) home ∙ ap (λ l. some (Some l) ∷ []) whole)
          (λ e. absurd (true≢false (sym e)))
          (record { mine = f.mine; still = λ _. refl; waits = tt })
          (λ j g other h. advances_on r.ticket r.serving r.out log r.owner id j g here other h)
          (λ m other. refl) (λ zero. refl) (omega (arith, one)),
      refl,
    )

-- the events of one number, with one more event
pub own_more : (n : ℕ) (tail : Events) (e : Event) → e.by ≡ n → events_by n (tail ++ e ∷ []) ≡ events_by n tail ++ e ∷ []
own_more n tail e is = filter-append (λ (x : Event). x.by == n) tail (e ∷ []) ∙ ap (λ b. events_by n tail ++ cond b (e ∷ []) []) (eq-eqb e.by n is)

own_less : (n : ℕ) (tail : Events) (e : Event) → e.by ≢ n → events_by n (tail ++ e ∷ []) ≡ events_by n tail
own_less n tail e other = filter-append (λ (x : Event). x.by == n) tail (e ∷ []) ∙ (ap (λ b. events_by n tail ++ cond b (e ∷ []) []) (ne_eqb e.by n other) ∙ append-nil (events_by n tail))

-- while one seat is called, no other is, and the others wait on whatever the history is
waits_still : (ticket serving : ℕ) (out out' : Bool) (log log' : Events) (owner : ℕ → ℕ) (id j : ℕ) (g : SeatState) → owner serving ≡ id → j ≢ id → Waits ticket serving out log owner j g → Waits ticket serving out' log' owner j g
waits_still ticket serving out out' log log' owner id j Idle here other h = tt
waits_still ticket serving out out' log log' owner id j (Drawn t) here other h = h
waits_still ticket serving out out' log log' owner id j (Called word hand) here other h = absurd (other (sym h.2 ∙ here))

pub publishes : (h0 : SpaceHistory) (id : ℕ) (v : View) (carried : List (ℕ × Option SpaceHistory)) (t : ℕ) (hand : Events) (e : Event) (n : ℕ) → v.state ≡ Called t hand → 0 < v.parts → e.by ≡ v.number
    → n ≡ length (hand ++ e ∷ []) → IsLegal v.config (hand ++ e ∷ []) → Allows (KeepsRule h0) 1 id (v, carried) 2 (λ _. n) (λ _. PublishesEvent e (step 1 2 n 0 none) (v, carried) n)
publishes h0 id v carried t hand e n called part by many legal s r deep at fits =
    let log : Events = h0.events ++ r.tail in
    let f = r.each id v at in
    let mine = f.mine part in
    let waits : Waits r.ticket r.serving r.out log r.owner id (Called t hand) = subst (Waits r.ticket r.serving r.out log r.owner id) called f.waits in
    let here : r.owner r.serving ≡ id = waits.2 in
    let tail' : Events = r.tail ++ e ∷ [] in
    let log_is : h0.events ++ tail' ≡ hand ++ e ∷ [] = sym (append_assoc h0.events r.tail (e ∷ [])) ∙ ap (λ l. l ++ e ∷ []) (sym waits.3) in
    let legal' : IsLegal h0.configuration (h0.events ++ tail') = subst (IsLegal h0.configuration) (sym log_is) (subst (λ (c : SpaceConfig). IsLegal c (hand ++ e ∷ [])) mine.configured legal) in
    let w : View = record v { seen = hand ++ e ∷ []; own = v.own ++ e ∷ []; state = Called t (hand ++ e ∷ []) } in
    let by_id : e.by ≡ id = by ∙ mine.numbered in
    let own_is : events_by id tail' ≡ v.own ++ e ∷ [] = own_more id r.tail e by_id ∙ ap (λ l. l ++ e ∷ []) mine.owned in (
      w,
      keeps,
      tt,
      stepped_kept h0 s r id v w r.ticket r.serving tail' true r.owner (slice_set s.words 2 n) s.homes at (refl, refl, refl) (e ∷ [], refl)
          (ap (λ ws. slice_set ws 2 n) r.words ∙ ap (λ k. word_of r.ticket ∷ word_of r.serving ∷ k ∷ []) (many ∙ ap length (sym log_is))) r.order legal'
          (r.home ∙ ap (λ b. at_home b (space_with h0.configuration log) ∷ []) waits.4)
          (λ _. (w, ap (get_elem? (set s.views id w)) here ∙ set_here s.views id w (within s.views id v at), ap₂ (λ k l. Called k l) waits.0 (sym log_is)))
          (record {
            mine = λ _. record {
              numbered = mine.numbered;
              configured = mine.configured;
              opened = mine.opened;
              begun = ([], log_is ∙ sym (append-nil (hand ++ e ∷ [])));
              begun_heard = starts_more h0.events r.tail tail' v.heard (e ∷ [], refl) mine.begun_heard;
              owned = own_is;
              owned_seen = (tail', sym log_is, own_is);
            };
            still = λ zero. absurd (omega (arith, zero, part));
            waits = (waits.0, waits.1, waits.2, sym log_is, refl);
          })
          (λ j g other h. waits_still r.ticket r.serving r.out true log (h0.events ++ tail') r.owner id j g here other h)
          (λ m other. own_less m r.tail e (λ same. other (sym same ∙ by_id))) (λ zero. absurd (omega (arith, zero, part))) (let one : tickets_of v.state ≡ 1 = ap tickets_of called in omega (arith, one)),
      λ t' h' called'. (λ i. (
        record v {
          seen = ap hand_of (sym called ∙ called') i ++ e ∷ [];
          own = v.own ++ e ∷ [];
          state = Called (ap ticket_of (sym called ∙ called') i) (ap hand_of (sym called ∙ called') i ++ e ∷ []);
        },
        carried,
      )),
    )

pub passes_over : (h0 : SpaceHistory) (id : ℕ) (v : View) (carried : List (ℕ × Option SpaceHistory)) (t : ℕ) (hand : Events) (n : ℕ) → v.state ≡ Called t hand → 0 < v.parts → n ≡ length hand
    → Allows (KeepsRule h0) 1 id (v, carried) 2 (λ _. n) (λ _. PassesOver (step 1 2 n 0 none) (v, carried) n)
passes_over h0 id v carried t hand n called part many s r deep at fits =
    let log : Events = h0.events ++ r.tail in
    let f = r.each id v at in
    let mine = f.mine part in
    let waits : Waits r.ticket r.serving r.out log r.owner id (Called t hand) = subst (Waits r.ticket r.serving r.out log r.owner id) called f.waits in
    let here : r.owner r.serving ≡ id = waits.2 in
    let w : View = record v { seen = hand } in (
      w,
      keeps,
      tt,
      stepped_kept h0 s r id v w r.ticket r.serving r.tail r.out r.owner (slice_set s.words 2 n) s.homes at (refl, refl, refl) (stays h0 s r)
          (ap (λ ws. slice_set ws 2 n) r.words ∙ ap (λ k. word_of r.ticket ∷ word_of r.serving ∷ k ∷ []) (many ∙ ap length waits.3)) r.order r.legal r.home
          (λ _. (w, ap (get_elem? (set s.views id w)) here ∙ set_here s.views id w (within s.views id v at), called ∙ ap₂ (λ k l. Called k l) waits.0 waits.3))
          (record {
            mine = λ _. record {
              numbered = mine.numbered;
              configured = mine.configured;
              opened = mine.opened;
              begun = ([], sym waits.3 ∙ sym (append-nil hand));
              begun_heard = mine.begun_heard;
              owned = mine.owned;
              owned_seen = (r.tail, waits.3, mine.owned);
            };
            still = λ zero. absurd (omega (arith, zero, part));
            waits = f.waits;
          })
          (λ j g other h. h) (λ m other. refl) (λ zero. refl) refl,
      λ t' h' called'. (λ i. (record v { seen = ap hand_of (sym called ∙ called') i; state = called' i }, carried)),
    )

at_end_or : {A : Type 0} (l : List A) (a b : A) (j : ℕ) → get_elem? (l ++ a ∷ []) j ≡ some b → (get_elem? l j ≡ some b) ⊎ ((j ≡ length l) × (a ≡ b))
at_end_or [] a b zero e = inr (refl, some-injective a b e)
at_end_or [] a b (suc j) e = absurd (some-ne-none b (sym e))
at_end_or (x ∷ xs) a b zero e = inl e
at_end_or (x ∷ xs) a b (suc j) e = ⊎_elim (λ t. inl t) (λ (t : (j ≡ length xs) × (a ≡ b)). inr (ap suc t.0, t.1)) (at_end_or xs a b j e)

-- the first seat makes another
pub splits : (h0 : SpaceHistory) (id : ℕ) (v : View) → id ≡ 0 → v.state ≡ Idle → 1 < v.parts → Splits (KeepsRule h0) id v (left_of v) (right_of v)
splits h0 id v first idle some_parts s r at =
    let l : View = left_of v in
    let n : View = right_of v in
    let vs : List View = set s.views id l in
    let f = r.each id v at in
    let part : 0 < v.parts = omega (arith, some_parts) in
    let mine = f.mine part in
    let at_first : get_elem? s.views 0 ≡ some v = subst (λ k. get_elem? s.views k ≡ some v) first at in
    let many : length s.views ≡ suc v.made = r.counted v at_first in
    let size : length vs ≡ suc v.made = length-set s.views id l ∙ many in
    let size' : length (vs ++ n ∷ []) ≡ suc (suc v.made) = length-append vs (n ∷ []) ∙ omega (arith, size) in
    let Now : ℕ → View → Type 0 = SeatFits h0 r.tail r.ticket r.serving r.out r.owner in
    record {
      ticket = r.ticket;
      serving = r.serving;
      tail = r.tail;
      out = r.out;
      owner = r.owner;
      words = r.words;
      order = r.order;
      legal = r.legal;
      home = r.home;
      caller = λ is. let c = caller_else h0 s r id v l r.owner at (quiet_idle v.state idle) (λ t lt. refl) is in (c.0, at_longer vs (n ∷ []) (r.owner r.serving) c.0 c.1, c.2);
      each = λ j u e. ⊎_elim
          (λ was. all_set Now s.views id l (record { mine = λ _. mine; still = λ zero. absurd (omega (arith, zero, some_parts)); waits = f.waits }) (λ k y other e'. r.each k y e') j u was)
          (λ (t : (j ≡ length vs) × (n ≡ u)). subst (Now j) t.1 (let place : j ≡ suc v.made = t.0 ∙ size in record {
            mine = λ _. (let empty = r.strangers j (omega (arith, place, many)) in record {
              numbered = omega (arith, place);
              configured = mine.configured;
              opened = mine.opened;
              begun = mine.begun;
              begun_heard = (h0.events ++ r.tail, refl);
              owned = empty;
              owned_seen = own_none h0.events id j v.own r.tail v.seen mine.begun.0 mine.owned_seen mine.begun.1 empty;
            });
            still = λ _. refl;
            waits = tt;
          }))
          (at_end_or vs n u j e);
      strangers = λ k le. r.strangers k (omega (arith, le, size', many));
      waiting = let a = sum_by-append (λ (y : View). tickets_of y.state) vs (n ∷ []) in let b = sum_same (λ (y : View). tickets_of y.state) s.views id v l at refl in let d = r.waiting in ap (λ k. k + r.serving) a ∙ omega (arith, b, d);
      parts = let a = sum_by-append (λ (y : View). y.parts) vs (n ∷ []) in let b = sum_set (λ (y : View). y.parts) s.views id v l at in let d = r.parts in a ∙ omega (arith, b, d, some_parts);
      counted = λ u e. size' ∙ ⊎_elim
          (λ was. ⊎_elim (λ (x : (0 ≡ id) × (l ≡ u)). let m : v.made + 1 ≡ u.made = ap (λ (y : View). y.made) x.1 in omega (arith, m)) (λ (x : (0 ≢ id) × (get_elem? s.views 0 ≡ some u)). absurd (x.0 (sym first))) (at_set s.views id 0 l u was))
          (λ (t : (0 ≡ length vs) × (n ≡ u)). let z = t.0 in absurd (omega (arith, z, size)))
          (at_end_or vs n u 0 e);
      ended = λ u e p has.
          let is : l ≡ u = ⊎_elim
          (λ was. ⊎_elim (λ (x : (0 ≡ id) × (l ≡ u)). x.1) (λ (x : (0 ≢ id) × (get_elem? s.views 0 ≡ some u)). absurd (x.0 (sym first))) (at_set s.views id 0 l u was))
          (λ (t : (0 ≡ length vs) × (n ≡ u)). let z = t.0 in absurd (omega (arith, z, size)))
          (at_end_or vs n u 0 e) in
          let old = r.ended v at_first p (subst (λ x. Contains x p) (ap (λ (y : View). y.ended) (sym is)) has) in
          let apart : p.0 ≢ id = λ same. let gone : v.parts ≡ 0 = ap (λ (y : View). y.parts) (same_at s.views id v old.1.0 at (subst (λ k. get_elem? s.views k ≡ some old.1.0) same old.1.1)) ∙ old.1.2 in absurd (omega (arith, gone, part)) in
          (old.0, (old.1.0, at_longer vs (n ∷ []) p.0 old.1.0 (set_else s.views id p.0 l apart ∙ old.1.1), old.1.2));
      spent_ones = λ u e j y e' nil.
          let is : l ≡ u = ⊎_elim
          (λ was. ⊎_elim (λ (x : (0 ≡ id) × (l ≡ u)). x.1) (λ (x : (0 ≢ id) × (get_elem? s.views 0 ≡ some u)). absurd (x.0 (sym first))) (at_set s.views id 0 l u was))
          (λ (t : (0 ≡ length vs) × (n ≡ u)). let z = t.0 in absurd (omega (arith, z, size)))
          (at_end_or vs n u 0 e) in
          subst (λ (z : List (ℕ × Events)). (h : Events) × Contains z (j, h)) (ap (λ (z : View). z.ended) is)
          (⊎_elim
          (λ was. ⊎_elim (λ (x : (j ≡ id) × (l ≡ y)). let m : v.parts - 1 ≡ 0 = ap (λ (z : View). z.parts) x.1 ∙ nil in absurd (omega (arith, m, some_parts)))
          (λ (x : (j ≢ id) × (get_elem? s.views j ≡ some y)). r.spent_ones v at_first j y x.1 nil) (at_set s.views id j l y was))
          (λ (t : (j ≡ length vs) × (n ≡ y)). let m : 1 ≡ 0 = ap (λ (z : View). z.parts) t.1 ∙ nil in absurd (omega (arith, m)))
          (at_end_or vs n y j e'));
    }

contains_one : {A : Type 0} (x p : A) → Contains (x ∷ []) p → x ≡ p
contains_one x p has = go has.0 has.1 has.2
  where
    go : (k : ℕ) → k < length (x ∷ []) → get_or (x ∷ []) k p ≡ p → x ≡ p
    go zero lt e = e
    go (suc k) lt e = absurd (omega (arith, lt))

contains_end : {A : Type 0} (xs : List A) (x p : A) → Contains (xs ++ x ∷ []) p → Contains xs p ⊎ (x ≡ p)
contains_end xs x p has = ⊎_elim (λ a. inl a) (λ a. inr (contains_one x p a)) (Contains-append_cases xs (x ∷ []) p has)

longer_starts : (log xs ys : Events) → StartsWith log xs → StartsWith log ys → (b : Bool) → StartsWith log (cond b ys xs)
longer_starts log xs ys p q true = q
longer_starts log xs ys p q false = p

-- of two beginnings of one list the longer begins with the shorter
shorter_of : {A : Type 0} (log xs ys : List A) → ((rest : List A) × (log ≡ xs ++ rest)) → ((rest : List A) × (log ≡ ys ++ rest)) → length xs ≤ length ys → (rest : List A) × (ys ≡ xs ++ rest)
shorter_of log [] ys p q le = (ys, refl)
shorter_of log (x ∷ xs) [] p q le = absurd (omega (arith, le))
shorter_of [] (x ∷ xs) (y ∷ ys) p q le = let e = p.1 in absurd (cc (e))
shorter_of (z ∷ log) (x ∷ xs) (y ∷ ys) p q le =
    let e = p.1 in let e' = q.1 in
    let heads : x ≡ y = cc (e, e') in
    let rest = shorter_of log xs ys (p.0, cc (e)) (q.0, cc (e')) (omega (arith, le)) in
    (rest.0, (let t = rest.1 in cc (heads, t)))

shorter : (log xs ys : Events) → StartsWith log xs → StartsWith log ys → length xs ≤ length ys → StartsWith ys xs
shorter log xs ys p q le = shorter_of log xs ys p q le

longer_begins : (log xs ys : Events) → StartsWith log xs → StartsWith log ys → (b : Bool) → ltb (length xs) (length ys) ≡ b → StartsWith (cond b ys xs) xs × StartsWith (cond b ys xs) ys
longer_begins log xs ys p q true is = let lt = ltb-true (length xs) (length ys) is in (shorter log xs ys p q (omega (arith, lt)), ([], sym (append-nil ys)))
longer_begins log xs ys p q false is = let le = ltb-false (length xs) (length ys) is in (([], sym (append-nil xs)), shorter log ys xs q p le)

pub absorbs : (h0 : SpaceHistory) (id : ℕ) (v : View) → v.state ≡ Idle → 0 < v.parts → Allows (KeepsRule h0) 1 id (v, []) 0 (λ n. n) (AbsorbsSeen (step 1 0 0 0 none) (v, []))
absorbs h0 id v idle part s r deep at fits =
    let n : ℕ = slice_index s.words 0 in
    let log : Events = h0.events ++ r.tail in
    let f = r.each id v at in
    let mine = f.mine part in
    let w : View = record v { seen = longer v.seen v.heard } in
    let end = longer_starts log v.seen v.heard mine.begun mine.begun_heard (ltb (length v.seen) (length v.heard)) in
    let both = longer_begins log v.seen v.heard mine.begun mine.begun_heard (ltb (length v.seen) (length v.heard)) refl in
    let own_is : HasOwn h0.events id v.own w.seen = subst (HasOwn h0.events id v.own) (sym both.0.1)
    (longer_own h0.events id v.own r.tail v.seen both.0.0 end.0 mine.owned_seen (end.1 ∙ ap (λ l. l ++ end.0) both.0.1) mine.owned) in
    let own_now : HasOwn v.opening v.number v.own w.seen = subst (λ (x : Events × ℕ). HasOwn x.0 x.1 v.own w.seen) (λ i. (sym mine.opened i, sym mine.numbered i)) own_is in
    let one = sum_one (λ (y : View). y.parts) s.views id v at in
    let parts = r.parts in (
      w,
      keeps,
      tt,
      stepped_kept h0 s r id v w r.ticket r.serving r.tail r.out r.owner (slice_set s.words 0 n) s.homes at (refl, refl, refl) (stays h0 s r)
          (ap (λ ws. slice_set ws 0 (slice_index ws 0)) r.words) r.order r.legal r.home (caller_else h0 s r id v w r.owner at (quiet_idle v.state idle) (λ k lt. refl))
          (record {
            mine = λ _. record { numbered = mine.numbered; configured = mine.configured; opened = mine.opened; begun = end; begun_heard = mine.begun_heard; owned = mine.owned; owned_seen = own_is };
            still = f.still;
            waits = f.waits;
          })
          (λ j g other h. h) (λ m other. refl) (λ zero. refl) refl,
      (refl, both.0, both.1, own_now, omega (arith, one, parts)),
    )

-- the first seat takes another's view in
pub joins : (h0 : SpaceHistory) (id : ℕ) (v : View) (other : ℕ) (w : View) → id ≡ 0 → v.state ≡ Idle → 0 < v.parts → w.state ≡ Idle → 0 < w.parts → Joins (KeepsRule h0) id v other w (both_of v w) spent_seat
joins h0 id v other w first idle part idle' part' s r at two there =
    let b : View = both_of v w in
    let vs : List View = set s.views id b in
    let f = r.each id v at in
    let mine = f.mine part in
    let was : get_elem? s.views other ≡ some w = sym (set_else s.views id other b two) ∙ there in
    let g = r.each other w was in
    let theirs = g.mine part' in
    let at_first : get_elem? s.views 0 ≡ some v = subst (λ k. get_elem? s.views k ≡ some v) first at in
    let size : length (set vs other spent_seat) ≡ length s.views = length-set vs other spent_seat ∙ length-set s.views id b in
    let Now : ℕ → View → Type 0 = SeatFits h0 r.tail r.ticket r.serving r.out r.owner in
    let is_first : (u : View) → get_elem? (set vs other spent_seat) 0 ≡ some u → b ≡ u = λ u e. ⊎_elim
    (λ (x : (0 ≡ other) × (spent_seat ≡ u)). absurd (two (sym x.0 ∙ sym first)))
    (λ (x : (0 ≢ other) × (get_elem? vs 0 ≡ some u)). ⊎_elim (λ (y : (0 ≡ id) × (b ≡ u)). y.1) (λ (y : (0 ≢ id) × (get_elem? s.views 0 ≡ some u)). absurd (y.0 (sym first))) (at_set s.views id 0 b u x.1))
    (at_set vs other 0 spent_seat u e) in
    let far : (k : ℕ) (u : View) → get_elem? s.views k ≡ some u → k ≢ id → k ≢ other → get_elem? (set vs other spent_seat) k ≡ some u = λ k u e a c. set_else vs other k spent_seat c ∙ (set_else s.views id k b a ∙ e) in
    record {
      ticket = r.ticket;
      serving = r.serving;
      tail = r.tail;
      out = r.out;
      owner = r.owner;
      words = r.words;
      order = r.order;
      legal = r.legal;
      home = r.home;
      caller = λ is.
          let c = r.caller is in
          let apart : r.owner r.serving ≢ id = λ e. not_called v.state (word_of r.serving) (h0.events ++ r.tail) (quiet_idle v.state idle) (ap (λ (y : View). y.state) (same_at s.views id v c.0 at (subst (λ k. get_elem? s.views k ≡ some c.0) e c.1)) ∙ c.2) in
          let apart' : r.owner r.serving ≢ other = λ e. not_called w.state (word_of r.serving) (h0.events ++ r.tail) (quiet_idle w.state idle') (ap (λ (y : View). y.state) (same_at s.views other w c.0 was (subst (λ k. get_elem? s.views k ≡ some c.0) e c.1)) ∙ c.2) in
          (c.0, far (r.owner r.serving) c.0 c.1 apart apart', c.2);
      each = all_set Now vs other spent_seat (record { mine = λ lt. absurd (omega (arith, lt)); still = λ _. refl; waits = tt })
          (λ j u apart e. all_set Now s.views id b
          (record {
            mine = λ _. record {
              numbered = mine.numbered;
              configured = mine.configured;
              opened = mine.opened;
              begun = mine.begun;
              begun_heard = theirs.begun;
              owned = mine.owned;
              owned_seen = mine.owned_seen;
            };
            still = λ zero. absurd (omega (arith, zero, part));
            waits = f.waits;
          })
          (λ k y other' e'. r.each k y e') j u e);
      strangers = λ k le. r.strangers k (omega (arith, le, size));
      waiting = let x = sum_set (λ (y : View). tickets_of y.state) s.views id v b at in let y = sum_set (λ (y : View). tickets_of y.state) vs other w spent_seat there in let d = r.waiting in
          let none_theirs : tickets_of w.state ≡ 0 = ap tickets_of idle' in omega (arith, x, y, d, none_theirs);
      parts = let x = sum_set (λ (y : View). y.parts) s.views id v b at in let y = sum_set (λ (y : View). y.parts) vs other w spent_seat there in let d = r.parts in omega (arith, x, y, d);
      counted = λ u e. size ∙ (r.counted v at_first ∙ ap (λ (y : View). suc y.made) (is_first u e));
      ended = λ u e p has. ⊎_elim
          (λ before.
          let old = r.ended v at_first p before in
          let apart : p.0 ≢ id = λ same. let gone : v.parts ≡ 0 = ap (λ (y : View). y.parts) (same_at s.views id v old.1.0 at (subst (λ k. get_elem? s.views k ≡ some old.1.0) same old.1.1)) ∙ old.1.2 in absurd (omega (arith, gone, part)) in
          let apart' : p.0 ≢ other = λ same. let gone : w.parts ≡ 0 = ap (λ (y : View). y.parts) (same_at s.views other w old.1.0 was (subst (λ k. get_elem? s.views k ≡ some old.1.0) same old.1.1)) ∙ old.1.2 in absurd (omega (arith, gone, part')) in
          (old.0, (old.1.0, far p.0 old.1.0 old.1.1 apart apart', old.1.2)))
          (λ now. subst (HasEnded r.tail (set vs other spent_seat)) now (ap (λ k. events_by k r.tail) theirs.numbered ∙ theirs.owned, (spent_seat, subst (λ k. get_elem? (set vs other spent_seat) k ≡ some spent_seat) (sym theirs.numbered) (set_here vs other spent_seat (within vs other w there)), refl)))
          (contains_end v.ended (w.number, w.own) p (subst (λ x. Contains x p) (ap (λ (y : View). y.ended) (sym (is_first u e))) has));
      spent_ones = λ u e j y e' nil. subst (λ (z : List (ℕ × Events)). (h : Events) × Contains z (j, h)) (ap (λ (z : View). z.ended) (is_first u e))
          (⊎_elim
          (λ (x : (j ≡ other) × (spent_seat ≡ y)). (w.own, subst (λ k. Contains (v.ended ++ (w.number, w.own) ∷ []) (k, w.own)) (theirs.numbered ∙ sym x.0) (Contains-append_right v.ended ((w.number, w.own) ∷ []) (w.number, w.own) (0, omega arith, refl))))
          (λ (x : (j ≢ other) × (get_elem? vs j ≡ some y)).
          let old = ⊎_elim (λ (z : (j ≡ id) × (b ≡ y)). let m : v.parts + w.parts ≡ 0 = ap (λ (q : View). q.parts) z.1 ∙ nil in absurd (omega (arith, m, part)))
          (λ (z : (j ≢ id) × (get_elem? s.views j ≡ some y)). r.spent_ones v at_first j y z.1 nil) (at_set s.views id j b y x.1) in
          (old.0, Contains-append_left v.ended ((w.number, w.own) ∷ []) (j, old.0) old.1))
          (at_set vs other j spent_seat y e'));
    }

pub starts : (h0 : SpaceHistory) → h0.rows ≡ table h0.configuration (places h0.configuration h0.events) → IsLegal h0.configuration h0.events → KeepsRule h0 (opening (0 ∷ 0 ∷ length h0.events ∷ []) (Some h0 ∷ []) (root h0))
starts h0 shown legal =
    let all : h0.events ++ [] ≡ h0.events = append-nil h0.events in
    let one : (j : ℕ) (u : View) → get_elem? (root h0 ∷ []) j ≡ some u → (j ≡ 0) × (root h0 ≡ u) = λ j u e. only j u e in
    record {
      ticket = 0;
      serving = 0;
      tail = [];
      out = false;
      owner = λ t. 0;
      words = ap (λ l. 0 ∷ 0 ∷ length l ∷ []) (sym all);
      order = omega arith;
      legal = subst (IsLegal h0.configuration) (sym all) legal;
      home = ap (λ (s : SpaceHistory). some (Some s) ∷ []) (space-shown h0 shown) ∙ ap (λ l. some (Some (space_with h0.configuration l)) ∷ []) (sym all);
      caller = λ e. absurd (true≢false (sym e));
      each = λ j u e. let t = one j u e in subst (SeatFits h0 [] 0 0 false (λ t. 0) j) t.1 (record {
        mine = λ _. record {
          numbered = sym t.0;
          configured = refl;
          opened = refl;
          begun = ([], refl);
          begun_heard = (h0.events ++ [], refl);
          owned = refl;
          owned_seen = ([], sym all, refl);
        };
        still = λ _. refl;
        waits = tt;
      });
      strangers = λ n le. refl;
      waiting = refl;
      parts = refl;
      counted = λ u e. ap (λ (y : View). suc y.made) (one 0 u e).1;
      ended = λ u e p has. absurd (none_in p (subst (λ l. Contains l p) (ap (λ (y : View). y.ended) (sym (one 0 u e).1)) has));
      spent_ones = λ u e j y e' nil. let m : 4294967296 ≡ 0 = ap (λ (z : View). z.parts) (one j y e').1 ∙ nil in absurd (omega (arith, m));
    }
  where
    only : (j : ℕ) (u : View) → get_elem? (root h0 ∷ []) j ≡ some u → (j ≡ 0) × (root h0 ≡ u)
    only zero u e = (refl, some-injective (root h0) u e)
    only (suc j) u e = absurd (some-ne-none u (sym e))

    none_in : (p : ℕ × Events) → Contains [] p → ⊥
    none_in p has = let lt = has.1 in absurd (omega (arith, lt))

-- once every part is back, the slot is at home, and the events are those of the first seat and of the ended passes
pub closes : (h0 : SpaceHistory) (id : ℕ) (v : View) (ws : List ℕ) (xs : List (Option SpaceHistory)) → id ≡ 0 → v.parts ≡ 4294967296 → v.state ≡ Idle
    → Final (Seen (KeepsRule h0) id v) ws xs → (h : SpaceHistory) × (get_elem? xs 0 ≡ some (Some h)) × Settled h0 v h
closes h0 id v ws xs first whole idle final =
    let s : St = final.0 in
    let r : KeepsRule h0 s = final.1.0 in
    let at : get_elem? s.views id ≡ some v = final.1.1 in
    let at_first : get_elem? s.views 0 ≡ some v = subst (λ k. get_elem? s.views k ≡ some v) first at in
    let part : 0 < v.parts = omega (arith, whole) in
    let mine = (r.each id v at).mine part in
    let gone : (j : ℕ) (u : View) → get_elem? s.views j ≡ some u → j ≢ id → u.parts ≡ 0 = λ j u e apart. sum_rest (λ (y : View). y.parts) s.views id j v u spent_seat at e apart (r.parts ∙ sym whole) refl in
    let quiet : r.out ≡ false = settled_out h0 s r id v at idle gone r.out refl in
    let last : SpaceHistory = space_with h0.configuration (h0.events ++ r.tail) in
    let home : s.homes ≡ some (Some last) ∷ [] = r.home ∙ ap (λ b. at_home b last ∷ []) quiet in (
      last,
      final.4 0 (Some last) (ap (λ hs. get_elem? hs 0) home),
      record {
        same = refl;
        legal = r.legal;
        shown = refl;
        tail = r.tail;
        begins = refl;
        seen = mine.begun;
        roots = ap (λ k. events_by k r.tail) (sym first) ∙ mine.owned;
        joined = λ p has. (r.ended v at_first p has).0;
        each = λ n low high.
            let here = there s.views n (let many = r.counted v at_first in omega (arith, many, high)) in
            r.spent_ones v at_first n here.0 here.1 (gone n here.0 here.1 (λ e. absurd (omega (arith, e, first, low))));
        no_others = λ n high. r.strangers n (let many = r.counted v at_first in omega (arith, many, high));
      },
    )
  where
    there : (vs : List View) (n : ℕ) → n < length vs → (u : View) × (get_elem? vs n ≡ some u)
    there [] n lt = absurd (omega (arith, lt))
    there (x ∷ xs) zero lt = (x, refl)
    there (x ∷ xs) (suc n) lt = there xs n (omega (arith, lt))

    settled_out : (h0 : SpaceHistory) (s : St) (r : KeepsRule h0 s) (id : ℕ) (v : View) → get_elem? s.views id ≡ some v → v.state ≡ Idle → ((j : ℕ) (u : View) → get_elem? s.views j ≡ some u → j ≢ id → u.parts ≡ 0)
        → (b : Bool) → r.out ≡ b → b ≡ false
    settled_out h0 s r id v at idle gone false is = refl
    settled_out h0 s r id v at idle gone true is =
        let c = r.caller is in
        absurd (dite (ℕ_discrete (r.owner r.serving) id)
        (λ e. not_called v.state (word_of r.serving) (h0.events ++ r.tail) (quiet_idle v.state idle) (ap (λ (y : View). y.state) (same_at s.views id v c.0 at (subst (λ k. get_elem? s.views k ≡ some c.0) e c.1)) ∙ c.2))
        (λ apart. not_called c.0.state (word_of r.serving) (h0.events ++ r.tail) (quiet_idle c.0.state ((r.each (r.owner r.serving) c.0 c.1).still (gone (r.owner r.serving) c.0 c.1 apart))) c.2))
