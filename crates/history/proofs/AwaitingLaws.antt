-- Laws of awaiting references: a return begins a wait anew, an acknowledgement ends those of its return, and what is counted.
use Rattle.std.proofs.Common.{true≢false, ◌≡◌, ℕ, ◌+◌, ◌<◌, ◌≤◌, inl, inr, List, [], ◌∷◌, length, refl, ap, sym, subst, ◌∙◌, arith, cond, Option, Some, None}
use Rattle.std.specs.Prelude.{Bool, true, false, ◌&&◌, ◌||◌, not, filter, find, nat_lt}
use Rattle.std.specs.List.{list_any}
use Rattle.std.proofs.lemmas.Bool.{lt-ltb, le-ltb, and_parts, and_from}
use Rattle.std.proofs.lemmas.List.Folds.{list_any-append}
use Rattle.object_ids.specs.declared.ids.Uid.{Uid}
use Rattle.object_ids.specs.declared.ids.ObjId.{ObjId}
use Rattle.object_ids.specs.Same.{same_id, same_uid}
use Rattle.object_ids.proofs.Exact.{same_id-equal, same_id-self, same_uid-equal, same_uid-self}
use Rattle.history.specs.Lists.{option_any, AllOnce}
use Rattle.history.specs.declared.places.Place.{Place}
use Rattle.history.specs.declared.places.Returned.{Returned}
use Rattle.history.specs.declared.asks.SpaceConfig.{SpaceConfig}
use Rattle.history.specs.declared.asks.Event.{Event}
use Rattle.history.specs.Awaiting.{same_returned, returned_references, returns, is_ack_of, until_of, awaits, references, awaiting_references, is_awaited}
use Rattle.history.specs.Laws.{is_acknowledged, awaits_since_return, AwaitsSinceReturn}
use Rattle.history.specs.Table.{places}
use Rattle.history.specs.Places.{History}
use Rattle.history.proofs.ListLemmas.{IsEquality, AllOnce-distinct, list_any-distinct, list_any-filter, list_any-members, and_true, and_false, same_test, test-Somewhere, Somewhere, Somewhere-test, no_time}
use Rattle.history.proofs.TableLaws.{IsNumbered, places-numbered}

pub returned-equality : IsEquality same_returned
returned-equality = record {
  self = λ r. and_from (same_id r.object r.object) (same_uid r.uid r.uid) (same_id-self r.object) (same_uid-self r.uid);
  equal = λ a b h. equal a b (and_parts (same_id a.object b.object) (same_uid a.uid b.uid) h);
}
  where
    equal : (a b : Returned) → (same_id a.object b.object ≡ true) × (same_uid a.uid b.uid ≡ true) → a ≡ b
    equal a b (o, u) = ap (λ x. record a { object = x }) (same_id-equal a.object b.object o) ∙ ap (λ x. record { object = b.object; uid = x }) (same_uid-equal a.uid b.uid u)

-- ---- one more place

-- A place that returns the reference begins its wait anew.
pub awaits-returned : (ack t : ℕ) (p : Place) (h : History) (r : Returned) → IsNumbered (p ∷ h) → returns r p ≡ true →
    awaits ack t (p ∷ h) r ≡ nat_lt t (p.moment + ack)
unfolding awaits until_of
awaits-returned ack t p h r n l = rw l refl

ended : (ack t : ℕ) (p : Place) (h : History) (r : Returned) → returns r p ≡ false → is_ack_of r.uid p.event.ask ≡ true → awaits ack t (p ∷ h) r ≡ false
unfolding awaits until_of
ended ack t p h r l a = rw (l, a) (no_time t)

-- One that acknowledges the return ends it.
pub awaits-acknowledged : (ack t : ℕ) (p : Place) (h : History) (r : Returned) → IsNumbered (p ∷ h) → returns r p ≡ false → is_ack_of r.uid p.event.ask ≡ true →
    awaits ack t (p ∷ h) r ≡ false
awaits-acknowledged ack t p h r n l a = ended ack t p h r l a

-- Any other leaves it.
pub awaits-passed : (ack t : ℕ) (p : Place) (h : History) (r : Returned) → returns r p ≡ false → is_ack_of r.uid p.event.ask ≡ false →
    awaits ack t (p ∷ h) r ≡ awaits ack t h r
unfolding awaits until_of
awaits-passed ack t p h r l a = rw (l, a) refl

pub awaits-none : (ack t : ℕ) (r : Returned) → awaits ack t [] r ≡ false
unfolding awaits until_of
awaits-none ack t r = no_time t

-- ---- since the last return

-- No place stands after the newest one.
none_after : (u : Uid) (h : History) (p : Place) → IsNumbered h → length h ≤ p.index + 1 → is_acknowledged h u p ≡ false
none_after u [] p n a = refl
none_after u (q ∷ h) p n a = rw (le-ltb p.index q.index (let b = n.0 in omega arith)) (none_after u h p n.1 (omega arith))

found_before : (test : Place → Bool) (h : History) (q : Place) → IsNumbered h → find test h ≡ Some q → q.index < length h
found_before test [] q n f = absurd (cc)
found_before test (p ∷ h) q n f = go (test p) f (found_before test h q n.1)
  where
    go : (b : Bool) → cond b (Some p) (find test h) ≡ Some q → (find test h ≡ Some q → q.index < length h) → q.index < length (p ∷ h)
    go true f rest = let same : p ≡ q = cc in let i : p.index ≡ q.index = ap (λ (x : Place). x.index) same in let j = n.0 in omega arith
    go false f rest = let i = rest f in omega arith

since-returned : (ack t : ℕ) (p : Place) (h : History) (r : Returned) → IsNumbered (p ∷ h) → returns r p ≡ true →
    awaits_since_return ack t (p ∷ h) r ≡ nat_lt t (p.moment + ack)
since-returned ack t p h r n l = rw (l, none_after r.uid (p ∷ h) p n (let b = n.0 in omega arith)) (and_true (nat_lt t (p.moment + ack)))

since-acknowledged : (ack t : ℕ) (p : Place) (h : History) (r : Returned) → IsNumbered (p ∷ h) → returns r p ≡ false → is_ack_of r.uid p.event.ask ≡ true →
    awaits_since_return ack t (p ∷ h) r ≡ false
since-acknowledged ack t p h r n l a = rw l (go (find (returns r) h) refl)
  where
    go : (f : Option Place) → find (returns r) h ≡ f → option_any (λ q. nat_lt t (q.moment + ack) && not (is_acknowledged (p ∷ h) r.uid q)) f ≡ false
    go None e = refl
    go (Some q) e =
        let i : q.index < length h = found_before (returns r) h q n.1 e in
        let j : nat_lt q.index p.index ≡ true = lt-ltb q.index p.index (let b = n.0 in omega arith) in
        rw (j, a) (and_false (nat_lt t (q.moment + ack)))

since-passed : (ack t : ℕ) (p : Place) (h : History) (r : Returned) → returns r p ≡ false → is_ack_of r.uid p.event.ask ≡ false →
    awaits_since_return ack t (p ∷ h) r ≡ awaits_since_return ack t h r
since-passed ack t p h r l a = rw l (go (find (returns r) h))
  where
    go : (f : Option Place) → option_any (λ q. nat_lt t (q.moment + ack) && not (is_acknowledged (p ∷ h) r.uid q)) f ≡ option_any (λ q. nat_lt t (q.moment + ack) && not (is_acknowledged h r.uid q)) f
    go None = refl
    go (Some q) = rw (a, and_false (nat_lt q.index p.index)) refl

awaits-since : (ack t : ℕ) (h : History) (r : Returned) → IsNumbered h → awaits ack t h r ≡ awaits_since_return ack t h r
awaits-since ack t [] r n = awaits-none ack t r
awaits-since ack t (p ∷ h) r n = go (awaits-since ack t h r n.1) (returns r p) refl (is_ack_of r.uid p.event.ask) refl
  where
    go : awaits ack t h r ≡ awaits_since_return ack t h r → (b : Bool) → returns r p ≡ b → (c : Bool) → is_ack_of r.uid p.event.ask ≡ c → awaits ack t (p ∷ h) r ≡ awaits_since_return ack t (p ∷ h) r
    go ih true l c a = awaits-returned ack t p h r n l ∙ sym (since-returned ack t p h r n l)
    go ih false l true a = awaits-acknowledged ack t p h r n l a ∙ sym (since-acknowledged ack t p h r n l a)
    go ih false l false a = awaits-passed ack t p h r l a ∙ ih ∙ sym (since-passed ack t p h r l a)

-- A REFERENCE AWAITS since the last place that returned it.
pub awaits-since-return : (config : SpaceConfig) (events : List Event) → AwaitsSinceReturn config events
awaits-since-return config events ack t r = awaits-since ack t (places config events) r (places-numbered config events)

-- ---- what awaits

-- A reference that awaits was returned.
was_returned : (ack t : ℕ) (h : History) (r : Returned) → awaits ack t h r ≡ true → list_any (same_returned r) (references h) ≡ true
unfolding references
was_returned ack t [] r a = absurd (let never = awaits-none ack t r in cc)
was_returned ack t (p ∷ h) r a = list_any-append (same_returned r) (returned_references p) (references h) ∙ go (was_returned ack t h r) (returns r p) refl (is_ack_of r.uid p.event.ask) refl
  where
    go : (awaits ack t h r ≡ true → list_any (same_returned r) (references h) ≡ true) → (b : Bool) → returns r p ≡ b → (c : Bool) → is_ack_of r.uid p.event.ask ≡ c → (returns r p || list_any (same_returned r) (references h)) ≡ true
    go ih true l c d = rw l refl
    go ih false l true d = absurd (true≢false (sym a ∙ ended ack t p h r l d))
    go ih false l false d = rw l (ih (sym (awaits-passed ack t p h r l d) ∙ a))

-- WHAT AWAITS is what is among those that await.
pub awaiting_references-member : (ack t : ℕ) (h : History) (r : Returned) → list_any (same_returned r) (awaiting_references ack t h) ≡ awaits ack t h r
unfolding awaiting_references
awaiting_references-member ack t h r =
    list_any-distinct same_returned (same_returned r) (λ x y e. ap (same_returned r) (returned-equality.equal x y e)) (filter (awaits ack t h) (references h))
    ∙ list_any-filter (same_returned r) (awaits ack t h) (references h)
    ∙ same_test (list_any (λ x. awaits ack t h x && same_returned r x) (references h)) (awaits ack t h r)
    (λ e. forth (references h) (Somewhere-test (λ x. awaits ack t h x && same_returned r x) (references h) e))
    (λ e. test-Somewhere (λ x. same_returned r x ≡ true) (λ x. awaits ack t h x && same_returned r x)
    (λ x s. let P : Returned → Type 0 = λ z. awaits ack t h z ≡ true in and_from (awaits ack t h x) (same_returned r x) (subst P (returned-equality.equal r x s) e) s)
    (references h) (Somewhere-test (same_returned r) (references h) (was_returned ack t h r e)))
  where
    forth : (xs : List Returned) → Somewhere (λ x. (awaits ack t h x && same_returned r x) ≡ true) xs → awaits ack t h r ≡ true
    forth [] s = absurd s
    forth (x ∷ xs) s = elim s [
      | inl here ↦ (let two = and_parts (awaits ack t h x) (same_returned r x) here in
          let P : Returned → Type 0 = λ z. awaits ack t h z ≡ true in subst P (sym (returned-equality.equal r x two.1)) two.0)
      | inr there ↦ forth xs there
    ]

pub awaiting_references-once : (ack t : ℕ) (h : History) → AllOnce same_returned (awaiting_references ack t h)
unfolding awaiting_references
awaiting_references-once ack t h = AllOnce-distinct same_returned returned-equality (filter (awaits ack t h) (references h))

-- An object is awaited where any list with the same references has one to it.
pub is_awaited-members : (ack t : ℕ) (h : History) (o : ObjId) (rs : List Returned) → ((r : Returned) → list_any (same_returned r) rs ≡ awaits ack t h r) →
    is_awaited ack t h o ≡ list_any (λ r. same_id r.object o) rs
unfolding is_awaited
is_awaited-members ack t h o rs f =
    list_any-members same_returned returned-equality (λ r. same_id r.object o) (awaiting_references ack t h) rs (λ r. awaiting_references-member ack t h r ∙ sym (f r))
