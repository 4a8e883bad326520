-- The collector's sentence: why an object is kept, and what one event leaves and withdraws.
use Rattle.std.proofs.Common.{true≢false, ◌≡◌, ℕ, ◌<◌, ◌⊎◌, inl, inr, List, [], ◌∷◌, ◌++◌, refl, ap, sym, subst, ◌∙◌, arith, append_assoc, append-nil, Option, Some, None}
use Rattle.std.specs.Prelude.{Bool, true, false, ◌||◌, ◌↔◌, filter, not, nat_lt, is_some, if◌then◌else◌}
use Rattle.std.specs.List.{list_any}
use Rattle.std.proofs.lemmas.Bool.{ltb-true, lt-ltb, and_parts, or_left, or_right}
use Rattle.object_ids.specs.declared.ids.Uid.{Uid}
use Rattle.object_ids.specs.declared.ids.ObjId.{ObjId}
use Rattle.object_ids.specs.Client.{Client}
use Rattle.object_ids.specs.Same.{same_id, same_client, same_bytes}
use Rattle.object_ids.proofs.Exact.{same_id-equal, same_id-self, same_client-equal}
use Rattle.history.specs.Lists.{option_any}
use Rattle.history.specs.declared.asks.SpaceConfig.{SpaceConfig}
use Rattle.history.specs.declared.asks.Event.{Event}
use Rattle.history.specs.declared.calls.Call.{Call}
use Rattle.history.specs.declared.places.Exported.{Exported}
use Rattle.history.specs.declared.places.Returned.{Returned}
use Rattle.history.specs.Places.{History, now}
use Rattle.history.specs.Running.{is_running}
use Rattle.history.specs.Leases.{lease_end, has_time_left, counting_calls, highest_is_dirty, calls_of, holds, is_held}
use Rattle.history.specs.LeaseCalls.{lease_calls}
use Rattle.history.specs.Awaiting.{same_returned, until_of, awaits, awaiting_references, is_awaited}
use Rattle.history.specs.Names.{stands_for, names, is_name_of, is_named}
use Rattle.history.specs.Table.{is_kept_locally, is_kept, table, places, withdrawn_objects, with_event}
use Rattle.history.specs.Laws.{SomeConnectionRuns}
use Rattle.history.specs.Collector.{SomeNameStands, SomeReferenceAwaits, SomeClientHolds, IsNeeded, rows_and_exports, rows_after, rows_after_each, Collects, TableCollects}
use Rattle.history.proofs.ListLemmas.{Somewhere, Somewhere-test, test-Somewhere, witness}
use Rattle.history.proofs.AwaitingLaws.{returned-equality, awaiting_references-member}
use Rattle.history.proofs.LeaseLaws.{is_held-calls}
use Rattle.history.proofs.NameLaws.{names-member, bytes-equality}
use Rattle.history.proofs.RunningLaws.{running-some}
use Rattle.history.proofs.TableLaws.{places-push, table-push, withdrawn_objects-place}

-- ---- some name

names-it : (o : ObjId) (s : Option ObjId) → option_any (λ x. same_id x o) s ≡ true → s ≡ Some o
names-it o None h = absurd (true≢false (sym h))
names-it o (Some x) h = ap Some (same_id-equal x o h)

named-some : (config : SpaceConfig) (events : List Event) (o : ObjId) → (is_named (places config events) o ≡ true) ↔ SomeNameStands (places config events) o
unfolding is_named
named-some config events o = (
  λ h. let one = witness (is_name_of (places config events) o) (names (places config events)) (Somewhere-test (is_name_of (places config events) o) (names (places config events)) h) in
      (one.0, names-it o (stands_for (places config events) one.0) one.1),
  λ s. test-Somewhere (λ n. same_bytes s.0 n ≡ true) (is_name_of (places config events) o)
      (λ n e. let P : List ℕ → Type 0 = λ m. is_name_of (places config events) o m ≡ true in subst P (bytes-equality.equal s.0 n e) (stands s.0 s.1))
      (names (places config events)) (Somewhere-test (same_bytes s.0) (names (places config events)) (names-member config events s.0 ∙ ap is_some s.1)),
)
  where
    stands : (n : List ℕ) → stands_for (places config events) n ≡ Some o → is_name_of (places config events) o n ≡ true
    stands n e = ap (option_any (λ x. same_id x o)) e ∙ same_id-self o

-- ---- some reference

awaited-some : (config : SpaceConfig) (h : History) (o : ObjId) → (is_awaited config.ack_ms (now h) h o ≡ true) ↔ SomeReferenceAwaits config h o
unfolding is_awaited awaits
awaited-some config h o = (λ a. found (awaiting_references config.ack_ms (now h) h) (λ r i. sym (awaiting_references-member config.ack_ms (now h) h r) ∙ i) (Somewhere-test (λ r. same_id r.object o) (awaiting_references config.ack_ms (now h) h) a), λ s. back s.0 s.1)
  where
    found : (rs : List Returned) → ((r : Returned) → list_any (same_returned r) rs ≡ true → awaits config.ack_ms (now h) h r ≡ true) →
        Somewhere (λ r. same_id r.object o ≡ true) rs → SomeReferenceAwaits config h o
    found [] f s = absurd s
    found (r ∷ rs) f s = elim s [
      | inl here ↦ (
        r.uid,
        (
            let P : ObjId → Type 0 = λ x. now h < until_of config.ack_ms h (record { object = x; uid = r.uid }) in
            subst P (same_id-equal r.object o here) (ltb-true (now h) (until_of config.ack_ms h r) (f r (or_left (same_returned r r) (list_any (same_returned r) rs) (returned-equality.self r))))),
      )
      | inr there ↦ found rs (λ k i. f k (or_right (same_returned k r) (list_any (same_returned k) rs) i)) there
    ]

    back : (u : Uid) → now h < until_of config.ack_ms h (record { object = o; uid = u }) → list_any (λ r. same_id r.object o) (awaiting_references config.ack_ms (now h) h) ≡ true
    back u l =
        let r : Returned = record { object = o; uid = u } in
        test-Somewhere (λ k. same_returned r k ≡ true) (λ k. same_id k.object o)
        (λ k e. let P : Returned → Type 0 = λ q. same_id q.object o ≡ true in subst P (returned-equality.equal r k e) (same_id-self o))
        (awaiting_references config.ack_ms (now h) h) (Somewhere-test (same_returned r) (awaiting_references config.ack_ms (now h) h)
        (awaiting_references-member config.ack_ms (now h) h r ∙ lt-ltb (now h) (until_of config.ack_ms h r) l))

-- ---- some client

-- A client that holds an object sent a call.
sent : (lease t : ℕ) (c : Client) (o : ObjId) (calls : List Call) → holds lease t (calls_of c calls) o ≡ true → Somewhere (λ (x : Call). same_client x.client c ≡ true) calls
unfolding holds calls_of lease_end
sent lease t c o calls h = among calls (and_parts (has_time_left lease t (calls_of c calls)) (highest_is_dirty (counting_calls lease (calls_of c calls) o)) h).0
  where
    among : (xs : List Call) → nat_lt t (lease_end lease (filter (λ (x : Call). same_client x.client c) xs)) ≡ true → Somewhere (λ (x : Call). same_client x.client c ≡ true) xs
    among [] e = let l = ltb-true t 0 e in absurd (omega arith)
    among (x ∷ xs) e = go (same_client x.client c) refl e (among xs)
      where
        go : (b : Bool) → same_client x.client c ≡ b → nat_lt t (lease_end lease (if b then x ∷ filter (λ (y : Call). same_client y.client c) xs else filter (λ (y : Call). same_client y.client c) xs)) ≡ true →
            (nat_lt t (lease_end lease (filter (λ (y : Call). same_client y.client c) xs)) ≡ true → Somewhere (λ (y : Call). same_client y.client c ≡ true) xs) →
            Somewhere (λ (y : Call). same_client y.client c ≡ true) (x ∷ xs)
        go true p q f = inl p
        go false p q f = inr (f q)

held-some : (config : SpaceConfig) (h : History) (o : ObjId) → (is_held config.lease_ms (now h) (lease_calls h) o ≡ true) ↔ SomeClientHolds config h o
held-some config h o = (
  λ a. let one = witness (λ (x : Call). holds config.lease_ms (now h) (calls_of x.client (lease_calls h)) o) (lease_calls h)
      (Somewhere-test (λ (x : Call). holds config.lease_ms (now h) (calls_of x.client (lease_calls h)) o) (lease_calls h) (sym (is_held-calls config.lease_ms (now h) (lease_calls h) o) ∙ a)) in
      (one.0.client, one.1),
  λ s. is_held-calls config.lease_ms (now h) (lease_calls h) o
      ∙ test-Somewhere (λ (x : Call). same_client x.client s.0 ≡ true) (λ (x : Call). holds config.lease_ms (now h) (calls_of x.client (lease_calls h)) o)
      (λ x e. ap (λ (c : Client). holds config.lease_ms (now h) (calls_of c (lease_calls h)) o) (same_client-equal x.client s.0 e) ∙ s.1)
      (lease_calls h) (sent config.lease_ms (now h) s.0 o (lease_calls h) s.1),
)

-- ---- an object is kept where there is a reason to

-- One of five tests.
five : (a b c d f : Bool) (B C D F : Type 0) → ((b ≡ true) ↔ B) → ((c ≡ true) ↔ C) → ((d ≡ true) ↔ D) → ((f ≡ true) ↔ F) →
    (((a || b || c) || d || f) ≡ true) ↔ ((a ≡ true) ⊎ (B ⊎ (C ⊎ (D ⊎ F))))
five a b c d f B C D F p q r s = (forth a b c d f p q r s, back a b c d f p q r s)
  where
    forth : (a b c d f : Bool) → ((b ≡ true) ↔ B) → ((c ≡ true) ↔ C) → ((d ≡ true) ↔ D) → ((f ≡ true) ↔ F) →
        ((a || b || c) || d || f) ≡ true → (a ≡ true) ⊎ (B ⊎ (C ⊎ (D ⊎ F)))
    forth true b c d f p q r s h = inl refl
    forth false true c d f p q r s h = inr (inl (p.0 refl))
    forth false false true d f p q r s h = inr (inr (inl (q.0 refl)))
    forth false false false true f p q r s h = inr (inr (inr (inl (r.0 refl))))
    forth false false false false true p q r s h = inr (inr (inr (inr (s.0 refl))))
    forth false false false false false p q r s h = absurd (true≢false (sym h))

    back : (a b c d f : Bool) → ((b ≡ true) ↔ B) → ((c ≡ true) ↔ C) → ((d ≡ true) ↔ D) → ((f ≡ true) ↔ F) →
        (a ≡ true) ⊎ (B ⊎ (C ⊎ (D ⊎ F))) → ((a || b || c) || d || f) ≡ true
    back true b c d f p q r s h = refl
    back false true c d f p q r s h = refl
    back false false true d f p q r s h = refl
    back false false false true f p q r s h = refl
    back false false false false true p q r s h = refl
    back false false false false false p q r s h = elim h [
      | inl x ↦ x
      | inr rest ↦ elim rest [
        | inl x ↦ p.1 x
        | inr rest2 ↦ elim rest2 [ inl x ↦ q.1 x | inr rest3 ↦ elim rest3 [ inl x ↦ r.1 x | inr x ↦ s.1 x ] ]
      ]
    ]

pub kept-needed : (config : SpaceConfig) (events : List Event) (x : Exported) → (is_kept config (places config events) x ≡ true) ↔ IsNeeded config (places config events) x
unfolding is_kept is_kept_locally
kept-needed config events x =
    let h = places config events in
    five x.pinned (is_named h x.id) (is_running h x.id) (is_awaited config.ack_ms (now h) h x.id) (is_held config.lease_ms (now h) (lease_calls h) x.id)
    (SomeNameStands h x.id) (SomeConnectionRuns h x.id) (SomeReferenceAwaits config h x.id) (SomeClientHolds config h x.id)
    (named-some config events x.id) (running-some config events x.id) (awaited-some config h x.id) (held-some config h x.id)

-- ---- one event

goes-push : (config : SpaceConfig) (h : List Event) (e : Event) →
    withdrawn_objects config (places config (with_event h e)) ≡ filter (λ x. not (is_kept config (places config (with_event h e)) x)) (rows_and_exports config h (table config (places config h)) e)
goes-push config h e = rw places-push (withdrawn_objects-place config (places config h) e)

-- THE COLLECTOR at one event.
pub collects : (config : SpaceConfig) (h : List Event) (e : Event) → TableCollects config h e (with_event h e)
collects config h e = record { after = refl; stays = table-push config h e; goes = goes-push config h e; kept = kept-needed config (with_event h e) }

-- The same of a history that is known to have the event at its end.
pub collects-after : (config : SpaceConfig) (h : List Event) (e : Event) (h2 : List Event) → h2 ≡ with_event h e → TableCollects config h e h2
collects-after config h e h2 same = let P : List Event → Type 0 = λ g. TableCollects config h e g in subst P (sym same) (collects config h e)

-- A table that has the rows of a history's table, and collects at an event, has those of the table after it.
pub collected-table : (config : SpaceConfig) (h : List Event) (rows : List Exported) (e : Event) (h2 : List Event) (rows2 : List Exported) →
    Collects config h rows e h2 rows2 → rows ≡ table config (places config h) → rows2 ≡ table config (places config h2)
collected-table config h rows e h2 rows2 c same =
    c.stays ∙ ap (λ l. rows_after config h l e) same ∙ sym (table-push config h e) ∙ ap (λ g. table config (places config g)) (sym c.after)

-- ---- lists of events

-- The rows that events leave of a history's table are those of the table after them.
pub rows_after_each-table : (config : SpaceConfig) (h events : List Event) → rows_after_each config h (table config (places config h)) events ≡ table config (places config (h ++ events))
rows_after_each-table config h [] = ap (λ g. table config (places config g)) (sym (append-nil h))
rows_after_each-table config h (e ∷ events) =
    ap (λ l. rows_after_each config (with_event h e) l events) (sym (table-push config h e)) ∙ rows_after_each-table config (with_event h e) events
    ∙ ap (λ g. table config (places config g)) (append_assoc h (e ∷ []) events)
