-- A call of a client's table keeps what the world keeps.
use Rattle.std.proofs.Common.{◌≡◌, ℕ, ◌+◌, ◌<◌, ◌≤◌, List, [], ◌∷◌, ◌++◌, refl, sym, arith, subst, inl, inr}
use Rattle.std.specs.Prelude.{ℤ, pos, Bool, true, false, ◌&&◌, ◌||◌, not, filter, int_le, nat_lt, if◌then◌else◌, ◌<ℤ◌, ◌≤ℤ◌, Option, Some, None, max, option_map}
use Rattle.std.specs.List.{list_any, AllByRecursion}
use Rattle.std.specs.Ordering.{int_eq}
use Rattle.std.proofs.lemmas.Int.{ints}
use Rattle.std.proofs.lemmas.Bool.{ltb-true, or_cases, and_parts}
use Rattle.std.proofs.lemmas.Bool.Decides.{Decides-int_eq, nat_tests}
use Rattle.object_ids.specs.Same.{same_id}
use Rattle.object_ids.specs.declared.ids.ObjId.{ObjId}
use Rattle.object_ids.proofs.Exact.{same_id-equal, same_id-self}
use Rattle.history.specs.Leases.{is_dirty, is_naming, grant_end}
use Rattle.history.specs.declared.calls.Call.{Call}
use Rattle.history.specs.declared.places.Exported.{Exported}
use Rattle.history.proofs.ListLemmas.{every-append, every-weaker, every-always, every-two, every-filter}
use Rattle.dgc_client.specs.Log.{ClientCall, Registers, Drops, Dues, Answers, Fails, Dirty, Good, Note, Ref, number_of, next, refs, until, until_after, end_of, names, once_then, with_dirty, refs_after, has_ref, under_way, closed_by, has_number, plan_of, dirty_sent, new_dirty, good_of, good_if, dirty_of, is_timely, note_of, is_strong, objects_due}
use Rattle.dgc_client.specs.declared.plan.Plan.{Plan}
use Rattle.dgc_client.specs.declared.plan.Plan.TheVariants as plans
use Rattle.dgc_client.proofs.Logs.{found, same-number, next-grows, plan-number}
use Rattle.lease_world.specs.World.{client, call_number, with_sent, confirms_by}
use Rattle.lease_world.specs.declared.sent_call.SentCall.{SentCall}
use Rattle.lease_world.proofs.Lists.{any-never, filter-every}
use Rattle.lease_world.proofs.TableCalls.{is_of, is_dirty_of, meets}
use Rattle.lease_world.proofs.Tenures.{CleanBelow, tenure_of, time_left, tenure-part, time-by, three_parts}
use Rattle.lease_world.proofs.Kept.{Agrees, Grants, NumberBelow, SentBefore, DeliveredLater, SentBelow, CleanSentBelow, AsksAs, SameAsked, OneAsked, Cleaned, SentCleaned, Exports, InTenure, cleans, dirties}

-- ---- lists that a call makes longer

dirty-every : (P : Dirty → Type 0) (d : Option Dirty) (ys : List Dirty) → ((y : Dirty) → d ≡ Some y → P y) → AllByRecursion P ys → AllByRecursion P (with_dirty d ys)
dirty-every P (Some y) ys f e = (f y refl, e)
dirty-every P None ys f e = e

sent-every : (P : SentCall → Type 0) (c : ℕ) (q : ℤ) (p : Option Plan) (ms : List SentCall) → ((y : Plan) → p ≡ Some y → P (record { client = c; asked = q; plan = y })) → AllByRecursion P ms → AllByRecursion P (with_sent c q p ms)
sent-every P c q (Some y) ms f e = every-append P ms (record { client = c; asked = q; plan = y } ∷ []) e (f y refl, tt)
sent-every P c q None ms f e = e

refs-every : (P : Ref → Type 0) (z : ℤ) (x : ClientCall) (rs : List Ref) → ((o : ObjId) → P (record { id = o; since = z })) → AllByRecursion P rs → AllByRecursion P (refs_after z x rs)
refs-every P z (Registers o) rs f e = go (has_ref o rs)
  where
    go : (b : Bool) → AllByRecursion P (if b then rs else rs ++ record { id = o; since = z } ∷ [])
    go true = e
    go false = every-append P rs (record { id = o; since = z } ∷ []) e (f o, tt)
refs-every P z (Drops o now) rs f e = every-filter P (λ r. not (same_id r.id o)) rs e
refs-every P z _ rs f e = e

next-plan : (n : Note) (ns : List Note) (p : Plan) → n.plan ≡ Some p → next (pos 0) ns <ℤ next (pos 0) (n ∷ ns)
unfolding next
next-plan n ns p e = rw e (omega (arith, ints))

-- ---- numbers

-- No delivered call of the client has a number that was not given out.
none-above : (c : ℕ) (o : ObjId) (z n : ℤ) (calls : List Call) → AllByRecursion (NumberBelow c z) calls → z ≤ℤ n → list_any (meets (client c) o n) calls ≡ true → ⊥
none-above c o z n calls low le h = any-never (NumberBelow c z) (meets (client c) o n)
    (λ x f a. let three = three_parts (is_dirty_of (client c) x) (int_eq x.number n) (is_naming o x) a in
    let lt : x.number <ℤ z = f (and_parts (is_dirty x) (is_of (client c) x) three.0).1 in
    let eq : x.number ≡ n = same-number x.number n three.1 in
    omega (arith, ints)) calls low h

over-max : (u a b : ℕ) → nat_lt u a ≡ false → u < max a b → u < b
over-max u a b h l = grind (arith, nat_tests)

-- ---- one note more

-- What a note plans has the next number, and cleans no reference that is left.
abbrev PlanIs : ℤ → List Ref → Option Plan → Type 0
PlanIs z rs p = (q : Plan) → p ≡ Some q → (number_of q ≡ z) × AllByRecursion (λ (r : Ref). cleans r.id q ≡ true → ⊥) rs

-- What it sends has the next number, and is sent now.
abbrev DirtyIs : ℤ → ℕ → Option Dirty → Type 0
DirtyIs z t d = (y : Dirty) → d ≡ Some y → (y.number ≡ z) × (y.moment ≡ t)

-- What a good answer shows.
abbrev GoodIs : ℕ → ℕ → ℕ → List Call → Option Good → Type 0
GoodIs lease t c calls good =
    (g : Good) → good ≡ Some g →
    AllByRecursion (Grants lease c g.dirty.number g.granted) calls × (t < end_of g) × (list_any (λ x. is_dirty_of (client c) x && int_eq x.number g.dirty.number) calls ≡ true)

client-step : (lease t seen : ℕ) (ns : List Note) (calls : List Call) (table : List Exported) (ms : List SentCall) (c : ℕ) (asked : ℤ) (n : Note) →
    PlanIs (next (pos 0) ns) (refs_after (next (pos 0) ns) n.call (refs (pos 0) ns)) n.plan →
    DirtyIs (next (pos 0) ns) t n.dirty →
    ((P : Dirty → Type 0) → AllByRecursion P (dirties ns) → (g : Good) → n.good ≡ Some g → P g.dirty) →
    GoodIs lease t c calls n.good →
    ((g : Good) → n.good ≡ Some g → n.timely ≡ true → t < until ns) →
    Agrees lease t seen ns calls table ms c →
    Agrees lease t seen (n ∷ ns) calls table (with_sent c asked n.plan ms) c
unfolding dirties refs until
client-step lease t seen ns calls table ms c asked n plan dirty among good timely a = record {
  past = dirty-every (λ (y : Dirty). y.moment ≤ t) n.dirty (dirties ns) (λ y e. let m = (dirty y e).1 in omega arith) a.past;
  low = every-weaker (NumberBelow c z) (NumberBelow c (next (pos 0) (n ∷ ns))) (λ x f i. let l = f i in let g = next-grows (pos 0) n ns in omega (arith, ints)) calls a.low;
  later = every-two (NumberBelow c z) (DeliveredLater c (dirties ns)) (DeliveredLater c (with_dirty n.dirty (dirties ns)))
      (λ x f g d. dirty-every (SentBefore x) n.dirty (dirties ns)
      (λ y e s. let l = f (and_parts (is_dirty x) (is_of (client c) x) d).1 in let q = (dirty y e).0 in let same = same-number y.number x.number s in absurd (omega (arith, ints)))
      (g d)) calls a.low a.later;
  cleaned = refs-every (Cleaned c calls) z n.call (refs (pos 0) ns)
      (λ o. every-weaker (NumberBelow c z) (CleanBelow (client c) o z) (λ x f i m d. f i) calls a.low) a.cleaned;
  sent_low = sent-every (SentBelow c (next (pos 0) (n ∷ ns))) c asked n.plan ms
      (λ y e i. let l = next-plan n ns y e in let q = (plan y e).0 in omega (arith, ints))
      (every-weaker (SentBelow c z) (SentBelow c (next (pos 0) (n ∷ ns))) (λ m f i. let l = f i in let g = next-grows (pos 0) n ns in omega (arith, ints)) ms a.sent_low);
  sent_cleaned = all_cleaned n.plan refl;
  time = λ u l. times n.good refl n.timely u l;
  same_asked = every-two (NumberBelow c z) (SameAsked c ms) (SameAsked c (with_sent c asked n.plan ms))
      (λ x f g d. sent-every (AsksAs c x.number x.asked) c asked n.plan ms
      (λ y e i s. let l = f (and_parts (is_dirty x) (is_of (client c) x) d).1 in let q = (plan y e).0 in let same = same-number (number_of y) x.number s in absurd (omega (arith, ints)))
      (g d)) calls a.low a.same_asked;
  one_asked = one n.plan refl;
  in_tenure = dirty-every (InTenure lease t c calls) n.dirty (dirties ns)
      (λ y e o g k m l. absurd (let q = (dirty y e).0 in none-above c o z y.number calls a.low (omega (arith, ints)) m)) a.in_tenure;
  sure = λ r w s m l. elim (or_cases (confirms_by w r n) (n.timely && once_then (confirms_by w r) (λ x. x.timely) ns) s) [
    | inl b ↦ now_sure r w n.good refl b m
    | inr b ↦ let two = and_parts n.timely (once_then (confirms_by w r) (λ x. x.timely) ns) b in a.sure r w two.1 m (still n.good refl two.0 l)
  ];
  exported = refs-every (Exports lease seen c calls table) z n.call (refs (pos 0) ns)
      (λ o w le m l. absurd (none-above c o z w calls a.low le (tenure-part lease (meets (client c) o w) calls (client c) m))) a.exported;
}
  where
    z : ℤ
    z = next (pos 0) ns

    old_cleaned : AllByRecursion (SentCleaned c ms) (refs_after z n.call (refs (pos 0) ns))
    old_cleaned = refs-every (SentCleaned c ms) z n.call (refs (pos 0) ns) (λ o. every-weaker (SentBelow c z) (CleanSentBelow c o z) (λ m f i q. f i) ms a.sent_low) a.sent_cleaned

    all_cleaned : (p : Option Plan) → n.plan ≡ p → AllByRecursion (SentCleaned c (with_sent c asked p ms)) (refs_after z n.call (refs (pos 0) ns))
    all_cleaned None e = old_cleaned
    all_cleaned (Some y) e = every-two (SentCleaned c ms) (λ (r : Ref). cleans r.id y ≡ true → ⊥) (SentCleaned c (with_sent c asked (Some y) ms))
        (λ r old new. every-append (CleanSentBelow c r.id r.since) ms (record { client = c; asked = asked; plan = y } ∷ []) old ((λ i q. absurd (new q)), tt))
        (refs_after z n.call (refs (pos 0) ns)) old_cleaned (plan y e).1

    one : (p : Option Plan) → n.plan ≡ p → AllByRecursion (OneAsked c (with_sent c asked p ms)) (with_sent c asked p ms)
    one None e = a.one_asked
    one (Some y) e =
        let q = (plan y e).0 in
        let made : SentCall = record { client = c; asked = asked; plan = y } in
        every-append (OneAsked c (with_sent c asked (Some y) ms)) ms (made ∷ [])
        (every-two (SentBelow c z) (OneAsked c ms) (OneAsked c (with_sent c asked (Some y) ms))
        (λ m f old. every-append (λ k. m.client ≡ c → AsksAs c (call_number m) m.asked k) ms (made ∷ []) old
        ((λ i j s. let l = f i in let same = same-number (number_of y) (call_number m) s in absurd (omega (arith, ints))), tt)) ms a.sent_low a.one_asked) (
          every-append (λ k. c ≡ c → AsksAs c (number_of y) asked k) ms (made ∷ [])
              (every-weaker (SentBelow c z) (λ k. c ≡ c → AsksAs c (number_of y) asked k)
              (λ m f i j s. let l = f j in let same = same-number (call_number m) (number_of y) s in absurd (omega (arith, ints))) ms a.sent_low)
              ((λ i j s. refl), tt),
          tt,
        )

    granted : (g : Good) → n.good ≡ Some g → (u : ℕ) → u < end_of g → time_left lease u calls (client c) ≡ true
    granted g e u l = let facts = good g e in
        time-by lease u (end_of g) (λ x. is_dirty_of (client c) x && int_eq x.number g.dirty.number) calls (client c) l
        (every-two (Grants lease c g.dirty.number g.granted) (DeliveredLater c (dirties ns))
        (λ (x : Call). (is_dirty_of (client c) x && int_eq x.number g.dirty.number) ≡ true → (is_dirty_of (client c) x ≡ true) × (end_of g ≤ grant_end lease x))
        (λ x k f h. let two = and_parts (is_dirty_of (client c) x) (int_eq x.number g.dirty.number) h in
        let same = k two.0 two.1 in
        let before : g.dirty.moment ≤ x.moment = among (SentBefore x) (f two.0) g e ((Decides-int_eq g.dirty.number x.number).1 (sym (same-number x.number g.dirty.number two.1))) in
        (two.0, omega arith))
        calls facts.0 a.later)
        facts.2

    times : (g : Option Good) → n.good ≡ g → (b : Bool) (u : ℕ) → u < until_after b g (until ns) → time_left lease u calls (client c) ≡ true
    times None e b u l = a.time u l
    times (Some g) e false u l = granted g e u l
    times (Some g) e true u l = go (nat_lt u (until ns)) refl
      where
        go : (b : Bool) → nat_lt u (until ns) ≡ b → time_left lease u calls (client c) ≡ true
        go true h = a.time u (ltb-true u (until ns) h)
        go false h = granted g e u (over-max u (until ns) (end_of g) h l)

    still : (g : Option Good) → n.good ≡ g → n.timely ≡ true → t < until_after n.timely g (until ns) → t < until ns
    still None e i l = l
    still (Some g) e i l = timely g e i

    now_sure : (r : Ref) (w : ℤ) (g : Option Good) → n.good ≡ g → confirms_by w r n ≡ true → list_any (meets (client c) r.id w) calls ≡ true → list_any (meets (client c) r.id w) (tenure_of lease calls (client c)) ≡ true
    now_sure r w None e b m = let told = rw e at b in absurd (cc)
    now_sure r w (Some g) e b m =
        let told = rw e at b in
        let q : w ≡ g.dirty.number = same-number w g.dirty.number (and_parts (names r.id g.dirty && int_le r.since g.dirty.number) (int_eq w g.dirty.number) told).1 in
        let facts = good g e in let before = facts.1 in
        let P : ℤ → Type 0 = λ k. list_any (meets (client c) r.id k) calls ≡ true → list_any (meets (client c) r.id k) (tenure_of lease calls (client c)) ≡ true in
        subst P (sym q) (λ m. among (InTenure lease t c calls) a.in_tenure g e r.id g.granted facts.0 m (omega arith)) m

-- ---- what a client's table may be told in the world

-- It is told the world's moment, and of an answer what its call was granted, after a delivery.
abbrev pub Allowed : ℕ → ℕ → List Call → ℕ → ClientCall → Type 0
Allowed lease t calls c (Drops o now) = now ≡ t
Allowed lease t calls c (Dues now) = now ≡ t
Allowed lease t calls c (Answers number granted now) =
    AllByRecursion (Grants lease c number granted) calls × (now ≡ t) × (list_any (λ x. is_dirty_of (client c) x && int_eq x.number number) calls ≡ true)
Allowed lease t calls c _ = Unit {0}

under-every : (P : Dirty → Type 0) (ns : List Note) → AllByRecursion P (dirties ns) → AllByRecursion P (under_way ns)
unfolding dirties under_way
under-every P [] e = tt
under-every P (n ∷ ns) e = go n.dirty (under-every P ns) e
  where
    close : (x : ClientCall) (ys : List Dirty) → AllByRecursion P ys → AllByRecursion P (closed_by x ys)
    close (Answers number granted now) ys e = every-filter P (λ y. not (has_number number y)) ys e
    close (Fails number) ys e = every-filter P (λ y. not (has_number number y)) ys e
    close _ ys e = e

    go : (d : Option Dirty) → (AllByRecursion P (dirties ns) → AllByRecursion P (under_way ns)) → AllByRecursion P (with_dirty d (dirties ns)) → AllByRecursion P (with_dirty d (closed_by n.call (under_way ns)))
    go (Some y) ih e = (e.0, close n.call (under_way ns) (ih e.1))
    go None ih e = close n.call (under_way ns) (ih e)

-- A good answer is of a dirty call that was sent, in time.
good-is : (P : Dirty → Type 0) (ns : List Note) (number : ℤ) (granted now : ℕ) (g : Good) → AllByRecursion P (dirties ns) → good_of ns (Answers number granted now) ≡ Some g →
    P g.dirty × (g.dirty.number ≡ number) × (g.granted ≡ granted) × (now < end_of g)
good-is P ns number granted now g e h = go (dirty_of number ns) refl h
  where
    go : (d : Option Dirty) → dirty_of number ns ≡ d → good_if d granted now ≡ Some g → P g.dirty × (g.dirty.number ≡ number) × (g.granted ≡ granted) × (now < end_of g)
    go None q h = absurd (cc)
    go (Some y) q h = in_time (nat_lt now (y.moment + granted)) refl h
      where
        facts : P y × (has_number number y ≡ true)
        facts = found P (has_number number) (under_way ns) y (under-every P ns e) q

        in_time : (b : Bool) → nat_lt now (y.moment + granted) ≡ b → (if b then Some (record { dirty = y; granted = granted }) else None) ≡ Some g → P g.dirty × (g.dirty.number ≡ number) × (g.granted ≡ granted) × (now < end_of g)
        in_time true l h =
            let made : Good = record { dirty = y; granted = granted } in
            let same : made ≡ g = cc in
            subst (λ (w : Good). P w.dirty × (w.dirty.number ≡ number) × (w.granted ≡ granted) × (now < end_of w)) same
            (facts.0, sym (same-number number y.number facts.1), refl, ltb-true now (y.moment + granted) l)
        in_time false l h = absurd (cc)

note-among : (lease t : ℕ) (calls : List Call) (c : ℕ) (ns : List Note) (x : ClientCall) → Allowed lease t calls c x → (P : Dirty → Type 0) → AllByRecursion P (dirties ns) → (g : Good) → good_of ns x ≡ Some g → P g.dirty
note-among lease t calls c ns (Answers number granted now) a P e g h = (good-is P ns number granted now g e h).0
note-among lease t calls c ns (Registers o) a P e g h = absurd (cc)
note-among lease t calls c ns (Drops o now) a P e g h = absurd (cc)
note-among lease t calls c ns (Dues now) a P e g h = absurd (cc)
note-among lease t calls c ns (Fails number) a P e g h = absurd (cc)

note-good : (lease t : ℕ) (calls : List Call) (c : ℕ) (ns : List Note) (x : ClientCall) → Allowed lease t calls c x → GoodIs lease t c calls (good_of ns x)
note-good lease t calls c ns (Answers number granted now) a g h =
    let facts = good-is (λ y. Unit {0}) ns number granted now g (every-always (λ y. Unit {0}) (λ y. tt) (dirties ns)) h in
    let l = facts.3 in let q = a.1 in
    (subst (λ (k : ℕ). AllByRecursion (Grants lease c g.dirty.number k) calls) (sym facts.2) (subst (λ (z : ℤ). AllByRecursion (Grants lease c z granted) calls) (sym facts.1) a.0), omega arith, subst (λ (z : ℤ). list_any (λ x. is_dirty_of (client c) x && int_eq x.number z) calls ≡ true) (sym facts.1) a.2)
note-good lease t calls c ns (Registers o) a g h = absurd (cc)
note-good lease t calls c ns (Drops o now) a g h = absurd (cc)
note-good lease t calls c ns (Dues now) a g h = absurd (cc)
note-good lease t calls c ns (Fails number) a g h = absurd (cc)

note-timely : (lease t : ℕ) (calls : List Call) (c : ℕ) (ns : List Note) (x : ClientCall) → Allowed lease t calls c x → (g : Good) → good_of ns x ≡ Some g → is_timely ns x ≡ true → t < until ns
note-timely lease t calls c ns (Answers number granted now) a g h i =
    let j = rw h at i in let q = a.1 in let l = ltb-true now (until ns) j in omega arith
note-timely lease t calls c ns (Registers o) a g h i = absurd (cc)
note-timely lease t calls c ns (Drops o now) a g h i = absurd (cc)
note-timely lease t calls c ns (Dues now) a g h i = absurd (cc)
note-timely lease t calls c ns (Fails number) a g h i = absurd (cc)

-- What is planned cleans no reference that is left.
cleans-none : (ns : List Note) (x : ClientCall) (q : Plan) → plan_of (pos 0) ns x ≡ Some q → AllByRecursion (λ (r : Ref). cleans r.id q ≡ true → ⊥) (refs_after (next (pos 0) ns) x (refs (pos 0) ns))
cleans-none ns (Drops o now) q h = go (has_ref o (refs (pos 0) ns)) h
  where
    made : Plan
    made = plans.Clean (next (pos 0) ns) (o ∷ []) (is_strong ns o)

    gone : (r : Ref) → not (same_id r.id o) ≡ true → (same_id o r.id || false) ≡ true → ⊥
    gone r n s = elim (or_cases (same_id o r.id) false s) [
      | inl e ↦ let P : ObjId → Type 0 = λ w. same_id w o ≡ true in let yes : same_id r.id o ≡ true = subst P (same_id-equal o r.id e) (same_id-self o) in let no = rw yes at n in cc
      | inr e ↦ cc
    ]

    go : (b : Bool) → (if b then Some made else None) ≡ Some q → AllByRecursion (λ (r : Ref). cleans r.id q ≡ true → ⊥) (filter (λ r. not (same_id r.id o)) (refs (pos 0) ns))
    go false h = absurd (cc)
    go true h = let same : made ≡ q = cc in
        let P : Plan → Type 0 = λ w. AllByRecursion (λ (r : Ref). cleans r.id w ≡ true → ⊥) (filter (λ r. not (same_id r.id o)) (refs (pos 0) ns)) in
        subst P same (filter-every (λ r. not (same_id r.id o)) (λ (r : Ref). (same_id o r.id || false) ≡ true → ⊥) (refs (pos 0) ns)
        (every-always (λ (r : Ref). not (same_id r.id o) ≡ true → (same_id o r.id || false) ≡ true → ⊥) gone (refs (pos 0) ns)))
cleans-none ns (Dues now) q h = go (objects_due (pos 0) ns now) h
  where
    go : (d : Option (List ObjId)) → option_map (plans.Dirty (next (pos 0) ns)) d ≡ Some q → AllByRecursion (λ (r : Ref). cleans r.id q ≡ true → ⊥) (refs (pos 0) ns)
    go None h = absurd (cc)
    go (Some os) h = let same : plans.Dirty (next (pos 0) ns) os ≡ q = cc in
        let P : Plan → Type 0 = λ w. AllByRecursion (λ (r : Ref). cleans r.id w ≡ true → ⊥) (refs (pos 0) ns) in
        subst P same (every-always (λ (r : Ref). false ≡ true → ⊥) (λ r d. cc) (refs (pos 0) ns))
cleans-none ns (Registers o) q h = absurd (cc)
cleans-none ns (Answers number granted now) q h = absurd (cc)
cleans-none ns (Fails number) q h = absurd (cc)

note-plan : (ns : List Note) (x : ClientCall) → PlanIs (next (pos 0) ns) (refs_after (next (pos 0) ns) x (refs (pos 0) ns)) (plan_of (pos 0) ns x)
note-plan ns x q h = (plan-number (pos 0) ns x q h, cleans-none ns x q h)

note-dirty : (lease t : ℕ) (calls : List Call) (c : ℕ) (ns : List Note) (x : ClientCall) → Allowed lease t calls c x → DirtyIs (next (pos 0) ns) t (dirty_sent (pos 0) ns x)
note-dirty lease t calls c ns (Dues now) a y h = go (objects_due (pos 0) ns now) h
  where
    go : (d : Option (List ObjId)) → option_map (new_dirty (next (pos 0) ns) now) d ≡ Some y → (y.number ≡ next (pos 0) ns) × (y.moment ≡ t)
    go None h = absurd (cc)
    go (Some os) h = let same : new_dirty (next (pos 0) ns) now os ≡ y = cc in
        subst (λ (w : Dirty). (w.number ≡ next (pos 0) ns) × (w.moment ≡ t)) same (refl, a)
note-dirty lease t calls c ns (Drops o now) a y h = absurd (cc)
note-dirty lease t calls c ns (Registers o) a y h = absurd (cc)
note-dirty lease t calls c ns (Answers number granted now) a y h = absurd (cc)
note-dirty lease t calls c ns (Fails number) a y h = absurd (cc)

-- WHAT A CLIENT DOES in the world keeps what the world keeps.
pub client-does : (lease t seen : ℕ) (ns : List Note) (calls : List Call) (table : List Exported) (ms : List SentCall) (c : ℕ) (asked : ℤ) (x : ClientCall) → Allowed lease t calls c x →
    Agrees lease t seen ns calls table ms c → Agrees lease t seen (note_of (pos 0) ns x ∷ ns) calls table (with_sent c asked (plan_of (pos 0) ns x) ms) c
unfolding note_of
client-does lease t seen ns calls table ms c asked x ok a =
    client-step lease t seen ns calls table ms c asked (note_of (pos 0) ns x) (note-plan ns x) (note-dirty lease t calls c ns x ok) (note-among lease t calls c ns x ok) (note-good lease t calls c ns x ok) (note-timely lease t calls c ns x ok) a
