-- Time that passes, a turn that is no lease call, a call of another client and a delivery keep what the world keeps.
use Rattle.std.proofs.Common.{◌≡◌, ℕ, ◌+◌, ◌<◌, ◌≤◌, List, [], ◌∷◌, ◌++◌, sym, arith, subst, inl, inr}
use Rattle.std.specs.Prelude.{ℤ, pos, true, ◌≤ℤ◌, Option, Some, None}
use Rattle.std.specs.List.{list_any, AllByRecursion}
use Rattle.std.specs.Ordering.{int_eq}
use Rattle.std.proofs.lemmas.Int.{ints}
use Rattle.std.proofs.lemmas.Bool.{or_cases}
use Rattle.std.proofs.lemmas.Bool.Decides.{Decides-int_eq}
use Rattle.object_ids.specs.declared.ids.ObjId.{ObjId}
use Rattle.history.specs.Leases.{is_naming, grant_end, calls_of}
use Rattle.history.specs.Places.{has}
use Rattle.history.specs.declared.calls.Call.{Call}
use Rattle.history.specs.declared.places.Exported.{Exported}
use Rattle.history.proofs.ListLemmas.{every-append, every-weaker, every-always, every-two}
use Rattle.dgc_client.specs.Log.{Dirty, Note, Ref, number_of, next, refs}
use Rattle.dgc_client.specs.declared.plan.Plan.{Plan}
use Rattle.dgc_client.proofs.Logs.{same-number}
use Rattle.lease_world.specs.World.{client, call_number, with_sent}
use Rattle.lease_world.specs.declared.sent_call.SentCall.{SentCall}
use Rattle.lease_world.proofs.Lists.{swap-every}
use Rattle.lease_world.proofs.TableCalls.{is_dirty_of, meets}
use Rattle.lease_world.proofs.Tenures.{CleanBelow, tenure_of, time_left, time-more, time-less, time-by, tenure-keeps, tenure-new, tenure-back, holds-when, three_parts}
use Rattle.lease_world.proofs.Kept.{Agrees, Stays, Grants, NumberBelow, SentBefore, SentBelow, CleanSentBelow, AsksAs, SameAsked, OneAsked, Cleaned, SentCleaned, Exports, InTenure, dirties}

pub clock-step : (lease t m seen : ℕ) (ns : List Note) (calls : List Call) (table : List Exported) (ms : List SentCall) (c : ℕ) → t ≤ m →
    Agrees lease t seen ns calls table ms c → Agrees lease m seen ns calls table ms c
clock-step lease t m seen ns calls table ms c le a = record {
  past = every-weaker (λ (y : Dirty). y.moment ≤ t) (λ (y : Dirty). y.moment ≤ m) (λ y h. omega arith) (dirties ns) a.past;
  low = a.low;
  later = a.later;
  cleaned = a.cleaned;
  sent_low = a.sent_low;
  sent_cleaned = a.sent_cleaned;
  time = a.time;
  same_asked = a.same_asked;
  one_asked = a.one_asked;
  in_tenure = every-weaker (InTenure lease t c calls) (InTenure lease m c calls) (λ y f o g k h l. f o g k h (omega arith)) (dirties ns) a.in_tenure;
  sure = λ r n s h l. a.sure r n s h (omega arith);
  exported = a.exported;
}

-- A call of another client.
pub other-client : (lease t seen : ℕ) (ns : List Note) (calls : List Call) (table : List Exported) (ms : List SentCall) (c d : ℕ) (asked : ℤ) (p : Option Plan) → (d ≡ c → ⊥) →
    Agrees lease t seen ns calls table ms c → Agrees lease t seen ns calls table (with_sent d asked p ms) c
other-client lease t seen ns calls table ms c d asked None apart a = a
other-client lease t seen ns calls table ms c d asked (Some y) apart a = record {
  past = a.past;
  low = a.low;
  later = a.later;
  cleaned = a.cleaned;
  sent_low = every-append (SentBelow c (next (pos 0) ns)) ms (made ∷ []) a.sent_low ((λ i. absurd (apart i)), tt);
  sent_cleaned = every-weaker (SentCleaned c ms) (SentCleaned c (ms ++ made ∷ []))
      (λ r e. every-append (CleanSentBelow c r.id r.since) ms (made ∷ []) e ((λ i q. absurd (apart i)), tt)) (refs (pos 0) ns) a.sent_cleaned;
  time = a.time;
  same_asked = every-weaker (SameAsked c ms) (SameAsked c (ms ++ made ∷ [])) (λ x f i. every-append (AsksAs c x.number x.asked) ms (made ∷ []) (f i) ((λ j s. absurd (apart j)), tt)) calls a.same_asked;
  one_asked = every-append (OneAsked c (ms ++ made ∷ [])) ms (made ∷ [])
      (every-weaker (OneAsked c ms) (OneAsked c (ms ++ made ∷ []))
      (λ m old. every-append (λ k. m.client ≡ c → AsksAs c (call_number m) m.asked k) ms (made ∷ []) old ((λ i j s. absurd (apart j)), tt)) ms a.one_asked)
      (every-always (λ k. d ≡ c → AsksAs c (number_of y) asked k) (λ k i. absurd (apart i)) (ms ++ made ∷ []), tt);
  in_tenure = a.in_tenure;
  sure = a.sure;
  exported = a.exported;
}
  where
    made : SentCall
    made = record { client = d; asked = asked; plan = y }

-- A reference that was exported, while a client's time goes on, is exported still.
still-exported : (lease seen : ℕ) (calls : List Call) (table table2 : List Exported) (c : ℕ) (r : Ref) (n : ℤ) → Stays lease seen calls table table2 → Cleaned c calls r → r.since ≤ℤ n →
    list_any (meets (client c) r.id n) (tenure_of lease calls (client c)) ≡ true → time_left lease seen calls (client c) ≡ true → has table r.id ≡ true → has table2 r.id ≡ true
still-exported lease seen calls table table2 c r n stays clean s i l there =
    stays r.id (client c) there
    (holds-when lease seen calls (client c) r.id n i
    (every-weaker (CleanBelow (client c) r.id r.since) (CleanBelow (client c) r.id n) (λ x g i m d. let b = g i m d in omega (arith, ints)) calls clean) l)

-- A turn that is no lease call.
pub quiet-turn : (lease t seen seen2 : ℕ) (ns : List Note) (calls : List Call) (table table2 : List Exported) (ms : List SentCall) (c : ℕ) → seen ≤ seen2 → Stays lease seen2 calls table table2 →
    Agrees lease t seen ns calls table ms c → Agrees lease t seen2 ns calls table2 ms c
quiet-turn lease t seen seen2 ns calls table table2 ms c le stays a = record {
  past = a.past;
  low = a.low;
  later = a.later;
  cleaned = a.cleaned;
  sent_low = a.sent_low;
  sent_cleaned = a.sent_cleaned;
  time = a.time;
  same_asked = a.same_asked;
  one_asked = a.one_asked;
  in_tenure = a.in_tenure;
  sure = a.sure;
  exported = every-two (Cleaned c calls) (Exports lease seen c calls table) (Exports lease seen2 c calls table2)
      (λ r clean f n s i l. still-exported lease seen2 calls table table2 c r n stays clean s i l (f n s i (time-less lease seen2 seen (calls_of (client c) calls) le l)))
      (refs (pos 0) ns) a.cleaned a.exported;
}

-- What a delivery is, for one client: it has a number that was given out, above no reference's `since` where it is a clean, and asks as it was sent.
pub record Arrives (c : ℕ) (ns : List Note) (ms : List SentCall) (table : List Exported) (x : Call) : Type 0 where
  pub low : NumberBelow c (next (pos 0) ns) x
  pub clean : AllByRecursion (λ (r : Ref). CleanBelow (client c) r.id r.since x) (refs (pos 0) ns)
  pub ask : SameAsked c ms x
  pub named : (o : ObjId) → is_naming o x ≡ true → has table o ≡ true

-- A delivery at the world's moment.
pub lease-turn : (lease t seen seen2 : ℕ) (ns : List Note) (calls : List Call) (table table2 : List Exported) (ms : List SentCall) (c : ℕ) (x : Call) →
    x.moment ≡ t → seen ≤ t → seen2 ≡ t → Arrives c ns ms table x → Stays lease seen2 (x ∷ calls) table table2 →
    Agrees lease t seen ns calls table ms c → Agrees lease t seen2 ns (x ∷ calls) table2 ms c
lease-turn lease t seen seen2 ns calls table table2 ms c x at le now arrives stays a = record {
  past = a.past;
  low = (arrives.low, a.low);
  later = ((λ d. every-weaker (λ (y : Dirty). y.moment ≤ t) (SentBefore x) (λ y h s. omega arith) (dirties ns) a.past), a.later);
  cleaned = all_clean;
  sent_low = a.sent_low;
  sent_cleaned = a.sent_cleaned;
  time = λ u l. time-more lease u x calls (client c) (a.time u l);
  same_asked = (arrives.ask, a.same_asked);
  one_asked = a.one_asked;
  in_tenure = every-two (λ (y : Dirty). AllByRecursion (λ (z : Call). is_dirty_of (client c) z ≡ true → SentBefore z y) calls) (InTenure lease t c calls) (InTenure lease t c (x ∷ calls))
      (λ y p f o g k h l. elim (or_cases (meets (client c) o y.number x) (list_any (meets (client c) o y.number) calls) h) [
        | inl b ↦ new o y.number b
        | inr b ↦ tenure-keeps lease (meets (client c) o y.number) x calls (client c)
            (λ d. subst (λ (u : ℕ). time_left lease u calls (client c) ≡ true) (sym at) (goes_on y p o g k.1 l b)) (f o g k.1 b l)
      ])
      (dirties ns) (swap-every (λ (z : Call). is_dirty_of (client c) z ≡ true) SentBefore calls (dirties ns) a.later) a.in_tenure;
  sure = λ r n s h l. elim (or_cases (meets (client c) r.id n x) (list_any (meets (client c) r.id n) calls) h) [
    | inl b ↦ new r.id n b
    | inr b ↦ tenure-keeps lease (meets (client c) r.id n) x calls (client c) (λ d. subst (λ (u : ℕ). time_left lease u calls (client c) ≡ true) (sym at) (a.time t l)) (a.sure r n s b l)
  ];
  exported = every-two (Cleaned c (x ∷ calls)) (Exports lease seen c calls table) (Exports lease seen2 c (x ∷ calls) table2)
      (λ r clean f n s i l. still-exported lease seen2 (x ∷ calls) table table2 c r n stays clean s i l
      (elim (tenure-back lease seen2 seen (meets (client c) r.id n) x calls (client c) (omega arith) (omega arith) i l) [
        | inl b ↦ f n s b.0 b.1
        | inr b ↦ arrives.named r.id (three_parts (is_dirty_of (client c) x) (int_eq x.number n) (is_naming r.id x) b).2
      ]))
      (refs (pos 0) ns) all_clean a.exported;
}
  where
    all_clean : AllByRecursion (Cleaned c (x ∷ calls)) (refs (pos 0) ns)
    all_clean = every-two (λ (r : Ref). CleanBelow (client c) r.id r.since x) (Cleaned c calls) (Cleaned c (x ∷ calls)) (λ r p q. (p, q)) (refs (pos 0) ns) arrives.clean a.cleaned

    new : (o : ObjId) (n : ℤ) → meets (client c) o n x ≡ true → list_any (meets (client c) o n) (tenure_of lease (x ∷ calls) (client c)) ≡ true
    new o n b = tenure-new lease (meets (client c) o n) x calls (client c) (three_parts (is_dirty_of (client c) x) (int_eq x.number n) (is_naming o x) b).0 b

    goes_on : (y : Dirty) → AllByRecursion (λ (z : Call). is_dirty_of (client c) z ≡ true → SentBefore z y) calls → (o : ObjId) (g : ℕ) → AllByRecursion (Grants lease c y.number g) calls → t < y.moment + g →
        list_any (meets (client c) o y.number) calls ≡ true → time_left lease t calls (client c) ≡ true
    goes_on y p o g k l b = time-by lease t (y.moment + g) (meets (client c) o y.number) calls (client c) l
        (every-two (Grants lease c y.number g) (λ (z : Call). is_dirty_of (client c) z ≡ true → SentBefore z y) (λ (z : Call). meets (client c) o y.number z ≡ true → (is_dirty_of (client c) z ≡ true) × (y.moment + g ≤ grant_end lease z))
        (λ z h f m. let three = three_parts (is_dirty_of (client c) z) (int_eq z.number y.number) (is_naming o z) m in
        let same = h three.0 three.1 in
        let before : y.moment ≤ z.moment = f three.0 ((Decides-int_eq y.number z.number).1 (sym (same-number z.number y.number three.1))) in
        (three.0, omega arith)) calls k p)
        b
