-- Where reading ends at a fault, and what was taken then.
use Rattle.std.proofs.Common.{◌≡◌, ℕ, ◌+◌, ◌-◌, ◌≤◌, ◌<◌, List, [], ◌∷◌, ◌++◌, length, Result, Ok, Err, IfOk, refl, sym, ap, subst, ◌∙◌, append_assoc, append-nil, length-append, arith, true, Option}
use Rattle.std.specs.Prelude.{IfErr, IsErrAnd}
use Rattle.wire_io.specs.Wire.{ReadHalf, Rose}
use Rattle.wire_io.specs.Pulled.{PullState, Takes, GivesByte, GivesBytes, pull_state}
use Rattle.wire_io.specs.declared.pull.Pull.{Pull}
use Rattle.wire_io.specs.declared.pull.PullEnd.{PullEnd}
use Rattle.wire_io.specs.declared.pull.PullEnd.TheVariants as ends
use Rattle.wire_io.proofs.Pulling.{takes_nothing, takes_more, takes_stop}
use Rattle.stream_grammar.specs.Reading.{◌>>=◌, Fault, short, bad, too_many, too_deep, byte_at, take_at}
use Rattle.ser_read.specs.declared.fault.StreamKind.{StreamKind}
use Rattle.ser_read.specs.declared.fault.StreamFault.{StreamFault}
use Rattle.ser_read.specs.declared.fault.StreamFault.TheVariants as faults
use Rattle.ser_read.specs.declared.fault.Large.TheVariants as larges
use Rattle.ser_read.specs.Here.{Env, IsBad, IsInBytes, kind_of, fault_of, FailsBy, Fails, GivesBy, Caused, env_at, coming_at, env, coming, IsTold, Reads, Decides, FallsShort, TakesNeeded, BreaksBy, Breaks}
use Rattle.ser_read.specs.Wants.{WantFault, inside, ◌▸◌, lift_fault, fault_at, WantIsBad, WantFails, WantGivesTold, WantBreaks}
use Rattle.ser_read.proofs.Wants.{inside_is}
use Rattle.ser_read.proofs.Steps.{Goes, Leads, goes, no_next, least_two, bytes_more, leads_read, end_is, reads_gives}
use Rattle.ser_read.proofs.Pulling.{takes_told, takes_env, byte_ends, byte_passes}
use Rattle.ser_read.proofs.Bytes.{takes_short}

-- ---- first bytes were taken, and then reading ended at a fault

rose_more : (a b c : ℕ) → a ≤ b → Rose b c → Rose a c
rose_more a b c le h = (omega (arith, h.0), omega (arith, h.1))

needed_two : {Y F : Type 0} {m : F} {p q r : PullState} {read next : ℕ → List ℕ → Result Y F} → Leads m p q read next → TakesNeeded m q r next → TakesNeeded m p r read
needed_two {Y} {F} {m} {p} {q} {r} a b = record { taken = a.taken ++ b.taken; takes = takes_more p q r a.taken b.taken a.takes b.takes; least = least_two a b.taken b.least }

decides_two : {Y F : Type 0} {m : F} {p q r : PullState} {read next : ℕ → List ℕ → Result Y F} (P : Result Y F → Type 0) → Leads m p q read next → Decides m q r next P → Decides m p r read P
decides_two {Y} {F} {m} {p} {q} {r} {read} {next} P a b = record {
  taken = a.taken ++ b.taken;
  bytes = bytes_more a.taken b.taken a.bytes b.bytes;
  takes = takes_more p q r a.taken b.taken a.takes b.takes;
  is = λ rest.
      let here : r.at + length rest ≡ q.at + length (b.taken ++ rest) = omega (arith, b.takes.at, length-append b.taken rest) in
      let one : read (r.at + length rest) ((a.taken ++ b.taken) ++ rest) ≡ next (r.at + length rest) (b.taken ++ rest) =
      rw (append_assoc a.taken b.taken rest) (rw here (a.is (b.taken ++ rest))) in
      subst P (sym one) (b.is rest);
  least = least_two a b.taken b.least;
}

pub short_two : {Y F : Type 0} {p q r : PullState} (at : ℕ) {read next : ℕ → List ℕ → Result Y F} (fault : F) → Goes p q read next → FallsShort q r at next fault → FallsShort p r at read fault
short_two {Y} {F} {p} {q} {r} at {read} {next} fault a b = record {
  taken = a.taken ++ b.taken;
  takes = takes_more p q r a.taken b.taken a.takes b.takes;
  here = b.here;
  is =
      let here : q.at + length b.taken ≡ r.at = omega (arith, b.takes.at) in
      let one : read r.at (a.taken ++ b.taken) ≡ next r.at b.taken = subst (λ n. read n (a.taken ++ b.taken) ≡ next n b.taken) here (a.is b.taken) in
      one ∙ b.is;
}

two_by : {Y F : Type 0} (said : Fault → F) (of_kind : Result Y F → StreamKind → ℕ → Type 0) {p q : PullState} (r : PullState) (e : StreamFault) {read next : ℕ → List ℕ → Result Y F} → Leads (said short) p q read next → BreaksBy said of_kind q r e next → BreaksBy said of_kind p r e read
two_by said of_kind r (faults.Bad kind at) a b = decides_two (λ r. of_kind r kind at) a b
two_by said of_kind r (faults.TooLarge larges.Nodes at) a b = decides_two (λ r. r ≡ Err (said (too_many at))) a b
two_by said of_kind r (faults.TooLarge larges.Depth at) a b = decides_two (λ r. r ≡ Err (said (too_deep at))) a b
two_by said of_kind r (faults.TooLarge larges.Bytes at) a b = (b.0, short_two at (said short) (goes a) b.1, b.2)
two_by said of_kind r (faults.Truncated at) a b = (short_two at (said short) (goes a) b.0, b.1)
two_by said of_kind r faults.ReadFault a b = (short_two r.at (said short) (goes a) b.0, rose_more _ _ _ a.takes.faults b.1)
two_by said of_kind r faults.OutOfMemory a b = needed_two a b

pub breaks_two : {Y : Type 0} {p q r : PullState} {e : StreamFault} {read next : ℕ → List ℕ → Result Y Fault} → Leads short p q read next → Breaks q r e next → Breaks p r e read
breaks_two {Y} {p} {q} {r} {e} a b = record { is = two_by (λ f. f) IsBad r e a b.is }

pub want_breaks_two : {Y : Type 0} {p q r : PullState} {e : StreamFault} {read next : ℕ → List ℕ → Result Y WantFault} → Leads (inside short) p q read next → WantBreaks q r e next → WantBreaks p r e read
want_breaks_two {Y} {p} {q} {r} {e} a b = record { is = two_by inside WantIsBad r e a b.is }

-- ---- what fails as another does

decides_as : {A B F G : Type 0} {m : F} {n : G} {p q : PullState} {r : ℕ → List ℕ → Result A F} (s : ℕ → List ℕ → Result B G) (P : Result A F → Type 0) (Q : Result B G → Type 0)
    → ((end : ℕ) (bs : List ℕ) → end ≡ p.at + length bs → P (r end bs) → Q (s end bs)) → ((end : ℕ) (bs : List ℕ) → end ≡ p.at + length bs → r end bs ≡ Err m → s end bs ≡ Err n) → Decides m p q r P → Decides n p q s Q
decides_as {A} {B} {F} {G} {m} {n} {p} {q} s P Q so more h = record {
  taken = h.taken;
  bytes = h.bytes;
  takes = h.takes;
  is = λ rest. so (q.at + length rest) (h.taken ++ rest) (omega (arith, h.takes.at, length-append h.taken rest)) (h.is rest);
  least = λ front one others e. more (p.at + length front) front refl (h.least front one others e);
}

pub short_as : {A B F G : Type 0} {p q : PullState} (at : ℕ) {r : ℕ → List ℕ → Result A F} (s : ℕ → List ℕ → Result B G) (f : F) (g : G)
    → ((end : ℕ) (bs : List ℕ) → end ≡ p.at + length bs → r end bs ≡ Err f → s end bs ≡ Err g) → FallsShort p q at r f → FallsShort p q at s g
short_as {A} {B} {F} {G} {p} {q} at s f g so h = record { taken = h.taken; takes = h.takes; here = h.here; is = so q.at h.taken h.takes.at h.is }

needed_as : {A B F G : Type 0} {p q : PullState} {r : ℕ → List ℕ → Result A F} (s : ℕ → List ℕ → Result B G) (f : F) (g : G)
    → ((end : ℕ) (bs : List ℕ) → end ≡ p.at + length bs → r end bs ≡ Err f → s end bs ≡ Err g) → TakesNeeded f p q r → TakesNeeded g p q s
needed_as {A} {B} {F} {G} {p} {q} s f g so h = record { taken = h.taken; takes = h.takes; least = λ front one others e. so (p.at + length front) front refl (h.least front one others e) }

-- `one` and `other` say the faults, `P` and `Q` those of a kind.
breaks_by : {A B F G : Type 0} (one : Fault → F) (other : Fault → G) (P : Result A F → StreamKind → ℕ → Type 0) (Q : Result B G → StreamKind → ℕ → Type 0) (p q : PullState) (e : StreamFault)
    (r : ℕ → List ℕ → Result A F) (s : ℕ → List ℕ → Result B G)
    → ((end : ℕ) (bs : List ℕ) (f : Fault) → end ≡ p.at + length bs → r end bs ≡ Err (one f) → s end bs ≡ Err (other f))
    → ((end : ℕ) (bs : List ℕ) (kind : StreamKind) (at : ℕ) → end ≡ p.at + length bs → P (r end bs) kind at → Q (s end bs) kind at)
    → BreaksBy one P p q e r → BreaksBy other Q p q e s
breaks_by one other P Q p q (faults.Bad kind at) r s errs kinds h = decides_as s (λ r. P r kind at) (λ r. Q r kind at) (λ end bs here is. kinds end bs kind at here is) (λ end bs here is. errs end bs short here is) h
breaks_by one other P Q p q (faults.TooLarge larges.Nodes at) r s errs kinds h = decides_as s (λ r. r ≡ Err (one (too_many at))) (λ r. r ≡ Err (other (too_many at))) (λ end bs here is. errs end bs (too_many at) here is) (λ end bs here is. errs end bs short here is) h
breaks_by one other P Q p q (faults.TooLarge larges.Depth at) r s errs kinds h = decides_as s (λ r. r ≡ Err (one (too_deep at))) (λ r. r ≡ Err (other (too_deep at))) (λ end bs here is. errs end bs (too_deep at) here is) (λ end bs here is. errs end bs short here is) h
breaks_by one other P Q p q (faults.TooLarge larges.Bytes at) r s errs kinds h = (h.0, short_as at s (one short) (other short) (λ end bs here is. errs end bs short here is) h.1, h.2)
breaks_by one other P Q p q (faults.Truncated at) r s errs kinds h = (short_as at s (one short) (other short) (λ end bs here is. errs end bs short here is) h.0, h.1)
breaks_by one other P Q p q faults.ReadFault r s errs kinds h = (short_as q.at s (one short) (other short) (λ end bs here is. errs end bs short here is) h.0, h.1)
breaks_by one other P Q p q faults.OutOfMemory r s errs kinds h = needed_as s (one short) (other short) (λ end bs here is. errs end bs short here is) h

-- The same fails, where a stream is read whole.
pub breaks_as : {A B : Type 0} {p q : PullState} {e : StreamFault} {r : ℕ → List ℕ → Result A Fault} {s : ℕ → List ℕ → Result B Fault}
    → ((end : ℕ) (bs : List ℕ) (f : Fault) → end ≡ p.at + length bs → r end bs ≡ Err f → s end bs ≡ Err f) → Breaks p q e r → Breaks p q e s
breaks_as {A} {B} {p} {q} {e} {r} {s} errs h = record { is = breaks_by (λ f. f) (λ f. f) IsBad IsBad p q e r s errs (λ end bs kind at here is. (errs end bs (bad (kind_of kind) at) here is.0, is.1)) h.is }

-- the same of wants
pub want_breaks_as : {A B : Type 0} {p q : PullState} {e : StreamFault} {r : ℕ → List ℕ → Result A WantFault} {s : ℕ → List ℕ → Result B WantFault}
    → ((end : ℕ) (bs : List ℕ) (f : WantFault) → end ≡ p.at + length bs → r end bs ≡ Err f → s end bs ≡ Err f) → WantBreaks p q e r → WantBreaks p q e s
want_breaks_as {A} {B} {p} {q} {e} {r} {s} errs h = record { is = breaks_by inside inside WantIsBad WantIsBad p q e r s (λ end bs f here is. errs end bs (inside f) here is) (λ end bs kind at here is. errs end bs (fault_at kind at) here is) h.is }

-- A want fails as what is read inside it.
pub lifted_breaks : {A B : Type 0} {p q : PullState} {e : StreamFault} {r : ℕ → List ℕ → Result A Fault} {s : ℕ → List ℕ → Result B WantFault}
    → ((end : ℕ) (bs : List ℕ) (f : Fault) → end ≡ p.at + length bs → r end bs ≡ Err f → s end bs ≡ Err (inside f)) → Breaks p q e r → WantBreaks p q e s
lifted_breaks {A} {B} {p} {q} {e} {r} {s} errs h = record { is = breaks_by (λ f. f) inside IsBad WantIsBad p q e r s errs (λ end bs kind at here is. errs end bs (bad (kind_of kind) at) here is.0 ∙ ap (λ (f : WantFault). Err f) (inside_is kind at is.1)) h.is }

-- ---- a fault that stands where reading has come

-- What is read next is wrong.
pub bad_here : {Y : Type 0} {p : PullState} {read : ℕ → List ℕ → Result Y Fault} (kind : StreamKind) (at : ℕ) → IsInBytes kind
    → ((end : ℕ) (bs : List ℕ) → end ≡ p.at + length bs → read end bs ≡ Err (bad (kind_of kind) at)) → Breaks p p (faults.Bad kind at) read
bad_here {Y} {p} kind at known h = record { is = record { taken = []; bytes = tt; takes = takes_nothing p; is = λ rest. (h (p.at + length rest) rest refl, known); least = λ front one others e. absurd (no_next front one others e) } }

pub many_here : {Y : Type 0} {p : PullState} {read : ℕ → List ℕ → Result Y Fault} (at : ℕ)
    → ((end : ℕ) (bs : List ℕ) → end ≡ p.at + length bs → read end bs ≡ Err (too_many at)) → Breaks p p (faults.TooLarge larges.Nodes at) read
many_here {Y} {p} at h = record { is = record { taken = []; bytes = tt; takes = takes_nothing p; is = λ rest. h (p.at + length rest) rest refl; least = λ front one others e. absurd (no_next front one others e) } }

pub deep_here : {Y : Type 0} {p : PullState} {read : ℕ → List ℕ → Result Y Fault} (at : ℕ)
    → ((end : ℕ) (bs : List ℕ) → end ≡ p.at + length bs → read end bs ≡ Err (too_deep at)) → Breaks p p (faults.TooLarge larges.Depth at) read
deep_here {Y} {p} at h = record { is = record { taken = []; bytes = tt; takes = takes_nothing p; is = λ rest. h (p.at + length rest) rest refl; least = λ front one others e. absurd (no_next front one others e) } }

-- a want's
pub want_here : {Y : Type 0} {p : PullState} {read : ℕ → List ℕ → Result Y WantFault} (kind : StreamKind) (at : ℕ)
    → ((end : ℕ) (bs : List ℕ) → end ≡ p.at + length bs → read end bs ≡ Err (fault_at kind at)) → WantBreaks p p (faults.Bad kind at) read
want_here {Y} {p} kind at h = record { is = record { taken = []; bytes = tt; takes = takes_nothing p; is = λ rest. h (p.at + length rest) rest refl; least = λ front one others e. absurd (no_next front one others e) } }

-- There is no memory.
pub no_memory : {Y : Type 0} {p : PullState} {read : ℕ → List ℕ → Result Y Fault} → Breaks p p faults.OutOfMemory read
no_memory {Y} {p} = record { is = record { taken = []; takes = takes_nothing p; least = λ front one others e. absurd (no_next front one others e) } }

-- the same behind what was read
pub took : {A : Type 0} {p q : PullState} {one : ℕ → List ℕ → Result A Fault} {mid : List ℕ → A} → Reads short p q one mid → Breaks p q faults.OutOfMemory one
took h = record { is = record { taken = h.taken; takes = h.takes; least = h.least } }

-- ---- a byte came, or none

byte_wanted : (b : ℕ) (front : List ℕ) (next : ℕ) (others : List ℕ) → b ∷ [] ≡ front ++ next ∷ others → byte_at front ≡ Err short
byte_wanted b [] next others e = refl
byte_wanted b (c ∷ front) next others e = absurd (no_next front next others (cc))

pub byte_comes : (old new : PullState) (b : ℕ) → GivesByte old new (Ok b) → Reads short old new (λ end. byte_at) (λ rest. (b, rest))
byte_comes old new b h = record { taken = b ∷ []; bytes = (h.0, tt); takes = h.2; is = λ rest. refl; least = byte_wanted b }

pub byte_breaks : (old new : PullState) (e : PullEnd) → GivesByte old new (Err e) → Breaks old new (fault_of e) (λ end. byte_at)
byte_breaks old new (ends.End at) h = record { is = (record { taken = []; takes = h.1; here = omega (arith, h.0, h.1.at); is = refl }, h.2) }
byte_breaks old new (ends.Limit at) h = record { is = (old, record { taken = []; takes = takes_nothing old; here = h.0; is = refl }, h.1) }
byte_breaks old new ends.ReadFault h = record { is = (record { taken = []; takes = h.0; here = refl; is = refl }, h.1) }
byte_breaks old new ends.OutOfMemory h = absurd h

pub bytes_break : (old new : PullState) (n : ℕ) (e : PullEnd) → GivesBytes old new n (Err e) → Breaks old new (fault_of e) (λ end. take_at n)
bytes_break old new n (ends.End at) h =
    let few : length h.0 < n = h.3 (λ same. cc) in
    record { is = (record { taken = h.0; takes = takes_stop old h.1 new h.0 h.4 h.5.1; here = omega (arith, h.5.0, h.5.1.at); is = takes_short n h.0 few }, h.5.2) }
bytes_break old new n (ends.Limit at) h =
    let few : length h.0 < n = h.3 (λ same. cc) in
    record { is = (h.1, record { taken = h.0; takes = h.4; here = h.5.0; is = takes_short n h.0 few }, h.5.1) }
bytes_break old new n ends.ReadFault h =
    let few : length h.0 < n = h.3 (λ same. cc) in
    record { is = (record { taken = h.0; takes = takes_stop old h.1 new h.0 h.4 h.5.0; here = refl; is = takes_short n h.0 few }, rose_more _ _ _ h.4.faults h.5.1) }
bytes_break old new n ends.OutOfMemory h =
    record { is = record { taken = h.0; takes = takes_stop old h.1 new h.0 h.4 h.5; least = λ front one others e. takes_short n front (omega (arith, h.2, ap (λ (l : List ℕ). length l) e, length-append front (one ∷ others))) } }

-- ---- the answer of a `?` hands on the fault

pub raised : {X Y : Type 0} {p q : PullState} {e : StreamFault} {read : ℕ → List ℕ → Result Y Fault} (result : Result X StreamFault) → IsErrAnd result (λ f. f ≡ e) → Breaks p q e read → IfErr result (λ e. Breaks p q e read)
raised (Ok x) is h = absurd is
raised {X} {Y} {p} {q} {e} {read} (Err f) is h = subst (λ g. Breaks p q g read) (sym is) h

pub want_raised : {X Y : Type 0} {p q : PullState} {e : StreamFault} {read : ℕ → List ℕ → Result Y WantFault} (result : Result X StreamFault) → IsErrAnd result (λ f. f ≡ e) → WantBreaks p q e read → IfErr result (λ e. WantBreaks p q e read)
want_raised (Ok x) is h = absurd is
want_raised {X} {Y} {p} {q} {e} {read} (Err f) is h = subst (λ g. WantBreaks p q g read) (sym is) h

-- ---- one thing after the other

-- The first fails.
pub first : {A Y : Type 0} {p q : PullState} {e : StreamFault} {one : ℕ → List ℕ → Result A Fault} (k : ℕ → A → Result Y Fault) → Breaks p q e one → Breaks p q e (λ end bs. one end bs >>= k end)
first k h = breaks_as (λ end bs f here is. rw is refl) h

-- The first is read, and what comes then fails.
pub later : {A Y : Type 0} {p q r : PullState} {e : StreamFault} {one : ℕ → List ℕ → Result A Fault} {mid : List ℕ → A} (k : ℕ → A → Result Y Fault)
    → Reads short p q one mid → Breaks q r e (λ end bs. k end (mid bs)) → Breaks p r e (λ end bs. one end bs >>= k end)
later {A} {Y} {p} {q} {r} {e} {one} {mid} k a b = breaks_two (leads_read (λ end bs. k end (mid bs)) a (λ end bs rest here is. rw is refl) (λ end bs here is. rw is refl)) b

-- the same where the last call's answer is handed on
pub later_last : {X A Y : Type 0} {p q : PullState} (r : PullState) {one : ℕ → List ℕ → Result A Fault} {mid : List ℕ → A} (k : ℕ → A → Result Y Fault) (result : Result X StreamFault)
    → Reads short p q one mid → IfErr result (λ e. Breaks q r e (λ end bs. k end (mid bs))) → IfErr result (λ e. Breaks p r e (λ end bs. one end bs >>= k end))
later_last r k (Ok x) a b = tt
later_last r k (Err e) a b = later k a b

-- the same reading, said otherwise
pub breaks_said : {Y : Type 0} {p q : PullState} {e : StreamFault} {a b : ℕ → List ℕ → Result Y Fault} → ((end : ℕ) (bs : List ℕ) → end ≡ p.at + length bs → b end bs ≡ a end bs) → Breaks p q e a → Breaks p q e b
breaks_said same h = breaks_as (λ end bs f here is. same end bs here ∙ is) h

pub breaks_said_last : {X Y : Type 0} (p q : PullState) {a b : ℕ → List ℕ → Result Y Fault} (result : Result X StreamFault)
    → ((end : ℕ) (bs : List ℕ) → end ≡ p.at + length bs → b end bs ≡ a end bs) → IfErr result (λ e. Breaks p q e a) → IfErr result (λ e. Breaks p q e b)
breaks_said_last p q (Ok x) same h = tt
breaks_said_last p q (Err e) same h = breaks_said same h

-- ---- wants, one after the other

pub want_first : {A Y : Type 0} {p q : PullState} {e : StreamFault} {one : ℕ → List ℕ → Result A WantFault} (k : ℕ → A → Result Y WantFault) → WantBreaks p q e one → WantBreaks p q e (λ end bs. one end bs ▸ k end)
want_first k h = want_breaks_as (λ end bs f here is. rw is refl) h

pub inside_first : {A Y : Type 0} {p q : PullState} {e : StreamFault} {one : ℕ → List ℕ → Result A Fault} (k : ℕ → A → Result Y WantFault) → Breaks p q e one → WantBreaks p q e (λ end bs. lift_fault (one end bs) ▸ k end)
inside_first k h = lifted_breaks (λ end bs f here is. rw is refl) h

pub want_later : {A Y : Type 0} {p q r : PullState} {e : StreamFault} {one : ℕ → List ℕ → Result A WantFault} {mid : List ℕ → A} (k : ℕ → A → Result Y WantFault)
    → Reads (inside short) p q one mid → WantBreaks q r e (λ end bs. k end (mid bs)) → WantBreaks p r e (λ end bs. one end bs ▸ k end)
want_later {A} {Y} {p} {q} {r} {e} {one} {mid} k a b = want_breaks_two (leads_read (λ end bs. k end (mid bs)) a (λ end bs rest here is. rw is refl) (λ end bs here is. rw is refl)) b

pub inside_later : {A Y : Type 0} {p q r : PullState} {e : StreamFault} {one : ℕ → List ℕ → Result A Fault} {mid : List ℕ → A} (k : ℕ → A → Result Y WantFault)
    → Reads short p q one mid → WantBreaks q r e (λ end bs. k end (mid bs)) → WantBreaks p r e (λ end bs. lift_fault (one end bs) ▸ k end)
inside_later {A} {Y} {p} {q} {r} {e} {one} {mid} k a b = want_breaks_two (leads_read (λ end bs. k end (mid bs)) a (λ end bs rest here is. rw is refl) (λ end bs here is. rw is refl)) b

pub want_said : {Y : Type 0} {p q : PullState} {e : StreamFault} {a b : ℕ → List ℕ → Result Y WantFault} → ((end : ℕ) (bs : List ℕ) → end ≡ p.at + length bs → b end bs ≡ a end bs) → WantBreaks p q e a → WantBreaks p q e b
want_said same h = want_breaks_as (λ end bs f here is. same end bs here ∙ is) h

pub want_took : {A : Type 0} {p q : PullState} {one : ℕ → List ℕ → Result A WantFault} {mid : List ℕ → A} → Reads (inside short) p q one mid → WantBreaks p q faults.OutOfMemory one
want_took h = record { is = record { taken = h.taken; takes = h.takes; least = h.least } }

-- ---- where the bytes are told

pub no_byte : (bs : List ℕ) → byte_at bs ≡ Err short → bs ≡ []
no_byte [] h = refl
no_byte (b ∷ bs) h = absurd cc

-- where nothing comes behind the bytes taken
pub record AllTold (p m : PullState) (taken : List ℕ) (e : StreamFault) : Type 0 where
  pub all : coming_at p.left p.at p.stop ≡ taken
  pub end : (env_at p.left p.at p.stop).end ≡ m.at
  pub after : (env_at p.left p.at p.stop).after ≡ e

pub all_told : (p m : PullState) (taken : List ℕ) (e : StreamFault) → Takes p m taken → m.at ≤ m.stop → (env_at p.left p.at p.stop).told ≡ true
    → ((env_at m.left m.at m.stop).told ≡ true → (byte_at (coming_at m.left m.at m.stop) ≡ Err short) × ((env_at m.left m.at m.stop).after ≡ e)) → AllTold p m taken e
all_told p m taken e takes le told last =
    let same = takes_env p m taken takes le in
    let known : (env_at m.left m.at m.stop).told ≡ true = rw same told in
    let l = last known in
    let none = no_byte (coming_at m.left m.at m.stop) l.0 in
    let all : coming_at p.left p.at p.stop ≡ taken = takes_told p m taken takes le told ∙ ap (λ (bs : List ℕ). taken ++ bs) none ∙ append-nil taken in
    record {
      all = all;
      end = omega (arith, end_is p.left p.at p.stop told, ap (λ (bs : List ℕ). length bs) all, takes.at);
      after = ap (λ (v : Env). v.after) (sym same) ∙ l.1;
    }

short_told : {Y F : Type 0} (p m : PullState) (at : ℕ) (read : ℕ → List ℕ → Result Y F) (f : F) (e : StreamFault) → FallsShort p m at read f → m.at ≤ m.stop → (env_at p.left p.at p.stop).told ≡ true
    → ((env_at m.left m.at m.stop).told ≡ true → (byte_at (coming_at m.left m.at m.stop) ≡ Err short) × ((env_at m.left m.at m.stop).after ≡ e))
    → (read (env_at p.left p.at p.stop).end (coming_at p.left p.at p.stop) ≡ Err f) × ((env_at p.left p.at p.stop).after ≡ e)
short_told p m at read f e h le told last =
    let a = all_told p m h.taken e h.takes le told last in
    (ap (λ n. read n (coming_at p.left p.at p.stop)) a.end ∙ ap (λ bs. read m.at bs) a.all ∙ h.is, a.after)

decides_told : {Y F : Type 0} {m : F} (p q : PullState) (read : ℕ → List ℕ → Result Y F) (P : Result Y F → Type 0) → Decides m p q read P → q.at ≤ q.stop → (env_at p.left p.at p.stop).told ≡ true → P (read (env_at p.left p.at p.stop).end (coming_at p.left p.at p.stop))
decides_told p q read P h le told =
    let all = takes_told p q h.taken h.takes le told in
    let end : (env_at p.left p.at p.stop).end ≡ q.at + length (coming_at q.left q.at q.stop) = omega (arith, end_is p.left p.at p.stop told, ap (λ (bs : List ℕ). length bs) all, length-append h.taken (coming_at q.left q.at q.stop), h.takes.at) in
    subst P (sym (ap (λ n. read n (coming_at p.left p.at p.stop)) end ∙ ap (λ bs. read (q.at + length (coming_at q.left q.at q.stop)) bs) all)) (h.is (coming_at q.left q.at q.stop))

told_by : {Y F : Type 0} (said : Fault → F) (of_kind : Result Y F → StreamKind → ℕ → Type 0) (p q : PullState) (e : StreamFault) (read : ℕ → List ℕ → Result Y F) → BreaksBy said of_kind p q e read → q.at ≤ q.stop → (env_at p.left p.at p.stop).told ≡ true
    → FailsBy said of_kind (env_at p.left p.at p.stop).after e (read (env_at p.left p.at p.stop).end (coming_at p.left p.at p.stop))
told_by said of_kind p q (faults.Bad kind at) read h le told = decides_told p q read (λ r. of_kind r kind at) h le told
told_by said of_kind p q (faults.TooLarge larges.Nodes at) read h le told = decides_told p q read (λ r. r ≡ Err (said (too_many at))) h le told
told_by said of_kind p q (faults.TooLarge larges.Depth at) read h le told = decides_told p q read (λ r. r ≡ Err (said (too_deep at))) h le told
told_by said of_kind p q (faults.TooLarge larges.Bytes at) read h le told =
    short_told p h.0 at read (said short) (faults.TooLarge larges.Bytes at) h.1 (omega (arith, h.2.at, h.2.stop)) told
    (λ known. rw h.1.here (byte_passes h.0 q h.2 known))
told_by said of_kind p q (faults.Truncated at) read h le told =
    short_told p q at read (said short) (faults.Truncated at) h.0 le told
    (λ known. rw h.0.here (byte_ends q q (takes_nothing q) h.1 known))
told_by said of_kind p q faults.ReadFault read h le told = tt
told_by said of_kind p q faults.OutOfMemory read h le told = tt

pub breaks_told : {Y : Type 0} {p q : PullState} {e : StreamFault} {read : ℕ → List ℕ → Result Y Fault} → Breaks p q e read → q.at ≤ q.stop → (env_at p.left p.at p.stop).told ≡ true
    → Fails (env_at p.left p.at p.stop).after e (read (env_at p.left p.at p.stop).end (coming_at p.left p.at p.stop))
breaks_told {Y} {p} {q} {e} {read} h le told = told_by (λ f. f) IsBad p q e read h.is le told

pub want_breaks_told : {Y : Type 0} {p q : PullState} {e : StreamFault} {read : ℕ → List ℕ → Result Y WantFault} → WantBreaks p q e read → q.at ≤ q.stop → (env_at p.left p.at p.stop).told ≡ true
    → WantFails (env_at p.left p.at p.stop).after e (read (env_at p.left p.at p.stop).end (coming_at p.left p.at p.stop))
want_breaks_told {Y} {p} {q} {e} {read} h le told = told_by inside WantIsBad p q e read h.is le told

-- the same of two Pulls
pub breaks_fails : {S Y : Type 0} (half : S → ReadHalf) (p q : Pull S) (e : StreamFault) {read : ℕ → List ℕ → Result Y Fault}
    → Breaks (pull_state half p) (pull_state half q) e read → q.at ≤ q.stop → IsTold half p → Fails (env half p).after e (read (env half p).end (coming half p))
unfolding env coming
breaks_fails half p q e h le told = breaks_told h le told

pub want_breaks_fails : {S Y : Type 0} (half : S → ReadHalf) (p q : Pull S) (e : StreamFault) {read : ℕ → List ℕ → Result Y WantFault}
    → WantBreaks (pull_state half p) (pull_state half q) e read → q.at ≤ q.stop → IsTold half p → WantFails (env half p).after e (read (env half p).end (coming half p))
unfolding env coming
want_breaks_fails half p q e h le told = want_breaks_told h le told

-- ---- the count of faults

caused_by : {Y F : Type 0} (X : Type 0) (said : Fault → F) (of_kind : Result Y F → StreamKind → ℕ → Type 0) (p q : PullState) (e : StreamFault) (read : ℕ → List ℕ → Result Y F) → BreaksBy said of_kind p q e read → Caused {A = X} p.faults q.faults (Err e)
caused_by X said of_kind p q (faults.Bad kind at) read h = h.takes.faults
caused_by X said of_kind p q (faults.TooLarge larges.Nodes at) read h = h.takes.faults
caused_by X said of_kind p q (faults.TooLarge larges.Depth at) read h = h.takes.faults
caused_by X said of_kind p q (faults.TooLarge larges.Bytes at) read h = omega (arith, h.1.takes.faults, h.2.faults)
caused_by X said of_kind p q (faults.Truncated at) read h = h.0.takes.faults
caused_by X said of_kind p q faults.ReadFault read h = h.1
caused_by X said of_kind p q faults.OutOfMemory read h = h.takes.faults

pub breaks_caused : {Y : Type 0} (X : Type 0) {p q : PullState} {e : StreamFault} {read : ℕ → List ℕ → Result Y Fault} → Breaks p q e read → Caused {A = X} p.faults q.faults (Err e)
breaks_caused {Y} X {p} {q} {e} {read} h = caused_by X (λ f. f) IsBad p q e read h.is

pub want_breaks_caused : {Y : Type 0} (X : Type 0) {p q : PullState} {e : StreamFault} {read : ℕ → List ℕ → Result Y WantFault} → WantBreaks p q e read → Caused {A = X} p.faults q.faults (Err e)
want_breaks_caused {Y} X {p} {q} {e} {read} h = caused_by X inside WantIsBad p q e read h.is

-- ---- what a call answers, from what it took

pub want_caused_of : {X Y : Type 0} (p q : PullState) (read : ℕ → List ℕ → Result Y WantFault) (result : Result X StreamFault) (out : X → List ℕ → Y) → IfOk result (λ x. Reads (inside short) p q read (out x)) → IfErr result (λ e. WantBreaks p q e read) → Caused p.faults q.faults result
want_caused_of p q read (Ok x) out a b = a.takes.faults
want_caused_of {X} p q read (Err e) out a b = want_breaks_caused X b

pub want_gives_of : {S X Y : Type 0} (half : S → ReadHalf) (p q : Pull S) (result : Result X StreamFault) (read : ℕ → List ℕ → Result Y WantFault) (out : X → List ℕ → Y) → q.at ≤ q.stop
    → IfOk result (λ x. Reads (inside short) (pull_state half p) (pull_state half q) read (out x)) → IfErr result (λ e. WantBreaks (pull_state half p) (pull_state half q) e read) → WantGivesTold half p q result read out
want_gives_of half p q (Ok x) read out le a b = λ told. reads_gives half p q a le told
want_gives_of half p q (Err e) read out le a b = λ told. want_breaks_fails half p q e b le told

pub reads_env : {S Y F : Type 0} {m : F} (half : S → ReadHalf) (p q : Pull S) {read : ℕ → List ℕ → Result Y F} {out : List ℕ → Y} → Reads m (pull_state half p) (pull_state half q) read out → q.at ≤ q.stop → env half q ≡ env half p
unfolding env
reads_env half p q h le = takes_env (pull_state half p) (pull_state half q) h.taken h.takes le

-- ---- how near the limit is

some_taken : (taken : List ℕ) (c : ℕ) (rest : List ℕ) → byte_at taken ≡ Ok (c, rest) → 0 < length taken
some_taken [] c rest h = absurd cc
some_taken (b ∷ bs) c rest h = omega arith

-- A byte was taken, and maybe more.
pub nearer : {A F : Type 0} {m : F} {p q r : PullState} {c : ℕ} {step : ℕ → List ℕ → Result A F} {out : List ℕ → A} → Reads short p q (λ end. byte_at) (λ rest. (c, rest)) → Reads m q r step out → r.at ≤ r.stop → r.stop - r.at < p.stop - p.at
nearer {A} {F} {p} {q} {r} {c} a b le =
    let some : 0 < length (a.taken ++ []) = some_taken (a.taken ++ []) c [] (a.is []) in
    omega (arith, some, length-append a.taken [], a.takes.at, a.takes.stop, b.takes.at, b.takes.stop)

-- ---- loops stop where one step of them does

pub loop_stops : {A Y : Type 0} {p q r : PullState} {e : StreamFault} {read next : ℕ → List ℕ → Result Y Fault} {step : ℕ → List ℕ → Result A Fault} → Leads short p q read next
    → ((end : ℕ) (bs : List ℕ) (f : Fault) → end ≡ q.at + length bs → step end bs ≡ Err f → next end bs ≡ Err f) → Breaks q r e step → Breaks p r e read
loop_stops l errs h = breaks_two l (breaks_as errs h)

pub want_loop_stops : {A Y : Type 0} {p q r : PullState} {e : StreamFault} {read next : ℕ → List ℕ → Result Y WantFault} {step : ℕ → List ℕ → Result A WantFault} → Leads (inside short) p q read next
    → ((end : ℕ) (bs : List ℕ) (f : WantFault) → end ≡ q.at + length bs → step end bs ≡ Err f → next end bs ≡ Err f) → WantBreaks q r e step → WantBreaks p r e read
want_loop_stops l errs h = want_breaks_two l (want_breaks_as errs h)

pub inside_loop_stops : {A Y : Type 0} {p q r : PullState} {e : StreamFault} {read next : ℕ → List ℕ → Result Y WantFault} {step : ℕ → List ℕ → Result A Fault} → Leads (inside short) p q read next
    → ((end : ℕ) (bs : List ℕ) (f : Fault) → end ≡ q.at + length bs → step end bs ≡ Err f → next end bs ≡ Err (inside f)) → Breaks q r e step → WantBreaks p r e read
inside_loop_stops l errs h = want_breaks_two l (lifted_breaks errs h)

-- a call's last step inside a want
pub want_last_stops : {X A Y : Type 0} {p q : PullState} (r : PullState) {one : ℕ → List ℕ → Result A Fault} {mid : List ℕ → A} (k : ℕ → A → Result Y WantFault) (inner : ℕ → List ℕ → Result Y Fault) (result : Result X StreamFault)
    → Reads short p q one mid → ((end : ℕ) (bs : List ℕ) → k end (mid bs) ≡ lift_fault (inner end bs)) → IfErr result (λ e. Breaks q r e inner) → IfErr result (λ e. WantBreaks p r e (λ end bs. lift_fault (one end bs) ▸ k end))
want_last_stops r k inner (Ok x) a same b = tt
want_last_stops r k inner (Err e) a same b = inside_later k a (lifted_breaks (λ end bs f here is. same end bs ∙ rw is refl) b)

-- ---- the answer of a `?`, where the bytes are told

pub fails_raised : {X Y : Type 0} (after e : StreamFault) (read : Result Y Fault) (result : Result X StreamFault) (view : X → Y) → IsErrAnd result (λ f. f ≡ e) → Fails after e read → GivesBy (Fails after) view result read
fails_raised after e read (Ok x) view is h = absurd is
fails_raised after e read (Err f) view is h = subst (λ g. Fails after g read) (sym is) h

pub caused_raised : {X Y : Type 0} {p q : PullState} {e : StreamFault} {read : ℕ → List ℕ → Result Y Fault} (result : Result X StreamFault) → IsErrAnd result (λ f. f ≡ e) → Breaks p q e read → Caused p.faults q.faults result
caused_raised (Ok x) is h = absurd is
caused_raised {X} {Y} {p} {q} (Err f) is h = subst (λ g. Caused {A = X} p.faults q.faults (Err g)) (sym is) (breaks_caused X h)
