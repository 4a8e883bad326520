-- Reading one thing after the other.
use Rattle.wire_io.specs.Wire.{ReadHalf}
use Rattle.std.specs.Prelude.{◌⊎◌}
use Rattle.std.proofs.Common.{◌≡◌, ℕ, ◌+◌, List, [], ◌∷◌, ◌++◌, length, Result, Ok, Err, IfOk, refl, sym, ap, ◌∙◌, ◌≤◌, true, Option, append_assoc, length-append, arith, inl, inr}
use Rattle.wire_io.specs.Pulled.{PullState, Takes, pull_state}
use Rattle.wire_io.specs.declared.pull.Pull.{Pull}
use Rattle.wire_io.proofs.Pulling.{takes_nothing, takes_more}
use Rattle.stream_grammar.specs.Reading.{◌>>=◌, Fault, short, Plain, Progress, plain}
use Rattle.ser_read.specs.declared.fault.StreamKind.{StreamKind}
use Rattle.ser_read.specs.declared.fault.StreamFault.{StreamFault}
use Rattle.ser_read.specs.declared.fault.StreamFault.TheVariants as faults
use Rattle.ser_read.specs.declared.fault.Large.TheVariants as larges
use Rattle.ser_read.specs.Here.{FailsBy, IsOutside, NeedsAll, Reads, env_at, coming_at, env, coming, IsTold}
use Rattle.stream_grammar.specs.Faults.{AreBytes}
use Rattle.ser_read.proofs.Pulling.{takes_told}

pub bytes_more : (xs ys : List ℕ) → AreBytes xs → AreBytes ys → AreBytes (xs ++ ys)
bytes_more [] ys a b = b
bytes_more (x ∷ xs) ys a b = (a.0, bytes_more xs ys a.1 b)

-- ---- bytes were taken, and what reads the rest after what was read, reads all

pub record Goes {Y : Type 0} (p q : PullState) (read next : ℕ → List ℕ → Y) : Type 0 where
  pub taken : List ℕ
  pub bytes : AreBytes taken
  pub takes : Takes p q taken
  pub is : (rest : List ℕ) → read (q.at + length rest) (taken ++ rest) ≡ next (q.at + length rest) rest

pub goes_two : {Y : Type 0} {p q r : PullState} {read next more : ℕ → List ℕ → Y} → Goes p q read next → Goes q r next more → Goes p r read more
goes_two {Y} {p} {q} {r} {read} {next} {more} a b = record {
  taken = a.taken ++ b.taken;
  bytes = bytes_more a.taken b.taken a.bytes b.bytes;
  takes = takes_more p q r a.taken b.taken a.takes b.takes;
  is = λ rest.
      let ends : r.at + length rest ≡ q.at + length (b.taken ++ rest) = omega (arith, b.takes.at, length-append b.taken rest) in
      let one : read (r.at + length rest) ((a.taken ++ b.taken) ++ rest) ≡ next (r.at + length rest) (b.taken ++ rest) =
      rw (append_assoc a.taken b.taken rest) (rw ends (a.is (b.taken ++ rest))) in
      one ∙ b.is rest;
}

-- The same, and none of the bytes could be left out.
pub record Leads {Y F : Type 0} (more : F) (p q : PullState) (read next : ℕ → List ℕ → Result Y F) : Type 0 where
  pub taken : List ℕ
  pub bytes : AreBytes taken
  pub takes : Takes p q taken
  pub is : (rest : List ℕ) → read (q.at + length rest) (taken ++ rest) ≡ next (q.at + length rest) rest
  pub least : NeedsAll more p.at taken read

pub goes : {Y F : Type 0} {m : F} {p q : PullState} {read next : ℕ → List ℕ → Result Y F} → Leads m p q read next → Goes p q read next
goes l = record { taken = l.taken; bytes = l.bytes; takes = l.takes; is = l.is }

-- no bytes have a front that lacks one
pub no_next : (front : List ℕ) (next : ℕ) (others : List ℕ) → [] ≡ front ++ next ∷ others → ⊥
no_next [] next others e = cc
no_next (b ∷ front) next others e = cc

-- A front that lacks a byte of some bytes and of others after them, lacks one of the first, or is those and a front that lacks one of the others.
abbrev Lacks : List ℕ → List ℕ → List ℕ → Type 0
Lacks xs ys front = ((next : ℕ) × (others : List ℕ) × (xs ≡ front ++ next ∷ others)) ⊎ ((g : List ℕ) × (next : ℕ) × (others : List ℕ) × (front ≡ xs ++ g) × (ys ≡ g ++ next ∷ others))

lacks : (xs ys front : List ℕ) (next : ℕ) (others : List ℕ) → xs ++ ys ≡ front ++ next ∷ others → Lacks xs ys front
lacks [] ys front next others e = inr (front, next, others, refl, e)
lacks (x ∷ xs) ys [] next others e = inl (x, xs, refl)
lacks (x ∷ xs) ys (f ∷ front) next others e =
    let k : x ≡ f = cc in
    let more : xs ++ ys ≡ front ++ next ∷ others = cc in
    elim (lacks xs ys front next others more) [
      | inl h ↦ inl (h.0, h.1, rw (k, h.2) refl)
      | inr h ↦ inr (h.0, h.1, h.2, rw (k, h.3) refl, h.4)
    ]

-- Of what was read in two steps, each byte is needed where each is needed in its step.
pub least_two : {Y F : Type 0} {m : F} {p q : PullState} {read next : ℕ → List ℕ → Result Y F} (a : Leads m p q read next) (b : List ℕ) → NeedsAll m q.at b next → NeedsAll m p.at (a.taken ++ b) read
least_two {Y} {F} {m} {p} {q} {read} {next} a b h = λ front one others e. elim (lacks a.taken b front one others e) [
  | inl x ↦ a.least front x.0 x.1 x.2
  | inr x ↦ (
      let g = x.0 in
      let here : p.at + length front ≡ q.at + length g = omega (arith, ap (λ (l : List ℕ). length l) x.3, length-append a.taken g, a.takes.at) in
      ap (λ n. read n front) here ∙ ap (λ (l : List ℕ). read (q.at + length g) l) x.3 ∙ a.is g ∙ h g x.1 x.2 x.4)
]

pub leads_start : {Y F : Type 0} {m : F} (p : PullState) (read next : ℕ → List ℕ → Result Y F) → ((end : ℕ) (bs : List ℕ) → read end bs ≡ next end bs) → Leads m p p read next
leads_start p read next h = record { taken = []; bytes = tt; takes = takes_nothing p; is = λ rest. h (p.at + length rest) rest; least = λ front one others e. absurd (no_next front one others e) }

pub leads_two : {Y F : Type 0} {m : F} {p q r : PullState} {read next more : ℕ → List ℕ → Result Y F} → Leads m p q read next → Leads m q r next more → Leads m p r read more
unfolding goes goes_two
leads_two {Y} {F} {m} {p} {q} {r} {read} {next} {more} a b =
    let w = goes_two (goes a) (goes b) in
    record { taken = a.taken ++ b.taken; bytes = w.bytes; takes = w.takes; is = w.is; least = least_two a b.taken b.least }

-- one step
unfoldable pub leads_read : {Y A F G : Type 0} {m : F} {n : G} {q r : PullState} {next : ℕ → List ℕ → Result Y F} {step : ℕ → List ℕ → Result A G} {out : List ℕ → A} (more : ℕ → List ℕ → Result Y F)
    → Reads n q r step out → ((end : ℕ) (bs rest : List ℕ) → end ≡ q.at + length bs → step end bs ≡ Ok (out rest) → next end bs ≡ more end rest)
    → ((end : ℕ) (bs : List ℕ) → end ≡ q.at + length bs → step end bs ≡ Err n → next end bs ≡ Err m) → Leads m q r next more
leads_read {Y} {A} {F} {G} {m} {n} {q} {r} {next} {step} {out} more b h wants = record {
  taken = b.taken;
  bytes = b.bytes;
  takes = b.takes;
  is = λ rest. h (r.at + length rest) (b.taken ++ rest) rest (omega (arith, b.takes.at, length-append b.taken rest)) (b.is rest);
  least = λ front one others e. wants (q.at + length front) front refl (b.least front one others e);
}

-- one step more
pub leads_more : {Y A F G : Type 0} {m : F} {n : G} {p q r : PullState} {read next : ℕ → List ℕ → Result Y F} {step : ℕ → List ℕ → Result A G} {out : List ℕ → A} (more : ℕ → List ℕ → Result Y F)
    → Leads m p q read next → Reads n q r step out → ((end : ℕ) (bs rest : List ℕ) → end ≡ q.at + length bs → step end bs ≡ Ok (out rest) → next end bs ≡ more end rest)
    → ((end : ℕ) (bs : List ℕ) → end ≡ q.at + length bs → step end bs ≡ Err n → next end bs ≡ Err m) → Leads m p r read more
leads_more more a b h wants = leads_two a (leads_read more b h wants)

pub leads_done : {Y F : Type 0} {m : F} {p q : PullState} {read next : ℕ → List ℕ → Result Y F} {out : List ℕ → Y} → Leads m p q read next → ((end : ℕ) (bs : List ℕ) → next end bs ≡ Ok (out bs)) → Reads m p q read out
leads_done {Y} {F} {m} {p} {q} {read} {next} {out} a h = record { taken = a.taken; bytes = a.bytes; takes = a.takes; is = λ rest. a.is rest ∙ h _ rest; least = a.least }

-- ---- one thing after the other

-- Nothing more is read.
pub done : {Y F : Type 0} {m : F} {p : PullState} {read : ℕ → List ℕ → Result Y F} {out : List ℕ → Y} → ((end : ℕ) (bs : List ℕ) → read end bs ≡ Ok (out bs)) → Reads m p p read out
done {Y} {F} {m} {p} {read} {out} h = leads_done (leads_start p read (λ end bs. Ok (out bs)) h) (λ end bs. refl)

-- the same reading, said otherwise
pub said : {Y F : Type 0} {m : F} {p q : PullState} {a b : ℕ → List ℕ → Result Y F} {out : List ℕ → Y} → ((end : ℕ) (bs : List ℕ) → end ≡ p.at + length bs → b end bs ≡ a end bs) → Reads m p q a out → Reads m p q b out
said {Y} {F} {m} {p} {q} {a} {b} {out} same h = leads_done (leads_read (λ end bs. Ok (out bs)) h (λ end bs rest here is. same end bs here ∙ is) (λ end bs here is. same end bs here ∙ is)) (λ end bs. refl)

-- What is read first, and what is read after it.
pub reads_two : {A Y F G : Type 0} {m : G} {n : F} {p q r : PullState} {first : ℕ → List ℕ → Result A F} {mid : List ℕ → A} {next all : ℕ → List ℕ → Result Y G} {out : List ℕ → Y}
    → Reads n p q first mid → Reads m q r next out → ((end : ℕ) (bs rest : List ℕ) → first end bs ≡ Ok (mid rest) → all end bs ≡ next end rest) → ((end : ℕ) (bs : List ℕ) → first end bs ≡ Err n → all end bs ≡ Err m) → Reads m p r all out
reads_two {A} {Y} {F} {G} {m} {n} {p} {q} {r} {first} {mid} {next} {all} {out} a b h wants =
    leads_done (leads_two (leads_read next a (λ end bs rest here is. h end bs rest is) (λ end bs here is. wants end bs is)) (leads_read (λ end bs. Ok (out bs)) b (λ end bs rest here is. is) (λ end bs here is. is))) (λ end bs. refl)

pub then : {A Y : Type 0} {p q r : PullState} {first : ℕ → List ℕ → Result A Fault} {mid : List ℕ → A} (k : ℕ → A → Result Y Fault) {out : List ℕ → Y}
    → Reads short p q first mid → Reads short q r (λ end bs. k end (mid bs)) out → Reads short p r (λ end bs. first end bs >>= k end) out
then k a b = reads_two a b (λ end bs rest is. rw is refl) (λ end bs is. rw is refl)

-- the same where the last call's answer is handed on
pub last : {X A Y : Type 0} {p q : PullState} (r : PullState) {first : ℕ → List ℕ → Result A Fault} {mid : List ℕ → A} (k : ℕ → A → Result Y Fault) (out : X → List ℕ → Y) (result : Result X StreamFault)
    → Reads short p q first mid → IfOk result (λ x. Reads short q r (λ end bs. k end (mid bs)) (out x)) → IfOk result (λ x. Reads short p r (λ end bs. first end bs >>= k end) (out x))
last r k out (Ok x) a b = then k a b
last r k out (Err e) a b = tt

pub said_last : {X Y : Type 0} (p q : PullState) {a b : ℕ → List ℕ → Result Y Fault} (out : X → List ℕ → Y) (result : Result X StreamFault)
    → ((end : ℕ) (bs : List ℕ) → end ≡ p.at + length bs → b end bs ≡ a end bs) → IfOk result (λ x. Reads short p q a (out x)) → IfOk result (λ x. Reads short p q b (out x))
said_last p q out (Ok x) same h = said same h
said_last p q out (Err e) same h = tt

-- ---- where the bytes are told

pub end_is : (o : Option (List ℕ)) (at stop : ℕ) → (env_at o at stop).told ≡ true → (env_at o at stop).end ≡ at + length (coming_at o at stop)
end_is Option.None at stop known = absurd cc
end_is (Option.Some bs) at stop known = refl

pub reads_gives : {S Y F : Type 0} {m : F} (half : S → ReadHalf) (p q : Pull S) {read : ℕ → List ℕ → Result Y F} {out : List ℕ → Y}
    → Reads m (pull_state half p) (pull_state half q) read out → q.at ≤ q.stop → IsTold half p → read (env half p).end (coming half p) ≡ Ok (out (coming half q))
unfolding env coming
reads_gives half p q {read} {out} h le told =
    let old = pull_state half p in
    let new = pull_state half q in
    let all = takes_told old new h.taken h.takes le told in
    let end : (env_at old.left old.at old.stop).end ≡ new.at + length (coming_at new.left new.at new.stop) =
    omega (arith, end_is old.left old.at old.stop told, ap (λ (bs : List ℕ). length bs) all, length-append h.taken (coming_at new.left new.at new.stop), h.takes.at) in
    ap (λ n. read n (coming_at old.left old.at old.stop)) end ∙ ap (λ bs. read (new.at + length (coming_at new.left new.at new.stop)) bs) all ∙ h.is (coming_at new.left new.at new.stop)

-- ---- faults

-- Where reading gives a value, a fault is the outside's.
pub fails_outside : {A F : Type 0} (one : Fault → F) (P : Result A F → StreamKind → ℕ → Type 0) (after e : StreamFault) (r : Result A F) (y : A) → r ≡ Ok y → ((kind : StreamKind) (at : ℕ) → P r kind at → ⊥) → FailsBy one P after e r → IsOutside e
fails_outside one P after faults.OutOfMemory r y is never h = tt
fails_outside one P after faults.ReadFault r y is never h = tt
fails_outside one P after (faults.Bad kind at) r y is never h = absurd (never kind at h)
fails_outside one P after (faults.TooLarge larges.Bytes at) r y is never h = absurd (let e = sym h.0 ∙ is in cc)
fails_outside one P after (faults.TooLarge larges.Nodes at) r y is never h = absurd (let e = sym h ∙ is in cc)
fails_outside one P after (faults.TooLarge larges.Depth at) r y is never h = absurd (let e = sym h ∙ is in cc)
fails_outside one P after (faults.Truncated at) r y is never h = absurd (let e = sym h.0 ∙ is in cc)

-- ---- what changes no nodes

pub plain_reads : {A : Type 0} {p q : PullState} {read : ℕ → List ℕ → Plain A} {x : A} (now : Progress) → Reads short p q read (λ rest. (x, rest)) → Reads short p q (λ end. plain (read end) now) (λ rest. (x, now, rest))
plain_reads now h = then (λ end y. Ok (y.0, now, y.1)) h (done (λ end bs. refl))
