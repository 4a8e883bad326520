-- What is read inside wants.
use Rattle.std.proofs.Common.{◌≡◌, ℕ, List, Result, Ok, Err, IfOk, refl}
use Rattle.wire_io.specs.Pulled.{PullState}
use Rattle.stream_grammar.specs.Reading.{Fault, short, bad}
use Rattle.ser_read.specs.declared.fault.StreamFault.{StreamFault}
use Rattle.ser_read.specs.declared.fault.StreamKind.{StreamKind}
use Rattle.ser_read.specs.declared.fault.StreamKind.TheVariants as kinds
use Rattle.ser_read.specs.Here.{Reads, kind_of, IsInBytes}
use Rattle.ser_read.specs.Wants.{WantFault, inside, ◌▸◌, lift_fault, Stand, bytes_at, slot_next, want_at, fault_at}
use Rattle.ser_read.specs.declared.serving.Want.{Want}
use Rattle.ser_read.specs.declared.serving.Want.TheVariants as wanted
use Rattle.class_desc.specs.declared.slot.Item.TheVariants as items
use Rattle.ser_read.proofs.Steps.{done, said, reads_two}

-- a kind that comes where a stream is read whole is said of what is read inside
pub inside_is : (kind : StreamKind) (at : ℕ) → IsInBytes kind → inside (bad (kind_of kind) at) ≡ fault_at kind at
inside_is kinds.BlockLeft at h = absurd h
inside_is kinds.MissingBlock at h = absurd h
inside_is kinds.BadMagic at h = refl
inside_is kinds.BadCode at h = refl
inside_is kinds.BadHandle at h = refl
inside_is kinds.WrongHandleKind at h = refl
inside_is kinds.BadDesc at h = refl
inside_is kinds.BadUtf at h = refl
inside_is kinds.NegativeLength at h = refl
inside_is kinds.Reset at h = refl
inside_is kinds.InnerException at h = refl
inside_is kinds.OldExternal at h = refl

-- what is read first, and the wants after it
pub want_then : {A Y : Type 0} {p q r : PullState} {first : ℕ → List ℕ → Result A Fault} {mid : List ℕ → A} (k : ℕ → A → Result Y WantFault) {out : List ℕ → Y}
    → Reads short p q first mid → Reads (inside short) q r (λ end bs. k end (mid bs)) out → Reads (inside short) p r (λ end bs. lift_fault (first end bs) ▸ k end) out
want_then k a b = reads_two a b (λ end bs rest is. rw is refl) (λ end bs is. rw is refl)

-- a call's last step
pub want_last : {X A Y : Type 0} {p q : PullState} (r : PullState) {first : ℕ → List ℕ → Result A Fault} {mid : List ℕ → A} (k : ℕ → A → Result Y WantFault) (inner : ℕ → List ℕ → Result Y Fault) (out : X → List ℕ → Y) (result : Result X StreamFault)
    → Reads short p q first mid → ((end : ℕ) (bs : List ℕ) → k end (mid bs) ≡ lift_fault (inner end bs)) → IfOk result (λ x. Reads short q r inner (out x)) → IfOk result (λ x. Reads (inside short) p r (λ end bs. lift_fault (first end bs) ▸ k end) (out x))
want_last r k inner out (Ok x) a same b = want_then k a (said (λ end bs here. same end bs) (reads_two b (done (λ end bs. refl)) (λ end bs rest is. rw is refl) (λ end bs is. rw is refl)))
want_last r k inner out (Err e) a same b = tt

-- the want that is served
pub want_bytes : (end : ℕ) (w : Want) (n : ℕ) (s : Stand) (bs : List ℕ) → w ≡ wanted.Bytes n → want_at end w s bs ≡ (bytes_at end n s bs ▸ λ x. Ok (items.Bytes x.0, x.1, x.2))
unfolding want_at
want_bytes end w n s bs h = rw h refl

pub want_slot : (end : ℕ) (w : Want) (s : Stand) (bs : List ℕ) → w ≡ wanted.Slot → want_at end w s bs ≡ (slot_next end s bs ▸ λ x. Ok (items.Ref x.0, x.1, x.2))
unfolding want_at
want_slot end w s bs h = rw h refl
