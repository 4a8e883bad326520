-- The ends that faults come to.
use Rattle.std.proofs.Common.{◌≡◌, ◌≢◌, ℕ, List, [], ◌∷◌, Result, Ok, Err, refl, sym, ap, subst, ◌∙◌, inl, inr, arith}
use Rattle.std.specs.Prelude.{◌⊎◌}
use Rattle.wire_io.specs.Pulled.{PullState, Takes, Stops}
use Rattle.wire_io.specs.declared.pull.PullEnd.{PullEnd}
use Rattle.wire_io.specs.declared.pull.PullEnd.TheVariants as pulls
use Rattle.stream_grammar.specs.Reading.{short, too_many, too_deep, byte_at}
use Rattle.ser_read.specs.declared.fault.StreamKind.{StreamKind}
use Rattle.ser_read.specs.declared.fault.StreamKind.TheVariants as kinds
use Rattle.ser_read.specs.declared.fault.StreamFault.{StreamFault}
use Rattle.ser_read.specs.declared.fault.StreamFault.TheVariants as faults
use Rattle.ser_read.specs.declared.fault.Large.TheVariants as larges
use Rattle.ser_read.specs.Here.{fault_of, Caused}
use Rattle.ser_read.specs.Wants.{WantFault, inside, fault_at, WantFails}
use Rattle.ser_read.proofs.Pulling.{byte_ends, byte_passes}
use Rattle.ser_read.proofs.Breaking.{no_byte}
use Rattle.rmi_client.specs.Ends.{end_of, end_by, IsOutside, BlamesRead}
use Rattle.rmi_client.specs.Replies.{IsTold, to_come, past_fault, NoCode}
use Rattle.rmi_client.specs.declared.end.ReplyKind.TheVariants as replies
use Rattle.rmi_client.specs.declared.end.ClientEnd.{ClientEnd}
use Rattle.rmi_client.specs.declared.end.ClientEnd.TheVariants as ends

-- ---- faults of a stream

kind_ends : (more : StreamFault) (kind : StreamKind) (at : ℕ) → end_by more (fault_at kind at) ≡ ends.BadReply (replies.Stream kind) at
kind_ends more kinds.BadMagic at = refl
kind_ends more kinds.BadCode at = refl
kind_ends more kinds.BadHandle at = refl
kind_ends more kinds.WrongHandleKind at = refl
kind_ends more kinds.BadDesc at = refl
kind_ends more kinds.BadUtf at = refl
kind_ends more kinds.NegativeLength at = refl
kind_ends more kinds.BlockLeft at = refl
kind_ends more kinds.MissingBlock at = refl
kind_ends more kinds.Reset at = refl
kind_ends more kinds.InnerException at = refl
kind_ends more kinds.OldExternal at = refl

-- Reading gives a fault whose end is this one.
pub record EndsBy {Y : Type 0} (more e : StreamFault) (read : Result Y WantFault) : Type 0 where
  pub fault : WantFault
  pub is : read ≡ Err fault
  pub end : end_by more fault ≡ end_of e

-- What a call answers that reads a stream comes from what reading gives, or from outside.
pub fault_ends : {Y : Type 0} (more e : StreamFault) (read : Result Y WantFault) → WantFails more e read → IsOutside (end_of e) ⊎ EndsBy more e read
fault_ends more faults.OutOfMemory read h = inl tt
fault_ends more faults.ReadFault read h = inl tt
fault_ends more (faults.Truncated at) read h = inr (record { fault = inside short; is = h.0; end = ap end_of h.1 })
fault_ends more (faults.TooLarge larges.Bytes at) read h = inr (record { fault = inside short; is = h.0; end = ap end_of h.1 })
fault_ends more (faults.TooLarge larges.Nodes at) read h = inr (record { fault = inside (too_many at); is = h; end = refl })
fault_ends more (faults.TooLarge larges.Depth at) read h = inr (record { fault = inside (too_deep at); is = h; end = refl })
fault_ends more (faults.Bad kind at) read h = inr (record { fault = fault_at kind at; is = h; end = kind_ends more kind at })

-- ---- no first byte

-- Nothing comes, and the end is that of who wants a byte more.
pub record ComesToEnd (old : PullState) (end : ClientEnd) : Type 0 where
  pub none : to_come old ≡ []
  pub is : end ≡ end_of (past_fault old)

pub no_code_ends : (old new : PullState) (end : ClientEnd) → NoCode old new end → IsTold old → IsOutside end ⊎ ComesToEnd old end
no_code_ends old new end h told = go h.why h.memory h.stops h.is
  where
    go : (why : PullEnd) → why ≢ pulls.OutOfMemory → Stops old new why → end ≡ end_of (fault_of why) → IsOutside end ⊎ ComesToEnd old end
    go (pulls.End at) memory stops is =
        let f = byte_ends old new stops.1 stops.2 told in
        inr (record { none = no_byte (to_come old) f.0; is = is ∙ ap ends.Truncated stops.0 ∙ ap end_of (sym f.1) })
    go (pulls.Limit at) memory stops is =
        let f = byte_passes old new stops.1 told in
        inr (record { none = no_byte (to_come old) f.0; is = is ∙ ap (ends.TooLarge larges.Bytes) stops.0 ∙ ap end_of (sym f.1) })
    go pulls.ReadFault memory stops is = inl (subst IsOutside (sym is) tt)
    go pulls.OutOfMemory memory stops is = absurd (memory refl)

-- ---- the count of faults

pub blames_none : {A : Type 0} (p q : PullState) (bytes : List ℕ) (end : ClientEnd) → Takes p q bytes → end ≢ ends.ReadFault → BlamesRead {A = A} p.faults q.faults (Err end)
blames_none p q bytes end t other = (t.faults, λ same. absurd (other (let e : end ≡ ends.ReadFault = cc in e)))

pub blames_ok : {A : Type 0} (p q : PullState) (bytes : List ℕ) (a : A) → Takes p q bytes → BlamesRead p.faults q.faults (Ok a)
blames_ok p q bytes a t = (t.faults, λ same. absurd cc)

pub no_code_blames : {A : Type 0} (old new : PullState) (end : ClientEnd) → NoCode old new end → BlamesRead {A = A} old.faults new.faults (Err end)
no_code_blames {A} old new end h = go h.why h.memory h.stops h.is
  where
    go : (why : PullEnd) → why ≢ pulls.OutOfMemory → Stops old new why → end ≡ end_of (fault_of why) → BlamesRead {A = A} old.faults new.faults (Err end)
    go (pulls.End at) memory stops is = (stops.1.faults, λ same. absurd cc)
    go (pulls.Limit at) memory stops is = (stops.1.faults, λ same. absurd cc)
    go pulls.ReadFault memory stops is = (stops.1.0, λ same. stops.1)
    go pulls.OutOfMemory memory stops is = absurd (memory refl)

pub fault_blames : {A : Type 0} (before later : ℕ) (e : StreamFault) → Caused {A = A} before later (Err e) → BlamesRead {A = A} before later (Err (end_of e))
fault_blames before later faults.OutOfMemory h = (h, λ same. absurd cc)
fault_blames before later faults.ReadFault h = (h.0, λ same. h)
fault_blames before later (faults.Truncated at) h = (h, λ same. absurd cc)
fault_blames before later (faults.TooLarge what at) h = (h, λ same. absurd cc)
fault_blames before later (faults.Bad kind at) h = (h, λ same. absurd cc)

pub later_blames : {A : Type 0} (p q r : PullState) (bytes : List ℕ) (result : Result A ClientEnd) → Takes p q bytes → BlamesRead q.faults r.faults result → BlamesRead p.faults r.faults result
later_blames p q r bytes result t h = (omega (arith, t.faults, h.0), λ same. let risen = h.1 same in (omega (arith, t.faults, risen.0), omega (arith, t.faults, risen.1)))

pub no_code_stop : (old new : PullState) (end : ClientEnd) → NoCode old new end → new.stop ≡ old.stop
no_code_stop old new end h = go h.why h.stops
  where
    go : (why : PullEnd) → Stops old new why → new.stop ≡ old.stop
    go (pulls.End at) stops = stops.1.stop
    go (pulls.Limit at) stops = stops.1.stop
    go pulls.ReadFault stops = stops.0.stop
    go pulls.OutOfMemory stops = stops.stop
