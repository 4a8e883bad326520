-- How a run that served links ends.
use Rattle.std.proofs.Common.{◌≡◌, ◌≢◌, ℕ, ◌≤◌, List, Option, Result, Ok, Err, refl, ap, sym, ◌∙◌, arith, inl, inr}
use Rattle.std.specs.Prelude.{false, true, is_err}
use Rattle.wire_io.specs.Links.{Listening, Listens, with_next}
use Rattle.wire_io.specs.Wire.{Rose}
use Rattle.conn_server.specs.declared.accept_loop.Stop.{Stop}
use Rattle.conn_server.specs.declared.accept_loop.Stop.TheVariants as stops
use Rattle.rmi_cli.specs.Line.{status_of_run}
use Rattle.rmi_cli.specs.ServedLinks.{EndsServed}
use Rattle.rmi_cli.specs.declared.end.RunEnd.{RunEnd}

-- The status says that a read failed, so a link could not be accepted.
stopped_so : (held held2 : Option (List ℕ)) (f f2 : ℕ) (text : List ℕ) (stop : Stop) (end : RunEnd) → EndsServed held held2 f f2 text stop end → status_of_run end ≡ 3
    → stop ≡ stops.AcceptFault
stopped_so held held2 f f2 text stops.All end (printed, inl done, so) is = absurd (omega (arith, sym is ∙ ap status_of_run (so ∙ done.0)))
stopped_so held held2 f f2 text stops.All end (printed, inr (inl fault), so) is = absurd (omega (arith, sym is ∙ ap status_of_run (so ∙ fault.0)))
stopped_so held held2 f f2 text stops.All end (printed, inr (inr memory), so) is = absurd (omega (arith, sym is ∙ ap status_of_run (so ∙ memory.0)))
stopped_so held held2 f f2 text stops.Told end (printed, inl done, so) is = absurd (omega (arith, sym is ∙ ap status_of_run (so ∙ done.0)))
stopped_so held held2 f f2 text stops.Told end (printed, inr (inl fault), so) is = absurd (omega (arith, sym is ∙ ap status_of_run (so ∙ fault.0)))
stopped_so held held2 f f2 text stops.Told end (printed, inr (inr memory), so) is = absurd (omega (arith, sym is ∙ ap status_of_run (so ∙ memory.0)))
stopped_so held held2 f f2 text stops.AcceptFault end ends is = refl
stopped_so held held2 f f2 text stops.OutOfMemory end (printed, how, so) is = absurd (omega (arith, sym is ∙ ap status_of_run so))

-- The status says that a write failed, so the output did.
pub print_failed : (held held2 : Option (List ℕ)) (f f2 : ℕ) (text : List ℕ) (stop : Stop) (end : RunEnd) → EndsServed held held2 f f2 text stop end → status_of_run end ≡ 4 → Rose f f2
print_failed held held2 f f2 text stops.All end (printed, inl done, so) is = absurd (omega (arith, sym is ∙ ap status_of_run (so ∙ done.0)))
print_failed held held2 f f2 text stops.All end (printed, inr (inl fault), so) is = fault.2
print_failed held held2 f f2 text stops.All end (printed, inr (inr memory), so) is = absurd (omega (arith, sym is ∙ ap status_of_run (so ∙ memory.0)))
print_failed held held2 f f2 text stops.Told end (printed, inl done, so) is = absurd (omega (arith, sym is ∙ ap status_of_run (so ∙ done.0)))
print_failed held held2 f f2 text stops.Told end (printed, inr (inl fault), so) is = fault.2
print_failed held held2 f f2 text stops.Told end (printed, inr (inr memory), so) is = absurd (omega (arith, sym is ∙ ap status_of_run (so ∙ memory.0)))
print_failed held held2 f f2 text stops.AcceptFault end (printed, how, so) is = absurd (omega (arith, sym is ∙ ap status_of_run so))
print_failed held held2 f f2 text stops.OutOfMemory end (printed, how, so) is = absurd (omega (arith, sym is ∙ ap status_of_run so))

-- It is no status of words.
pub is_known : (held held2 : Option (List ℕ)) (f f2 : ℕ) (text : List ℕ) (stop : Stop) (end : RunEnd) → EndsServed held held2 f f2 text stop end → status_of_run end ≢ 1
is_known held held2 f f2 text stops.All end (printed, inl done, so) is = omega (arith, sym is ∙ ap status_of_run (so ∙ done.0))
is_known held held2 f f2 text stops.All end (printed, inr (inl fault), so) is = omega (arith, sym is ∙ ap status_of_run (so ∙ fault.0))
is_known held held2 f f2 text stops.All end (printed, inr (inr memory), so) is = omega (arith, sym is ∙ ap status_of_run (so ∙ memory.0))
is_known held held2 f f2 text stops.Told end (printed, inl done, so) is = omega (arith, sym is ∙ ap status_of_run (so ∙ done.0))
is_known held held2 f f2 text stops.Told end (printed, inr (inl fault), so) is = omega (arith, sym is ∙ ap status_of_run (so ∙ fault.0))
is_known held held2 f f2 text stops.Told end (printed, inr (inr memory), so) is = omega (arith, sym is ∙ ap status_of_run (so ∙ memory.0))
is_known held held2 f f2 text stops.AcceptFault end (printed, how, so) is = omega (arith, sym is ∙ ap status_of_run so)
is_known held held2 f f2 text stops.OutOfMemory end (printed, how, so) is = omega (arith, sym is ∙ ap status_of_run so)

-- The listener failed then, however often it had before.
pub accept_failed : (held held2 : Option (List ℕ)) (f f2 : ℕ) (text : List ℕ) (stop : Stop) (end : RunEnd) (before heard after : ℕ) → EndsServed held held2 f f2 text stop end
    → before ≤ heard → (stop ≡ stops.AcceptFault → Rose heard after) → status_of_run end ≡ 3 → Rose before after
accept_failed held held2 f f2 text stop end before heard after ends more rose is =
    let failed = rose (stopped_so held held2 f f2 text stop end ends is) in (omega (arith, more, failed.0), omega (arith, more, failed.1))

-- A call that listens leaves no fewer failures.
pub listened : {T E : Type 0} (old new : Listening) (address : List ℕ) (port : ℕ) (result : Result T E) → Listens old new address port result → old.faults ≤ new.faults
listened old new address port (Ok done) is = let same = is.1 in omega (arith, same)
listened old new address port (Err failed) is = is.1.0

-- Where it listens, it does not fail.
pub unfailed : {T E : Type 0} (old new : Listening) (address : List ℕ) (port : ℕ) (result : Result T E) → is_err result ≡ false → Listens old new address port result → new.faults ≡ old.faults
unfailed old new address port (Ok done) well is = is.1
unfailed old new address port (Err failed) well is = absurd (cc)

-- It answers no wait and no look.
pub listened_quietly : {T E : Type 0} (old new : Listening) (address : List ℕ) (port : ℕ) (result : Result T E) → Listens old new address port result → new.quiets ≡ old.quiets
listened_quietly old new address port (Ok done) is = is.2
listened_quietly old new address port (Err failed) is = is.2

-- It closes nothing.
pub listened_open : {T E : Type 0} (old new : Listening) (address : List ℕ) (port : ℕ) (result : Result T E) → Listens old new address port result → new.closed ≡ old.closed
listened_open old new address port (Ok done) is = is.3
listened_open old new address port (Err failed) is = is.3

-- It accepts no link.
pub listened_unasked : {T E : Type 0} (old new : Listening) (address : List ℕ) (port : ℕ) (result : Result T E) → Listens old new address port result → new.accepts ≡ old.accepts
listened_unasked old new address port (Ok done) is = is.4
listened_unasked old new address port (Err failed) is = is.4

-- Where it does not listen, it tells no port more.
pub deaf : {T E : Type 0} (old new : Listening) (address : List ℕ) (port : ℕ) (result : Result T E) → is_err result ≡ true → Listens old new address port result → new.ports ≡ old.ports
deaf old new address port (Ok done) bad is = absurd (cc)
deaf old new address port (Err failed) bad is = is.0

-- Where a listener listens, its port is the last one that it tells.
pub added : {T E : Type 0} (old new : Listening) (address : List ℕ) (port : ℕ) (result : Result T E) → is_err result ≡ false → Listens old new address port result →
    new.ports ≡ with_next old.ports (address, port)
added old new address port (Ok done) well is = is.0
added old new address port (Err failed) well is = absurd (cc)
