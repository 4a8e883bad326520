-- How often a listener failed since it last answered.
use Rattle.std.proofs.Common.{◌≡◌, ◌≤◌, ◌+◌, ℕ, refl, ap, ◌∙◌, arith}
use Rattle.std.specs.Prelude.{◌≢◌, true, Option, Some, None, IfSome, Ok}
use Rattle.wire_io.specs.Links.{Accepted, Listening, Waits}
use Rattle.wire_io.specs.Wire.{Rose}
use Rattle.wire_io.specs.declared.listener.Waited.{Waited}
use Rattle.wire_io.specs.declared.listener.Waited.TheVariants.{Came, Quiet, Told}
use Rattle.wire_io.specs.declared.source.Failed.{Failed}
use Rattle.conn_server.specs.Hosts.{FailedSince, FailedTimes}
use Rattle.conn_server.specs.declared.accept_loop.Stop.TheVariants.{AcceptFault}
use Rattle.conn_server.specs.declared.host_loop.Halt.{Halt}

module _ {L : Type 0} (listening : L → Listening) (first : Listening) where
  -- It answered, and failed no time since.
  pub since_answer : (tries : ℕ) (before : Listening) (now : L) → FailedSince listening tries first before → before.faults ≤ (listening now).faults → FailedSince listening 0 first (listening now)
  since_answer tries before now since more =
      let later = since.later in
      let failed = since.failed.0 in
      record {
        answered = now;
        later = omega (arith, later, failed, more);
        accepted = refl;
        quiets = refl;
        same_told = refl;
        failed = (omega arith, omega arith);
      }

  -- It failed once more.
  pub since_fault : (tries more : ℕ) (before last : Listening) → FailedSince listening tries first before → last.accepted ≡ before.accepted → last.quiets ≡ before.quiets → last.told ≡ before.told → Rose before.faults last.faults → more ≤ tries + 1
      → FailedSince listening more first last
  since_fault tries more before last since same_links same_quiets same rose once =
      let failed = since.failed.0 in
      let had = since.failed.1 in
      let kept = rose.0 in
      let rises = rose.1 in
      record {
        answered = since.answered;
        later = since.later;
        accepted = same_links ∙ since.accepted;
        quiets = same_quiets ∙ since.quiets;
        same_told = same ∙ since.same_told;
        failed = (omega (arith, failed, kept), omega (arith, had, kept, rises, once));
      }

  -- It failed no less often than this, and was closed.
  pub since_closed : (tries fewer : ℕ) (before last : Listening) → FailedSince listening tries first before → fewer ≤ tries → last ≡ record before { closed = true } → FailedSince listening fewer first last
  since_closed tries fewer before last since less shut =
      let faults : last.faults ≡ before.faults = ap (λ (x : Listening). x.faults) shut in
      let failed = since.failed.0 in
      let had = since.failed.1 in
      record {
        answered = since.answered;
        later = since.later;
        accepted = ap (λ (x : Listening). x.accepted) shut ∙ since.accepted;
        quiets = ap (λ (x : Listening). x.quiets) shut ∙ since.quiets;
        same_told = ap (λ (x : Listening). x.told) shut ∙ since.same_told;
        failed = (omega (arith, failed, faults), omega (arith, had, less, faults));
      }

  -- So it failed so many times in all.
  pub since_first : (tries : ℕ) (last : Listening) → FailedSince listening tries first last → FailedTimes tries first.faults last.faults
  since_first tries last since =
      let later = since.later in
      let failed = since.failed.0 in
      let had = since.failed.1 in
      (omega (arith, later, failed), omega (arith, later, had))

-- At first it failed no time.
pub since_now : {L : Type 0} (listening : L → Listening) (tries : ℕ) (now : L) → tries ≡ 0 → FailedSince listening tries (listening now) (listening now)
since_now listening tries now none = record {
  answered = now;
  later = omega arith;
  accepted = refl;
  quiets = refl;
  same_told = refl;
  failed = (omega arith, omega (arith, none));
}

-- A wait that was answered counts no fault.
pub waited_faults : {K : Type 0} (shown : K → Accepted) (l l2 : Listening) (waited : Waited K) → Waits {E = Failed} shown l l2 (Ok waited) → l.faults ≤ l2.faults
waited_faults shown l l2 (Came link) w = let same = w.1 in omega (arith, same)
waited_faults shown l l2 Quiet w = let same = w.1 in omega (arith, same)
waited_faults shown l l2 Told w = let same = w.1 in omega (arith, same)

-- A wait that was answered closes nothing.
pub waited_open : {K : Type 0} (shown : K → Accepted) (l l2 : Listening) (waited : Waited K) → Waits {E = Failed} shown l l2 (Ok waited) → l2.closed ≡ l.closed
waited_open shown l l2 (Came link) w = w.5
waited_open shown l l2 Quiet w = w.5
waited_open shown l l2 Told w = w.4

-- Another cause is not that the listener is given up.
pub none_given_up : {I O T : Type 0} (result : Option (Halt I O T)) (P : Type 0) → IfSome result (λ halt. halt.stop ≢ AcceptFault) → IfSome result (λ halt. halt.stop ≡ AcceptFault → P)
none_given_up None P other = tt
none_given_up (Some halt) P other = λ is. absurd (other is)
