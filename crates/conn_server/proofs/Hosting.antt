-- What is kept while a host accepts links.
use Rattle.std.proofs.Common.{◌≡◌, ℕ, ◌+◌, ◌<◌, ◌≤◌, List, [], ◌∷◌, ◌++◌, refl, ap, sym, ◌∙◌, subst, arith, append-nil, length}
use Rattle.std.specs.Prelude.{Bool, Option, Some, None, true, false}
use Rattle.wire_io.specs.Links.{Accepted, Listening, with_next}
use Rattle.wire_io.specs.Wire.{ReadHalf, WriteHalf}
use Rattle.space.specs.declared.asked.Asked.{Asked}
use Rattle.turn_lock.specs.Handles.{opening_of, view_of}
use Rattle.turn_lock.specs.Rule.{Events}
use Rattle.turn_lock.specs.declared.handles.TurnLock.{TurnLock}
use Rattle.call_dispatch.specs.Acts.{WorkerState, Call, States}
use Rattle.call_dispatch.specs.declared.outcome.Invocation.{Invocation}
use Rattle.call_dispatch.specs.declared.outcome.Outcome.{Outcome}
use Rattle.system_objects.specs.declared.book.Kind.{Kind}
use Rattle.conn_server.specs.Accepts.{Follows, IsAccepting, TicksOn, shown_all, links_of, ticks_of, with_all}
use Rattle.conn_server.specs.Taken.{Taken}
use Rattle.conn_server.specs.Hosts.{IsHosting, IsHalted, IsLike}
use Rattle.conn_server.specs.Made.{IsMadeFor}
use Rattle.conn_server.specs.Quiet.{TicksQuietly}
use Rattle.conn_server.specs.Stops.{HostStopped, IsLostLink}
use Rattle.conn_server.specs.Talks.{TalksOver}
use Rattle.conn_server.specs.declared.accept_loop.Stop.{Stop}
use Rattle.conn_server.specs.declared.accept_loop.Stop.TheVariants.{OutOfMemory, Told}
use Rattle.conn_server.specs.declared.admission.Acceptor.{Acceptor}
use Rattle.conn_server.specs.declared.admission.LostLink.{LostLink}
use Rattle.conn_server.specs.declared.host_loop.Halt.{Halt}
use Rattle.conn_server.specs.declared.link_task.LinkReport.{LinkReport}
use Rattle.conn_server.specs.declared.link_thread.StartedLink.{StartedLink}
use Rattle.conn_server.specs.declared.plan.ServePlan.{ServePlan}
use Rattle.conn_server.specs.declared.quiet_second.OwnHand.{OwnHand}
use Rattle.conn_server.proofs.Listening.{one_more, with_none}
use Rattle.conn_server.proofs.Quiet.{quiet_fewer, quiet_first, quiet_later, quiet_link, quiet_same}

-- A listener gave this link between two moments, wasn't told to stop, and wasn't asked to accept.
pub record HasGiven (l1 l2 : Listening) (link : Accepted) : Type 0 where
  pub accepted : l2.accepted ≡ with_next l1.accepted link
  pub faults : l1.faults ≤ l2.faults
  pub quiets : l2.quiets ≡ l1.quiets
  pub same_told : l2.told ≡ l1.told
  pub same_ports : l2.ports ≡ l1.ports
  pub waited : l2.accepts ≡ l1.accepts

module _ {I O T H C : Type 0} (read_half : I → ReadHalf) (write_half : O → WriteHalf) (given : T → Option (List ℕ)) (shown : H → WorkerState) (may : Invocation → Outcome → Type 0) (moves : States → Call → States → Type 0)
    (taken : C → Taken (LinkReport I O T H)) (expects : C → LinkReport I O T H → Type 0) (lock : TurnLock) (kinds : List Kind) (plan : ServePlan) (l0 : Listening) (gave_first : Option (List ℕ)) where
  abbrev Taking : Acceptor I O T H C → Type 0
  Taking a = IsAccepting (TalksOver read_half write_half given shown may moves kinds) (IsMadeFor read_half write_half given shown moves plan) shown taken expects lock kinds a

  abbrev Going : Listening → Option (List ℕ) → Acceptor I O T H C → OwnHand H → Type 0
  Going l gave a own = IsHosting read_half write_half given shown may moves taken expects lock kinds plan l0 l gave_first gave a own

  abbrev links_now : Acceptor I O T H C → List Accepted
  links_now a = links_of (shown_all read_half write_half given a.all)

  abbrev ticks_now : Acceptor I O T H C → List Asked
  ticks_now a = ticks_of (shown_all read_half write_half given a.all)

  abbrev seen_by : Acceptor I O T H C → Events
  seen_by a = (view_of a.root.pass).seen

  abbrev Quietly : ℕ → Option (List ℕ) → Acceptor I O T H C → OwnHand H → List Asked → List Asked → Type 0
  Quietly quiets gave a own before ticks = TicksQuietly shown moves (opening_of lock) (seen_by a) own.missed gave_first gave l0.quiets quiets before ticks own.hand

  -- More was seen, and the lists are the same.
  quiet_then : (quiets : ℕ) (gave : Option (List ℕ)) (a b : Acceptor I O T H C) (own : OwnHand H) (before before_after ticks ticks_after : List Asked) → Follows a b → Quietly quiets gave a own before ticks
      → ticks_after ≡ ticks → before_after ≡ before → Quietly quiets gave b own before_after ticks_after
  quiet_then quiets gave a b own before before_after ticks ticks_after follows t same other =
      quiet_later shown moves (opening_of lock) (seen_by a) (seen_by b) own.missed gave_first gave l0.quiets quiets before_after ticks_after own.hand follows.0
      (quiet_same shown moves (opening_of lock) (seen_by a) own.missed gave_first gave l0.quiets quiets before before_after ticks ticks_after own.hand t same other)

  -- Links ended.
  pub hosting_joined : (l : Listening) (gave : Option (List ℕ)) (a b : Acceptor I O T H C) (own : OwnHand H) → Going l gave a own → Taking b → Follows a b
      → (taken b.taker).ticks ≡ (taken a.taker).ticks → shown_all read_half write_half given b.all ≡ shown_all read_half write_half given a.all → b.begun ≡ a.begun → Going l gave b own
  hosting_joined l gave a b own is then follows same_ticks same begun =
      let few = is.few in
      record {
        is = then;
        hosts = follows.1 ∙ is.hosts;
        few = omega (arith, few, begun);
        quiet = quiet_then l.quiets gave a b own (ticks_now a) (ticks_now b) (taken a.taker).ticks (taken b.taker).ticks follows is.quiet same_ticks (ap (λ l. ticks_of l) same);
        links = is.links ∙ ap (λ l. with_all l0.accepted (links_of l)) (sym same);
        faults = is.faults;
        same_told = is.same_told;
        same_ports = is.same_ports;
        waited = is.waited;
      }

  -- The clock was looked at once, and the listener gave no link since.
  pub hosting_quiet : (l l2 : Listening) (gave gave2 : Option (List ℕ)) (a b : Acceptor I O T H C) (own own2 : OwnHand H) → Going l gave a own → IsLike l l2 → Taking b → Follows a b → b.all ≡ a.all → b.begun ≡ a.begun
      → (Quietly l.quiets gave a own (ticks_now a) (taken a.taker).ticks → Quietly (l.quiets + 1) gave2 b own2 (ticks_now a) (taken b.taker).ticks) → Going l2 gave2 b own2
  hosting_quiet l l2 gave gave2 a b own own2 is like then follows same begun ticks =
      let few = is.few in
      let faults = is.faults in
      let more = like.faults in
      record {
        is = then;
        hosts = follows.1 ∙ is.hosts;
        few = omega (arith, few, begun);
        quiet = quiet_fewer shown moves (opening_of lock) (seen_by b) own2.missed gave_first gave2 l0.quiets (l.quiets + 1) l2.quiets (ticks_now b) (taken b.taker).ticks own2.hand like.quiets
            (quiet_same shown moves (opening_of lock) (seen_by b) own2.missed gave_first gave2 l0.quiets (l.quiets + 1) (ticks_now a) (ticks_now b) (taken b.taker).ticks (taken b.taker).ticks own2.hand (ticks is.quiet) refl
            (ap (λ (l : List (StartedLink I O T H)). ticks_of (shown_all read_half write_half given l)) same));
        links = like.accepted ∙ (is.links ∙ ap (λ (l : List (StartedLink I O T H)). with_all l0.accepted (links_of (shown_all read_half write_half given l))) (sym same));
        faults = omega (arith, faults, more);
        same_told = like.same_told ∙ is.same_told;
        same_ports = like.same_ports ∙ is.same_ports;
        waited = like.waited ∙ is.waited;
      }

  -- A link was begun.
  pub hosting_link : (l l2 : Listening) (link : Accepted) (gave : Option (List ℕ)) (a b : Acceptor I O T H C) (own : OwnHand H) → Going l gave a own → a.begun < plan.count → HasGiven l l2 link
      → Taking b → Follows a b → TicksOn (taken a.taker).ticks (taken b.taker).ticks (ticks_now a) (ticks_now b) → links_now b ≡ links_now a ++ link ∷ [] → b.begun ≡ a.begun + 1 → Going l2 gave b own
  hosting_link l l2 link gave a b own is few gives then follows ticks links begun =
      let faults = is.faults in
      let more = gives.faults in
      record {
        is = then;
        hosts = follows.1 ∙ is.hosts;
        few = omega (arith, few, begun);
        quiet = subst (λ (n : ℕ). Quietly n gave b own (ticks_now b) (taken b.taker).ticks) (sym gives.quiets)
            (quiet_link shown moves (opening_of lock) (seen_by b) own.missed gave_first gave l0.quiets l.quiets (ticks_now a) (ticks_now b) (taken a.taker).ticks (taken b.taker).ticks own.hand
            (quiet_then l.quiets gave a b own (ticks_now a) (ticks_now a) (taken a.taker).ticks (taken a.taker).ticks follows is.quiet refl refl) ticks);
        links = one_more l0.accepted l.accepted l2.accepted (links_now a) link is.links gives.accepted ∙ ap (with_all l0.accepted) (sym links);
        faults = omega (arith, faults, more);
        same_told = gives.same_told ∙ is.same_told;
        same_ports = gives.same_ports ∙ is.same_ports;
        waited = gives.waited ∙ is.waited;
      }

  -- There was no memory for a link.
  pub halted_lost : (l l2 : Listening) (link : Accepted) (gave : Option (List ℕ)) (a b : Acceptor I O T H C) (own : OwnHand H) (lost : LostLink I O T) → Going l gave a own → a.begun < plan.count → HasGiven l l2 link
      → Taking b → Follows a b → (taken b.taker).ticks ≡ (taken a.taker).ticks → ticks_now b ≡ ticks_now a → links_now b ≡ links_now a → b.begun ≡ a.begun → IsLostLink read_half write_half given link lost
      → IsHalted read_half write_half given shown may moves taken expects lock kinds plan l0 l2 gave_first gave b own (record { stop = OutOfMemory; lost = Some lost })
  halted_lost l l2 link gave a b own lost is few gives then follows same_ticks same same_links begun lost_is =
      let faults = is.faults in
      let more = gives.faults in
      record {
        is = then;
        hosts = follows.1 ∙ is.hosts;
        quiet = subst (λ (n : ℕ). Quietly n gave b own (ticks_now b) (taken b.taker).ticks) (sym gives.quiets)
            (quiet_then l.quiets gave a b own (ticks_now a) (ticks_now b) (taken a.taker).ticks (taken b.taker).ticks follows is.quiet same_ticks same);
        missed = link ∷ [];
        links = one_more l0.accepted l.accepted l2.accepted (links_now a) link is.links gives.accepted ∙ ap (λ l. with_all l0.accepted (l ++ link ∷ [])) (sym same_links);
        stopped = (omega (arith, few, begun), refl);
        back = lost_is;
        faults = omega (arith, faults, more);
        untold = λ other. gives.same_told ∙ is.same_told;
        same_ports = gives.same_ports ∙ is.same_ports;
        waited = gives.waited ∙ is.waited;
      }

  -- No more links are accepted, for another cause.
  pub halted_none : (l : Listening) (gave : Option (List ℕ)) (a : Acceptor I O T H C) (own : OwnHand H) (stop : Stop) → Going l gave a own → HostStopped stop l.told plan.count a.begun []
      → IsHalted read_half write_half given shown may moves taken expects lock kinds plan l0 l gave_first gave a own (record { stop = stop; lost = None })
  halted_none l gave a own stop is stopped =
      record {
        is = is.is;
        hosts = is.hosts;
        quiet = is.quiet;
        missed = [];
        links = is.links ∙ ap (with_all l0.accepted) (sym (append-nil (links_now a)));
        stopped = stopped;
        back = tt;
        faults = is.faults;
        untold = λ other. is.same_told;
        same_ports = is.same_ports;
        waited = is.waited;
      }

  -- The listener was told to stop.
  pub halted_told : (l l2 : Listening) (gave : Option (List ℕ)) (a b : Acceptor I O T H C) (own : OwnHand H) → Going l gave a own → a.begun < plan.count → Taking b → Follows a b → (taken b.taker).ticks ≡ (taken a.taker).ticks
      → shown_all read_half write_half given b.all ≡ shown_all read_half write_half given a.all → b.begun ≡ a.begun → l2.accepted ≡ l.accepted → l.faults ≤ l2.faults → l2.told ≡ true → l2.ports ≡ l.ports → l2.quiets ≡ l.quiets → l2.accepts ≡ l.accepts
      → IsHalted read_half write_half given shown may moves taken expects lock kinds plan l0 l2 gave_first gave b own (record { stop = Told; lost = None })
  halted_told l l2 gave a b own is few then follows same_ticks same begun same_links more told same_ports same_quiets waited =
      let faults = is.faults in
      record {
        is = then;
        hosts = follows.1 ∙ is.hosts;
        quiet = subst (λ (n : ℕ). Quietly n gave b own (ticks_now b) (taken b.taker).ticks) (sym same_quiets)
            (quiet_then l.quiets gave a b own (ticks_now a) (ticks_now b) (taken a.taker).ticks (taken b.taker).ticks follows is.quiet same_ticks (ap (λ l. ticks_of l) same));
        missed = [];
        links = same_links ∙ (is.links ∙ (ap (λ l. with_all l0.accepted (links_of l)) (sym same) ∙ ap (with_all l0.accepted) (sym (append-nil (links_now b)))));
        stopped = (told, omega (arith, few, begun), refl);
        back = tt;
        faults = omega (arith, faults, more);
        untold = λ other. absurd (other refl);
        same_ports = same_ports ∙ is.same_ports;
        waited = waited ∙ is.waited;
      }

  -- The listener was closed.
  pub halted_closed : (l l2 : Listening) (gave : Option (List ℕ)) (a : Acceptor I O T H C) (own : OwnHand H) (halt : Halt I O T) → l2 ≡ record l { closed = true }
      → IsHalted read_half write_half given shown may moves taken expects lock kinds plan l0 l gave_first gave a own halt
      → IsHalted read_half write_half given shown may moves taken expects lock kinds plan l0 l2 gave_first gave a own halt
  halted_closed l l2 gave a own halt shut h =
      let quiets : l2.quiets ≡ l.quiets = ap (λ (x : Listening). x.quiets) shut in
      let told : l2.told ≡ l.told = ap (λ (x : Listening). x.told) shut in
      let faults : l2.faults ≡ l.faults = ap (λ (x : Listening). x.faults) shut in
      let links : l2.accepted ≡ l.accepted = ap (λ (x : Listening). x.accepted) shut in
      let ports : l2.ports ≡ l.ports = ap (λ (x : Listening). x.ports) shut in
      let accepts : l2.accepts ≡ l.accepts = ap (λ (x : Listening). x.accepts) shut in
      record {
        is = h.is;
        hosts = h.hosts;
        quiet = subst (λ (n : ℕ). Quietly n gave a own (ticks_now a) (taken a.taker).ticks) (sym quiets) h.quiet;
        missed = h.missed;
        links = links ∙ h.links;
        stopped = subst (λ (t : Bool). HostStopped halt.stop t plan.count a.begun h.missed) (sym told) h.stopped;
        back = h.back;
        faults = subst (λ (n : ℕ). l0.faults ≤ n) (sym faults) h.faults;
        untold = λ other. told ∙ h.untold other;
        same_ports = ports ∙ h.same_ports;
        waited = accepts ∙ h.waited;
      }

-- At first no link is accepted.
pub hosting_first : {I O T H C : Type 0} (read_half : I → ReadHalf) (write_half : O → WriteHalf) (given : T → Option (List ℕ)) (shown : H → WorkerState) (may : Invocation → Outcome → Type 0) (moves : States → Call → States → Type 0)
    (taken : C → Taken (LinkReport I O T H)) (expects : C → LinkReport I O T H → Type 0) (lock : TurnLock) (kinds : List Kind) (plan : ServePlan) (l : Listening) (gave : Option (List ℕ)) (a : Acceptor I O T H C) (own : OwnHand H)
    → IsAccepting (TalksOver read_half write_half given shown may moves kinds) (IsMadeFor read_half write_half given shown moves plan) shown taken expects lock kinds a → a.all ≡ [] → (taken a.taker).ticks ≡ [] → own.hand ≡ None → own.missed ≡ 0 → a.keeps ≡ false
    → IsHosting read_half write_half given shown may moves taken expects lock kinds plan l l gave gave a own
hosting_first {I = I} {O = O} {T = T} {H = H} read_half write_half given shown may moves taken expects lock kinds plan l gave a own is none no_turn handless unmissed hosts =
    let count = is.begun ∙ ap (λ (l : List (StartedLink I O T H)). length l) none in
    record {
      is = is;
      hosts = hosts;
      few = omega (arith, count);
      quiet = subst (λ (o : Option H). TicksQuietly shown moves (opening_of lock) (view_of a.root.pass).seen own.missed gave gave l.quiets l.quiets (ticks_of (shown_all read_half write_half given a.all)) (taken a.taker).ticks o) (sym handless)
          (quiet_first shown moves (opening_of lock) (view_of a.root.pass).seen own.missed gave l.quiets (ticks_of (shown_all read_half write_half given a.all)) (taken a.taker).ticks unmissed (ap (λ (l : List (StartedLink I O T H)). ticks_of (shown_all read_half write_half given l)) none) no_turn);
      links = sym (with_none l.accepted) ∙ ap (λ (s : List (StartedLink I O T H)). with_all l.accepted (links_of (shown_all read_half write_half given s))) (sym none);
      faults = omega arith;
      same_told = refl;
      same_ports = refl;
      waited = refl;
    }
