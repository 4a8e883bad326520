-- Journals that a host printed are ones that a replay takes.
use Rattle.std.proofs.Common.{◌≡◌, ℕ, ◌≤◌, ◌⊎◌, List, [], ◌∷◌, ◌++◌, Bool, true, false, Option, Some, None, inl, inr, refl, sym, subst, ◌∙◌, ap, append_assoc, arith}
use Rattle.std.specs.Prelude.{IfSome}
use Rattle.std.specs.Int.{w32}
use Rattle.std.proofs.lemmas.Int.{ints}
use Rattle.std.proofs.Math.Facts.{sfits_to_z}
use Rattle.wire_io.specs.Wire.{ReadHalf, WriteHalf, with_end}
use Rattle.history.specs.declared.asks.Event.{Event}
use Rattle.history.specs.declared.asks.SpaceConfig.{SpaceConfig}
use Rattle.history.specs.declared.limits.TheConstants.{MAX_HISTORY_UNITS}
use Rattle.history.specs.Steps.{IsLegal}
use Rattle.journal.specs.Grammar.{IsUid, JournalText}
use Rattle.journal.specs.Written.{ConfigFits, config_text, journal_text}
use Rattle.journal.proofs.Ended.{journal_spelled}
use Rattle.space.specs.Built.{SpaceHistory}
use Rattle.conn_server.specs.declared.accept_loop.Stop.{Stop}
use Rattle.conn_server.specs.declared.accept_loop.Stop.TheVariants as stops
use Rattle.rmi_words.specs.Options.{IsInRange}
use Rattle.rmi_words.specs.declared.host_words.HostWords.{HostWords}
use Rattle.rmi_words.specs.declared.host_words.Record.{Record}
use Rattle.rmi_words.specs.declared.host_words.Record.TheVariants.{Journal}
use Rattle.rmi_words.specs.declared.options.LeaseOptions.{LeaseOptions}
use Rattle.rmi_cli.specs.Hosted.{HostEnds, HostServed, HostSide, Hosting, Hosts, HostsSample, after_ticks, end_of_record, journal_lines}
use Rattle.rmi_cli.specs.Journals.{CanBeRead, PrintsJournal, ReplaysToStanding, keeping, weight}
use Rattle.rmi_cli.specs.Opening.{hosted_opening, hosted_space}
use Rattle.rmi_cli.specs.Replay.{AllTaken, EventIsTaken}
use Rattle.rmi_cli.specs.ServedLinks.{end_after}
use Rattle.rmi_cli.specs.Sinks.{Wrote}
use Rattle.rmi_cli.specs.Told.{Reported}
use Rattle.rmi_cli.specs.declared.end.RunEnd.{RunEnd}
use Rattle.rmi_cli.specs.declared.end.RunEnd.TheVariants.{Usage, Answered, Talked, Done, BadLine, Refused, TooLarge, NotShown, ListenFault, AcceptFault, ReadFault, WriteFault, OutOfMemory}
use Rattle.rmi_cli.specs.declared.sink_state.SinkState.{SinkState}
use Rattle.rmi_cli.specs.declared.sink_state.SinkState.TheVariants.{Whole, Failed, Lost}
use Rattle.rmi_cli.proofs.Drilling.{legal_taken}
use Rattle.rmi_cli.proofs.Hosting.{hosting_done, lines_of_journal}
use Rattle.rmi_cli.proofs.Unstored.{front_less, outline_same, places_same, room_before, taken_same}

-- ---- any journal

-- What a space takes, one that keeps its events takes too, as long as there is room.
taken_so : (c : SpaceConfig) (h : List Event) (e : Event) → weight c (h ++ e ∷ []) ≤ MAX_HISTORY_UNITS → EventIsTaken c h e → EventIsTaken (keeping c) h e
taken_so c h e few free = rw (places_same c h) (taken_same c _ e free (room_before MAX_HISTORY_UNITS c h e few))

all_taken_so : (c : SpaceConfig) (h events : List Event) → weight c (h ++ events) ≤ MAX_HISTORY_UNITS → AllTaken c h events → AllTaken (keeping c) h events
all_taken_so c h [] few all = tt
all_taken_so c h (e ∷ events) few all =
    let more : weight c ((h ++ e ∷ []) ++ events) ≤ MAX_HISTORY_UNITS = subst (λ (g : List Event). weight c g ≤ MAX_HISTORY_UNITS) (sym (append_assoc h (e ∷ []) events)) few in
    let front = front_less c (h ++ e ∷ []) events in
    (taken_so c h e (omega (arith, front, more)) all.0, all_taken_so c (h ++ e ∷ []) events more all.1)

-- The journal doesn't tell whether the space keeps its events.
same_text : (c : SpaceConfig) (events : List Event) → journal_text (keeping c) events ≡ journal_text c events
unfolding journal_text config_text
same_text c events = refl

pub journal_replays : (c : SpaceConfig) (events : List Event) → IsUid c.uid → ConfigFits (keeping c) → IsLegal c events → CanBeRead c events → ReplaysToStanding c events
journal_replays c events ids fits legal read = (
  keeping c,
  events,
  subst (λ (text : List ℕ). JournalText text (keeping c) events) (same_text c events) (journal_spelled (keeping c) events ids fits read.fit),
  all_taken_so c [] events read.room (legal_taken c events legal),
  sym (outline_same c events),
)

-- ---- the journal of a host

-- The identifier of the space, and its rules, are ones that a journal spells.
space_uid : (seed : List ℕ) (options : LeaseOptions) → IsUid (hosted_space seed options).uid
space_uid seed options = record { unique = sfits_to_z {w = w32} (omega arith); time = omega (arith, ints); count = omega (arith, ints) }

space_fits : (seed : List ℕ) (options : LeaseOptions) → IsInRange options → ConfigFits (keeping (hosted_space seed options))
space_fits seed options range = record {
  some_lease = range.some_lease;
  short_lease = range.short_lease;
  some_ack = range.some_ack;
  short_ack = range.short_ack;
  count = refl;
  stored = refl;
}

-- A run that ended well printed well.
ticks_well : (missed : Bool) (printed : RunEnd) → Done ≡ after_ticks missed printed → printed ≡ Done
ticks_well false printed is = sym is
ticks_well true Done is = absurd (cc)
ticks_well true Usage is = sym is
ticks_well true (Answered end) is = sym is
ticks_well true (Talked end) is = sym is
ticks_well true (BadLine n) is = sym is
ticks_well true Refused is = sym is
ticks_well true (TooLarge limit) is = sym is
ticks_well true (NotShown fault) is = sym is
ticks_well true ListenFault is = sym is
ticks_well true AcceptFault is = sym is
ticks_well true ReadFault is = sym is
ticks_well true WriteFault is = sym is
ticks_well true OutOfMemory is = sym is

stop_well : (stop : Stop) (missed : Bool) (printed : RunEnd) → Done ≡ end_after stop (after_ticks missed printed) → printed ≡ Done
stop_well stops.All missed printed is = ticks_well missed printed is
stop_well stops.Told missed printed is = ticks_well missed printed is
stop_well stops.AcceptFault missed printed is = absurd (cc)
stop_well stops.OutOfMemory missed printed is = absurd (cc)

record_well : (state : SinkState) (whole : Bool) → Done ≡ end_of_record state whole → (state ≡ Whole) × (whole ≡ true)
record_well Whole true is = (refl, refl)
record_well Whole false is = absurd (cc)
record_well Failed whole is = absurd (cc)
record_well Lost whole is = absurd (cc)

never_deaf : (Done ≡ ListenFault) ⊎ (Done ≡ OutOfMemory) → ⊥
never_deaf (inl is) = cc
never_deaf (inr is) = cc

module _ {I O T : Type 0} (R : Type 0) (read_half : I → ReadHalf) (write_half : O → WriteHalf) (given : T → Option (List ℕ)) (seed : List ℕ) where
  -- All of the journal of the one history was printed.
  whole_printed : (host : HostWords) (old new : HostSide) (served : HostServed I O T R) → HostsSample read_half write_half given seed host old new served
      → IsInRange host.options → HostEnds Journal (hosted_opening seed host.options) old.output new.output (Some served) Done → PrintsJournal seed host old.output new.output
  whole_printed host old new served links range ends =
      let opening = hosted_opening seed host.options in
      let hosts = links.2 in
      let printed = ends.1 in
      let well = record_well printed.0 served.whole (sym (stop_well served.stop served.tick_missed ends.0 ends.2) ∙ printed.2) in
      let all = hosts.all_handed well.1 in
      let legal : IsLegal (hosted_space seed host.options) served.space.events = subst (λ (c : SpaceConfig). IsLegal c served.space.events) hosts.config hosts.legal in
      let held = text_held old.output new.output opening (opening.events ++ served.taker.events) printed.0 well.0 printed.1 in record {
        events = served.space.events;
        legal = legal;
        printed = held ∙ ap (λ (events : List Event). with_end old.output.held (journal_text (hosted_space seed host.options) events)) (sym all);
        replays = λ read. journal_replays (hosted_space seed host.options) served.space.events (space_uid seed host.options) (space_fits seed host.options range) legal read;
      }
    where
      text_held : (a b : WriteHalf) (opening : SpaceHistory) (events : List Event) (state : SinkState) → state ≡ Whole
          → Wrote a.held b.held a.faults b.faults (journal_lines opening.configuration events) state → b.held ≡ with_end a.held (journal_text opening.configuration events)
      text_held a b opening events Whole is wrote = wrote.0 ∙ ap (λ (text : List ℕ). with_end a.held text) (lines_of_journal opening.configuration events)
      text_held a b opening events Failed is wrote = absurd (cc)
      text_held a b opening events Lost is wrote = absurd (cc)

  -- So it is where a run of `host` that records its events ended well.
  pub prints_journal : (host : HostWords) (old new : HostSide) → Hosts R read_half write_half given seed host old new Done → host.output ≡ Journal → IsInRange host.options
      → PrintsJournal seed host old.output new.output
  prints_journal host old new hosts is range = by hosts.served hosts.links hosts.ends
    where
      by : (served : Option (HostServed I O T R)) → IfSome served (HostsSample read_half write_half given seed host old new)
          → HostEnds host.output (hosted_opening seed host.options) old.output new.output served Done → PrintsJournal seed host old.output new.output
      by None links ends = absurd (never_deaf ends.0)
      by (Some served) links ends =
          whole_printed host old new served links range
          (subst (λ (recording : Record). HostEnds recording (hosted_opening seed host.options) old.output new.output (Some served) Done) is ends)

  -- The same of a run whose status is 0.
  pub hosting_prints : (host : HostWords) (old new : HostSide) (told : Reported) → Hosting R read_half write_half given seed host old new told → told.status ≡ 0 → host.output ≡ Journal
      → IsInRange host.options → PrintsJournal seed host old.output new.output
  hosting_prints host old new told hosting zero is range =
      let done = hosting_done R read_half write_half given seed host old new told hosting zero in
      prints_journal host old new (subst (λ (end : RunEnd). Hosts R read_half write_half given seed host old new end) done hosting.hosts) is range
