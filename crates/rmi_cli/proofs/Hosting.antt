-- How a run of `host` goes and ends.
use Rattle.std.proofs.Common.{◌≡◌, ◌≢◌, ◌≤◌, ◌<◌, ◌⊎◌, ℕ, List, [], ◌∷◌, ◌++◌, length, take, Option, None, Some, ap, ap₂, refl, sym, subst, ◌∙◌, inl, inr, arith, append-nil}
use Rattle.std.specs.Prelude.{◌↔◌, Bool, IsTrue, true, false, map}
use Rattle.std.proofs.lemmas.List.{length-append, map-append}
use Rattle.std.specs.List.Sorted.{IsPermutation}
use Rattle.wire_io.specs.Links.{Accepted, Listening, with_next}
use Rattle.wire_io.specs.Wire.{ReadHalf, WriteHalf, with_end, with_end-with_end, with_end-nothing, Rose}
use Rattle.history.specs.declared.asks.Event.{Event}
use Rattle.history.specs.declared.asks.SpaceConfig.{SpaceConfig}
use Rattle.journal.specs.Written.{config_text, event_line, journal_text, with_line_end}
use Rattle.object_ids.specs.declared.ids.Uid.{Uid}
use Rattle.history.specs.Steps.{IsLegal}
use Rattle.space.specs.Built.{SpaceHistory}
use Rattle.space.specs.EventLists.{CollectsEach}
use Rattle.space.specs.declared.asked.Asked.{Asked}
use Rattle.system_objects.specs.declared.book.Kind.{Kind}
use Rattle.turn_lock.specs.Handles.{opening_of}
use Rattle.turn_lock.specs.Rule.{StartsWith}
use Rattle.sample_app.specs.Does.{May, Moves}
use Rattle.sample_app.specs.Kinds.{sample_kinds}
use Rattle.sample_app.specs.declared.crew.SampleHand.{SampleHand}
use Rattle.conn_server.specs.Accepts.{ticks_of}
use Rattle.conn_server.specs.Taken.{Taken}
use Rattle.conn_server.specs.Hosts.{HostsLinks}
use Rattle.conn_server.specs.Quiet.{TicksQuietly}
use Rattle.conn_server.specs.Reports.{AreTurnsOf, IsLinkOf, IsReportOf, events_after}
use Rattle.conn_server.specs.Rows.{Paired}
use Rattle.conn_server.specs.Stops.{AreGivenBack, HostStopped, IsLostLink}
use Rattle.conn_server.specs.declared.admission.LostLink.{LostLink}
use Rattle.conn_server.specs.declared.accept_loop.Stop.{Stop}
use Rattle.conn_server.specs.declared.accept_loop.Stop.TheVariants as stops
use Rattle.conn_server.specs.declared.link_task.LinkReport.{LinkReport}
use Rattle.conn_server.specs.declared.plan.ServePlan.{ServePlan}
use Rattle.conn_server.specs.declared.plan.TheConstants.{LAST_NUMBER}
use Rattle.conn_server.specs.declared.server.Hosted.{Hosted}
use Rattle.rmi_words.specs.declared.command.Command.{Command}
use Rattle.rmi_words.specs.declared.command.Command.TheVariants.{Host}
use Rattle.rmi_words.specs.declared.host_words.HostWords.{HostWords}
use Rattle.rmi_words.specs.declared.host_words.Record.{Record}
use Rattle.rmi_words.specs.declared.host_words.Record.TheVariants.{Silent, Journal}
use Rattle.rmi_cli.specs.Desk.{taken_of, recorded_lines, told_lines}
use Rattle.rmi_cli.specs.Line.{status_of_run}
use Rattle.rmi_cli.specs.LinkLine.{listening_line}
use Rattle.rmi_cli.specs.Opening.{hosted_opening}
use Rattle.rmi_cli.specs.ServedLinks.{Printed, end_after}
use Rattle.rmi_cli.specs.Hosted.{AreHostTimed, ArePartsOf, AreReady, HostEnds, HostPrinted, HostServed, HostSide, Hosting, Hosts, HostsFrom, HostsTelling, IsClosed, TellsHost, after_ticks, end_of_record, first_text, hand_shown, host_lines, host_plan, host_side, journal_lines, is_recorded}
use Rattle.rmi_cli.specs.Sinks.{Goes, Wrote, WroteLess, joined}
use Rattle.rmi_cli.specs.Told.{Reported, TellsEnd, TellsExactly, Took, told_line, told_of_halves}
use Rattle.rmi_cli.specs.declared.end.RunEnd.{RunEnd}
use Rattle.rmi_cli.specs.declared.end.RunEnd.TheVariants.{Usage, Answered, Talked, Done, BadLine, Refused, TooLarge, NotShown, ListenFault, AcceptFault, ReadFault, WriteFault, OutOfMemory}
use Rattle.rmi_cli.specs.declared.host_parts.HostParts.{HostParts}
use Rattle.rmi_cli.specs.declared.sink_state.SinkState.{SinkState}
use Rattle.rmi_cli.specs.declared.sink_state.SinkState.TheVariants.{Whole, Failed, Lost}
use Rattle.rmi_cli.proofs.Settled.{IsServed}
use Rattle.rmi_cli.proofs.Sinking.{goes_count, goes_nothing, goes_on, joined_lines, less_behind, less_longer, rose_late}

same_host : (a b : HostWords) → Host a ≡ Host b → a ≡ b
same_host a b same = cc

-- ---- how printing ends

-- Printing ended well, or the output failed, or memory lacked.
abbrev pub IsPrinted : ℕ → ℕ → RunEnd → Type 0
IsPrinted faults faults2 printed = (printed ≡ Done) ⊎ (((printed ≡ WriteFault) × Rose faults faults2) ⊎ (printed ≡ OutOfMemory))

printed_so : (held held2 : Option (List ℕ)) (faults faults2 : ℕ) (text : List ℕ) (printed : RunEnd) → Printed held held2 faults faults2 text printed → IsPrinted faults faults2 printed
printed_so held held2 faults faults2 text printed (inl whole) = inl whole.0
printed_so held held2 faults faults2 text printed (inr (inl less)) = inr (inl (less.0, less.2))
printed_so held held2 faults faults2 text printed (inr (inr none)) = inr (inr none.0)

recorded_so : (held held2 : Option (List ℕ)) (faults faults2 : ℕ) (pieces : List (List ℕ)) (state : SinkState) (whole : Bool) (printed : RunEnd) → Wrote held held2 faults faults2 pieces state
    → printed ≡ end_of_record state whole → IsPrinted faults faults2 printed
recorded_so held held2 faults faults2 pieces Whole true printed wrote is = inl is
recorded_so held held2 faults faults2 pieces Whole false printed wrote is = inr (inr is)
recorded_so held held2 faults faults2 pieces Failed whole printed wrote is = inr (inl (is, wrote.1))
recorded_so held held2 faults faults2 pieces Lost whole printed wrote is = inr (inr is)

host_printed : {I O T R : Type 0} (recording : Record) (opening : SpaceHistory) (old new : WriteHalf) (served : HostServed I O T R) (printed : RunEnd)
    → HostPrinted recording opening old new served printed → IsPrinted old.faults new.faults printed
host_printed Silent opening old new served printed p = printed_so old.held new.held old.faults new.faults _ printed p
host_printed Journal opening old new served printed p =
    recorded_so old.held new.held old.faults new.faults (journal_lines opening.configuration (opening.events ++ served.taker.events)) p.0 served.whole printed p.1 p.2

-- The same where a missed Tick is told, too.
ticks_printed : (faults faults2 : ℕ) (missed : Bool) (printed : RunEnd) → IsPrinted faults faults2 printed → IsPrinted faults faults2 (after_ticks missed printed)
ticks_printed faults faults2 false printed p = p
ticks_printed faults faults2 true printed (inl done) = inr (inr (ap (after_ticks true) done))
ticks_printed faults faults2 true printed (inr (inl fault)) = inr (inl (ap (after_ticks true) fault.0, fault.1))
ticks_printed faults faults2 true printed (inr (inr memory)) = inr (inr (ap (after_ticks true) memory))

-- A missed Tick changes no end but Done.
pub ticks_told : (printed : RunEnd) → (printed ≡ Done → ⊥) → after_ticks true printed ≡ printed
ticks_told Done not = absurd (not refl)
ticks_told Usage not = refl
ticks_told (Answered end) not = refl
ticks_told (Talked end) not = refl
ticks_told (BadLine line) not = refl
ticks_told Refused not = refl
ticks_told (TooLarge limit) not = refl
ticks_told (NotShown fault) not = refl
ticks_told ListenFault not = refl
ticks_told AcceptFault not = refl
ticks_told ReadFault not = refl
ticks_told WriteFault not = refl
ticks_told OutOfMemory not = refl

-- What the status of a run says, by its stop and by how printing ended.
settled : (faults faults2 : ℕ) (stop : Stop) (printed end : RunEnd) → IsPrinted faults faults2 printed → end ≡ end_after stop printed → IsServed (status_of_run end)
settled faults faults2 stops.All printed end (inl done) so = inl (ap status_of_run (so ∙ done))
settled faults faults2 stops.All printed end (inr (inl fault)) so = inr (inr (inl (ap status_of_run (so ∙ fault.0))))
settled faults faults2 stops.All printed end (inr (inr memory)) so = inr (inr (inr (ap status_of_run (so ∙ memory))))
settled faults faults2 stops.Told printed end (inl done) so = inl (ap status_of_run (so ∙ done))
settled faults faults2 stops.Told printed end (inr (inl fault)) so = inr (inr (inl (ap status_of_run (so ∙ fault.0))))
settled faults faults2 stops.Told printed end (inr (inr memory)) so = inr (inr (inr (ap status_of_run (so ∙ memory))))
settled faults faults2 stops.AcceptFault printed end p so = inr (inl (ap status_of_run so))
settled faults faults2 stops.OutOfMemory printed end p so = inr (inr (inr (ap status_of_run so)))

-- A run has no status of words.
known_of : (status : ℕ) → IsServed status → status ≢ 1
known_of status (inl is) bad = omega (arith, is, bad)
known_of status (inr (inl is)) bad = omega (arith, is, bad)
known_of status (inr (inr (inl is))) bad = omega (arith, is, bad)
known_of status (inr (inr (inr is))) bad = omega (arith, is, bad)

pub known_end : (faults faults2 : ℕ) (stop : Stop) (printed end : RunEnd) → IsPrinted faults faults2 printed → end ≡ end_after stop printed → status_of_run end ≢ 1
known_end faults faults2 stop printed end p so = known_of (status_of_run end) (settled faults faults2 stop printed end p so)

-- The output failed where the status says so.
pub failed_end : (faults faults2 : ℕ) (stop : Stop) (printed end : RunEnd) → IsPrinted faults faults2 printed → end ≡ end_after stop printed → status_of_run end ≡ 4 → Rose faults faults2
failed_end faults faults2 stops.All printed end (inl done) so is = absurd (omega (arith, sym is ∙ ap status_of_run (so ∙ done)))
failed_end faults faults2 stops.All printed end (inr (inl fault)) so is = fault.1
failed_end faults faults2 stops.All printed end (inr (inr memory)) so is = absurd (omega (arith, sym is ∙ ap status_of_run (so ∙ memory)))
failed_end faults faults2 stops.Told printed end (inl done) so is = absurd (omega (arith, sym is ∙ ap status_of_run (so ∙ done)))
failed_end faults faults2 stops.Told printed end (inr (inl fault)) so is = fault.1
failed_end faults faults2 stops.Told printed end (inr (inr memory)) so is = absurd (omega (arith, sym is ∙ ap status_of_run (so ∙ memory)))
failed_end faults faults2 stops.AcceptFault printed end p so is = absurd (omega (arith, sym is ∙ ap status_of_run so))
failed_end faults faults2 stops.OutOfMemory printed end p so is = absurd (omega (arith, sym is ∙ ap status_of_run so))

-- The listener failed where the status says so.
pub deaf_end : (faults faults2 : ℕ) (stop : Stop) (printed end : RunEnd) → IsPrinted faults faults2 printed → end ≡ end_after stop printed → status_of_run end ≡ 3 → stop ≡ stops.AcceptFault
deaf_end faults faults2 stops.All printed end (inl done) so is = absurd (omega (arith, sym is ∙ ap status_of_run (so ∙ done)))
deaf_end faults faults2 stops.All printed end (inr (inl fault)) so is = absurd (omega (arith, sym is ∙ ap status_of_run (so ∙ fault.0)))
deaf_end faults faults2 stops.All printed end (inr (inr memory)) so is = absurd (omega (arith, sym is ∙ ap status_of_run (so ∙ memory)))
deaf_end faults faults2 stops.Told printed end (inl done) so is = absurd (omega (arith, sym is ∙ ap status_of_run (so ∙ done)))
deaf_end faults faults2 stops.Told printed end (inr (inl fault)) so is = absurd (omega (arith, sym is ∙ ap status_of_run (so ∙ fault.0)))
deaf_end faults faults2 stops.Told printed end (inr (inr memory)) so is = absurd (omega (arith, sym is ∙ ap status_of_run (so ∙ memory)))
deaf_end faults faults2 stops.AcceptFault printed end p so is = refl
deaf_end faults faults2 stops.OutOfMemory printed end p so is = absurd (omega (arith, sym is ∙ ap status_of_run so))

-- All went well where the status says so.
zero_end : (faults faults2 : ℕ) (stop : Stop) (printed end : RunEnd) → IsPrinted faults faults2 printed → end ≡ end_after stop printed → status_of_run end ≡ 0 → end ≡ Done
zero_end faults faults2 stops.All printed end (inl done) so is = so ∙ done
zero_end faults faults2 stops.All printed end (inr (inl fault)) so is = absurd (omega (arith, sym is ∙ ap status_of_run (so ∙ fault.0)))
zero_end faults faults2 stops.All printed end (inr (inr memory)) so is = absurd (omega (arith, sym is ∙ ap status_of_run (so ∙ memory)))
zero_end faults faults2 stops.Told printed end (inl done) so is = so ∙ done
zero_end faults faults2 stops.Told printed end (inr (inl fault)) so is = absurd (omega (arith, sym is ∙ ap status_of_run (so ∙ fault.0)))
zero_end faults faults2 stops.Told printed end (inr (inr memory)) so is = absurd (omega (arith, sym is ∙ ap status_of_run (so ∙ memory)))
zero_end faults faults2 stops.AcceptFault printed end p so is = absurd (omega (arith, sym is ∙ ap status_of_run so))
zero_end faults faults2 stops.OutOfMemory printed end p so is = absurd (omega (arith, sym is ∙ ap status_of_run so))

-- ---- what a run prints

-- The lines of a journal are its text.
pub lines_of_journal : (config : SpaceConfig) (events : List Event) → joined (journal_lines config events) ≡ journal_text config events
unfolding journal_text
lines_of_journal config events = ap (λ (text : List ℕ). with_line_end (config_text config) ++ text) (joined_lines (event_line config.uid) events)

-- The journal goes on behind the one of the opening.
journal_more : (config : SpaceConfig) (events more : List Event) → journal_lines config events ++ map (event_line config.uid) more ≡ journal_lines config (events ++ more)
journal_more config events more = ap (λ (lines : List (List ℕ)). with_line_end (config_text config) ∷ lines) (sym (map-append (event_line config.uid) events more))

-- A sink that was given nothing holds what it held, and failed as often.
less_of_nothing : (held held2 : Option (List ℕ)) → WroteLess held held2 [] → ⊥
less_of_nothing held held2 w = omega (arith, w.1)

none_lost : (written rest : List (List ℕ)) (lost : List ℕ) → [] ≡ written ++ lost ∷ rest → ⊥
none_lost [] rest lost is = cc
none_lost (x ∷ written) rest lost is = cc

goes_still : (a b : WriteHalf) (first state : SinkState) → Goes a b [] first state → (b.held ≡ a.held) × (b.faults ≡ a.faults)
goes_still a b Whole Whole g = (g.0.0 ∙ with_end-nothing a.held, g.0.1)
goes_still a b Whole Failed g = absurd (less_of_nothing a.held b.held g.0.0)
goes_still a b Whole Lost g = absurd (none_lost g.0.0.written g.0.0.rest g.0.0.lost g.0.0.pieces_are)
goes_still a b Failed state g = (ap (λ h. h.held) g.0, ap (λ h. h.faults) g.0)
goes_still a b Lost state g = (ap (λ h. h.held) g.0, ap (λ h. h.faults) g.0)

print_late : (a b c : WriteHalf) (text : List ℕ) (printed : RunEnd) → b.held ≡ a.held → b.faults ≡ a.faults → Printed b.held c.held b.faults c.faults text printed
    → Printed a.held c.held a.faults c.faults text printed
print_late a b c text printed held count (inl whole) = inl (whole.0, whole.1 ∙ ap (λ h. with_end h text) held, whole.2 ∙ count)
print_late a b c text printed held count (inr (inl less)) = inr (inl (
  less.0,
  (less.1.0, less.1.1, less.1.2 ∙ ap (λ h. with_end h (take less.1.0 text)) held),
  rose_late a.faults b.faults c.faults (omega (arith, count)) less.2,
))
print_late a b c text printed held count (inr (inr none)) = inr (inr (none.0, none.1 ∙ held, none.2 ∙ count))

late_printed : (a b c : ℕ) (printed : RunEnd) → a ≤ b → IsPrinted b c printed → IsPrinted a c printed
late_printed a b c printed more (inl done) = inl done
late_printed a b c printed more (inr (inl fault)) = inr (inl (fault.0, rose_late a b c more fault.1))
late_printed a b c printed more (inr (inr memory)) = inr (inr memory)

-- A text that was written, in pieces of any lengths.
abbrev pub TextGoes : WriteHalf → WriteHalf → List ℕ → SinkState → Type 0
TextGoes before after text state = (pieces : List (List ℕ)) → text ≡ joined pieces → Goes before after pieces Whole state

pub one_text : (a b : WriteHalf) (text : List ℕ) (state : SinkState) → TextGoes a b text state → Goes a b (text ∷ []) Whole state
one_text a b text state goes = goes (text ∷ []) (sym (append-nil text))

-- How printing ended, whatever was printed.
pub closed_printed : {I O T C H : Type 0} (recording : Record) (first : List ℕ) (pieces : List (List ℕ)) (old mid mid2 new : WriteHalf) (state state2 : SinkState) (served : Hosted I O T C H) (end : RunEnd)
    → TextGoes old mid first state → Goes mid mid2 pieces state state2 → IsClosed recording mid2 new state2 served end
    → (printed : RunEnd) × IsPrinted old.faults new.faults printed × (end ≡ end_after served.stop printed)
closed_printed Silent first pieces old mid mid2 new state state2 served end begins goes closed =
    let one = goes_count old mid (first ∷ []) Whole state (one_text old mid first state begins) in
    let two = goes_count mid mid2 pieces state state2 goes in (
      after_ticks served.tick_missed closed.0,
      ticks_printed old.faults new.faults served.tick_missed closed.0
          (late_printed old.faults mid2.faults new.faults closed.0 (omega (arith, one, two)) (printed_so mid2.held new.held mid2.faults new.faults _ closed.0 closed.1)),
      closed.2,
    )
closed_printed Journal first pieces old mid mid2 new state state2 served end begins goes closed =
    let all = goes_on old mid mid2 (first ∷ []) pieces Whole state state2 (one_text old mid first state begins) goes in
    let whole : Goes old new (first ∷ pieces) Whole state2 = subst (λ (h : WriteHalf). Goes old h (first ∷ pieces) Whole state2) (sym closed.0) all in (
      after_ticks served.tick_missed (end_of_record state2 served.whole),
      ticks_printed old.faults new.faults served.tick_missed (end_of_record state2 served.whole)
          (recorded_so old.held new.held old.faults new.faults (first ∷ pieces) state2 served.whole _ whole.0 refl),
      closed.1,
    )

-- What was printed first, then of the events, and then at the end.
pub prints_all : {I O T R : Type 0} (recording recording2 : Record) (opening : SpaceHistory) (space : Uid) (first : List ℕ) (old mid mid2 new : WriteHalf) (state state2 : SinkState) (served : HostServed I O T R) (end : RunEnd)
    → recording ≡ recording2 → space ≡ opening.configuration.uid → first ≡ first_text recording2 opening
    → TextGoes old mid first state → Goes mid mid2 (recorded_lines recording space served.taker.events) state state2 → IsClosed recording mid2 new state2 served end
    → (printed : RunEnd) × HostPrinted recording2 opening old new served printed × (end ≡ end_after served.stop (after_ticks served.tick_missed printed))
prints_all Silent Silent opening space first old mid mid2 new state state2 served end is is_uid is_first begins goes closed =
    let one = goes_still old mid Whole state (begins [] is_first) in
    let two = goes_still mid mid2 state state2 goes in
    (closed.0, print_late old mid2 new _ closed.0 (two.0 ∙ one.0) (two.1 ∙ one.1) closed.1, closed.2)
prints_all Journal Journal opening space first old mid mid2 new state state2 served end is is_uid is_first begins goes closed =
    let lines = journal_lines opening.configuration opening.events in
    let begun = begins lines (is_first ∙ sym (lines_of_journal opening.configuration opening.events)) in
    let all = goes_on old mid mid2 lines (recorded_lines Journal space served.taker.events) Whole state state2 begun goes in
    let same : lines ++ recorded_lines Journal space served.taker.events ≡ journal_lines opening.configuration (opening.events ++ served.taker.events) =
    ap (λ (u : Uid). lines ++ map (event_line u) served.taker.events) is_uid ∙ journal_more opening.configuration opening.events served.taker.events in
    let whole : Goes old new (journal_lines opening.configuration (opening.events ++ served.taker.events)) Whole state2 =
    subst (λ (h : WriteHalf). Goes old h (journal_lines opening.configuration (opening.events ++ served.taker.events)) Whole state2) (sym closed.0)
    (subst (λ (t : List (List ℕ)). Goes old mid2 t Whole state2) same all) in
    (end_of_record state2 served.whole, (state2, whole.0, refl), closed.1)
prints_all Silent Journal opening space first old mid mid2 new state state2 served end is is_uid is_first begins goes closed = absurd (cc)
prints_all Journal Silent opening space first old mid mid2 new state state2 served end is is_uid is_first begins goes closed = absurd (cc)

-- ---- what is told

-- A text was written behind another.
took_behind : (first mid final : WriteHalf) (status : ℕ) (text bytes : List ℕ) → mid.held ≡ with_end first.held text → first.faults ≤ mid.faults → Took (told_of_halves mid final status) bytes
    → Took (told_of_halves first final status) (text ++ bytes)
took_behind first mid final status text bytes held count (inl all) = inl (all ∙ ap (λ h. with_end h bytes) held ∙ with_end-with_end first.held text bytes)
took_behind first mid final status text bytes held count (inr front) =
    let w = less_behind first.held mid.held final.held text bytes held (front.sent, front.less, front.held) in
    inr (record { sent = w.0; less = w.1; held = w.2; rose = rose_late first.faults mid.faults final.faults count front.rose })

-- The end is told behind all lines.
pub tells_behind : (first mid final : WriteHalf) (status : ℕ) (lines : List (List ℕ)) (end : RunEnd) (state : SinkState) → state ≡ Whole → Goes first mid lines Whole state
    → TellsEnd (told_of_halves mid final status) end → TellsHost (told_of_halves first final status) lines end
tells_behind first mid final status lines end Whole is g (inl tells) = inl (tells.0, took_behind first mid final status (joined lines) (told_line end) g.0.0 g.1 tells.1)
tells_behind first mid final status lines end Whole is g (inr tells) = inr (
    record {
      status = tells.1.0;
      written = lines;
      lost = [];
      lines_are = sym (append-nil lines);
      took = took_behind first mid final status (joined lines) (told_line OutOfMemory) g.0.0 g.1 tells.1.1;
      cause = inl tells.0;
    }
    )
tells_behind first mid final status lines end Failed is g tells = absurd (cc)
tells_behind first mid final status lines end Lost is g tells = absurd (cc)

-- Where the errors' sink had failed, the end's line wasn't written.
pub tells_failed : (first mid : WriteHalf) (status : ℕ) (lines : List (List ℕ)) (end : RunEnd) (state : SinkState) → status ≡ status_of_run end → state ≡ Failed → Goes first mid lines Whole state
    → TellsHost (told_of_halves first mid status) lines end
tells_failed first mid status lines end Failed is failed g =
    let w = less_longer first.held mid.held (joined lines) (told_line end) g.0.0 in inl (is, inr (record { sent = w.0; less = w.1; held = w.2; rose = g.0.1 }))
tells_failed first mid status lines end Whole is failed g = absurd (cc)
tells_failed first mid status lines end Lost is failed g = absurd (cc)

-- Where a line was lost, that is told behind the lines before it.
pub tells_lost : (first mid final : WriteHalf) (status : ℕ) (lines : List (List ℕ)) (end : RunEnd) (state : SinkState) → state ≡ Lost → Goes first mid lines Whole state
    → TellsExactly (told_of_halves mid final status) OutOfMemory → TellsHost (told_of_halves first final status) lines end
tells_lost first mid final status lines end Lost is g tells = inr (
    record {
      status = tells.0;
      written = g.0.0.written;
      lost = g.0.0.lost ∷ g.0.0.rest;
      lines_are = g.0.0.pieces_are;
      took = took_behind first mid final status (joined g.0.0.written) (told_line OutOfMemory) g.0.0.held_is g.1 tells.1;
      cause = inr (λ same. cc);
    }
    )
tells_lost first mid final status lines end Whole is g tells = absurd (cc)
tells_lost first mid final status lines end Failed is g tells = absurd (cc)

told_settled : (status status2 : ℕ) → status ≡ status2 → IsServed status2 → (status ≡ 3 → ⊥) → (status ≡ 4 → ⊥) → (status ≡ 0) ⊎ (status ≡ 5)
told_settled status status2 same (inl well) unread unwritten = inl (same ∙ well)
told_settled status status2 same (inr (inl fault)) unread unwritten = absurd (unread (same ∙ fault))
told_settled status status2 same (inr (inr (inl fault))) unread unwritten = absurd (unwritten (same ∙ fault))
told_settled status status2 same (inr (inr (inr memory))) unread unwritten = inr (same ∙ memory)

host_told : (told : Reported) (lines : List (List ℕ)) (end : RunEnd) → TellsHost told lines end → IsServed (status_of_run end) → (told.status ≡ 3 → ⊥) → (told.status ≡ 4 → ⊥)
    → (told.status ≡ 0) ⊎ (told.status ≡ 5)
host_told told lines end (inl tells) served unread unwritten = told_settled told.status (status_of_run end) tells.0 served unread unwritten
host_told told lines end (inr tells) served unread unwritten = inr tells.status

module _ {I O T : Type 0} (R : Type 0) (read_half : I → ReadHalf) (write_half : O → WriteHalf) (given : T → Option (List ℕ)) (seed : List ℕ) where
  -- Nothing was served.
  pub hosts_none : (host : HostWords) (side : HostSide) (end : RunEnd) → (end ≡ ListenFault) ⊎ (end ≡ OutOfMemory) → Hosts R read_half write_half given seed host side side end
  hosts_none host side end is = record { served = None; alone = (inl refl, refl); links = tt; times = tt; recorded = tt; ends = (is, refl) }

  pub telling_none : (host : HostWords) (side : HostSide) (errors : WriteHalf) (end : RunEnd) → (end ≡ ListenFault) ⊎ (end ≡ OutOfMemory)
      → HostsTelling R read_half write_half given seed host side side errors errors Whole end
  unfolding hosts_none
  telling_none host side errors end is = (hosts_none host side end is, goes_nothing errors Whole)

  -- Nothing was done where there was no memory to read the words.
  pub hosting_none : (host : HostWords) (side : HostSide) (told : Reported) → TellsExactly told OutOfMemory → Hosting R read_half write_half given seed host side side told
  unfolding hosts_none
  hosting_none host side told tells = record {
    end = OutOfMemory;
    hosts = hosts_none host side OutOfMemory (inr refl);
    tells = inl tells;
  }

  -- The run that is named twice was made.
  pub hosts_named : (command : Command) (a b : HostWords) (old new : HostSide) (told : Reported) → command ≡ Host a → command ≡ Host b
      → Hosting R read_half write_half given seed a old new told → Hosting R read_half write_half given seed b old new told
  hosts_named command a b old new told is is2 = subst (λ (h : HostWords). Hosting R read_half write_half given seed h old new told) (same_host a b (sym is ∙ is2))

  ended : (host : HostWords) (opening : SpaceHistory) (old new : WriteHalf) (served : Option (HostServed I O T R)) (end : RunEnd) → HostEnds host.output opening old new served end → IsServed (status_of_run end)
  ended host opening old new None end (inl fault, held) = inr (inl (ap status_of_run fault))
  ended host opening old new None end (inr memory, held) = inr (inr (inr (ap status_of_run memory)))
  ended host opening old new (Some served) end ends =
      settled old.faults new.faults served.stop (after_ticks served.tick_missed ends.0) end
      (ticks_printed old.faults new.faults served.tick_missed ends.0 (host_printed host.output opening old new served ends.0 ends.1)) ends.2

  well : (host : HostWords) (opening : SpaceHistory) (old new : WriteHalf) (served : Option (HostServed I O T R)) (end : RunEnd) → HostEnds host.output opening old new served end → status_of_run end ≡ 0 → end ≡ Done
  well host opening old new None end (inl fault, held) is = absurd (omega (arith, sym is ∙ ap status_of_run fault))
  well host opening old new None end (inr memory, held) is = absurd (omega (arith, sym is ∙ ap status_of_run memory))
  well host opening old new (Some served) end ends is =
      zero_end old.faults new.faults served.stop (after_ticks served.tick_missed ends.0) end
      (ticks_printed old.faults new.faults served.tick_missed ends.0 (host_printed host.output opening old new served ends.0 ends.1)) ends.2 is

  -- The status 0 tells that all was done.
  pub hosting_done : (host : HostWords) (old new : HostSide) (told : Reported) (hosting : Hosting R read_half write_half given seed host old new told) → told.status ≡ 0 → hosting.end ≡ Done
  hosting_done host old new told hosting zero = by hosting.tells
    where
      by : TellsHost told (host_lines host hosting.hosts.served) hosting.end → hosting.end ≡ Done
      by (inl tells) = well host _ old.output new.output hosting.hosts.served hosting.end hosting.hosts.ends (sym tells.0 ∙ zero)
      by (inr tells) = absurd (omega (arith, sym zero ∙ tells.status))

  -- Where neither the listener nor the output failed, all went well, or memory lacked.
  pub hosting_settles : (host : HostWords) (old new : HostSide) (told : Reported) → Hosting R read_half write_half given seed host old new told
      → (told.status ≡ 3 → ⊥) → (told.status ≡ 4 → ⊥) → (told.status ≡ 0) ⊎ (told.status ≡ 5)
  hosting_settles host old new told hosting unread unwritten =
      host_told told _ hosting.end hosting.tells (ended host _ old.output new.output hosting.hosts.served hosting.end hosting.hosts.ends) unread unwritten

  -- What a server that was given a desk hosted is what its desk was given.
  pub hosts_given : {C : Type 0} (taken : C → Taken (LinkReport I O T (SampleHand R))) (IsLink : ℕ → Accepted × Asked → LinkReport I O T (SampleHand R) → Type 0) (opening : SpaceHistory) (count : ℕ)
      (before after : Listening) (gave_first gave_last : Option (List ℕ)) (h : Hosted I O T C (SampleHand R)) (served : HostServed I O T R)
      → taken h.taker ≡ taken_of served.taker → (served.stop ≡ h.stop) × (served.lost ≡ h.lost) × (served.space ≡ h.space) × (served.whole ≡ h.whole) × (served.hand ≡ h.hand) × (served.tick_missed ≡ h.tick_missed) × (served.ticks_missed ≡ h.ticks_missed) × (served.recorded ≡ h.recorded)
      → HostsLinks IsLink (IsLostLink read_half write_half given) hand_shown Moves taken opening count before after gave_first gave_last h
      → HostsLinks IsLink (IsLostLink read_half write_half given) hand_shown Moves taken_of opening count before after gave_first gave_last served
  hosts_given taken IsLink opening count before after gave_first gave_last h served same rest x =
      let IsLost = IsLostLink read_half write_half given in
      let Quiet : ℕ → SpaceHistory → List Asked → Option (SampleHand R) → Type 0 = λ missed s ticks hand.
      TicksQuietly hand_shown Moves opening s.events missed gave_first gave_last before.quiets after.quiets (ticks_of x.served) ticks hand in
      let space = sym rest.2 in record {
        config = subst (λ (s : SpaceHistory). s.configuration ≡ opening.configuration) space x.config;
        legal = subst (λ (s : SpaceHistory). IsLegal s.configuration s.events) space x.legal;
        begins = subst (λ (s : SpaceHistory). StartsWith s.events opening.events) space x.begins;
        collects = subst (λ (s : SpaceHistory). CollectsEach s.configuration [] [] s.events s.events s.rows) space x.collects;
        served = x.served;
        links = x.links;
        missed = x.missed;
        told_links = x.told_links;
        reported = subst (λ (s : SpaceHistory). Paired (IsReportOf IsLink opening s) 1 x.served x.links) space x.reported;
        reports = subst (λ (c : Taken (LinkReport I O T (SampleHand R))). IsPermutation x.links c.reports) same x.reports;
        ticks = subst (λ (s : SpaceHistory). AreTurnsOf opening 0 (taken_of served.taker).ticks s) space
            (subst (λ (c : Taken (LinkReport I O T (SampleHand R))). AreTurnsOf opening 0 c.ticks h.space) same x.ticks);
        quiet = subst (λ (missed : ℕ). Quiet missed served.space (taken_of served.taker).ticks served.hand) (sym rest.6)
            (subst (λ (s : SpaceHistory). Quiet h.ticks_missed s (taken_of served.taker).ticks served.hand) space
            (subst (λ (a : Option (SampleHand R)). Quiet h.ticks_missed h.space (taken_of served.taker).ticks a) (sym rest.4)
            (subst (λ (c : Taken (LinkReport I O T (SampleHand R))). Quiet h.ticks_missed h.space c.ticks h.hand) same x.quiet)));
        any_missed = subst (λ (any : Bool). IsTrue any ↔ (0 < served.ticks_missed)) (sym rest.5) (subst (λ (n : ℕ). IsTrue h.tick_missed ↔ (0 < n)) (sym rest.6) x.any_missed);
        others = subst (λ (s : SpaceHistory). (n : ℕ) → length x.links < n → events_after opening n s ≡ []) space x.others;
        stopped = subst (λ (s : Stop). HostStopped s after.told count (length x.links) x.missed) (sym rest.0) x.stopped;
        fault = λ is. x.fault (sym rest.0 ∙ is);
        back = subst (λ (l : Option (LostLink I O T)). AreGivenBack IsLost x.missed l) (sym rest.1) x.back;
        untold = subst (λ (s : Stop). s ≢ stops.Told → after.told ≡ before.told) (sym rest.0) x.untold;
        closed = x.closed;
        waited = x.waited;
        handed = subst (λ (s : SpaceHistory). StartsWith s.events (opening.events ++ (taken_of served.taker).events)) space
            (subst (λ (c : Taken (LinkReport I O T (SampleHand R))). StartsWith h.space.events (opening.events ++ c.events)) same x.handed);
        all_handed = λ all. subst (λ (s : SpaceHistory). s.events ≡ opening.events ++ (taken_of served.taker).events) space
            (subst (λ (c : Taken (LinkReport I O T (SampleHand R))). h.space.events ≡ opening.events ++ c.events) same (x.all_handed (sym rest.3 ∙ all)));
      }

  -- What a server hosted by these parts is what the seed and the words say.
  pub hosts_from : (host : HostWords) (parts : HostParts R) (before after : Listening) (gave_first gave_last : Option (List ℕ)) (served : HostServed I O T R)
      → ArePartsOf seed host parts → AreReady parts
      → HostsLinks (IsLinkOf read_half write_half given hand_shown May Moves parts.book parts.plan) (IsLostLink read_half write_half given) hand_shown Moves taken_of
      (opening_of parts.lock) parts.plan.count before after gave_first gave_last served
      → HostsFrom read_half write_half given seed host before after gave_first gave_last served
  hosts_from host parts before after gave_first gave_last served are ready hosts =
      let ByBook : List Kind → Type 0 = λ k. HostsLinks (IsLinkOf read_half write_half given hand_shown May Moves k parts.plan) (IsLostLink read_half write_half given) hand_shown Moves taken_of
      (opening_of parts.lock) parts.plan.count before after gave_first gave_last served in
      let ByPlan : ServePlan → Type 0 = λ p. HostsLinks (IsLinkOf read_half write_half given hand_shown May Moves sample_kinds p) (IsLostLink read_half write_half given) hand_shown Moves taken_of
      (opening_of parts.lock) p.count before after gave_first gave_last served in
      let ByOpening : SpaceHistory → Type 0 = λ s. HostsLinks (IsLinkOf read_half write_half given hand_shown May Moves sample_kinds (host_plan seed host)) (IsLostLink read_half write_half given) hand_shown Moves taken_of
      s LAST_NUMBER before after gave_first gave_last served in
      subst ByOpening are.opening (subst ByPlan are.plan (subst ByBook ready.book hosts))

  -- Links were served once the listener listened, and all was told.
  pub hosts_heard : (host : HostWords) (address : List ℕ) (port : ℕ) (old heard new : Listening) (given_old given_new : Option (List ℕ)) (output output2 : WriteHalf) (served : HostServed I O T R) (end : RunEnd)
      (errors errors_mid errors2 : WriteHalf) (told told2 : SinkState)
      → address ≡ host.address → port ≡ host.port → heard.ports ≡ with_next old.ports (address, port) → heard.accepted ≡ old.accepted → heard.faults ≡ old.faults → heard.told ≡ old.told → heard.quiets ≡ old.quiets → heard.accepts ≡ old.accepts
      → new.ports ≡ heard.ports
      → HostsFrom read_half write_half given seed host heard new given_old given_new served
      → AreHostTimed given served → served.recorded ≡ is_recorded host.output
      → HostEnds host.output (hosted_opening seed host.options) output output2 (Some served) end
      → Goes errors errors_mid (listening_line address port ∷ []) Whole told → Goes errors_mid errors2 (told_lines served.taker.reports) told told2
      → HostsTelling R read_half write_half given seed host (host_side old given_old output) (host_side new given_new output2) errors errors2 told2 end
  hosts_heard host address port old heard new given_old given_new output output2 served end errors errors_mid errors2 told told2 is_address is_port listens same unfailed same_told same_quiets same_accepts same_ports links times recorded ends line lines =
      let heard_at : heard.ports ≡ with_next old.ports (host.address, host.port) = listens ∙ ap₂ (λ (a : List ℕ) (n : ℕ). with_next old.ports (a, n)) is_address is_port in
      let at = ap₂ (λ (a : List ℕ) (n : ℕ). listening_line a n) is_address is_port in (
        record {
          served = Some served;
          alone = same_ports ∙ heard_at;
          links = (heard, record { ports = heard_at; accepted = same; faults = unfailed; same_told = same_told; quiets = same_quiets; accepts = same_accepts }, links);
          times = times;
          recorded = recorded;
          ends = ends;
        },
        goes_on errors errors_mid errors2 (listening_line host.address host.port ∷ []) (told_lines served.taker.reports) Whole told told2
            (subst (λ (t : List ℕ). Goes errors errors_mid (t ∷ []) Whole told) at line) lines,
      )

  -- The port could not be listened on.
  pub hosts_deaf : (host : HostWords) (old heard : Listening) (given_old : Option (List ℕ)) (output errors : WriteHalf) → heard.ports ≡ old.ports → heard.accepted ≡ old.accepted
      → HostsTelling R read_half write_half given seed host (host_side old given_old output) (host_side heard given_old output) errors errors Whole ListenFault
  hosts_deaf host old heard given_old output errors ports same =
      (record { served = None; alone = (inl ports, same); links = tt; times = tt; recorded = tt; ends = (inl refl, refl) }, goes_nothing errors Whole)
