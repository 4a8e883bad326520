-- Replays, line after line.
use Rattle.std.proofs.Common.{◌≡◌, ℕ, ◌+◌, ◌≤◌, ◌<◌, List, [], ◌∷◌, ◌++◌, length, Option, Some, None, Result, Ok, Err, false, refl, ap, sym, subst, ◌∙◌, inl, inr, arith, append_assoc, append-nil, length-append}
use Rattle.std.specs.Prelude.{◌==◌, ◌≢◌}
use Rattle.object_ids.specs.declared.ids.Uid.{Uid}
use Rattle.history.specs.declared.asks.SpaceConfig.{SpaceConfig}
use Rattle.history.specs.declared.asks.Event.{Event}
use Rattle.history.specs.declared.replies.Refused.{Refused}
use Rattle.history.specs.declared.replies.Refused.TheVariants.{HistoryFull, Full, OutOfMemory as NoMemory}
use Rattle.history.specs.declared.replies.Turn.{Turn}
use Rattle.history.specs.Limits.{limits, refusal}
use Rattle.history.specs.Steps.{answer_with, Step}
use Rattle.history.specs.Table.{places}
use Rattle.journal.specs.Parts.{Lacks}
use Rattle.journal.specs.Grammar.{SpellsConfig, SpellsEvent, SpellsFront}
use Rattle.journal.proofs.Laws.{event_lacks, config_lacks}
use Rattle.space.proofs.ListLaws.{taken-after}
use Rattle.rmi_cli.specs.declared.outlines.ReplayFault.{ReplayFault}
use Rattle.rmi_cli.specs.declared.outlines.ReplayFault.TheVariants.{BadLine, Refused as RefusedTurn, OutOfMemory}
use Rattle.history.specs.Outline.{outline}
use Rattle.history.specs.declared.limits.TheConstants.{END_OF_TIME}
use Rattle.rmi_cli.specs.Replay.{EventIsTaken, TakesLines, BeginsWith, OpensJournal, ReplayStops, LinesGo, AllTaken, IsJournalUpTo, Outlines, Replays}
use Rattle.rmi_cli.specs.Taking.{TakesLine, IsTakenTo, Halts, fault_of, TakesTo}

-- ---- lines and their ends

is_no_end : (c : ℕ) → c ≡ 10 → (c == 10) ≡ false → ⊥
is_no_end c is not = grind (arith, is, not)

-- Two lines without LF, each ended by one in the same bytes, are the same line, and the same bytes follow.
pub record SameLine (a b x y : List ℕ) : Type 0 where
  pub line : a ≡ b
  pub rest : x ≡ y

same_line : (a b x y : List ℕ) → Lacks 10 a → Lacks 10 b → a ++ 10 ∷ x ≡ b ++ 10 ∷ y → SameLine a b x y
same_line [] [] x y p q same = record { line = refl; rest = grind arith }
same_line [] (d ∷ b) x y p q same = absurd (is_no_end d (grind arith) q.0)
same_line (c ∷ a) [] x y p q same = absurd (is_no_end c (grind arith) p.0)
same_line (c ∷ a) (d ∷ b) x y p q same =
    let first : c ≡ d = grind arith in
    let others : a ++ 10 ∷ x ≡ b ++ 10 ∷ y = grind arith in
    let more = same_line a b x y p.1 q.1 others in record { line = ap (λ n. n ∷ a) first ∙ ap (λ xs. d ∷ xs) more.line; rest = more.rest }

-- Bytes without LF hold no ended line.
no_line : (lines line rest : List ℕ) → Lacks 10 lines → lines ≡ line ++ 10 ∷ rest → ⊥
no_line [] [] rest p is = grind (arith, is)
no_line [] (c ∷ line) rest p is = grind (arith, is)
no_line (b ∷ lines) [] rest p is = is_no_end b (grind (arith, is)) p.0
no_line (b ∷ lines) (c ∷ line) rest p is = no_line lines line rest p.1 (grind arith)

-- ---- lines that are read

-- The lines after the first are shorter.
pub line_shorter : (config : SpaceConfig) (lines more : List ℕ) (e : Event) → TakesLine config lines e more → length more + 1 ≤ length lines
line_shorter config lines more e (line, spells, is) = omega (arith, ap length is, length-append line (10 ∷ more))

moment_of : (uid : Uid) (e : Event) (line : List ℕ) → SpellsEvent uid e line → e.moment < END_OF_TIME
moment_of uid e line ([], words, is) = absurd words
moment_of uid e line (a ∷ [], words, is) = absurd words.1
moment_of uid e line (a ∷ b ∷ more, words, is) = words.1.0.0

-- The event that a line spells is not too late.
pub line_moment : (config : SpaceConfig) (lines more : List ℕ) (e : Event) → TakesLine config lines e more → e.moment < END_OF_TIME
line_moment config lines more e (line, spells, is) = moment_of config.uid e line spells

-- ---- turns

was_taken : (config : SpaceConfig) (h h2 : List Event) (e : Event) (turn : Turn) → Step config h e (Ok turn) h2 → EventIsTaken config h e
was_taken config h h2 e turn (inl p) = go (refusal (limits config) config (places config h) e) p.0
  where
    go : (r : Option Refused) → Ok turn ≡ answer_with config h e r → r ≡ None
    go None a = refl
    go (Some refused) a = absurd (cc)
was_taken config h h2 e turn (inr q) = absurd (cc)

-- It is refused for a cause, unless memory is wanting.
was_refused : (config : SpaceConfig) (h h2 : List Event) (e : Event) (refused : Refused) → (refused ≡ NoMemory → ⊥) → Step config h e (Err refused) h2
    → (cause : Refused) × (refusal (limits config) config (places config h) e ≡ Some cause)
was_refused config h h2 e refused other (inl p) = go (refusal (limits config) config (places config h) e) p.0
  where
    go : (r : Option Refused) → Err refused ≡ answer_with config h e r → (cause : Refused) × (r ≡ Some cause)
    go None a = absurd (cc)
    go (Some cause) a = (cause, refl)
was_refused config h h2 e refused other (inr q) = absurd (other (cc))

-- An event that has a turn is taken.
pub turn_taken : (config : SpaceConfig) (h h2 : List Event) (e : Event) (turn : Turn) → Step config h e (Ok turn) h2 → IsTakenTo config h e h2
turn_taken config h h2 e turn s = (was_taken config h h2 e turn s, taken-after config h h2 e turn s)

-- One that is refused is not.
pub turn_halts : (config : SpaceConfig) (h h2 : List Event) (e : Event) (refused : Refused) → Step config h e (Err refused) h2 → Halts config h e (fault_of refused)
turn_halts config h h2 e HistoryFull s = was_refused config h h2 e HistoryFull (λ same. cc) s
turn_halts config h h2 e (Full kind) s = was_refused config h h2 e (Full kind) (λ same. cc) s
turn_halts config h h2 e NoMemory s = tt

-- ---- lines and the turns of their events

takes_both : (config : SpaceConfig) (h a b : List Event) (x y : List ℕ) → TakesLines config h a x → TakesLines config (h ++ a) b y → TakesLines config h (a ++ b) (x ++ y)
takes_both config h [] b x y s t =
    let P : List ℕ → Type 0 = λ r. TakesLines config h b (r ++ y) in
    let Q : List Event → Type 0 = λ g. TakesLines config g b y in
    subst P (sym s) (subst Q (append-nil h) t)
takes_both config h (e ∷ a) b x y (line, rest, spells, taken, others, is) t =
    let Q : List Event → Type 0 = λ g. TakesLines config g b y in
    (line, rest ++ y, spells, taken, takes_both config (h ++ e ∷ []) a b rest y others (subst Q (sym (append_assoc h (e ∷ []) a)) t), ap (λ r. r ++ y) is ∙ append_assoc line (10 ∷ rest) y)

-- The first line is taken.
pub takes_one : (config : SpaceConfig) (h h2 : List Event) (lines more : List ℕ) (e : Event) (number : ℕ) → TakesLine config lines e more → IsTakenTo config h e h2
    → TakesTo config h lines number more (number + 1) h2
takes_one config h h2 lines more e number (line, spells, is) (taken, after) = record {
  events = e ∷ [];
  front = line ++ 10 ∷ [];
  lines_are = is ∙ sym (append_assoc line (10 ∷ []) more);
  taken = (line, [], spells, taken, refl, refl);
  after = after;
  next_is = refl;
}

-- Further lines in front.
pub goes_on : (config : SpaceConfig) (h mid : List Event) (lines more : List ℕ) (number next : ℕ) (stop : Result (Unit {0}) ReplayFault) (h2 : List Event)
    → TakesTo config h lines number more next mid → LinesGo config mid more next stop h2 → LinesGo config h lines number stop h2
goes_on config h mid lines more number next stop h2 t goes =
    let P : List Event → Type 0 = λ g. TakesLines config g goes.events goes.front in
    let Q : ℕ → Type 0 = λ n. ReplayStops config h2 goes.rest n stop in
    let count : next + length goes.events ≡ number + length (t.events ++ goes.events) = omega (arith, t.next_is, length-append t.events goes.events) in record {
      events = t.events ++ goes.events;
      front = t.front ++ goes.front;
      rest = goes.rest;
      lines_are = t.lines_are ∙ ap (λ m. t.front ++ m) goes.lines_are ∙ sym (append_assoc t.front goes.front goes.rest);
      taken = takes_both config h t.events goes.events t.front goes.front t.taken (subst P t.after goes.taken);
      after = goes.after ∙ ap (λ g. g ++ goes.events) t.after ∙ append_assoc h t.events goes.events;
      stops = subst Q count goes.stops;
    }

-- No line is taken here.
pub stops_here : (config : SpaceConfig) (h : List Event) (lines : List ℕ) (number : ℕ) (stop : Result (Unit {0}) ReplayFault)
    → ReplayStops config h lines number stop → LinesGo config h lines number stop h
stops_here config h lines number stop stops = record {
  events = [];
  front = [];
  rest = lines;
  lines_are = refl;
  taken = refl;
  after = sym (append-nil h);
  stops = subst (λ n. ReplayStops config h lines n stop) (omega arith) stops;
}

-- The first line is bad.
pub bad_here : (config : SpaceConfig) (h h2 : List Event) (lines : List ℕ) (number : ℕ) → h2 ≡ h → lines ≢ [] → ((e : Event) → BeginsWith config lines e → ⊥) → LinesGo config h lines number (Err (BadLine number)) h2
bad_here config h h2 lines number same some none =
    subst (λ (g : List Event). LinesGo config h lines number (Err (BadLine number)) g) (sym same) (stops_here config h lines number (Err (BadLine number)) (some, none, refl))

-- There was no memory for the first line.
pub memory_here : (config : SpaceConfig) (h h2 : List Event) (lines : List ℕ) (number : ℕ) → h2 ≡ h → LinesGo config h lines number (Err OutOfMemory) h2
memory_here config h h2 lines number same =
    subst (λ (g : List Event). LinesGo config h lines number (Err OutOfMemory) g) (sym same) (stops_here config h lines number (Err OutOfMemory) tt)

-- The first line's event is not taken.
pub halts_here : (config : SpaceConfig) (h h2 : List Event) (lines more : List ℕ) (e : Event) (number : ℕ) (fault : ReplayFault) → h2 ≡ h → TakesLine config lines e more → Halts config h e fault
    → LinesGo config h lines number (Err fault) h2
halts_here config h h2 lines more e number (BadLine n) same t halt = absurd halt
halts_here config h h2 lines more e number RefusedTurn same (line, spells, is) cause =
    subst (λ (g : List Event). LinesGo config h lines number (Err RefusedTurn) g) (sym same) (stops_here config h lines number (Err RefusedTurn) (e, (line, more, spells, is), cause))
halts_here config h h2 lines more e number OutOfMemory same t halt = memory_here config h h2 lines number same

-- ---- the first of some lines

-- No line is ended there.
pub no_end : (config : SpaceConfig) (lines : List ℕ) → Lacks 10 lines → (e : Event) → BeginsWith config lines e → ⊥
no_end config lines lacks e (line, rest, spelled, is) = no_line lines line rest lacks is

-- The first line spells no event.
pub no_event : (config : SpaceConfig) (uid : Uid) (lines line rest : List ℕ) → uid ≡ config.uid → Lacks 10 line → lines ≡ line ++ 10 ∷ rest
    → ((e : Event) → SpellsEvent uid e line → ⊥) → (e : Event) → BeginsWith config lines e → ⊥
no_event config uid lines line rest here lacks is none e (line2, rest2, spelled, is2) =
    let same = same_line line line2 rest rest2 lacks (event_lacks config.uid e line2 spelled) (sym is ∙ is2) in
    none e (subst (λ u. SpellsEvent u e line) (sym here) (subst (SpellsEvent config.uid e) (sym same.line) spelled))

-- The input's first line spells no configuration.
pub no_config : (input line rest : List ℕ) → Lacks 10 line → input ≡ line ++ 10 ∷ rest
    → ((config : SpaceConfig) → SpellsConfig config line → ⊥) → (config : SpaceConfig) (lines : List ℕ) → OpensJournal input config lines → ⊥
no_config input line rest lacks is none config lines (line2, spelled, is2) =
    let same = same_line line line2 rest lines lacks (config_lacks config line2 spelled) (sym is ∙ is2) in
    none config (subst (SpellsConfig config) (sym same.line) spelled)

pub no_first_line : (input : List ℕ) → Lacks 10 input → (config : SpaceConfig) (lines : List ℕ) → OpensJournal input config lines → ⊥
no_first_line input lacks config lines (line, spelled, is) = no_line input line lines lacks is

-- ---- the whole input

-- Lines that are taken spell events in front of a rest, and these are all taken.
to_front : (config : SpaceConfig) (h events : List Event) (front rest lines : List ℕ) → TakesLines config h events front → lines ≡ front ++ rest → SpellsFront config.uid events lines rest
to_front config h [] front rest lines t is = is ∙ ap (λ f. f ++ rest) t
to_front config h (e ∷ events) front rest lines (line, more, spells, taken, others, front_is) is =
    (line, more ++ rest, spells, to_front config (h ++ e ∷ []) events more rest (more ++ rest) others refl, is ∙ ap (λ f. f ++ rest) front_is ∙ append_assoc line (10 ∷ more) rest)

to_taken : (config : SpaceConfig) (h events : List Event) (front : List ℕ) → TakesLines config h events front → AllTaken config h events
to_taken config h [] front t = tt
to_taken config h (e ∷ events) front (line, more, spells, taken, others, front_is) = (taken, to_taken config (h ++ e ∷ []) events more others)

-- All lines were taken.
pub outlined : (input : List ℕ) (config : SpaceConfig) (lines output : List ℕ) (h2 : List Event) → OpensJournal input config lines → LinesGo config [] lines 2 (Ok tt) h2 → output ≡ outline config h2
    → Outlines input output
outlined input config lines output h2 (first, opens, is) goes text =
    let spelled = to_front config [] goes.events goes.front goes.rest lines goes.taken goes.lines_are in
    let P : List ℕ → Type 0 = λ r. SpellsFront config.uid goes.events lines r in
    (config, goes.events, (first, lines, opens, subst P goes.stops spelled, is), to_taken config [] goes.events goes.front goes.taken, text ∙ ap (outline config) goes.after)

up_to : (input : List ℕ) (config : SpaceConfig) (lines : List ℕ) (stop : Result (Unit {0}) ReplayFault) (h2 : List Event) → OpensJournal input config lines → (goes : LinesGo config [] lines 2 stop h2)
    → IsJournalUpTo input config goes.events goes.rest
up_to input config lines stop h2 opens goes = record {
  lines = lines;
  opens = opens;
  spelled = to_front config [] goes.events goes.front goes.rest lines goes.taken goes.lines_are;
  taken = to_taken config [] goes.events goes.front goes.taken;
}

-- A line was not taken.
pub not_all : (input : List ℕ) (config : SpaceConfig) (lines : List ℕ) (fault : ReplayFault) (h2 : List Event) → OpensJournal input config lines → LinesGo config [] lines 2 (Err fault) h2
    → Replays input (Err fault)
not_all input config lines (BadLine n) h2 opens goes =
    inr (config, goes.events, goes.rest, up_to input config lines (Err (BadLine n)) h2 opens goes, (goes.stops.0, goes.stops.1), goes.stops.2)
not_all input config lines RefusedTurn h2 opens goes =
    let P : List Event → Type 0 = λ h. ReplayStops config h goes.rest (2 + length goes.events) (Err RefusedTurn) in
    (config, goes.events, goes.rest, up_to input config lines (Err RefusedTurn) h2 opens goes, subst P goes.after goes.stops)
not_all input config lines OutOfMemory h2 opens goes = tt
