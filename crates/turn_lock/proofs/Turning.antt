-- What the steps of one turn come to.
use Rattle.std.proofs.Common.{◌≡◌, ℕ, ◌+◌, ◌<◌, List, [], ◌∷◌, ◌++◌, refl, sym, ap, ap₂, ◌∙◌, subst, arith, inr, Option, Some, None}
use Rattle.std.specs.Prelude.{Result, Ok, Err, IfOk, MatchResult, OnOk, OnErr}
use Rattle.std.specs.declared.alloc.AllocError.{AllocError}
use Rattle.atomic_table.specs.Table.{rest}
use Rattle.object_ids.specs.declared.ids.ObjId.{ObjId}
use Rattle.history.specs.declared.asks.SpaceConfig.{SpaceConfig}
use Rattle.history.specs.declared.asks.Ask.{Ask}
use Rattle.history.specs.declared.asks.Event.{Event}
use Rattle.history.specs.declared.replies.Refused.{Refused}
use Rattle.history.specs.declared.replies.Refused.TheVariants.{OutOfMemory}
use Rattle.history.specs.declared.replies.Turn.{Turn}
use Rattle.history.specs.Collector.{Collects}
use Rattle.history.specs.Running.{running_calls_by}
use Rattle.history.specs.Steps.{Step}
use Rattle.history.specs.Table.{places, table}
use Rattle.space.specs.Acts.{event_of}
use Rattle.ports.specs.Balance.{AreOfOthers}
use Rattle.space.specs.Built.{SpaceHistory}
use Rattle.space.specs.Entries.{entry_of}
use Rattle.space.specs.TurnAnswers.{IsAnswerTo}
use Rattle.space.specs.declared.asked.Asked.{Asked}
use Rattle.ports.proofs.BalanceLaws.{calls-add-up}
use Rattle.history.proofs.CollectorLaws.{collected-table}
use Rattle.space.proofs.CollectLaws.{space-shown}
use Rattle.space.proofs.NotedLaws.{taken-turn, refused-turn}
use Rattle.turn_lock.specs.declared.view.View.{View}
use Rattle.turn_lock.specs.declared.view.SeatState.TheVariants.{Idle, Called}
use Rattle.turn_lock.specs.Rule.{Events, Sat, MayComeTo, TurnedAt, TurnedBy, answer_of, events_answered, in_state, no_config, own_after, space_with, seat_after_answer}

-- ---- the slot

abbrev Slots : Type 0
Slots = List (ℕ × Option SpaceHistory)

pub alone : (cs : Slots) (x : ℕ × Option SpaceHistory) → cs ≡ x ∷ [] → cs ≡ x ∷ rest cs
alone cs x e = e ∙ ap (λ ds. x ∷ rest ds) (sym e)

abbrev head_of : Slots → Option SpaceHistory
head_of [] = None
head_of (x ∷ xs) = x.1

abbrev pub some_of : Option SpaceHistory → SpaceHistory
some_of (Some h) = h
some_of None = space_with no_config []

-- The value that was taken out is the space that was there.
pub taken : (cs : Slots) (h sp : SpaceHistory) (x : Option SpaceHistory) → cs ≡ (0, Some h) ∷ [] → cs ≡ (0, x) ∷ rest cs → x ≡ Some sp → sp ≡ h
taken cs h sp x is got some_is = ap some_of (sym some_is ∙ (sym (ap head_of got) ∙ ap head_of is))

-- The seat with another value in the slot.
pub swapped : (m m' : Sat) (v : View) (x y : Option SpaceHistory) → m ≡ (v, (0, x) ∷ []) → m' ≡ (m.0, (0, y) ∷ rest m.1) → m' ≡ (v, (0, y) ∷ [])
swapped m m' v x y is now = now ∙ ap (λ (n : Sat). (n.0, (0, y) ∷ rest n.1)) is

-- ---- the space's answer

pub space_is : (s : SpaceHistory) (config : SpaceConfig) (h : Events) → s.rows ≡ table s.configuration (places s.configuration s.events) → s.configuration ≡ config → s.events ≡ h → s ≡ space_with config h
space_is s config h shown c e = space-shown s shown ∙ ap₂ space_with c e

rows_with : (s : SpaceHistory) (config : SpaceConfig) (h : Events) → s ≡ space_with config h → s.rows ≡ table s.configuration (places s.configuration s.events)
rows_with s config h is = let P : SpaceHistory → Type 0 = λ x. x.rows ≡ table x.configuration (places x.configuration x.events) in subst P (sym is) refl

-- The rows of the space that an event leaves are those of its history's table.
pub collected_rows : (config : SpaceConfig) (h : Events) (s s2 : SpaceHistory) (e : Event) → s ≡ space_with config h → s2.configuration ≡ s.configuration
    → Collects s.configuration s.events s.rows e s2.events s2.rows → s2.rows ≡ table s2.configuration (places s2.configuration s2.events)
collected_rows config h s s2 e is same collects =
    collected-table s.configuration s.events s.rows e s2.events s2.rows collects (rows_with s config h is) ∙ ap (λ k. table k (places k s2.events)) (sym same)

-- So are those of the space that a turn leaves.
pub answered_rows : (a : Result Turn Refused) (config : SpaceConfig) (h : Events) (s s2 : SpaceHistory) (e : Event) → s ≡ space_with config h → s2.configuration ≡ s.configuration
    → OnOk a (Collects s.configuration s.events s.rows e s2.events s2.rows) → OnErr a (s2 ≡ s) → s2.rows ≡ table s2.configuration (places s2.configuration s2.events)
answered_rows (Ok turn) config h s s2 e is same collects refused = collected_rows config h s s2 e is same collects
answered_rows (Err cause) config h s s2 e is same collects refused = rows_with s2 config h (refused ∙ is)

pub noted_rows : (noted : Result (Result Turn Refused × Asked) AllocError) (config : SpaceConfig) (h : Events) (s s2 : SpaceHistory) (e : Event) → s ≡ space_with config h → s2.configuration ≡ s.configuration
    → IfOk noted (λ x. OnOk x.0 (Collects s.configuration s.events s.rows e s2.events s2.rows)) → IfOk noted (λ x. OnErr x.0 (s2 ≡ s)) → OnErr noted (s2 ≡ s)
    → s2.rows ≡ table s2.configuration (places s2.configuration s2.events)
noted_rows (Ok x) config h s s2 e is same collects refused kept = answered_rows x.0 config h s s2 e is same collects refused
noted_rows (Err r) config h s s2 e is same collects refused kept = rows_with s2 config h (kept ∙ is)

pub noted_event : (noted : Result (Result Turn Refused × Asked) AllocError) (by m : ℕ) (a : Ask) → IfOk noted (λ x. x.1 ≡ entry_of m a x.0) → IfOk noted (λ x. event_of by x.1.moment x.1.ask ≡ event_of by m a)
noted_event (Ok x) by m a h = ap (λ (n : Asked). event_of by n.moment n.ask) h
noted_event (Err r) by m a h = tt

pub noted_step : (noted : Result (Result Turn Refused × Asked) AllocError) (config : SpaceConfig) (h : Events) (s s2 : SpaceHistory) (e : Event) → s ≡ space_with config h
    → IfOk noted (λ x. Step s.configuration s.events e x.0 s2.events) → OnErr noted (s2 ≡ s) → Step config h e (answer_of noted) s2.events
noted_step (Ok x) config h s s2 e is step kept = subst (λ (y : SpaceHistory). Step y.configuration y.events e x.0 s2.events) is step
noted_step (Err r) config h s s2 e is step kept = inr (refl, ap (λ (y : SpaceHistory). y.events) (kept ∙ is))

pub after_step : (config : SpaceConfig) (h h2 : Events) (e : Event) (answer : Result Turn Refused) → Step config h e answer h2 → h2 ≡ events_answered h e answer
after_step config h h2 e (Ok turn) s = (taken-turn config h h2 e turn s).1
after_step config h h2 e (Err refused) s = (refused-turn config h h2 e refused s).1

-- ---- the turn

-- The seat once its turn is over.
abbrev pub after_turn : View → ℕ → Events → Event → Result Turn Refused → View
after_turn v t h e answer = in_state (seat_after_answer (in_state v (Called t h)) t h e answer) Idle

pub turned_at : (v w : View) (t : ℕ) (h : Events) (e : Event) (answer : Result Turn Refused) (h2 : Events) → v.state ≡ Idle → MayComeTo v h → Step v.config h e answer h2 → w ≡ after_turn v t h e answer → TurnedAt v h e answer w
turned_at v w t h e answer h2 idle came step is =
    let seen : w.seen ≡ events_answered h e answer = ap (λ (y : View). y.seen) is in record {
      came = came;
      step = subst (λ (z : Events). Step v.config h e answer z) (after_step v.config h h2 e answer step ∙ sym seen) step;
      after = is ∙ (λ i. record v { seen = sym seen i; own = own_after v.own e answer; state = sym idle i });
    }

-- ---- what the seat tells

-- The seat that has the space in hand may publish this answer to this event.
pub may_publish : (me : Sat) (v : View) (t : ℕ) (h : Events) (told e : Event) (answer : Result Turn Refused) (s2 : SpaceHistory) → me ≡ (in_state v (Called t h), (0, None) ∷ []) → told ≡ e → e.by ≡ v.number → 0 < v.parts
    → s2 ≡ space_with v.config (events_answered h e answer)
    → (t2 : ℕ) × (h2 : Events) × (me.0.state ≡ Called t2 h2) × (0 < me.0.parts) × (told.by ≡ me.0.number) × (s2 ≡ space_with me.0.config (events_answered h2 told answer))
may_publish me v t h told e answer s2 is same number part space = (
  t,
  h,
  ap (λ (m : Sat). m.0.state) is,
  subst (λ (m : Sat). 0 < m.0.parts) (sym is) part,
  ap (λ (y : Event). y.by) same ∙ number ∙ ap (λ (m : Sat). m.0.number) (sym is),
  space ∙ ap (λ (m : Sat). space_with m.0.config (events_answered h e answer)) (sym is) ∙ ap (λ (y : Event). space_with me.0.config (events_answered h y answer)) (sym same),
)

-- The seat once it is published.
pub has_published : (me me2 : Sat) (v : View) (t : ℕ) (h : Events) (told e : Event) (answer : Result Turn Refused) → me ≡ (in_state v (Called t h), (0, None) ∷ []) → told ≡ e
    → ((t2 : ℕ) (h2 : Events) → me.0.state ≡ Called t2 h2 → me2 ≡ (seat_after_answer me.0 t2 h2 told answer, me.1))
    → me2 ≡ (seat_after_answer (in_state v (Called t h)) t h e answer, (0, None) ∷ [])
has_published me me2 v t h told e answer is same view =
    view t h (ap (λ (m : Sat). m.0.state) is)
    ∙ ap (λ (m : Sat). (seat_after_answer m.0 t h told answer, m.1)) is
    ∙ ap (λ (y : Event). (seat_after_answer (in_state v (Called t h)) t h y answer, (0, None) ∷ [])) same

-- It may give the space back.
pub may_leave : (me : Sat) (v : View) (t : ℕ) (h : Events) (e : Event) (answer : Result Turn Refused) (s2 : SpaceHistory) → me ≡ (seat_after_answer (in_state v (Called t h)) t h e answer, (0, None) ∷ []) → 0 < v.parts
    → s2 ≡ space_with v.config (events_answered h e answer)
    → (t2 : ℕ) × (h2 : Events) × (me.0.state ≡ Called t2 h2) × (0 < me.0.parts) × (me.1 ≡ (0, None) ∷ []) × (s2 ≡ space_with me.0.config h2)
may_leave me v t h e answer s2 is part space = (
  t,
  events_answered h e answer,
  ap (λ (m : Sat). m.0.state) is,
  subst (λ (m : Sat). 0 < m.0.parts) (sym is) part,
  ap (λ (m : Sat). m.1) is,
  space ∙ ap (λ (m : Sat). space_with m.0.config (events_answered h e answer)) (sym is),
)

-- Other connections' events leave the calls that a connection runs.
pub runs_there : (config : SpaceConfig) (by : ℕ) (seen others h : Events) (o : ObjId) → AreOfOthers by others → h ≡ seen ++ others → running_calls_by (places config h) by o ≡ running_calls_by (places config seen) by o
runs_there config by seen others h o apart is = let sum = calls-add-up config by seen h [] o (others, apart, is) in omega (arith, sum)

-- The answer of the ask's row, by the history that the space had.
pub noted_row : (noted : Result (Result Turn Refused × Asked) AllocError) (config : SpaceConfig) (h : Events) (by : ℕ) (a : Ask) (s : SpaceHistory) → s ≡ space_with config h
    → IfOk noted (λ x. IsAnswerTo (λ o. 0 < running_calls_by (places s.configuration s.events) by o) a x.0) → IfOk noted (λ x. IsAnswerTo (λ o. 0 < running_calls_by (places config h) by o) a x.0)
noted_row noted config h by a s is row = subst (λ (y : SpaceHistory). IfOk noted (λ x. IsAnswerTo (λ o. 0 < running_calls_by (places y.configuration y.events) by o) a x.0)) is row

-- What a turn came to, by how its entry was made.
pub noted_cases : (noted : Result (Result Turn Refused × Asked) AllocError) (v w : View) (before : Events) (by m : ℕ) (a : Ask) → TurnedAt v before (event_of by m a) (answer_of noted) w
    → IfOk noted (λ x. IsAnswerTo (λ o. 0 < running_calls_by (places v.config before) by o) a x.0) → MatchResult noted (λ x. TurnedBy v by m a x.0 w) (λ refused. TurnedBy v by m a (Err OutOfMemory) w)
noted_cases (Ok x) v w before by m a t row = (before, t, row)
noted_cases (Err r) v w before by m a t row = (before, t, tt)
