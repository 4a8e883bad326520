-- What holds while links are accepted.
use Rattle.wire_io.specs.Wire.{ReadHalf, WriteHalf, Rose}
use Rattle.std.specs.Prelude.{◌≡◌, ℕ, ◌+◌, ◌<◌, ◌≤◌, false, List, [], ◌∷◌, ◌++◌, length, map, sum_by, vec_len, vec_capacity, Option, Some, None, Result, Ok, Err}
use Rattle.wire_io.specs.Links.{Accepted, Listening, with_next}
use Rattle.space.specs.declared.asked.Asked.{Asked}
use Rattle.turn_lock.specs.Handles.{IsRootOf, view_of}
use Rattle.turn_lock.specs.Rule.{Events, StartsWith}
use Rattle.turn_lock.specs.declared.handles.TurnLock.{TurnLock}
use Rattle.turn_lock.specs.declared.view.View.{View}
use Rattle.call_dispatch.specs.Acts.{WorkerState}
use Rattle.system_objects.specs.declared.book.Kind.{Kind}
use Rattle.std.specs.List.Sorted.{IsPermutation}
use Rattle.conn_server.specs.Taken.{Taken, SameReports}
use Rattle.conn_server.specs.Handed.{AreHanded}
use Rattle.conn_server.specs.Made.{IsTakenBelow, shown_admitted}
use Rattle.conn_server.specs.Rows.{EachAt}
use Rattle.conn_server.specs.Serves.{IsAdmittedLink, IsLinkTask}
use Rattle.conn_server.specs.Starts.{IsUnder, task_of, open_in, live_in, report_in}
use Rattle.conn_server.specs.Views.{IsTicking}
use Rattle.conn_server.specs.declared.admission.Acceptor.{Acceptor}
use Rattle.conn_server.specs.declared.link_task.AdmittedLink.{AdmittedLink}
use Rattle.conn_server.specs.declared.link_task.LinkTask.{LinkTask}
use Rattle.conn_server.specs.declared.link_task.LinkReport.{LinkReport}
use Rattle.conn_server.specs.declared.link_thread.StartedLink.{StartedLink}
use Rattle.conn_server.specs.declared.plan.TheConstants.{LAST_NUMBER}

-- What was told, and then these, where it is told.
abbrev pub with_all : {A : Type 0} → Option (List A) → List A → Option (List A)
with_all None more = None
with_all (Some told) more = Some (told ++ more)

-- What calls did that accept a link, one after another, until one of them gave it or the last one failed.
abbrev pub AcceptsAtLast : {L E : Type 0} → (L → Accepted) → Listening → Listening → Result L E → Type 0
AcceptsAtLast shown old new (Ok link) = (new.accepted ≡ with_next old.accepted (shown link)) × (old.faults ≤ new.faults)
AcceptsAtLast shown old new (Err _) = (new.accepted ≡ old.accepted) × Rose old.faults new.faults

-- The task is made for the link of connection k, and could be done at the lock. Its pass has the connection's number, had made no turn, and has seen
-- the server's turn before it.
pub record IsTaskOf {I O T H : Type 0} (Made : ℕ → AdmittedLink I O T H → Type 0) (shown : H → WorkerState) (lock : TurnLock) (k : ℕ) (task : LinkTask I O T H) : Type 0 where
  pub can : IsLinkTask shown lock task
  pub made : Made k task.admitted
  pub by : task.by ≡ k
  pub number : (view_of task.pass).number ≡ k
  pub own : (view_of task.pass).own ≡ []
  pub after_tick : IsTakenBelow (length (view_of task.pass).seen) task.admitted.tick.value.end

-- The link of connection k was begun at the lock, and maybe a root with the view v has taken its pass back.
pub record IsBegun {I O T H : Type 0} (Talked : AdmittedLink I O T H → LinkReport I O T H → Type 0) (Made : ℕ → AdmittedLink I O T H → Type 0) (shown : H → WorkerState) (lock : TurnLock) (kinds : List Kind) (v : View) (k : ℕ) (started : StartedLink I O T H) : Type 0 where
  pub number : started.by ≡ k
  pub task : IsTaskOf Made shown lock k (task_of started)
  pub link_state : IsUnder Talked lock kinds v (task_of started) started.link_state

-- What the listener tells of these links, each with the entry of the server's turn before it.
abbrev pub shown_all : {I O T H : Type 0} → (I → ReadHalf) → (O → WriteHalf) → (T → Option (List ℕ)) → List (StartedLink I O T H) → List (Accepted × Asked)
shown_all read_half write_half given all = map (λ s. shown_admitted read_half write_half given (task_of s).admitted) all

-- The links alone.
abbrev pub links_of : List (Accepted × Asked) → List Accepted
links_of all = map (λ p. p.0) all

-- The entries alone.
abbrev pub ticks_of : List (Accepted × Asked) → List Asked
ticks_of all = map (λ p. p.1) all

-- One more Tick was made, and it is the one before one more link.
abbrev pub TicksOn : List Asked → List Asked → List Asked → List Asked → Type 0
TicksOn ticks ticks_after shown shown_after = (tick : Asked) × (ticks_after ≡ ticks ++ tick ∷ []) × (shown_after ≡ shown ++ tick ∷ [])

-- How many passes these links have that the root didn't get back.
abbrev pub open_all : {I O T H : Type 0} → List (StartedLink I O T H) → ℕ
open_all all = sum_by (λ s. open_in s.link_state) all

-- Those of these links that haven't ended, in order.
abbrev pub live_of : {I O T H : Type 0} → List (StartedLink I O T H) → List (StartedLink I O T H)
live_of [] = []
live_of (s ∷ all) = live_in s s.link_state ++ live_of all

-- The reports of those that have ended, in order.
abbrev pub reports_of : {I O T H : Type 0} → List (StartedLink I O T H) → List (LinkReport I O T H)
reports_of [] = []
reports_of (s ∷ all) = report_in s.link_state ++ reports_of all

-- The taker may be given the report of each link that was made so and served so.
abbrev pub ExpectsAll : {I O T H C : Type 0} → (AdmittedLink I O T H → LinkReport I O T H → Type 0) → (ℕ → AdmittedLink I O T H → Type 0) → (C → LinkReport I O T H → Type 0) → C → Type 0
ExpectsAll {I = I} {O = O} {T = T} {H = H} Talked Made expects c = (k : ℕ) (admitted : AdmittedLink I O T H) (report : LinkReport I O T H) → Made k admitted → Talked admitted report → report.by ≡ k → expects c report

-- Every link was begun with its pass; those that haven't ended are kept, and the reports of the others were handed on, each once; there is room for
-- the reports to come; the root made these turns of its own; and the taker of a host, whose reports don't keep their entries, has the first
-- events after the opening's.
pub record IsAccepting {I O T H C : Type 0} (Talked : AdmittedLink I O T H → LinkReport I O T H → Type 0) (Made : ℕ → AdmittedLink I O T H → Type 0) (shown : H → WorkerState)
    (taken : C → Taken (LinkReport I O T H)) (expects : C → LinkReport I O T H → Type 0) (lock : TurnLock) (kinds : List Kind) (a : Acceptor I O T H C) : Type 0 where
  pub own : IsRootOf lock a.root
  pub out : a.root.out ≡ open_all a.all
  pub made : a.root.made ≡ length a.all
  pub begun : a.begun ≡ length a.all
  pub ticked : IsTicking (view_of a.root.pass) (taken a.taker).ticks
  pub live_are : a.live.items ≡ live_of a.all
  pub given : IsPermutation (reports_of a.all) (taken a.taker).reports
  pub room : length (taken a.taker).reports + open_all a.all ≤ (taken a.taker).report_limit
  pub expected : ExpectsAll Talked Made expects a.taker
  pub handed_on : a.keeps ≡ false → AreHanded lock (view_of a.root.pass) (taken a.taker).events a.handed
  pub links : EachAt (IsBegun Talked Made shown lock kinds (view_of a.root.pass)) 1 a.all

-- What begins the history that the root had seen begins what it has seen, and reports keep their entries where they did.
abbrev pub Follows : {I O T H C : Type 0} → Acceptor I O T H C → Acceptor I O T H C → Type 0
Follows a b = ((front : Events) → StartsWith (view_of a.root.pass).seen front → StartsWith (view_of b.root.pass).seen front) × (b.keeps ≡ a.keeps)

-- There is more room, and all else is the same.
pub record IsSame {I O T H C : Type 0} (taken : C → Taken (LinkReport I O T H)) (expects : C → LinkReport I O T H → Type 0) (a b : Acceptor I O T H C) : Type 0 where
  pub root : b.root ≡ a.root
  pub begun : b.begun ≡ a.begun
  pub live_are : b.live.items ≡ a.live.items
  pub all : b.all ≡ a.all
  pub ticks : (taken b.taker).ticks ≡ (taken a.taker).ticks
  pub events : (taken b.taker).events ≡ (taken a.taker).events
  pub handed_on : b.handed ≡ a.handed
  pub same_keeps : b.keeps ≡ a.keeps
  pub reports : SameReports taken expects a.taker b.taker

-- The links are the same, and there is no less room for their reports.
pub record HasSameLinks {I O T H C : Type 0} (taken : C → Taken (LinkReport I O T H)) (a b : Acceptor I O T H C) : Type 0 where
  pub begun : b.begun ≡ a.begun
  pub live_are : b.live ≡ a.live
  pub all : b.all ≡ a.all
  pub reports : (taken b.taker).reports ≡ (taken a.taker).reports
  pub room : (taken a.taker).report_limit ≤ (taken b.taker).report_limit

-- There is room for one more of each.
pub record HasRoom {I O T H C : Type 0} (taken : C → Taken (LinkReport I O T H)) (a : Acceptor I O T H C) : Type 0 where
  pub ticks : length (taken a.taker).ticks < (taken a.taker).tick_limit
  pub live_room : vec_len a.live < vec_capacity a.live
  pub reports : length (taken a.taker).reports + vec_len a.live < (taken a.taker).report_limit

-- The admitted link is the next one, there is room for the link, and the root has seen the turn before it.
pub record IsNext {I O T H C : Type 0} (Talked : AdmittedLink I O T H → LinkReport I O T H → Type 0) (Made : ℕ → AdmittedLink I O T H → Type 0) (shown : H → WorkerState)
    (taken : C → Taken (LinkReport I O T H)) (expects : C → LinkReport I O T H → Type 0) (lock : TurnLock) (kinds : List Kind) (a : Acceptor I O T H C) (admitted : AdmittedLink I O T H) : Type 0 where
  pub accepting : IsAccepting Talked Made shown taken expects lock kinds a
  pub few : a.begun < LAST_NUMBER
  pub can : IsAdmittedLink shown admitted
  pub made : Made (a.begun + 1) admitted
  pub after_tick : IsTakenBelow (length (view_of a.root.pass).seen) admitted.tick.value.end
  pub live_room : vec_len a.live < vec_capacity a.live
  pub reports : length (taken a.taker).reports + vec_len a.live < (taken a.taker).report_limit
