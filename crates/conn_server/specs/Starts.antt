-- What is known of a link that is being served, and of one that was.
use Rattle.std.specs.Prelude.{◌≡◌, ℕ, List, [], ◌∷◌, ◌++◌, Contains}
use Rattle.ports.specs.Balance.{WentAmong}
use Rattle.turn_lock.specs.Answers.{events_of}
use Rattle.turn_lock.specs.Handles.{view_of}
use Rattle.turn_lock.specs.Rule.{Events, StartsWith}
use Rattle.turn_lock.specs.declared.handles.TurnLock.{TurnLock}
use Rattle.turn_lock.specs.declared.view.View.{View}
use Rattle.system_objects.specs.declared.book.Kind.{Kind}
use Rattle.conn_server.specs.Serves.{Serves}
use Rattle.conn_server.specs.declared.link_task.AdmittedLink.{AdmittedLink}
use Rattle.conn_server.specs.declared.link_task.LinkTask.{LinkTask}
use Rattle.conn_server.specs.declared.link_task.LinkReport.{LinkReport}
use Rattle.conn_server.specs.declared.link_thread.StartedLink.{StartedLink}
use Rattle.conn_server.specs.declared.link_thread.LinkState.{LinkState}
use Rattle.conn_server.specs.declared.link_thread.LinkState.TheVariants.{Running, ServedHere, Ended}

-- What was to be done.
abbrev pub task_of : {I O T H : Type 0} → StartedLink I O T H → LinkTask I O T H
task_of started = started.task.value

-- How many passes it has that the root didn't get back.
abbrev pub open_in : {I O T H : Type 0} → LinkState I O T H → ℕ
open_in (Running child) = 1
open_in (ServedHere done) = 1
open_in (Ended report) = 0

-- The link, where it has such a pass.
abbrev pub live_in : {I O T H : Type 0} → StartedLink I O T H → LinkState I O T H → List (StartedLink I O T H)
live_in started (Running child) = started ∷ []
live_in started (ServedHere done) = started ∷ []
live_in started (Ended report) = []

-- Its report, where it has ended.
abbrev pub report_in : {I O T H : Type 0} → LinkState I O T H → List (LinkReport I O T H)
report_in (Running child) = []
report_in (ServedHere done) = []
report_in (Ended report) = report.value ∷ []

-- The task came to the report. A root with the view v has taken its pass back: it keeps the pass's own events beside its number, and the
-- entries lead from what the pass had seen to a history that begins what the root has seen.
pub record IsEndOf {I O T H : Type 0} (Talked : AdmittedLink I O T H → LinkReport I O T H → Type 0) (v : View) (task : LinkTask I O T H) (report : LinkReport I O T H) : Type 0 where
  pub by : report.by ≡ task.by
  pub talked : Talked task.admitted report
  pub listed : Contains v.ended ((view_of task.pass).number, (view_of task.pass).own ++ events_of (view_of task.pass).number report.asked)
  pub last : Events
  pub went : WentAmong (view_of task.pass).config (view_of task.pass).number (view_of task.pass).seen report.asked last
  pub seen : StartsWith v.seen last

-- The task was begun at the lock, with this book, or done there; or it was done, and a root with the view v has taken its pass back.
abbrev pub IsUnder : {I O T H : Type 0} → (AdmittedLink I O T H → LinkReport I O T H → Type 0) → TurnLock → List Kind → View → LinkTask I O T H → LinkState I O T H → Type 0
IsUnder Talked lock kinds v task (Running child) = (child.promise.lock.value ≡ lock) × (child.promise.book.value ≡ kinds) × (child.promise.task.value.value ≡ task)
IsUnder Talked lock kinds v task (ServedHere done) = Serves Talked lock task done
IsUnder Talked lock kinds v task (Ended report) = IsEndOf Talked v task report.value
