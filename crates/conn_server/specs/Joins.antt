-- What holds of the links that were joined.
use Rattle.std.specs.Prelude.{ℕ}
use Rattle.turn_lock.specs.declared.handles.TurnLock.{TurnLock}
use Rattle.turn_lock.specs.declared.view.View.{View}
use Rattle.call_dispatch.specs.Acts.{WorkerState}
use Rattle.conn_server.specs.Accepts.{IsTaskOf}
use Rattle.conn_server.specs.Starts.{IsEndOf, task_of}
use Rattle.conn_server.specs.declared.link_task.AdmittedLink.{AdmittedLink}
use Rattle.conn_server.specs.declared.link_task.LinkReport.{LinkReport}
use Rattle.conn_server.specs.declared.link_thread.StartedLink.{StartedLink}

-- The link of connection k came to the report, and the root with the view v knows its turns.
pub record IsJoined {I O T H : Type 0} (Talked : AdmittedLink I O T H → LinkReport I O T H → Type 0) (Made : ℕ → AdmittedLink I O T H → Type 0) (shown : H → WorkerState) (lock : TurnLock)
    (v : View) (k : ℕ) (started : StartedLink I O T H) (report : LinkReport I O T H) : Type 0 where
  pub task : IsTaskOf Made shown lock k (task_of started)
  pub ended : IsEndOf Talked v (task_of started) report
