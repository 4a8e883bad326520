-- What serving a link keeps.
use Rattle.std.specs.Prelude.{◌≡◌, pos, ◌≤◌, ◌<ℤ◌, length}
use Rattle.mod_utf.specs.Utf.{utf}
use Rattle.call_dispatch.specs.Acts.{WorkerState}
use Rattle.system_objects.specs.declared.setup.TheConstants.{DRAWS_BEGIN_BELOW}
use Rattle.wire_io.specs.declared.limits.TheConstants.{MAX_HOST_BYTES}
use Rattle.turn_lock.specs.declared.handles.TurnLock.{TurnLock}
use Rattle.turn_lock.specs.Handles.{IsBranchOf}
use Rattle.turn_lock.specs.PassPorts.{PassWent}
use Rattle.conn_server.specs.declared.link_task.LinkTask.{LinkTask}
use Rattle.conn_server.specs.declared.link_task.AdmittedLink.{AdmittedLink}
use Rattle.conn_server.specs.declared.link_task.LinkDone.{LinkDone}
use Rattle.conn_server.specs.declared.link_task.LinkReport.{LinkReport}

-- The link can be served: its hand was given no invocation, and no identifier was drawn from its setup.
pub record IsAdmittedLink {I O T H : Type 0} (shown : H → WorkerState) (admitted : AdmittedLink I O T H) : Type 0 where
  pub told : (shown admitted.hand).calls ≡ 0
  pub peer_host : length (utf admitted.setup.peer_host) ≤ MAX_HOST_BYTES
  pub host : length (utf admitted.setup.host) ≤ MAX_HOST_BYTES
  pub time : admitted.setup.draw.time <ℤ pos DRAWS_BEGIN_BELOW
  pub drawn : admitted.setup.draw.drawn ≡ 0

-- The task can be done at the lock.
pub record IsLinkTask {I O T H : Type 0} (shown : H → WorkerState) (lock : TurnLock) (task : LinkTask I O T H) : Type 0 where
  pub own : IsBranchOf lock task.pass
  pub admitted : IsAdmittedLink shown task.admitted

-- The task was done at the lock: its pass made turns with the entries of the report, which has the task's number, and the connection was so.
pub record Serves {I O T H : Type 0} (Talked : AdmittedLink I O T H → LinkReport I O T H → Type 0) (lock : TurnLock) (task : LinkTask I O T H) (done : LinkDone I O T H) : Type 0 where
  pub own : IsBranchOf lock done.pass
  pub went : PassWent task.pass done.pass done.report.asked
  pub by : done.report.by ≡ task.by
  pub talked : Talked task.admitted done.report
