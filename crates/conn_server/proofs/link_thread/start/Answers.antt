use denote.Exit.{no}
use denote.Param.Send.{shr_send}
use Rattle.std.proofs.Crossing.{send}
use Rattle.conn_server.proofs.Crossing.{book_sync, ended_sync, lock_sync, task_send, six_send}
use Rattle.conn_server.proofs.link_thread.start.Goals as goal

-- The closure has the task, the handle, the allocator, the lock, the book, and the list of links that ended.
pub spawn_patiently-spawned-requires-send-F : goal.spawn_patiently-spawned-requires-send-F
spawn_patiently-spawned-requires-send-F g c κs within =
    let b = c.type_bounds in
    six_send no _ (task_send _ _ _ _ b.send-I b.send-O b.send-T b.send-H) (shr_send _ _ _ b.sync-R) send (shr_send _ _ _ lock_sync) (shr_send _ _ _ book_sync) (shr_send _ _ _ ended_sync)
