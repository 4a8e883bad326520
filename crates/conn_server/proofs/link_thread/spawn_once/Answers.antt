use denote.Exit.{no}
use denote.Param.Send.{arg_send, param_send}
use Rattle.conn_server.proofs.Crossing.{done_send}
use Rattle.conn_server.proofs.link_thread.spawn_once.Goals as goal

pub spawn_with-requires-send-T : goal.spawn_with-requires-send-T
spawn_with-requires-send-T g c κs within =
    let b = c.type_bounds in
    param_send 3 _ (arg_send _ no _ (done_send _ _ _ _ b.send-I b.send-O b.send-T b.send-H))
