use Rattle.turn_lock.specs.Handles.{view_of}
use Rattle.conn_server.proofs.Ending.{ends_joined, grows_joined}
use Rattle.conn_server.proofs.link_thread.give_back.Goals as goal

pub returns-clause-grown : goal.returns-clause-grown
returns-clause-grown g c =
    let join = c.join.ensures in
    grows_joined (view_of c.args.root.now.pass) (view_of c.join.new.self.pass) (view_of c.args.done.pass) join.view join.seen.0

pub returns-clause-ended : goal.returns-clause-ended
returns-clause-ended g c =
    let join = c.join.ensures in
    ends_joined _ c.args.lock.now (view_of c.args.root.now.pass) (view_of c.join.new.self.pass) c.args.task.now.value c.args.done c.requires.served join.view join.seen.1
