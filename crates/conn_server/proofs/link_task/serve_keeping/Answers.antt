use Rattle.std.proofs.Common.{rules, subst, sym}
use Rattle.call_dispatch.specs.declared.end.ConnEnd.{ConnEnd}
use Rattle.conn_server.specs.Talks.{LeavesHalves}
use Rattle.conn_server.proofs.Linking.{leaves}
use Rattle.conn_server.proofs.link_task.serve_keeping.Goals as goal

pub returns : goal.returns
returns g c =
    let end = c.serve_connection-end in
    let task = c.args.task in
    let r = c.report_of-report in
    let read_half = g.I.Source.half in let write_half = g.O.Sink.half in
    record {
      own = search rules;
      went = search rules;
      by = r.ensures.by;
      talked = (
        search rules,
        subst (λ (e : ConnEnd). LeavesHalves (read_half task.admitted.source) (read_half r.result.source) (write_half task.admitted.sink) (write_half r.result.sink) e) (sym r.ensures.end)
            (leaves (read_half task.admitted.source) (read_half end.new.source) (read_half r.result.source) (write_half task.admitted.sink) (write_half end.new.sink) (write_half r.result.sink) end.result
            end.ensures.read_fault end.ensures.write_fault end.ensures.source_shut end.ensures.sink_shut r.ensures.source r.ensures.sink),
        record { peer_host = r.ensures.tells.peer_host; peer_port = r.ensures.tells.peer_port; calls = r.ensures.tells.calls },
      );
    }
