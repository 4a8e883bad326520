use Rattle.std.proofs.Common.{◌≡◌}
use Rattle.conn_server.proofs.link_thread.spawn_patiently.Given as goal

abbrev pub invariant-loop : goal.invariant-loop
invariant-loop g l = record { same : l.left ≡ l.fn.job }
