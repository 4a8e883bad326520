-- What a server tells each of its connections.
use Rattle.std.specs.Prelude.{ℕ, ◌+◌, ◌%◌, ◌^◌, ℤ, pos, List, slice_index}
use Rattle.std.specs.Int.{w32, w64, cast_signed, to_be_bytes}
use Rattle.system_objects.specs.Terms.{Terms}
use Rattle.system_objects.specs.declared.book.Kind.{Kind}
use Rattle.system_objects.specs.declared.setup.TheConstants.{DRAWS_BEGIN_BELOW}
use Rattle.conn_server.specs.declared.plan.ServePlan.{ServePlan}

-- The low 32 bits of a word, as a signed number.
abbrev pub low_signed : ℕ → ℤ
low_signed word = cast_signed w32 (word % 2 ^ 32)

-- The terms of connection `by`, whose peer has this host and port: its own end and whether clients may bind names are the plan's, and of the
-- plan's seed are made the number of its virtual machine, which differs from connection to connection, the moment from which identifiers are
-- drawn, and the mark of clients that name no virtual machine.
abbrev pub link_terms : List Kind → ServePlan → ℕ → List ℕ → ℤ → Terms
link_terms kinds plan by host port = record {
  by = by;
  peer_host = host;
  peer_port = port;
  host = plan.host;
  port = plan.port;
  binding = plan.binding;
  mark = to_be_bytes w64 (slice_index plan.seed 2);
  unique = low_signed ((slice_index plan.seed 0 + by) % 2 ^ 64);
  time = pos (slice_index plan.seed 1 % DRAWS_BEGIN_BELOW);
  kinds = kinds;
}
