use Rattle.std.proofs.Common.{◌≡◌, ◌+◌, ◌≤◌, ◌++◌}
use Rattle.std.specs.Prelude.{reverse, vec_len, vec_capacity}
use Rattle.dgc_server.proofs.clients.move_back.Given as goal

abbrev pub decreases-loop-entries : goal.decreases-loop-entries
decreases-loop-entries l = vec_len l.entries

abbrev pub invariant-loop-entries : goal.invariant-loop-entries
invariant-loop-entries l =
    record {
      parts : l.initial.entries.items ≡ l.entries.items ++ reverse l.back.items;
      all : vec_len l.entries + vec_len l.back ≡ vec_len l.initial.entries;
      front : 128 ≤ vec_len l.entries;
      room : vec_len l.initial.entries ≤ vec_capacity l.back;
    }
