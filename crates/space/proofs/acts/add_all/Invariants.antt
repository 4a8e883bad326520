use Rattle.std.proofs.Common.{◌≡◌, ◌+◌, ◌≤◌, ◌++◌, drop, length}
use Rattle.space.specs.Acts.{new_rows}
use Rattle.space.proofs.acts.add_all.Given as goal

abbrev pub invariant-loop-kind : goal.invariant-loop-kind
invariant-loop-kind l =
    record {
      value : l.exports ≡ record l.initial.exports { added = l.initial.exports.added + l.kind-index; rows = l.exports.rows; room = l.exports.room };
      rows : l.exports.rows ++ new_rows l.initial.exports.space (l.initial.exports.added + l.kind-index) (drop l.kind-index l.made) ≡ l.initial.exports.rows ++ new_rows l.initial.exports.space l.initial.exports.added l.made;
      count : length l.exports.rows ≡ length l.initial.exports.rows + l.kind-index;
      room : length l.made ≤ l.exports.room.exports + l.kind-index;
      waits : l.exports.room.waits ≡ l.initial.exports.room.waits;
    }
