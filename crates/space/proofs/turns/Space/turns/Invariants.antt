use Rattle.std.proofs.Common.{◌≡◌, ◌+◌, ◌≤◌, ◌<◌, length, vec_len, vec_capacity}
use Rattle.std.specs.List.{AllByRecursion}
use Rattle.std.specs.Vec.Iter.{into_iter_items, into_iter_len}
use Rattle.history.specs.declared.limits.TheConstants.{END_OF_TIME}
use Rattle.space.proofs.ListLaws.{HasTaken}
use Rattle.space.proofs.turns.Space.turns.Given as goal

abbrev pub invariant-loop-event : goal.invariant-loop-event
invariant-loop-event l = record {
  taken : HasTaken l.fn.self.configuration l.fn.self.events l.fn.self.rows l.fn.events.items l.turns.items (into_iter_items l.event-iterator) l.self.events l.self.rows;
  config : l.self.configuration ≡ l.fn.self.configuration;
  moments : AllByRecursion (λ e. e.moment < END_OF_TIME) (into_iter_items l.event-iterator);
  left : into_iter_len l.event-iterator ≡ length (into_iter_items l.event-iterator);
  room : vec_len l.turns + into_iter_len l.event-iterator ≤ vec_capacity l.turns;
}
