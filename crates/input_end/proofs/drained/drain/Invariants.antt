use Rattle.std.proofs.Common.{◌≡◌, false}
use Rattle.input_end.proofs.Draining.{Dropping}
use Rattle.input_end.proofs.drained.drain.Given as goal

abbrev pub invariant-loop : goal.invariant-loop
invariant-loop g l = Dropping (g.W.Watch.answered l.watch) (g.S.Source.half l.initial.source) (g.S.Source.half l.source) l.counter
    × (g.W.Watch.watches l.watch ≡ g.W.Watch.watches l.initial.watch)
    × (g.W.Watch.watches l.initial.watch ≡ false → (l.counter ≡ 0) × (l.source ≡ l.initial.source))
