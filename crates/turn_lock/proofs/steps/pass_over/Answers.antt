use Rattle.std.proofs.Common.{ap, ◌∙◌, length, arith}
use Rattle.space.specs.Built.{SpaceHistory}
use Rattle.turn_lock.proofs.At.{passes_over_at}
use Rattle.turn_lock.proofs.steps.pass_over.Goals as goal

pub store-requires : goal.store-requires
store-requires c =
    let words = c.requires.table.1 in let called = c.requires.called in (
      c.requires.table.0,
      omega (arith, words),
      passes_over_at _ _ _ _ called.0 called.1 _ c.requires.table.2 called.2 called.3 (c.len.ensures.value ∙ ap (λ (s : SpaceHistory). length s.events) called.4),
    )
