use Rattle.std.proofs.Common.{◌≡◌, ◌+◌, ◌≤◌, ◌-◌, ◌++◌, List, ℕ, length, take, drop, slice_range, sym, ap, subst, ◌∙◌, arith, take_at, length-take-le, length-take}
use Rattle.wire_io.proofs.ReadingAhead.{part_front}
use Rattle.wire_io.proofs.read_ahead.ReadAhead.give.Goals as goal

pub returns-clause-bytes : goal.returns-clause-bytes
returns-clause-bytes g c =
    let w = c.args.self.now in
    let n = c.copy_front-count.result in
    let all = c.deref.result.now in
    let part : List ℕ = slice_range all w.start w.end in
    let counted : n ≤ length part = omega (arith, c.copy_front-count.ensures.count) in
    let within : n ≤ w.end - w.start = omega (arith, counted, length-take (w.end - w.start) (drop w.start all)) in
    let front : take n c.copy_front-count.new.to ≡ take n part = ap (take n) c.copy_front-count.ensures.copied ∙ take_at (take n part) _ n (length-take-le n part counted) in
    subst (λ items. slice_range items w.start w.end ≡ take n c.copy_front-count.new.to ++ slice_range items (w.start + n) w.end) c.deref.ensures.value
    (part_front all w.start w.end n within ∙ ap (λ xs. xs ++ slice_range all (w.start + n) w.end) (sym front))
