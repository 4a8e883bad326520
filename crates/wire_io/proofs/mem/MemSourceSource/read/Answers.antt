use Rattle.std.proofs.Common.{ap, ◌≡◌}
use Rattle.wire_io.specs.Mem.{SourceState}
use Rattle.wire_io.proofs.InMemory.{read_part}
use Rattle.wire_io.proofs.mem.MemSourceSource.read.Goals as goal

pub returns-clause-read : goal.returns-clause-read
returns-clause-read c =
    let same : c.as_slice-3.result.now ≡ c.self.inside.bytes = c.as_slice-3.ensures in
    read_part c.self.inside.bytes c.args.buf.now c.give-count.new.buf c.args.self.now.left _ c.self.inside.taken _ _ _ _ _ _
    (ap (λ (s : SourceState). s.left) c.self.view_is) c.most_for-most.ensures
    (rw same at c.give-count.ensures.count) (rw same at c.give-count.ensures.buf) c.give-count.auto.buf (ap (λ (s : SourceState). s.faults) c.self.view_is)
    (ap (λ (s : SourceState). s.shut) c.self.view_is)
