use Rattle.std.proofs.Common.{arith}
use Rattle.wire_io.proofs.ReadingAhead.{none_ahead}
use Rattle.wire_io.proofs.read_ahead.ReadAhead.read.Goals as goal

pub returns-else-self-clause-bytes : goal.returns-else-self-clause-bytes
returns-else-self-clause-bytes g c =
    let w = c.args.self.now in
    rw (none_ahead w.bytes.items w.start w.end (g.R.Read.remaining w.inner) (omega (arith, c.if-self.false))) c.read_more.ensures.bytes
