use Rattle.ser_read.proofs.Steps.{reads_gives}
use Rattle.ser_read.proofs.Breaking.{want_breaks_fails}
use Rattle.jrmp_frames.proofs.Heads.{head_read}
use Rattle.jrmp_frames.proofs.head.read_head.Goals as goal

pub from_bytes-requires : goal.from_bytes-requires
from_bytes-requires g c = (head_read c.read_start.new.bytes c.in-Ok.reader.stand c.in-Ok.ensures.reads).0

pub returns-in-Ok-clause-ready : goal.returns-in-Ok-clause-ready
returns-in-Ok-clause-ready g c =
    let h = head_read c.read_start.new.bytes c.in-Ok.reader.stand c.in-Ok.ensures.reads in
    (c.in-Ok.ensures.kept, c.read_start.new.bytes, h.0, h.1)

pub returns-in-Ok-clause-gives : goal.returns-in-Ok-clause-gives
returns-in-Ok-clause-gives g c = λ told. rw c.from_bytes.ensures (reads_gives g.S.Source.half c.args.pull.now c.read_start.new.pull c.in-Ok.ensures.reads c.read_start.new.pull.within told)

pub returns-in-Err-clause-gives : goal.returns-in-Err-clause-gives
returns-in-Err-clause-gives g c = λ told. want_breaks_fails g.S.Source.half c.args.pull.now c.read_start.new.pull c.in-Err.fault c.in-Err.ensures.stops c.read_start.new.pull.within told
