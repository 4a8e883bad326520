use Rattle.std.proofs.Common.{refl}
use Rattle.ser_read.proofs.Breaking.{want_raised}
use Rattle.jrmp_frames.specs.Returns.{wants_carried}
use Rattle.jrmp_frames.proofs.ReturnReading.{body_carried, contents_read, contents_first, contents_later, carried_left}
use Rattle.jrmp_frames.proofs.returns.read_contents.Goals as goal

pub returns-in_err-bytes_into-clause-stops : goal.returns-in_err-bytes_into-clause-stops
returns-in_err-bytes_into-clause-stops g c =
    want_raised c.from_residual.result c.from_residual.ensures.1 (contents_first 14 (wants_carried c.args.code) c.args.reader.stand (c.in_err-bytes_into.ensures.stops c.requires.ready.0))

pub returns-in_err-read-clause-stops : goal.returns-in_err-read-clause-stops
returns-in_err-read-clause-stops g c =
    want_raised c.from_residual-in_err-read.result c.from_residual-in_err-read.ensures.1
    (contents_later 14 (wants_carried c.args.code) c.args.reader.stand c.bytes_into.new.self.stand c.bytes_into.new.buf c.in_ok-bytes_into.ensures.reads c.in_err-read.ensures.stops)

pub body_of-requires : goal.body_of-requires
body_of-requires g c =
    let read = c.in_ok-read.ensures.reads in
    let all = contents_read 14 (wants_carried c.args.code) c.args.reader.stand c.bytes_into.new.self.stand c.bytes_into.new.buf read.answers c.in_ok-read.read.1.nodes c.in_ok-read.read.1.items c.in_ok-bytes_into.ensures.reads read.reads in
    rw (carried_left (wants_carried c.args.code) c.args.reader.stand c.requires.ready.1 c.bytes_into.new.buf read.answers c.in_ok-read.read.1.nodes c.in_ok-read.read.1.items c.requires.ready.2 all) refl

pub returns-clause-reads : goal.returns-clause-reads
returns-clause-reads g c =
    let read = c.in_ok-read.ensures.reads in
    let all = contents_read 14 (wants_carried c.args.code) c.args.reader.stand c.bytes_into.new.self.stand c.bytes_into.new.buf read.answers c.in_ok-read.read.1.nodes c.in_ok-read.read.1.items c.in_ok-bytes_into.ensures.reads read.reads in
    let left = carried_left (wants_carried c.args.code) c.args.reader.stand c.requires.ready.1 c.bytes_into.new.buf read.answers c.in_ok-read.read.1.nodes c.in_ok-read.read.1.items c.requires.ready.2 all in
    record {
      answers = read.answers;
      nodes = c.in_ok-read.read.1.nodes;
      whole = c.in_ok-read.read.1.items;
      reads = rw c.uid_of.ensures.inverse all;
      carries = body_carried c.args.code read.answers c.in_ok-read.read.1.nodes _ c.in_ok-read.read.0 c.body_of.result read.is left c.body_of.ensures;
    }
