use Rattle.ser_read.proofs.InOrder.{closed_reads}
use Rattle.jrmp_frames.specs.Returns.{wants_carried}
use Rattle.jrmp_frames.proofs.returns.read_to_close.Goals as goal

pub returns-clause-reads : goal.returns-clause-reads
returns-clause-reads g c =
    let each = c.in_ok-arg.ensures.reads in
    record {
      answers = each.answers;
      reads = closed_reads (wants_carried c.args.code) each.answers c.args.reader.stand c.read_carried.new.reader.stand c.in_ok-whole.whole.nodes c.in_ok-whole.whole.items each.reads (c.in_ok-whole.ensures.gives c.in_ok-arg.ensures.kept);
      is = each.is;
    }
