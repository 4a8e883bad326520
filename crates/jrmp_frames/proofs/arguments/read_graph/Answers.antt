use Rattle.std.proofs.Common.{◌∙◌, sym, refl}
use Rattle.stream_grammar.specs.Spelled.{joined}
use Rattle.ser_values.proofs.Lists.{some_same}
use Rattle.ser_read.proofs.InOrder.{closed_reads}
use Rattle.jrmp_frames.specs.Messages.{wants_of}
use Rattle.jrmp_frames.proofs.Calls.{parameters_given}
use Rattle.jrmp_frames.proofs.arguments.read_graph.Goals as goal

pub without_head-requires : goal.without_head-requires
without_head-requires g c =
    let each = c.in_ok-read_onto.ensures.reads in
    let reads = closed_reads (wants_of c.args.params.now) each.answers c.args.reader.stand c.read_onto.new.reader.stand c.in_ok-whole.whole.nodes c.in_ok-whole.whole.items each.reads (c.in_ok-whole.ensures.gives c.in_ok-read_onto.ensures.kept) in
    let given = parameters_given (wants_of c.args.params.now) c.args.reader.stand c.requires.ready.1 each.answers c.in_ok-whole.whole.nodes c.in_ok-whole.whole.items c.requires.ready.2 c.requires.ready.3 reads in
    rw given.left refl

pub returns-clause-reads : goal.returns-clause-reads
returns-clause-reads g c =
    let each = c.in_ok-read_onto.ensures.reads in
    let reads = closed_reads (wants_of c.args.params.now) each.answers c.args.reader.stand c.read_onto.new.reader.stand c.in_ok-whole.whole.nodes c.in_ok-whole.whole.items each.reads (c.in_ok-whole.ensures.gives c.in_ok-read_onto.ensures.kept) in
    let given = parameters_given (wants_of c.args.params.now) c.args.reader.stand c.requires.ready.1 each.answers c.in_ok-whole.whole.nodes c.in_ok-whole.whole.items c.requires.ready.2 c.requires.ready.3 reads in
    record {
      answers = each.answers;
      whole = c.in_ok-whole.whole.items;
      reads = rw c.without_head.ensures.nodes reads;
      items = some_same c.without_head.result.items (joined each.answers) (sym c.without_head.ensures.items ∙ given.left);
      values = each.values;
    }
