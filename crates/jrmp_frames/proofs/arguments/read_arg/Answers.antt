use Rattle.std.proofs.Common.{sym}
use Rattle.ser_read.proofs.Wants.{want_slot}
use Rattle.ser_read.proofs.Breaking.{want_raised, want_said, want_first}
use Rattle.jrmp_frames.specs.Messages.{want_of}
use Rattle.jrmp_frames.proofs.Each.{slot_argument}
use Rattle.jrmp_frames.proofs.arguments.read_arg.Goals as goal

pub returns-in_err-slot-in-Slot-clause-stops : goal.returns-in_err-slot-in-Slot-clause-stops
returns-in_err-slot-in-Slot-clause-stops g c = want_raised c.from_residual.result c.from_residual.ensures.1 (want_said (λ end bs here. want_slot end (want_of c.args.code) c.args.reader.now.stand bs (sym c.in-Slot.ensures)) (want_first _ (c.in_err-slot-in-Slot.ensures.stops c.requires.kept)))

pub returns-in_ok-slot-in-Slot-clause-reads : goal.returns-in_ok-slot-in-Slot-clause-reads
returns-in_ok-slot-in-Slot-clause-reads g c = slot_argument c.args.code c.args.reader.now.stand c.slot.new.self.stand c.in_ok-slot-in-Slot.slot (sym c.in-Slot.ensures) c.in_ok-slot-in-Slot.ensures.reads
