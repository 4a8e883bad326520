use Rattle.java_shapes.proofs.NoteLaws.{note_read}
use Rattle.java_shapes.proofs.laws.notes_are_read.Goals as goal

pub returns : goal.returns
returns c = note_read
