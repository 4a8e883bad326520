use Rattle.java_shapes.proofs.NoteLaws.{note_written}
use Rattle.java_shapes.proofs.laws.notes_are_written.Goals as goal

pub returns : goal.returns
returns c = note_written
