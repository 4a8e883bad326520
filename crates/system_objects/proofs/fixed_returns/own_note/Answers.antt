use Rattle.java_shapes.specs.RefNotes.{ref_note}
use Rattle.system_objects.proofs.fixed_returns.own_note.Goals as goal

pub returns : goal.returns
unfolding ref_note
returns c = rw (c.as_slice.ensures, c.in_ok-host.ensures, c.note_tail.ensures) at c.in_ok-note.ensures
