-- What a port over a pass keeps.
use Rattle.std.specs.Prelude.{◌≡◌, List, ◌++◌}
use Rattle.space.specs.declared.asked.Asked.{Asked}
use Rattle.turn_lock.specs.declared.handles.Pass.{Pass}
use Rattle.turn_lock.specs.Handles.{view_of}
use Rattle.turn_lock.specs.Answers.{Gained}

-- The pass went from p to q by turns with these entries.
pub record PassWent (p q : Pass) (gained : List Asked) : Type 0 where
  pub views : Gained (view_of p) (view_of q) gained
  pub same_seat : q.seat.id ≡ p.seat.id

-- A port's pass went from p to q, while its list got further entries.
abbrev pub PortWent : Pass → List Asked → Pass → List Asked → Type 0
PortWent p before q after = (gained : List Asked) × (after ≡ before ++ gained) × PassWent p q gained
