-- The lock's handles, as its contracts see them.
use Rattle.std.specs.Prelude.{◌≡◌, ◌+◌, ◌<◌, ◌≤◌, Bool, []}
use Rattle.history.specs.Steps.{IsLegal}
use Rattle.space.specs.Built.{SpaceHistory}
use Rattle.turn_lock.specs.declared.view.View.{View}
use Rattle.turn_lock.specs.declared.view.SeatState.TheVariants.{Idle}
use Rattle.turn_lock.specs.declared.handles.TurnLock.{TurnLock}
use Rattle.turn_lock.specs.declared.handles.Pass.{Pass}
use Rattle.turn_lock.specs.declared.handles.Root.{Root}
use Rattle.turn_lock.specs.Rule.{InOrder, most_passes, root, space_with}

-- The space round which the lock was made.
abbrev pub opening_of : TurnLock → SpaceHistory
opening_of l = l.board.shared.key.value

-- Whether the lock keeps further events until they are handed out.
abbrev pub keeps_events : TurnLock → Bool
keeps_events l = l.records

-- What the pass knows.
abbrev pub view_of : Pass → View
view_of p = p.seat.me.0

-- The space as the pass has seen it.
abbrev pub seen_space : View → SpaceHistory
seen_space v = space_with v.config v.seen

-- The pass is the lock's, and makes no turn. What it has seen is in order.
pub record IsPassOf (l : TurnLock) (p : Pass) : Type 0 where
  pub table : p.seat.table_id ≡ l.board.shared.table_id
  pub empty : p.seat.me.1 ≡ []
  pub idle : p.seat.me.0.state ≡ Idle
  pub numbered : p.number ≡ p.seat.me.0.number
  pub part : 0 < p.seat.me.0.parts
  pub configured : p.seat.me.0.config ≡ l.board.shared.key.value.configuration
  pub opened : p.seat.me.0.opening ≡ l.board.shared.key.value.events
  pub legal : IsLegal p.seat.me.0.config p.seat.me.0.seen
  pub ordered : InOrder l.board.shared.key.value p.seat.me.0

-- A pass that was split off the root, which is one part.
abbrev pub IsBranchOf : TurnLock → Pass → Type 0
IsBranchOf l p = IsPassOf l p × (p.seat.me.0.parts ≡ 1)

-- The root is the lock's.
pub record IsRootOf (l : TurnLock) (r : Root) : Type 0 where
  pub pass_is : IsPassOf l r.pass
  pub first : r.pass.seat.id ≡ 0
  pub made_are : r.pass.seat.me.0.made ≡ r.made
  pub parts : r.pass.seat.me.0.parts + r.out ≡ most_passes + 1
  pub some_out : r.out ≤ r.made
  pub most : r.made ≤ most_passes

-- The root is the lock's, no pass was split from it, and it made no turn.
pub record IsFresh (l : TurnLock) (r : Root) : Type 0 where
  pub own : IsRootOf l r
  pub knows : r.pass.seat.me.0 ≡ root (opening_of l)
  pub none_out : r.out ≡ 0
