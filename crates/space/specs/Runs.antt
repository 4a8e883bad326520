-- Lists of running calls that stand for those of a history: each is of a connection and an object.
use Rattle.std.specs.Prelude.{◌≡◌, ℕ, Bool, ◌&&◌, ◌==◌, List, [], ◌∷◌, length, filter, if◌then◌else◌}
use Rattle.object_ids.specs.declared.ids.ObjId.{ObjId}
use Rattle.object_ids.specs.Same.{same_id}
use Rattle.history.specs.Limits.{reserved_units}
use Rattle.history.specs.Running.{running_calls_by, running_calls}
use Rattle.history.specs.Places.{History}
use Rattle.space.specs.declared.runs.Run.{Run}

-- The list without the first item that passes.
abbrev pub without_first : {R : Type 0} → (R → Bool) → List R → List R
without_first test [] = []
without_first test (r ∷ rs) = if test r then rs else r ∷ without_first test rs

abbrev pub is_run_of : {R : Type 0} → (R → ℕ) → (R → ObjId) → ℕ → ObjId → R → Bool
is_run_of by object b o r = by r == b && same_id (object r) o

abbrev pub is_run_on : {R : Type 0} → (R → ObjId) → ObjId → R → Bool
is_run_on object o r = same_id (object r) o

-- The list has each connection's running calls of each object.
pub record RunsStand {R : Type 0} (by : R → ℕ) (object : R → ObjId) (h : History) (runs : List R) : Type 0 where
  pub lines : (b : ℕ) (o : ObjId) → length (filter (is_run_of by object b o) runs) ≡ running_calls_by h b o
  pub calls : (o : ObjId) → length (filter (is_run_on object o) runs) ≡ running_calls h o
  pub all : length runs ≡ reserved_units h

-- Whose a running call is, and of what.
abbrev pub caller_of : Run → ℕ
caller_of r = r.by

abbrev pub object_of : Run → ObjId
object_of r = r.object

-- It is a connection's call of an object.
abbrev pub is_run : ℕ → ObjId → Run → Bool
is_run by o r = is_run_of caller_of object_of by o r
