-- The calls that connections run.
use Rattle.std.specs.Prelude.{ℕ, ◌+◌, ◌-◌, Bool, false, [], ◌∷◌, ◌==◌, ◌&&◌, nat_lt, if◌then◌else◌}
use Rattle.object_ids.specs.declared.ids.ObjId.{ObjId}
use Rattle.object_ids.specs.Same.{same_id}
use Rattle.history.specs.declared.places.Place.{Place}
use Rattle.history.specs.Places.{History}
use Rattle.history.specs.declared.asks.Ask.{Ask}
use Rattle.history.specs.declared.asks.Ask.TheVariants.{Begin, Finish, Abandon}

-- A Begin of the object.
abbrev pub is_begin_of : ObjId → Ask → Bool
is_begin_of o (Begin object) = same_id object o
is_begin_of o _ = false

-- A Finish or an Abandon of the object.
abbrev pub is_end_of : ObjId → Ask → Bool
is_end_of o (Finish object made listed uid) = same_id object o
is_end_of o (Abandon object) = same_id object o
is_end_of o _ = false

-- The place begins a call of the object for the connection.
abbrev pub begins_call : ℕ → ObjId → Place → Bool
begins_call by o p = p.effective && p.event.by == by && is_begin_of o p.event.ask

-- The place ends one.
abbrev pub ends_call : ℕ → ObjId → Place → Bool
ends_call by o p = p.effective && p.event.by == by && is_end_of o p.event.ask

-- How many calls of the object the connection runs: an effective Begin adds one, an effective Finish or Abandon ends one.
unfoldable pub running_calls_by : History → ℕ → ObjId → ℕ
running_calls_by [] by o = 0
running_calls_by (p ∷ before) by o =
    if begins_call by o p then running_calls_by before by o + 1
    else if ends_call by o p then running_calls_by before by o - 1
    else running_calls_by before by o

-- The place begins a call of the object for some connection.
abbrev pub begins_any : ObjId → Place → Bool
begins_any o p = p.effective && is_begin_of o p.event.ask

-- The place ends one.
abbrev pub ends_any : ObjId → Place → Bool
ends_any o p = p.effective && is_end_of o p.event.ask

-- How many calls of the object all connections run.
unfoldable pub running_calls : History → ObjId → ℕ
running_calls [] o = 0
running_calls (p ∷ before) o =
    if begins_any o p then running_calls before o + 1
    else if ends_any o p then running_calls before o - 1
    else running_calls before o

-- Some connection runs a call of the object.
unfoldable pub is_running : History → ObjId → Bool
is_running h o = nat_lt 0 (running_calls h o)
