-- References that were returned and await their acknowledgement: each is of an object and of the return that had it.
use Rattle.std.specs.Prelude.{ℕ, ◌+◌, max, Bool, true, not, ◌&&◌, List, [], ◌∷◌, ◌++◌, map, filter, find, nat_lt, option_map, unwrap_or}
use Rattle.std.specs.List.{list_any}
use Rattle.object_ids.specs.declared.ids.Uid.{Uid}
use Rattle.object_ids.specs.declared.ids.ObjId.{ObjId}
use Rattle.object_ids.specs.Same.{same_id, same_uid}
use Rattle.export_table.specs.declared.waits.Wait.{Wait}

-- It is the wait of this object and return.
abbrev pub is_wait_of : ObjId → Uid → Wait → Bool
is_wait_of o u w = same_id w.object o && same_uid w.uid u

-- It goes on after the moment t.
abbrev pub goes_on : ℕ → Wait → Bool
goes_on t w = nat_lt t w.until

-- Those that wait at the moment t.
abbrev pub still_waiting : ℕ → List Wait → List Wait
still_waiting t waits = filter (goes_on t) waits

-- This object and return wait at the moment t.
abbrev pub is_waiting : ℕ → ObjId → Uid → List Wait → Bool
is_waiting t o u waits = list_any (λ w. goes_on t w && is_wait_of o u w) waits

-- Those of an object that wait at the moment t.
abbrev pub awaiting_of : ℕ → ObjId → List Wait → List Wait
awaiting_of t o waits = filter (λ w. goes_on t w && same_id w.object o) waits

-- Some of an object waits at the moment t.
abbrev pub is_awaited : ℕ → ObjId → List Wait → Bool
is_awaited t o waits = list_any (λ w. goes_on t w && same_id w.object o) waits

-- The moment until which this object and return wait, 0 where they are not there.
abbrev pub end_of_wait : ObjId → Uid → List Wait → ℕ
end_of_wait o u waits = unwrap_or (option_map (λ w. w.until) (find (is_wait_of o u) waits)) 0

-- The waits once an object is listed in a return at the moment t, the last listed last: it waits for `ack` from t on, and no shorter than
-- it did before. Those that ended are gone.
abbrev pub with_listed : ℕ → ℕ → ObjId → Uid → List Wait → List Wait
with_listed ack t o u waits =
    filter (λ w. not (is_wait_of o u w)) (still_waiting t waits)
    ++ record { object = o; uid = u; until = max (t + ack) (end_of_wait o u waits) } ∷ []

-- The waits once objects are listed in a return at the moment t, one after another.
abbrev pub with_each_listed : ℕ → ℕ → Uid → List ObjId → List Wait → List Wait
with_each_listed ack t uid [] waits = waits
with_each_listed ack t uid (o ∷ os) waits = with_each_listed ack t uid os (with_listed ack t o uid waits)

-- The waits once a return is acknowledged.
abbrev pub without_acknowledged : Uid → List Wait → List Wait
without_acknowledged u waits = filter (λ w. not (same_uid w.uid u)) waits

-- Those that have ended at the moment t, and those of a return.
abbrev pub ended_waits : ℕ → List Wait → List Wait
ended_waits t waits = filter (λ w. not (goes_on t w)) waits

abbrev pub of_return : Uid → List Wait → List Wait
of_return u waits = filter (λ w. same_uid w.uid u) waits

-- It ends after the first moment, and no later than the second.
abbrev pub ends_between : ℕ → ℕ → Wait → Bool
ends_between from to w = not (goes_on to w) && goes_on from w

-- The objects of waits.
abbrev pub objects : List Wait → List ObjId
objects waits = map (λ w. w.object) waits

-- Each object and return wait once.
abbrev pub each_once : List Wait → Bool
each_once [] = true
each_once (w ∷ waits) = not (list_any (is_wait_of w.object w.uid) waits) && each_once waits
