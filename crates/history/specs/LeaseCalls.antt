-- The lease calls of a history (Java RMI Specification, chapter 9: DGC).
use Rattle.std.specs.Prelude.{ℕ, pos, Bool, List, [], ◌∷◌, ◌++◌, filter, if◌then◌else◌}
use Rattle.object_ids.specs.declared.ids.ObjId.{ObjId}
use Rattle.history.specs.declared.calls.Call.{Call}
use Rattle.history.specs.declared.calls.CallKind.TheVariants.{Dirty as DirtyCall, Weak, Strong}
use Rattle.history.specs.declared.asks.Ask.{Ask}
use Rattle.history.specs.declared.asks.Ask.TheVariants.{Dirty, Clean}
use Rattle.history.specs.Places.{History, has, ever_exported}

-- The lease call of an ask, with those of its objects that pass a test; none where it is no Dirty or Clean.
abbrev pub call_with : (ObjId → Bool) → ℕ → Ask → List Call
call_with names moment (Dirty client number asked objects) =
    record { moment = moment; client = client; number = number; objects = filter names objects; kind = DirtyCall; asked = asked } ∷ []
call_with names moment (Clean client number objects strong) =
    record { moment = moment; client = client; number = number; objects = filter names objects; kind = if strong then Strong else Weak; asked = pos 0 } ∷ []
call_with names moment _ = []

-- The lease calls of a history, the newest first. A call names those of its objects that were exported before it.
unfoldable pub lease_calls : History → List Call
lease_calls [] = []
lease_calls (p ∷ before) = call_with (has (ever_exported before)) p.moment p.event.ask ++ lease_calls before
