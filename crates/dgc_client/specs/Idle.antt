-- The state of a table's references, as it is known since the last `due` for which no call was due.
use Rattle.std.specs.Prelude.{◌≡◌, true, false, List, [], filter, map}
use Rattle.dgc_client.specs.declared.client_ref.ClientRef.{ClientRef}
use Rattle.dgc_client.specs.declared.idle.Idle.{Idle}
use Rattle.dgc_client.specs.declared.idle.Idle.TheVariants.{Unknown, Timely, Over}
use Rattle.dgc_client.specs.Log.{Dirty}
use Rattle.dgc_client.specs.RefMap.{lapsed}
use Rattle.dgc_client.specs.StandsForLog.{wants}

-- These dirty calls are under way, and no reference wants a call: while the client's time lasts, or where it is over and no reference is sure.
abbrev pub IsIdle : Idle → List Dirty → List ClientRef → Type 0
IsIdle Unknown sent refs = Unit {0}
IsIdle Timely sent refs = filter (wants false sent) refs ≡ []
IsIdle Over sent refs = (filter (wants true sent) refs ≡ []) × (map lapsed refs ≡ refs)
