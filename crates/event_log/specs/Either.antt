-- What contracts see of events that are stored or exist in proofs alone.
use Rattle.event_log.specs.Log.{EventRecord}
use Rattle.event_log.specs.declared.space_events.Kept.{Kept}
use Rattle.event_log.specs.declared.space_events.Kept.TheVariants.{Stored, Erased}

abbrev pub record_of : Kept → EventRecord
record_of (Stored log) = log
record_of (Erased log) = log
