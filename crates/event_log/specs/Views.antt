-- The event that is read.
use Rattle.history.specs.declared.asks.Event.{Event}
use Rattle.event_log.specs.declared.view.EventView.{EventView}
use Rattle.event_log.specs.declared.view.EventView.TheVariants.{Kept, Made}

abbrev pub event_viewed : EventView → Event
event_viewed (Kept event) = event.now
event_viewed (Made event) = event
