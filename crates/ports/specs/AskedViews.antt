-- The entry that is read.
use Rattle.space.specs.declared.asked.Asked.{Asked}
use Rattle.ports.specs.declared.asked_view.AskedView.{AskedView}
use Rattle.ports.specs.declared.asked_view.AskedView.TheVariants.{Kept, Made}

abbrev pub entry_of_view : AskedView → Asked
entry_of_view (Kept entry) = entry.now
entry_of_view (Made entry) = entry
