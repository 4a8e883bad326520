-- The entries that a port told of.
use Rattle.std.specs.Prelude.{List, [], ◌∷◌, ◌++◌}
use Rattle.space.specs.declared.asked.Asked.{Asked}
use Rattle.ports.specs.declared.told_log.ToldEntry.{ToldEntry}
use Rattle.ports.specs.declared.told_log.ToldEntry.TheVariants.{Answered, GivenUp}
use Rattle.ports.specs.Ports.{abandoned_at, entries_of}

-- The entries of one call: none where there was no memory for the turn.
abbrev pub entries_with : ToldEntry → List Asked
entries_with (Answered moment ask answer) = entries_of moment.value ask.value answer.value
entries_with (GivenUp moment object place) = abandoned_at moment.value object.value place.value ∷ []

abbrev pub entries_told : List ToldEntry → List Asked
entries_told [] = []
entries_told (told ∷ more) = entries_with told ++ entries_told more
