-- What `rmi list`, `rmi lookup`, `rmi bind` and `rmi unbind` do and print.
use Rattle.std.specs.Prelude.{◌≡◌, ◌⊎◌, ℕ, ◌<◌, pos, List, [], ◌∷◌, ◌++◌, codes, Option, Result, Ok, Err}
use Rattle.std.specs.List.{flat_map}
use Rattle.std.specs.Fmt.{signed_decimal}
use Rattle.java_shapes.specs.declared.ref_views.LiveRef.{LiveRef}
use Rattle.journal.specs.Grammar.{long_text}
use Rattle.wire_io.specs.Links.{Dialing}
use Rattle.wire_io.specs.Wire.{WriteHalf, Rose}
use Rattle.client_talk.specs.Scripts.{Script}
use Rattle.client_talk.specs.Rmi.{rmi}
use Rattle.client_talk.specs.Steps.{AnyOf, Ended, Spoke}
use Rattle.client_talk.specs.Commands.{bind_script, list_script, lookup_script, unbind_script}
use Rattle.client_talk.specs.declared.end.CommandEnd.{CommandEnd}
use Rattle.client_talk.specs.declared.end.CommandEnd.TheVariants.{DialFault}
use Rattle.client_talk.specs.declared.place.Place.{Place}
use Rattle.rmi_words.specs.declared.client.ClientCommand.{ClientCommand}
use Rattle.rmi_words.specs.declared.client.ClientCommand.TheVariants.{List as ListNames, Lookup, Bind, Unbind}
use Rattle.rmi_words.specs.declared.client.ServerAddress.{ServerAddress}
use Rattle.rmi_cli.specs.ServedLinks.{Printed}
use Rattle.rmi_cli.specs.TalkEnds.{shown}
use Rattle.rmi_cli.specs.Told.{Reported, TellsEnd}
use Rattle.rmi_cli.specs.declared.end.RunEnd.{RunEnd}
use Rattle.rmi_cli.specs.declared.end.RunEnd.TheVariants.{Talked}

-- where a server is dialled
abbrev pub place_of : ServerAddress → Place
place_of server = record { host = server.host; port = pos server.port }

-- ---- what is printed

-- names, one a line
abbrev pub name_line : List ℕ → List ℕ
name_line name = shown name ++ 10 ∷ []

abbrev pub names_text : List (List ℕ) → List ℕ
names_text names = flat_map name_line names

-- the line of a reference: HOST PORT N:U/T/C
abbrev pub reference_text : LiveRef → List ℕ
reference_text reference = shown reference.host ++ (32 ∷ signed_decimal reference.port) ++ 32 ∷ long_text reference.id ++ 10 ∷ []

-- the line that tells that all was done
abbrev pub ok_text : Unit {0} → List ℕ
ok_text done = codes "ok" ++ 10 ∷ []

-- The text of what a talk answered was printed, and that is how the run ends; where the talk did not end well, nothing was, and the run ends as it.
abbrev pub PrintsAnswer : {V : Type 0} → (V → List ℕ) → WriteHalf → WriteHalf → Result V CommandEnd → RunEnd → Type 0
PrintsAnswer text old new (Ok value) end = Printed old.held new.held old.faults new.faults (text value) end
PrintsAnswer text old new (Err stop) end = (end ≡ Talked stop) × (new.held ≡ old.held)

-- ---- a whole command

-- What such a command changes: what the dialer shows, the halves of dialled links that were left, and what the output shows.
pub record Side : Type 0 where
  pub dialing : Dialing
  pub talked : List Ended
  pub output : WriteHalf

abbrev pub side : Dialing → List Ended → WriteHalf → Side
side dialing talked output = record { dialing = dialing; talked = talked; output = output }

-- A command that is this script was talked to an answer, which was printed with this text. No link was given only where the dialer failed.
pub record Asks {V : Type 0} (s : Script rmi V) (text : V → List ℕ) (old new : Side) (given given2 : Option (List ℕ)) (end : RunEnd) : Type 0 where
  pub answer : Result V CommandEnd
  pub spoke : Spoke s old.dialing.dialed new.dialing.dialed old.talked new.talked given given2 answer
  pub fault : answer ≡ Err DialFault → Rose old.dialing.faults new.dialing.faults
  pub prints : PrintsAnswer text old.output new.output answer end

-- What each command asks of a server, and prints.
abbrev pub AsksBy : ClientCommand → Side → Side → Option (List ℕ) → Option (List ℕ) → RunEnd → Type 0
AsksBy (ListNames server) old new given given2 end = Asks (list_script (place_of server)) names_text old new given given2 end
AsksBy (Lookup server name) old new given given2 end = Asks (lookup_script (place_of server) name) reference_text old new given given2 end
AsksBy (Bind server name from) old new given given2 end = Asks (bind_script (place_of server) name from) ok_text old new given given2 end
AsksBy (Unbind server name) old new given given2 end = Asks (unbind_script (place_of server) name) ok_text old new given given2 end

-- A server was asked to an end, which is told.
abbrev pub AsksServer : ClientCommand → Side → Side → Option (List ℕ) → Option (List ℕ) → Reported → Type 0
AsksServer command old new given given2 told = (end : RunEnd) × AsksBy command old new given given2 end × TellsEnd told end

-- ---- causes

-- This holds of the halves of a link that was dialled.
abbrev pub OfALink : (Ended → Type 0) → Side → Side → Type 0
OfALink P old new = (left : List Ended) × (new.talked ≡ old.talked ++ left) × AnyOf P left

-- The dialer failed, or the source of a link that was dialled.
abbrev pub LinkFailed : Side → Side → Type 0
LinkFailed old new = Rose old.dialing.faults new.dialing.faults ⊎ OfALink (λ e. 0 < e.read.faults) old new

-- The output failed, or the sink of a link that was dialled.
abbrev pub SinkFailed : Side → Side → Type 0
SinkFailed old new = Rose old.output.faults new.output.faults ⊎ OfALink (λ e. 0 < e.write.faults) old new
