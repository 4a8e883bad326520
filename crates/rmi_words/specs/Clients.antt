-- The words of the commands that ask something of a server.
use Rattle.std.specs.Prelude.{◌≡◌, ◌≤◌, ℕ, false, List, ◌∷◌, length, codes, Option, Some, None, Result, Ok, Err, slice_get}
use Rattle.std.specs.List.{list_any}
use Rattle.history.specs.declared.limits.TheConstants.{MAX_NAME_UNITS}
use Rattle.rmi_words.specs.Options.{IsSmallOf}
use Rattle.rmi_words.specs.Program.{is_option}
use Rattle.mod_utf.specs.Texts.{units_of}
use Rattle.rmi_words.specs.declared.client.ClientCommand.{ClientCommand}
use Rattle.rmi_words.specs.declared.client.ClientCommand.TheVariants.{List as ListNames, Lookup, Bind, Unbind}
use Rattle.rmi_words.specs.declared.client.ServerAddress.{ServerAddress}
use Rattle.rmi_words.specs.declared.command.WordsFault.{WordsFault}
use Rattle.rmi_words.specs.declared.command.WordsFault.TheVariants.{Usage}

-- The answer is a value that is told there; Usage only where none is. Want of memory says nothing.
abbrev pub Reads : {X Y : Type 0} → (X → Y → Type 0) → Result X WordsFault → Y → Type 0
Reads Tells (Ok x) words = Tells x words
Reads {X} Tells (Err fault) words = fault ≡ Usage → (x : X) → Tells x words → ⊥

-- ---- what the words say

-- The words of a client's command, where they are: HOST, PORT, NAME and FROM.
pub record ClientWords : Type 0 where
  pub host : Option (List ℕ)
  pub port : Option (List ℕ)
  pub name : Option (List ℕ)
  pub from : Option (List ℕ)

-- There is a word, and it is this text, of at most 255 units.
abbrev pub IsTextIn : List ℕ → Option (List ℕ) → Type 0
IsTextIn units (Some word) = (units ≡ units_of word) × (length units ≤ MAX_NAME_UNITS)
IsTextIn units None = ⊥

-- Where a server is.
pub record IsAddressIn (server : ServerAddress) (words : ClientWords) : Type 0 where
  pub host_is : IsTextIn server.host words.host
  pub port_is : IsSmallOf server.port words.port

-- Where a server is, and a name there.
pub record IsNamedIn (server : ServerAddress) (name : List ℕ) (words : ClientWords) : Type 0 where
  pub server_is : IsAddressIn server words
  pub name_is : IsTextIn name words.name

-- What a command is told.
abbrev pub IsToldBy : ClientCommand → ClientWords → Type 0
IsToldBy (ListNames server) words = IsAddressIn server words
IsToldBy (Lookup server name) words = IsNamedIn server name words
IsToldBy (Bind server name from) words = IsNamedIn server name words × IsTextIn from words.from
IsToldBy (Unbind server name) words = IsNamedIn server name words

-- ---- command lines

-- the word that names a command
abbrev pub word_of_client : ClientCommand → List ℕ
word_of_client (ListNames server) = codes "list"
word_of_client (Lookup server name) = codes "lookup"
word_of_client (Bind server name from) = codes "bind"
word_of_client (Unbind server name) = codes "unbind"

-- how many words it takes
abbrev pub count_of_client : ClientCommand → ℕ
count_of_client (ListNames server) = 2
count_of_client (Lookup server name) = 3
count_of_client (Bind server name from) = 4
count_of_client (Unbind server name) = 3

-- the words of a list, by their places
abbrev pub placed_words : List (List ℕ) → ClientWords
placed_words words = record { host = slice_get words 0; port = slice_get words 1; name = slice_get words 2; from = slice_get words 3 }

-- the same by the names of their places
abbrev pub named_words : (List ℕ → Option (List ℕ)) → ClientWords
named_words value = record { host = value (codes "HOST"); port = value (codes "PORT"); name = value (codes "NAME"); from = value (codes "FROM") }

-- These words name the command, and tell it all. None begins with `-`.
pub record IsClient (command : ClientCommand) (words : List (List ℕ)) : Type 0 where
  pub rest : List (List ℕ)
  pub words_are : words ≡ word_of_client command ∷ rest
  pub count_is : length rest ≡ count_of_client command
  pub plain : list_any is_option rest ≡ false
  pub told : IsToldBy command (placed_words rest)
