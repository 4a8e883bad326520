-- What a command's words give, each by the name of its place.
use Rattle.std.specs.Prelude.{◌≡◌, ℕ, codes, decimal, List, [], Option, Some, None, option_map, slice_get, unwrap_or}
use Rattle.clap.specs.Words.{Row, Text, all_of, first_of, first_value, found_of, matched_of, raw_values}
use Rattle.clap.specs.declared.ArgMatches.{ArgMatches}
use Rattle.rmi_words.specs.CallWords.{AreArguments, IsMethodOf}
use Rattle.rmi_words.specs.Clients.{IsNamedIn, IsToldBy, named_words, word_of_client}
use Rattle.rmi_words.specs.Command.{AreInRange, word_of_output, word_of_text, words_of_topic}
use Rattle.rmi_words.specs.HostWords.{IsAddress, IsOwnHost, IsRecordOf}
use Rattle.rmi_words.specs.Options.{IsBindingOf, IsDurationOf, IsSmallOf, default_options}
use Rattle.rmi_words.specs.declared.call_words.CallWords.{CallWords}
use Rattle.rmi_words.specs.declared.host_words.HostWords.{HostWords}
use Rattle.rmi_words.specs.declared.options.ServeWords.{ServeWords}
use Rattle.rmi_words.specs.declared.options.LeaseOptions.{LeaseOptions}
use Rattle.rmi_words.specs.declared.command.Command.{Command}
use Rattle.rmi_words.specs.declared.command.Command.TheVariants.{Answer, Serve, Host, Client, Call, Replay, Show, Drill, World, Class, Help}
use Rattle.rmi_words.specs.declared.command.HelpTopic.{HelpTopic}

-- The word at the place of this name, where there is one.
abbrev pub Values : Type 0
Values = List ℕ → Option (List ℕ)

-- the same of `clap`'s matches
abbrev pub values_of : ArgMatches → Values
values_of matches name = first_value (found_of matches) name

-- What a command's words are: the word at each place, and all words at the place ARG, where several may stand.
pub record Given : Type 0 where
  pub value : Values
  pub arguments : List (List ℕ)

-- the words at the place ARG, of `clap`'s matches
abbrev pub arguments_of : ArgMatches → List (List ℕ)
arguments_of matches = unwrap_or (option_map raw_values (matched_of (found_of matches) (codes "ARG"))) []

-- the words in `clap`'s matches
abbrev pub given_of : ArgMatches → Given
given_of matches = record { value = values_of matches; arguments = arguments_of matches }

-- the same in rows
abbrev pub given_in : List Row → Given
given_in rows = record { value = λ name. first_of name rows; arguments = unwrap_or (all_of (codes "ARG") rows) [] }

-- The options.
pub record AreOptionsOf (options : LeaseOptions) (value : Values) : Type 0 where
  pub binding : IsBindingOf options.binding (value (codes "BINDING"))
  pub lease : IsDurationOf default_options.lease_ms options.lease_ms (value (codes "LEASE"))
  pub ack : IsDurationOf default_options.ack_ms options.ack_ms (value (codes "ACK"))

-- What `serve` is told.
pub record IsServeOf (serve : ServeWords) (value : Values) : Type 0 where
  pub port : IsSmallOf serve.port (value (codes "PORT"))
  pub count : IsSmallOf serve.count (value (codes "COUNT"))
  pub options : AreOptionsOf serve.options value

-- What `host` is told.
pub record IsHostOf (host : HostWords) (value : Values) : Type 0 where
  pub address_is : IsAddress host.address (value (codes "ADDRESS"))
  pub host_is : IsOwnHost host.host (value (codes "HOST"))
  pub port_is : IsSmallOf host.port (value (codes "PORT"))
  pub options_are : AreOptionsOf host.options value
  pub output_is : IsRecordOf host.output (value (codes "RECORD"))

-- The numbers of a drill.
pub record IsDrillOf (seed rounds : ℕ) (value : Values) : Type 0 where
  pub in_range : AreInRange seed rounds
  pub seed_is : value (codes "SEED") ≡ Some (decimal seed)
  pub rounds_is : value (codes "N") ≡ Some (decimal rounds)

-- The commands to explain.
abbrev pub IsTopicOf : HelpTopic → Option (List ℕ) → Type 0
IsTopicOf topic word = word ≡ slice_get (words_of_topic topic) 0

-- What `call` is told.
pub record IsCallOf (call : CallWords) (given : Given) : Type 0 where
  pub name_is : IsNamedIn call.server call.name (named_words given.value)
  pub method_is : IsMethodOf call.method (given.value (codes "METHOD"))
  pub arguments_are : AreArguments call.method.params call.arguments given.arguments

-- the word that names a command
abbrev pub name_of : Command → List ℕ
name_of (Answer options) = codes "answer"
name_of (Serve serve) = codes "serve"
name_of (Host host) = codes "host"
name_of (Client command) = word_of_client command
name_of (Call call) = codes "call"
name_of Replay = codes "replay"
name_of Show = codes "show"
name_of (Drill text seed rounds) = word_of_text text
name_of World = codes "world"
name_of (Class output) = word_of_output output
name_of (Help topic) = codes "help"

-- What a command is told is given by these words.
abbrev pub IsToldIn : Command → Given → Type 0
IsToldIn (Answer options) given = AreOptionsOf options given.value
IsToldIn (Serve serve) given = IsServeOf serve given.value
IsToldIn (Host host) given = IsHostOf host given.value
IsToldIn (Client command) given = IsToldBy command (named_words given.value)
IsToldIn (Call call) given = IsCallOf call given
IsToldIn Replay given = Unit {0}
IsToldIn Show given = Unit {0}
IsToldIn (Drill text seed rounds) given = IsDrillOf seed rounds given.value
IsToldIn World given = Unit {0}
IsToldIn (Class output) given = Unit {0}
IsToldIn (Help topic) given = IsTopicOf topic (given.value (codes "COMMAND"))

-- This word names the command, and these are its words.
abbrev pub IsCommandOf : List ℕ → Command → Given → Type 0
IsCommandOf name command given = (name ≡ name_of command) × IsToldIn command given

-- The command's words are read without memory.
abbrev pub IsOwn : Command → Type 0
IsOwn (Host host) = ⊥
IsOwn (Client command) = ⊥
IsOwn (Call call) = ⊥
IsOwn _ = Unit {0}

-- This word names the command, whose words are read without memory, and these are its words.
abbrev pub IsOwnOf : List ℕ → Command → Given → Type 0
IsOwnOf name command given = IsOwn command × IsCommandOf name command given

-- A command by `clap`'s name and rows of it, where there is one.
abbrev pub IsCommandIn : Command → Option (Text × List Row) → Type 0
IsCommandIn command None = ⊥
IsCommandIn command (Some p) = IsCommandOf p.0 command (given_in p.1)
