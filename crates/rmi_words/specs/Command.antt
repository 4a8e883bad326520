-- The command lines of the program.
use Rattle.std.specs.Prelude.{◌≡◌, ℕ, ◌<◌, ◌≤◌, ◌^◌, codes, decimal, List, [], ◌∷◌}
use Rattle.rmi_words.specs.CallWords.{IsCall}
use Rattle.rmi_words.specs.Clients.{IsClient}
use Rattle.rmi_words.specs.HostWords.{IsHost}
use Rattle.rmi_words.specs.Options.{AreGivenBy, SpellsUpTo}
use Rattle.rmi_words.specs.declared.options.ServeWords.{ServeWords}
use Rattle.rmi_words.specs.declared.options.LeaseOptions.{LeaseOptions}
use Rattle.rmi_words.specs.declared.command.Command.{Command}
use Rattle.rmi_words.specs.declared.command.Command.TheVariants.{Answer, Serve, Host, Client, Call, Replay, Show, Drill, World, Class, Help}
use Rattle.rmi_words.specs.declared.command.ClassOutput.{ClassOutput}
use Rattle.rmi_words.specs.declared.command.ClassOutput.TheVariants as outputs
use Rattle.rmi_words.specs.declared.command.DrillText.{DrillText}
use Rattle.rmi_words.specs.declared.command.DrillText.TheVariants.{Summary, Journal}
use Rattle.rmi_words.specs.declared.command.HelpTopic.{HelpTopic}
use Rattle.rmi_words.specs.declared.command.HelpTopic.TheVariants as topics
use Rattle.rmi_words.specs.declared.numbers.TheConstants.{MAX_ROUNDS}

-- These words are a word alone.
abbrev pub IsWord : List (List ℕ) → List ℕ → Type 0
IsWord words word = words ≡ word ∷ []

-- These words are `answer`, and up to three words that give its options.
pub record IsAnswer (options : LeaseOptions) (words : List (List ℕ)) : Type 0 where
  pub rest : List (List ℕ)
  pub words_are : words ≡ codes "answer" ∷ rest
  pub options_are : AreGivenBy options rest

-- What `serve` is told by a word for the port, a word for the count, and up to three words that give its options.
pub record IsToldBy (port count : List ℕ) (serve : ServeWords) (rest : List (List ℕ)) : Type 0 where
  pub port_is : SpellsUpTo 65535 serve.port port
  pub count_is : SpellsUpTo 65535 serve.count count
  pub options_are : AreGivenBy serve.options rest

-- These words are `serve`, and the words for what it is told.
pub record IsServe (serve : ServeWords) (words : List (List ℕ)) : Type 0 where
  pub port : List ℕ
  pub count : List ℕ
  pub rest : List (List ℕ)
  pub words_are : words ≡ codes "serve" ∷ port ∷ count ∷ rest
  pub told : IsToldBy port count serve rest

-- The numbers of a drill: a seed below 2^63, and 1 to 1,000,000 rounds.
pub record AreInRange (seed rounds : ℕ) : Type 0 where
  pub seed_fits : seed < 2 ^ 63
  pub some : 1 ≤ rounds
  pub most : rounds ≤ MAX_ROUNDS

-- Two words spell no numbers of a drill.
abbrev pub SpellNoDrill : List ℕ → List ℕ → Type 0
SpellNoDrill seed rounds = (a b : ℕ) → AreInRange a b → seed ≡ decimal a → rounds ≡ decimal b → ⊥

-- These words are a word, and the numbers of a drill: its seed, then its rounds.
pub record IsWordOfDrill (words : List (List ℕ)) (word : List ℕ) (seed rounds : ℕ) : Type 0 where
  pub in_range : AreInRange seed rounds
  pub words_are : words ≡ word ∷ decimal seed ∷ decimal rounds ∷ []

-- the word of a drill's text
abbrev pub word_of_text : DrillText → List ℕ
word_of_text Summary = codes "drill"
word_of_text Journal = codes "journal"

-- the word of what is printed of a class
abbrev pub word_of_output : ClassOutput → List ℕ
word_of_output outputs.Number = codes "suid"
word_of_output outputs.Text = codes "suidtext"
word_of_output outputs.Description = codes "describe"

-- The words after `help` that name the commands to explain: none for all, or one command's.
abbrev pub words_of_topic : HelpTopic → List (List ℕ)
words_of_topic topics.All = []
words_of_topic topics.Answer = codes "answer" ∷ []
words_of_topic topics.Serve = codes "serve" ∷ []
words_of_topic topics.Host = codes "host" ∷ []
words_of_topic topics.List = codes "list" ∷ []
words_of_topic topics.Lookup = codes "lookup" ∷ []
words_of_topic topics.Bind = codes "bind" ∷ []
words_of_topic topics.Unbind = codes "unbind" ∷ []
words_of_topic topics.Call = codes "call" ∷ []
words_of_topic topics.Replay = codes "replay" ∷ []
words_of_topic topics.Show = codes "show" ∷ []
words_of_topic topics.Drill = codes "drill" ∷ []
words_of_topic topics.Journal = codes "journal" ∷ []
words_of_topic topics.World = codes "world" ∷ []
words_of_topic topics.Suid = codes "suid" ∷ []
words_of_topic topics.SuidText = codes "suidtext" ∷ []
words_of_topic topics.Describe = codes "describe" ∷ []
words_of_topic topics.Help = codes "help" ∷ []

-- These words ask for the command.
abbrev pub AskFor : List (List ℕ) → Command → Type 0
AskFor words (Answer options) = IsAnswer options words
AskFor words (Serve serve) = IsServe serve words
AskFor words (Host host) = IsHost host words
AskFor words (Client command) = IsClient command words
AskFor words (Call call) = IsCall call words
AskFor words Replay = IsWord words (codes "replay")
AskFor words Show = IsWord words (codes "show")
AskFor words (Drill text seed rounds) = IsWordOfDrill words (word_of_text text) seed rounds
AskFor words World = IsWord words (codes "world")
AskFor words (Class output) = IsWord words (word_of_output output)
AskFor words (Help topic) = words ≡ codes "help" ∷ words_of_topic topic

-- These words ask for no command.
abbrev pub AskForNothing : List (List ℕ) → Type 0
AskForNothing words = (command : Command) → AskFor words command → ⊥
