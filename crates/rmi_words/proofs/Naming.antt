-- The command that a word names.
use Rattle.std.proofs.Common.{◌≡◌, ℕ, List, codes, if◌then◌else◌, refl, subst}
use Rattle.object_ids.specs.Same.{same_bytes}
use Rattle.rmi_words.specs.Values.{name_of}
use Rattle.rmi_words.specs.declared.call_words.CallWords.{CallWords}
use Rattle.rmi_words.specs.declared.client.ClientCommand.TheVariants.{List as ListNames, Lookup, Bind, Unbind}
use Rattle.rmi_words.specs.declared.client.ServerAddress.{ServerAddress}
use Rattle.rmi_words.specs.declared.host_words.HostWords.{HostWords}
use Rattle.rmi_words.specs.declared.options.LeaseOptions.{LeaseOptions}
use Rattle.rmi_words.specs.declared.options.ServeWords.{ServeWords}
use Rattle.rmi_words.specs.declared.command.Command.{Command}
use Rattle.rmi_words.specs.declared.command.Command.TheVariants.{Answer, Serve, Host, Client, Call, Replay, Show, Drill, World, Class, Help}
use Rattle.rmi_words.specs.declared.command.ClassOutput.TheVariants as outputs
use Rattle.rmi_words.specs.declared.command.HelpTopic.{HelpTopic}
use Rattle.rmi_words.specs.declared.command.HelpTopic.TheVariants as topics
use Rattle.rmi_words.specs.declared.command.DrillText.TheVariants.{Summary, Journal}

-- the topic of a word
abbrev pub topic_in : List ℕ → HelpTopic
topic_in word =
    if same_bytes word (codes "answer") then topics.Answer else (
    if same_bytes word (codes "serve") then topics.Serve else (
    if same_bytes word (codes "host") then topics.Host else (
    if same_bytes word (codes "list") then topics.List else (
    if same_bytes word (codes "lookup") then topics.Lookup else (
    if same_bytes word (codes "bind") then topics.Bind else (
    if same_bytes word (codes "unbind") then topics.Unbind else (
    if same_bytes word (codes "call") then topics.Call else (
    if same_bytes word (codes "replay") then topics.Replay else (
    if same_bytes word (codes "show") then topics.Show else (
    if same_bytes word (codes "drill") then topics.Drill else (
    if same_bytes word (codes "journal") then topics.Journal else (
    if same_bytes word (codes "world") then topics.World else (
    if same_bytes word (codes "suid") then topics.Suid else (
    if same_bytes word (codes "suidtext") then topics.SuidText else (
    if same_bytes word (codes "describe") then topics.Describe else (
    if same_bytes word (codes "help") then topics.Help else (topics.All)))))))))))))))))

-- The command is the one that this topic explains.
abbrev pub IsOf : HelpTopic → Command → Type 0
IsOf topics.All command = ⊥
IsOf topics.Answer command = (options : LeaseOptions) × (command ≡ Answer options)
IsOf topics.Serve command = (serve : ServeWords) × (command ≡ Serve serve)
IsOf topics.Host command = (host : HostWords) × (command ≡ Host host)
IsOf topics.List command = (server : ServerAddress) × (command ≡ Client (ListNames server))
IsOf topics.Lookup command = (server : ServerAddress) × (name : List ℕ) × (command ≡ Client (Lookup server name))
IsOf topics.Bind command = (server : ServerAddress) × (name from : List ℕ) × (command ≡ Client (Bind server name from))
IsOf topics.Unbind command = (server : ServerAddress) × (name : List ℕ) × (command ≡ Client (Unbind server name))
IsOf topics.Call command = (call : CallWords) × (command ≡ Call call)
IsOf topics.Replay command = command ≡ Replay
IsOf topics.Show command = command ≡ Show
IsOf topics.Drill command = (numbers : ℕ × ℕ) × (command ≡ Drill Summary numbers.0 numbers.1)
IsOf topics.Journal command = (numbers : ℕ × ℕ) × (command ≡ Drill Journal numbers.0 numbers.1)
IsOf topics.World command = command ≡ World
IsOf topics.Suid command = command ≡ Class outputs.Number
IsOf topics.SuidText command = command ≡ Class outputs.Text
IsOf topics.Describe command = command ≡ Class outputs.Description
IsOf topics.Help command = (topic : HelpTopic) × (command ≡ Help topic)

is_of : (command : Command) → IsOf (topic_in (name_of command)) command
is_of (Answer options) = (options, refl)
is_of (Serve serve) = (serve, refl)
is_of (Host host) = (host, refl)
is_of (Client (ListNames server)) = (server, refl)
is_of (Client (Lookup server name)) = (server, name, refl)
is_of (Client (Bind server name from)) = (server, name, from, refl)
is_of (Client (Unbind server name)) = (server, name, refl)
is_of (Call call) = (call, refl)
is_of Replay = refl
is_of Show = refl
is_of (Drill Summary seed rounds) = ((seed, rounds), refl)
is_of (Drill Journal seed rounds) = ((seed, rounds), refl)
is_of World = refl
is_of (Class outputs.Number) = refl
is_of (Class outputs.Text) = refl
is_of (Class outputs.Description) = refl
is_of (Help topic) = (topic, refl)

-- A word that names a command tells which.
pub named_by : (word : List ℕ) (command : Command) → name_of command ≡ word → IsOf (topic_in word) command
named_by word command same = subst (λ w. IsOf (topic_in w) command) same (is_of command)
