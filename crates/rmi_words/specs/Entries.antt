-- The commands of the program: the words that each takes, and what `help` says of them.
use Rattle.std.specs.Prelude.{ℕ, Bool, true, false, List, [], ◌∷◌, map, codes}
use Rattle.rmi_words.specs.declared.table.WordEntry.{WordEntry}
use Rattle.rmi_words.specs.declared.table.CommandEntry.{CommandEntry}

-- A word that a command takes: what `help` calls it, whether it has to be there, whether any number of words may stand there, and what
-- it says.
pub record Word : Type 0 where
  pub name : List ℕ
  pub required : Bool
  pub several : Bool
  pub says : List ℕ

-- A command: the word that names it, the words that it takes, what it does, and a line that calls it.
pub record Entry : Type 0 where
  pub name : List ℕ
  pub words : List Word
  pub does : List ℕ
  pub example : List ℕ

abbrev pub word_of : WordEntry → Word
word_of word = record { name = word.name.now; required = word.required; several = word.several; says = word.says.now }

abbrev pub entry_of : CommandEntry → Entry
entry_of entry = record {
  name = entry.name.now;
  words = map word_of entry.words.now;
  does = entry.does.now;
  example = entry.example.now;
}

-- ---- the words

abbrev pub needed : List ℕ → List ℕ → Word
needed name says = record { name = name; required = true; several = false; says = says }

abbrev pub free : List ℕ → List ℕ → Word
free name says = record { name = name; required = false; several = false; says = says }

abbrev pub repeated : List ℕ → List ℕ → Word
repeated name says = record { name = name; required = false; several = true; says = says }

abbrev pub binding_word : Word
binding_word = free (codes "BINDING") (codes "whether clients may bind names: open or closed (closed)")

abbrev pub lease_word : Word
lease_word = free (codes "LEASE") (codes "the longest lease that is granted, in milliseconds: 1 to 1099511627776 (600000)")

abbrev pub ack_word : Word
ack_word = free (codes "ACK") (codes "how long a returned reference waits for its acknowledgement, in milliseconds: 1 to 1099511627776 (300000)")

abbrev pub record_word : Word
record_word = free (codes "RECORD") (codes "what is printed: silent, what is exported at the end, or journal, all events as they are made (silent)")

abbrev pub port_word : Word
port_word = needed (codes "PORT") (codes "the port to listen on: 1 to 65535")

abbrev pub count_word : Word
count_word = needed (codes "COUNT") (codes "how many connections to serve: 1 to 65535")

abbrev pub address_word : Word
address_word = needed (codes "ADDRESS") (codes "the address to listen on, 0.0.0.0 for all: at most 255 bytes")

abbrev pub own_host_word : Word
own_host_word = needed (codes "HOST") (codes "the host that references name, by which clients reach this server: at most 255 bytes")

abbrev pub seed_word : Word
seed_word = needed (codes "SEED") (codes "the seed of the drill: 0 to 9223372036854775807")

abbrev pub rounds_word : Word
rounds_word = needed (codes "N") (codes "how many rounds the drill has: 1 to 1000000")

abbrev pub host_word : Word
host_word = needed (codes "HOST") (codes "the registry's host, a name or an address: at most 255 UTF-16 units")

abbrev pub registry_port_word : Word
registry_port_word = needed (codes "PORT") (codes "the registry's port: 1 to 65535")

abbrev pub name_word : Word
name_word = needed (codes "NAME") (codes "a name of the registry: at most 255 UTF-16 units")

abbrev pub from_word : Word
from_word = needed (codes "FROM") (codes "the name whose reference is bound: at most 255 UTF-16 units")

abbrev pub method_word : Word
method_word = needed (codes "METHOD") (codes "the method's name, the types of its parameters and of its result: add(J)J")

abbrev pub arg_word : Word
arg_word = repeated (codes "ARG") (codes "an argument for each parameter: Z true or false, B S I J a number (~5 is minus 5), C a number (65 is A), L a string")

abbrev pub command_word : Word
command_word = free (codes "COMMAND") (codes "the command to explain (all commands)")

-- ---- the commands

abbrev pub answer_entry : Entry
answer_entry = record {
  name = codes "answer";
  words = binding_word ∷ lease_word ∷ ack_word ∷ [];
  does = codes "serves the standard input and output as one connection";
  example = codes "rmi answer open 600000 300000";
}

abbrev pub serve_entry : Entry
serve_entry = record {
  name = codes "serve";
  words = port_word ∷ count_word ∷ binding_word ∷ lease_word ∷ ack_word ∷ [];
  does = codes "listens on 127.0.0.1:PORT, serves COUNT connections over one object table, and prints the outline of its history";
  example = codes "rmi serve 1099 10 open";
}

abbrev pub host_entry : Entry
host_entry = record {
  name = codes "host";
  words = address_word ∷ own_host_word ∷ port_word ∷ binding_word ∷ lease_word ∷ ack_word ∷ record_word ∷ [];
  does = codes "listens on ADDRESS:PORT and serves connections over one object table until the standard input ends";
  example = codes "rmi host 0.0.0.0 localhost 1099 open";
}

abbrev pub list_entry : Entry
list_entry = record {
  name = codes "list";
  words = host_word ∷ registry_port_word ∷ [];
  does = codes "prints the names of a registry, one a line";
  example = codes "rmi list localhost 1099";
}

abbrev pub lookup_entry : Entry
lookup_entry = record {
  name = codes "lookup";
  words = host_word ∷ registry_port_word ∷ name_word ∷ [];
  does = codes "prints the host, the port and the object that a name of a registry stands for";
  example = codes "rmi lookup localhost 1099 echo";
}

abbrev pub bind_entry : Entry
bind_entry = record {
  name = codes "bind";
  words = host_word ∷ registry_port_word ∷ name_word ∷ from_word ∷ [];
  does = codes "binds a name of a registry to what another name stands for, as a java.rmi.Remote alone";
  example = codes "rmi bind localhost 1099 copy echo";
}

abbrev pub unbind_entry : Entry
unbind_entry = record {
  name = codes "unbind";
  words = host_word ∷ registry_port_word ∷ name_word ∷ [];
  does = codes "unbinds a name of a registry";
  example = codes "rmi unbind localhost 1099 copy";
}

abbrev pub call_entry : Entry
call_entry = record {
  name = codes "call";
  words = host_word ∷ registry_port_word ∷ name_word ∷ method_word ∷ arg_word ∷ [];
  does = codes "calls a method of the object that a name of a registry stands for, and prints its result";
  example = codes "rmi call localhost 1099 counter 'add(J)J' 5";
}

abbrev pub replay_entry : Entry
replay_entry = record {
  name = codes "replay";
  words = [];
  does = codes "prints the outline of the history that the journal on the standard input spells";
  example = codes "rmi replay < journal.txt";
}

abbrev pub show_entry : Entry
show_entry = record {
  name = codes "show";
  words = [];
  does = codes "prints the graph of the serialization stream on the standard input as text";
  example = codes "rmi show < stream.bin";
}

abbrev pub drill_entry : Entry
drill_entry = record {
  name = codes "drill";
  words = seed_word ∷ rounds_word ∷ [];
  does = codes "makes generated events on a new object table, and prints the summary of its history";
  example = codes "rmi drill 1 1000";
}

abbrev pub journal_entry : Entry
journal_entry = record {
  name = codes "journal";
  words = seed_word ∷ rounds_word ∷ [];
  does = codes "makes generated events on a new object table, and prints its journal";
  example = codes "rmi journal 1 1000 > journal.txt";
}

abbrev pub world_entry : Entry
world_entry = record {
  name = codes "world";
  words = [];
  does = codes "makes the steps of the script on the standard input between clients and one object table, and prints the end";
  example = codes "rmi world < script.txt";
}

abbrev pub suid_entry : Entry
suid_entry = record {
  name = codes "suid";
  words = [];
  does = codes "prints the serialVersionUID that Java computes for the class that the standard input outlines";
  example = codes "rmi suid < Point.outline";
}

abbrev pub suidtext_entry : Entry
suidtext_entry = record {
  name = codes "suidtext";
  words = [];
  does = codes "prints the bytes of which that serialVersionUID is the hash";
  example = codes "rmi suidtext < Point.outline";
}

abbrev pub describe_entry : Entry
describe_entry = record {
  name = codes "describe";
  words = [];
  does = codes "writes the description of the class that the standard input outlines, as a serialization stream";
  example = codes "rmi describe < Point.outline | rmi show";
}

abbrev pub help_entry : Entry
help_entry = record {
  name = codes "help";
  words = command_word ∷ [];
  does = codes "prints all commands, or one";
  example = codes "rmi help serve";
}

-- All commands.
abbrev pub entries : List Entry
entries = answer_entry ∷ serve_entry ∷ host_entry ∷ list_entry ∷ lookup_entry ∷ bind_entry ∷ unbind_entry ∷ call_entry ∷ replay_entry ∷ show_entry ∷ drill_entry ∷ journal_entry ∷ world_entry ∷ suid_entry ∷ suidtext_entry ∷ describe_entry ∷ help_entry ∷ []
