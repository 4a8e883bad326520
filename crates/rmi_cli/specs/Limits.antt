-- The limits of what commands are told.
use Rattle.std.specs.Prelude.{◌≤◌, length}
use Rattle.rmi_words.specs.HostWords.{IsHostInRange}
use Rattle.rmi_words.specs.Options.{IsInRange, IsServeInRange}
use Rattle.rmi_words.specs.declared.command.Command.{Command}
use Rattle.rmi_words.specs.declared.command.Command.TheVariants.{Answer, Serve, Host, Client, Call, Replay, Show, Drill, World, Class, Help}
use Rattle.rmi_words.specs.declared.numbers.TheConstants.{MAX_ROUNDS}

-- What the command is told is in its limits.
abbrev pub IsInLimits : Command → Type 0
IsInLimits (Answer options) = IsInRange options
IsInLimits (Serve serve) = IsServeInRange serve
IsInLimits (Host host) = IsHostInRange host
IsInLimits (Client command) = Unit {0}
IsInLimits (Call call) = length call.arguments ≤ 255
IsInLimits Replay = Unit {0}
IsInLimits Show = Unit {0}
IsInLimits (Drill text seed rounds) = rounds ≤ MAX_ROUNDS
IsInLimits World = Unit {0}
IsInLimits (Class output) = Unit {0}
IsInLimits (Help topic) = Unit {0}
