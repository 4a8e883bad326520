use Rattle.rmi_words.proofs.Subcommands.{found_in_matches}
use Rattle.rmi_words.proofs.words.command_of.Goals as goal

pub returns-in-Some : goal.returns-in-Some
returns-in-Some c =
    found_in_matches c.args.matches.now c.in-Some.values.now c.in-Some.name.now c.read_command.result c.in-Some.ensures.name c.in-Some.ensures.rows c.read_command.ensures
