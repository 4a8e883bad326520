use Rattle.std.proofs.Common.{◌≡◌, ◌++◌, take}
use Rattle.std.specs.List.{flat_map}
use Rattle.rmi_cli.specs.Talked.{name_line}
use Rattle.rmi_cli.proofs.talk_text.put_names.Given as goal

abbrev pub invariant-loop-name : goal.invariant-loop-name
invariant-loop-name l = l.out ≡ l.fn.out ++ flat_map name_line (take l.name-index l.names)
