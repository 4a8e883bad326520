use Rattle.std.proofs.Common.{◌≡◌, List, drop, ◌++◌}
use Rattle.rmi_server.specs.declared.site.Named.{Named}
use Rattle.rmi_server.specs.Begun.{IsBegun}
use Rattle.rmi_server.proofs.opening.furnish.Given as goal

abbrev pub invariant-loop-named : goal.invariant-loop-named
invariant-loop-named l = (l.space.configuration ≡ l.initial.space.configuration)
    × (before : List Named) × (l.names ≡ before ++ drop l.named-index l.names) × IsBegun l.initial.space.configuration before l.space.events
