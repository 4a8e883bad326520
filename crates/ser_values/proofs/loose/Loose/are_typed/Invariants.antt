use Rattle.std.proofs.Common.{◌≡◌, drop}
use Rattle.ser_values.specs.Shape.{are_typed}
use Rattle.ser_values.proofs.loose.Loose.are_typed.Given as goal

abbrev pub invariant-loop-field : goal.invariant-loop-field
invariant-loop-field l = are_typed l.self.nodes.now (drop l.field-index l.fields) ≡ are_typed l.self.nodes.now l.fields
