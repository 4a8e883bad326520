use Rattle.std.proofs.Common.{◌≤◌, ◌^◌, length, arith}
use Rattle.std.proofs.lemmas.Bool.Decides.{nat_tests}
use Rattle.ser_values.specs.Ranges.{TextFits}
use Rattle.java_shapes.proofs.TextsGraph.{utf_few}
use Rattle.java_shapes.proofs.text_graphs.can_be_text.Goals as goal

pub returns : goal.returns
returns c = λ yes.
    let name = c.args.name.now in
    let few : length name ≤ 2 ^ 60 = grind (arith, nat_tests) in
    let fits : TextFits name = rw c.as_slice.ensures at c.look.ensures in
    (fits, omega (arith, few, utf_few name))
