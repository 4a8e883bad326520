use Rattle.rmi_cli.proofs.Printed.{printed, unprinted}
use Rattle.rmi_cli.proofs.class_output.class_output.Goals as goal

pub returns-clause-ok : goal.returns-clause-ok
returns-clause-ok c = printed c.args.output c.args.text.now c.in-Ok.outline c.output_of.result c.in-Ok.ensures.ok c.output_of.ensures.ok c.output_of.ensures.printable c.output_of.ensures.readable

pub returns-clause-err : goal.returns-clause-err
returns-clause-err c = unprinted c.args.output c.args.text.now c.in-Ok.outline c.output_of.result c.in-Ok.ensures.ok c.output_of.ensures.err
