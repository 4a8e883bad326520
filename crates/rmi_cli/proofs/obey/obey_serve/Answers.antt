use Rattle.std.proofs.Common.{refl}
use Rattle.rmi_cli.proofs.obey.obey_serve.Goals as goal

pub returns-clause-serves : goal.returns-clause-serves
returns-clause-serves g c = record {
  alone = c.serve_input-served.ensures.alone;
  links = c.serve_input-served.ensures.served;
  end = c.serve_input-served.result.end;
  ends = c.serve_input-served.ensures.ends;
  tells = c.report_end.ensures.told;
  unread = refl;
}
