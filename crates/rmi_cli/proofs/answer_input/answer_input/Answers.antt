use Rattle.std.proofs.Common.{◌∙◌, refl, rules}
use Rattle.rmi_cli.proofs.Serving.{serves_one, serves_exactly, memory_at_once, memory_unsettled}
use Rattle.rmi_cli.proofs.answer_input.answer_input.Goals as goal

pub returns-clause-serves : goal.returns-clause-serves
returns-clause-serves g c =
    serves_one _ _ _ _ _ _ _ _ _ _ _ c.in-Ok.ensures.terms c.in-Ok.ensures.drawn c.new-port.ensures.values.2 c.new-port.ensures.values.1 (c.new-port.ensures.values.0 ∙ c.in-Ok.ensures.space)
    c.serve_connection.ensures.leads.2 c.serve_connection.ensures.dialogue refl c.new-worker.ensures.counters refl

pub returns-clause-exact : goal.returns-clause-exact
returns-clause-exact g c = serves_exactly _ _ _ _ _ _ _ _ c.in-Ok.ensures.terms c.in-Ok.ensures.drawn c.serve_connection.ensures.dialogue

pub returns-in-Err-clause-serves : goal.returns-in-Err-clause-serves
returns-in-Err-clause-serves g c = memory_at_once _ _ _ _

pub returns-in-Err-clause-exact : goal.returns-in-Err-clause-exact
returns-in-Err-clause-exact g c = memory_unsettled _ _ _

pub serve_connection-requires-clause-can : goal.serve_connection-requires-clause-can
serve_connection-requires-clause-can g c = record {
  host = search rules;
  time = search rules;
  drawn = search rules;
  ready = search rules;
  room = search rules;
  balanced = search rules;
  calls = search rules;
}
