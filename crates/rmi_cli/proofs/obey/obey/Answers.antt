use Rattle.std.proofs.Common.{refl}
use Rattle.rmi_cli.proofs.Answering.{answers_asked}
use Rattle.rmi_cli.proofs.Asking.{asks_named}
use Rattle.rmi_cli.proofs.Calling.{calls_named}
use Rattle.rmi_cli.proofs.Named.{drills_named, exactly_asked, prints_named, serving_asked}
use Rattle.rmi_cli.proofs.Drilling.{drills_exactly}
use Rattle.rmi_cli.proofs.Hosting.{hosts_named}
use Rattle.rmi_cli.proofs.Once.{replays_exactly}
use Rattle.rmi_cli.proofs.PrintedOnce.{prints_exactly}
use Rattle.rmi_cli.proofs.ShownOnce.{shows_exactly}
use Rattle.rmi_cli.proofs.WorldOnce.{makes_exactly}
use Rattle.rmi_cli.proofs.obey.obey.Goals as goal

pub returns-in-Answer-clause-answer : goal.returns-in-Answer-clause-answer
returns-in-Answer-clause-answer g c options is = answers_asked _ _ _ _ _ _ _ _ _ _ _ c.in-Answer.is is c.obey_answer.ensures.answers

pub returns-in-Answer-clause-exact : goal.returns-in-Answer-clause-exact
returns-in-Answer-clause-exact g c options is = exactly_asked _ _ _ _ _ _ _ c.in-Answer.is is c.obey_answer.ensures.exact

pub returns-in-Serve-clause-serves : goal.returns-in-Serve-clause-serves
returns-in-Serve-clause-serves g c serve is =
    serving_asked g.L.In.Source.half g.L.Out.Sink.half g.L.Ticks.Clock.given _ _ _ _ _ _ _ _ _ _ _ _ c.in-Serve.is is c.obey_serve.ensures.serves

pub returns-in-Client-clause-asks : goal.returns-in-Client-clause-asks
returns-in-Client-clause-asks g c asked given is = asks_named _ c.in-Client.asked asked _ _ _ _ _ c.in-Client.is is (c.obey_client.ensures.asks given)

pub returns-in-Call-clause-calls : goal.returns-in-Call-clause-calls
returns-in-Call-clause-calls g c call is = calls_named _ c.in-Call.call call _ _ _ _ _ _ c.in-Call.is is c.obey_call.ensures.calls

pub returns-in-Replay-clause-replay : goal.returns-in-Replay-clause-replay
returns-in-Replay-clause-replay g c is = record {
  end = c.replay_input-end.result;
  holds = c.replay_input-end.ensures.ends;
  read_fault = c.replay_input-end.ensures.read_fault;
  write_fault = c.replay_input-end.ensures.write_fault;
  tells = c.report_end.ensures.told;
}

pub returns-in-Replay-clause-replay_exact : goal.returns-in-Replay-clause-replay_exact
returns-in-Replay-clause-replay_exact g c is = replays_exactly _ _ _ _ c.replay_input-end.ensures.ends c.report_end.ensures.told

pub returns-in-Show-clause-show : goal.returns-in-Show-clause-show
returns-in-Show-clause-show g c is = record {
  end = c.show_input-end.result;
  holds = c.show_input-end.ensures.ends;
  read_fault = c.show_input-end.ensures.read_fault;
  write_fault = c.show_input-end.ensures.write_fault;
  tells = c.report_end-in-Show.ensures.told;
}

pub returns-in-Show-clause-show_exact : goal.returns-in-Show-clause-show_exact
returns-in-Show-clause-show_exact g c is = shows_exactly _ _ _ _ c.show_input-end.ensures.exact c.report_end-in-Show.ensures.told

pub returns-in-Drill-clause-drill : goal.returns-in-Drill-clause-drill
returns-in-Drill-clause-drill g c text seed rounds is = record {
  ran = record {
    end = c.write_drill-end.result;
    holds = drills_named _ _ _ _ _ _ _ _ _ _ c.in-Drill.is is c.write_drill-end.ensures.ends;
    read_fault = λ same. absurd (c.write_drill-end.ensures.unread same);
    write_fault = c.write_drill-end.ensures.write_fault;
    tells = c.report_end-in-Drill.ensures.told;
  };
  unread = refl;
}

pub returns-in-Drill-clause-drill_exact : goal.returns-in-Drill-clause-drill_exact
returns-in-Drill-clause-drill_exact g c text seed rounds is =
    drills_exactly text seed rounds _ _ _ c.write_drill-end.result (drills_named _ _ _ _ _ _ _ _ _ _ c.in-Drill.is is c.write_drill-end.ensures.ends) c.report_end-in-Drill.ensures.told

pub returns-in-World-clause-world : goal.returns-in-World-clause-world
returns-in-World-clause-world g c is = record {
  end = c.print_world-end.result;
  holds = c.print_world-end.ensures.ends;
  read_fault = c.print_world-end.ensures.read_fault;
  write_fault = c.print_world-end.ensures.write_fault;
  tells = c.report_end-in-World.ensures.told;
}

pub returns-in-World-clause-world_exact : goal.returns-in-World-clause-world_exact
returns-in-World-clause-world_exact g c is = makes_exactly _ _ _ _ c.print_world-end.ensures.ends c.report_end-in-World.ensures.told

pub returns-in-Class-clause-class_exact : goal.returns-in-Class-clause-class_exact
returns-in-Class-clause-class_exact g c output is =
    prints_exactly output _ _ _ _ _ c.print_class-end.result (prints_named _ _ _ _ _ _ _ _ c.in-Class.is is c.print_class-end.ensures.ends) c.report_end-in-Class.ensures.told

pub returns-in-Host-clause-hosts : goal.returns-in-Host-clause-hosts
returns-in-Host-clause-hosts g c asked is = hosts_named _ _ _ _ _ _ c.in-Host.asked asked _ _ _ c.in-Host.is is c.obey_host.ensures.hosts
