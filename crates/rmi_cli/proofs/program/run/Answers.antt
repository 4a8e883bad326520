use Rattle.std.proofs.Common.{◌≡◌, subst, sym, ◌∙◌, inr, arith}
use Rattle.rmi_cli.proofs.Asking.{asks_none}
use Rattle.rmi_cli.proofs.Calling.{by_server, calls_none}
use Rattle.rmi_cli.proofs.Named.{asked_fits}
use Rattle.rmi_words.proofs.Asked.{asked_once, host_in_range}
use Rattle.rmi_words.specs.Command.{AskFor}
use Rattle.rmi_words.specs.declared.call_words.CallWords.{CallWords}
use Rattle.rmi_words.specs.declared.client.ClientCommand.{ClientCommand}
use Rattle.rmi_words.specs.declared.command.Command.{Command}
use Rattle.rmi_words.specs.declared.host_words.HostWords.{HostWords}
use Rattle.rmi_words.specs.declared.options.ServeWords.{ServeWords}
use Rattle.rmi_words.specs.declared.command.Command.TheVariants.{Answer, Serve, Host, Client, Call, Replay, Show, Drill, World, Class, Help}
use Rattle.rmi_cli.proofs.Wanting.{answers_none, answers_none_exactly, drills_none, drills_none_exactly, helps_none, none_told, prints_none, prints_none_exactly, replays_none, replays_none_exactly, serves_none, shows_none, shows_none_exactly, wanted, worlds_none, worlds_none_exactly}
use Rattle.rmi_cli.proofs.Hosting.{hosting_none, hosting_settles}
use Rattle.rmi_cli.proofs.Journals.{hosting_prints}
use Rattle.rmi_cli.proofs.Settled.{serving_settles}
use Rattle.rmi_cli.proofs.WorldOnce.{keeps_promise}
use Rattle.rmi_cli.proofs.program.run.Goals as goal

pub obey-requires-clause-limits : goal.obey-requires-clause-limits
obey-requires-clause-limits g c κs within = asked_fits _ _ c.in-Ok.ensures.asked

pub returns-in-Ok-clause-answer : goal.returns-in-Ok-clause-answer
returns-in-Ok-clause-answer g c options is = c.obey.ensures.answer options (asked_once _ _ (Answer options) c.in-Ok.ensures.asked is)

pub returns-in-Ok-clause-exact : goal.returns-in-Ok-clause-exact
returns-in-Ok-clause-exact g c options is = c.obey.ensures.exact options (asked_once _ _ (Answer options) c.in-Ok.ensures.asked is)

pub returns-in-Ok-clause-serves : goal.returns-in-Ok-clause-serves
returns-in-Ok-clause-serves g c serve is = c.obey.ensures.serves serve (asked_once _ _ (Serve serve) c.in-Ok.ensures.asked is)

pub returns-in-Ok-clause-asks : goal.returns-in-Ok-clause-asks
returns-in-Ok-clause-asks g c asked given is = c.obey.ensures.asks asked given (asked_once _ _ (Client asked) c.in-Ok.ensures.asked is)

pub returns-in-Ok-clause-unread : goal.returns-in-Ok-clause-unread
returns-in-Ok-clause-unread g c command is server =
    let same = asked_once _ _ command c.in-Ok.ensures.asked is in
    by_server command server (λ asked one. c.obey.ensures.unread asked (same ∙ one)) (λ call one. c.obey.ensures.call_unread call (same ∙ one))

pub returns-in-Ok-clause-dialing : goal.returns-in-Ok-clause-dialing
returns-in-Ok-clause-dialing g c not =
    c.obey.ensures.dialing (λ asked is. not (Client asked) (subst (AskFor _) is c.in-Ok.ensures.asked) tt) (λ call is. not (Call call) (subst (AskFor _) is c.in-Ok.ensures.asked) tt)

pub returns-in-Ok-clause-link_fault : goal.returns-in-Ok-clause-link_fault
returns-in-Ok-clause-link_fault g c command is server =
    let same = asked_once _ _ command c.in-Ok.ensures.asked is in
    by_server command server (λ asked one. c.obey.ensures.link_fault asked (same ∙ one)) (λ call one. c.obey.ensures.call_link_fault call (same ∙ one))

pub returns-in-Ok-clause-sink_fault : goal.returns-in-Ok-clause-sink_fault
returns-in-Ok-clause-sink_fault g c command is server =
    let same = asked_once _ _ command c.in-Ok.ensures.asked is in
    by_server command server (λ asked one. c.obey.ensures.sink_fault asked (same ∙ one)) (λ call one. c.obey.ensures.call_sink_fault call (same ∙ one))

pub returns-in-Ok-clause-write_fault : goal.returns-in-Ok-clause-write_fault
returns-in-Ok-clause-write_fault g c not =
    c.obey.ensures.write_fault (λ asked is. not (Client asked) (subst (AskFor _) is c.in-Ok.ensures.asked) tt) (λ call is. not (Call call) (subst (AskFor _) is c.in-Ok.ensures.asked) tt)

pub returns-in-Ok-clause-calls : goal.returns-in-Ok-clause-calls
returns-in-Ok-clause-calls g c call is = c.obey.ensures.calls call (asked_once _ _ (Call call) c.in-Ok.ensures.asked is)

pub returns-in-Err-clause-calls : goal.returns-in-Err-clause-calls
returns-in-Err-clause-calls g c call is = calls_none _ call _ _ _ (wanted _ _ _ c.in-Err.ensures.refused (Call call) is c.report_words.ensures.told)

pub returns-in-Err-clause-asks : goal.returns-in-Err-clause-asks
returns-in-Err-clause-asks g c asked given is = asks_none asked _ _ _ (wanted _ _ _ c.in-Err.ensures.refused (Client asked) is c.report_words.ensures.told)

pub returns-in-Ok-clause-replay : goal.returns-in-Ok-clause-replay
returns-in-Ok-clause-replay g c is = c.obey.ensures.replay (asked_once _ _ Replay c.in-Ok.ensures.asked is)

pub returns-in-Ok-clause-replay_exact : goal.returns-in-Ok-clause-replay_exact
returns-in-Ok-clause-replay_exact g c is = c.obey.ensures.replay_exact (asked_once _ _ Replay c.in-Ok.ensures.asked is)

pub returns-in-Ok-clause-show : goal.returns-in-Ok-clause-show
returns-in-Ok-clause-show g c is = c.obey.ensures.show (asked_once _ _ Show c.in-Ok.ensures.asked is)

pub returns-in-Ok-clause-show_exact : goal.returns-in-Ok-clause-show_exact
returns-in-Ok-clause-show_exact g c is = c.obey.ensures.show_exact (asked_once _ _ Show c.in-Ok.ensures.asked is)

pub returns-in-Ok-clause-drill : goal.returns-in-Ok-clause-drill
returns-in-Ok-clause-drill g c text seed rounds is = c.obey.ensures.drill text seed rounds (asked_once _ _ (Drill text seed rounds) c.in-Ok.ensures.asked is)

pub returns-in-Ok-clause-drill_exact : goal.returns-in-Ok-clause-drill_exact
returns-in-Ok-clause-drill_exact g c text seed rounds is = c.obey.ensures.drill_exact text seed rounds (asked_once _ _ (Drill text seed rounds) c.in-Ok.ensures.asked is)

pub returns-in-Ok-clause-world : goal.returns-in-Ok-clause-world
returns-in-Ok-clause-world g c is = c.obey.ensures.world (asked_once _ _ World c.in-Ok.ensures.asked is)

pub returns-in-Ok-clause-world_exact : goal.returns-in-Ok-clause-world_exact
returns-in-Ok-clause-world_exact g c is = c.obey.ensures.world_exact (asked_once _ _ World c.in-Ok.ensures.asked is)

pub returns-in-Ok-clause-promise : goal.returns-in-Ok-clause-promise
returns-in-Ok-clause-promise g c is = let ran = c.obey.ensures.world (asked_once _ _ World c.in-Ok.ensures.asked is) in keeps_promise _ _ _ ran.end ran.holds ran.tells

pub returns-in-Ok-clause-class : goal.returns-in-Ok-clause-class
returns-in-Ok-clause-class g c output is = c.obey.ensures.class output (asked_once _ _ (Class output) c.in-Ok.ensures.asked is)

pub returns-in-Ok-clause-class_exact : goal.returns-in-Ok-clause-class_exact
returns-in-Ok-clause-class_exact g c output is = c.obey.ensures.class_exact output (asked_once _ _ (Class output) c.in-Ok.ensures.asked is)

pub returns-in-Ok-clause-help : goal.returns-in-Ok-clause-help
returns-in-Ok-clause-help g c topic is = c.obey.ensures.help topic (asked_once _ _ (Help topic) c.in-Ok.ensures.asked is)

pub returns-in-Ok-clause-no_command : goal.returns-in-Ok-clause-no_command
returns-in-Ok-clause-no_command g c none = absurd (none _ c.in-Ok.ensures.asked)

pub returns-in-Ok-clause-untouched : goal.returns-in-Ok-clause-untouched
returns-in-Ok-clause-untouched g c none = absurd (none _ c.in-Ok.ensures.asked)

pub returns-in-Ok-clause-network_fault : goal.returns-in-Ok-clause-network_fault
returns-in-Ok-clause-network_fault g c serve is = c.obey.ensures.network_fault serve (asked_once _ _ (Serve serve) c.in-Ok.ensures.asked is)

pub returns-in-Ok-clause-clock : goal.returns-in-Ok-clause-clock
returns-in-Ok-clause-clock g c not =
    c.obey.ensures.clock (λ options is. not (Answer options) (subst (AskFor _) is c.in-Ok.ensures.asked) tt) (λ call is. not (Call call) (subst (AskFor _) is c.in-Ok.ensures.asked) tt)
    (λ asked is. not (Host asked) (subst (AskFor _) is c.in-Ok.ensures.asked) tt)

pub returns-in-Ok-clause-network : goal.returns-in-Ok-clause-network
returns-in-Ok-clause-network g c not no_host =
    c.obey.ensures.network (λ serve is. not serve (subst (AskFor _) is c.in-Ok.ensures.asked)) (λ asked is. no_host asked (subst (AskFor _) is c.in-Ok.ensures.asked))

pub returns-in-Ok-clause-served : goal.returns-in-Ok-clause-served
returns-in-Ok-clause-served g c not = c.obey.ensures.served (λ serve is. not serve (subst (AskFor _) is c.in-Ok.ensures.asked))

pub returns-in-Ok-clause-read_fault : goal.returns-in-Ok-clause-read_fault
returns-in-Ok-clause-read_fault g c not no_host no_server =
    c.obey.ensures.read_fault (λ serve is. not serve (subst (AskFor _) is c.in-Ok.ensures.asked)) (λ asked is. no_host asked (subst (AskFor _) is c.in-Ok.ensures.asked))
    (λ asked is. no_server (Client asked) (subst (AskFor _) is c.in-Ok.ensures.asked) tt)
    (λ call is. no_server (Call call) (subst (AskFor _) is c.in-Ok.ensures.asked) tt)

pub returns-in-Err-clause-no_command : goal.returns-in-Err-clause-no_command
returns-in-Err-clause-no_command g c none = none_told _ _ c.report_words.ensures.told

pub returns-in-Err-clause-answer : goal.returns-in-Err-clause-answer
returns-in-Err-clause-answer g c options is = answers_none _ options _ _ _ _ (wanted _ _ _ c.in-Err.ensures.refused (Answer options) is c.report_words.ensures.told)

pub returns-in-Err-clause-exact : goal.returns-in-Err-clause-exact
returns-in-Err-clause-exact g c options is = answers_none_exactly _ options _ _ (wanted _ _ _ c.in-Err.ensures.refused (Answer options) is c.report_words.ensures.told)

pub returns-in-Err-clause-serves : goal.returns-in-Err-clause-serves
returns-in-Err-clause-serves g c serve is = serves_none _ _ _ serve _ _ _ _ (wanted _ _ _ c.in-Err.ensures.refused (Serve serve) is c.report_words.ensures.told)

pub returns-in-Err-clause-replay : goal.returns-in-Err-clause-replay
returns-in-Err-clause-replay g c is = replays_none _ _ _ (wanted _ _ _ c.in-Err.ensures.refused (Replay) is c.report_words.ensures.told)

pub returns-in-Err-clause-replay_exact : goal.returns-in-Err-clause-replay_exact
returns-in-Err-clause-replay_exact g c is = replays_none_exactly _ _ (wanted _ _ _ c.in-Err.ensures.refused (Replay) is c.report_words.ensures.told)

pub returns-in-Err-clause-show : goal.returns-in-Err-clause-show
returns-in-Err-clause-show g c is = shows_none _ _ _ (wanted _ _ _ c.in-Err.ensures.refused (Show) is c.report_words.ensures.told)

pub returns-in-Err-clause-show_exact : goal.returns-in-Err-clause-show_exact
returns-in-Err-clause-show_exact g c is = shows_none_exactly _ _ (wanted _ _ _ c.in-Err.ensures.refused (Show) is c.report_words.ensures.told)

pub returns-in-Err-clause-drill : goal.returns-in-Err-clause-drill
returns-in-Err-clause-drill g c text seed rounds is = drills_none text seed rounds _ _ _ (wanted _ _ _ c.in-Err.ensures.refused (Drill text seed rounds) is c.report_words.ensures.told)

pub returns-in-Err-clause-drill_exact : goal.returns-in-Err-clause-drill_exact
returns-in-Err-clause-drill_exact g c text seed rounds is = drills_none_exactly text seed rounds _ _ (wanted _ _ _ c.in-Err.ensures.refused (Drill text seed rounds) is c.report_words.ensures.told)

pub returns-in-Err-clause-world : goal.returns-in-Err-clause-world
returns-in-Err-clause-world g c is = worlds_none _ _ _ (wanted _ _ _ c.in-Err.ensures.refused (World) is c.report_words.ensures.told)

pub returns-in-Err-clause-world_exact : goal.returns-in-Err-clause-world_exact
returns-in-Err-clause-world_exact g c is = worlds_none_exactly _ _ (wanted _ _ _ c.in-Err.ensures.refused (World) is c.report_words.ensures.told)

pub returns-in-Err-clause-promise : goal.returns-in-Err-clause-promise
returns-in-Err-clause-promise g c is ended =
    let lacks = wanted _ _ _ c.in-Err.ensures.refused (World) is c.report_words.ensures.told in
    absurd (omega (arith, lacks.0, ended))

pub returns-in-Err-clause-class : goal.returns-in-Err-clause-class
returns-in-Err-clause-class g c output is = prints_none output _ _ _ (wanted _ _ _ c.in-Err.ensures.refused (Class output) is c.report_words.ensures.told)

pub returns-in-Err-clause-class_exact : goal.returns-in-Err-clause-class_exact
returns-in-Err-clause-class_exact g c output is = prints_none_exactly output _ _ (wanted _ _ _ c.in-Err.ensures.refused (Class output) is c.report_words.ensures.told)

pub returns-in-Err-clause-help : goal.returns-in-Err-clause-help
returns-in-Err-clause-help g c topic is = helps_none topic _ _ _ (wanted _ _ _ c.in-Err.ensures.refused (Help topic) is c.report_words.ensures.told)

-- One command isn't another.
apart_call : {c : Command} (serve : ServeWords) → Serve serve ≡ c → (call : CallWords) → c ≡ Call call → ⊥
apart_call serve is call is2 = let same : Serve serve ≡ Call call = is ∙ is2 in cc

apart : {c : Command} (serve : ServeWords) → Serve serve ≡ c → (asked : ClientCommand) → c ≡ Client asked → ⊥
apart serve is asked is2 = let same : Serve serve ≡ Client asked = is ∙ is2 in cc

pub returns-in-Ok-clause-settled : goal.returns-in-Ok-clause-settled
returns-in-Ok-clause-settled g c serve is heard written =
    let asked = asked_once _ _ (Serve serve) c.in-Ok.ensures.asked is in
    serving_settles _ _ _ _ _ _ _ _ _ _ _ _ (c.obey.ensures.serves serve asked) (λ s. heard (c.obey.ensures.network_fault serve asked s)) (λ s. written (c.obey.ensures.write_fault (apart serve (sym asked)) (apart_call serve (sym asked)) s))

pub returns-in-Err-clause-settled : goal.returns-in-Err-clause-settled
returns-in-Err-clause-settled g c serve is heard written = inr (wanted _ _ _ c.in-Err.ensures.refused (Serve serve) is c.report_words.ensures.told).0

pub returns-in-Ok-clause-hosts : goal.returns-in-Ok-clause-hosts
returns-in-Ok-clause-hosts g c asked is = c.obey.ensures.hosts asked (asked_once _ _ (Host asked) c.in-Ok.ensures.asked is)

pub returns-in-Ok-clause-host_unread : goal.returns-in-Ok-clause-host_unread
returns-in-Ok-clause-host_unread g c asked is = c.obey.ensures.host_unread asked (asked_once _ _ (Host asked) c.in-Ok.ensures.asked is)

pub returns-in-Ok-clause-host_closes : goal.returns-in-Ok-clause-host_closes
returns-in-Ok-clause-host_closes g c asked is = c.obey.ensures.host_closes asked (asked_once _ _ (Host asked) c.in-Ok.ensures.asked is)

pub returns-in-Ok-clause-host_fault : goal.returns-in-Ok-clause-host_fault
returns-in-Ok-clause-host_fault g c asked is = c.obey.ensures.host_fault asked (asked_once _ _ (Host asked) c.in-Ok.ensures.asked is)

pub returns-in-Err-clause-hosts : goal.returns-in-Err-clause-hosts
returns-in-Err-clause-hosts g c asked is = hosting_none _ _ _ _ _ asked _ _ (wanted _ _ _ c.in-Err.ensures.refused (Host asked) is c.report_words.ensures.told)

host_not_call : {c : Command} (host : HostWords) → Host host ≡ c → (call : CallWords) → c ≡ Call call → ⊥
host_not_call host is call is2 = let same : Host host ≡ Call call = is ∙ is2 in cc

host_not_client : {c : Command} (host : HostWords) → Host host ≡ c → (asked : ClientCommand) → c ≡ Client asked → ⊥
host_not_client host is asked is2 = let same : Host host ≡ Client asked = is ∙ is2 in cc

pub returns-in-Ok-clause-host_settled : goal.returns-in-Ok-clause-host_settled
returns-in-Ok-clause-host_settled g c host is heard written =
    let same = asked_once _ _ (Host host) c.in-Ok.ensures.asked is in
    hosting_settles _ _ _ _ _ host _ _ _ (c.obey.ensures.hosts host same) (λ s. heard (c.obey.ensures.host_fault host same s))
    (λ s. written (c.obey.ensures.write_fault (host_not_client host (sym same)) (host_not_call host (sym same)) s))

pub returns-in-Err-clause-host_settled : goal.returns-in-Err-clause-host_settled
returns-in-Err-clause-host_settled g c host is heard written = inr (wanted _ _ _ c.in-Err.ensures.refused (Host host) is c.report_words.ensures.told).0

pub returns-in-Ok-clause-host_journal : goal.returns-in-Ok-clause-host_journal
returns-in-Ok-clause-host_journal g c asked is recorded ended =
    hosting_prints _ _ _ _ _ asked _ _ _ (c.obey.ensures.hosts asked (asked_once _ _ (Host asked) c.in-Ok.ensures.asked is)) ended recorded (host_in_range _ asked is).options

pub returns-in-Err-clause-host_journal : goal.returns-in-Err-clause-host_journal
returns-in-Err-clause-host_journal g c asked is recorded ended =
    let lacks = wanted _ _ _ c.in-Err.ensures.refused (Host asked) is c.report_words.ensures.told in
    absurd (omega (arith, lacks.0, ended))
