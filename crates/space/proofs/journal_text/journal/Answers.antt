use Rattle.journal.proofs.Written.{config_spelled}
use Rattle.std.proofs.Common.{ap, ◌∙◌}
use Rattle.space.specs.Built.{SpaceHistory}
use Rattle.space.proofs.SummaryLaws.{journalled, events-fit, journal_spelled}
use Rattle.space.proofs.journal_text.journal.Goals as goal

pub returns-clause-text : goal.returns-clause-text
returns-clause-text c = journalled c.space.inside.tables.config c.space.inside.tables.events.items c.new-text.result c.put_first_line.new.out c.put_events.new.text c.args.space.now c.space.view_is
    c.new-text.ensures (c.in_ok-put_first_line.ensures {u = tt}).text
    (c.in_ok-put_events.ensures {u = tt}).text

pub returns-clause-spelled : goal.returns-clause-spelled
returns-clause-spelled c =
    journal_spelled c.space.inside.tables.config c.space.inside.tables.events.items c.put_events.new.text c.args.space.now c.space.view_is c.space.invariant.0.durations
    (λ fits. let ids = (c.in_ok-put_first_line.ensures {u = tt}).fits fits.count in config_spelled c.space.inside.tables.config ids.unique ids.time fits)
    (events-fit c.space.inside.tables.config c.space.inside.tables.events.items c.space.inside.tables.moment c.space.invariant.0.stands.moment_is c.space.invariant.0.early
    (c.in_ok-put_events.ensures {u = tt}).fits)
    (returns-clause-text c) c.requires.stored

pub put_events-requires : goal.put_events-requires
put_events-requires c = c.space.invariant.3.stored_is ∙ ap (λ (s : SpaceHistory). s.configuration.stored) c.space.view_is ∙ c.requires.stored
