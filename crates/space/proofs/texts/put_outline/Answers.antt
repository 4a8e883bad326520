use Rattle.std.proofs.Common.{ap, ◌∙◌}
use Rattle.std.proofs.lemmas.Result.{on_ok_weaker}
use Rattle.space.specs.Built.{SpaceHistory}
use Rattle.space.proofs.TextLaws.{outline-written}
use Rattle.space.proofs.texts.put_outline.Goals as goal

pub put_withdrawals-requires : goal.put_withdrawals-requires
put_withdrawals-requires c = c.space.invariant.3.all_kept (ap (λ (s : SpaceHistory). s.configuration.stored) c.space.view_is ∙ c.requires.stored)

pub returns : goal.returns
returns c =
    on_ok_weaker c.put_withdrawals.result (λ last. outline-written c.space.inside.tables.config c.space.inside.tables.events.items c.space.inside.tables.withdrawn.items c.args.text.now c.put_standing.new.text c.put_withdrawals.new.text c.args.space.now
    c.space.view_is c.space.invariant.0.stands.withdrawn_are (c.in_ok-put_standing.ensures {u = tt}) last)
    c.put_withdrawals.ensures
