use Rattle.std.proofs.Common.{sym, subst, ◌∙◌, ap}
use Rattle.std.proofs.Math.Dec.{lit≤}
use Rattle.std.specs.Prelude.{codes, pos}
use Rattle.space.specs.Built.{open_event}
use Rattle.sample_app.specs.Opened.{bind_event}
use Rattle.sample_app.proofs.FreeOpens.{IsFree, one_more, first_is_free, second_is_free, third_is_free, first_name_is_free, second_name_is_free, third_name_is_free}
use Rattle.sample_app.proofs.opening.furnish.Goals as goal

pub open-requires : goal.open-requires
open-requires c = record { free = subst (IsFree (open_event 0)) (sym c.requires.fresh) (first_is_free c.args.config.now) }

pub open-requires-2 : goal.open-requires-2
open-requires-2 c =
    let one = c.in_ok-open.ensures.ok ∙ ap (one_more (open_event 0)) c.requires.fresh in
    record { free = subst (IsFree (open_event 1)) (sym one) (second_is_free c.args.config.now) }

pub open-requires-3 : goal.open-requires-3
open-requires-3 c =
    let one = c.in_ok-open.ensures.ok ∙ ap (one_more (open_event 0)) c.requires.fresh in
    let two = c.in_ok-open-2.ensures.ok ∙ ap (one_more (open_event 1)) one in
    record { free = subst (IsFree (open_event 2)) (sym two) (third_is_free c.args.config.now) }

pub bind-requires : goal.bind-requires
bind-requires c =
    let one = c.in_ok-open.ensures.ok ∙ ap (one_more (open_event 0)) c.requires.fresh in
    let two = c.in_ok-open-2.ensures.ok ∙ ap (one_more (open_event 1)) one in
    let three = c.in_ok-open-3.ensures.ok ∙ ap (one_more (open_event 2)) two in
    record { short = lit≤ tt; free = subst (IsFree (bind_event c.args.config.now (codes "echo") (pos 16))) (sym three) (first_name_is_free c.args.config.now) }

pub bind-requires-2 : goal.bind-requires-2
bind-requires-2 c =
    let config = c.args.config.now in
    let one = c.in_ok-open.ensures.ok ∙ ap (one_more (open_event 0)) c.requires.fresh in
    let two = c.in_ok-open-2.ensures.ok ∙ ap (one_more (open_event 1)) one in
    let three = c.in_ok-open-3.ensures.ok ∙ ap (one_more (open_event 2)) two in
    let four = c.in_ok-bind.ensures.ok ∙ ap (one_more (bind_event config (codes "echo") (pos 16))) three in
    record { short = lit≤ tt; free = subst (IsFree (bind_event config (codes "counter") (pos 17))) (sym four) (second_name_is_free config) }

pub bind-requires-3 : goal.bind-requires-3
bind-requires-3 c =
    let config = c.args.config.now in
    let one = c.in_ok-open.ensures.ok ∙ ap (one_more (open_event 0)) c.requires.fresh in
    let two = c.in_ok-open-2.ensures.ok ∙ ap (one_more (open_event 1)) one in
    let three = c.in_ok-open-3.ensures.ok ∙ ap (one_more (open_event 2)) two in
    let four = c.in_ok-bind.ensures.ok ∙ ap (one_more (bind_event config (codes "echo") (pos 16))) three in
    let five = c.in_ok-bind-2.ensures.ok ∙ ap (one_more (bind_event config (codes "counter") (pos 17))) four in
    record { short = lit≤ tt; free = subst (IsFree (bind_event config (codes "maker") (pos 18))) (sym five) (third_name_is_free config) }
