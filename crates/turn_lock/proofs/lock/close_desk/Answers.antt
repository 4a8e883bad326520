use Rattle.std.proofs.Common.{is_some, ◌≡◌, ◌∙◌, ap, sym, subst, Some, arith}
use mathlib.Core.Option.{some-injective}
use Rattle.space.specs.Built.{SpaceHistory}
use Rattle.turn_lock.specs.Rule.{Settled}
use Rattle.turn_lock.proofs.Turning.{some_of}
use Rattle.turn_lock.proofs.Keeps.{closes}
use Rattle.turn_lock.proofs.lock.close_desk.Goals as goal

pub unwrap-requires : goal.unwrap-requires
unwrap-requires c =
    let r = c.requires.own in let parts = r.parts in let none_out = c.requires.all in
    let e = closes _ _ _ _ _ r.first (omega (arith, parts, none_out)) r.pass_is.idle c.close_with-closed.ensures.values.2 in
    let is : c.take-desk.result ≡ Some e.0 = some-injective _ _ (sym c.take-desk.ensures.value ∙ e.1) in
    ap is_some is

pub returns : goal.returns
returns c =
    let r = c.requires.own in let parts = r.parts in let none_out = c.requires.all in
    let e = closes _ _ _ _ _ r.first (omega (arith, parts, none_out)) r.pass_is.idle c.close_with-closed.ensures.values.2 in
    let is : c.take-desk.result ≡ Some e.0 = some-injective _ _ (sym c.take-desk.ensures.value ∙ e.1) in
    record { settled = subst (λ (h : SpaceHistory). Settled c.args.lock.board.shared.key.value c.args.root.pass.seat.me.0 h) (ap some_of (sym is ∙ c.unwrap.ensures)) e.2 }
