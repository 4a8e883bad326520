use Rattle.std.proofs.Common.{◌≢◌, ◌∙◌, ap, rules, arith}
use Rattle.turn_lock.specs.Rule.{Sat}
use Rattle.turn_lock.proofs.At.{absorbs_at}
use Rattle.turn_lock.proofs.Keeps.{splits}
use Rattle.turn_lock.proofs.handles.Root.split.Goals as goal

pub split_seat-seat-requires : goal.split_seat-seat-requires
split_seat-seat-requires c =
    let r = c.requires.own in let words = c.args.lock.now.sized.0 in
    let parts = r.parts in let out = r.some_out in let most = r.most in let fits : c.args.self.now.made ≢ 4294967295 = search rules in
    (r.pass_is.table, omega (arith, words), splits _ _ _ r.first r.pass_is.idle (omega (arith, parts, out, most, fits)))

pub load-requires : goal.load-requires
load-requires c =
    let r = c.requires.own in let words = c.args.lock.now.sized.0 in let e = c.split_seat-seat.ensures in (
      e.3 ∙ r.pass_is.table,
      omega (arith, words),
      absorbs_at _ _ _ _ c.args.lock.now.sized.1 (ap (λ (m : Sat). m.0.state) e.4) (ap (λ (m : Sat). m.1) e.4) (let one = ap (λ (m : Sat). m.0.parts) e.4 in omega (arith, one)),
    )
