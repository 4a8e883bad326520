use Rattle.std.proofs.Common.{◌≡◌, ◌<◌, ◌+◌, ◌-◌, [], ◌∙◌, ap, refl, subst, sym, arith}
use Rattle.turn_lock.specs.declared.handles.Pass.{Pass}
use Rattle.turn_lock.specs.declared.handles.Root.{Root}
use Rattle.turn_lock.specs.Handles.{view_of}
use Rattle.turn_lock.specs.Rule.{Sat, joined_of, longer}
use Rattle.turn_lock.proofs.Keeps.{joins}
use Rattle.turn_lock.proofs.Passes.{root_joined, some_out}
use Rattle.turn_lock.proofs.At.{absorbs_at}
use Rattle.turn_lock.proofs.handles.Root.join.Goals as goal

pub join_seat-requires : goal.join_seat-requires
join_seat-requires c =
    let r = c.requires.own.0 in let p = c.requires.own.1 in let words = c.args.lock.now.sized.0 in
    (r.pass_is.table, p.0.table, p.0.empty, omega (arith, words), joins _ _ _ _ _ r.first r.pass_is.idle r.pass_is.part p.0.idle p.0.part)

pub load-requires : goal.load-requires
load-requires c =
    let r = c.requires.own.0 in let p = c.requires.own.1 in let words = c.args.lock.now.sized.0 in
    let e = c.join_seat.ensures in
    let part = r.pass_is.part in
    let whole : 0 < c.args.self.now.pass.seat.me.0.parts + c.args.pass.seat.me.0.parts = omega (arith, part) in (
      e.0 ∙ r.pass_is.table,
      omega (arith, words),
      absorbs_at _ _ _ _ c.args.lock.now.sized.1 (ap (λ (m : Sat). m.0.state) e.2 ∙ r.pass_is.idle) (ap (λ (m : Sat). m.1) e.2 ∙ r.pass_is.empty) (subst (λ (m : Sat). 0 < m.0.parts) (sym e.2) whole),
    )

-- Some pass was out.
pub overflow_sub-self : goal.overflow_sub-self
overflow_sub-self c =
    let l = c.load.ensures in let few = l.2.4 in
    let parts = ap (λ (m : Sat). m.0.parts) c.join_seat.ensures.2 in
    let one = c.requires.own.1.1 in
    let some = some_out c.args.lock.now c.args.self.now c.requires.own.0 (omega (arith, few, parts, one)) in
    omega (arith, some)

pub returns-clause-root : goal.returns-clause-root
returns-clause-root c =
    let r : Root = c.args.self.now in
    let p : Pass = c.args.pass in
    let s : Root = record { pass = record { seat = c.load.new.seat; number = r.pass.number }; made = r.made; out = r.out - 1; kept = r.kept } in
    let e = c.join_seat.ensures in let f = c.load.ensures in
    let few = f.2.4 in let one = c.requires.own.1.1 in
    let parts = ap (λ (m : Sat). m.0.parts) e.2 in
    let some = some_out c.args.lock.now r c.requires.own.0 (omega (arith, few, parts, one)) in
    let out : r.out - 1 + 1 ≡ r.out = omega (arith, some) in
    let me : c.load.new.seat.me ≡ (joined_of (view_of r.pass) (view_of p), []) =
    f.2.0 ∙ (ap (λ (m : Sat). (record m.0 { seen = longer m.0.seen m.0.heard }, m.1)) e.2 ∙ ap (λ l. (joined_of (view_of r.pass) (view_of p), l)) c.requires.own.0.pass_is.empty) in
    (root_joined c.args.lock.now r s p c.requires.own.0 c.requires.own.1 f.2.3 (f.0 ∙ e.0) (f.1 ∙ e.1) me refl refl out, out)

pub returns-clause-ordered : goal.returns-clause-ordered
returns-clause-ordered c = (returns-clause-root c).0.pass_is.ordered
