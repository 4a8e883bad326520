use Rattle.std.proofs.Common.{◌≡◌, ◌∷◌, ◌++◌, [], ◌∙◌, ap, sym, subst, refl, Some, List, Option, ℕ}
use Rattle.history.specs.Steps.{IsLegal}
use Rattle.space.specs.Built.{SpaceHistory}
use Rattle.turn_lock.specs.Rule.{InOrder, KeepsRule, root}
use Rattle.atomic_table.specs.Table.{opening}
use Rattle.turn_lock.proofs.Keeps.{starts}
use Rattle.turn_lock.proofs.Passes.{root_order, fresh_root}
use Rattle.turn_lock.proofs.lock.around_desk.Goals as goal

pub new-requires : goal.new-requires
new-requires c =
    let P : SpaceHistory × ℕ × List (Option SpaceHistory) → Type 0 = λ x. KeepsRule x.0 (opening (0 ∷ 0 ∷ x.1 ∷ []) x.2 (root x.0)) in
    let items : c.push.new.self.items ≡ Some c.args.desk ∷ [] = c.in_default.ensures.items ∙ ap (λ l. l ++ Some c.args.desk ∷ []) c.new-slots.ensures.items in
    subst P (λ i. (sym c.snapshot-about.ensures i, sym c.len-opened.ensures.value i, sym items i)) (starts c.args.desk c.len-opened.ensures.rows c.len-opened.ensures.legal)

pub returns-in-Ok-clause-fresh : goal.returns-in-Ok-clause-fresh
returns-in-Ok-clause-fresh c =
    let ok = c.in-Ok.ensures.ok in
    let opened : c.in-Ok.board.shared.key.value ≡ c.args.desk = ap (λ k. k.value) ok.5 ∙ c.snapshot-about.ensures in
    let me : c.in-Ok.seat.me ≡ (root c.in-Ok.board.shared.key.value, []) = ok.4 ∙ ap (λ k. (root k.value, [])) (sym ok.5) in
    let legal = subst (λ (s : SpaceHistory). IsLegal s.configuration s.events) (sym opened) c.len-opened.ensures.legal in
    (fresh_root _ _ ok.2 ok.3 me refl refl refl legal, opened)

pub returns-in-Ok-clause-ordered : goal.returns-in-Ok-clause-ordered
returns-in-Ok-clause-ordered c =
    let ok = c.in-Ok.ensures.ok in
    let knows : c.in-Ok.seat.me.0 ≡ root c.args.desk = ap (λ x. x.0) ok.4 ∙ ap root c.snapshot-about.ensures in
    subst (InOrder c.args.desk) (sym knows) (root_order c.args.desk c.len-opened.ensures.legal)
