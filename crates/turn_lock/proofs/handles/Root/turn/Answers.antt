use Rattle.std.proofs.Common.{refl, subst}
use Rattle.std.specs.Prelude.{IfOk}
use Rattle.turn_lock.specs.declared.handles.Pass.{Pass}
use Rattle.turn_lock.specs.Handles.{view_of}
use Rattle.turn_lock.specs.Orders.{TurnCollects}
use Rattle.turn_lock.specs.PassPorts.{PassWent}
use Rattle.turn_lock.specs.PortLaws.{root_after}
use Rattle.turn_lock.specs.Rule.{TurnedWithEntry}
use Rattle.turn_lock.proofs.handles.Root.turn.Goals as goal

pub returns : goal.returns
returns g c =
    let t = c.turn_of_pass.ensures in
    let went = subst (λ (p : Pass). PassWent p c.turn_of_pass.new.pass c.turn_of_pass.result.1) c.own.ensures.value t.went in
    record {
      root = root_after c.args.lock.now c.args.self.now c.turn_of_pass.new.pass c.turn_of_pass.result.1 c.requires.own t.own went;
      counts = (refl, refl);
      kept = refl;
      went = went;
      asked = t.asked;
      turned = subst (λ (p : Pass). TurnedWithEntry (view_of p) p.number c.args.moment c.args.ask c.turn_of_pass.result.0 (view_of c.turn_of_pass.new.pass)) c.own.ensures.value t.turned;
      ordered = t.own.ordered;
      collector = subst (λ (p : Pass). IfOk c.turn_of_pass.result.0 (λ _. TurnCollects (view_of p) c.args.moment c.args.ask (view_of c.turn_of_pass.new.pass))) c.own.ensures.value t.collector;
    }
