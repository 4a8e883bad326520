-- The laws of locks.
use Rattle.std.proofs.Common.{◌≡◌, ℕ, List, ◌++◌, Result, Ok, Err, ap, subst, ◌∙◌}
use Rattle.std.specs.Prelude.{IfOk}
use Rattle.history.specs.declared.asks.SpaceConfig.{SpaceConfig}
use Rattle.history.specs.declared.asks.Ask.{Ask}
use Rattle.history.specs.Collector.{TableCollects}
use Rattle.history.specs.Steps.{turn_of}
use Rattle.space.specs.Acts.{event_of}
use Rattle.history.specs.declared.replies.Refused.{Refused}
use Rattle.history.specs.declared.replies.Turn.{Turn}
use Rattle.ports.specs.Balance.{WentAmong}
use Rattle.ports.specs.Ports.{GoesBy, entries_of}
use Rattle.space.specs.declared.asked.Asked.{Asked}
use Rattle.space.specs.declared.asked.AskedEnd.{AskedEnd}
use Rattle.space.specs.declared.asked.AskedEnd.TheVariants.{Turned, Abandoned, Refused as Denied}
use Rattle.space.proofs.CollectLaws.{taken-collects}
use Rattle.turn_lock.specs.declared.view.View.{View}
use Rattle.turn_lock.specs.Rule.{Events}
use Rattle.turn_lock.specs.declared.handles.Pass.{Pass}
use Rattle.turn_lock.specs.Handles.{view_of}
use Rattle.turn_lock.specs.PassPorts.{PassWent}
use Rattle.turn_lock.specs.Orders.{RuleOrders, EntriesCollect, TurnCollects, IsTaken}
use Rattle.turn_lock.proofs.Views.{same_at}

pub rule-orders : RuleOrders
rule-orders s t k = record {
  tail = k.tail;
  legal = k.legal;
  live = λ j v e some_part. let m = (k.each j v e).mine some_part in (m.numbered, m.begun, m.owned);
  joined = λ v e p has. let h = k.ended v e p has in (h.0, λ u at. ap (λ (y : View). y.parts) (same_at t.views p.0 u h.1.0 at h.1.1) ∙ h.1.2);
  all_joined = k.spent_ones;
  counted = k.counted;
  no_others = k.strangers;
}

goes-collect : (config : SpaceConfig) (by : ℕ) (h next : Events) (m : ℕ) (a : Ask) (end : AskedEnd) → GoesBy config by h m a end next → IsTaken end → TableCollects config h (event_of by m a) next
goes-collect config by h next m a (Turned turn) g t = taken-collects config h next (event_of by m a) turn g
goes-collect config by h next m a (Abandoned place) g t = taken-collects config h next (event_of by m a) (turn_of config h (event_of by m a)) g.2
goes-collect config by h next m a (Denied refused) g t = absurd t

pub entries-collect : EntriesCollect
entries-collect config by h next entry g t = goes-collect config by h next entry.moment entry.ask entry.end g t

-- WHAT A PASS'S TURN DOES, where it is answered.
pub turn_collects : (p q : Pass) (m : ℕ) (a : Ask) (answer : Result Turn Refused) (entries : List Asked) → PassWent p q entries → entries ≡ entries_of m a answer →
    IfOk answer (λ _. TurnCollects (view_of p) m a (view_of q))
turn_collects p q m a (Ok turn) entries went are =
    let v = view_of p in
    let P : List Asked → Type 0 = λ l. WentAmong v.config v.number v.seen l (view_of q).seen in
    let x = subst P are went.views.went in
    (x.0, x.1, x.4.0, goes-collect v.config v.number (v.seen ++ x.0) x.1 m a (Turned turn) x.3 tt, x.4.2)
turn_collects p q m a (Err refused) entries went are = tt
