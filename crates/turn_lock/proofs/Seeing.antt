-- What a pass sees that makes no turn.
use Rattle.std.proofs.Common.{◌≡◌, ℕ, ◌<◌, [], ◌∷◌, refl, sym, ap, ◌∙◌, subst, inr, None}
use Rattle.std.specs.Prelude.{Err}
use Rattle.history.specs.declared.asks.Ask.TheVariants.{Tick}
use Rattle.history.specs.declared.asks.Event.{Event}
use Rattle.history.specs.declared.replies.Refused.TheVariants.{OutOfMemory}
use Rattle.space.specs.Acts.{event_of}
use Rattle.space.specs.Built.{SpaceHistory}
use Rattle.turn_lock.specs.declared.view.View.{View}
use Rattle.turn_lock.specs.declared.view.SeatState.TheVariants.{Idle, Called}
use Rattle.turn_lock.specs.declared.handles.Pass.{Pass}
use Rattle.turn_lock.specs.declared.handles.TurnLock.{TurnLock}
use Rattle.turn_lock.specs.Handles.{IsPassOf, view_of}
use Rattle.turn_lock.specs.PassPorts.{PassWent}
use Rattle.turn_lock.specs.PortLaws.{went_all}
use Rattle.turn_lock.specs.Rule.{Events, MayComeTo, Sat, SeesMore, TurnedAt, in_state, some_event, space_with}
use Rattle.turn_lock.proofs.Passes.{pass_after}
use Rattle.turn_lock.proofs.PortSteps.{went_unentered}

-- ---- the steps

abbrev pub looked : View → ℕ → Events → View
looked v t h = record v { seen = h; state = Called t h }

-- The seat that has the space in hand may publish the length of its history.
pub may_pass : (me : Sat) (v : View) (t : ℕ) (h : Events) (s : SpaceHistory) → me ≡ (in_state v (Called t h), (0, None) ∷ []) → 0 < v.parts → s ≡ space_with v.config h
    → (t2 : ℕ) × (h2 : Events) × (me.0.state ≡ Called t2 h2) × (0 < me.0.parts) × (s ≡ space_with me.0.config h2)
may_pass me v t h s is part space =
    (t, h, ap (λ (m : Sat). m.0.state) is, subst (λ (m : Sat). 0 < m.0.parts) (sym is) part, space ∙ ap (λ (m : Sat). space_with m.0.config h) (sym is))

pub has_passed : (me me2 : Sat) (v : View) (t : ℕ) (h : Events) → me ≡ (in_state v (Called t h), (0, None) ∷ [])
    → ((t2 : ℕ) (h2 : Events) → me.0.state ≡ Called t2 h2 → me2 ≡ (looked me.0 t2 h2, me.1)) → me2 ≡ (looked v t h, (0, None) ∷ [])
has_passed me me2 v t h is view = view t h (ap (λ (m : Sat). m.0.state) is) ∙ ap (λ (m : Sat). (looked m.0 t h, m.1)) is

-- It may give the space back.
pub may_go : (me : Sat) (v : View) (t : ℕ) (h : Events) (s : SpaceHistory) → me ≡ (looked v t h, (0, None) ∷ []) → 0 < v.parts → s ≡ space_with v.config h
    → (t2 : ℕ) × (h2 : Events) × (me.0.state ≡ Called t2 h2) × (0 < me.0.parts) × (me.1 ≡ (0, None) ∷ []) × (s ≡ space_with me.0.config h2)
may_go me v t h s is part space = (
  t,
  h,
  ap (λ (m : Sat). m.0.state) is,
  subst (λ (m : Sat). 0 < m.0.parts) (sym is) part,
  ap (λ (m : Sat). m.1) is,
  space ∙ ap (λ (m : Sat). space_with m.0.config h) (sym is),
)

pub sees_more : (v w : View) (t : ℕ) (h : Events) → v.state ≡ Idle → MayComeTo v h → w ≡ in_state (looked v t h) Idle → SeesMore v w
sees_more v w t h idle came is = (h, came, is ∙ (λ i. record v { seen = h; state = sym idle i }))

-- ---- passes

unturned : (v w : View) (e : Event) → (s : SeesMore v w) → TurnedAt v s.0 e (Err OutOfMemory) w
unturned v w e s =
    let seen : w.seen ≡ s.0 = ap (λ (y : View). y.seen) s.2 in
    record { came = s.1; step = inr (refl, seen); after = s.2 ∙ ap (λ (l : Events). record v { seen = l }) (sym seen) }

pub pass_sees : (l : TurnLock) (p q : Pass) → IsPassOf l p → q.seat.table_id ≡ p.seat.table_id → q.seat.me.1 ≡ [] → q.number ≡ p.number → SeesMore (view_of p) (view_of q) → IsPassOf l q
pass_sees l p q is table empty number s =
    pass_after l p q s.0 p.number 0 Tick (Err OutOfMemory) is refl table empty number (unturned (view_of p) (view_of q) (event_of p.number 0 Tick) s)

pub went_sees : (p q : Pass) → q.seat.id ≡ p.seat.id → SeesMore (view_of p) (view_of q) → PassWent p q []
went_sees p q id s = went_all p q [] (went_unentered p q [] [] s.0 some_event (unturned (view_of p) (view_of q) some_event s) refl id)
