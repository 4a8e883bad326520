-- Turns one after another.
use Rattle.std.proofs.Common.{◌≡◌, ℕ, List, [], ◌∷◌, ◌++◌, sym, refl, ap, ◌∙◌, subst, append_assoc, append-nil, arith}
use Rattle.history.specs.declared.asks.SpaceConfig.{SpaceConfig}
use Rattle.ports.specs.Balance.{AreOfOthers, WentAmong}
use Rattle.ports.specs.Ports.{GoesBy}
use Rattle.space.specs.declared.asked.Asked.{Asked}
use Rattle.turn_lock.specs.declared.view.View.{View}
use Rattle.turn_lock.specs.declared.handles.Pass.{Pass}
use Rattle.turn_lock.specs.declared.handles.Root.{Root}
use Rattle.turn_lock.specs.declared.handles.TurnLock.{TurnLock}
use Rattle.turn_lock.specs.Rule.{Events}
use Rattle.turn_lock.specs.Handles.{IsPassOf, IsRootOf, view_of}
use Rattle.turn_lock.specs.Lending.{with_pass}
use Rattle.turn_lock.specs.Answers.{Gained, taken_of, events_of}
use Rattle.turn_lock.specs.PassPorts.{PassWent, PortWent}

-- ---- histories

pub others_on : (by : ℕ) (xs ys : Events) → AreOfOthers by xs → AreOfOthers by ys → AreOfOthers by (xs ++ ys)
others_on by [] ys a b = b
others_on by (x ∷ xs) ys a b = (a.0, others_on by xs ys a.1 b)

-- Other connections' events may come before.
others_before : (config : SpaceConfig) (by : ℕ) (h others last : Events) (entries : List Asked) → AreOfOthers by others → WentAmong config by (h ++ others) entries last → WentAmong config by h entries last
others_before config by h others last [] a w = (others ++ w.0, others_on by others w.0 a w.1, w.2 ∙ append_assoc h others w.0)
others_before config by h others last (x ∷ xs) a w =
    (others ++ w.0, w.1, others_on by others w.0 a w.2, subst (λ (g : Events). GoesBy config by g x.moment x.ask x.end w.1) (append_assoc h others w.0) w.3, w.4)

pub among_on : (config : SpaceConfig) (by : ℕ) (h h2 h3 : Events) (xs ys : List Asked) → WentAmong config by h xs h2 → WentAmong config by h2 ys h3 → WentAmong config by h (xs ++ ys) h3
among_on config by h h2 h3 [] ys a b = others_before config by h a.0 h3 ys a.1 (subst (λ (g : Events). WentAmong config by g ys h3) a.2 b)
among_on config by h h2 h3 (x ∷ xs) ys a b = (a.0, a.1, a.2, a.3, among_on config by a.1 h2 h3 xs ys a.4 b)

pub events_on : (by : ℕ) (xs ys : List Asked) → events_of by (xs ++ ys) ≡ events_of by xs ++ events_of by ys
events_on by [] ys = refl
events_on by (x ∷ xs) ys = ap (λ l. taken_of by x ++ l) (events_on by xs ys) ∙ sym (append_assoc (taken_of by x) (events_of by xs) (events_of by ys))

-- ---- passes

pub gained_self : (v : View) → Gained v v []
gained_self v = record {
  same_number = refl;
  same_parts = refl;
  same_config = refl;
  same_opening = refl;
  same_made = refl;
  same_ended = refl;
  own_more = sym (append-nil v.own);
  went = ([], tt, sym (append-nil v.seen));
}

pub gained_on : (u v w : View) (xs ys : List Asked) → Gained u v xs → Gained v w ys → Gained u w (xs ++ ys)
gained_on u v w xs ys a b = record {
  same_number = b.same_number ∙ a.same_number;
  same_parts = b.same_parts ∙ a.same_parts;
  same_config = b.same_config ∙ a.same_config;
  same_opening = b.same_opening ∙ a.same_opening;
  same_made = b.same_made ∙ a.same_made;
  same_ended = b.same_ended ∙ a.same_ended;
  own_more = b.own_more ∙ (ap (λ l. l ++ events_of v.number ys) a.own_more ∙ (ap (λ k. (u.own ++ events_of u.number xs) ++ events_of k ys) a.same_number
      ∙ (append_assoc u.own (events_of u.number xs) (events_of u.number ys) ∙ ap (λ l. u.own ++ l) (sym (events_on u.number xs ys)))));
  went = among_on u.config u.number u.seen v.seen w.seen xs ys a.went
      (subst (λ (k : ℕ). WentAmong u.config k v.seen ys w.seen) a.same_number (subst (λ (c : SpaceConfig). WentAmong c v.number v.seen ys w.seen) a.same_config b.went));
}

pub pass_self : (p : Pass) → PassWent p p []
pass_self p = record { views = gained_self (view_of p); same_seat = refl }

pub pass_on : (p q r : Pass) (xs ys : List Asked) → PassWent p q xs → PassWent q r ys → PassWent p r (xs ++ ys)
pass_on p q r xs ys a b = record { views = gained_on (view_of p) (view_of q) (view_of r) xs ys a.views b.views; same_seat = b.same_seat ∙ a.same_seat }

pub went_self : (p : Pass) (xs : List Asked) → PortWent p xs p xs
went_self p xs = ([], sym (append-nil xs), pass_self p)

pub went_on : (p q r : Pass) (xs ys zs : List Asked) → PortWent p xs q ys → PortWent q ys r zs → PortWent p xs r zs
went_on p q r xs ys zs a b = (a.0 ++ b.0, b.1 ∙ (ap (λ l. l ++ b.0) a.1 ∙ append_assoc xs a.0 b.0), pass_on p q r a.0 b.0 a.2 b.2)

-- A pass whose list was empty went by all its entries.
pub went_all : (p q : Pass) (ys : List Asked) → PortWent p [] q ys → PassWent p q ys
went_all p q ys a = subst (λ (l : List Asked). PassWent p q l) (sym a.1) a.2

-- The root stays the lock's where only its own pass made turns.
pub root_after : (l : TurnLock) (r : Root) (p : Pass) (xs : List Asked) → IsRootOf l r → IsPassOf l p → PassWent r.pass p xs → IsRootOf l (with_pass r p)
root_after l r p xs is own went =
    let same = went.views in let parts = same.same_parts in let were = is.parts in
    record {
      pass_is = own;
      first = went.same_seat ∙ is.first;
      made_are = same.same_made ∙ is.made_are;
      parts = omega (arith, parts, were);
      some_out = is.some_out;
      most = is.most;
    }
