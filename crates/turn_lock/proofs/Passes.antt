-- What calls leave of the passes.
use Rattle.std.proofs.Common.{◌≡◌, ◌≢◌, ◌<◌, ◌≤◌, ◌+◌, ◌-◌, ℕ, Bool, true, false, [], ◌∷◌, ◌++◌, length, ltb, ltb-true, cond, refl, sym, ap, ◌∙◌, subst, append_assoc, append-nil, arith}
use Rattle.std.specs.Prelude.{Result, Ok, Err}
use Rattle.history.specs.declared.asks.Ask.{Ask}
use Rattle.history.specs.declared.asks.SpaceConfig.{SpaceConfig}
use Rattle.history.specs.declared.replies.Refused.{Refused}
use Rattle.history.specs.declared.replies.Turn.{Turn}
use Rattle.history.specs.Steps.{IsLegal}
use Rattle.space.specs.Acts.{event_of}
use Rattle.space.specs.Built.{SpaceHistory}
use Rattle.space.proofs.NotedLaws.{taken-turn, refused-turn}
use Rattle.turn_lock.specs.declared.view.View.{View}
use Rattle.turn_lock.specs.declared.handles.Pass.{Pass}
use Rattle.turn_lock.specs.declared.handles.Root.{Root}
use Rattle.turn_lock.specs.declared.handles.TurnLock.{TurnLock}
use Rattle.turn_lock.specs.Handles.{IsPassOf, IsBranchOf, IsRootOf, IsFresh, opening_of, view_of}
use Rattle.turn_lock.specs.Rule.{Events, HasOwn, InOrder, Sat, TurnedAt, events_by, joined_of, left_of, longer, right_of, root}
use Rattle.turn_lock.proofs.Keeps.{own_more}
use Rattle.turn_lock.proofs.PortSteps.{legal_turned}

-- What was seen is in order after a turn.
ordered_turned : (s : SpaceHistory) (v w : View) (before : Events) (by m : ℕ) (a : Ask) (answer : Result Turn Refused) → v.config ≡ s.configuration → v.opening ≡ s.events → by ≡ v.number → TurnedAt v before (event_of by m a) answer w → InOrder s w
ordered_turned s v w before by m a (Ok turn) config opened number t =
    let e = event_of by m a in
    let own = t.came.has_own in
    let config' : w.config ≡ s.configuration = ap (λ (y : View). y.config) t.after ∙ config in
    record {
      legal = subst (λ (c : SpaceConfig). IsLegal c w.seen) config' (legal_turned v w before by m a (Ok turn) t);
      tail = own.0 ++ e ∷ [];
      begins = (taken-turn v.config before w.seen e turn t.step).1 ∙ (ap (λ l. l ++ e ∷ []) (own.1 ∙ ap (λ l. l ++ own.0) opened) ∙ append_assoc s.events own.0 (e ∷ []));
      own = ap (λ (y : View). events_by y.number (own.0 ++ e ∷ [])) t.after ∙ (own_more v.number own.0 e number ∙ (ap (λ l. l ++ e ∷ []) own.2 ∙ sym (ap (λ (y : View). y.own) t.after)));
    }
ordered_turned s v w before by m a (Err refused) config opened number t =
    let own = t.came.has_own in
    let config' : w.config ≡ s.configuration = ap (λ (y : View). y.config) t.after ∙ config in
    record {
      legal = subst (λ (c : SpaceConfig). IsLegal c w.seen) config' (legal_turned v w before by m a (Err refused) t);
      tail = own.0;
      begins = (refused-turn v.config before w.seen (event_of by m a) refused t.step).1 ∙ (own.1 ∙ ap (λ l. l ++ own.0) opened);
      own = ap (λ (y : View). events_by y.number own.0) t.after ∙ (own.2 ∙ sym (ap (λ (y : View). y.own) t.after));
    }

-- It is, where of what was seen the events after the opening ones are known.
ordered_as : (s : SpaceHistory) (v : View) → v.config ≡ s.configuration → v.opening ≡ s.events → IsLegal v.config v.seen → HasOwn v.opening v.number v.own v.seen → InOrder s v
ordered_as s v config opened legal own = record {
  legal = subst (λ (c : SpaceConfig). IsLegal c v.seen) config legal;
  tail = own.0;
  begins = own.1 ∙ ap (λ l. l ++ own.0) opened;
  own = own.2;
}

-- A pass after a turn is the lock's.
pub pass_after : (l : TurnLock) (p q : Pass) (before : Events) (by m : ℕ) (a : Ask) (answer : Result Turn Refused) → IsPassOf l p → by ≡ p.number → q.seat.table_id ≡ p.seat.table_id → q.seat.me.1 ≡ [] → q.number ≡ p.number
    → TurnedAt (view_of p) before (event_of by m a) answer (view_of q) → IsPassOf l q
pass_after l p q before by m a answer is named table empty number t =
    let parts = ap (λ (y : View). y.parts) t.after in let part = is.part in
    record {
      table = table ∙ is.table;
      empty = empty;
      idle = ap (λ (y : View). y.state) t.after ∙ is.idle;
      numbered = number ∙ (is.numbered ∙ sym (ap (λ (y : View). y.number) t.after));
      part = omega (arith, part, parts);
      configured = ap (λ (y : View). y.config) t.after ∙ is.configured;
      opened = ap (λ (y : View). y.opening) t.after ∙ is.opened;
      legal = legal_turned (view_of p) (view_of q) before by m a answer t;
      ordered = ordered_turned l.board.shared.key.value (view_of p) (view_of q) before by m a answer is.configured is.opened (named ∙ is.numbered) t;
    }

longer_legal : (config : SpaceConfig) (xs ys : Events) (b : Bool) → IsLegal config xs → IsLegal config ys → IsLegal config (cond b ys xs)
longer_legal config xs ys true p q = q
longer_legal config xs ys false p q = p

-- The root after it joined a pass is the lock's.
pub root_joined : (l : TurnLock) (r s : Root) (p : Pass) → IsRootOf l r → IsBranchOf l p → HasOwn (view_of s.pass).opening (view_of s.pass).number (view_of s.pass).own (view_of s.pass).seen → s.pass.seat.table_id ≡ r.pass.seat.table_id → s.pass.seat.id ≡ r.pass.seat.id → s.pass.seat.me ≡ (joined_of (view_of r.pass) (view_of p), [])
    → s.pass.number ≡ r.pass.number → s.made ≡ r.made → s.out + 1 ≡ r.out → IsRootOf l s
root_joined l r s p is branch has_own table id me number made out =
    let own = is.pass_is in let theirs = branch.0 in let one = branch.1 in
    let v = view_of r.pass in let w = view_of p in
    let parts_are : (view_of s.pass).parts ≡ v.parts + w.parts = ap (λ (m : Sat). m.0.parts) me in
    let made_is : (view_of s.pass).made ≡ v.made = ap (λ (m : Sat). m.0.made) me in
    let part = own.part in
    let were = is.parts in let some_out = is.some_out in let most = is.most in
    let same : w.config ≡ v.config = theirs.configured ∙ sym own.configured in
    let legal : IsLegal v.config (longer v.seen w.seen) = longer_legal v.config v.seen w.seen (ltb (length v.seen) (length w.seen)) own.legal (subst (λ (c : SpaceConfig). IsLegal c w.seen) same theirs.legal) in
    let config_is : (view_of s.pass).config ≡ l.board.shared.key.value.configuration = ap (λ (m : Sat). m.0.config) me ∙ own.configured in
    let opened_is : (view_of s.pass).opening ≡ l.board.shared.key.value.events = ap (λ (m : Sat). m.0.opening) me ∙ own.opened in
    let legal_is : IsLegal (view_of s.pass).config (view_of s.pass).seen = subst (λ (m : Sat). IsLegal m.0.config m.0.seen) (sym me) legal in
    record {
      pass_is = record {
        table = table ∙ own.table;
        empty = ap (λ (m : Sat). m.1) me;
        idle = ap (λ (m : Sat). m.0.state) me ∙ own.idle;
        numbered = number ∙ (own.numbered ∙ sym (ap (λ (m : Sat). m.0.number) me));
        part = omega (arith, parts_are, part);
        configured = config_is;
        opened = opened_is;
        legal = legal_is;
        ordered = ordered_as l.board.shared.key.value (view_of s.pass) config_is opened_is legal_is has_own;
      };
      first = id ∙ is.first;
      made_are = made_is ∙ (is.made_are ∙ sym made);
      parts = omega (arith, parts_are, were, out, one);
      some_out = omega (arith, some_out, out, made);
      most = omega (arith, most, made);
    }

-- Where a root took a part back, some pass was out.
pub some_out : (l : TurnLock) (r : Root) → IsRootOf l r → (view_of r.pass).parts + 1 ≤ 4294967296 → 0 < r.out
some_out l r is few = let parts = is.parts in omega (arith, parts, few)

none_longer : (xs : Events) → longer xs [] ≡ xs
none_longer xs = go (ltb (length xs) 0) refl
  where
    go : (b : Bool) → ltb (length xs) 0 ≡ b → cond b [] xs ≡ xs
    go true is = let lt = ltb-true (length xs) 0 is in absurd (omega (arith, lt))
    go false is = refl

-- A pass that was split off has seen what the root has seen.
pub split_sees : (v : View) (m : Sat) → m ≡ (record (right_of v) { seen = longer v.seen [] }, []) → m ≡ (right_of v, [])
split_sees v m is = is ∙ ap (λ (l : Events). (record (right_of v) { seen = l }, [])) (none_longer v.seen)

-- The pass that was split off is the lock's.
pub branch_split : (l : TurnLock) (r : Root) (p : Pass) → IsRootOf l r → p.seat.table_id ≡ l.board.shared.table_id → p.seat.me ≡ (right_of (view_of r.pass), [])
    → HasOwn (view_of p).opening (view_of p).number (view_of p).own (view_of p).seen → p.number ≡ r.made + 1 → IsBranchOf l p
branch_split l r p is table me has_own number =
    let own = is.pass_is in
    let made = is.made_are in
    let parts_are : (view_of p).parts ≡ 1 = ap (λ (m : Sat). m.0.parts) me in
    let number_is : (view_of p).number ≡ (view_of r.pass).made + 1 = ap (λ (m : Sat). m.0.number) me in
    let config_is : (view_of p).config ≡ l.board.shared.key.value.configuration = ap (λ (m : Sat). m.0.config) me ∙ own.configured in
    let opened_is : (view_of p).opening ≡ l.board.shared.key.value.events = ap (λ (m : Sat). m.0.opening) me ∙ own.opened in
    let legal_is : IsLegal (view_of p).config (view_of p).seen = subst (λ (m : Sat). IsLegal m.0.config m.0.seen) (sym me) own.legal in (
      record {
        table = table;
        empty = ap (λ (m : Sat). m.1) me;
        idle = ap (λ (m : Sat). m.0.state) me;
        numbered = omega (arith, number, number_is, made);
        part = omega (arith, parts_are);
        configured = config_is;
        opened = opened_is;
        legal = legal_is;
        ordered = ordered_as l.board.shared.key.value (view_of p) config_is opened_is legal_is has_own;
      },
      parts_are,
    )

-- The root that a pass was split off is the lock's.
pub root_split : (l : TurnLock) (r s : Root) → IsRootOf l r → r.made ≢ 4294967295 → s.pass.seat.table_id ≡ r.pass.seat.table_id → s.pass.seat.id ≡ r.pass.seat.id → s.pass.seat.me ≡ (left_of (view_of r.pass), r.pass.seat.me.1)
    → s.pass.number ≡ r.pass.number → s.made ≡ r.made + 1 → s.out ≡ r.out + 1 → IsRootOf l s
root_split l r s is fits table id me number made out =
    let own = is.pass_is in let order = own.ordered in
    let parts_are : (view_of s.pass).parts ≡ (view_of r.pass).parts - 1 = ap (λ (m : Sat). m.0.parts) me in
    let made_is : (view_of s.pass).made ≡ (view_of r.pass).made + 1 = ap (λ (m : Sat). m.0.made) me in
    let were = is.parts in let some_out = is.some_out in let most = is.most in let made_are = is.made_are in
    let seen_is : (view_of s.pass).seen ≡ (view_of r.pass).seen = ap (λ (m : Sat). m.0.seen) me in
    record {
      pass_is = record {
        table = table ∙ own.table;
        empty = ap (λ (m : Sat). m.1) me ∙ own.empty;
        idle = ap (λ (m : Sat). m.0.state) me ∙ own.idle;
        numbered = number ∙ (own.numbered ∙ sym (ap (λ (m : Sat). m.0.number) me));
        part = omega (arith, parts_are, were, some_out, most, fits);
        configured = ap (λ (m : Sat). m.0.config) me ∙ own.configured;
        opened = ap (λ (m : Sat). m.0.opening) me ∙ own.opened;
        legal = subst (λ (m : Sat). IsLegal m.0.config m.0.seen) (sym me) own.legal;
        ordered = record {
          legal = subst (λ (h : Events). IsLegal l.board.shared.key.value.configuration h) (sym seen_is) order.legal;
          tail = order.tail;
          begins = seen_is ∙ order.begins;
          own = ap (λ (m : Sat). events_by m.0.number order.tail) me ∙ (order.own ∙ sym (ap (λ (m : Sat). m.0.own) me));
        };
      };
      first = id ∙ is.first;
      made_are = omega (arith, made_is, made_are, made);
      parts = omega (arith, parts_are, were, out, some_out, most, fits);
      some_out = omega (arith, some_out, out, made);
      most = omega (arith, most, made, fits);
    }

-- What the root of a new lock has seen is in order.
pub root_order : (s : SpaceHistory) → IsLegal s.configuration s.events → InOrder s (root s)
root_order s legal = record { legal = legal; tail = []; begins = sym (append-nil s.events); own = refl }

-- A root that knows what the root of a new lock knows is fresh.
pub fresh_root : (l : TurnLock) (r : Root) → r.pass.seat.table_id ≡ l.board.shared.table_id → r.pass.seat.id ≡ 0 → r.pass.seat.me ≡ (root (opening_of l), [])
    → r.pass.number ≡ 0 → r.made ≡ 0 → r.out ≡ 0 → IsLegal (opening_of l).configuration (opening_of l).events → IsFresh l r
fresh_root l r table first me number made out legal =
    let knows : r.pass.seat.me.0 ≡ root (opening_of l) = ap (λ x. x.0) me in
    let parts : r.pass.seat.me.0.parts ≡ 4294967296 = ap (λ (v : View). v.parts) knows in
    let made_is : r.pass.seat.me.0.made ≡ 0 = ap (λ (v : View). v.made) knows in
    record {
      own = record {
        pass_is = record {
          table = table;
          empty = ap (λ x. x.1) me;
          idle = ap (λ (v : View). v.state) knows;
          numbered = number ∙ sym (ap (λ (v : View). v.number) knows);
          part = omega (arith, parts);
          configured = ap (λ (v : View). v.config) knows;
          opened = ap (λ (v : View). v.opening) knows;
          legal = subst (λ (v : View). IsLegal v.config v.seen) (sym knows) legal;
          ordered = subst (InOrder (opening_of l)) (sym knows) (root_order (opening_of l) legal);
        };
        first = first;
        made_are = made_is ∙ sym made;
        parts = omega (arith, parts, out);
        some_out = omega (arith, made, out);
        most = omega (arith, made);
      };
      knows = knows;
      none_out = out;
    }

-- The root is the lock's, wherever the events begin that it did not hand out.
pub root_kept : (l : TurnLock) (r : Root) (kept : ℕ) → IsRootOf l r → IsRootOf l (record r { kept = kept })
root_kept l r kept is = record {
  pass_is = is.pass_is;
  first = is.first;
  made_are = is.made_are;
  parts = is.parts;
  some_out = is.some_out;
  most = is.most;
}
