-- A link whose pass the root took back.
use Rattle.std.proofs.Common.{◌≡◌, ℕ, List, [], ◌∷◌, ◌++◌, sym, refl, ap, ◌∙◌, subst, arith, append-nil}
use Rattle.std.specs.Prelude.{Contains}
use Rattle.std.proofs.lemmas.List.Elements.{Contains-append_left, Contains-append_right}
use Rattle.space.specs.declared.asked.Asked.{Asked}
use Rattle.system_objects.specs.declared.book.Kind.{Kind}
use Rattle.turn_lock.specs.Answers.{Gained, events_of}
use Rattle.turn_lock.specs.Handles.{view_of}
use Rattle.turn_lock.specs.Rule.{Events, StartsWith, joined_of, left_of}
use Rattle.turn_lock.specs.declared.handles.TurnLock.{TurnLock}
use Rattle.turn_lock.specs.declared.view.View.{View}
use Rattle.conn_server.specs.Serves.{Serves}
use Rattle.conn_server.specs.Starts.{IsEndOf, IsUnder}
use Rattle.conn_server.specs.Views.{Grows, IsTicked, IsTicking}
use Rattle.conn_server.specs.declared.link_task.LinkDone.{LinkDone}
use Rattle.conn_server.specs.declared.link_task.AdmittedLink.{AdmittedLink}
use Rattle.conn_server.specs.declared.link_task.LinkTask.{LinkTask}
use Rattle.conn_server.specs.declared.link_task.LinkReport.{LinkReport}
use Rattle.conn_server.specs.declared.link_thread.LinkState.{LinkState}
use Rattle.conn_server.specs.declared.link_thread.LinkState.TheVariants.{Running, ServedHere, Ended}
use Rattle.conn_server.proofs.Histories.{starts_self, starts_on, went_events}

pub grows_joined : (v w q : View) → w ≡ joined_of v q → StartsWith w.seen v.seen → Grows v w
grows_joined v w q is seen = record {
  number = ap (λ (y : View). y.number) is;
  config = ap (λ (y : View). y.config) is;
  opening = ap (λ (y : View). y.opening) is;
  own = ap (λ (y : View). y.own) is;
  seen = seen;
  more = (q.number, q.own) ∷ [];
  ended = ap (λ (y : View). y.ended) is;
}

pub grows_self : (v : View) → Grows v v
grows_self v = record { number = refl; config = refl; opening = refl; own = refl; seen = starts_self v.seen; more = []; ended = sym (append-nil v.ended) }

-- What a root knows of passes that it took back stays, as it sees more.
pub record Learns (v w : View) : Type 0 where
  pub seen : StartsWith w.seen v.seen
  pub more : List (ℕ × Events)
  pub ended : w.ended ≡ v.ended ++ more

pub learns_grown : (v w : View) → Grows v w → Learns v w
learns_grown v w g = record { seen = g.seen; more = g.more; ended = g.ended }

pub learns_gained : (v w : View) (entries : List Asked) → Gained v w entries → Learns v w
learns_gained v w entries g =
    let e = went_events v.config v.number v.seen w.seen entries g.went in
    record { seen = (e.0, e.1); more = []; ended = g.same_ended ∙ sym (append-nil v.ended) }

pub learns_left : (v w : View) → w ≡ left_of v → Learns v w
learns_left v w is = subst (λ (y : View). Learns v y) (sym is) (record { seen = starts_self v.seen; more = []; ended = sym (append-nil v.ended) })

-- What begins what a root had seen begins what it has seen.
pub begins_later : (v w : View) → StartsWith w.seen v.seen → (front : Events) → StartsWith v.seen front → StartsWith w.seen front
begins_later v w more front begins = starts_on w.seen v.seen front more begins

pub begins_gained : (v w : View) (entries : List Asked) → Gained v w entries → (front : Events) → StartsWith v.seen front → StartsWith w.seen front
begins_gained v w entries g = begins_later v w (learns_gained v w entries g).seen

pub ticked_first : (v : View) (ticks : List Asked) → IsTicking v ticks → IsTicked v ticks
ticked_first v ticks t = record { number = t.number; own = t.own; last = v.seen; went = t.went; seen = starts_self v.seen }

pub ticked_grown : (v w : View) (ticks : List Asked) → Grows v w → IsTicked v ticks → IsTicked w ticks
ticked_grown v w ticks g t = record {
  number = g.number ∙ t.number;
  own = g.own ∙ t.own;
  last = t.last;
  went = rw (g.config, g.opening) t.went;
  seen = starts_on w.seen v.seen t.last g.seen t.seen;
}

module _ {I O T H : Type 0} (Talked : AdmittedLink I O T H → LinkReport I O T H → Type 0) where
  pub ends_joined : (lock : TurnLock) (v w : View) (task : LinkTask I O T H) (done : LinkDone I O T H) → Serves Talked lock task done → w ≡ joined_of v (view_of done.pass)
      → StartsWith w.seen (view_of done.pass).seen → IsEndOf Talked w task done.report
  ends_joined lock v w task done serves is later =
      let went = serves.went.views in
      let q = view_of done.pass in
      let ended : w.ended ≡ v.ended ++ (q.number, q.own) ∷ [] = ap (λ (y : View). y.ended) is in
      let here : Contains w.ended (q.number, q.own) = subst (λ (l : List (ℕ × Events)). Contains l (q.number, q.own)) (sym ended) (Contains-append_right v.ended ((q.number, q.own) ∷ []) (q.number, q.own) (0, omega arith, refl)) in
      record {
        by = serves.by;
        talked = serves.talked;
        listed = subst (λ (x : ℕ × Events). Contains w.ended x) (λ i. (went.same_number i, went.own_more i)) here;
        last = q.seen;
        went = went.went;
        seen = later;
      }

  -- It stays so as the root sees more.
  pub ends_later : (v w : View) (task : LinkTask I O T H) (report : LinkReport I O T H) → Learns v w → IsEndOf Talked v task report → IsEndOf Talked w task report
  ends_later v w task report learns e =
      let n = (view_of task.pass).number in
      let own = (view_of task.pass).own ++ events_of n report.asked in
      record {
        by = e.by;
        talked = e.talked;
        listed = subst (λ (l : List (ℕ × Events)). Contains l (n, own)) (sym learns.ended) (Contains-append_left v.ended learns.more (n, own) e.listed);
        last = e.last;
        went = e.went;
        seen = starts_on w.seen v.seen e.last learns.seen e.seen;
      }

  pub under_later : (lock : TurnLock) (kinds : List Kind) (v w : View) (task : LinkTask I O T H) (link_state : LinkState I O T H) → Learns v w → IsUnder Talked lock kinds v task link_state → IsUnder Talked lock kinds w task link_state
  under_later lock kinds v w task (Running child) learns is = is
  under_later lock kinds v w task (ServedHere done) learns is = is
  under_later lock kinds v w task (Ended report) learns is = ends_later v w task report.value learns is
