-- What is kept as links are admitted.
use Rattle.std.proofs.Common.{◌≡◌, ℕ, ◌+◌, ◌<◌, false, List, [], ◌∷◌, ◌++◌, length, map, get_or, set, sym, refl, ap, ◌∙◌, subst, arith, append-nil, length-append, length-set}
use Rattle.std.specs.Prelude.{◌≤◌, vec_len, Option, IfSome}
use Rattle.std.specs.List.{remove}
use Rattle.std.specs.List.Sorted.{IsPermutation}
use Rattle.std.proofs.lemmas.List.Sorted.{IsPermutation-refl}
use Rattle.std.proofs.lemmas.List.Sums.{sum_by_push}
use Rattle.history.specs.declared.asks.Event.{Event}
use Rattle.history.specs.declared.asks.SpaceConfig.{SpaceConfig}
use Rattle.ports.specs.Balance.{WentAmong}
use Rattle.space.specs.declared.asked.Asked.{Asked}
use Rattle.turn_lock.specs.Answers.{Gained, events_of}
use Rattle.turn_lock.specs.Handles.{IsFresh, IsRootOf, opening_of, view_of}
use Rattle.turn_lock.specs.PortLaws.{among_on, events_on}
use Rattle.turn_lock.specs.Rule.{Events, StartsWith, events_by, left_of, right_of, space_with}
use Rattle.turn_lock.specs.declared.handles.Root.{Root}
use Rattle.turn_lock.specs.declared.handles.TurnLock.{TurnLock}
use Rattle.turn_lock.specs.declared.view.View.{View}
use Rattle.call_dispatch.specs.Acts.{WorkerState}
use Rattle.system_objects.specs.declared.book.Kind.{Kind}
use Rattle.conn_server.specs.Accepts.{ExpectsAll, Follows, IsAccepting, IsBegun, IsSame, live_of, open_all, reports_of}
use Rattle.conn_server.specs.Taken.{Taken, IsEmpty, SameAll, SameReports}
use Rattle.conn_server.specs.Handed.{AreHanded}
use Rattle.conn_server.specs.Made.{IsTakenBelow}
use Rattle.conn_server.specs.Rows.{EachAt}
use Rattle.conn_server.specs.Serves.{IsLinkTask}
use Rattle.conn_server.specs.Starts.{IsUnder, task_of, open_in, report_in}
use Rattle.conn_server.specs.Views.{Grows, IsTicking}
use Rattle.conn_server.specs.declared.admission.Acceptor.{Acceptor}
use Rattle.conn_server.specs.declared.link_task.AdmittedLink.{AdmittedLink}
use Rattle.conn_server.specs.declared.link_task.LinkTask.{LinkTask}
use Rattle.conn_server.specs.declared.link_task.LinkReport.{LinkReport}
use Rattle.conn_server.specs.declared.link_thread.StartedLink.{StartedLink}
use Rattle.conn_server.specs.declared.link_thread.LinkState.{LinkState}
use Rattle.conn_server.proofs.Ending.{learns_gained, learns_grown, learns_left}
use Rattle.conn_server.proofs.Recording.{handed_first, handed_later}
use Rattle.conn_server.proofs.Histories.{turns_closed}
use Rattle.conn_server.proofs.Joining.{Found, each_later, found}
use Rattle.conn_server.proofs.Live.{given_ended, live_begun, live_ended, live_length, open_ended, reports_begun}
use Rattle.conn_server.proofs.Rows.{each_instead, each_on, map_instead, set_amid}

pub ticking_on : (v w : View) (ticks more : List Asked) → IsTicking v ticks → Gained v w more → IsTicking w (ticks ++ more)
ticking_on v w ticks more t g = record {
  number = g.same_number ∙ t.number;
  own = g.own_more ∙ (ap (λ k. v.own ++ events_of k more) t.number ∙ (ap (λ l. l ++ events_of 0 more) t.own ∙ sym (events_on 0 ticks more)));
  went = subst (λ (x : SpaceConfig × Events). WentAmong x.0 0 x.1 (ticks ++ more) w.seen) (λ i. (sym g.same_config i, sym g.same_opening i))
      (among_on v.config 0 v.opening v.seen w.seen ticks more t.went (subst (λ (n : ℕ). WentAmong v.config n v.seen more w.seen) t.number g.went));
}

pub ticking_left : (v w : View) (ticks : List Asked) → w ≡ left_of v → IsTicking v ticks → IsTicking w ticks
ticking_left v w ticks is t = subst (λ (y : View). IsTicking y ticks) (sym is) (record { number = t.number; own = t.own; went = t.went })

-- The events that the root saw when it took passes back are those of other connections.
pub ticking_grown : (lock : TurnLock) (a b : Root) (ticks : List Asked) → IsRootOf lock a → IsRootOf lock b → Grows (view_of a.pass) (view_of b.pass) → IsTicking (view_of a.pass) ticks → IsTicking (view_of b.pass) ticks
ticking_grown lock a b ticks was is g t =
    let v = view_of a.pass in
    let w = view_of b.pass in
    let s = opening_of lock in
    let order = is.pass_is.ordered in
    let number : w.number ≡ 0 = g.number ∙ t.number in
    let there = subst (λ (x : SpaceConfig × Events). WentAmong x.0 0 x.1 ticks v.seen) (λ i. (was.pass_is.configured i, was.pass_is.opened i)) t.went in
    let own = subst (λ (n : ℕ). events_by n order.tail ≡ w.own) number order.own ∙ (g.own ∙ t.own) in
    let all = (turns_closed s (space_with s.configuration w.seen) 0 ticks v.seen order.tail there g.seen order.begins own).went in
    record {
      number = number;
      own = g.own ∙ t.own;
      went = subst (λ (x : SpaceConfig × Events). WentAmong x.0 0 x.1 ticks w.seen) (λ i. (sym is.pass_is.configured i, sym is.pass_is.opened i)) all;
    }

module _ {I O T H C : Type 0} (Talked : AdmittedLink I O T H → LinkReport I O T H → Type 0) (Made : ℕ → AdmittedLink I O T H → Type 0) (shown : H → WorkerState)
    (taken : C → Taken (LinkReport I O T H)) (expects : C → LinkReport I O T H → Type 0) (lock : TurnLock) (kinds : List Kind) where
  -- At first there is no link.
  pub first_accepting : (a : Acceptor I O T H C) → IsFresh lock a.root → a.begun ≡ 0 → a.live.items ≡ [] → a.all ≡ [] → IsEmpty (taken a.taker) → (a.keeps ≡ false → (taken a.taker).events ≡ []) → ExpectsAll Talked Made expects a.taker
      → IfSome a.handed (λ n. n ≡ length (opening_of lock).events) → IsAccepting Talked Made shown taken expects lock kinds a
  first_accepting a fresh none no_live no_link empty no_event expected at_end =
      let opens : open_all a.all ≡ 0 = ap (λ (l : List (StartedLink I O T H)). open_all l) no_link in
      let reports : length (taken a.taker).reports ≡ 0 = ap length empty.no_report in
      let count : length a.all ≡ 0 = ap length no_link in
      record {
        own = fresh.own;
        out = fresh.none_out ∙ sym opens;
        made = sym fresh.own.made_are ∙ (ap (λ (y : View). y.made) fresh.knows ∙ sym count);
        begun = none ∙ sym count;
        ticked = subst (λ (x : View × List Asked). IsTicking x.0 x.1) (λ i. (sym fresh.knows i, sym empty.no_tick i)) (record { number = refl; own = refl; went = ([], tt, sym (append-nil _)) });
        live_are = no_live ∙ sym (ap (λ (l : List (StartedLink I O T H)). live_of l) no_link);
        given = subst (λ (x : List (StartedLink I O T H) × List (LinkReport I O T H)). IsPermutation (reports_of x.0) x.1) (λ i. (sym no_link i, sym empty.no_report i)) (IsPermutation-refl []);
        room = omega (arith, opens, reports);
        expected = expected;
        handed_on = λ host. handed_first lock (view_of a.root.pass) (taken a.taker).events a.handed (ap (λ (y : View). y.seen) fresh.knows) (no_event host) at_end;
        links = subst (λ (l : List (StartedLink I O T H)). EachAt (IsBegun Talked Made shown lock kinds (view_of a.root.pass)) 1 l) (sym no_link) tt;
      }

  -- What a taker may be given, it still may be.
  still_expected : (c d : C) → ((report : LinkReport I O T H) → expects c report → expects d report) → ExpectsAll Talked Made expects c → ExpectsAll Talked Made expects d
  still_expected c d still expected = λ k admitted report made talked by. still report (expected k admitted report made talked by)

  pub same_accepting : (a b : Acceptor I O T H C) → IsSame taken expects a b → IsAccepting Talked Made shown taken expects lock kinds a → IsAccepting Talked Made shown taken expects lock kinds b
  same_accepting a b same is =
      let room = is.room in let more = same.reports.room in
      let opens : open_all b.all ≡ open_all a.all = ap (λ (l : List (StartedLink I O T H)). open_all l) same.all in
      let reports : length (taken b.taker).reports ≡ length (taken a.taker).reports = ap length same.reports.reports in
      let count : length a.all ≡ length b.all = ap length (sym same.all) in
      record {
        own = subst (λ (r : Root). IsRootOf lock r) (sym same.root) is.own;
        out = ap (λ (r : Root). r.out) same.root ∙ (is.out ∙ sym opens);
        made = ap (λ (r : Root). r.made) same.root ∙ (is.made ∙ count);
        begun = same.begun ∙ (is.begun ∙ count);
        ticked = subst (λ (x : Root × List Asked). IsTicking (view_of x.0.pass) x.1) (λ i. (sym same.root i, sym same.ticks i)) is.ticked;
        live_are = same.live_are ∙ (is.live_are ∙ ap (λ (l : List (StartedLink I O T H)). live_of l) (sym same.all));
        given = subst (λ (x : List (StartedLink I O T H) × List (LinkReport I O T H)). IsPermutation (reports_of x.0) x.1) (λ i. (sym same.all i, sym same.reports.reports i)) is.given;
        room = omega (arith, room, more, opens, reports);
        expected = still_expected a.taker b.taker same.reports.still is.expected;
        handed_on = λ host. subst (λ (x : Root × List Event × Option ℕ). AreHanded lock (view_of x.0.pass) x.1 x.2) (λ i. (sym same.root i, sym same.events i, sym same.handed_on i)) (is.handed_on (sym same.same_keeps ∙ host));
        links = subst (λ (x : Root × List (StartedLink I O T H)). EachAt (IsBegun Talked Made shown lock kinds (view_of x.0.pass)) 1 x.1) (λ i. (sym same.root i, sym same.all i)) is.links;
      }

  pub tick_accepting : (a b : Acceptor I O T H C) (more : List Asked) → IsAccepting Talked Made shown taken expects lock kinds a → IsRootOf lock b.root → b.root.made ≡ a.root.made → b.root.out ≡ a.root.out
      → Gained (view_of a.root.pass) (view_of b.root.pass) more → (taken b.taker).ticks ≡ (taken a.taker).ticks ++ more → SameReports taken expects a.taker b.taker
      → b.begun ≡ a.begun → b.live ≡ a.live → b.all ≡ a.all → (b.keeps ≡ false → AreHanded lock (view_of b.root.pass) (taken b.taker).events b.handed) → IsAccepting Talked Made shown taken expects lock kinds b
  tick_accepting a b more is own made out went ticks kept begun live all handed =
      let room = is.room in let more_room = kept.room in
      let opens : open_all b.all ≡ open_all a.all = ap (λ (l : List (StartedLink I O T H)). open_all l) all in
      let reports : length (taken b.taker).reports ≡ length (taken a.taker).reports = ap length kept.reports in
      let count : length a.all ≡ length b.all = ap length (sym all) in
      record {
        own = own;
        out = out ∙ (is.out ∙ sym opens);
        made = made ∙ (is.made ∙ count);
        begun = begun ∙ (is.begun ∙ count);
        ticked = subst (λ (l : List Asked). IsTicking (view_of b.root.pass) l) (sym ticks) (ticking_on (view_of a.root.pass) (view_of b.root.pass) (taken a.taker).ticks more is.ticked went);
        live_are = ap (λ l. l.items) live ∙ (is.live_are ∙ ap (λ (l : List (StartedLink I O T H)). live_of l) (sym all));
        given = subst (λ (x : List (StartedLink I O T H) × List (LinkReport I O T H)). IsPermutation (reports_of x.0) x.1) (λ i. (sym all i, sym kept.reports i)) is.given;
        room = omega (arith, room, more_room, opens, reports);
        expected = still_expected a.taker b.taker kept.still is.expected;
        handed_on = handed;
        links = subst (λ (l : List (StartedLink I O T H)). EachAt (IsBegun Talked Made shown lock kinds (view_of b.root.pass)) 1 l) (sym all)
            (each_later Talked Made shown lock kinds (view_of a.root.pass) (view_of b.root.pass) (learns_gained (view_of a.root.pass) (view_of b.root.pass) more went) 1 a.all is.links);
      }

  -- A turn was made, and no event handed on.
  pub handed_at_turn : (a : Acceptor I O T H C) (w : View) (more : List Asked) (events : Events) (next : Option ℕ) → IsAccepting Talked Made shown taken expects lock kinds a → Gained (view_of a.root.pass) w more
      → events ≡ (taken a.taker).events → next ≡ a.handed → a.keeps ≡ false → AreHanded lock w events next
  handed_at_turn a w more events next is went same_events same host =
      handed_later lock (view_of a.root.pass) w (taken a.taker).events events a.handed next (is.handed_on host) (learns_gained (view_of a.root.pass) w more went).seen same_events same

  -- The root saw more of the history, and made no turn.
  pub looked_accepting : (a : Acceptor I O T H C) (r : Root) → IsAccepting Talked Made shown taken expects lock kinds a → IsRootOf lock r → r.made ≡ a.root.made → r.out ≡ a.root.out → Gained (view_of a.root.pass) (view_of r.pass) []
      → IsAccepting Talked Made shown taken expects lock kinds (record a { root = r })
  looked_accepting a r is own made out went =
      tick_accepting a (record a { root = r }) [] is own made out went (sym (append-nil (taken a.taker).ticks)) (record { reports = refl; room = omega arith; still = λ report e. e }) refl refl refl
      (handed_at_turn a (view_of r.pass) [] (taken a.taker).events a.handed is went refl refl)

  pub link_accepting : (a b : Acceptor I O T H C) (task : LinkTask I O T H) (x : StartedLink I O T H) → IsAccepting Talked Made shown taken expects lock kinds a → IsRootOf lock b.root
      → view_of task.pass ≡ right_of (view_of a.root.pass) → view_of b.root.pass ≡ left_of (view_of a.root.pass) → b.root.out ≡ a.root.out + 1 → b.root.made ≡ a.root.made + 1
      → task.by ≡ a.begun + 1 → IsLinkTask shown lock task → Made (a.begun + 1) task.admitted
      → IsTakenBelow (length (view_of a.root.pass).seen) task.admitted.tick.value.end → task_of x ≡ task → x.by ≡ task.by → ((v : View) → IsUnder Talked lock kinds v (task_of x) x.link_state) → open_in x.link_state ≡ 1
      → b.live.items ≡ a.live.items ++ x ∷ [] → b.all ≡ a.all ++ x ∷ [] → b.begun ≡ a.begun + 1
      → length (taken a.taker).reports + vec_len a.live < (taken a.taker).report_limit → SameAll taken expects a.taker b.taker → b.handed ≡ a.handed → b.keeps ≡ a.keeps → IsAccepting Talked Made shown taken expects lock kinds b
  link_accepting a b task x is own right left out made by task_at for_it after_it task_is x_by link_state one live all begun room same same_handed same_keeps =
      let v = view_of a.root.pass in
      let w = view_of b.root.pass in
      let was : v.made ≡ a.root.made = is.own.made_are in
      let n = is.made in
      let o = is.out in
      let longer : open_all b.all ≡ open_all a.all + 1 = ap (λ (l : List (StartedLink I O T H)). open_all l) all ∙ (sum_by_push (λ (s : StartedLink I O T H). open_in s.link_state) a.all x ∙ ap (λ n. open_all a.all + n) one) in
      let length_is : a.begun ≡ length a.all = is.begun in
      let count : length b.all ≡ length a.all + 1 = ap length all ∙ length-append a.all (x ∷ []) in
      let view : view_of (task_of x).pass ≡ right_of v = ap (λ (j : LinkTask I O T H). view_of j.pass) task_is ∙ right in
      let number : v.made + 1 ≡ length a.all + 1 = omega (arith, was, n) in
      let live_count : vec_len a.live ≡ open_all a.all = a.live.ok.0 ∙ (ap length is.live_are ∙ live_length a.all) in
      let reports : length (taken b.taker).reports ≡ length (taken a.taker).reports = ap length same.reports.reports in
      let limit = same.reports.room in
      let here : IsBegun Talked Made shown lock kinds w (length a.all + 1) x = record {
        number = x_by ∙ (by ∙ ap (λ n. n + 1) length_is);
        task = record {
          can = subst (λ (j : LinkTask I O T H). IsLinkTask shown lock j) (sym task_is) task_at;
          made = subst (λ (y : ℕ × LinkTask I O T H). Made (y.0 + 1) y.1.admitted) (λ i. (length_is i, sym task_is i)) for_it;
          by = ap (λ (j : LinkTask I O T H). j.by) task_is ∙ (by ∙ ap (λ n. n + 1) length_is);
          number = ap (λ (y : View). y.number) view ∙ number;
          own = ap (λ (y : View). y.own) view;
          after_tick = subst (λ (y : View × LinkTask I O T H). IsTakenBelow (length y.0.seen) y.1.admitted.tick.value.end) (λ i. (sym view i, sym task_is i)) after_it;
        };
        link_state = link_state w;
      } in
      record {
        own = own;
        out = omega (arith, out, o, longer);
        made = omega (arith, made, n, count);
        begun = omega (arith, begun, length_is, count);
        ticked = subst (λ (l : List Asked). IsTicking w l) (sym same.ticks) (ticking_left v w (taken a.taker).ticks left is.ticked);
        live_are = live ∙ (ap (λ (l : List (StartedLink I O T H)). l ++ x ∷ []) is.live_are ∙ (sym (live_begun a.all x one) ∙ ap (λ (l : List (StartedLink I O T H)). live_of l) (sym all)));
        given = subst (λ (y : List (LinkReport I O T H) × List (LinkReport I O T H)). IsPermutation y.0 y.1) (λ i. (sym (ap (λ (l : List (StartedLink I O T H)). reports_of l) all ∙ reports_begun a.all x one) i, sym same.reports.reports i)) is.given;
        room = omega (arith, room, live_count, longer, reports, limit);
        expected = still_expected a.taker b.taker same.reports.still is.expected;
        handed_on = λ host. handed_later lock v w (taken a.taker).events (taken b.taker).events a.handed b.handed (is.handed_on (sym same_keeps ∙ host)) (learns_left v w left).seen same.events same_handed;
        links = subst (λ (l : List (StartedLink I O T H)). EachAt (IsBegun Talked Made shown lock kinds w) 1 l) (sym all)
            (each_on (IsBegun Talked Made shown lock kinds w) 1 a.all x (each_later Talked Made shown lock kinds v w (learns_left v w left) 1 a.all is.links) here);
      }

  -- The live link at a place.
  pub found_live : (a : Acceptor I O T H C) (place : ℕ) (x : StartedLink I O T H) → IsAccepting Talked Made shown taken expects lock kinds a → place < vec_len a.live → x ≡ get_or a.live.items place x
      → Found Talked Made shown lock kinds (view_of a.root.pass) a.all place x
  found_live a place x is there taken = found Talked Made shown lock kinds (view_of a.root.pass) a.all a.live.items place x is.links is.live_are (subst (λ (n : ℕ). place < n) a.live.ok.0 there) taken

  pub number_left : (a : Acceptor I O T H C) (place n : ℕ) (x : StartedLink I O T H) (f : Found Talked Made shown lock kinds (view_of a.root.pass) a.all place x) → n + 1 ≡ x.by → n < length a.all
  number_left a place n x f is =
      let b = f.amid_is in
      let number = f.begun.number in
      let l : length a.all ≡ length b.before + length (x ∷ b.after) = ap length b.whole ∙ length-append b.before (x ∷ b.after) in
      omega (arith, is, number, l)

  -- A link ended.
  pub settled_accepting : (a b : Acceptor I O T H C) (place n : ℕ) (x : StartedLink I O T H) (st : LinkState I O T H) (report : LinkReport I O T H) (f : Found Talked Made shown lock kinds (view_of a.root.pass) a.all place x)
      → IsAccepting Talked Made shown taken expects lock kinds a → IsRootOf lock b.root → b.root.out + 1 ≡ a.root.out → b.root.made ≡ a.root.made → Grows (view_of a.root.pass) (view_of b.root.pass)
      → IsUnder Talked lock kinds (view_of b.root.pass) (task_of x) st → open_in st ≡ 0 → report_in st ≡ report ∷ []
      → n + 1 ≡ x.by → b.live.items ≡ remove a.live.items place → b.all ≡ set a.all n (record { by = x.by; task = x.task; link_state = st }) → b.begun ≡ a.begun
      → (taken b.taker).reports ≡ (taken a.taker).reports ++ report ∷ [] → (taken b.taker).ticks ≡ (taken a.taker).ticks
      → (taken a.taker).report_limit ≤ (taken b.taker).report_limit → ((other : LinkReport I O T H) → expects a.taker other → expects b.taker other)
      → (taken b.taker).events ≡ (taken a.taker).events → b.handed ≡ a.handed → b.keeps ≡ a.keeps → IsAccepting Talked Made shown taken expects lock kinds b
  settled_accepting a b place n x st report f is own out made grows ended none one number live all begun reports ticks limit still events same_handed same_keeps =
      let v = view_of a.root.pass in
      let w = view_of b.root.pass in
      let m = f.amid_is in
      let y : StartedLink I O T H = record { by = x.by; task = x.task; link_state = st } in
      let at_number = f.begun.number in
      let here : n ≡ length m.before = omega (arith, number, at_number) in
      let now : b.all ≡ m.before ++ y ∷ m.after = all ∙ ((λ i. set (m.whole i) (here i) y) ∙ set_amid m.before x y m.after) in
      let later = subst (λ (l : List (StartedLink I O T H)). EachAt (IsBegun Talked Made shown lock kinds w) 1 l) m.whole (each_later Talked Made shown lock kinds v w (learns_grown v w grows) 1 a.all is.links) in
      let shorter : open_all (m.before ++ y ∷ m.after) + 1 ≡ open_all a.all = open_ended a.all place x y m none in
      let opens : open_all b.all ≡ open_all (m.before ++ y ∷ m.after) = ap (λ (l : List (StartedLink I O T H)). open_all l) now in
      let count : length b.all ≡ length a.all = ap length all ∙ length-set a.all n y in
      let longer : length (taken b.taker).reports ≡ length (taken a.taker).reports + 1 = ap length reports ∙ length-append (taken a.taker).reports (report ∷ []) in
      let room = is.room in
      let o = is.out in
      let here_begun : IsBegun Talked Made shown lock kinds w (length m.before + 1) y = record { number = at_number; task = f.begun.task; link_state = ended } in
      record {
        own = own;
        out = omega (arith, out, o, shorter, opens);
        made = made ∙ (is.made ∙ sym count);
        begun = begun ∙ (is.begun ∙ sym count);
        ticked = subst (λ (l : List Asked). IsTicking w l) (sym ticks) (ticking_grown lock a.root b.root (taken a.taker).ticks is.own own grows is.ticked);
        live_are = live ∙ (ap (λ (l : List (StartedLink I O T H)). remove l place) is.live_are ∙ (sym (live_ended a.all place x y m none) ∙ ap (λ (l : List (StartedLink I O T H)). live_of l) (sym now)));
        given = subst (λ (l : List (StartedLink I O T H)). IsPermutation (reports_of l) (taken b.taker).reports) (sym now)
            (given_ended a.all place x y m report (taken a.taker).reports (taken b.taker).reports one is.given reports);
        room = omega (arith, room, shorter, opens, longer, limit);
        expected = still_expected a.taker b.taker still is.expected;
        handed_on = λ host. handed_later lock v w (taken a.taker).events (taken b.taker).events a.handed b.handed (is.handed_on (sym same_keeps ∙ host)) grows.seen events same_handed;
        links = subst (λ (l : List (StartedLink I O T H)). EachAt (IsBegun Talked Made shown lock kinds w) 1 l) (sym now)
            (each_instead (IsBegun Talked Made shown lock kinds w) 1 m.before x y m.after later here_begun);
      }

  -- The tasks are the same.
  pub settled_tasks : {B : Type 0} (shows : StartedLink I O T H → B) (a : Acceptor I O T H C) (place n : ℕ) (x : StartedLink I O T H) (st : LinkState I O T H) (after : List (StartedLink I O T H))
      (f : Found Talked Made shown lock kinds (view_of a.root.pass) a.all place x) → n + 1 ≡ x.by → after ≡ set a.all n (record { by = x.by; task = x.task; link_state = st })
      → shows (record { by = x.by; task = x.task; link_state = st }) ≡ shows x → map shows after ≡ map shows a.all
  settled_tasks shows a place n x st after f number all same =
      let m = f.amid_is in
      let y : StartedLink I O T H = record { by = x.by; task = x.task; link_state = st } in
      let at_number = f.begun.number in
      let here : n ≡ length m.before = omega (arith, number, at_number) in
      let now : after ≡ m.before ++ y ∷ m.after = all ∙ ((λ i. set (m.whole i) (here i) y) ∙ set_amid m.before x y m.after) in
      ap (map shows) now ∙ (map_instead shows m.before x y m.after same ∙ ap (map shows) (sym m.whole))

-- An acceptor that is the same but for more room follows.
pub follows_same : {I O T H C : Type 0} (taken : C → Taken (LinkReport I O T H)) (expects : C → LinkReport I O T H → Type 0) (a b : Acceptor I O T H C) → IsSame taken expects a b → Follows a b
follows_same taken expects a b same = (λ front begins. subst (λ (r : Root). StartsWith (view_of r.pass).seen front) (sym same.root) begins, same.same_keeps)

-- One acceptor follows another that follows a first one.
pub follows_on : {I O T H C : Type 0} (a b c : Acceptor I O T H C) → Follows a b → Follows b c → Follows a c
follows_on a b c first then = (λ front begins. then.0 front (first.0 front begins), then.1 ∙ first.1)
