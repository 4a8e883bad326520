-- What closing the lock shows.
use Rattle.wire_io.specs.Wire.{ReadHalf, WriteHalf}
use Rattle.std.proofs.Common.{◌≡◌, ℕ, suc, ◌<◌, ◌≤◌, List, [], ◌∷◌, ◌++◌, length, drop, ap, ◌∙◌, sym, subst, arith, Option}
use Rattle.std.specs.Prelude.{Contains, vec_len}
use Rattle.std.proofs.Math.Seq.{drop-append_seam}
use Rattle.wire_io.specs.Links.{Accepted}
use Rattle.history.specs.declared.asks.SpaceConfig.{SpaceConfig}
use Rattle.ports.specs.Balance.{WentAmong}
use Rattle.space.specs.Built.{SpaceHistory}
use Rattle.space.specs.declared.asked.Asked.{Asked}
use Rattle.turn_lock.specs.Answers.{events_of}
use Rattle.turn_lock.specs.Handles.{opening_of, view_of}
use Rattle.turn_lock.specs.Rule.{Events, Settled, events_by}
use Rattle.turn_lock.specs.declared.handles.Root.{Root}
use Rattle.turn_lock.specs.declared.handles.TurnLock.{TurnLock}
use Rattle.turn_lock.specs.declared.view.View.{View}
use Rattle.call_dispatch.specs.Acts.{WorkerState}
use Rattle.system_objects.specs.declared.book.Kind.{Kind}
use Rattle.conn_server.specs.Accepts.{IsAccepting, live_of, reports_of, shown_all}
use Rattle.conn_server.specs.Taken.{Taken}
use Rattle.conn_server.specs.Joins.{IsJoined}
use Rattle.conn_server.specs.Made.{shown_admitted}
use Rattle.conn_server.specs.Reports.{AreTurnsOf, IsKnown, IsAllJoined, IsReportOf, ServesLinks, events_after, report_with}
use Rattle.conn_server.specs.Rows.{EachAt, Paired}
use Rattle.conn_server.specs.Starts.{task_of}
use Rattle.conn_server.specs.declared.link_task.AdmittedLink.{AdmittedLink}
use Rattle.conn_server.specs.declared.link_task.LinkReport.{LinkReport}
use Rattle.conn_server.specs.declared.admission.Acceptor.{Acceptor}
use Rattle.conn_server.specs.declared.admission.LostLink.{LostLink}
use Rattle.conn_server.specs.declared.server.Served.{Served}
use Rattle.conn_server.specs.declared.link_thread.StartedLink.{StartedLink}
use Rattle.conn_server.proofs.Ending.{ticked_first}
use Rattle.conn_server.proofs.Joining.{all_joined}
use Rattle.conn_server.proofs.Live.{live_length}
use Rattle.conn_server.proofs.Histories.{starts_on, others_by, taken_from, went_before, turns_closed}
use Rattle.conn_server.proofs.Rows.{none_left, paired_length, paired_map, paired_second}

module _ {I O T H : Type 0} (IsLink : ℕ → Accepted × Asked → LinkReport I O T H → Type 0) (lock : TurnLock) where
  module _ (read_half : I → ReadHalf) (write_half : O → WriteHalf) (given : T → Option (List ℕ)) (Talked : AdmittedLink I O T H → LinkReport I O T H → Type 0) (Made : ℕ → AdmittedLink I O T H → Type 0) (shown : H → WorkerState)
      (link : (k : ℕ) (g : AdmittedLink I O T H) (r : LinkReport I O T H) → Made k g → Talked g r → r.by ≡ k → IsLink k (shown_admitted read_half write_half given g) r) where
    -- What the pass of a link that was begun had seen was the opening, and other connections' events, the turn before the link among them.
    joined_known : (v : View) (k : ℕ) (s : StartedLink I O T H) (r : LinkReport I O T H) → IsJoined Talked Made shown lock v k s r
        → IsKnown IsLink (opening_of lock) v k (shown_admitted read_half write_half given (task_of s).admitted) r
    joined_known v k s r j =
        let p = view_of (task_of s).pass in
        let pass = j.task.can.own.0 in
        let order = pass.ordered in
        let number = j.task.number in
        let none : events_by k order.tail ≡ [] = subst (λ (n : ℕ). events_by n order.tail ≡ []) number (order.own ∙ j.task.own) in
        let there = subst (λ (x : SpaceConfig × ℕ × Events). WentAmong x.0 x.1 x.2 r.asked j.ended.last) (λ i. (pass.configured i, number i, order.begins i)) j.ended.went in
        let least : length p.seen ≤ length p.seen = omega arith in
        record {
          link = link k (task_of s).admitted r j.task.made j.ended.talked (j.ended.by ∙ j.task.by);
          later = (length p.seen, j.task.after_tick, taken_from p.config p.number (length p.seen) p.seen j.ended.last r.asked least j.ended.went);
          listed = subst (λ (x : ℕ × Events). Contains v.ended (x.0, x.1 ++ events_of x.0 r.asked)) (λ i. (number i, j.task.own i)) j.ended.listed;
          last = j.ended.last;
          went = went_before (opening_of lock).configuration k (opening_of lock).events order.tail j.ended.last r.asked (others_by k order.tail none) there;
          seen = j.ended.seen;
        }

    pub paired_known : (v : View) (n : ℕ) (all : List (StartedLink I O T H)) (reports : List (LinkReport I O T H)) → Paired (IsJoined Talked Made shown lock v) n all reports
        → Paired (IsKnown IsLink (opening_of lock) v) n (shown_all read_half write_half given all) reports
    paired_known v n [] [] p = tt
    paired_known v n (s ∷ all) (r ∷ reports) p = (joined_known v n s r p.0, paired_known v (suc n) all reports p.1)
    paired_known v n [] (r ∷ reports) p = absurd p
    paired_known v n (s ∷ all) [] p = absurd p

    -- Where no link is live any more.
    module _ {C : Type 0} (taken : C → Taken (LinkReport I O T H)) (expects : C → LinkReport I O T H → Type 0) (kinds : List Kind) (a : Acceptor I O T H C)
        (is : IsAccepting Talked Made shown taken expects lock kinds a) (left : vec_len a.live ≡ 0) where
      none_live : live_of a.all ≡ []
      none_live = sym is.live_are ∙ none_left _ a.live.items a.live.ok.0 left

      joined : Paired (IsJoined Talked Made shown lock (view_of a.root.pass)) 1 a.all (reports_of a.all)
      joined = all_joined Talked Made shown lock kinds (view_of a.root.pass) a.all none_live is.links

      -- Each link that was begun has its report.
      pub count_closed : a.begun ≡ length (reports_of a.all)
      count_closed = is.begun ∙ paired_length (IsJoined Talked Made shown lock (view_of a.root.pass)) 1 a.all (reports_of a.all) joined

      pub all_closed : IsAllJoined IsLink lock (shown_all read_half write_half given a.all) a.root (reports_of a.all) (taken a.taker).ticks
      all_closed =
          let out = is.out in
          let opens = live_length a.all in
          let open_none : length (live_of a.all) ≡ 0 = ap length none_live in
          record {
            own = is.own;
            out = omega (arith, out, opens, open_none);
            made = is.made ∙ paired_length (IsJoined Talked Made shown lock (view_of a.root.pass)) 1 a.all (reports_of a.all) joined;
            ticked = ticked_first (view_of a.root.pass) (taken a.taker).ticks is.ticked;
            known = paired_known (view_of a.root.pass) 1 a.all (reports_of a.all) joined;
          }

  module _ (served : List (Accepted × Asked)) (root : Root) (links : List (LinkReport I O T H)) (ticks : List Asked) (is : IsAllJoined IsLink lock served root links ticks) (h : SpaceHistory) (done : Settled (opening_of lock) (view_of root.pass) h) where
    known_reported : (k : ℕ) (p : Accepted × Asked) (r : LinkReport I O T H) → IsKnown IsLink (opening_of lock) (view_of root.pass) k p r → IsReportOf IsLink (opening_of lock) h k p r
    known_reported k p r known = record {
      link = known.link;
      later = known.later;
      turns = turns_closed (opening_of lock) h k r.asked known.last done.tail known.went (starts_on h.events (view_of root.pass).seen known.last done.seen known.seen) done.begins (done.joined (k, events_of k r.asked) known.listed);
    }

    pub links_reported : Paired (IsReportOf IsLink (opening_of lock) h) 1 served links
    links_reported = paired_map (IsKnown IsLink (opening_of lock) (view_of root.pass)) (IsReportOf IsLink (opening_of lock) h) known_reported 1 served links is.known

    pub ticks_reported : AreTurnsOf (opening_of lock) 0 ticks h
    ticks_reported =
        let v = view_of root.pass in
        let pass = is.own.pass_is in
        let there = subst (λ (x : SpaceConfig × Events). WentAmong x.0 0 x.1 ticks is.ticked.last) (λ i. (pass.configured i, pass.opened i)) is.ticked.went in
        turns_closed (opening_of lock) h 0 ticks is.ticked.last done.tail there (starts_on h.events v.seen is.ticked.last done.seen is.ticked.seen) done.begins (done.roots ∙ is.ticked.own)

    pub no_others : (n : ℕ) → length links < n → events_after (opening_of lock) n h ≡ []
    no_others n above =
        let made = is.own.made_are in let count = is.made in
        ap (λ l. events_by n (drop (length (opening_of lock).events) l)) done.begins ∙ (ap (events_by n) (drop-append_seam (opening_of lock).events done.tail) ∙ done.no_others n (omega (arith, made, count, above)))

-- The reports are numbered from the first one's place on.
pub reports_numbered : {I O T H : Type 0} (IsLink : ℕ → Accepted × Asked → LinkReport I O T H → Type 0) → ((k : ℕ) (p : Accepted × Asked) (r : LinkReport I O T H) → IsLink k p r → r.by ≡ k) → (s h : SpaceHistory) (n : ℕ) (served : List (Accepted × Asked)) (links : List (LinkReport I O T H))
    → Paired (IsReportOf IsLink s h) n served links → EachAt (λ k r. r.by ≡ k) n links
reports_numbered {I = I} {O = O} {T = T} {H = H} IsLink by s h n served links each = paired_second (IsReportOf IsLink s h) (λ k r. r.by ≡ k) (λ k p r is. by k p r is.link) n served links each

-- The same reports and entries, by other names.
pub serves_as : {I O T H C : Type 0} (IsLink : ℕ → Accepted × Asked → LinkReport I O T H → Type 0) (IsLost : Accepted → LostLink I O T → Type 0) (opening : SpaceHistory) (count : ℕ) (accepted accepted_after : Option (List Accepted))
    (links links_too : List (LinkReport I O T H)) (ticks ticks_too : List Asked) (s : Served I O T C) → links_too ≡ links → ticks_too ≡ ticks → ServesLinks IsLink IsLost opening count accepted accepted_after (report_with links ticks s)
    → ServesLinks IsLink IsLost opening count accepted accepted_after (report_with links_too ticks_too s)
serves_as {I = I} {O = O} {T = T} {H = H} IsLink IsLost opening count accepted accepted_after links links_too ticks ticks_too s same same_ticks serves =
    subst (λ (x : List (LinkReport I O T H) × List Asked). ServesLinks IsLink IsLost opening count accepted accepted_after (report_with x.0 x.1 s)) (λ i. (sym same i, sym same_ticks i)) serves
