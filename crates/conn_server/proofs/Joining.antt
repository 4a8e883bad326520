-- What is kept as the threads are joined.
use Rattle.std.proofs.Common.{◌≡◌, ℕ, ◌+◌, ◌<◌, get_or, List, [], length, sym, ap, ◌∙◌, subst}
use Rattle.turn_lock.specs.declared.handles.TurnLock.{TurnLock}
use Rattle.turn_lock.specs.declared.view.View.{View}
use Rattle.call_dispatch.specs.Acts.{WorkerState}
use Rattle.system_objects.specs.declared.book.Kind.{Kind}
use Rattle.conn_server.specs.Accepts.{IsBegun, live_of, reports_of}
use Rattle.conn_server.specs.Joins.{IsJoined}
use Rattle.conn_server.specs.Rows.{EachAt, Paired}
use Rattle.conn_server.specs.Starts.{IsUnder, task_of}
use Rattle.conn_server.specs.declared.link_task.AdmittedLink.{AdmittedLink}
use Rattle.conn_server.specs.declared.link_task.LinkReport.{LinkReport}
use Rattle.conn_server.specs.declared.link_thread.StartedLink.{StartedLink}
use Rattle.conn_server.specs.declared.link_thread.LinkState.{LinkState}
use Rattle.conn_server.proofs.Ending.{Learns, under_later}
use Rattle.conn_server.proofs.Live.{Amid, all_ended, amid}
use Rattle.conn_server.proofs.Rows.{each_amid, each_map}

module _ {I O T H : Type 0} (Talked : AdmittedLink I O T H → LinkReport I O T H → Type 0) (Made : ℕ → AdmittedLink I O T H → Type 0) (shown : H → WorkerState) (lock : TurnLock) (kinds : List Kind) where
  begun_later : (v w : View) → Learns v w → (k : ℕ) (s : StartedLink I O T H) → IsBegun Talked Made shown lock kinds v k s → IsBegun Talked Made shown lock kinds w k s
  begun_later v w learns k s b = record { number = b.number; task = b.task; link_state = under_later Talked lock kinds v w (task_of s) s.link_state learns b.link_state }

  pub each_later : (v w : View) → Learns v w → (n : ℕ) (all : List (StartedLink I O T H)) → EachAt (IsBegun Talked Made shown lock kinds v) n all → EachAt (IsBegun Talked Made shown lock kinds w) n all
  each_later v w learns n all each = each_map (IsBegun Talked Made shown lock kinds v) (IsBegun Talked Made shown lock kinds w) (begun_later v w learns) n all each

  -- A link that hasn't ended, among those that were begun.
  pub record Found (v : View) (all : List (StartedLink I O T H)) (place : ℕ) (x : StartedLink I O T H) : Type 0 where
    pub amid_is : Amid all place x
    pub begun : IsBegun Talked Made shown lock kinds v (length amid_is.before + 1) x

  found_amid : (v : View) (all : List (StartedLink I O T H)) (place : ℕ) (x : StartedLink I O T H) → EachAt (IsBegun Talked Made shown lock kinds v) 1 all → Amid all place x → Found v all place x
  found_amid v all place x each a = record {
    amid_is = a;
    begun = each_amid (IsBegun Talked Made shown lock kinds v) 1 a.before x a.after (subst (λ (l : List (StartedLink I O T H)). EachAt (IsBegun Talked Made shown lock kinds v) 1 l) a.whole each);
  }

  pub found : (v : View) (all live : List (StartedLink I O T H)) (place : ℕ) (x : StartedLink I O T H) → EachAt (IsBegun Talked Made shown lock kinds v) 1 all → live ≡ live_of all → place < length live → x ≡ get_or live place x
      → Found v all place x
  found v all live place x each is there taken =
      let there2 : place < length (live_of all) = subst (λ (l : List (StartedLink I O T H)). place < length l) is there in
      let same : get_or (live_of all) place x ≡ x = sym (taken ∙ ap (λ (l : List (StartedLink I O T H)). get_or l place x) is) in
      found_amid v all place x each (subst (λ (y : StartedLink I O T H). Amid all place y) same (amid all x place there2))

  -- Where all links have ended, each came to its report.
  pub all_joined : (v : View) (all : List (StartedLink I O T H)) → live_of all ≡ [] → EachAt (IsBegun Talked Made shown lock kinds v) 1 all → Paired (IsJoined Talked Made shown lock v) 1 all (reports_of all)
  all_joined v all none each =
      all_ended (IsBegun Talked Made shown lock kinds v) (IsJoined Talked Made shown lock v)
      (λ k s report b is. record { task = b.task; ended = subst (λ (st : LinkState I O T H). IsUnder Talked lock kinds v (task_of s) st) is b.link_state })
      1 all none each
