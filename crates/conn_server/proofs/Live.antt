-- Which of the links have ended, and which haven't.
use Rattle.std.proofs.Common.{◌≡◌, ℕ, zero, suc, ◌+◌, ◌-◌, ◌<◌, get_or, List, [], ◌∷◌, ◌++◌, length, sym, refl, ap, ◌∙◌, subst, append_assoc, append-nil, length-append, arith}
use Rattle.std.specs.List.{remove}
use Rattle.std.specs.List.Sorted.{IsPermutation}
use Rattle.std.proofs.lemmas.List.Edits.{remove-append_right}
use Rattle.std.proofs.lemmas.List.Sums.{sum_by-cons}
use Rattle.std.proofs.lemmas.List.Sorted.{IsPermutation-cons, IsPermutation-middle, IsPermutation-sym, IsPermutation-to_front, IsPermutation-trans}
use Rattle.conn_server.specs.Accepts.{live_of, open_all, reports_of}
use Rattle.conn_server.specs.Rows.{EachAt, Paired}
use Rattle.conn_server.specs.Starts.{live_in, open_in, report_in}
use Rattle.conn_server.specs.declared.link_task.LinkReport.{LinkReport}
use Rattle.conn_server.specs.declared.link_thread.StartedLink.{StartedLink}
use Rattle.conn_server.specs.declared.link_thread.LinkState.{LinkState}
use Rattle.conn_server.specs.declared.link_thread.LinkState.TheVariants.{Running, ServedHere, Ended}

module _ {I O T H : Type 0} where
  live_when : (s : StartedLink I O T H) (st : LinkState I O T H) → open_in st ≡ 1 → live_in s st ≡ s ∷ []
  live_when s (Running child) e = refl
  live_when s (ServedHere done) e = refl
  live_when s (Ended report) e = absurd (omega (arith, e))

  none_when : (s : StartedLink I O T H) (st : LinkState I O T H) → open_in st ≡ 0 → live_in s st ≡ []
  none_when s (Running child) e = absurd (omega (arith, e))
  none_when s (ServedHere done) e = absurd (omega (arith, e))
  none_when s (Ended report) e = refl

  unreported : (st : LinkState I O T H) → open_in st ≡ 1 → report_in st ≡ []
  unreported (Running child) e = refl
  unreported (ServedHere done) e = refl
  unreported (Ended report) e = absurd (omega (arith, e))

  count_when : (s : StartedLink I O T H) (st : LinkState I O T H) → length (live_in s st) ≡ open_in st
  count_when s (Running child) = refl
  count_when s (ServedHere done) = refl
  count_when s (Ended report) = refl

  live_on : (xs ys : List (StartedLink I O T H)) → live_of (xs ++ ys) ≡ live_of xs ++ live_of ys
  live_on [] ys = refl
  live_on (s ∷ xs) ys = ap (λ l. live_in s s.link_state ++ l) (live_on xs ys) ∙ sym (append_assoc (live_in s s.link_state) (live_of xs) (live_of ys))

  reports_on : (xs ys : List (StartedLink I O T H)) → reports_of (xs ++ ys) ≡ reports_of xs ++ reports_of ys
  reports_on [] ys = refl
  reports_on (s ∷ xs) ys = ap (λ l. report_in s.link_state ++ l) (reports_on xs ys) ∙ sym (append_assoc (report_in s.link_state) (reports_of xs) (reports_of ys))

  -- As many haven't ended as the root has passes to take back.
  pub live_length : (all : List (StartedLink I O T H)) → length (live_of all) ≡ open_all all
  live_length [] = refl
  live_length (s ∷ all) =
      let l = length-append (live_in s s.link_state) (live_of all) in
      let here = count_when s s.link_state in
      let rest = live_length all in
      let total : open_all (s ∷ all) ≡ open_in s.link_state + open_all all = sum_by-cons (λ (x : StartedLink I O T H). open_in x.link_state) s all in
      omega (arith, l, here, rest, total)

  -- One more was begun.
  pub live_begun : (all : List (StartedLink I O T H)) (x : StartedLink I O T H) → open_in x.link_state ≡ 1 → live_of (all ++ x ∷ []) ≡ live_of all ++ x ∷ []
  live_begun all x one = live_on all (x ∷ []) ∙ ap (λ l. live_of all ++ l) (append-nil (live_in x x.link_state) ∙ live_when x x.link_state one)

  pub reports_begun : (all : List (StartedLink I O T H)) (x : StartedLink I O T H) → open_in x.link_state ≡ 1 → reports_of (all ++ x ∷ []) ≡ reports_of all
  reports_begun all x one = reports_on all (x ∷ []) ∙ (ap (λ l. reports_of all ++ l) (append-nil (report_in x.link_state) ∙ unreported x.link_state one) ∙ append-nil (reports_of all))

  -- A link that hasn't ended stands amid the others: so many of those before it haven't ended.
  pub record Amid (all : List (StartedLink I O T H)) (place : ℕ) (x : StartedLink I O T H) : Type 0 where
    pub before : List (StartedLink I O T H)
    pub after : List (StartedLink I O T H)
    pub whole : all ≡ before ++ x ∷ after
    pub count : length (live_of before) ≡ place
    pub open_is : open_in x.link_state ≡ 1

  amid_first : (s : StartedLink I O T H) (all : List (StartedLink I O T H)) → open_in s.link_state ≡ 1 → Amid (s ∷ all) 0 s
  amid_first s all one = record { before = []; after = all; whole = refl; count = refl; open_is = one }

  amid_more : (s : StartedLink I O T H) (all : List (StartedLink I O T H)) (k n : ℕ) (x : StartedLink I O T H) → Amid all k x → open_in s.link_state + k ≡ n → Amid (s ∷ all) n x
  amid_more s all k n x a is =
      let l = length-append (live_in s s.link_state) (live_of a.before) in
      let here = count_when s s.link_state in
      let count = a.count in
      record { before = s ∷ a.before; after = a.after; whole = ap (λ l. s ∷ l) a.whole; count = omega (arith, l, here, count, is); open_is = a.open_is }

  amid_state : (s : StartedLink I O T H) (all : List (StartedLink I O T H)) (d : StartedLink I O T H) (st : LinkState I O T H) → st ≡ s.link_state
      → ((k : ℕ) → k < length (live_of all) → Amid all k (get_or (live_of all) k d))
      → (place : ℕ) → place < length (live_in s st ++ live_of all) → Amid (s ∷ all) place (get_or (live_in s st ++ live_of all) place d)
  amid_state s all d (Running child) is rest zero lt = amid_first s all (sym (ap open_in is))
  amid_state s all d (Running child) is rest (suc k) lt = let one = sym (ap open_in is) in amid_more s all k (suc k) _ (rest k (omega (arith, lt))) (omega (arith, one))
  amid_state s all d (ServedHere done) is rest zero lt = amid_first s all (sym (ap open_in is))
  amid_state s all d (ServedHere done) is rest (suc k) lt = let one = sym (ap open_in is) in amid_more s all k (suc k) _ (rest k (omega (arith, lt))) (omega (arith, one))
  amid_state s all d (Ended report) is rest place lt = let none = sym (ap open_in is) in amid_more s all place place _ (rest place lt) (omega (arith, none))

  pub amid : (all : List (StartedLink I O T H)) (d : StartedLink I O T H) (place : ℕ) → place < length (live_of all) → Amid all place (get_or (live_of all) place d)
  amid [] d place lt = absurd (omega (arith, lt))
  amid (s ∷ all) d place lt = amid_state s all d s.link_state refl (amid all d) place lt

  live_amid : (before : List (StartedLink I O T H)) (x : StartedLink I O T H) (after : List (StartedLink I O T H)) → open_in x.link_state ≡ 1 → live_of (before ++ x ∷ after) ≡ live_of before ++ x ∷ live_of after
  live_amid before x after one = live_on before (x ∷ after) ∙ ap (λ l. live_of before ++ (l ++ live_of after)) (live_when x x.link_state one)

  removed_amid : (before : List (StartedLink I O T H)) (x : StartedLink I O T H) (after : List (StartedLink I O T H)) (place : ℕ) → length before ≡ place → remove (before ++ x ∷ after) place ≡ before ++ after
  removed_amid before x after place is =
      let none : place - place ≡ 0 = omega arith in
      remove-append_right before (x ∷ after) place place is (omega arith) ∙ ap (λ (k : ℕ). before ++ remove (x ∷ after) k) none

  -- It ended.
  pub live_ended : (all : List (StartedLink I O T H)) (place : ℕ) (x y : StartedLink I O T H) (a : Amid all place x) → open_in y.link_state ≡ 0 → live_of (a.before ++ y ∷ a.after) ≡ remove (live_of all) place
  live_ended all place x y a none =
      let now = live_on a.before (y ∷ a.after) ∙ ap (λ l. live_of a.before ++ (l ++ live_of a.after)) (none_when y y.link_state none) in
      let was = ap live_of a.whole ∙ live_amid a.before x a.after a.open_is in
      now ∙ (sym (removed_amid (live_of a.before) x (live_of a.after) place a.count) ∙ ap (λ l. remove l place) (sym was))

  pub open_ended : (all : List (StartedLink I O T H)) (place : ℕ) (x y : StartedLink I O T H) (a : Amid all place x) → open_in y.link_state ≡ 0 → open_all (a.before ++ y ∷ a.after) + 1 ≡ open_all all
  open_ended all place x y a none =
      let after = live_ended all place x y a none in
      let l = live_length (a.before ++ y ∷ a.after) in
      let l2 = live_length all in
      let was : live_of all ≡ live_of a.before ++ x ∷ live_of a.after = ap live_of a.whole ∙ live_amid a.before x a.after a.open_is in
      let now : live_of (a.before ++ y ∷ a.after) ≡ live_of a.before ++ live_of a.after = live_on a.before (y ∷ a.after) ∙ ap (λ l. live_of a.before ++ (l ++ live_of a.after)) (none_when y y.link_state none) in
      let m : length (live_of all) ≡ length (live_of a.before) + length (x ∷ live_of a.after) = ap length was ∙ length-append (live_of a.before) (x ∷ live_of a.after) in
      let n : length (live_of (a.before ++ y ∷ a.after)) ≡ length (live_of a.before) + length (live_of a.after) = ap length now ∙ length-append (live_of a.before) (live_of a.after) in
      omega (arith, l, l2, m, n)

  -- Its report was handed on.
  pub given_ended : (all : List (StartedLink I O T H)) (place : ℕ) (x y : StartedLink I O T H) (a : Amid all place x) (report : LinkReport I O T H) (given given_after : List (LinkReport I O T H))
      → report_in y.link_state ≡ report ∷ [] → IsPermutation (reports_of all) given → given_after ≡ given ++ report ∷ [] → IsPermutation (reports_of (a.before ++ y ∷ a.after)) given_after
  given_ended all place x y a report given given_after one same longer =
      let p = reports_of a.before in
      let q = reports_of a.after in
      let was : reports_of all ≡ p ++ q = ap reports_of a.whole ∙ (reports_on a.before (x ∷ a.after) ∙ ap (λ l. p ++ (l ++ q)) (unreported x.link_state a.open_is)) in
      let now : reports_of (a.before ++ y ∷ a.after) ≡ p ++ report ∷ q = reports_on a.before (y ∷ a.after) ∙ ap (λ l. p ++ (l ++ q)) one in
      let front : IsPermutation (p ++ report ∷ q) (report ∷ given) = IsPermutation-trans _ _ _ (IsPermutation-middle p report q) (IsPermutation-cons report (p ++ q) given (subst (λ l. IsPermutation l given) was same)) in
      let back : IsPermutation (report ∷ given) (given ++ report ∷ []) = IsPermutation-sym _ _ (IsPermutation-to_front given report) in
      subst (λ (l : List (LinkReport I O T H)). IsPermutation l given_after) (sym now) (subst (λ (l : List (LinkReport I O T H)). IsPermutation (p ++ report ∷ q) l) (sym longer) (IsPermutation-trans _ _ _ front back))

  module _ (P : ℕ → StartedLink I O T H → Type 0) (Q : ℕ → StartedLink I O T H → LinkReport I O T H → Type 0)
      (has : (k : ℕ) (s : StartedLink I O T H) (report : _) → P k s → s.link_state ≡ Ended report → Q k s report.value) where
    ended_state : (n : ℕ) (s : StartedLink I O T H) (all : List (StartedLink I O T H)) (st : LinkState I O T H) → s.link_state ≡ st → live_in s st ++ live_of all ≡ [] → P n s
        → (live_of all ≡ [] → Paired Q (suc n) all (reports_of all)) → Paired Q n (s ∷ all) (report_in st ++ reports_of all)
    ended_state n s all (Running child) is none p rest = let l : 0 ≡ length (s ∷ live_of all) = ap length (sym none) in absurd (omega (arith, l))
    ended_state n s all (ServedHere done) is none p rest = let l : 0 ≡ length (s ∷ live_of all) = ap length (sym none) in absurd (omega (arith, l))
    ended_state n s all (Ended report) is none p rest = (has n s report p is, rest none)

    -- Where all have ended, each has its report.
    pub all_ended : (n : ℕ) (all : List (StartedLink I O T H)) → live_of all ≡ [] → EachAt P n all → Paired Q n all (reports_of all)
    all_ended n [] none each = tt
    all_ended n (s ∷ all) none each = ended_state n s all s.link_state refl none each.0 (λ rest. all_ended (suc n) all rest each.1)
