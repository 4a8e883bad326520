-- THE WORLD: a usable reference, whose dirty call met its object in the table, has its object in the table.
use Rattle.std.proofs.Common.{◌≡◌, ℕ, ◌+◌, ◌*◌, ◌<◌, ◌≤◌, List, [], ◌∷◌, ◌++◌, length, refl, ap, sym, ◌∙◌, arith, subst, inl, inr, length-append}
use Rattle.std.specs.Prelude.{ℤ, pos, Bool, true, false, ◌&&◌, find, ◌≤ℤ◌, Option, Some, None, max, ◌==◌, if◌then◌else◌, nat_lt, int_le}
use Rattle.std.specs.List.{list_any, AllByRecursion}
use Rattle.std.specs.Ordering.{int_eq}
use Rattle.std.proofs.lemmas.Int.{ints}
use Rattle.std.proofs.lemmas.Bool.{ltb-true, or_cases, or_left, or_right, and_parts, and_from}
use Rattle.std.proofs.lemmas.Bool.Decides.{Decides-int_eq, Decides-eqb}
use Rattle.std.proofs.lemmas.List.Folds.{list_any-append}
use Rattle.object_ids.specs.Same.{same_id, same_client}
use Rattle.object_ids.specs.declared.ids.ObjId.{ObjId}
use Rattle.object_ids.proofs.Exact.{same_id-equal, same_client-self}
use Rattle.history.specs.LeaseCalls.{call_with}
use Rattle.history.specs.Leases.{grant, holds, calls_of}
use Rattle.history.specs.Places.{History, has, now, exported_count}
use Rattle.history.specs.Replies.{reply}
use Rattle.history.specs.Table.{is_kept, is_kept_locally, is_effective, exports, table, place_of, places, places_back}
use Rattle.history.specs.declared.asks.Ask.{Ask}
use Rattle.history.specs.declared.asks.Ask.TheVariants as asks
use Rattle.history.specs.declared.asks.SpaceConfig.{SpaceConfig}
use Rattle.history.specs.declared.calls.Call.{Call}
use Rattle.history.specs.declared.places.Exported.{Exported}
use Rattle.history.proofs.CollectorLaws.{kept-needed}
use Rattle.history.proofs.ListLemmas.{every-append, every-weaker, list_any-filter}
use Rattle.history.proofs.TableLaws.{places-push, now-push, table-place}
use Rattle.dgc_client.specs.Log.{ClientCall, Registers, Drops, Dues, Answers, Fails, Good, Note, Ref, refs, until, names, once_then, asks_in, notes, note_of, plan_of, is_sure, sure_if, is_usable}
use Rattle.dgc_client.specs.declared.plan.Plan.{Plan}
use Rattle.dgc_client.specs.declared.plan.Plan.TheVariants as plans
use Rattle.dgc_client.proofs.Logs.{found, same-number}
use Rattle.lease_world.specs.World.{World, Delivery, Course, Deed, Taken, CutMake, IsPromised, client, object, maker, uid, nth, log_of, history, event_now, turned, called, with_sent, asked_by, ask_as, ask_of, granted_in, delivered, last_delivery, answer_to, answered, call_number, begin, finish, begun, if_some, if_client, after_step, after, fresh, world, world_after, is_good_of, confirms_by, sure_by, made_sure, was_met, is_usable_now, WorldKeepsPromise}
use Rattle.lease_world.specs.declared.sent_call.SentCall.{SentCall}
use Rattle.lease_world.specs.declared.step.Step.{Step}
use Rattle.lease_world.specs.declared.step.Step.TheVariants as steps
use Rattle.lease_world.proofs.Lists.{any-weaker, nth-every, nth-append}
use Rattle.lease_world.proofs.TableCalls.{table_calls, table_calls-push, held-stays, is_dirty_of, meets, met-calls}
use Rattle.lease_world.proofs.Kept.{Agrees, Stays, Grants, AsksAs, SameAsked, Exports, dirties}
use Rattle.lease_world.proofs.ClientStep.{client-does, Allowed}
use Rattle.lease_world.proofs.Turns.{clock-step, other-client, quiet-turn, lease-turn}
use Rattle.lease_world.proofs.Arrivals.{made_call, call-made, moment-made, arrives}

-- ---- what each step keeps

abbrev pub is_dirty_plan : Plan → Bool
is_dirty_plan (plans.Dirty number ids) = true
is_dirty_plan (plans.Clean number ids strong) = false

-- A delivery of the sent call.
abbrev pub delivers : SentCall → Call → Bool
delivers m x = is_dirty_of (client m.client) x && int_eq x.number (call_number m)

-- What was delivered is a sent call. A dirty call was granted what it asked for, and is among the history's calls.
pub record IsDelivered (lease : ℕ) (ms : List SentCall) (calls : List Call) (d : Delivery) : Type 0 where
  pub m : SentCall
  pub at : nth ms d.call ≡ Some m
  pub granted : is_dirty_plan m.plan ≡ true → d.granted ≡ grant lease m.asked
  pub among : is_dirty_plan m.plan ≡ true → list_any (delivers m) calls ≡ true

-- The object that makes the others is in the table.
abbrev pub pinned_maker : Exported → Bool
pinned_maker x = x.pinned && same_id x.id maker

-- The call was sent by a client of the world.
abbrev pub IsSender : ℕ → SentCall → Type 0
IsSender clients m = m.client < clients

abbrev pub AgreesIn : World → ℕ → History → ℕ → Type 0
AgreesIn w t h c = Agrees w.config.lease_ms t (now h) (log_of w c) (table_calls h) (table w.config h) w.sent c

pub record Kept (w : World) : Type 0 where
  pub seen : now (history w) ≤ w.moment
  pub each : (c : ℕ) → AgreesIn w w.moment (history w) c
  pub deliveries : AllByRecursion (IsDelivered w.config.lease_ms w.sent (table_calls (history w))) w.deliveries
  pub there : list_any pinned_maker (table w.config (history w)) ≡ true
  pub few : 2 * w.made < length w.events
  pub senders : AllByRecursion (IsSender w.clients) w.sent

-- ---- one turn

-- The history after a turn.
abbrev next_history : World → ℕ → Ask → History
next_history w by ask = place_of w.config (history w) (event_now w by ask) ∷ history w

turned-is : (w : World) (by : ℕ) (ask : Ask) → history (turned by ask w) ≡ next_history w by ask
turned-is w by ask = places-push w.config w.events (event_now w by ask)

max-first : (a b : ℕ) → b ≤ a → max a b ≡ a
max-first a b h = omega arith

seen-next : (w : World) (by : ℕ) (ask : Ask) → now (history w) ≤ w.moment → now (next_history w by ask) ≡ w.moment
seen-next w by ask s = now-push w.config (history w) (event_now w by ask) ∙ max-first w.moment (now (history w)) s

calls-next : (w : World) (by : ℕ) (ask : Ask) → table_calls (next_history w by ask) ≡ call_with (has (table w.config (history w))) (max w.moment (now (history w))) ask ++ table_calls (history w)
calls-next w by ask = table_calls-push w.config (history w) (event_now w by ask)

stays-next : (w : World) (by : ℕ) (ask : Ask) (calls : List Call) → table_calls (next_history w by ask) ≡ calls →
    Stays w.config.lease_ms (now (next_history w by ask)) calls (table w.config (history w)) (table w.config (next_history w by ask))
stays-next w by ask calls e o v a h =
    held-stays w.config w.events (event_now w by ask) o v a (subst (λ (l : List Call). holds w.config.lease_ms (now (next_history w by ask)) (calls_of v l) o ≡ true) (sym e) h)

maker-stays : (w : World) (by : ℕ) (ask : Ask) → list_any pinned_maker (table w.config (history w)) ≡ true → list_any pinned_maker (table w.config (next_history w by ask)) ≡ true
maker-stays w by ask h =
    ap (list_any pinned_maker) (table-place w.config (history w) (event_now w by ask))
    ∙ list_any-filter pinned_maker (is_kept w.config (next_history w by ask)) (table w.config (history w) ++ here)
    ∙ any-weaker pinned_maker (λ x. is_kept w.config (next_history w by ask) x && pinned_maker x)
    (λ x a. and_from (is_kept w.config (next_history w by ask) x) (pinned_maker x) (kept x (and_parts x.pinned (same_id x.id maker) a).0) a)
    (table w.config (history w) ++ here)
    (list_any-append pinned_maker (table w.config (history w)) here ∙ or_left (list_any pinned_maker (table w.config (history w))) (list_any pinned_maker here) h)
  where
    here : List Exported
    here = (place_of w.config (history w) (event_now w by ask)).exported_here

    kept : (x : Exported) → x.pinned ≡ true → is_kept w.config (next_history w by ask) x ≡ true
    kept x p = ap (λ h. is_kept w.config h x) (sym (turned-is w by ask)) ∙ (kept-needed w.config (w.events ++ event_now w by ask ∷ []) x).1 (inl p)

more-calls : (lease : ℕ) (ms : List SentCall) (xs calls : List Call) (ds : List Delivery) → AllByRecursion (IsDelivered lease ms calls) ds → AllByRecursion (IsDelivered lease ms (xs ++ calls)) ds
more-calls lease ms xs calls ds e = every-weaker (IsDelivered lease ms calls) (IsDelivered lease ms (xs ++ calls))
    (λ d f. record {
      m = f.m;
      at = f.at;
      granted = f.granted;
      among = λ i. list_any-append (delivers f.m) xs calls ∙ or_right (list_any (delivers f.m) xs) (list_any (delivers f.m) calls) (f.among i);
    }) ds e

more-sent : (lease : ℕ) (calls : List Call) (c : ℕ) (asked : ℤ) (p : Option Plan) (ms : List SentCall) (ds : List Delivery) → AllByRecursion (IsDelivered lease ms calls) ds → AllByRecursion (IsDelivered lease (with_sent c asked p ms) calls) ds
more-sent lease calls c asked None ms ds e = e
more-sent lease calls c asked (Some y) ms ds e = every-weaker (IsDelivered lease ms calls) (IsDelivered lease (with_sent c asked (Some y) ms) calls)
    (λ d f. record {
      m = f.m;
      at = nth-append ms (record { client = c; asked = asked; plan = y } ∷ []) d.call f.m f.at;
      granted = f.granted;
      among = f.among;
    }) ds e

few-more : (w : World) (by : ℕ) (ask : Ask) → length (turned by ask w).events ≡ length w.events + 1
few-more w by ask = length-append w.events (event_now w by ask ∷ [])

-- A turn that is no lease call.
quiet : (w : World) (by : ℕ) (ask : Ask) → ((test : ObjId → Bool) (m : ℕ) → call_with test m ask ≡ []) → Kept w → Kept (turned by ask w)
quiet w by ask none k =
    let same : table_calls (next_history w by ask) ≡ table_calls (history w) =
    calls-next w by ask ∙ ap (λ (l : List Call). l ++ table_calls (history w)) (none (has (table w.config (history w))) (max w.moment (now (history w)))) in
    let back = sym (turned-is w by ask) in
    let late = seen-next w by ask k.seen in
    record {
      seen = subst (λ (h : History). now h ≤ w.moment) back (omega arith);
      each = λ c. subst (λ (h : History). AgreesIn w w.moment h c) back
          (subst (λ (l : List Call). Agrees w.config.lease_ms w.moment (now (next_history w by ask)) (log_of w c) l (table w.config (next_history w by ask)) w.sent c) (sym same)
          (quiet-turn w.config.lease_ms w.moment (now (history w)) (now (next_history w by ask)) (log_of w c) (table_calls (history w)) (table w.config (history w)) (table w.config (next_history w by ask)) w.sent c
          (let s = k.seen in omega arith) (stays-next w by ask (table_calls (history w)) same) (k.each c)));
      deliveries = subst (λ (h : History). AllByRecursion (IsDelivered w.config.lease_ms w.sent (table_calls h)) w.deliveries) back
          (subst (λ (l : List Call). AllByRecursion (IsDelivered w.config.lease_ms w.sent l) w.deliveries) (sym same) k.deliveries);
      there = subst (λ (h : History). list_any pinned_maker (table w.config h) ≡ true) back (maker-stays w by ask k.there);
      few = let f = k.few in let g = few-more w by ask in omega arith;
      senders = k.senders;
    }

-- ---- a delivery

reply-dirty : (config : SpaceConfig) (h : History) (by t c : ℕ) (asked : ℤ) (p : Plan) → is_dirty_plan p ≡ true →
    granted_in (reply config h (record { by = by; moment = t; ask = ask_as c asked p })) ≡ grant config.lease_ms asked
unfolding reply
reply-dirty config h by t c asked (plans.Dirty number ids) d = refl
reply-dirty config h by t c asked (plans.Clean number ids strong) d = absurd (cc)

delivers-made : (test : ObjId → Bool) (t c : ℕ) (asked : ℤ) (p : Plan) → is_dirty_plan p ≡ true → delivers (record { client = c; asked = asked; plan = p }) (made_call test t c asked p) ≡ true
delivers-made test t c asked (plans.Dirty number ids) d =
    and_from (same_client (client c) (client c)) (int_eq number number) (same_client-self (client c)) ((Decides-int_eq number number).1 refl)
delivers-made test t c asked (plans.Clean number ids strong) d = absurd (cc)

deliver : (w : World) (n : ℕ) (m : SentCall) → nth w.sent n ≡ Some m → Kept w → Kept (delivered n m w)
deliver w n m at k =
    let by = m.client + 1 in
    let ask = ask_of m in
    let t = max w.moment (now (history w)) in
    let x = made_call (has (table w.config (history w))) t m.client m.asked m.plan in
    let same : table_calls (next_history w by ask) ≡ x ∷ table_calls (history w) =
    calls-next w by ask ∙ ap (λ (l : List Call). l ++ table_calls (history w)) (call-made (has (table w.config (history w))) t m.client m.asked m.plan) in
    let back = sym (turned-is w by ask) in
    let late = seen-next w by ask k.seen in
    record {
      seen = subst (λ (h : History). now h ≤ w.moment) back (omega arith);
      each = λ c. subst (λ (h : History). AgreesIn w w.moment h c) back
          (subst (λ (l : List Call). Agrees w.config.lease_ms w.moment (now (next_history w by ask)) (log_of w c) l (table w.config (next_history w by ask)) w.sent c) (sym same)
          (lease-turn w.config.lease_ms w.moment (now (history w)) (now (next_history w by ask)) (log_of w c) (table_calls (history w)) (table w.config (history w)) (table w.config (next_history w by ask)) w.sent c x
          (moment-made (has (table w.config (history w))) t m.client m.asked m.plan ∙ max-first w.moment (now (history w)) k.seen) k.seen late
          (arrives w.config.lease_ms w.moment (now (history w)) (log_of w c) (table_calls (history w)) (table w.config (history w)) w.sent c t n m at (k.each c))
          (stays-next w by ask (x ∷ table_calls (history w)) same) (k.each c)));
      deliveries = subst (λ (h : History). AllByRecursion (IsDelivered w.config.lease_ms w.sent (table_calls h)) (record { call = n; granted = granted_in (reply w.config (history w) (event_now w by ask)) } ∷ w.deliveries)) back
          (subst (λ (l : List Call). AllByRecursion (IsDelivered w.config.lease_ms w.sent l) (record { call = n; granted = granted_in (reply w.config (history w) (event_now w by ask)) } ∷ w.deliveries)) (sym same) (
            record {
              m = m;
              at = at;
              granted = λ d. reply-dirty w.config (history w) by w.moment m.client m.asked m.plan d;
              among = λ d. or_left (delivers m x) (list_any (delivers m) (table_calls (history w))) (delivers-made (has (table w.config (history w))) t m.client m.asked m.plan d);
            },
            more-calls w.config.lease_ms w.sent (x ∷ []) (table_calls (history w)) w.deliveries k.deliveries,
          ));
      there = subst (λ (h : History). list_any pinned_maker (table w.config h) ≡ true) back (maker-stays w by ask k.there);
      few = let f = k.few in let g = few-more w by ask in omega arith;
      senders = k.senders;
    }

-- ---- a client's call

log-same : (w : World) (c : ℕ) (x : ClientCall) → log_of (called c x w) c ≡ note_of (pos 0) (log_of w c) x ∷ log_of w c
unfolding notes
log-same w c x = rw ((Decides-eqb c c).1 refl) refl

log-other : (w : World) (c d : ℕ) (x : ClientCall) → (c == d) ≡ false → log_of (called c x w) d ≡ log_of w d
log-other w c d x h = rw h refl

more-senders : (clients c : ℕ) (asked : ℤ) (p : Option Plan) (ms : List SentCall) → c < clients → AllByRecursion (IsSender clients) ms → AllByRecursion (IsSender clients) (with_sent c asked p ms)
more-senders clients c asked None ms l e = e
more-senders clients c asked (Some y) ms l e = every-append (IsSender clients) ms (record { client = c; asked = asked; plan = y } ∷ []) e (l, tt)

does : (w : World) (c : ℕ) (x : ClientCall) → c < w.clients → Allowed w.config.lease_ms w.moment (table_calls (history w)) c x → Kept w → Kept (called c x w)
does w c x low ok k = record {
  seen = k.seen;
  each = λ d. go d (c == d) refl;
  deliveries = more-sent w.config.lease_ms (table_calls (history w)) c (asked_by c w) (plan_of (pos 0) (log_of w c) x) w.sent w.deliveries k.deliveries;
  there = k.there;
  few = k.few;
  senders = more-senders w.clients c (asked_by c w) (plan_of (pos 0) (log_of w c) x) w.sent low k.senders;
}
  where
    AgreesNow : List Note → ℕ → Type 0
    AgreesNow ns d = Agrees w.config.lease_ms w.moment (now (history w)) ns (table_calls (history w)) (table w.config (history w)) (with_sent c (asked_by c w) (plan_of (pos 0) (log_of w c) x) w.sent) d

    go : (d : ℕ) (b : Bool) → (c == d) ≡ b → AgreesNow (log_of (called c x w) d) d
    go d true h = subst (λ (d : ℕ). AgreesNow (log_of (called c x w) d) d) ((Decides-eqb c d).0 h)
        (subst (λ (ns : List Note). AgreesNow ns c) (sym (log-same w c x))
        (client-does w.config.lease_ms w.moment (now (history w)) (log_of w c) (table_calls (history w)) (table w.config (history w)) w.sent c (asked_by c w) x ok (k.each c)))
    go d false h = subst (λ (ns : List Note). AgreesNow ns d) (sym (log-other w c d x h))
        (other-client w.config.lease_ms w.moment (now (history w)) (log_of w d) (table_calls (history w)) (table w.config (history w)) w.sent d c (asked_by c w) (plan_of (pos 0) (log_of w c) x)
        (λ e. let yes = (Decides-eqb c d).1 e in let no : true ≡ false = sym yes ∙ h in cc) (k.each d))

-- What the deliveries of a dirty call are granted.
grants : (w : World) (n : ℕ) (m : SentCall) (g : ℕ) → nth w.sent n ≡ Some m → g ≡ grant w.config.lease_ms m.asked → Kept w →
    AllByRecursion (Grants w.config.lease_ms m.client (call_number m) g) (table_calls (history w))
grants w n m g at e k = every-weaker (SameAsked m.client w.sent) (Grants w.config.lease_ms m.client (call_number m) g)
    (λ y f d s. ap (grant w.config.lease_ms) (sym (nth-every (AsksAs m.client y.number y.asked) w.sent n m (f d) at refl ((Decides-int_eq (call_number m) y.number).1 (sym (same-number y.number (call_number m) s))))) ∙ sym e)
    (table_calls (history w)) (k.each m.client).same_asked

answer-by : (w : World) (n : ℕ) (c : ℕ) (asked : ℤ) (p : Plan) (d : Delivery) → nth w.sent n ≡ Some (record { client = c; asked = asked; plan = p }) →
    IsDelivered w.config.lease_ms w.sent (table_calls (history w)) d → d.call ≡ n → Kept w → Allowed w.config.lease_ms w.moment (table_calls (history w)) c (answer_to w.moment d.granted p)
answer-by w n c asked (plans.Clean number ids strong) d at f i k = tt
answer-by w n c asked (plans.Dirty number ids) d at f i k = go f.m f.at f.granted f.among
  where
    sent : SentCall
    sent = record { client = c; asked = asked; plan = plans.Dirty number ids }

    go : (m : SentCall) → nth w.sent d.call ≡ Some m → (is_dirty_plan m.plan ≡ true → d.granted ≡ grant w.config.lease_ms m.asked) → (is_dirty_plan m.plan ≡ true → list_any (delivers m) (table_calls (history w)) ≡ true) →
        Allowed w.config.lease_ms w.moment (table_calls (history w)) c (Answers number d.granted w.moment)
    go m there granted among =
        let same : ◌≡◌ {A = Option SentCall} (Some m) (Some sent) = sym there ∙ ap (nth w.sent) i ∙ at in
        let it : m ≡ sent = cc in
        let g = subst (λ (z : SentCall). is_dirty_plan z.plan ≡ true → d.granted ≡ grant w.config.lease_ms z.asked) it granted refl in
        let a = subst (λ (z : SentCall). is_dirty_plan z.plan ≡ true → list_any (delivers z) (table_calls (history w)) ≡ true) it among refl in
        (grants w n sent d.granted at g k, refl, a)

answer-keeps : (w : World) (n : ℕ) (m : SentCall) → nth w.sent n ≡ Some m → Kept w → Kept (answered n m w)
answer-keeps w n m at k = go (last_delivery w n) refl
  where
    go : (d : Option Delivery) → last_delivery w n ≡ d → Kept (if_some d (λ d. called m.client (answer_to w.moment d.granted m.plan)) w)
    go None e = k
    go (Some d) e =
        let f = found (IsDelivered w.config.lease_ms w.sent (table_calls (history w))) (λ d. d.call == n) w.deliveries d k.deliveries e in
        does w m.client (answer_to w.moment d.granted m.plan) (nth-every (IsSender w.clients) w.sent n m k.senders at) (answer-by w n m.client m.asked m.plan d at f.0 ((Decides-eqb d.call n).0 f.1) k) k

-- ---- all steps

sent-keeps : (f : SentCall → World → World) (w : World) (n : ℕ) → Kept w → ((m : SentCall) → nth w.sent n ≡ Some m → Kept (f m w)) → Kept (if_some (nth w.sent n) f w)
sent-keeps f w n k g = go (nth w.sent n) refl
  where
    go : (o : Option SentCall) → nth w.sent n ≡ o → Kept (if_some o f w)
    go (Some m) e = g m e
    go None e = k

client-keeps : (c : ℕ) (f : World → World) (w : World) → Kept w → (c < w.clients → Kept (f w)) → Kept (if_client c f w)
client-keeps c f w k g = go (nat_lt c w.clients) refl
  where
    go : (t : Bool) → nat_lt c w.clients ≡ t → Kept (if t then f w else w)
    go true e = g (ltb-true c w.clients e)
    go false e = k

begun-keeps : (w : World) → Kept w → Kept (begun w)
begun-keeps w k = quiet w 0 begin (λ test m. refl) k

step-keeps : (s : Step) (w : World) → Kept w → Kept (after_step s w)
step-keeps (steps.At m) w k =
    let s = k.seen in
    record {
      seen = omega arith;
      each = λ c. clock-step w.config.lease_ms w.moment (max w.moment m) (now (history w)) (log_of w c) (table_calls (history w)) (table w.config (history w)) w.sent c (omega arith) (k.each c);
      deliveries = k.deliveries;
      there = k.there;
      few = k.few;
      senders = k.senders;
    }
step-keeps steps.Make w k =
    let b = begun-keeps w k in
    let a = quiet (begun w) 0 (finish w.made) (λ test m. refl) b in
    record { seen = a.seen; each = a.each; deliveries = a.deliveries; there = a.there; senders = a.senders; few = let f = k.few in let g = few-more w 0 begin in let h = few-more (begun w) 0 (finish w.made) in omega arith }
step-keeps (steps.Ack p) w k = quiet w 0 (asks.Ack (uid p)) (λ test m. refl) k
step-keeps (steps.Register c number) w k = client-keeps c (called c (Registers (object number))) w k (λ l. does w c (Registers (object number)) l tt k)
step-keeps (steps.Release c number) w k = client-keeps c (called c (Drops (object number) w.moment)) w k (λ l. does w c (Drops (object number) w.moment) l refl k)
step-keeps (steps.Due c) w k = client-keeps c (called c (Dues w.moment)) w k (λ l. does w c (Dues w.moment) l refl k)
step-keeps (steps.Deliver n) w k = sent-keeps (delivered n) w n k (λ m e. deliver w n m e k)
step-keeps (steps.Answer n) w k = sent-keeps (answered n) w n k (λ m e. answer-keeps w n m e k)
step-keeps (steps.Fail n) w k = sent-keeps (λ m. called m.client (Fails (call_number m))) w n k (λ m e. does w m.client (Fails (call_number m)) (nth-every (IsSender w.clients) w.sent n m k.senders e) tt k)
step-keeps steps.Tick w k = quiet w 0 asks.Tick (λ test m. refl) k
step-keeps (steps.Ask c asked) w k = client-keeps c (λ w. record w { settings = (c, asked) ∷ w.settings }) w k (λ l. record { seen = k.seen; each = k.each; deliveries = k.deliveries; there = k.there; few = k.few; senders = k.senders })

pub deed-keeps : (d : Deed) (w : World) → Kept w → Kept (after d w)
unfolding after
deed-keeps (Taken step) w k = step-keeps step w k
deed-keeps CutMake w k = quiet (begun w) 0 (asks.Abandon maker) (λ test m. refl) (begun-keeps w k)

fresh-keeps : (lease ack clients : ℕ) → Kept (fresh lease ack clients)
unfolding fresh places places_back table place_of is_effective exports exported_count is_kept is_kept_locally table_calls now notes dirties refs until
fresh-keeps lease ack clients = record {
  seen = omega arith;
  each = λ c. record {
    past = tt;
    low = tt;
    later = tt;
    cleaned = tt;
    sent_low = tt;
    sent_cleaned = tt;
    time = λ u l. absurd (omega arith);
    same_asked = tt;
    one_asked = tt;
    in_tenure = tt;
    sure = λ r n s m l. absurd (cc);
    exported = tt;
  };
  deliveries = tt;
  there = refl;
  few = omega arith;
  senders = tt;
}

all-keep : (start : World) → Kept start → (deeds : List Deed) → Kept (world_after start deeds)
unfolding world_after
all-keep start k [] = k
all-keep start k (d ∷ deeds) = deed-keeps d (world_after start deeds) (all-keep start k deeds)

pub kept : (course : Course) → Kept (world course)
unfolding world
kept course = all-keep (fresh course.lease_ms course.ack_ms course.clients) (fresh-keeps course.lease_ms course.ack_ms course.clients) course.deeds

-- ---- the promise

less-equal : (a b : ℤ) → int_le a b ≡ true → a ≤ℤ b
less-equal a b h = grind (arith, ints)

-- A dirty call that made a reference sure has a number of at least its `since`.
since-by : (r : Ref) (n : ℤ) (ns : List Note) → once_then (confirms_by n r) (λ x. x.timely) ns ≡ true → r.since ≤ℤ n
since-by r n [] h = absurd (cc)
since-by r n (x ∷ ns) h = elim (or_cases (confirms_by n r x) (x.timely && once_then (confirms_by n r) (λ x. x.timely) ns) h) [
  | inl b ↦ here x.good b
  | inr b ↦ since-by r n ns (and_parts x.timely (once_then (confirms_by n r) (λ x. x.timely) ns) b).1
]
  where
    here : (g : Option Good) → (asks_in g r && is_good_of g n) ≡ true → r.since ≤ℤ n
    here None b = absurd (cc)
    here (Some g) b =
        let two = and_parts (names r.id g.dirty && int_le r.since g.dirty.number) (int_eq n g.dirty.number) b in
        let q : n ≡ g.dirty.number = same-number n g.dirty.number two.1 in
        let l = less-equal r.since g.dirty.number (and_parts (names r.id g.dirty) (int_le r.since g.dirty.number) two.0).1 in
        omega (arith, ints)

promised : (w : World) → Kept w → (c : ℕ) (o : ObjId) → IsPromised w c o → has (table w.config (history w)) o ≡ true
unfolding is_usable_now made_sure was_met is_usable
promised w k c o p = go (find (λ r. same_id r.id o) (refs (pos 0) (log_of w c))) refl p.usable p.sure
  where
    met : list_any (meets (client c) o p.number) (table_calls (history w)) ≡ true
    met = met-calls (client c) o p.number (history w) p.met

    go : (r : Option Ref) → find (λ r. same_id r.id o) (refs (pos 0) (log_of w c)) ≡ r →
        (sure_if (log_of w c) r && nat_lt w.moment (until (log_of w c))) ≡ true → sure_by p.number (log_of w c) r ≡ true → has (table w.config (history w)) o ≡ true
    go None e u s = absurd (cc)
    go (Some r) e u s =
        let a = k.each c in
        let seen = k.seen in
        let l : w.moment < until (log_of w c) = ltb-true w.moment (until (log_of w c)) (and_parts (is_sure (log_of w c) r) (nat_lt w.moment (until (log_of w c))) u).1 in
        let f = found (Exports w.config.lease_ms (now (history w)) c (table_calls (history w)) (table w.config (history w))) (λ r. same_id r.id o) (refs (pos 0) (log_of w c)) r a.exported e in
        let same : r.id ≡ o = same_id-equal r.id o f.1 in
        let P : ObjId → Type 0 = λ z. has (table w.config (history w)) z ≡ true in
        let Q : ObjId → Type 0 = λ z. list_any (meets (client c) z p.number) (table_calls (history w)) ≡ true in
        subst P same (f.0 p.number (since-by r p.number (log_of w c) s) (a.sure r p.number s (subst Q (sym same) met) l) (a.time (now (history w)) (omega arith)))

-- THE PROMISE OF THE WORLD: what is promised is exported.
pub theorem : (course : Course) → WorldKeepsPromise course
theorem course c o p = promised (world course) (kept course) c o p
