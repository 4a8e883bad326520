-- A turn that nothing can refuse any more: what it may rely on, by what its parts answered, and what follows.
use Rattle.std.proofs.Common.{◌≡◌, ℕ, ◌+◌, ◌<◌, ◌≤◌, ◌^◌, List, [], ◌∷◌, ◌++◌, length, refl, ap, sym, subst, ◌∙◌, map, max, arith, Option, Some, None, Ok, length-append}
use Rattle.std.specs.Prelude.{Bool, true, false, drop, option_and_then, vec_len, vec_capacity}
use Rattle.object_ids.specs.declared.ids.Uid.{Uid}
use Rattle.object_ids.specs.declared.ids.ObjId.{ObjId}
use Rattle.history.specs.declared.asks.Ask.TheVariants.{Finish, Abandon, Lookup}
use Rattle.history.specs.declared.asks.Event.{Event}
use Rattle.history.specs.declared.limits.TheConstants.{MAX_EXPORTS, MAX_AWAITING, END_OF_OBJECT_COUNT, END_OF_TIME}
use Rattle.history.specs.declared.places.Withdrawal.{Withdrawal}
use Rattle.history.specs.LeaseCalls.{call_with}
use Rattle.history.specs.Limits.{units_of}
use Rattle.history.specs.Names.{name_in, names, object_bound}
use Rattle.history.specs.Places.{id_at}
use Rattle.history.specs.Replies.{is_abandon}
use Rattle.history.specs.Steps.{Step}
use Rattle.history.specs.Table.{places}
use Rattle.dgc_server.specs.StandsForCalls.{LeaseTable, StandsFor}
use Rattle.event_log.specs.Log.{EventRecord}
use Rattle.export_table.specs.ExportRows.{is_exported, pins_of, running_of}
use Rattle.export_table.specs.Table.{ExportTable}
use Rattle.rmi_registry.specs.declared.binding.Binding.{Binding}
use Rattle.rmi_registry.specs.Bindings.{names_in, object_of}
use Rattle.rmi_registry.specs.StandsForHistory.{AreBindings}
use Rattle.space.specs.declared.prepared.Admitted.{Admitted}
use Rattle.space.specs.declared.prepared.Prepared.{Prepared}
use Rattle.space.specs.declared.runs.Run.{Run}
use Rattle.space.specs.declared.tables.Tables.{Tables}
use Rattle.space.specs.Acts.{ForEachLogBy, acted_exports, acted_names, acted_runs, await_refusal, awaiting_with, effective_by, opens, reply_at, returned_by, room_refusal, reported_after, told_refusal, withdrawal_at}
use Rattle.space.specs.Ahead.{HasRoom}
use Rattle.space.specs.Doubts.{AreInDoubt, HasLog, taken_by}
use Rattle.space.specs.Kept.{Keeps}
use Rattle.space.specs.Ready.{IsReady}
use Rattle.space.specs.RunTable.{AreSame, RunTable}
use Rattle.space.specs.Stored.{IsStoredAs}
use Rattle.space.specs.Whole.{IsWhole}
use Rattle.space.specs.Withdrawals.{WithdrawalTable}
use Rattle.space.specs.Withdrawing.{GoesAmong, HasWithdrawn}
use Rattle.space.proofs.Acting.{stood_for}
use Rattle.space.proofs.AheadLaws.{few-calls, room-turned}
use Rattle.space.proofs.AskLaws.{abandon-counted, acted-few, bound-exported, few-pins, few-run, finish-counted, finish-few, lookup-fits, room-exports, stood-is, stood-pinned}
use Rattle.space.proofs.Bindings.{bindings-counted, names-next}
use Rattle.space.proofs.EndLaws.{has-log}
use Rattle.space.proofs.StoredLaws.{stored-kept, stored-told}
use Rattle.space.proofs.Settling.{settled-but, settled-roomy}
use Rattle.space.proofs.WithdrawalLaws.{gone-after, gone-within}
use Rattle.space.proofs.TurnLaws.{HasActed, IsAsked, is-effective, keeps-room, turn-keeps, turn-step}

-- ---- what it may rely on

-- WHAT A TURN MAY RELY ON, by what its parts answered of the tables `t`: these were told of the event, and room was made in them.
pub is-ready : (t : Tables) {e : Event} {a : Admitted} {p : Prepared} {noted : Bool} {time : ℕ} {events : EventRecord} {runs : RunTable} {withdrawn : WithdrawalTable} {exports : ExportTable} {leases : LeaseTable} {bindings : List Binding} →
    IsWhole t → e.moment < END_OF_TIME → time ≡ max e.moment t.moment →
    a.stood ≡ option_and_then (object_of t.names) (name_in e.ask) → a.effective ≡ effective_by t.exports.rows t.runs.items a.stood e.by e.ask → room_refusal t.config.stored t.units (length t.runs.items) (length t.exports.rows) a.effective e.ask ≡ None →
    p.opened ≡ opens a.effective e.ask → p.objects ≡ length t.exports.rows + opens a.effective e.ask → p.listed.references.items ≡ returned_by t.config.uid t.added t.exports.rows a.stood a.effective e.ask →
    AreInDoubt t.leases time t.exports.waits (taken_by t.exports.waits (id_at t.config.uid t.added) a.stood p.listed.references.items e.ask) p.listed.doubtful.items →
    p.untold.gone.items ≡ map (λ (w : Withdrawal). w.object) (drop t.reported t.withdrawn.items) → vec_len p.untold.gone + length p.listed.doubtful.items ≤ vec_capacity p.untold.gone →
    (noted ≡ true → vec_len p.untold.gone + length p.listed.doubtful.items ≤ vec_capacity p.untold.spare) → p.reply ≡ reply_at t.config t.added t.exports.rows (names_in t.names) a.stood a.effective e.ask →
    await_refusal time t.exports.rows t.exports.waits a.stood a.effective e.ask ≡ None →
    length events.items + length runs.items + 2 ≤ events.capacity → 0 < runs.room → length withdrawn.items + p.objects ≤ withdrawn.room → p.opened ≤ exports.room.exports → length p.listed.references.items ≤ exports.room.waits →
    events.stored ≡ t.events.stored → withdrawn.told ≡ t.withdrawn.told →
    events.items ≡ t.events.items → runs.items ≡ t.runs.items → withdrawn.items ≡ t.withdrawn.items → exports ≡ record t.exports { room = exports.room } →
    ForEachLogBy time t.leases (λ lease calls. StandsFor lease leases time (call_with (is_exported exports.rows) time e.ask ++ calls)) → bindings ≡ acted_names a.effective e.ask t.names →
    ForEachLogBy time t.leases (λ lease calls. told_refusal lease time calls (call_with (is_exported exports.rows) time e.ask) (length t.names) (option_and_then (object_of t.names) (name_in e.ask)) a.effective e.ask ≡ None) →
    IsReady (record t { events = events; runs = runs; withdrawn = withdrawn; exports = exports; leases = leases; names = bindings }) e a p noted
is-ready t {e} {a} {p} {noted} {time} {events} {runs} {withdrawn} {exports} {leases} {bindings} (k, r, b, s) early at st f full op ob refs doubt gone gone_room copy_room reply fit er rr wr xr waits_room same_kind told ev ru wi ex ok ns refusal =
    let E : List Event → Type 0 = λ es. IsReady (record t { events = record events { items = es }; runs = runs; withdrawn = withdrawn; exports = exports; leases = leases; names = bindings }) e a p noted in
    let R : List Run → Type 0 = λ rs. IsReady (record t { events = record events { items = t.events.items }; runs = record runs { items = rs }; withdrawn = withdrawn; exports = exports; leases = leases; names = bindings }) e a p noted in
    let W : List Withdrawal → Type 0 = λ ws. IsReady (record t { events = record events { items = t.events.items }; runs = record runs { items = t.runs.items }; withdrawn = record withdrawn { items = ws }; exports = exports; leases = leases; names = bindings }) e a p noted in
    let X : ExportTable → Type 0 = λ x. IsReady (record t { events = record events { items = t.events.items }; runs = record runs { items = t.runs.items }; withdrawn = record withdrawn { items = t.withdrawn.items }; exports = x; leases = leases; names = bindings }) e a p noted in
    let O : ExportTable → ℕ → Type 0 = λ x n. ForEachLogBy n t.leases (λ lease calls. StandsFor lease leases n (call_with (is_exported x.rows) n e.ask ++ calls)) in
    let N : ExportTable → ℕ → ℕ → Option ObjId → Type 0 = λ x n c o. ForEachLogBy n t.leases (λ lease calls. told_refusal lease n calls (call_with (is_exported x.rows) n e.ask) c o a.effective e.ask ≡ None) in
    let D : ℕ → Type 0 = λ n. AreInDoubt t.leases n t.exports.waits (taken_by t.exports.waits (id_at t.config.uid t.added) a.stood p.listed.references.items e.ask) p.listed.doubtful.items in
    let stood : a.stood ≡ stood_for (places t.config t.events.items) e.ask = st ∙ stood-is (places t.config t.events.items) t.names e.ask b in
    let asked : IsAsked t.config t.events.items e t.leases t.exports t.runs.items t.withdrawn.items t.reported t.added t.units t.moment a.effective =
    record { keeps = k; tested = f ∙ ap (λ o. effective_by t.exports.rows t.runs.items o e.by e.ask) stood } in
    let events_same = ap length ev in let runs_same = ap length ru in let withdrawn_same = ap length wi in
    subst E (sym ev) (subst R (sym ru) (subst W (sym wi) (subst X (sym ex) (record {
      before = t.leases;
      keeps = keeps-room t.config t.events.items t.leases t.exports (record t.exports { room = exports.room }) t.runs.items t.withdrawn.items t.reported t.added t.units t.moment exports.room refl k;
      leases_told = subst (λ n. O (record t.exports { room = exports.room }) n) at (subst (λ x. O x time) ex ok);
      stored_so = stored-kept s same_kind told;
      names_told = names-next t.config t.events.items e a.effective t.names bindings b (is-effective t.config t.events.items e t.leases t.exports t.runs.items t.withdrawn.items t.reported t.added t.units t.moment a.effective asked) ns;
      early = early;
      stood_is = stood;
      effective_is = f;
      unfilled = full;
      unawaited = ap (λ n. await_refusal n t.exports.rows t.exports.waits a.stood a.effective e.ask) (sym at) ∙ fit;
      unrefused = subst (λ o. N (record t.exports { room = exports.room }) (max e.moment t.moment) (length (names (places t.config t.events.items))) o) (sym st)
          (subst (λ c. N (record t.exports { room = exports.room }) (max e.moment t.moment) c (option_and_then (object_of t.names) (name_in e.ask))) (bindings-counted t.config t.events.items t.names b)
          (subst (λ n. N (record t.exports { room = exports.room }) n (length t.names) (option_and_then (object_of t.names) (name_in e.ask))) at
          (subst (λ x. N x time (length t.names) (option_and_then (object_of t.names) (name_in e.ask))) ex refusal)));
      opened_is = op;
      references_are = refs;
      doubtful_are = subst D at doubt;
      gone_are = gone;
      reply_is = reply ∙ ap (λ ns. reply_at t.config t.added t.exports.rows ns a.stood a.effective e.ask) b.names;
      gone_room = gone_room;
      copy_room = copy_room;
      event_room = omega (arith, er, events_same, runs_same);
      run_room = rr;
      withdrawal_room = omega (arith, wr, ob, withdrawn_same);
      object_room = omega (arith, xr, op);
      wait_room = waits_room;
    }))))

-- ---- what follows of a turn that may rely on it

pub asked-when-ready : {t : Tables} {e : Event} {a : Admitted} {p : Prepared} {noted : Bool} (r : IsReady t e a p noted) →
    IsAsked t.config t.events.items e r.before t.exports t.runs.items t.withdrawn.items t.reported t.added t.units t.moment a.effective
asked-when-ready {t} {e} {a} {p} {noted} r = record { keeps = r.keeps; tested = r.effective_is ∙ ap (λ o. effective_by t.exports.rows t.runs.items o e.by e.ask) r.stood_is }

pub acted-when-ready : {t : Tables} {e : Event} {a : Admitted} {p : Prepared} {noted : Bool} {time : ℕ} (r : IsReady t e a p noted) → time ≡ max e.moment t.moment →
    HasActed t.config t.events.items e r.before t.leases t.exports (acted_exports a.stood a.effective time e.ask t.exports) t.runs.items t.withdrawn.items t.reported t.added t.units t.moment a.effective
acted-when-ready {t} {e} {a} {p} {noted} {time} r at =
    let N : Option ObjId → Type 0 = λ o. ForEachLogBy (max e.moment t.moment) r.before (λ lease calls. told_refusal lease (max e.moment t.moment) calls (call_with (is_exported t.exports.rows) (max e.moment t.moment) e.ask)
    (length (names (places t.config t.events.items))) o a.effective e.ask ≡ None) in
    record {
      asked = asked-when-ready r;
      early = r.early;
      room = r.unfilled;
      fit = ap (λ o. await_refusal (max e.moment t.moment) t.exports.rows t.exports.waits o a.effective e.ask) (sym r.stood_is) ∙ r.unawaited;
      unrefused = subst N r.stood_is r.unrefused;
      told_leases = r.leases_told;
      act = ap (λ n. acted_exports a.stood a.effective n e.ask t.exports) at ∙ ap (λ o. acted_exports o a.effective (max e.moment t.moment) e.ask t.exports) r.stood_is;
    }

-- WHAT IT ANSWERS.
pub step-when-ready : {t : Tables} {e : Event} {a : Admitted} {p : Prepared} {noted : Bool} {time place : ℕ} {leases : LeaseTable} {exports : ExportTable} {gone : List ObjId} → IsReady t e a p noted → time ≡ max e.moment t.moment →
    place ≡ length t.events.items → HasWithdrawn t.leases leases (acted_exports a.stood a.effective time e.ask t.exports) exports time p.untold.gone.items gone →
    Step t.config t.events.items e (Ok (record { place = place; reply = p.reply; gone = gone })) (t.events.items ++ e ∷ [])
step-when-ready {t} {e} {a} {p} {noted} {time} {place} {leases} {exports} {gone} r at pl w =
    turn-step t.config t.events.items e r.before t.leases leases t.exports (acted_exports a.stood a.effective time e.ask t.exports) exports t.runs.items t.withdrawn.items t.reported t.added t.units t.moment time a.effective p.untold.gone.items gone
    (acted-when-ready r at) at w place p.reply gone (t.events.items ++ e ∷ []) pl refl
    (r.reply_is ∙ ap (λ o. reply_at t.config t.added t.exports.rows (names (places t.config t.events.items)) o a.effective e.ask) r.stood_is) r.gone_are refl

-- WHAT IT LEAVES.
pub whole-when-ready : {t : Tables} {e : Event} {a : Admitted} {p : Prepared} {noted : Bool} {time place reported added used withdrawn_room : ℕ} {leases : LeaseTable} {exports : ExportTable} {gone : List ObjId} {runs : List Run} {withdrawn : List Withdrawal} →
    IsReady t e a p noted → time ≡ max e.moment t.moment → place ≡ length t.events.items → HasWithdrawn t.leases leases (acted_exports a.stood a.effective time e.ask t.exports) exports time p.untold.gone.items gone →
    AreSame runs (acted_runs a.effective e.by e.ask t.runs.items) → withdrawn ≡ t.withdrawn.items ++ map (withdrawal_at place) (drop (length p.untold.gone.items) gone) → t.withdrawn.room ≤ withdrawn_room →
    reported ≡ reported_after t.reported (length withdrawn) e.ask → added ≡ t.added + p.opened → used ≡ t.units + units_of e.ask →
    Keeps t.config (t.events.items ++ e ∷ []) leases exports runs withdrawn reported added used time × HasRoom (t.events.items ++ e ∷ []) t.events.capacity runs withdrawn withdrawn_room exports × AreBindings (places t.config (t.events.items ++ e ∷ [])) t.names
whole-when-ready {t} {e} {a} {p} {noted} {time} {place} {reported} {added} {used} {withdrawn_room} {leases} {exports} {gone} {runs} {withdrawn} r at pl w ru wi grow tl ad us =
    let kept : Keeps t.config (t.events.items ++ e ∷ []) leases exports runs withdrawn reported added used time =
    turn-keeps t.config t.events.items e r.before t.leases leases t.exports (acted_exports a.stood a.effective time e.ask t.exports) exports t.runs.items t.withdrawn.items t.reported t.added t.units t.moment time a.effective p.untold.gone.items gone
    (acted-when-ready r at) at w place reported added used (t.events.items ++ e ∷ []) runs withdrawn pl refl ru wi tl (ad ∙ ap (λ n. t.added + n) r.opened_is) us in
    let room = r.withdrawal_room in (
      kept,
      room-turned t.config t.events.items (t.events.items ++ e ∷ []) e r.before leases t.exports exports t.runs.items runs t.withdrawn.items withdrawn t.reported t.added t.units t.moment reported added used time (length t.exports.rows + opens a.effective e.ask) t.events.capacity withdrawn_room
          a.effective (is-effective t.config t.events.items e r.before t.exports t.runs.items t.withdrawn.items t.reported t.added t.units t.moment a.effective (asked-when-ready r)) r.keeps kept refl (omega arith) r.event_room (omega (arith, room, grow)),
      r.names_told,
    )

-- WHAT IT LEAVES STORED.
pub stored-when-ready : {t : Tables} {e : Event} {a : Admitted} {p : Prepared} {noted : Bool} {reported : ℕ} {withdrawn' : WithdrawalTable} (withdrawn : WithdrawalTable) → IsReady t e a p noted →
    withdrawn.told ≡ t.withdrawn.told → reported ≡ reported_after t.reported (length withdrawn'.items) e.ask → length withdrawn'.items ≤ 2 ^ 62 →
    (t.config.stored ≡ true → withdrawn'.told ≡ withdrawn.told) → (is_abandon e.ask ≡ true → withdrawn'.told ≡ withdrawn.told) →
    (t.config.stored ≡ false → is_abandon e.ask ≡ false → length withdrawn'.items ≤ 2 ^ 62 → withdrawn'.told ≡ length withdrawn'.items) →
    IsStoredAs t.config t.events withdrawn' reported
stored-when-ready {t} {e} {a} {p} {noted} {reported} {withdrawn'} withdrawn r same is few kept abandoned told =
    stored-told e.ask (stored-kept {withdrawn' = withdrawn} r.stored_so refl same) is kept abandoned (λ erased unabandoned. told erased unabandoned few)

-- ---- what its parts require of the exported objects

pub few-when-ready : {t : Tables} {e : Event} {a : Admitted} {p : Prepared} {noted : Bool} → IsReady t e a p noted → (o : ObjId) → running_of t.exports.rows o < 2 ^ 31
few-when-ready {t} r o = few-run t.config t.events.items r.before t.exports t.runs.items t.withdrawn.items t.reported t.added t.units t.moment r.keeps o

pub abandoned-when-ready : {t : Tables} {e : Event} {a : Admitted} {p : Prepared} {noted : Bool} → IsReady t e a p noted → (o : ObjId) → a.effective ≡ true → e.ask ≡ Abandon o → 0 < running_of t.exports.rows o
abandoned-when-ready {t} {e} {a} r o f s = abandon-counted t.config t.events.items e r.before t.exports t.runs.items t.withdrawn.items t.reported t.added t.units t.moment a.effective (asked-when-ready r) o f s

pub finished-when-ready : {t : Tables} {e : Event} {a : Admitted} {p : Prepared} {noted : Bool} → IsReady t e a p noted → (o : ObjId) (made : List ℕ) (listed : List ObjId) (u : Uid) → a.effective ≡ true → e.ask ≡ Finish o made listed u → 0 < running_of t.exports.rows o
finished-when-ready {t} {e} {a} r o made listed u f s = finish-counted t.config t.events.items e r.before t.exports t.runs.items t.withdrawn.items t.reported t.added t.units t.moment a.effective (asked-when-ready r) o made listed u f s

pub countable-when-ready : {t : Tables} {e : Event} {a : Admitted} {p : Prepared} {noted : Bool} → IsReady t e a p noted → t.exports.added + opens a.effective e.ask < END_OF_OBJECT_COUNT
countable-when-ready {t} {e} {a} r =
    let within = r.keeps.stands.within.countable in let few = r.keeps.few_opened in let used = r.keeps.stands.used_is in let added = r.keeps.stands.added_is in
    let exported = room-exports t.config.stored t.units (length t.runs.items) (length t.exports.rows) a.effective e.ask r.unfilled in
    omega (arith, within, few, used, added, exported)

pub within-when-ready : {t : Tables} {e : Event} {a : Admitted} {p : Prepared} {noted : Bool} → IsReady t e a p noted → length t.exports.rows + opens a.effective e.ask ≤ MAX_EXPORTS
within-when-ready {t} {e} {a} r = room-exports t.config.stored t.units (length t.runs.items) (length t.exports.rows) a.effective e.ask r.unfilled

pub early-when-ready : {t : Tables} {e : Event} {a : Admitted} {p : Prepared} {noted : Bool} {time : ℕ} → IsReady t e a p noted → time ≡ max e.moment t.moment → time < END_OF_TIME
early-when-ready r at = let before = r.keeps.early in let early = r.early in omega (arith, at, before, early)

pub some-when-ready : {t : Tables} {e : Event} {a : Admitted} {p : Prepared} {noted : Bool} → IsReady t e a p noted → 1 ≤ t.exports.ack
some-when-ready r = let ack = r.keeps.stands.ack_is in let some = r.keeps.durations.some_ack in omega (arith, ack, some)

pub references-when-ready : {t : Tables} {e : Event} {a : Admitted} {p : Prepared} {noted : Bool} {seen : List ObjId} → IsReady t e a p noted → seen ≡ p.listed.references.items →
    seen ≡ returned_by t.exports.space t.exports.added t.exports.rows a.stood a.effective e.ask
references-when-ready {t} {e} {a} r see =
    see ∙ r.references_are ∙ ap (λ s. returned_by s t.added t.exports.rows a.stood a.effective e.ask) (sym r.keeps.stands.space_is) ∙ ap (λ n. returned_by t.exports.space n t.exports.rows a.stood a.effective e.ask) (sym r.keeps.stands.added_is)

pub stands-when-ready : {t : Tables} {e : Event} {a : Admitted} {p : Prepared} {noted : Bool} → IsReady t e a p noted → (o : ObjId) → a.stood ≡ Some o → (is_exported t.exports.rows o ≡ true) × 0 < pins_of t.exports.rows o
stands-when-ready {t} {e} r o s = stood-pinned t.config t.events.items r.before t.exports t.runs.items t.withdrawn.items t.reported t.added t.units t.moment r.keeps e.ask o (sym r.stood_is ∙ s)

pub few-pins-when-ready : {t : Tables} {e : Event} {a : Admitted} {p : Prepared} {noted : Bool} → IsReady t e a p noted → (o : ObjId) → pins_of t.exports.rows o < 2 ^ 31
few-pins-when-ready {t} r o = few-pins t.config t.events.items r.before t.exports t.runs.items t.withdrawn.items t.reported t.added t.units t.moment r.keeps o

pub bound-when-ready : {t : Tables} {e : Event} {a : Admitted} {p : Prepared} {noted : Bool} → IsReady t e a p noted → (o : ObjId) → a.effective ≡ true → object_bound e.ask ≡ Some o → is_exported t.exports.rows o ≡ true
bound-when-ready {t} {e} {a} r o f b = bound-exported t.exports.rows t.runs.items a.stood e.by e.ask o (sym r.effective_is ∙ f) b

-- There is room for the references that it returns, by what its name stands for.
fits : {t : Tables} {e : Event} {a : Admitted} {p : Prepared} {noted : Bool} {time : ℕ} → IsReady t e a p noted → time ≡ max e.moment t.moment → await_refusal time t.exports.rows t.exports.waits (stood_for (places t.config t.events.items) e.ask) a.effective e.ask ≡ None
fits {t} {e} {a} r at = ap (λ n. await_refusal n t.exports.rows t.exports.waits (stood_for (places t.config t.events.items) e.ask) a.effective e.ask) at ∙ (acted-when-ready r refl).fit

-- These are what it returns, by the same.
returns : {t : Tables} {e : Event} {a : Admitted} {p : Prepared} {noted : Bool} {seen : List ObjId} → IsReady t e a p noted → seen ≡ p.listed.references.items →
    seen ≡ returned_by t.exports.space t.exports.added t.exports.rows (stood_for (places t.config t.events.items) e.ask) a.effective e.ask
returns {t} {e} {a} r see = references-when-ready r see ∙ ap (λ o. returned_by t.exports.space t.exports.added t.exports.rows o a.effective e.ask) r.stood_is

pub looks-when-ready : {t : Tables} {e : Event} {a : Admitted} {p : Prepared} {noted : Bool} {time : ℕ} {seen : List ObjId} → IsReady t e a p noted → time ≡ max e.moment t.moment → seen ≡ p.listed.references.items →
    (n : List ℕ) (u : Uid) → e.ask ≡ Lookup n u → awaiting_with time u seen t.exports.waits ≤ MAX_AWAITING
looks-when-ready {t} {e} {a} {p} {noted} {time} {seen} r at see n u s =
    lookup-fits t.config t.events.items e r.before t.exports t.runs.items t.withdrawn.items t.reported t.added t.units t.moment time a.effective (asked-when-ready r) (fits r at) seen (returns r see) n u s

pub awaiting-when-ready : {t : Tables} {e : Event} {a : Admitted} {p : Prepared} {noted : Bool} {time : ℕ} {seen : List ObjId} → IsReady t e a p noted → time ≡ max e.moment t.moment → seen ≡ p.listed.references.items →
    (o : ObjId) (made : List ℕ) (listed : List ObjId) (u : Uid) → a.effective ≡ true → e.ask ≡ Finish o made listed u → awaiting_with time u seen t.exports.waits ≤ MAX_AWAITING
awaiting-when-ready {t} {e} {a} {p} {noted} {time} {seen} r at see o made listed u f s =
    finish-few t.config t.events.items e r.before t.exports t.runs.items t.withdrawn.items t.reported t.added t.units t.moment time a.effective (asked-when-ready r) at (fits r at) seen (returns r see) o made listed u f s

pub wait-room-when-ready : {t : Tables} {e : Event} {a : Admitted} {p : Prepared} {noted : Bool} {seen : List ObjId} → IsReady t e a p noted → seen ≡ p.listed.references.items → length seen ≤ t.exports.room.waits
wait-room-when-ready r see = let same = ap length see in let room = r.wait_room in omega (arith, same, room)

-- ---- the running calls

pub few-calls-when-ready : {t : Tables} {e : Event} {a : Admitted} {p : Prepared} {noted : Bool} → IsReady t e a p noted → length t.runs.items < 2 ^ 31
few-calls-when-ready {t} r = few-calls t.config t.events.items r.before t.exports t.runs.items t.withdrawn.items t.reported t.added t.units t.moment r.keeps

-- ---- what its withdrawal requires

pub log-when-ready : {t : Tables} {e : Event} {a : Admitted} {p : Prepared} {noted : Bool} → IsReady t e a p noted → HasLog t.leases
log-when-ready {t} {e} {a} r =
    has-log t.config t.events.items e r.before t.leases t.exports (acted_exports a.stood a.effective (max e.moment t.moment) e.ask t.exports) t.runs.items t.withdrawn.items t.reported t.added t.units t.moment a.effective (acted-when-ready r refl)

pub withdrawal-room-when-ready : {t : Tables} {e : Event} {a : Admitted} {p : Prepared} {noted : Bool} (time : ℕ) {exports : ExportTable} → IsReady t e a p noted → exports ≡ record (acted_exports a.stood a.effective time e.ask t.exports) { room = exports.room } →
    length t.withdrawn.items + length exports.rows ≤ t.withdrawn.room
withdrawal-room-when-ready {t} {e} {a} {p} {noted} time {exports} r x = let rows = acted-few a.stood a.effective time e.ask t.exports exports x in let room = r.withdrawal_room in omega (arith, rows, room)

pub gone-room-when-ready : {t : Tables} {e : Event} {a : Admitted} {p : Prepared} {noted : Bool} {seen : List ObjId} → IsReady t e a p noted → seen ≡ p.listed.doubtful.items → vec_len p.untold.gone + length seen ≤ vec_capacity p.untold.gone
gone-room-when-ready r see = let same = ap length see in let room = r.gone_room in omega (arith, same, room)

pub among-when-ready : {t : Tables} {e : Event} {a : Admitted} {p : Prepared} {noted : Bool} {time : ℕ} {exports : ExportTable} {seen : List ObjId} → IsReady t e a p noted → time ≡ max e.moment t.moment →
    exports ≡ record (acted_exports a.stood a.effective time e.ask t.exports) { room = exports.room } → seen ≡ p.listed.doubtful.items →
    GoesAmong t.leases exports time seen
among-when-ready {t} {e} {a} {p} {noted} {time} {exports} {seen} r at x see =
    let N : ℕ → Type 0 = λ n. AreInDoubt r.before n t.exports.waits (taken_by t.exports.waits (id_at t.config.uid t.added) a.stood p.listed.references.items e.ask) p.listed.doubtful.items in
    let L : List ObjId → Type 0 = λ l. AreInDoubt r.before time t.exports.waits (taken_by t.exports.waits (id_at t.config.uid t.added) a.stood l e.ask) p.listed.doubtful.items in
    let O : Option ObjId → Type 0 = λ o. AreInDoubt r.before time t.exports.waits (taken_by t.exports.waits (id_at t.config.uid t.added) o (returned_by t.config.uid t.added t.exports.rows o a.effective e.ask) e.ask) p.listed.doubtful.items in
    settled-roomy t.leases (acted_exports a.stood a.effective time e.ask t.exports) exports time p.listed.doubtful.items seen x see
    (settled-but t.config t.events.items e r.before t.leases t.exports (acted_exports a.stood a.effective time e.ask t.exports) t.runs.items t.withdrawn.items t.reported t.added t.units t.moment a.effective (acted-when-ready r at) time p.listed.doubtful.items at
    (subst O r.stood_is (subst L r.references_are (subst N (sym at) r.doubtful_are))))

-- There is room for the copy of what goes.
pub copy-room-when-ready : {t : Tables} {e : Event} {a : Admitted} {p : Prepared} {noted : Bool} {seen : List ObjId} (gone : List ObjId) → IsReady t e a p noted → seen ≡ p.listed.doubtful.items → vec_len p.untold.gone ≡ length p.untold.gone.items →
    length gone ≤ length p.untold.gone.items + length seen → noted ≡ true → length gone ≤ vec_capacity p.untold.spare
copy-room-when-ready gone r see untold few asked = let same = ap length see in let room = r.copy_room asked in omega (arith, same, untold, few, room)

-- ---- what the note of its withdrawals requires

pub note-within : {t : Tables} {e : Event} {a : Admitted} {p : Prepared} {noted : Bool} {time untold : ℕ} {leases : LeaseTable} {x y : ExportTable} {seen : List ObjId} (gone : List ObjId) → IsReady t e a p noted → HasWithdrawn t.leases leases x y time p.untold.gone.items gone →
    untold ≡ length p.untold.gone.items → seen ≡ gone → untold ≤ length seen
note-within {t} {e} {a} {p} gone r w is see =
    let more = ap length (gone-after (log-when-ready r) w) ∙ length-append p.untold.gone.items (drop (length p.untold.gone.items) gone) in
    let same = ap length see in omega (arith, is, more, same)

pub note-room : {t : Tables} {e : Event} {a : Admitted} {p : Prepared} {noted : Bool} {untold : ℕ} {leases : LeaseTable} {x y : ExportTable} {seen : List ObjId} (time : ℕ) (gone : List ObjId) → IsReady t e a p noted →
    x ≡ record (acted_exports a.stood a.effective time e.ask t.exports) { room = x.room } → HasWithdrawn t.leases leases x y time p.untold.gone.items gone → untold ≡ length p.untold.gone.items → seen ≡ gone →
    length t.withdrawn.items + length (drop untold seen) ≤ t.withdrawn.room
note-room {t} {e} {a} {p} {noted} {untold} time gone r acts w is see =
    let room = withdrawal-room-when-ready time r acts in
    let few = gone-within (log-when-ready r) w in
    let same = ap (λ l. length (drop untold l)) see ∙ ap (λ n. length (drop n gone)) is in
    omega (arith, room, few, same)

-- What is noted are those that went.
pub noted-when-ready : {t : Tables} {e : Event} {a : Admitted} {p : Prepared} {noted : Bool} {untold : ℕ} {seen : List ObjId} {after : List Withdrawal} (place : ℕ) (gone : List ObjId) → IsReady t e a p noted → untold ≡ length p.untold.gone.items → seen ≡ gone →
    after ≡ t.withdrawn.items ++ map (withdrawal_at place) (drop untold seen) → after ≡ t.withdrawn.items ++ map (withdrawal_at place) (drop (length p.untold.gone.items) gone)
noted-when-ready {t} {e} {a} {p} {noted} {untold} place gone r is see wd =
    wd ∙ ap (λ l. t.withdrawn.items ++ map (withdrawal_at place) (drop untold l)) see ∙ ap (λ n. t.withdrawn.items ++ map (withdrawal_at place) (drop n gone)) is
