-- What an ask does to the export table and to the running calls is what its event does to the history.
use Rattle.std.proofs.Common.{◌≡◌, ℕ, ◌+◌, ◌<◌, List, [], ◌∷◌, ◌++◌, refl, ap, sym, subst, ◌∙◌, map, max, arith, Option, Some, None, append-nil}
use Rattle.std.specs.Prelude.{Bool, true, false, ◌&&◌, ◌==◌, filter, flat_map, nat_lt, if◌then◌else◌, is_none, is_some, option_and_then, option_to_list}
use Rattle.std.specs.List.{AllByRecursion}
use Rattle.std.proofs.lemmas.List.{map-append}
use Rattle.object_ids.specs.declared.ids.Uid.{Uid}
use Rattle.object_ids.specs.declared.ids.ObjId.{ObjId}
use Rattle.object_ids.specs.Same.{same_id}
use Rattle.history.specs.declared.asks.SpaceConfig.{SpaceConfig}
use Rattle.history.specs.declared.asks.Event.{Event}
use Rattle.history.specs.declared.asks.Ask.{Ask}
use Rattle.history.specs.declared.asks.Ask.TheVariants.{Open, Begin, Finish, Abandon, Dirty, Clean, Ack, Bind, Rebind, Unbind, Lookup, List as ListNames, Tick}
use Rattle.history.specs.declared.places.Exported.{Exported}
use Rattle.history.specs.declared.places.Returned.{Returned}
use Rattle.history.specs.Awaiting.{returned_references, return_uid, is_ack_of}
use Rattle.history.specs.Limits.{is_begin, is_end}
use Rattle.history.specs.Names.{name_in, stands_for}
use Rattle.history.specs.Places.{History, has, now, id_at, exported_from, exported_count}
use Rattle.history.specs.Replies.{ids}
use Rattle.history.specs.Running.{is_begin_of, is_end_of, running_calls_by, running_calls}
use Rattle.history.specs.Table.{is_effective, exports, returned_objects, table, place_of, places}
use Rattle.history.proofs.ListLemmas.{list_any-length, and_false}
use Rattle.history.proofs.NameCounts.{is_object, names_less, names_more, names-counted}
use Rattle.history.proofs.Partitions.{one_if}
use Rattle.history.proofs.TableLaws.{ask-place_of}
use Rattle.history.proofs.Equalities.{same_id-turned}
use Rattle.export_table.specs.declared.rows.Export.{Export}
use Rattle.export_table.specs.declared.waits.Wait.{Wait}
use Rattle.export_table.specs.ExportRows.{is_exported, new_row, with_row_changed, with_call_begun, with_call_ended, pinned_once, with_pin_removed}
use Rattle.export_table.specs.Table.{ExportTable}
use Rattle.space.specs.declared.runs.Run.{Run}
use Rattle.space.specs.Acts.{effective_by, acted_exports, acted_runs, new_rows, new_ids, returned_by}
use Rattle.space.specs.Runs.{RunsStand, caller_of, object_of, is_run}
use Rattle.export_table.specs.StandsForHistory.{WaitsStand, reference_of, end_of, references, rows_of}
use Rattle.export_table.proofs.KeptLaws.{added-rows}
use Rattle.export_table.proofs.ThereLaws.{new-runs-none, new-unnamed}
use Rattle.space.proofs.Quiet.{opened_by, adds-are}
use Rattle.space.proofs.RunSteps.{runs-begin, runs-end, runs-other, abandon-ends, finish-ends}
use Rattle.std.proofs.lemmas.Bool.{ltb-true}
use Rattle.export_table.proofs.WaitSteps.{listed_all, waits-push, waits-push-ack}
use Rattle.export_table.specs.Waits.{with_each_listed}
use Rattle.export_table.proofs.StandLaws.{begun-row, count-push, ended-row, exported-has, listed-each-is, names_for, row-changed, row-same, row_with, rows-pinned, rows-unpinned}

-- ---- the rows

-- What the name in an ask stands for.
abbrev pub stood_for : History → Ask → Option ObjId
stood_for h a = option_and_then (stands_for h) (name_in a)

-- THE ROWS after an ask.
acted-rows : (config : SpaceConfig) (old new pold pnew : ObjId → ℕ) (objects : List Exported) (t : ExportTable) (stood : Option ObjId) (effective : Bool) (now_at : ℕ) (a : Ask) →
    ((o : ObjId) → new o + one_if (effective && is_end_of o a) ≡ old o + one_if (effective && is_begin_of o a)) →
    ((o : ObjId) → pnew o + one_if (names_less effective stood a o) ≡ pold o + one_if (names_more effective a o)) →
    t.space ≡ config.uid → t.rows ≡ map (row_with old pold) objects → AllByRecursion (λ (x : Exported). new x.id ≡ 0) (opened_by config t.added effective a) →
    AllByRecursion (λ (x : Exported). pnew x.id ≡ 0) (opened_by config t.added effective a) →
    (acted_exports stood effective now_at a t).rows ≡ map (row_with new pnew) (objects ++ opened_by config t.added effective a)
unfolding one_if
acted-rows config old new pold pnew objects t stood effective now_at a step names space rows none free = go a effective step names none free
  where
    whole : (f : Exported → Export) → map f objects ≡ map f (objects ++ [])
    whole f = ap (map f) (rw append-nil refl)

    same : ((o : ObjId) → new o ≡ old o) → ((o : ObjId) → pnew o ≡ pold o) → t.rows ≡ map (row_with new pnew) (objects ++ [])
    same s p = rows ∙ row-same old new pold pnew s p objects ∙ whole (row_with new pnew)

    still : (effective : Bool) (n m : ℕ) → n + one_if (effective && false) ≡ m + one_if (effective && false) → n ≡ m
    still true n m e = omega (arith, e)
    still false n m e = omega (arith, e)

    idle : (n m : ℕ) → n + 0 ≡ m + 0 → n ≡ m
    idle n m e = omega (arith, e)

    -- a name that is bound
    bound : (x : ObjId) → ((o : ObjId) → new o ≡ old o) → ((o : ObjId) → pnew o + one_if (is_object o stood) ≡ pold o + one_if (same_id x o)) →
        with_pin_removed stood (with_row_changed pinned_once x t.rows) ≡ map (row_with new pnew) (objects ++ [])
    bound x s m =
        let more : ObjId → ℕ = λ y. pold y + one_if (same_id x y) in
        ap (λ l. with_pin_removed stood (with_row_changed pinned_once x l)) rows
        ∙ ap (with_pin_removed stood) (rows-pinned old old pold more x (λ y. refl) (λ y. refl) objects)
        ∙ rows-unpinned old new more pnew stood s m objects ∙ whole (row_with new pnew)

    unbound : ((o : ObjId) → new o ≡ old o) → ((o : ObjId) → pnew o + one_if (is_object o stood) ≡ pold o) → with_pin_removed stood t.rows ≡ map (row_with new pnew) (objects ++ [])
    unbound s m = ap (with_pin_removed stood) rows ∙ rows-unpinned old new pold pnew stood s m objects ∙ whole (row_with new pnew)

    go : (a : Ask) → (effective : Bool) → ((o : ObjId) → new o + one_if (effective && is_end_of o a) ≡ old o + one_if (effective && is_begin_of o a)) →
        ((o : ObjId) → pnew o + one_if (names_less effective stood a o) ≡ pold o + one_if (names_more effective a o)) →
        AllByRecursion (λ (x : Exported). new x.id ≡ 0) (opened_by config t.added effective a) →
        AllByRecursion (λ (x : Exported). pnew x.id ≡ 0) (opened_by config t.added effective a) →
        (acted_exports stood effective now_at a t).rows ≡ map (row_with new pnew) (objects ++ opened_by config t.added effective a)
    go (Open kind pinned) effective s m none free =
        ap (λ l. l ++ new_row (id_at t.space t.added) kind pinned ∷ []) (rows ∙ row-same old new pold pnew (λ o. still effective (new o) (old o) (s o)) (λ o. still effective (pnew o) (pold o) (m o)) objects)
        ∙ ap (λ u. map (row_with new pnew) objects ++ new_row (id_at u t.added) kind pinned ∷ []) space
        ∙ ap (λ (n : ℕ). map (row_with new pnew) objects ++ record { id = id_at config.uid t.added; kind = kind; pinned = pinned; running = n; pins = 0 } ∷ []) (sym none.0)
        ∙ ap (λ (n : ℕ). map (row_with new pnew) objects ++ record { id = id_at config.uid t.added; kind = kind; pinned = pinned; running = new (id_at config.uid t.added); pins = n } ∷ []) (sym free.0)
        ∙ sym (map-append (row_with new pnew) objects (opened_by config t.added effective (Open kind pinned)))
    go (Begin o) true s m none free = ap (with_row_changed with_call_begun o) rows ∙ row-changed old new pold pnew with_call_begun o (λ x. begun-row old new pold pnew x (same_id x.id o) (more x) (still true (pnew x.id) (pold x.id) (m x.id))) objects ∙ whole (row_with new pnew)
      where
        more : (x : Exported) → new x.id ≡ old x.id + one_if (same_id x.id o)
        more x = let step = s x.id in let turn = ap one_if (same_id-turned x.id o) in omega (arith, step, turn)
    go (Begin o) false s m none free = same (λ x. let step = s x in omega (arith, step)) (λ x. let step = m x in omega (arith, step))
    go (Abandon o) true s m none free = ap (with_row_changed with_call_ended o) rows ∙ row-changed old new pold pnew with_call_ended o (λ x. ended-row old new pold pnew x (same_id x.id o) (less x) (still true (pnew x.id) (pold x.id) (m x.id))) objects ∙ whole (row_with new pnew)
      where
        less : (x : Exported) → new x.id + one_if (same_id x.id o) ≡ old x.id
        less x = let step = s x.id in let turn = ap one_if (same_id-turned x.id o) in omega (arith, step, turn)
    go (Abandon o) false s m none free = same (λ x. let step = s x in omega (arith, step)) (λ x. let step = m x in omega (arith, step))
    go (Dirty x y z w) effective s m none free = same (λ o. still effective (new o) (old o) (s o)) (λ o. still effective (pnew o) (pold o) (m o))
    go (Clean x y z w) effective s m none free = same (λ o. still effective (new o) (old o) (s o)) (λ o. still effective (pnew o) (pold o) (m o))
    go (Ack u) effective s m none free = same (λ o. still effective (new o) (old o) (s o)) (λ o. still effective (pnew o) (pold o) (m o))
    go Tick effective s m none free = same (λ o. still effective (new o) (old o) (s o)) (λ o. still effective (pnew o) (pold o) (m o))
    go (Finish o made listed u) true s m none free =
        ap (λ l. with_row_changed with_call_ended o l ++ new_rows t.space t.added made) rows
        ∙ ap (λ l. l ++ new_rows t.space t.added made) (row-changed old new pold pnew with_call_ended o (λ x. ended-row old new pold pnew x (same_id x.id o) (less x) (still true (pnew x.id) (pold x.id) (m x.id))) objects)
        ∙ ap (λ v. map (row_with new pnew) objects ++ new_rows v t.added made) space
        ∙ ap (λ l. map (row_with new pnew) objects ++ l) (sym (added-rows config.uid t.added new pnew false made none free))
        ∙ sym (map-append (row_with new pnew) objects (exported_from config.uid t.added false made))
      where
        less : (x : Exported) → new x.id + one_if (same_id x.id o) ≡ old x.id
        less x = let step = s x.id in let turn = ap one_if (same_id-turned x.id o) in omega (arith, step, turn)
    go (Finish o made listed u) false s m none free = same (λ x. let step = s x in omega (arith, step)) (λ x. let step = m x in omega (arith, step))
    go (Bind n x) true s m none free = bound x (λ o. still true (new o) (old o) (s o)) m
    go (Bind n x) false s m none free = same (λ o. still false (new o) (old o) (s o)) (λ o. idle (pnew o) (pold o) (m o))
    go (Rebind n x) true s m none free = bound x (λ o. still true (new o) (old o) (s o)) m
    go (Rebind n x) false s m none free = same (λ o. still false (new o) (old o) (s o)) (λ o. idle (pnew o) (pold o) (m o))
    go (Unbind n) true s m none free = unbound (λ o. still true (new o) (old o) (s o)) (λ o. let step = m o in omega (arith, step))
    go (Unbind n) false s m none free = same (λ o. still false (new o) (old o) (s o)) (λ o. idle (pnew o) (pold o) (m o))
    go (Lookup n u) effective s m none free = same (λ o. still effective (new o) (old o) (s o)) (λ o. still effective (pnew o) (pold o) (m o))
    go ListNames effective s m none free = same (λ o. still effective (new o) (old o) (s o)) (λ o. still effective (pnew o) (pold o) (m o))

pub rows-act : (config : SpaceConfig) (events : List Event) (e : Event) (t : ExportTable) (at : ℕ) → t.space ≡ config.uid → t.added ≡ exported_count (places config events) →
    t.rows ≡ rows_of (places config events) (table config (places config events)) →
    (acted_exports (stood_for (places config events) e.ask) (is_effective config (places config events) e.by e.ask) at e.ask t).rows
    ≡ rows_of (place_of config (places config events) e ∷ places config events) (table config (places config events) ++ (place_of config (places config events) e).exported_here)
rows-act config events e t at space count rows =
    let adds : opened_by config t.added (is_effective config (places config events) e.by e.ask) e.ask ≡ (place_of config (places config events) e).exported_here =
    ap (λ n. opened_by config n (is_effective config (places config events) e.by e.ask) e.ask) count ∙ sym (adds-are config (places config events) e) in
    let P : List Exported → Type 0 = λ l. AllByRecursion (λ (x : Exported). running_calls (place_of config (places config events) e ∷ places config events) x.id ≡ 0) l in
    let N : List Exported → Type 0 = λ l. AllByRecursion (λ (x : Exported). names_for (place_of config (places config events) e ∷ places config events) x.id ≡ 0) l in
    acted-rows config (running_calls (places config events)) (running_calls (place_of config (places config events) e ∷ places config events))
    (names_for (places config events)) (names_for (place_of config (places config events) e ∷ places config events)) (table config (places config events)) t
    (stood_for (places config events) e.ask) (is_effective config (places config events) e.by e.ask) at e.ask (count-push config events e) (names-counted config events e) space rows
    (subst P (sym adds) (new-runs-none config events e)) (subst N (sym adds) (new-unnamed config events e))
    ∙ ap (λ l. rows_of (place_of config (places config events) e ∷ places config events) (table config (places config events) ++ l)) adds

-- ---- the objects that are returned

pub new-ids : (space : Uid) (k : ℕ) (pinned : Bool) (kinds : List ℕ) → ids (exported_from space k pinned kinds) ≡ new_ids space k kinds
new-ids space k pinned [] = refl
new-ids space k pinned (kind ∷ kinds) = ap (λ l. id_at space k ∷ l) (new-ids space (k + 1) pinned kinds)

pub live-same : (h : History) (objects : List Exported) (rows : List Export) → rows ≡ rows_of h objects → (os : List ObjId) → filter (has objects) os ≡ filter (is_exported rows) os
live-same h objects rows r [] = refl
live-same h objects rows r (o ∷ os) = rw (sym (exported-has h objects o) ∙ ap (λ l. is_exported l o) (sym r), live-same h objects rows r os) refl

whole : {X : Type 0} (xs : List X) → xs ++ [] ≡ xs
whole xs = rw append-nil refl

-- What an event returns: nothing, or references to these objects.
pub returned-is : (config : SpaceConfig) (h : History) (e : Event) (rows : List Export) → rows ≡ rows_of h (table config h) →
    returned_references (place_of config h e) ≡ flat_map (λ u. references u (returned_by config.uid (exported_count h) rows (stood_for h e.ask) (is_effective config h e.by e.ask) e.ask)) (option_to_list (return_uid e.ask))
unfolding place_of is_effective returned_objects exports
returned-is config h e rows r = go e.ask
  where
    finish : (v : Bool) (made : List ℕ) (listed : List ObjId) (u : Uid) →
        map (λ (o : ObjId). record { object = o; uid = u }) (if v then ids (exported_from config.uid (exported_count h) false made) ++ filter (has (table config h)) listed else []) ++ []
        ≡ references u (if v then new_ids config.uid (exported_count h) made ++ filter (is_exported rows) listed else []) ++ []
    finish true made listed u = ap (λ l. references u l ++ []) (ap (λ l. l ++ filter (has (table config h)) listed) (new-ids config.uid (exported_count h) false made)
        ∙ ap (λ l. new_ids config.uid (exported_count h) made ++ l) (live-same h (table config h) rows r listed))
    finish false made listed u = refl

    looked : (s : Option ObjId) (u : Uid) → map (λ (o : ObjId). record { object = o; uid = u }) (if is_some s then option_to_list s else []) ++ [] ≡ references u (option_to_list s) ++ []
    looked None u = refl
    looked (Some o) u = refl

    go : (a : Ask) → returned_references (place_of config h (record e { ask = a })) ≡ flat_map (λ u. references u (returned_by config.uid (exported_count h) rows (stood_for h a) (is_effective config h e.by a) a)) (option_to_list (return_uid a))
    go (Finish x made listed u) = finish (nat_lt 0 (running_calls_by h e.by x)) made listed u
    go (Open kind pinned) = refl
    go (Dirty x y z w) = refl
    go (Clean x y z w) = refl
    go Tick = refl
    go (Begin x) = refl
    go (Abandon x) = refl
    go (Ack u) = refl
    go (Bind x y) = refl
    go (Rebind x y) = refl
    go (Unbind x) = refl
    go (Lookup n u) = looked (stands_for h n) u
    go ListNames = refl

-- The references that a return has.
pub returned-with : (config : SpaceConfig) (h : History) (e : Event) (rows : List Export) (u : Uid) → return_uid e.ask ≡ Some u → rows ≡ rows_of h (table config h) →
    returned_references (place_of config h e) ≡ references u (returned_by config.uid (exported_count h) rows (stood_for h e.ask) (is_effective config h e.by e.ask) e.ask)
returned-with config h e rows u s r =
    returned-is config h e rows r
    ∙ ap (λ v. flat_map (λ w. references w (returned_by config.uid (exported_count h) rows (stood_for h e.ask) (is_effective config h e.by e.ask) e.ask)) (option_to_list v)) s
    ∙ whole (references u (returned_by config.uid (exported_count h) rows (stood_for h e.ask) (is_effective config h e.by e.ask) e.ask))

-- ---- the waits

abbrev wait_of : Returned → ℕ → Wait
wait_of r n = record { object = r.object; uid = r.uid; until = n }

-- The waits after a return.
finish-waits : (stood : Option ObjId) (effective : Bool) (at : ℕ) (x : ObjId) (made : List ℕ) (listed : List ObjId) (u : Uid) (t : ExportTable) →
    (acted_exports stood effective at (Finish x made listed u) t).waits ≡ with_each_listed t.ack at u (returned_by t.space t.added t.rows stood effective (Finish x made listed u)) t.waits
finish-waits stood true at x made listed u t = refl
finish-waits stood false at x made listed u t = refl

pub waits-act : (config : SpaceConfig) (events : List Event) (e : Event) (t : ExportTable) (effective : Bool) (at : ℕ) → at ≡ max e.moment (now (places config events)) →
    effective ≡ is_effective config (places config events) e.by e.ask → t.space ≡ config.uid → t.ack ≡ config.ack_ms → t.added ≡ exported_count (places config events) →
    t.rows ≡ rows_of (places config events) (table config (places config events)) →
    WaitsStand reference_of end_of config.ack_ms (now (places config events)) (places config events) t.waits →
    WaitsStand reference_of end_of config.ack_ms (max e.moment (now (places config events))) (place_of config (places config events) e ∷ places config events) (acted_exports (stood_for (places config events) e.ask) effective at e.ask t).waits
waits-act config events e t effective at time eff space ack count rows w = go e.ask refl effective eff
  where
    stood : Option ObjId
    stood = stood_for (places config events) e.ask

    Goal : List Wait → Type 0
    Goal ws = WaitsStand reference_of end_of config.ack_ms (max e.moment (now (places config events))) (place_of config (places config events) e ∷ places config events) ws

    other : ((u : Uid) → is_ack_of u e.ask ≡ false) → (u : Uid) → is_ack_of u (place_of config (places config events) e).event.ask ≡ false
    other n u = ap (is_ack_of u) (ask-place_of config (places config events) e) ∙ n u

    pushed : ((u : Uid) → is_ack_of u e.ask ≡ false) → Goal (listed_all reference_of end_of wait_of config.ack_ms (max e.moment (now (places config events))) (returned_references (place_of config (places config events) e)) t.waits)
    pushed n = waits-push reference_of end_of wait_of config events e t.waits (λ s k. refl) (λ s k. refl) (other n) w

    quiet : ((u : Uid) → is_ack_of u e.ask ≡ false) → return_uid e.ask ≡ None → Goal t.waits
    quiet n silent =
        let G : List Returned → Type 0 = λ rs. Goal (listed_all reference_of end_of wait_of config.ack_ms (max e.moment (now (places config events))) rs t.waits) in
        subst G (returned-is config (places config events) e t.rows rows
        ∙ ap (λ u. flat_map (λ v. references v (returned_by config.uid (exported_count (places config events)) t.rows stood (is_effective config (places config events) e.by e.ask) e.ask)) (option_to_list u)) silent) (pushed n)

    returns : (v : Bool) (a : Ask) (u : Uid) → e.ask ≡ a → return_uid a ≡ Some u → ((y : Uid) → is_ack_of y a ≡ false) → v ≡ is_effective config (places config events) e.by e.ask →
        (acted_exports stood v at a t).waits ≡ with_each_listed t.ack at u (returned_by t.space t.added t.rows stood v a) t.waits → Goal (acted_exports stood v at a t).waits
    returns v a u s k n f is =
        let G : List Returned → Type 0 = λ rs. Goal (listed_all reference_of end_of wait_of config.ack_ms (max e.moment (now (places config events))) rs t.waits) in
        let H : List Wait → Type 0 = λ ws. Goal ws in
        subst H (listed-each-is config.ack_ms (max e.moment (now (places config events))) u (returned_by config.uid (exported_count (places config events)) t.rows stood (is_effective config (places config events) e.by e.ask) e.ask) t.waits
        ∙ ap (λ b. with_each_listed config.ack_ms (max e.moment (now (places config events))) u (returned_by config.uid (exported_count (places config events)) t.rows stood (is_effective config (places config events) e.by e.ask) b) t.waits) s
        ∙ ap (λ y. with_each_listed config.ack_ms (max e.moment (now (places config events))) u (returned_by config.uid (exported_count (places config events)) t.rows stood y a) t.waits) (sym f)
        ∙ ap (λ m. with_each_listed config.ack_ms (max e.moment (now (places config events))) u (returned_by config.uid m t.rows stood v a) t.waits) (sym count)
        ∙ ap (λ y. with_each_listed config.ack_ms (max e.moment (now (places config events))) u (returned_by y t.added t.rows stood v a) t.waits) (sym space)
        ∙ ap (λ m. with_each_listed m (max e.moment (now (places config events))) u (returned_by t.space t.added t.rows stood v a) t.waits) (sym ack)
        ∙ ap (λ m. with_each_listed t.ack m u (returned_by t.space t.added t.rows stood v a) t.waits) (sym time)
        ∙ sym is)
        (subst G (returned-with config (places config events) e t.rows u (ap return_uid s ∙ k) rows) (pushed (λ y. ap (is_ack_of y) s ∙ n y)))

    go : (a : Ask) → e.ask ≡ a → (effective : Bool) → effective ≡ is_effective config (places config events) e.by e.ask → Goal (acted_exports stood effective at a t).waits
    go (Ack u) s effective f = waits-push-ack reference_of end_of config events e u t.waits s w
    go (Open kind pinned) s effective f = quiet (λ u. ap (is_ack_of u) s) (ap return_uid s)
    go (Begin o) s true f = quiet (λ u. ap (is_ack_of u) s) (ap return_uid s)
    go (Begin o) s false f = quiet (λ u. ap (is_ack_of u) s) (ap return_uid s)
    go (Abandon o) s true f = quiet (λ u. ap (is_ack_of u) s) (ap return_uid s)
    go (Abandon o) s false f = quiet (λ u. ap (is_ack_of u) s) (ap return_uid s)
    go (Finish x y z v) s effective f = returns effective (Finish x y z v) v s refl (λ u. refl) f (finish-waits stood effective at x y z v t)
    go (Lookup n u) s effective f = returns effective (Lookup n u) u s refl (λ y. refl) f refl
    go (Dirty x y z v) s effective f = quiet (λ u. ap (is_ack_of u) s) (ap return_uid s)
    go (Clean x y z v) s effective f = quiet (λ u. ap (is_ack_of u) s) (ap return_uid s)
    go Tick s effective f = quiet (λ u. ap (is_ack_of u) s) (ap return_uid s)
    go (Bind x y) s true f = quiet (λ u. ap (is_ack_of u) s) (ap return_uid s)
    go (Bind x y) s false f = quiet (λ u. ap (is_ack_of u) s) (ap return_uid s)
    go (Rebind x y) s true f = quiet (λ u. ap (is_ack_of u) s) (ap return_uid s)
    go (Rebind x y) s false f = quiet (λ u. ap (is_ack_of u) s) (ap return_uid s)
    go (Unbind x) s true f = quiet (λ u. ap (is_ack_of u) s) (ap return_uid s)
    go (Unbind x) s false f = quiet (λ u. ap (is_ack_of u) s) (ap return_uid s)
    go ListNames s effective f = quiet (λ u. ap (is_ack_of u) s) (ap return_uid s)

-- ---- the running calls

runs-quiet : (config : SpaceConfig) (events : List Event) (e : Event) (runs : List Run) → ((o : ObjId) → is_begin_of o e.ask ≡ false) → ((o : ObjId) → is_end_of o e.ask ≡ false) → is_begin e.ask ≡ false → is_end e.ask ≡ false →
    RunsStand caller_of object_of (places config events) runs → RunsStand caller_of object_of (place_of config (places config events) e ∷ places config events) runs
unfolding place_of
runs-quiet config events e runs bo eo bn en r =
    runs-other caller_of object_of config events e runs
    (λ b o. rw (bo o) (and_false (is_effective config (places config events) e.by e.ask && e.by == b))) (λ b o. rw (eo o) (and_false (is_effective config (places config events) e.by e.ask && e.by == b)))
    (λ o. rw (bo o) (and_false (is_effective config (places config events) e.by e.ask))) (λ o. rw (eo o) (and_false (is_effective config (places config events) e.by e.ask)))
    (rw bn (and_false (is_effective config (places config events) e.by e.ask))) (rw en (and_false (is_effective config (places config events) e.by e.ask))) r

runs-still : (config : SpaceConfig) (events : List Event) (e : Event) (runs : List Run) → is_effective config (places config events) e.by e.ask ≡ false →
    RunsStand caller_of object_of (places config events) runs → RunsStand caller_of object_of (place_of config (places config events) e ∷ places config events) runs
unfolding place_of
runs-still config events e runs n r =
    runs-other caller_of object_of config events e runs (λ b o. rw n refl) (λ b o. rw n refl) (λ o. rw n refl) (λ o. rw n refl) (rw n refl) (rw n refl) r

begin-there : (config : SpaceConfig) (h : History) (by : ℕ) (o : ObjId) → is_effective config h by (Begin o) ≡ true → has (table config h) o ≡ true
unfolding is_effective
begin-there config h by o e = e

abandon-runs : (config : SpaceConfig) (h : History) (by : ℕ) (o : ObjId) → is_effective config h by (Abandon o) ≡ true → 0 < running_calls_by h by o
unfolding is_effective
abandon-runs config h by o e = ltb-true 0 (running_calls_by h by o) e

finish-runs : (config : SpaceConfig) (h : History) (by : ℕ) (o : ObjId) (made : List ℕ) (listed : List ObjId) (u : Uid) → is_effective config h by (Finish o made listed u) ≡ true → 0 < running_calls_by h by o
unfolding is_effective
finish-runs config h by o made listed u e = ltb-true 0 (running_calls_by h by o) e

pub runs-act : (config : SpaceConfig) (events : List Event) (e : Event) (runs : List Run) → RunsStand caller_of object_of (places config events) runs →
    RunsStand caller_of object_of (place_of config (places config events) e ∷ places config events) (acted_runs (is_effective config (places config events) e.by e.ask) e.by e.ask runs)
runs-act config events e runs r = go e.ask refl (is_effective config (places config events) e.by e.ask) refl
  where
    Goal : List Run → Type 0
    Goal rs = RunsStand caller_of object_of (place_of config (places config events) e ∷ places config events) rs

    quiet : ((o : ObjId) → is_begin_of o e.ask ≡ false) → ((o : ObjId) → is_end_of o e.ask ≡ false) → is_begin e.ask ≡ false → is_end e.ask ≡ false → Goal runs
    quiet bo eo bn en = runs-quiet config events e runs bo eo bn en r

    go : (a : Ask) → e.ask ≡ a → (effective : Bool) → is_effective config (places config events) e.by e.ask ≡ effective → Goal (acted_runs effective e.by a runs)
    go (Begin o) s true f =
        runs-begin caller_of object_of config events e o runs (record { by = e.by; object = o }) s
        (begin-there config (places config events) e.by o (ap (is_effective config (places config events) e.by) (sym s) ∙ f)) refl refl r
    go (Begin o) s false f = runs-still config events e runs f r
    go (Abandon o) s true f =
        runs-end caller_of object_of config events e o runs (abandon-ends o e.ask s) (abandon-runs config (places config events) e.by o (ap (is_effective config (places config events) e.by) (sym s) ∙ f)) f r
    go (Abandon o) s false f = runs-still config events e runs f r
    go (Open kind pinned) s effective f = quiet (λ o. ap (is_begin_of o) s) (λ o. ap (is_end_of o) s) (ap is_begin s) (ap is_end s)
    go (Dirty x y z v) s effective f = quiet (λ o. ap (is_begin_of o) s) (λ o. ap (is_end_of o) s) (ap is_begin s) (ap is_end s)
    go (Clean x y z v) s effective f = quiet (λ o. ap (is_begin_of o) s) (λ o. ap (is_end_of o) s) (ap is_begin s) (ap is_end s)
    go (Ack u) s effective f = quiet (λ o. ap (is_begin_of o) s) (λ o. ap (is_end_of o) s) (ap is_begin s) (ap is_end s)
    go Tick s effective f = quiet (λ o. ap (is_begin_of o) s) (λ o. ap (is_end_of o) s) (ap is_begin s) (ap is_end s)
    go (Finish o y z v) s true f =
        runs-end caller_of object_of config events e o runs (finish-ends o e.ask y z v s)
        (finish-runs config (places config events) e.by o y z v (ap (is_effective config (places config events) e.by) (sym s) ∙ f)) f r
    go (Finish o y z v) s false f = runs-still config events e runs f r
    go (Bind x y) s effective f = quiet (λ o. ap (is_begin_of o) s) (λ o. ap (is_end_of o) s) (ap is_begin s) (ap is_end s)
    go (Rebind x y) s effective f = quiet (λ o. ap (is_begin_of o) s) (λ o. ap (is_end_of o) s) (ap is_begin s) (ap is_end s)
    go (Unbind x) s effective f = quiet (λ o. ap (is_begin_of o) s) (λ o. ap (is_end_of o) s) (ap is_begin s) (ap is_end s)
    go (Lookup x y) s effective f = quiet (λ o. ap (is_begin_of o) s) (λ o. ap (is_end_of o) s) (ap is_begin s) (ap is_end s)
    go ListNames s effective f = quiet (λ o. ap (is_begin_of o) s) (λ o. ap (is_end_of o) s) (ap is_begin s) (ap is_end s)

-- ---- whether it is effective

pub effective-is : (config : SpaceConfig) (events : List Event) (by : ℕ) (a : Ask) (rows : List Export) (runs : List Run) → rows ≡ rows_of (places config events) (table config (places config events)) →
    RunsStand caller_of object_of (places config events) runs → effective_by rows runs (stood_for (places config events) a) by a ≡ is_effective config (places config events) by a
unfolding is_effective
effective-is config events by a rows runs rs r = go a
  where
    there : (o : ObjId) → is_exported rows o ≡ has (table config (places config events)) o
    there o = ap (λ l. is_exported l o) rs ∙ exported-has (places config events) (table config (places config events)) o

    go : (a : Ask) → effective_by rows runs (stood_for (places config events) a) by a ≡ is_effective config (places config events) by a
    go (Begin o) = there o
    go (Abandon o) = list_any-length (is_run by o) runs ∙ ap (nat_lt 0) (r.lines by o)
    go (Open kind pinned) = refl
    go (Dirty x y z v) = refl
    go (Clean x y z v) = refl
    go (Ack u) = refl
    go Tick = refl
    go (Finish o y z v) = list_any-length (is_run by o) runs ∙ ap (nat_lt 0) (r.lines by o)
    go (Bind n o) = ap (λ b. b && is_none (stands_for (places config events) n)) (there o)
    go (Rebind n o) = there o
    go (Unbind n) = refl
    go (Lookup n u) = refl
    go ListNames = refl
