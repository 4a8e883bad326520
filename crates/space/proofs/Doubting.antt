-- What can go at an event: only an object from which the event, or the time that passed, took what kept it, and one that the event exports.
use Rattle.std.proofs.Common.{◌≡◌, ℕ, ◌+◌, ◌≤◌, inl, inr, List, [], ◌∷◌, ◌++◌, refl, ap, sym, ◌∙◌, cond, max, arith, Option, Some, None}
use Rattle.std.specs.Prelude.{pos, Bool, true, false, not, ◌&&◌, ◌||◌, filter, nat_lt, option_to_list, if◌then◌else◌}
use Rattle.std.specs.List.{list_any, list_all}
use Rattle.std.proofs.lemmas.Bool.{and_parts, and_from, or_left, or_right, lt-ltb, true≢false}
use Rattle.std.proofs.lemmas.List.Folds.{list_any-append, list_all-append}
use Rattle.object_ids.specs.declared.ids.ObjId.{ObjId}
use Rattle.object_ids.specs.declared.ids.Uid.{Uid}
use Rattle.object_ids.specs.Same.{same_id, same_uid}
use Rattle.object_ids.proofs.Exact.{same_id-equal, same_id-self, same_id-true}
use Rattle.history.specs.declared.asks.Ask.{Ask}
use Rattle.history.specs.declared.asks.Ask.TheVariants.{Open, Begin, Finish, Abandon, Dirty, Clean, Ack, Bind, Rebind, Unbind, Lookup, List as ListNames, Tick}
use Rattle.history.specs.declared.calls.Call.{Call}
use Rattle.history.specs.declared.calls.CallKind.TheVariants.{Dirty as DirtyCall, Weak, Strong}
use Rattle.history.specs.LeaseCalls.{call_with}
use Rattle.history.specs.Leases.{is_naming, is_held}
use Rattle.history.specs.Places.{id_at}
use Rattle.history.proofs.ListLemmas.{list_any-filter, filter-same, every-always}
use Rattle.dgc_server.specs.StandsForCalls.{LeaseTable, ForEachLog}
use Rattle.export_table.specs.declared.rows.Export.{Export}
use Rattle.export_table.specs.declared.waits.Wait.{Wait}
use Rattle.export_table.specs.ExportRows.{is_of, is_exported, is_pinned, is_among, new_row, with_row_changed, with_call_begun, with_call_ended, pinned_once, unpinned_once, with_pin_removed}
use Rattle.export_table.specs.StandsForHistory.{added_rows}
use Rattle.export_table.specs.Table.{ExportTable}
use Rattle.export_table.specs.Waits.{is_wait_of, goes_on, still_waiting, ended_waits, of_return, objects, is_awaited, end_of_wait, with_listed, with_each_listed, without_acknowledged}
use Rattle.space.specs.Acts.{acted_exports, new_ids, returned_by}
use Rattle.space.specs.Doubts.{taken_by, AreInDoubt}
use Rattle.space.proofs.Holding.{any-weaker, held-call}

abbrev pub among : List ObjId → ObjId → Bool
among os o = list_any (same_id o) os

-- ---- lists

swap : (a b : ObjId) → same_id a b ≡ true → same_id b a ≡ true
swap a b h = same_id-true b a (sym (same_id-equal a b h))

pub any-left : {X : Type 0} (p : X → Bool) (xs ys : List X) → list_any p xs ≡ true → list_any p (xs ++ ys) ≡ true
any-left p xs ys h = list_any-append p xs ys ∙ or_left (list_any p xs) (list_any p ys) h

pub any-right : {X : Type 0} (p : X → Bool) (xs ys : List X) → list_any p ys ≡ true → list_any p (xs ++ ys) ≡ true
any-right p xs ys h = list_any-append p xs ys ∙ or_right (list_any p xs) (list_any p ys) h

pub weaken : (a b c : Bool) → (b ≡ true → c ≡ true) → (a || b) ≡ true → (a || c) ≡ true
weaken true b c f h = refl
weaken false b c f h = f h

pub three : (a b c : Bool) → ((a || b) || c) ≡ (a || (b || c))
three true b c = refl
three false b c = refl

-- ---- waits

-- A wait that passes goes or stays.
goes-or-stays : (g p : Wait → Bool) (o : ObjId) → ((w : Wait) → p w ≡ true → same_id o w.object ≡ true) → (ws : List Wait) → list_any p ws ≡ true →
    (among (objects (filter (λ w. not (g w)) ws)) o || list_any p (filter g ws)) ≡ true
goes-or-stays g p o f [] h = absurd (cc)
goes-or-stays g p o f (w ∷ ws) h = go (g w) (p w) refl h (goes-or-stays g p o f ws)
  where
    gone : List Wait
    gone = filter (λ v. not (g v)) ws

    stay : List Wait
    stay = filter g ws

    skip : (a b l : Bool) → (b || l) ≡ true → ((a || b) || l) ≡ true
    skip true b l h = refl
    skip false b l h = h

    go : (b c : Bool) → p w ≡ c → (c || list_any p ws) ≡ true → (list_any p ws ≡ true → (among (objects gone) o || list_any p stay) ≡ true) →
        (among (objects (cond (not b) (w ∷ gone) gone)) o || list_any p (cond b (w ∷ stay) stay)) ≡ true
    go true true k h r = or_right (among (objects gone) o) (p w || list_any p stay) (or_left (p w) (list_any p stay) k)
    go true false k h r = weaken (among (objects gone) o) (list_any p stay) (p w || list_any p stay) (or_right (p w) (list_any p stay)) (r h)
    go false true k h r = or_left (same_id o w.object || among (objects gone) o) (list_any p stay) (or_left (same_id o w.object) (among (objects gone) o) (f w k))
    go false false k h r = skip (same_id o w.object) (among (objects gone) o) (list_any p stay) (r h)

-- As time passes.
pub awaited-later : (m t : ℕ) (o : ObjId) (ws : List Wait) → is_awaited m o ws ≡ true → (among (objects (ended_waits t ws)) o || is_awaited t o ws) ≡ true
awaited-later m t o ws h =
    weaken (among (objects (ended_waits t ws)) o) (list_any (λ w. goes_on m w && same_id w.object o) (filter (goes_on t) ws)) (is_awaited t o ws)
    (λ k. any-weaker (λ w. goes_on t w && (goes_on m w && same_id w.object o)) (λ w. goes_on t w && same_id w.object o)
    (λ w l. let two = and_parts (goes_on t w) (goes_on m w && same_id w.object o) l in
    and_from (goes_on t w) (same_id w.object o) two.0 (and_parts (goes_on m w) (same_id w.object o) two.1).1)
    ws (sym (list_any-filter (λ w. goes_on m w && same_id w.object o) (goes_on t) ws) ∙ k))
    (goes-or-stays (goes_on t) (λ w. goes_on m w && same_id w.object o) o (λ w k. swap w.object o (and_parts (goes_on m w) (same_id w.object o) k).1) ws h)

-- As a reference is listed.
listed-awaits : (ack t : ℕ) (o q : ObjId) (u : Uid) (ws : List Wait) → 1 ≤ ack → is_awaited t o ws ≡ true → is_awaited t o (with_listed ack t q u ws) ≡ true
listed-awaits ack t o q u ws some h = go (same_id q o) refl
  where
    new : Wait
    new = record { object = q; uid = u; until = max (t + ack) (end_of_wait q u ws) }

    on : Wait → Bool
    on w = goes_on t w && same_id w.object o

    other : Wait → Bool
    other w = not (is_wait_of q u w)

    later : goes_on t new ≡ true
    later = lt-ltb t (max (t + ack) (end_of_wait q u ws)) (omega arith)

    apart : same_id q o ≡ false → (w : Wait) → same_id w.object o ≡ true → (b : Bool) → same_id w.object q ≡ b → not (b && same_uid w.uid u) ≡ true
    apart e w k false l = refl
    apart e w k true l = absurd (
        let one : same_id q o ≡ true = same_id-true q o (sym (same_id-equal w.object q l) ∙ same_id-equal w.object o k) in cc)

    go : (b : Bool) → same_id q o ≡ b → is_awaited t o (with_listed ack t q u ws) ≡ true
    go true e =
        any-right on (filter other (still_waiting t ws)) (new ∷ []) (or_left (on new) false (and_from (goes_on t new) (same_id q o) later e))
    go false e =
        any-left on (filter other (still_waiting t ws)) (new ∷ [])
        (list_any-filter on other (still_waiting t ws) ∙ list_any-filter (λ w. other w && on w) (goes_on t) ws
        ∙ any-weaker on (λ w. goes_on t w && (other w && on w))
        (λ w k. let two = and_parts (goes_on t w) (same_id w.object o) k in
        and_from (goes_on t w) (other w && on w) two.0 (and_from (other w) (on w) (apart e w two.1 (same_id w.object q) refl) k)) ws h)

listed-each-awaits : (ack t : ℕ) (o : ObjId) (u : Uid) (os : List ObjId) (ws : List Wait) → 1 ≤ ack → is_awaited t o ws ≡ true → is_awaited t o (with_each_listed ack t u os ws) ≡ true
listed-each-awaits ack t o u [] ws some h = h
listed-each-awaits ack t o u (q ∷ os) ws some h = listed-each-awaits ack t o u os (with_listed ack t q u ws) some (listed-awaits ack t o q u ws some h)

twice-not : (u : Uid) (ws : List Wait) → filter (λ w. not (not (same_uid w.uid u))) ws ≡ of_return u ws
twice-not u ws = filter-same (λ w. not (not (same_uid w.uid u))) (λ w. same_uid w.uid u) ws (every-always (λ w. not (not (same_uid w.uid u)) ≡ same_uid w.uid u) (λ w. twice (same_uid w.uid u)) ws)
  where
    twice : (b : Bool) → not (not b) ≡ b
    twice true = refl
    twice false = refl

-- At an event.
pub waits-stay : (stood : Option ObjId) (effective : Bool) (t : ℕ) (a : Ask) (x : ExportTable) (fresh : ObjId) (returned : List ObjId) (o : ObjId) → 1 ≤ x.ack → is_awaited t o x.waits ≡ true →
    (among (taken_by x.waits fresh stood returned a) o || is_awaited t o (acted_exports stood effective t a x).waits) ≡ true
waits-stay stood effective t (Ack u) x fresh returned o some h =
    ap (λ l. among (objects l) o || is_awaited t o (without_acknowledged u x.waits)) (sym (twice-not u x.waits))
    ∙ goes-or-stays (λ w. not (same_uid w.uid u)) (λ w. goes_on t w && same_id w.object o) o (λ w k. swap w.object o (and_parts (goes_on t w) (same_id w.object o) k).1) x.waits h
waits-stay stood true t (Finish object made named u) x fresh returned o some h =
    or_right (among (object ∷ returned) o) _ (listed-each-awaits x.ack t o u (new_ids x.space x.added made ++ filter (is_exported x.rows) named) x.waits some h)
waits-stay stood false t (Finish object made named u) x fresh returned o some h = or_right (among (object ∷ returned) o) _ h
waits-stay stood effective t (Lookup name u) x fresh returned o some h = listed-each-awaits x.ack t o u (option_to_list stood) x.waits some h
waits-stay stood effective t (Open kind pinned) x fresh returned o some h = or_right (among (fresh ∷ []) o) _ h
waits-stay stood true t (Begin object) x fresh returned o some h = h
waits-stay stood false t (Begin object) x fresh returned o some h = h
waits-stay stood true t (Abandon object) x fresh returned o some h = or_right (among (object ∷ []) o) _ h
waits-stay stood false t (Abandon object) x fresh returned o some h = or_right (among (object ∷ []) o) _ h
waits-stay stood effective t (Dirty c n g named) x fresh returned o some h = h
waits-stay stood effective t (Clean c n named strong) x fresh returned o some h = or_right (among named o) _ h
waits-stay stood effective t Tick x fresh returned o some h = h
waits-stay stood true t (Bind n object) x fresh returned o some h = or_right (among (option_to_list stood) o) _ h
waits-stay stood false t (Bind n object) x fresh returned o some h = or_right (among (option_to_list stood) o) _ h
waits-stay stood true t (Rebind n object) x fresh returned o some h = or_right (among (option_to_list stood) o) _ h
waits-stay stood false t (Rebind n object) x fresh returned o some h = or_right (among (option_to_list stood) o) _ h
waits-stay stood true t (Unbind n) x fresh returned o some h = or_right (among (option_to_list stood) o) _ h
waits-stay stood false t (Unbind n) x fresh returned o some h = or_right (among (option_to_list stood) o) _ h
waits-stay stood effective t ListNames x fresh returned o some h = h

-- ---- leases

-- What clients hold at an event.
pub holds-stay : (names : ObjId → Bool) (lease t : ℕ) (a : Ask) (calls : List Call) (waits : List Wait) (fresh : ObjId) (stood : Option ObjId) (returned : List ObjId) (o : ObjId) → 1 ≤ lease → is_held lease t calls o ≡ true →
    (among (taken_by waits fresh stood returned a) o || is_held lease t (call_with names t a ++ calls) o) ≡ true
holds-stay names lease t (Dirty c n g named) calls waits fresh stood returned o some h =
    held-call lease calls (record { moment = t; client = c; number = n; objects = filter names named; kind = DirtyCall; asked = g }) o some (inl refl) h
holds-stay names lease t (Clean c n named strong) calls waits fresh stood returned o some h = go (is_naming o call) refl
  where
    call : Call
    call = record { moment = t; client = c; number = n; objects = filter names named; kind = if strong then Strong else Weak; asked = pos 0 }

    go : (b : Bool) → is_naming o call ≡ b → (among named o || is_held lease t (call ∷ calls) o) ≡ true
    go false e = or_right (among named o) (is_held lease t (call ∷ calls) o) (held-call lease calls call o some (inr e) h)
    go true e =
        or_left (among named o) (is_held lease t (call ∷ calls) o)
        (any-weaker (λ y. names y && same_id y o) (same_id o) (λ y k. swap y o (and_parts (names y) (same_id y o) k).1) named
        (sym (list_any-filter (λ y. same_id y o) names named) ∙ e))
holds-stay names lease t (Open kind pinned) calls waits fresh stood returned o some h = or_right (among (fresh ∷ []) o) _ h
holds-stay names lease t (Begin object) calls waits fresh stood returned o some h = h
holds-stay names lease t (Finish object made named u) calls waits fresh stood returned o some h = or_right (among (object ∷ returned) o) _ h
holds-stay names lease t (Abandon object) calls waits fresh stood returned o some h = or_right (among (object ∷ []) o) _ h
holds-stay names lease t (Ack u) calls waits fresh stood returned o some h = or_right (among (objects (of_return u waits)) o) _ h
holds-stay names lease t Tick calls waits fresh stood returned o some h = h
holds-stay names lease t (Bind n object) calls waits fresh stood returned o some h = or_right (among (option_to_list stood) o) _ h
holds-stay names lease t (Rebind n object) calls waits fresh stood returned o some h = or_right (among (option_to_list stood) o) _ h
holds-stay names lease t (Unbind n) calls waits fresh stood returned o some h = or_right (among (option_to_list stood) o) _ h
holds-stay names lease t (Lookup n u) calls waits fresh stood returned o some h = h
holds-stay names lease t ListNames calls waits fresh stood returned o some h = h

-- ---- rows

-- A row is in doubt, or is kept: by its pins and calls, or by what this test says of its object.
abbrev pub is_safe : List ObjId → (ObjId → Bool) → Export → Bool
is_safe os test x = is_among os x || (is_pinned x || test x.id)

-- Before the event each is kept. What kept it by one test keeps it by another, or it is in doubt.
pub safe-before : (os : List ObjId) (before test : ObjId → Bool) → ((o : ObjId) → before o ≡ true → (among os o || test o) ≡ true) → (rows : List Export) →
    list_all (λ x. is_pinned x || before x.id) rows ≡ true → list_all (is_safe os test) rows ≡ true
safe-before os before test f [] h = refl
safe-before os before test f (x ∷ rows) h =
    let two = and_parts (is_pinned x || before x.id) (list_all (λ y. is_pinned y || before y.id) rows) h in
    and_from (is_safe os test x) (list_all (is_safe os test) rows) (one (is_among os x) (is_pinned x) (before x.id) (test x.id) two.0 (f x.id)) (safe-before os before test f rows two.1)
  where
    one : (m p b q : Bool) → (p || b) ≡ true → (b ≡ true → (m || q) ≡ true) → (m || (p || q)) ≡ true
    one true p b q h f = refl
    one false true b q h f = refl
    one false false b q h f = f h

-- A test that says no less.
pub safe-more : (os : List ObjId) (test more : ObjId → Bool) → ((o : ObjId) → test o ≡ true → more o ≡ true) → (rows : List Export) → list_all (is_safe os test) rows ≡ true → list_all (is_safe os more) rows ≡ true
safe-more os test more f [] h = refl
safe-more os test more f (x ∷ rows) h =
    let two = and_parts (is_safe os test x) (list_all (is_safe os test) rows) h in
    and_from (is_safe os more x) (list_all (is_safe os more) rows)
    (weaken (is_among os x) (is_pinned x || test x.id) (is_pinned x || more x.id) (weaken (is_pinned x) (test x.id) (more x.id) (f x.id)) two.0) (safe-more os test more f rows two.1)

-- A change to the row of an object that leaves it kept, or of one in doubt.
safe-changed : (os : List ObjId) (test : ObjId → Bool) (f : Export → Export) (o : ObjId) → ((x : Export) → is_of o x ≡ true → is_safe os test (f x) ≡ true) → (rows : List Export) →
    list_all (is_safe os test) rows ≡ true → list_all (is_safe os test) (with_row_changed f o rows) ≡ true
safe-changed os test f o g [] h = refl
safe-changed os test f o g (x ∷ rows) h =
    let two = and_parts (is_safe os test x) (list_all (is_safe os test) rows) h in
    and_from (is_safe os test (if is_of o x then f x else x)) (list_all (is_safe os test) (with_row_changed f o rows)) (go (is_of o x) refl two.0) (safe-changed os test f o g rows two.1)
  where
    go : (b : Bool) → is_of o x ≡ b → is_safe os test x ≡ true → is_safe os test (if b then f x else x) ≡ true
    go true e k = g x e
    go false e k = k

safe-pinned : (os : List ObjId) (test : ObjId → Bool) (x : Export) → is_pinned x ≡ true → is_safe os test x ≡ true
safe-pinned os test x p = or_right (is_among os x) (is_pinned x || test x.id) (or_left (is_pinned x) (test x.id) p)

-- One in doubt.
safe-doubtful : (os : List ObjId) (test : ObjId → Bool) (o : ObjId) (x : Export) → same_id x.id o ≡ true → among os o ≡ true → is_safe os test x ≡ true
safe-doubtful os test o x e d = or_left (is_among os x) (is_pinned x || test x.id) (ap (among os) (same_id-equal x.id o e) ∙ d)

begun-pinned : (x : Export) → is_pinned (with_call_begun x) ≡ true
begun-pinned x = or_right (x.pinned || nat_lt 0 x.pins) (nat_lt 0 (x.running + 1)) (lt-ltb 0 (x.running + 1) (omega arith))

once-pinned : (x : Export) → is_pinned (pinned_once x) ≡ true
once-pinned x = or_left (x.pinned || nat_lt 0 (x.pins + 1)) (nat_lt 0 x.running) (or_right x.pinned (nat_lt 0 (x.pins + 1)) (lt-ltb 0 (x.pins + 1) (omega arith)))

safe-added : (os : List ObjId) (test : ObjId → Bool) (space : Uid) (k : ℕ) (pinned : Bool) (made : List ℕ) → ((o : ObjId) → among (new_ids space k made) o ≡ true → among os o ≡ true) →
    list_all (is_safe os test) (added_rows space k pinned made) ≡ true
safe-added os test space k pinned [] f = refl
safe-added os test space k pinned (kind ∷ made) f =
    and_from (is_safe os test (new_row (id_at space k) kind pinned)) (list_all (is_safe os test) (added_rows space (k + 1) pinned made))
    (safe-doubtful os test (id_at space k) (new_row (id_at space k) kind pinned) (same_id-self (id_at space k))
    (f (id_at space k) (or_left (same_id (id_at space k) (id_at space k)) (among (new_ids space (k + 1) made) (id_at space k)) (same_id-self (id_at space k)))))
    (safe-added os test space (k + 1) pinned made (λ o h. f o (or_right (same_id o (id_at space k)) (among (new_ids space (k + 1) made) o) h)))

safe-both : (os : List ObjId) (test : ObjId → Bool) (xs ys : List Export) → list_all (is_safe os test) xs ≡ true → list_all (is_safe os test) ys ≡ true → list_all (is_safe os test) (xs ++ ys) ≡ true
safe-both os test xs ys a b = list_all-append (is_safe os test) xs ys ∙ and_from (list_all (is_safe os test) xs) (list_all (is_safe os test) ys) a b

first-among : (o : ObjId) (os : List ObjId) → among (o ∷ os) o ≡ true
first-among o os = or_left (same_id o o) (among os o) (same_id-self o)

safe-unpinned : (os : List ObjId) (test : ObjId → Bool) (stood : Option ObjId) → ((o : ObjId) → among (option_to_list stood) o ≡ true → among os o ≡ true) → (rows : List Export) →
    list_all (is_safe os test) rows ≡ true → list_all (is_safe os test) (with_pin_removed stood rows) ≡ true
safe-unpinned os test None f rows h = h
safe-unpinned os test (Some o) f rows h = safe-changed os test unpinned_once o (λ x e. safe-doubtful os test o (unpinned_once x) e (f o (first-among o []))) rows h

-- At the event.
pub safe-after : (os : List ObjId) (test : ObjId → Bool) (stood : Option ObjId) (effective : Bool) (t : ℕ) (a : Ask) (x : ExportTable) →
    ((o : ObjId) → among (taken_by x.waits (id_at x.space x.added) stood (returned_by x.space x.added x.rows stood effective a) a) o ≡ true → among os o ≡ true) →
    list_all (is_safe os test) x.rows ≡ true → list_all (is_safe os test) (acted_exports stood effective t a x).rows ≡ true
safe-after os test stood effective t (Open kind pinned) x f h =
    safe-both os test x.rows (new_row (id_at x.space x.added) kind pinned ∷ []) h
    (and_from (is_safe os test (new_row (id_at x.space x.added) kind pinned)) true
    (safe-doubtful os test (id_at x.space x.added) (new_row (id_at x.space x.added) kind pinned) (same_id-self (id_at x.space x.added)) (f (id_at x.space x.added) (first-among (id_at x.space x.added) []))) refl)
safe-after os test stood true t (Begin o) x f h = safe-changed os test with_call_begun o (λ y e. safe-pinned os test (with_call_begun y) (begun-pinned y)) x.rows h
safe-after os test stood false t (Begin o) x f h = h
safe-after os test stood true t (Finish o made named u) x f h =
    safe-both os test (with_row_changed with_call_ended o x.rows) (added_rows x.space x.added false made)
    (safe-changed os test with_call_ended o (λ y e. safe-doubtful os test o (with_call_ended y) e (f o (first-among o (new_ids x.space x.added made ++ filter (is_exported x.rows) named)))) x.rows h)
    (safe-added os test x.space x.added false made
    (λ q k. f q (or_right (same_id q o) (among (new_ids x.space x.added made ++ filter (is_exported x.rows) named) q) (any-left (same_id q) (new_ids x.space x.added made) (filter (is_exported x.rows) named) k))))
safe-after os test stood false t (Finish o made named u) x f h = h
safe-after os test stood true t (Abandon o) x f h = safe-changed os test with_call_ended o (λ y e. safe-doubtful os test o (with_call_ended y) e (f o (first-among o []))) x.rows h
safe-after os test stood false t (Abandon o) x f h = h
safe-after os test stood true t (Bind n o) x f h =
    safe-unpinned os test stood f (with_row_changed pinned_once o x.rows) (safe-changed os test pinned_once o (λ y e. safe-pinned os test (pinned_once y) (once-pinned y)) x.rows h)
safe-after os test stood false t (Bind n o) x f h = h
safe-after os test stood true t (Rebind n o) x f h =
    safe-unpinned os test stood f (with_row_changed pinned_once o x.rows) (safe-changed os test pinned_once o (λ y e. safe-pinned os test (pinned_once y) (once-pinned y)) x.rows h)
safe-after os test stood false t (Rebind n o) x f h = h
safe-after os test stood true t (Unbind n) x f h = safe-unpinned os test stood f x.rows h
safe-after os test stood false t (Unbind n) x f h = h
safe-after os test stood effective t (Ack u) x f h = h
safe-after os test stood effective t (Lookup n u) x f h = h
safe-after os test stood effective t (Dirty c n g named) x f h = h
safe-after os test stood effective t (Clean c n named strong) x f h = h
safe-after os test stood effective t Tick x f h = h
safe-after os test stood effective t ListNames x f h = h

-- ---- the list of the objects in doubt

pub in-doubt : (leases : LeaseTable) (t : ℕ) (waits : List Wait) (taken freed ended os : List ObjId) →
    ForEachLog leases (λ lease moment calls. (o : ObjId) → is_held lease moment calls o ≡ true → is_held lease (max t moment) calls o ≡ false → among freed o ≡ true) →
    ended ≡ objects (ended_waits t waits) → os ≡ (freed ++ ended) ++ taken → AreInDoubt leases t waits taken os
in-doubt leases t waits taken freed ended os f e all = record {
  freed = λ lease moment calls s o held none. there o (any-left (same_id o) (freed ++ ended) taken (any-left (same_id o) freed ended (f lease moment calls s o held none)));
  ended = λ o h. there o (any-left (same_id o) (freed ++ ended) taken (any-right (same_id o) freed ended (ap (λ l. among l o) e ∙ h)));
  taken = λ o h. there o (any-right (same_id o) (freed ++ ended) taken h);
}
  where
    there : (o : ObjId) → among ((freed ++ ended) ++ taken) o ≡ true → among os o ≡ true
    there o h = ap (λ l. among l o) all ∙ h

-- Where time takes nothing, those from which the ask takes something.
pub in-doubt-taken : (leases : LeaseTable) (t : ℕ) (waits : List Wait) (taken : List ObjId) →
    ForEachLog leases (λ lease moment calls. (o : ObjId) → is_held lease moment calls o ≡ true → is_held lease (max t moment) calls o ≡ true) → ended_waits t waits ≡ [] → AreInDoubt leases t waits taken taken
in-doubt-taken leases t waits taken still none = record {
  freed = λ lease moment calls s o held lost. absurd (true≢false (sym (still lease moment calls s o held) ∙ lost));
  ended = λ o h. absurd (true≢false (sym h ∙ ap (λ ws. among (objects ws) o) none));
  taken = λ o h. h;
}

-- Where no wait has ended, none is over.
pub nothing-over : (t : ℕ) (ws : List Wait) → list_any (λ w. not (goes_on t w)) ws ≡ false → ended_waits t ws ≡ []
nothing-over t [] h = refl
nothing-over t (w ∷ ws) h = go (goes_on t w) h (nothing-over t ws)
  where
    go : (b : Bool) → (not b || list_any (λ v. not (goes_on t v)) ws) ≡ false → (list_any (λ v. not (goes_on t v)) ws ≡ false → ended_waits t ws ≡ []) → cond (not b) (w ∷ ended_waits t ws) (ended_waits t ws) ≡ []
    go true h f = f h
    go false h f = absurd (cc)
