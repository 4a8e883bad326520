-- An object that is forgotten: what is kept of each client stays settled, but for a client of which nothing is left.
use Rattle.std.proofs.Common.{◌≡◌, ℕ, ◌≤◌, List, [], ◌∷◌, refl, ap, sym, ◌∙◌, arith, cond, length, map}
use Rattle.std.specs.Prelude.{Bool, true, false, not, filter, nat_lt, if◌then◌else◌}
use Rattle.std.specs.List.{AllByRecursion}
use Rattle.object_ids.specs.declared.ids.ObjId.{ObjId}
use Rattle.object_ids.specs.Same.{same_id}
use Rattle.history.specs.declared.calls.Call.{Call}
use Rattle.dgc_server.specs.Counts.{without}
use Rattle.dgc_server.specs.Entry.{ObjectEntry, Entry, entry_after_lapse, is_entry_kept, entry_without, tenure_forgotten, strong_only, has_strong}
use Rattle.dgc_server.specs.Table.{after_lapse}
use Rattle.dgc_server.specs.StandsForCalls.{LeaseTable, StandsFor, is_in_order}
use Rattle.dgc_server.specs.HolderIndex.{IsSettled}
use Rattle.dgc_server.proofs.Tables.{order-without, table-lapsed}
use Rattle.dgc_server.proofs.Without.{table-without}

pub forgotten-filter : (q : ObjectEntry → Bool) → ((e : ObjectEntry) → q (strong_only e) ≡ q e) → (es : List ObjectEntry) → tenure_forgotten (filter q es) ≡ filter q (tenure_forgotten es)
forgotten-filter q k [] = refl
forgotten-filter q k (e ∷ es) = go (q e) (has_strong e) refl refl (forgotten-filter q k es)
  where
    go : (a b : Bool) → q e ≡ a → has_strong e ≡ b → tenure_forgotten (filter q es) ≡ filter q (tenure_forgotten es) →
        tenure_forgotten (cond a (e ∷ filter q es) (filter q es)) ≡ filter q (map strong_only (cond b (e ∷ filter has_strong es) (filter has_strong es)))
    go true true x y h = rw y (ap (λ l. strong_only e ∷ l) h ∙ sym (ap (λ b. cond b (strong_only e ∷ filter q (tenure_forgotten es)) (filter q (tenure_forgotten es))) (k e ∙ x)))
    go true false x y h = rw y h
    go false true x y h = h ∙ sym (ap (λ b. cond b (strong_only e ∷ filter q (tenure_forgotten es)) (filter q (tenure_forgotten es))) (k e ∙ x))
    go false false x y h = h

pub lapsed-without : (m n : ℕ) (o : ObjId) (e : Entry) → IsSettled m n e → entry_after_lapse m (entry_without o e) ≡ entry_without o e
lapsed-without m n o e s = go (nat_lt m e.until) s.forgotten
  where
    q : ObjectEntry → Bool
    q x = not (same_id x.object o)

    go : (b : Bool) → (if b then e else record e { objects = tenure_forgotten e.objects }) ≡ e →
        (if b then entry_without o e else record e { objects = tenure_forgotten (filter q e.objects) }) ≡ entry_without o e
    go true h = refl
    go false h = ap (λ os. record e { objects = os }) (forgotten-filter q (λ x. refl) e.objects ∙ ap (λ (x : Entry). filter q x.objects) h)

-- What is left is what a lapse would leave.
pub dropped-lapses : (m n : ℕ) (o : ObjId) (es : List Entry) → AllByRecursion (IsSettled m n) es → filter (is_entry_kept m) (map (entry_without o) es) ≡ after_lapse m (map (entry_without o) es)
dropped-lapses m n o [] a = refl
dropped-lapses m n o (e ∷ es) a =
    ap (λ l. cond (is_entry_kept m (entry_without o e)) (entry_without o e ∷ l) l) (dropped-lapses m n o es a.1)
    ∙ ap (λ x. cond (is_entry_kept m x) (x ∷ after_lapse m (map (entry_without o) es)) (after_lapse m (map (entry_without o) es))) (sym (lapsed-without m n o e a.0))

pub settled-dropped : (m n : ℕ) (o : ObjId) (es : List Entry) → AllByRecursion (IsSettled m n) es → AllByRecursion (IsSettled m n) (filter (is_entry_kept m) (map (entry_without o) es))
settled-dropped m n o [] a = tt
settled-dropped m n o (e ∷ es) a = go (is_entry_kept m (entry_without o e)) refl (settled-dropped m n o es a.1)
  where
    go : (b : Bool) → is_entry_kept m (entry_without o e) ≡ b → AllByRecursion (IsSettled m n) (filter (is_entry_kept m) (map (entry_without o) es)) →
        AllByRecursion (IsSettled m n) (cond b (entry_without o e ∷ filter (is_entry_kept m) (map (entry_without o) es)) (filter (is_entry_kept m) (map (entry_without o) es)))
    go true k rest = (record { forgotten = lapsed-without m n o e a.0; kept = k; later = a.0.later }, rest)
    go false k rest = rest

pub fewer-dropped : (m : ℕ) (o : ObjId) (es : List Entry) → length (filter (is_entry_kept m) (map (entry_without o) es)) ≤ length es
fewer-dropped m o [] = omega arith
fewer-dropped m o (e ∷ es) = go (is_entry_kept m (entry_without o e)) (fewer-dropped m o es)
  where
    go : (b : Bool) → length (filter (is_entry_kept m) (map (entry_without o) es)) ≤ length es →
        length (cond b (entry_without o e ∷ filter (is_entry_kept m) (map (entry_without o) es)) (filter (is_entry_kept m) (map (entry_without o) es))) ≤ length (e ∷ es)
    go true h = omega arith
    go false h = omega arith

-- THE TABLE THEN stands for the calls as if none had named the object.
pub table-dropped : (o : ObjId) (lease m : ℕ) (t u : LeaseTable) (calls : List Call) → StandsFor lease t m calls → is_in_order t.entries ≡ true →
    u.lease ≡ t.lease → u.moment ≡ t.moment → u.entries ≡ after_lapse m (map (entry_without o) t.entries) → StandsFor lease u m (map (without o) calls)
table-dropped o lease m t u calls s order a b e =
    let between : LeaseTable = record { lease = t.lease; moment = t.moment; entries = map (entry_without o) t.entries } in
    table-lapsed lease m m between u (map (without o) calls) (table-without o lease m t between calls s refl refl refl) (order-without o t.entries order) (omega arith) a (b ∙ s.is_moment) e
