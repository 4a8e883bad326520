-- What a table keeps, one call further.
use Rattle.std.proofs.Common.{◌≡◌, ℕ, suc, ◌+◌, List, [], ◌∷◌, ◌++◌, length, refl, ap, sym, ◌∙◌, arith, subst, cond, true≢false, Ok, Err}
use Rattle.std.specs.Prelude.{ℤ, pos, ◌+ℤ◌, Bool, true, false, ◌&&◌, ◌||◌, not, filter, find, int_le, nat_lt, nat_le, if◌then◌else◌, Option, Some, None, is_some, max, map, option_map, Result, OnOk, IfOk}
use Rattle.std.specs.List.{list_any}
use Rattle.std.specs.Ordering.{int_eq}
use Rattle.std.proofs.lemmas.Int.{ints}
use Rattle.object_ids.specs.Client.{Client}
use Rattle.object_ids.specs.declared.ids.ObjId.{ObjId}
use Rattle.object_ids.specs.Same.{same_id}
use Rattle.object_ids.proofs.Exact.{same_id-equal, same_id-self}
use Rattle.dgc_client.specs.declared.client_ref.ClientRef.{ClientRef}
use Rattle.dgc_client.specs.declared.plan.Plan.{Plan}
use Rattle.dgc_client.specs.declared.plan.Plan.TheVariants as plans
use Rattle.dgc_client.specs.declared.ref_map.Change.TheVariants.{Confirm, Strengthen}
use Rattle.dgc_client.specs.declared.limits.TheConstants.{LAST_NUMBER, MAX_REFS}
use Rattle.dgc_client.specs.Log.{ClientCall, Registers, Drops, Dues, Answers, Fails, Dirty, Good, Note, Ref, next, has_number, without_number, with_dirty, closed_by, under_way, dirty_of, names, asks_for, has_ref, refs_after, refs, until_after, until, renewal_after, renew_at, asks_in, is_sure, names_in, is_id, is_strong, is_wanting, is_renewing, due_names, objects_due, plan_of, new_dirty, good_if, good_of, note_of, notes, sure_if, is_usable, is_full, is_spent}
use Rattle.dgc_client.specs.RefMap.{has_id, new_ref, changed, changed_among, lapsed, sure_of}
use Rattle.dgc_client.specs.SentMap.{AreOnce, SameByNumber}
use Rattle.dgc_client.specs.StandsForLog.{Parts, as_told, StandsFor, is_over, lapsed_if, wants, ids_of, renews, due_of, with_answer, IsSent}
use Rattle.dgc_client.proofs.RefEntries.{same_id-turned}
use Rattle.dgc_client.proofs.Logs.{new-unsure, find-without, under-once, same-number, number-self}
use Rattle.dgc_client.proofs.SentEntries.{any-same, any-some}

-- ---- the parts after a call

-- What a note makes of a reference.
abbrev flags : Note → ClientRef → ClientRef
flags n r = record r {
  sure = asks_in n.good (record { id = r.id; since = r.since }) || (n.timely && r.sure);
  strong = names_in n.failed r.id || (not (is_id n.registered r.id) && r.strong);
}

told-flags : (n : Note) (ns : List Note) (rs : List Ref) → map (as_told (n ∷ ns)) rs ≡ map (flags n) (map (as_told ns) rs)
unfolding is_sure is_strong
told-flags n ns [] = refl
told-flags n ns (r ∷ rs) = ap (λ l. flags n (as_told ns r) ∷ l) (told-flags n ns rs)

map-same : {X : Type 0} (f : X → X) → ((x : X) → f x ≡ x) → (xs : List X) → map f xs ≡ xs
map-same f h [] = refl
map-same f h (x ∷ xs) = ap (λ y. y ∷ map f xs) (h x) ∙ ap (λ l. x ∷ l) (map-same f h xs)

map-alike : {X Y : Type 0} (f g : X → Y) → ((x : X) → f x ≡ g x) → (xs : List X) → map f xs ≡ map g xs
map-alike f g h [] = refl
map-alike f g h (x ∷ xs) = ap (λ y. y ∷ map f xs) (h x) ∙ ap (λ l. g x ∷ l) (map-alike f g h xs)

map-twice : {X : Type 0} (f g k : X → X) → ((x : X) → f (g x) ≡ k x) → (xs : List X) → map f (map g xs) ≡ map k xs
map-twice f g k h [] = refl
map-twice f g k h (x ∷ xs) = ap (λ y. y ∷ map f (map g xs)) (h x) ∙ ap (λ l. k x ∷ l) (map-twice f g k h xs)

map-append : {X Y : Type 0} (f : X → Y) (xs ys : List X) → map f (xs ++ ys) ≡ map f xs ++ map f ys
map-append f [] ys = refl
map-append f (x ∷ xs) ys = ap (λ l. f x ∷ l) (map-append f xs ys)

length-map : {X Y : Type 0} (f : X → Y) (xs : List X) → length (map f xs) ≡ length xs
length-map f [] = refl
length-map f (x ∷ xs) = ap suc (length-map f xs)

if-true : {X : Type 0} (b : Bool) (x y : X) → b ≡ true → (if b then x else y) ≡ x
if-true b x y h = ap (λ b. if b then x else y) h

if-false : {X : Type 0} (b : Bool) (x y : X) → b ≡ false → (if b then x else y) ≡ y
if-false b x y h = ap (λ b. if b then x else y) h

-- A table that stands for a log, after one more call.
told : (client : Client) (first : ℤ) (v w : Parts) (x : ClientCall) (calls : List ClientCall) → StandsFor client first v calls →
    w.vmid ≡ v.vmid →
    w.next ≡ (if is_some (note_of first (notes first calls) x).plan then v.next +ℤ pos 1 else v.next) →
    w.until ≡ until_after (note_of first (notes first calls) x).timely (note_of first (notes first calls) x).good v.until →
    w.renew_at ≡ renewal_after (note_of first (notes first calls) x).good v.renew_at →
    SameByNumber w.sent (with_dirty (note_of first (notes first calls) x).dirty (closed_by (note_of first (notes first calls) x).call (under_way (notes first calls)))) →
    w.refs ≡ map (as_told (note_of first (notes first calls) x ∷ notes first calls)) (refs_after (next first (notes first calls)) (note_of first (notes first calls) x).call (refs first (notes first calls))) →
    StandsFor client first w (x ∷ calls)
unfolding notes next until renew_at refs under_way
told client first v w x calls s i a b c d e = record {
  vmid_is = i ∙ s.vmid_is;
  next_is = a ∙ ap (λ (n : ℤ). if is_some (note_of first (notes first calls) x).plan then n +ℤ pos 1 else n) s.next_is;
  until_is = b ∙ ap (until_after (note_of first (notes first calls) x).timely (note_of first (notes first calls) x).good) s.until_is;
  renew_is = c ∙ ap (renewal_after (note_of first (notes first calls) x).good) s.renew_is;
  refs_are = e;
  sent_are = d;
}

-- ---- no calls

pub stands-fresh : (client : Client) (first : ℤ) (v : Parts) → v.vmid ≡ client → v.next ≡ first → v.until ≡ 0 → v.renew_at ≡ 0 → v.refs ≡ [] → v.sent ≡ [] → StandsFor client first v []
unfolding notes next until renew_at refs under_way
stands-fresh client first v a b c d e f = record { vmid_is = a; next_is = b; until_is = c; renew_is = d; refs_are = e; sent_are = λ n. ap (find (has_number n)) f }

-- ---- a reference in the list

pub found-told : (o : ObjId) (ns : List Note) (rs : List Ref) → is_some (find (has_id o) (map (as_told ns) rs)) ≡ has_ref o rs
found-told o ns [] = refl
found-told o ns (r ∷ rs) = go (same_id r.id o) (found-told o ns rs)
  where
    go : (b : Bool) → is_some (find (has_id o) (map (as_told ns) rs)) ≡ has_ref o rs → is_some (cond b (Some (as_told ns r)) (find (has_id o) (map (as_told ns) rs))) ≡ (b || has_ref o rs)
    go true ih = refl
    go false ih = ih

pub there-is : (client : Client) (first : ℤ) (v : Parts) (o : ObjId) (calls : List ClientCall) → StandsFor client first v calls → is_some (find (has_id o) v.refs) ≡ has_ref o (refs first (notes first calls))
there-is client first v o calls s = ap (λ (l : List ClientRef). is_some (find (has_id o) l)) s.refs_are ∙ found-told o (notes first calls) (refs first (notes first calls))

sure-told : (o : ObjId) (ns : List Note) (rs : List Ref) → sure_of (find (has_id o) (map (as_told ns) rs)) ≡ sure_if ns (find (λ (r : Ref). same_id r.id o) rs)
sure-told o ns [] = refl
sure-told o ns (r ∷ rs) = go (same_id r.id o) (sure-told o ns rs)
  where
    go : (b : Bool) → sure_of (find (has_id o) (map (as_told ns) rs)) ≡ sure_if ns (find (λ (r : Ref). same_id r.id o) rs) →
        sure_of (cond b (Some (as_told ns r)) (find (has_id o) (map (as_told ns) rs))) ≡ sure_if ns (cond b (Some r) (find (λ (r : Ref). same_id r.id o) rs))
    go true ih = refl
    go false ih = ih

pub usable-is : (client : Client) (first : ℤ) (v : Parts) (o : ObjId) (now : ℕ) (calls : List ClientCall) → StandsFor client first v calls →
    (sure_of (find (has_id o) v.refs) && nat_lt now v.until) ≡ is_usable first (notes first calls) o now
unfolding is_usable
usable-is client first v o now calls s =
    ap (λ (l : List ClientRef). sure_of (find (has_id o) l) && nat_lt now v.until) s.refs_are
    ∙ ap (λ b. b && nat_lt now v.until) (sure-told o (notes first calls) (refs first (notes first calls)))
    ∙ ap (λ n. sure_if (notes first calls) (find (λ (r : Ref). same_id r.id o) (refs first (notes first calls))) && nat_lt now n) s.until_is

strong-told : (o : ObjId) (ns : List Note) (rs : List Ref) (r : ClientRef) → find (has_id o) (map (as_told ns) rs) ≡ Some r → r.strong ≡ is_strong ns o
strong-told o ns [] r h = absurd (cc)
strong-told o ns (x ∷ rs) r h = go (same_id x.id o) refl h (strong-told o ns rs r)
  where
    go : (b : Bool) → same_id x.id o ≡ b → cond b (Some (as_told ns x)) (find (has_id o) (map (as_told ns) rs)) ≡ Some r →
        (find (has_id o) (map (as_told ns) rs) ≡ Some r → r.strong ≡ is_strong ns o) → r.strong ≡ is_strong ns o
    go true p f ih = let same : as_told ns x ≡ r = cc in ap (λ (y : ClientRef). y.strong) (sym same) ∙ ap (is_strong ns) (same_id-equal x.id o p)
    go false p f ih = ih f

-- ---- register

pub full-is : (client : Client) (first : ℤ) (v : Parts) (calls : List ClientCall) → StandsFor client first v calls → nat_le MAX_REFS (length v.refs) ≡ is_full first (notes first calls)
full-is client first v calls s = ap (λ (l : List ClientRef). nat_le MAX_REFS (length l)) s.refs_are ∙ ap (nat_le MAX_REFS) (length-map (as_told (notes first calls)) (refs first (notes first calls)))

pub told-there : (client : Client) (first : ℤ) (v : Parts) (o : ObjId) (calls : List ClientCall) → StandsFor client first v calls → has_ref o (refs first (notes first calls)) ≡ true → StandsFor client first v (Registers o ∷ calls)
unfolding note_of
told-there client first v o calls s h =
    let n = note_of first (notes first calls) (Registers o) in
    told client first v v (Registers o) calls s refl refl refl refl s.sent_are
    (s.refs_are
    ∙ sym (map-same (flags n) (λ r. rw h refl) (map (as_told (notes first calls)) (refs first (notes first calls))))
    ∙ sym (told-flags n (notes first calls) (refs first (notes first calls)))
    ∙ ap (map (as_told (n ∷ notes first calls))) (sym (if-true (has_ref o (refs first (notes first calls))) (refs first (notes first calls)) _ h)))

or-false : (a b : Bool) → (a || b) ≡ false → (a ≡ false) × (b ≡ false)
or-false true b h = absurd (cc)
or-false false b h = (refl, h)

-- A call that registers another object leaves the others as they are.
flags-apart : (o : ObjId) (ns : List Note) (n : Note) (rs : List Ref) → n.good ≡ None → n.failed ≡ None → n.registered ≡ Some o → n.timely ≡ true → has_ref o rs ≡ false →
    map (flags n) (map (as_told ns) rs) ≡ map (as_told ns) rs
flags-apart o ns n [] g f r t h = refl
flags-apart o ns n (x ∷ rs) g f r t h =
    let two = or-false (same_id x.id o) (has_ref o rs) h in
    rw (g, f, r, t, (same_id-turned o x.id ∙ two.0), flags-apart o ns n rs g f r t two.1) refl

new-sure : (first : ℤ) (calls : List ClientCall) (o : ObjId) → is_sure (note_of first (notes first calls) (Registers o) ∷ notes first calls) (record { id = o; since = next first (notes first calls) }) ≡ false
unfolding note_of is_sure
new-sure first calls o = new-unsure first calls o (next first (notes first calls)) (omega (arith, ints))

new-strong : (first : ℤ) (calls : List ClientCall) (o : ObjId) → has_ref o (refs first (notes first calls)) ≡ false → is_strong (note_of first (notes first calls) (Registers o) ∷ notes first calls) o ≡ false
unfolding note_of is_strong
new-strong first calls o h = rw (h, same_id-self o) refl

new-told : (first : ℤ) (calls : List ClientCall) (o : ObjId) (z : ℤ) → z ≡ next first (notes first calls) → has_ref o (refs first (notes first calls)) ≡ false →
    new_ref o z ≡ as_told (note_of first (notes first calls) (Registers o) ∷ notes first calls) (record { id = o; since = next first (notes first calls) })
new-told first calls o z e h = rw (new-sure first calls o, new-strong first calls o h, e) refl

pub told-new : (client : Client) (first : ℤ) (v w : Parts) (o : ObjId) (calls : List ClientCall) → StandsFor client first v calls → has_ref o (refs first (notes first calls)) ≡ false →
    w ≡ record v { refs = v.refs ++ new_ref o v.next ∷ [] } → StandsFor client first w (Registers o ∷ calls)
unfolding note_of
told-new client first v w o calls s h e =
    let ns = notes first calls in
    let n = note_of first ns (Registers o) in
    let P : Parts → Type 0 = λ x. StandsFor client first x (Registers o ∷ calls) in
    subst P (sym e) (told client first v (record v { refs = v.refs ++ new_ref o v.next ∷ [] }) (Registers o) calls s refl refl refl refl s.sent_are
    (ap (λ l. l ++ new_ref o v.next ∷ []) (s.refs_are
    ∙ sym (flags-apart o ns n (refs first ns) refl refl (if-false (has_ref o (refs first ns)) None (Some o) h) refl h)
    ∙ sym (told-flags n ns (refs first ns)))
    ∙ ap (λ (r : ClientRef). map (as_told (n ∷ ns)) (refs first ns) ++ r ∷ []) (new-told first calls o v.next s.next_is h)
    ∙ sym (map-append (as_told (n ∷ ns)) (refs first ns) (record { id = o; since = next first ns } ∷ []))
    ∙ ap (map (as_told (n ∷ ns))) (sym (if-false (has_ref o (refs first ns)) (refs first ns) _ h))))

-- ---- drop_ref

filter-told : (o : ObjId) (ns : List Note) (rs : List Ref) → filter (λ (r : ClientRef). not (has_id o r)) (map (as_told ns) rs) ≡ map (as_told ns) (filter (λ (r : Ref). not (same_id r.id o)) rs)
filter-told o ns [] = refl
filter-told o ns (r ∷ rs) = go (not (same_id r.id o)) (filter-told o ns rs)
  where
    go : (b : Bool) → filter (λ (r : ClientRef). not (has_id o r)) (map (as_told ns) rs) ≡ map (as_told ns) (filter (λ (r : Ref). not (same_id r.id o)) rs) →
        cond b (as_told ns r ∷ filter (λ (r : ClientRef). not (has_id o r)) (map (as_told ns) rs)) (filter (λ (r : ClientRef). not (has_id o r)) (map (as_told ns) rs))
        ≡ map (as_told ns) (cond b (r ∷ filter (λ (r : Ref). not (same_id r.id o)) rs) (filter (λ (r : Ref). not (same_id r.id o)) rs))
    go true ih = ap (λ l. as_told ns r ∷ l) ih
    go false ih = ih

none-left : (o : ObjId) (rs : List ClientRef) → is_some (find (has_id o) rs) ≡ false → filter (λ (r : ClientRef). not (has_id o r)) rs ≡ rs
none-left o [] h = refl
none-left o (r ∷ rs) h = go (has_id o r) h (none-left o rs)
  where
    go : (b : Bool) → is_some (cond b (Some r) (find (has_id o) rs)) ≡ false → (is_some (find (has_id o) rs) ≡ false → filter (λ (r : ClientRef). not (has_id o r)) rs ≡ rs) →
        cond (not b) (r ∷ filter (λ (r : ClientRef). not (has_id o r)) rs) (filter (λ (r : ClientRef). not (has_id o r)) rs) ≡ r ∷ rs
    go true f ih = absurd (cc)
    go false f ih = ap (λ l. r ∷ l) (ih f)

pub told-absent : (client : Client) (first : ℤ) (v : Parts) (o : ObjId) (now : ℕ) (calls : List ClientCall) → StandsFor client first v calls → has_ref o (refs first (notes first calls)) ≡ false →
    StandsFor client first v (Drops o now ∷ calls)
unfolding note_of
told-absent client first v o now calls s h =
    let ns = notes first calls in
    let n = note_of first ns (Drops o now) in
    told client first v v (Drops o now) calls s refl (rw h refl) refl refl s.sent_are
    (sym (none-left o v.refs (there-is client first v o calls s ∙ h))
    ∙ ap (filter (λ (r : ClientRef). not (has_id o r))) s.refs_are
    ∙ filter-told o ns (refs first ns)
    ∙ sym (map-same (flags n) (λ r. refl) (map (as_told ns) (filter (λ (r : Ref). not (same_id r.id o)) (refs first ns))))
    ∙ sym (told-flags n ns (filter (λ (r : Ref). not (same_id r.id o)) (refs first ns))))

pub told-drop : (client : Client) (first : ℤ) (v w : Parts) (o : ObjId) (now : ℕ) (calls : List ClientCall) → StandsFor client first v calls → has_ref o (refs first (notes first calls)) ≡ true →
    w ≡ record v { next = v.next +ℤ pos 1; refs = filter (λ (r : ClientRef). not (has_id o r)) v.refs } → StandsFor client first w (Drops o now ∷ calls)
unfolding note_of
told-drop client first v w o now calls s h e =
    let ns = notes first calls in
    let n = note_of first ns (Drops o now) in
    let P : Parts → Type 0 = λ x. StandsFor client first x (Drops o now ∷ calls) in
    subst P (sym e) (told client first v (record v { next = v.next +ℤ pos 1; refs = filter (λ (r : ClientRef). not (has_id o r)) v.refs }) (Drops o now) calls s refl (rw h refl) refl refl s.sent_are
    (ap (filter (λ (r : ClientRef). not (has_id o r))) s.refs_are
    ∙ filter-told o ns (refs first ns)
    ∙ sym (map-same (flags n) (λ r. refl) (map (as_told ns) (filter (λ (r : Ref). not (same_id r.id o)) (refs first ns))))
    ∙ sym (told-flags n ns (filter (λ (r : Ref). not (same_id r.id o)) (refs first ns)))))

pub clean-none : (client : Client) (first : ℤ) (v : Parts) (o : ObjId) (now : ℕ) (calls : List ClientCall) → StandsFor client first v calls → has_ref o (refs first (notes first calls)) ≡ false →
    plan_of first (notes first calls) (Drops o now) ≡ None
clean-none client first v o now calls s h = if-false (has_ref o (refs first (notes first calls))) _ None h

pub clean-is : (client : Client) (first : ℤ) (v : Parts) (o : ObjId) (now : ℕ) (r : ClientRef) (calls : List ClientCall) → StandsFor client first v calls → find (has_id o) v.refs ≡ Some r →
    Some (plans.Clean v.next (o ∷ []) r.strong) ≡ plan_of first (notes first calls) (Drops o now)
clean-is client first v o now r calls s h =
    let ns = notes first calls in
    let there : has_ref o (refs first ns) ≡ true = sym (there-is client first v o calls s) ∙ ap is_some h in
    let strong : r.strong ≡ is_strong ns o = strong-told o ns (refs first ns) r (ap (find (has_id o)) (sym s.refs_are) ∙ h) in
    ap (λ (b : Bool). Some (plans.Clean v.next (o ∷ []) b)) strong ∙ ap (λ (z : ℤ). Some (plans.Clean z (o ∷ []) (is_strong ns o))) s.next_is ∙ sym (if-true (has_ref o (refs first ns)) _ None there)

-- Whether a number is lacking, by what the table keeps.
pub spent-is : (client : Client) (first : ℤ) (v : Parts) (x : ClientCall) (p : Option Plan) (calls : List ClientCall) → StandsFor client first v calls → p ≡ plan_of first (notes first calls) x →
    (is_some p && int_le LAST_NUMBER v.next) ≡ is_spent first (notes first calls) x
spent-is client first v x p calls s h = ap (λ q. is_some q && int_le LAST_NUMBER v.next) h ∙ ap (λ (z : ℤ). is_some (plan_of first (notes first calls) x) && int_le LAST_NUMBER z) s.next_is

-- ---- due

wants-told : (ns : List Note) (now u : ℕ) (sent : List Dirty) (r : Ref) → u ≡ until ns → ((p : Dirty → Bool) → list_any p sent ≡ list_any p (under_way ns)) →
    wants (not (nat_lt now u)) sent (as_told ns r) ≡ is_wanting now ns r
unfolding is_wanting
wants-told ns now u sent r e same =
    ap (λ n. not (not (not (nat_lt now n)) && is_sure ns r) && not (list_any (asks_for r.id r.since) sent)) e
    ∙ ap (λ b. not (not (not (nat_lt now (until ns))) && is_sure ns r) && not b) (same (asks_for r.id r.since))
    ∙ go (nat_lt now (until ns)) (not (list_any (asks_for r.id r.since) (under_way ns)))
  where
    go : (b x : Bool) → (not (not (not b) && is_sure ns r) && x) ≡ (not (b && is_sure ns r) && x)
    go true x = refl
    go false x = refl

wanting-told : (ns : List Note) (now u : ℕ) (sent : List Dirty) (rs : List Ref) → u ≡ until ns → ((p : Dirty → Bool) → list_any p sent ≡ list_any p (under_way ns)) →
    ids_of (filter (wants (not (nat_lt now u)) sent) (map (as_told ns) rs)) ≡ map (λ (r : Ref). r.id) (filter (is_wanting now ns) rs)
wanting-told ns now u sent [] e same = refl
wanting-told ns now u sent (r ∷ rs) e same = go (wants (not (nat_lt now u)) sent (as_told ns r)) (is_wanting now ns r) (wants-told ns now u sent r e same) (wanting-told ns now u sent rs e same)
  where
    kept : List ClientRef
    kept = filter (wants (not (nat_lt now u)) sent) (map (as_told ns) rs)

    go : (a b : Bool) → a ≡ b → ids_of kept ≡ map (λ (r : Ref). r.id) (filter (is_wanting now ns) rs) →
        ids_of (cond a (as_told ns r ∷ kept) kept) ≡ map (λ (r : Ref). r.id) (cond b (r ∷ filter (is_wanting now ns) rs) (filter (is_wanting now ns) rs))
    go true true p ih = ap (λ l. r.id ∷ l) ih
    go false false p ih = ih
    go true false p ih = absurd (true≢false p)
    go false true p ih = absurd (true≢false (sym p))

pub due-is : (client : Client) (first : ℤ) (v : Parts) (now : ℕ) (calls : List ClientCall) → StandsFor client first v calls → AreOnce v.sent → due_of v now ≡ objects_due first (notes first calls) now
due-is client first v now calls s once =
    let ns = notes first calls in
    let same : (p : Dirty → Bool) → list_any p v.sent ≡ list_any p (under_way ns) = λ p. any-same p v.sent (under_way ns) once (under-once first calls) s.sent_are in
    let some : nat_lt 0 (length v.sent) ≡ nat_lt 0 (length (under_way ns)) = sym (any-some v.sent) ∙ same (λ y. true) ∙ any-some (under_way ns) in
    let renewing : renews v now ≡ is_renewing first ns now =
    ap (λ (l : List ClientRef). nat_lt 0 (length l) && nat_le v.renew_at now && not (nat_lt 0 (length v.sent))) s.refs_are
    ∙ ap (λ n. nat_lt 0 n && nat_le v.renew_at now && not (nat_lt 0 (length v.sent))) (length-map (as_told ns) (refs first ns))
    ∙ ap (λ n. nat_lt 0 (length (refs first ns)) && nat_le n now && not (nat_lt 0 (length v.sent))) s.renew_is
    ∙ ap (λ b. nat_lt 0 (length (refs first ns)) && nat_le (renew_at ns) now && not b) some in
    let named : ids_of (filter (wants (is_over v now) v.sent) v.refs) ≡ map (λ (r : Ref). r.id) (filter (is_wanting now ns) (refs first ns)) =
    ap (λ (l : List ClientRef). ids_of (filter (wants (is_over v now) v.sent) l)) s.refs_are ∙ wanting-told ns now v.until v.sent (refs first ns) s.until_is same in
    ap (λ b. due_names b (ids_of (filter (wants (is_over v now) v.sent) v.refs))) renewing ∙ ap (due_names (is_renewing first ns now)) named

due-flags : (first : ℤ) (calls : List ClientCall) (now u : ℕ) (rs : List ClientRef) → u ≡ until (notes first calls) →
    map (flags (note_of first (notes first calls) (Dues now))) rs ≡ lapsed_if (not (nat_lt now u)) rs
unfolding note_of
due-flags first calls now u rs e =
    go (nat_lt now (until (notes first calls))) ∙ ap (λ n. lapsed_if (not (nat_lt now n)) rs) (sym e)
  where
    go : (b : Bool) → map (λ (r : ClientRef). record r { sure = b && r.sure; strong = r.strong }) rs ≡ lapsed_if (not b) rs
    go true = map-same (λ (r : ClientRef). record r { sure = r.sure; strong = r.strong }) (λ r. refl) rs
    go false = map-alike (λ (r : ClientRef). record r { sure = false; strong = r.strong }) lapsed (λ r. refl) rs

pub told-idle : (client : Client) (first : ℤ) (v w : Parts) (now : ℕ) (calls : List ClientCall) → StandsFor client first v calls → objects_due first (notes first calls) now ≡ None →
    w ≡ record v { refs = lapsed_if (is_over v now) v.refs } → StandsFor client first w (Dues now ∷ calls)
unfolding note_of
told-idle client first v w now calls s none e =
    let ns = notes first calls in
    let n = note_of first ns (Dues now) in
    let P : Parts → Type 0 = λ x. StandsFor client first x (Dues now ∷ calls) in
    subst P (sym e) (told client first v (record v { refs = lapsed_if (is_over v now) v.refs }) (Dues now) calls s refl (rw none refl) refl refl (rw none s.sent_are)
    (ap (lapsed_if (is_over v now)) s.refs_are
    ∙ sym (due-flags first calls now v.until (map (as_told ns) (refs first ns)) s.until_is)
    ∙ sym (told-flags n ns (refs first ns))))

number-turned : (a b : ℤ) → int_eq a b ≡ int_eq b a
number-turned a b = go (int_eq a b) (int_eq b a) refl refl
  where
    go : (x y : Bool) → int_eq a b ≡ x → int_eq b a ≡ y → x ≡ y
    go true true p q = refl
    go false false p q = refl
    go true false p q = absurd (let t : int_eq b a ≡ true = subst (λ (z : ℤ). int_eq z a ≡ true) (same-number a b p) (number-self a) in true≢false (sym t ∙ q))
    go false true p q = absurd (let t : int_eq a b ≡ true = subst (λ (z : ℤ). int_eq z b ≡ true) (same-number b a q) (number-self b) in true≢false (sym t ∙ p))

pub told-sent : (client : Client) (first : ℤ) (v w : Parts) (now : ℕ) (os : List ObjId) (calls : List ClientCall) → StandsFor client first v calls → objects_due first (notes first calls) now ≡ Some os →
    IsSent v w os now → StandsFor client first w (Dues now ∷ calls)
unfolding note_of
told-sent client first v w now os calls s some e =
    let ns = notes first calls in
    let n = note_of first ns (Dues now) in
    told client first v w (Dues now) calls s e.vmid (rw some e.next) e.until e.renew_at
    (rw some (λ k. e.sent k
    ∙ ap (λ b. if b then Some (new_dirty v.next now os) else find (has_number k) v.sent) (number-turned v.next k)
    ∙ ap (λ (z : ℤ). if int_eq k z then Some (new_dirty z now os) else find (has_number k) v.sent) s.next_is
    ∙ ap (λ f. if int_eq k (next first ns) then Some (new_dirty (next first ns) now os) else f) (s.sent_are k)
    ∙ same (int_eq k (next first ns)) (Some (new_dirty (next first ns) now os)) (find (has_number k) (under_way ns))))
    (e.refs
    ∙ ap (lapsed_if (is_over v now)) s.refs_are
    ∙ sym (due-flags first calls now v.until (map (as_told ns) (refs first ns)) s.until_is)
    ∙ sym (told-flags n ns (refs first ns)))
  where
    same : (b : Bool) (x y : Option Dirty) → (if b then x else y) ≡ cond b x y
    same true x y = refl
    same false x y = refl

pub dirty-is : (client : Client) (first : ℤ) (v : Parts) (now : ℕ) (os : List ObjId) (calls : List ClientCall) → StandsFor client first v calls → objects_due first (notes first calls) now ≡ Some os →
    Some (plans.Dirty v.next os) ≡ plan_of first (notes first calls) (Dues now)
dirty-is client first v now os calls s some =
    ap (λ (z : ℤ). Some (plans.Dirty z os)) s.next_is ∙ ap (option_map (plans.Dirty (next first (notes first calls)))) (sym some)

pub idle-is : (first : ℤ) (now : ℕ) (calls : List ClientCall) → objects_due first (notes first calls) now ≡ None → None ≡ plan_of first (notes first calls) (Dues now)
idle-is first now calls none = ap (option_map (plans.Dirty (next first (notes first calls)))) (sym none)

-- ---- answered and failed

-- The dirty call of this number was closed.
abbrev pub IsClosed : ℤ → List Dirty → List Dirty → Type 0
IsClosed number old new = (n : ℤ) → find (has_number n) new ≡ (if int_eq number n then None else find (has_number n) old)

closed-told : (number : ℤ) (old new under : List Dirty) → SameByNumber old under → IsClosed number old new → SameByNumber new (without_number number under)
closed-told number old new under same h n = h n ∙ ap (λ f. if int_eq number n then None else f) (same n) ∙ sym (find-without number n under)

pub good-is : (client : Client) (first : ℤ) (v : Parts) (number : ℤ) (granted now : ℕ) (calls : List ClientCall) → StandsFor client first v calls →
    good_of (notes first calls) (Answers number granted now) ≡ good_if (find (has_number number) v.sent) granted now
good-is client first v number granted now calls s = ap (λ d. good_if d granted now) (sym (s.sent_are number))

pub told-not_good : (client : Client) (first : ℤ) (v w : Parts) (number : ℤ) (granted now : ℕ) (calls : List ClientCall) → StandsFor client first v calls →
    good_if (find (has_number number) v.sent) granted now ≡ None →
    w.vmid ≡ v.vmid → w.next ≡ v.next → w.until ≡ v.until → w.renew_at ≡ v.renew_at → w.refs ≡ v.refs → IsClosed number v.sent w.sent →
    StandsFor client first w (Answers number granted now ∷ calls)
unfolding note_of
told-not_good client first v w number granted now calls s n i a b c e d =
    let ns = notes first calls in
    let m = note_of first ns (Answers number granted now) in
    let g : good_of ns (Answers number granted now) ≡ None = good-is client first v number granted now calls s ∙ n in
    told client first v w (Answers number granted now) calls s i a (rw g b) (rw g c) (closed-told number v.sent w.sent (under_way ns) s.sent_are d)
    (e
    ∙ s.refs_are
    ∙ sym (map-same (flags m) (λ r. rw g refl) (map (as_told ns) (refs first ns)))
    ∙ sym (told-flags m ns (refs first ns)))

confirm-flags : (y : Dirty) (b : Bool) (rs : List ClientRef) →
    map (changed_among y.objects (Confirm y.number)) (lapsed_if (not b) rs) ≡ map (λ (r : ClientRef). record r { sure = asks_for r.id r.since y || (b && r.sure); strong = r.strong }) rs
confirm-flags y true rs = map-alike (changed_among y.objects (Confirm y.number)) (λ (r : ClientRef). record r { sure = asks_for r.id r.since y || r.sure; strong = r.strong }) (λ r. one r (names r.id y)) rs
  where
    one : (r : ClientRef) (b : Bool) → (if b then changed (Confirm y.number) r else r) ≡ record r { sure = (b && int_le r.since y.number) || r.sure; strong = r.strong }
    one r true = refl
    one r false = refl
confirm-flags y false rs = map-twice (changed_among y.objects (Confirm y.number)) lapsed (λ (r : ClientRef). record r { sure = asks_for r.id r.since y || false; strong = r.strong }) (λ r. one r (names r.id y)) rs
  where
    one : (r : ClientRef) (b : Bool) → (if b then changed (Confirm y.number) (lapsed r) else lapsed r) ≡ record r { sure = (b && int_le r.since y.number) || false; strong = r.strong }
    one r true = refl
    one r false = refl

pub told-good : (client : Client) (first : ℤ) (v w : Parts) (y : Dirty) (granted now : ℕ) (calls : List ClientCall) → StandsFor client first v calls →
    find (has_number y.number) v.sent ≡ Some y → nat_lt now (y.moment + granted) ≡ true →
    w.vmid ≡ v.vmid → w.next ≡ v.next → w.until ≡ (with_answer v y granted now).until → w.renew_at ≡ (with_answer v y granted now).renew_at → w.refs ≡ (with_answer v y granted now).refs →
    IsClosed y.number v.sent w.sent →
    StandsFor client first w (Answers y.number granted now ∷ calls)
unfolding note_of
told-good client first v w y granted now calls s q t i a b c e d =
    let ns = notes first calls in
    let m = note_of first ns (Answers y.number granted now) in
    let good : Good = record { dirty = y; granted = granted } in
    let g : good_of ns (Answers y.number granted now) ≡ Some good = good-is client first v y.number granted now calls s ∙ ap (λ d. good_if d granted now) q ∙ if-true (nat_lt now (y.moment + granted)) (Some good) None t in
    told client first v w (Answers y.number granted now) calls s i a
    (rw g (b ∙ ends (nat_lt now v.until) ∙ ap (λ n. if nat_lt now n then max v.until (y.moment + granted) else y.moment + granted) s.until_is))
    (rw g c) (closed-told y.number v.sent w.sent (under_way ns) s.sent_are d)
    (e
    ∙ ap (λ (l : List ClientRef). map (changed_among y.objects (Confirm y.number)) (lapsed_if (is_over v now) l)) s.refs_are
    ∙ confirm-flags y (nat_lt now v.until) (map (as_told ns) (refs first ns))
    ∙ ap (λ n. map (λ (r : ClientRef). record r { sure = asks_for r.id r.since y || (nat_lt now n && r.sure); strong = r.strong }) (map (as_told ns) (refs first ns))) s.until_is
    ∙ sym (map-alike (flags m) (λ (r : ClientRef). record r { sure = asks_for r.id r.since y || (nat_lt now (until ns) && r.sure); strong = r.strong }) (λ r. rw g refl) (map (as_told ns) (refs first ns)))
    ∙ sym (told-flags m ns (refs first ns)))
  where
    ends : (b : Bool) → (if not b then y.moment + granted else max v.until (y.moment + granted)) ≡ (if b then max v.until (y.moment + granted) else y.moment + granted)
    ends true = refl
    ends false = refl

-- What a failed call makes of the references.
abbrev pub strengthened_by : Option Dirty → List ClientRef → List ClientRef
strengthened_by (Some y) rs = map (changed_among y.objects Strengthen) rs
strengthened_by None rs = rs

strong-flags : (d : Option Dirty) (rs : List ClientRef) → map (λ (r : ClientRef). record r { sure = r.sure; strong = names_in d r.id || r.strong }) rs ≡ strengthened_by d rs
strong-flags (Some y) rs = map-alike (λ (r : ClientRef). record r { sure = r.sure; strong = names r.id y || r.strong }) (changed_among y.objects Strengthen) (λ r. one r (names r.id y)) rs
  where
    one : (r : ClientRef) (b : Bool) → record r { sure = r.sure; strong = b || r.strong } ≡ (if b then changed Strengthen r else r)
    one r true = refl
    one r false = refl
strong-flags None rs = map-same (λ (r : ClientRef). record r { sure = r.sure; strong = r.strong }) (λ r. refl) rs

pub told-failed : (client : Client) (first : ℤ) (v w : Parts) (number : ℤ) (d : Option Dirty) (calls : List ClientCall) → StandsFor client first v calls → find (has_number number) v.sent ≡ d →
    w.vmid ≡ v.vmid → w.next ≡ v.next → w.until ≡ v.until → w.renew_at ≡ v.renew_at → w.refs ≡ strengthened_by d v.refs → IsClosed number v.sent w.sent →
    StandsFor client first w (Fails number ∷ calls)
unfolding note_of
told-failed client first v w number dirty calls s q i a b c e d =
    let ns = notes first calls in
    let m = note_of first ns (Fails number) in
    told client first v w (Fails number) calls s i a b c (closed-told number v.sent w.sent (under_way ns) s.sent_are d)
    (e
    ∙ ap (strengthened_by dirty) s.refs_are
    ∙ ap (λ x. strengthened_by x (map (as_told ns) (refs first ns))) (sym q ∙ s.sent_are number)
    ∙ sym (strong-flags (dirty_of number ns) (map (as_told ns) (refs first ns)))
    ∙ sym (told-flags m ns (refs first ns)))

-- The table once the dirty call of a number was closed, and no more.
pub answered-stands : (client : Client) (first : ℤ) (v t w : Parts) (y : Dirty) (granted now : ℕ) (b : Bool) (calls : List ClientCall) → StandsFor client first v calls →
    Some y ≡ find (has_number y.number) v.sent → t ≡ record v { sent = t.sent } → IsClosed y.number v.sent t.sent → b ≡ nat_lt now (y.moment + granted) →
    w ≡ (if b then with_answer t y granted now else t) → StandsFor client first w (Answers y.number granted now ∷ calls)
answered-stands client first v t w y granted now true calls s q e d p h =
    told-good client first v w y granted now calls s (sym q) (sym p)
    (ap (λ (x : Parts). x.vmid) h ∙ ap (λ (x : Parts). x.vmid) e) (ap (λ (x : Parts). x.next) h ∙ ap (λ (x : Parts). x.next) e)
    (ap (λ (x : Parts). x.until) h ∙ ap (λ (x : Parts). (with_answer x y granted now).until) e)
    (ap (λ (x : Parts). x.renew_at) h ∙ ap (λ (x : Parts). (with_answer x y granted now).renew_at) e)
    (ap (λ (x : Parts). x.refs) h ∙ ap (λ (x : Parts). (with_answer x y granted now).refs) e)
    (λ n. ap (λ (x : Parts). find (has_number n) x.sent) h ∙ d n)
answered-stands client first v t w y granted now false calls s q e d p h =
    told-not_good client first v w y.number granted now calls s
    (ap (λ x. good_if x granted now) (sym q) ∙ if-false (nat_lt now (y.moment + granted)) (Some (record { dirty = y; granted = granted })) None (sym p))
    (ap (λ (x : Parts). x.vmid) h ∙ ap (λ (x : Parts). x.vmid) e) (ap (λ (x : Parts). x.next) h ∙ ap (λ (x : Parts). x.next) e)
    (ap (λ (x : Parts). x.until) h ∙ ap (λ (x : Parts). x.until) e) (ap (λ (x : Parts). x.renew_at) h ∙ ap (λ (x : Parts). x.renew_at) e)
    (ap (λ (x : Parts). x.refs) h ∙ ap (λ (x : Parts). x.refs) e)
    (λ n. ap (λ (x : Parts). find (has_number n) x.sent) h ∙ d n)

pub unanswered-stands : (client : Client) (first : ℤ) (v t : Parts) (number : ℤ) (granted now : ℕ) (calls : List ClientCall) → StandsFor client first v calls →
    None ≡ find (has_number number) v.sent → t ≡ record v { sent = t.sent } → IsClosed number v.sent t.sent → StandsFor client first t (Answers number granted now ∷ calls)
unanswered-stands client first v t number granted now calls s q e d =
    told-not_good client first v t number granted now calls s (ap (λ x. good_if x granted now) (sym q))
    (ap (λ (x : Parts). x.vmid) e) (ap (λ (x : Parts). x.next) e) (ap (λ (x : Parts). x.until) e) (ap (λ (x : Parts). x.renew_at) e) (ap (λ (x : Parts). x.refs) e) d

pub answer-is : (client : Client) (first : ℤ) (v : Parts) (y : Dirty) (granted now : ℕ) (b : Bool) (calls : List ClientCall) → StandsFor client first v calls →
    Some y ≡ find (has_number y.number) v.sent → b ≡ nat_lt now (y.moment + granted) → b ≡ is_some (good_of (notes first calls) (Answers y.number granted now))
answer-is client first v y granted now b calls s q p =
    p ∙ sym (go (nat_lt now (y.moment + granted))) ∙ ap (λ x. is_some (good_if x granted now)) q ∙ ap is_some (sym (good-is client first v y.number granted now calls s))
  where
    go : (t : Bool) → is_some {T = Good} (if t then Some (record { dirty = y; granted = granted }) else None) ≡ t
    go true = refl
    go false = refl

pub no-answer : (client : Client) (first : ℤ) (v : Parts) (number : ℤ) (granted now : ℕ) (calls : List ClientCall) → StandsFor client first v calls →
    None ≡ find (has_number number) v.sent → false ≡ is_some (good_of (notes first calls) (Answers number granted now))
no-answer client first v number granted now calls s q =
    ap (λ x. is_some (good_if x granted now)) q ∙ ap is_some (sym (good-is client first v number granted now calls s))

pub failed-stands : (client : Client) (first : ℤ) (v t w : Parts) (number : ℤ) (d : Option Dirty) (calls : List ClientCall) → StandsFor client first v calls →
    d ≡ find (has_number number) v.sent → t ≡ record v { sent = t.sent } → IsClosed number v.sent t.sent → w ≡ record t { refs = strengthened_by d t.refs } →
    StandsFor client first w (Fails number ∷ calls)
failed-stands client first v t w number d calls s q e c h =
    told-failed client first v w number d calls s (sym q)
    (ap (λ (x : Parts). x.vmid) h ∙ ap (λ (x : Parts). x.vmid) e) (ap (λ (x : Parts). x.next) h ∙ ap (λ (x : Parts). x.next) e)
    (ap (λ (x : Parts). x.until) h ∙ ap (λ (x : Parts). x.until) e) (ap (λ (x : Parts). x.renew_at) h ∙ ap (λ (x : Parts). x.renew_at) e)
    (ap (λ (x : Parts). x.refs) h ∙ ap (λ (x : Parts). strengthened_by d x.refs) e)
    (λ n. ap (λ (x : Parts). find (has_number n) x.sent) h ∙ c n)

-- ---- answers that are handed on

pub on-ok : {T E P Q : Type 0} (r : Result T E) → (P → Q) → OnOk r P → OnOk r Q
on-ok (Ok x) f p = f p
on-ok (Err e) f p = tt

pub if-ok : {T E : Type 0} {P Q : T → Type 0} (r : Result T E) → ((x : T) → P x → Q x) → IfOk r P → IfOk r Q
if-ok (Ok x) f p = f x p
if-ok (Err e) f p = tt

-- What a refusal of this kind would follow from is not so where there is no refusal.
pub not-so : {T E : Type 0} (r : Result T E) (b : Bool) (e : E) → (b ≡ true → r ≡ Err e) → OnOk r (b ≡ false)
not-so (Ok x) b e h = go b h
  where
    go : (b : Bool) → (b ≡ true → Ok x ≡ Err e) → b ≡ false
    go true f = absurd (let no = f refl in cc)
    go false f = refl
not-so (Err x) b e h = tt
