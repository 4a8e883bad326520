-- References that are returned: how many await then, by what waits before and by what is new.
use Rattle.std.proofs.Common.{◌≡◌, ℕ, ◌+◌, ◌<◌, ◌≤◌, List, [], ◌∷◌, ◌++◌, length, suc, refl, ap, sym, subst, ◌∙◌, cond, map, max, arith, drop, get_or, inl, inr, ◌⊎◌, Ok, Err, Result, length-append}
use Rattle.std.specs.Prelude.{Bool, true, false, ◌&&◌, ◌||◌, not, filter, nat_lt, if◌then◌else◌, ◌≢◌, OnOk, IfErr}
use Rattle.std.specs.List.{list_any}
use Rattle.std.proofs.lemmas.Bool.{lt-ltb, or_left, or_right}
use Rattle.std.proofs.lemmas.List.Folds.{list_any-append}
use Rattle.std.proofs.lemmas.List.{map-append}
use Rattle.sequence.proofs.Lists.{drop-at}
use Rattle.object_ids.specs.declared.ids.Uid.{Uid}
use Rattle.object_ids.specs.declared.ids.ObjId.{ObjId}
use Rattle.object_ids.specs.declared.ids.FullKind.TheVariants.{Awaiting as FullAwaiting}
use Rattle.object_ids.specs.Same.{same_id, same_uid}
use Rattle.object_ids.proofs.Exact.{same_uid-self, same_uid-equal}
use Rattle.history.specs.declared.limits.TheConstants.{MAX_AWAITING}
use Rattle.history.specs.declared.places.Returned.{Returned}
use Rattle.history.specs.Awaiting.{same_returned}
use Rattle.history.specs.Lists.{distinct, AllOnce}
use Rattle.history.proofs.AwaitingLaws.{returned-equality}
use Rattle.history.proofs.ListLemmas.{IsEquality, AllOnce-distinct, AllOnce-filter, AllOnce-push, length-members, and_true, and_false, any-filtered, same-turned, any-distinct}
use Rattle.export_table.specs.declared.waits.Wait.{Wait}
use Rattle.export_table.specs.declared.exports.ExportFault.{ExportFault}
use Rattle.export_table.specs.declared.exports.ExportFault.TheVariants.{Full as ExportFull, OutOfMemory as NoMemory}
use Rattle.export_table.specs.Table.{ExportTable}
use Rattle.export_table.specs.Waits.{still_waiting, is_waiting, end_of_wait, with_listed, with_each_listed}
use Rattle.export_table.proofs.RowLaws.{waiting-listed}
use Rattle.space.specs.Acts.{awaiting_with, awaiting_after}
use Rattle.export_table.specs.StandsForHistory.{waits_once, reference_of, end_of, references}
use Rattle.space.proofs.LimitLaws.{distinct-longer}
use Rattle.export_table.proofs.WaitLaws.{waiting_refs, refs-waiting-once, distinct-same}
use Rattle.export_table.proofs.StandLaws.{listed-stays-once, any-waiting}

-- ---- how many items there are in a list of three parts

AllOnce-append : {X : Type 0} (same : X → X → Bool) (xs ys : List X) → AllOnce same xs → AllOnce same ys → ((k : X) → list_any (same k) xs ≡ true → list_any (same k) ys ≡ false) → IsEquality same → AllOnce same (xs ++ ys)
AllOnce-append same [] ys a b f e = b
AllOnce-append same (x ∷ xs) ys a b f e = (
  list_any-append (same x) xs ys ∙ rw (a.0, f x (or_left (same x x) (list_any (same x) xs) (e.self x))) refl,
  AllOnce-append same xs ys a.1 b (λ k h. f k (or_right (same k x) (list_any (same k) xs) h)) e,
)

none_of : (b : Bool) → (b ≡ true → ⊥) → b ≡ false
none_of true n = absurd (n refl)
none_of false n = refl

-- Items, new ones, and others of which some may stand among the first.
counted : {X : Type 0} (same : X → X → Bool) → IsEquality same → (rs ns os : List X) → AllOnce same rs → AllOnce same ns →
    ((k : X) → list_any (same k) ns ≡ true → list_any (same k) rs ≡ false) → ((k : X) → list_any (same k) ns ≡ true → list_any (same k) os ≡ false) →
    length (distinct same (rs ++ (ns ++ os))) ≡ length rs + length ns + length (filter (λ k. not (list_any (same k) rs)) (distinct same os))
counted {X} same e rs ns os once new apart other =
    length-members same e (distinct same (rs ++ (ns ++ os))) (rs ++ (ns ++ zs)) (AllOnce-distinct same e (rs ++ (ns ++ os)))
    (AllOnce-append same rs (ns ++ zs) once (AllOnce-append same ns zs new (AllOnce-filter same (λ k. not (list_any (same k) rs)) (distinct same os) (AllOnce-distinct same e os)) none_more e) none_there e)
    (λ k. any-distinct e k (rs ++ (ns ++ os)) ∙ list_any-append (same k) rs (ns ++ os) ∙ ap (λ v. list_any (same k) rs || v) (list_any-append (same k) ns os)
    ∙ both (list_any (same k) rs) (list_any (same k) ns) (list_any (same k) os) ∙ sym (any-all k))
    ∙ length-append rs (ns ++ zs) ∙ sum (length-append ns zs)
  where
    decides : IsEquality same
    decides = record { equal = e.equal; self = e.self }

    zs : List X
    zs = filter (λ k. not (list_any (same k) rs)) (distinct same os)

    any-zs : (k : X) → list_any (same k) zs ≡ (list_any (same k) os && not (list_any (same k) rs))
    any-zs k = any-filtered decides (λ j. not (list_any (same j) rs)) k (distinct same os) ∙ ap (λ v. v && not (list_any (same k) rs)) (any-distinct e k os)

    any-all : (k : X) → list_any (same k) (rs ++ (ns ++ zs)) ≡ (list_any (same k) rs || (list_any (same k) ns || (list_any (same k) os && not (list_any (same k) rs))))
    any-all k = list_any-append (same k) rs (ns ++ zs) ∙ ap (λ v. list_any (same k) rs || v) (list_any-append (same k) ns zs ∙ ap (λ v. list_any (same k) ns || v) (any-zs k))

    both : (a b c : Bool) → (a || (b || c)) ≡ (a || (b || (c && not a)))
    both true b c = refl
    both false true c = refl
    both false false true = refl
    both false false false = refl

    none_more : (k : X) → list_any (same k) ns ≡ true → list_any (same k) zs ≡ false
    none_more k h = any-zs k ∙ ap (λ v. v && not (list_any (same k) rs)) (other k h)

    none_there : (k : X) → list_any (same k) rs ≡ true → list_any (same k) (ns ++ zs) ≡ false
    none_there k h =
        list_any-append (same k) ns zs ∙ ap (λ v. v || list_any (same k) zs) (none_of (list_any (same k) ns) (λ t. (let never = apart k t in cc)))
        ∙ any-zs k ∙ ap (λ v. list_any (same k) os && not v) h ∙ and_false (list_any (same k) os)

    sum : length (ns ++ zs) ≡ length ns + length zs → length rs + length (ns ++ zs) ≡ length rs + length ns + length zs
    sum s = omega (arith, s)

-- ---- references to objects

any-references : (r : Returned) (uid : Uid) (os : List ObjId) → list_any (same_returned r) (references uid os) ≡ (list_any (same_id r.object) os && same_uid r.uid uid)
any-references r uid [] = refl
any-references r uid (o ∷ os) = ap (λ v. same_returned r (record { object = o; uid = uid }) || v) (any-references r uid os) ∙ go (same_id r.object o) (list_any (same_id r.object) os) (same_uid r.uid uid)
  where
    go : (a b c : Bool) → ((a && c) || (b && c)) ≡ ((a || b) && c)
    go true true true = refl
    go true true false = refl
    go true false true = refl
    go true false false = refl
    go false b c = refl

references-any : (o : ObjId) (uid : Uid) (os : List ObjId) → list_any (same_returned (record { object = o; uid = uid })) (references uid os) ≡ list_any (same_id o) os
references-any o uid os = any-references (record { object = o; uid = uid }) uid os ∙ rw (same_uid-self uid) (and_true (list_any (same_id o) os))

references-once : (uid : Uid) (os : List ObjId) → AllOnce same_id os → AllOnce same_returned (references uid os)
references-once uid [] a = tt
references-once uid (o ∷ os) a = (references-any o uid os ∙ a.0, references-once uid os a.1)

references-length : (uid : Uid) (os : List ObjId) → length (references uid os) ≡ length os
references-length uid [] = refl
references-length uid (o ∷ os) = ap suc (references-length uid os)

references-distinct : (uid : Uid) (os : List ObjId) → distinct same_returned (references uid os) ≡ references uid (distinct same_id os)
references-distinct uid [] = refl
references-distinct uid (o ∷ os) = rw (references-any o uid os) (go (list_any (same_id o) os) (references-distinct uid os))
  where
    go : (b : Bool) → distinct same_returned (references uid os) ≡ references uid (distinct same_id os) →
        (if b then distinct same_returned (references uid os) else record { object = o; uid = uid } ∷ distinct same_returned (references uid os)) ≡ references uid (if b then distinct same_id os else o ∷ distinct same_id os)
    go true h = h
    go false h = ap (λ l. record { object = o; uid = uid } ∷ l) h

references-filter : (p : Returned → Bool) (q : ObjId → Bool) (uid : Uid) → ((o : ObjId) → p (record { object = o; uid = uid }) ≡ q o) → (os : List ObjId) → length (filter p (references uid os)) ≡ length (filter q os)
references-filter p q uid s [] = refl
references-filter p q uid s (o ∷ os) = rw (s o) (go (q o) (references-filter p q uid s os))
  where
    go : (b : Bool) → length (filter p (references uid os)) ≡ length (filter q os) → length (cond b (record { object = o; uid = uid } ∷ filter p (references uid os)) (filter p (references uid os))) ≡ length (cond b (o ∷ filter q os) (filter q os))
    go true h = ap suc h
    go false h = h

refs-length : (ws : List Wait) → length (map reference_of ws) ≡ length ws
refs-length [] = refl
refs-length (w ∷ ws) = ap suc (refs-length ws)

-- HOW MANY AWAIT once references to new objects, and to others, are returned.
pub awaiting-counted-with : (t : ℕ) (uid : Uid) (ns live : List ObjId) (waits : List Wait) → waits_once reference_of waits → AllOnce same_id ns →
    ((o : ObjId) → list_any (same_id o) ns ≡ true → is_waiting t o uid waits ≡ false) → ((o : ObjId) → list_any (same_id o) ns ≡ true → list_any (same_id o) live ≡ false) →
    awaiting_with t uid (ns ++ live) waits ≡ awaiting_after t uid (length ns) live waits
awaiting-counted-with t uid ns live waits once new apart other =
    ap (λ l. length (distinct same_returned (waiting_refs reference_of end_of t waits ++ l))) (map-append (λ (o : ObjId). record { object = o; uid = uid }) ns live)
    ∙ counted same_returned returned-equality (waiting_refs reference_of end_of t waits) (references uid ns) (references uid live) (refs-waiting-once reference_of end_of t waits once) (references-once uid ns new)
    (λ r h. any-waiting t r waits ∙ unwaited r (and_both (list_any (same_id r.object) ns) (same_uid r.uid uid) (sym (any-references r uid ns) ∙ h)))
    (λ r h. any-references r uid live ∙ ap (λ v. v && same_uid r.uid uid) (other r.object (and_both (list_any (same_id r.object) ns) (same_uid r.uid uid) (sym (any-references r uid ns) ∙ h)).0))
    ∙ sums (refs-length (still_waiting t waits)) (references-length uid ns)
    (ap (λ l. length (filter (λ k. not (list_any (same_returned k) (waiting_refs reference_of end_of t waits))) l)) (references-distinct uid live)
    ∙ references-filter (λ k. not (list_any (same_returned k) (waiting_refs reference_of end_of t waits))) (λ o. not (is_waiting t o uid waits)) uid
    (λ o. ap not (any-waiting t (record { object = o; uid = uid }) waits)) (distinct same_id live))
  where
    and_both : (a b : Bool) → (a && b) ≡ true → (a ≡ true) × (b ≡ true)
    and_both true true h = (refl, refl)
    and_both true false h = absurd (cc)
    and_both false b h = absurd (cc)

    unwaited : (r : Returned) → (list_any (same_id r.object) ns ≡ true) × (same_uid r.uid uid ≡ true) → is_waiting t r.object r.uid waits ≡ false
    unwaited r h = ap (λ u. is_waiting t r.object u waits) (same_uid-equal r.uid uid h.1) ∙ apart r.object h.0

    sums : length (waiting_refs reference_of end_of t waits) ≡ length (still_waiting t waits) → length (references uid ns) ≡ length ns → {n m : ℕ} → n ≡ m →
        length (waiting_refs reference_of end_of t waits) + length (references uid ns) + n ≡ length (still_waiting t waits) + length ns + m
    sums p q r = rw (p, q, r) refl

-- ---- one after another

-- What is counted with the rest stays the same as one is listed.
pub awaiting-step : (ack t : ℕ) (uid : Uid) (o : ObjId) (os : List ObjId) (waits : List Wait) → 1 ≤ ack → awaiting_with t uid os (with_listed ack t o uid waits) ≡ awaiting_with t uid (o ∷ os) waits
awaiting-step ack t uid o os waits some =
    distinct-same same_returned returned-equality (waiting_refs reference_of end_of t (with_listed ack t o uid waits) ++ references uid os) (waiting_refs reference_of end_of t waits ++ references uid (o ∷ os))
    (λ r. list_any-append (same_returned r) (waiting_refs reference_of end_of t (with_listed ack t o uid waits)) (references uid os)
    ∙ ap (λ v. v || list_any (same_returned r) (references uid os)) (any-waiting t r (with_listed ack t o uid waits) ∙ waiting-listed ack t t o r.object uid r.uid waits (omega arith)
    ∙ one r (same_id o r.object && same_uid uid r.uid))
    ∙ both (same_returned (record { object = o; uid = uid }) r) (is_waiting t r.object r.uid waits) (list_any (same_returned r) (references uid os))
    ∙ ap (λ v. is_waiting t r.object r.uid waits || (v || list_any (same_returned r) (references uid os))) (same-turned returned-equality (record { object = o; uid = uid }) r)
    ∙ ap (λ v. v || list_any (same_returned r) (references uid (o ∷ os))) (sym (any-waiting t r waits))
    ∙ sym (list_any-append (same_returned r) (waiting_refs reference_of end_of t waits) (references uid (o ∷ os))))
  where
    one : (r : Returned) (b : Bool) → (if b then nat_lt t (max (t + ack) (end_of_wait o uid waits)) else is_waiting t r.object r.uid waits) ≡ (if b then true else is_waiting t r.object r.uid waits)
    one r true = lt-ltb t (max (t + ack) (end_of_wait o uid waits)) (omega arith)
    one r false = refl

    both : (b w v : Bool) → ((if b then true else w) || v) ≡ (w || (b || v))
    both true true v = refl
    both true false v = refl
    both false w v = refl

-- Where they are few enough with one more, there is room for that one.
pub awaiting-room : (t : ℕ) (uid : Uid) (o : ObjId) (os : List ObjId) (waits : List Wait) → waits_once reference_of waits → awaiting_with t uid (o ∷ os) waits ≤ MAX_AWAITING →
    MAX_AWAITING ≤ length (still_waiting t waits) → is_waiting t o uid waits ≡ false → ⊥
awaiting-room t uid o os waits once few full new =
    let more = distinct-longer same_returned returned-equality (waiting_refs reference_of end_of t waits ++ record { object = o; uid = uid } ∷ []) (waiting_refs reference_of end_of t waits ++ references uid (o ∷ os))
    (AllOnce-push same_returned returned-equality (waiting_refs reference_of end_of t waits) (record { object = o; uid = uid }) (refs-waiting-once reference_of end_of t waits once) (any-waiting t (record { object = o; uid = uid }) waits ∙ new))
    (λ r h. list_any-append (same_returned r) (waiting_refs reference_of end_of t waits) (references uid (o ∷ os))
    ∙ both (list_any (same_returned r) (waiting_refs reference_of end_of t waits)) (same_returned r (record { object = o; uid = uid })) (list_any (same_returned r) (references uid os))
    (sym (list_any-append (same_returned r) (waiting_refs reference_of end_of t waits) (record { object = o; uid = uid } ∷ [])) ∙ h)) in
    let long = length-append (waiting_refs reference_of end_of t waits) (record { object = o; uid = uid } ∷ []) in
    let same = refs-length (still_waiting t waits) in
    omega (arith, more, long, same, few, full)
  where
    both : (a b c : Bool) → (a || (b || false)) ≡ true → (a || (b || c)) ≡ true
    both true b c h = refl
    both false true c h = refl
    both false false c h = absurd (cc)

-- ---- a step of the loop that has references await

pub record AwaitsTo (from : ExportTable) (t : ℕ) (uid : Uid) (os : List ObjId) (i : ℕ) (to : ExportTable) : Type 0 where
  pub value : to ≡ record from { waits = to.waits; room = to.room }
  pub waits : with_each_listed from.ack t uid (drop i os) to.waits ≡ with_each_listed from.ack t uid os from.waits
  pub once : waits_once reference_of to.waits
  pub few : awaiting_with t uid (drop i os) to.waits ≤ MAX_AWAITING
  pub room : length os ≤ to.room.waits + i

-- There is room, so that it is listed.
listed-taken : (t : ℕ) (uid : Uid) (o : ObjId) (os : List ObjId) (x y : ExportTable) (result : Result (Unit {0}) ExportFault) → waits_once reference_of x.waits → awaiting_with t uid (o ∷ os) x.waits ≤ MAX_AWAITING → 0 < x.room.waits →
    OnOk result (y ≡ record x { waits = with_listed x.ack t o uid x.waits; room = y.room }) →
    (result ≡ Err (ExportFull FullAwaiting) → (MAX_AWAITING ≤ length (still_waiting t x.waits)) × (is_waiting t o uid x.waits ≡ false)) → (0 < x.room.waits → result ≢ Err NoMemory) →
    IfErr result (λ fault. (fault ≡ ExportFull FullAwaiting) ⊎ (fault ≡ NoMemory)) → y ≡ record x { waits = with_listed x.ack t o uid x.waits; room = y.room }
listed-taken t uid o os x y (Ok done) once few room ok full memory faults = ok
listed-taken t uid o os x y (Err fault) once few room ok full memory (inl f) = absurd (let both = full (ap (λ e. Err e) f) in awaiting-room t uid o os x.waits once few both.0 both.1)
listed-taken t uid o os x y (Err fault) once few room ok full memory (inr f) = absurd (memory room (ap (λ e. Err e) f))

pub awaits-next : (from : ExportTable) (t : ℕ) (uid : Uid) (os : List ObjId) (i : ℕ) (d : ObjId) (x y : ExportTable) (result : Result (Unit {0}) ExportFault) → AwaitsTo from t uid os i x → i < length os → 1 ≤ from.ack →
    OnOk result (y ≡ record x { waits = with_listed x.ack t (get_or os i d) uid x.waits; room = y.room }) →
    (result ≡ Err (ExportFull FullAwaiting) → (MAX_AWAITING ≤ length (still_waiting t x.waits)) × (is_waiting t (get_or os i d) uid x.waits ≡ false)) → (0 < x.room.waits → result ≢ Err NoMemory) →
    IfErr result (λ fault. (fault ≡ ExportFull FullAwaiting) ⊎ (fault ≡ NoMemory)) → x.room.waits ≤ y.room.waits + 1 → AwaitsTo from t uid os (i + 1) y
awaits-next from t uid os i d x y result a h some ok full memory faults took =
    let here = drop-at os i d h in
    let same_few = ap (λ l. awaiting_with t uid l x.waits) here in
    let before = a.few in let rest = a.room in
    let ack : x.ack ≡ from.ack = ap (λ (z : ExportTable). z.ack) a.value in
    let taken = listed-taken t uid (get_or os i d) (drop (i + 1) os) x y result a.once (omega (arith, before, same_few)) (omega (arith, rest, h)) ok full memory faults in
    let waits : y.waits ≡ with_listed x.ack t (get_or os i d) uid x.waits = ap (λ (z : ExportTable). z.waits) taken in
    let step = awaiting-step x.ack t uid (get_or os i d) (drop (i + 1) os) x.waits (omega (arith, some, ack)) in
    let now_few = ap (awaiting_with t uid (drop (i + 1) os)) waits in
    let P : List Wait → Type 0 = λ ws. waits_once reference_of ws in
    record {
      value = taken ∙ ap (λ (z : ExportTable). record z { waits = with_listed x.ack t (get_or os i d) uid x.waits; room = y.room }) a.value ∙ ap (λ (ws : List Wait). record from { waits = ws; room = y.room }) (sym waits);
      waits = ap (with_each_listed from.ack t uid (drop (i + 1) os)) waits ∙ ap (λ (n : ℕ). with_each_listed from.ack t uid (drop (i + 1) os) (with_listed n t (get_or os i d) uid x.waits)) ack
          ∙ ap (λ l. with_each_listed from.ack t uid l x.waits) (sym here) ∙ a.waits;
      once = subst P (sym waits) (listed-stays-once x.ack t (get_or os i d) uid x.waits a.once);
      few = omega (arith, now_few, step, same_few, before);
      room = omega (arith, rest, took);
    }
