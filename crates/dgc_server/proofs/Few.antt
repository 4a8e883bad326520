-- How many clients have time left, as time passes and after a call.
use Rattle.std.proofs.Common.{◌≡◌, ℕ, ◌+◌, ◌≤◌, List, [], ◌∷◌, length, refl, ap, sym, ◌∙◌, arith, cond, map, suc}
use Rattle.std.specs.Prelude.{ℤ, Bool, true, false, IsTrue, filter, max, nat_lt, if◌then◌else◌}
use Rattle.std.specs.Ordering.{is_lt, is_eq}
use Rattle.std.specs.declared.cmp.Ordering.{Ordering}
use Rattle.std.specs.declared.cmp.Ordering.TheVariants.{Less, Equal, Greater}
use Rattle.std.proofs.lemmas.Bool.{and_parts}
use Rattle.object_ids.specs.declared.ids.ObjId.{ObjId}
use Rattle.object_ids.specs.Client.{Client, client_cmp}
use Rattle.object_ids.specs.Same.{same_client}
use Rattle.object_ids.proofs.Exact.{same_client-equal, same_client-true}
use Rattle.object_ids.proofs.Order.{client_cmp-equal, client_cmp-self}
use Rattle.history.specs.declared.calls.CallKind.{CallKind}
use Rattle.history.specs.declared.calls.CallKind.TheVariants.{Dirty, Weak, Strong}
use Rattle.history.specs.Leases.{is_dirty_kind}
use Rattle.history.proofs.ListLemmas.{no_time}
use Rattle.dgc_server.specs.Entry.{Entry, entry_after_lapse, is_entry_kept, tenure_forgotten, has_time_left, entry_holds, entry_without}
use Rattle.dgc_server.specs.Table.{no_entry, entry_of, with_entry, after_lapse, clients_after}
use Rattle.dgc_server.specs.StandsForCalls.{is_in_order, entry_after}
use Rattle.dgc_server.proofs.Ordered.{all_after, absent, after-absent, after-earlier, client-of}
use Rattle.dgc_server.proofs.Steps.{earlier}

-- A narrower test keeps fewer.
pub fewer : {X : Type 0} (q r : X → Bool) → ((x : X) → q x ≡ true → r x ≡ true) → (xs : List X) → length (filter q xs) ≤ length (filter r xs)
fewer q r f [] = omega arith
fewer q r f (x ∷ xs) = go (q x) (r x) refl refl (fewer q r f xs)
  where
    go : (a b : Bool) → q x ≡ a → r x ≡ b → length (filter q xs) ≤ length (filter r xs) → length (cond a (x ∷ filter q xs) (filter q xs)) ≤ length (cond b (x ∷ filter r xs) (filter r xs))
    go true true y z h = omega arith
    go false true y z h = omega arith
    go false false y z h = h
    go true false y z h = absurd (let w = f x y in cc)

fewer-kept : (q p : Entry → Bool) (es : List Entry) → length (filter q (filter p es)) ≤ length (filter q es)
fewer-kept q p [] = omega arith
fewer-kept q p (e ∷ es) = go (p e) (q e) refl (fewer-kept q p es)
  where
    go : (a b : Bool) → q e ≡ b → length (filter q (filter p es)) ≤ length (filter q es) → length (filter q (cond a (e ∷ filter p es) (filter p es))) ≤ length (cond b (e ∷ filter q es) (filter q es))
    go true true x h = rw x (omega arith)
    go true false x h = rw x h
    go false true x h = omega arith
    go false false x h = h

same-map : (q : Entry → Bool) (f : Entry → Entry) → ((e : Entry) → q (f e) ≡ q e) → (es : List Entry) → length (filter q (map f es)) ≡ length (filter q es)
same-map q f k [] = refl
same-map q f k (e ∷ es) = go (q (f e)) (q e) (k e) (same-map q f k es)
  where
    go : (a b : Bool) → a ≡ b → length (filter q (map f es)) ≡ length (filter q es) → length (cond a (f e ∷ filter q (map f es)) (filter q (map f es))) ≡ length (cond b (e ∷ filter q es) (filter q es))
    go true true x h = ap suc h
    go false false x h = h
    go true false x h = absurd (cc)
    go false true x h = absurd (cc)

pub lapsed-time : (now : ℕ) (e : Entry) → has_time_left now (entry_after_lapse now e) ≡ has_time_left now e
lapsed-time now e = go (nat_lt now e.until)
  where
    go : (b : Bool) → nat_lt now (if b then e else record e { objects = tenure_forgotten e.objects }).until ≡ nat_lt now e.until
    go true = refl
    go false = refl

pub few-lapse : (m k : ℕ) (es : List Entry) (most : ℕ) → m ≤ k → length (filter (has_time_left m) es) ≤ most → length (filter (has_time_left k) (after_lapse k es)) ≤ most
few-lapse m k es most le h =
    let a = fewer-kept (has_time_left k) (is_entry_kept k) (map (entry_after_lapse k) es) in
    let b = same-map (has_time_left k) (entry_after_lapse k) (lapsed-time k) es in
    let c = fewer (has_time_left k) (has_time_left m) (λ e x. earlier m k e.until le x) es in
    omega (arith, a, b, c, h)

pub few-without : (m : ℕ) (o : ObjId) (es : List Entry) (most : ℕ) → length (filter (has_time_left m) es) ≤ most → length (filter (has_time_left m) (map (entry_without o) es)) ≤ most
few-without m o es most h = let a = same-map (has_time_left m) (entry_without o) (λ e. refl) es in omega (arith, a, h)

-- One client's entry in place of its own, or one more.
pub few-with : (q : Entry → Bool) → ((c : Client) → q (no_entry c) ≡ false) → (e : Entry) (es : List Entry) → is_in_order es ≡ true →
    length (filter q (with_entry e es)) + (if q (entry_of es e.client) then 1 else 0) ≡ length (filter q es) + (if q e then 1 else 0)
few-with q none e [] order = rw (none e.client) (go (q e))
  where
    go : (b : Bool) → length (cond b (e ∷ []) []) + 0 ≡ 0 + (if b then 1 else 0)
    go true = refl
    go false = refl
few-with q none e (d ∷ es) order =
    let two = and_parts (all_after d.client es) (is_in_order es) order in
    go (client_cmp e.client d.client) refl two.0 (few-with q none e es two.1)
  where
    -- e comes before all of them, so that its client has no entry
    front : (a b : Bool) → q e ≡ a → q d ≡ b → length (cond a (e ∷ cond b (d ∷ filter q es) (filter q es)) (cond b (d ∷ filter q es) (filter q es))) + 0 ≡ length (cond b (d ∷ filter q es) (filter q es)) + (if a then 1 else 0)
    front true b x y = omega arith
    front false b x y = omega arith

    over : (a b : Bool) → length (cond a (e ∷ filter q es) (filter q es)) + (if b then 1 else 0) ≡ length (cond b (d ∷ filter q es) (filter q es)) + (if a then 1 else 0)
    over true true = refl
    over true false = omega arith
    over false true = omega arith
    over false false = refl

    behind : (b : Bool) → length (filter q (with_entry e es)) + (if q (entry_of es e.client) then 1 else 0) ≡ length (filter q es) + (if q e then 1 else 0) →
        length (cond b (d ∷ filter q (with_entry e es)) (filter q (with_entry e es))) + (if q (entry_of es e.client) then 1 else 0) ≡ length (cond b (d ∷ filter q es) (filter q es)) + (if q e then 1 else 0)
    behind true h = omega (arith, h)
    behind false h = h

    go : (o : Ordering) → client_cmp e.client d.client ≡ o → all_after d.client es ≡ true →
        length (filter q (with_entry e es)) + (if q (entry_of es e.client) then 1 else 0) ≡ length (filter q es) + (if q e then 1 else 0) →
        length (filter q (if is_lt o then e ∷ d ∷ es else if is_eq o then e ∷ es else d ∷ with_entry e es)) + (if q (if same_client d.client e.client then d else entry_of es e.client) then 1 else 0)
        ≡ length (cond (q d) (d ∷ filter q es) (filter q es)) + (if q e then 1 else 0)
    go Less x after h =
        ap (λ v. length (filter q (e ∷ d ∷ es)) + (if q v then 1 else 0)) (absent (d ∷ es) e.client (after-absent e.client (d ∷ es) (rw x (after-earlier e.client d.client es x after))))
        ∙ ap (λ b. length (filter q (e ∷ d ∷ es)) + (if b then 1 else 0)) (none e.client)
        ∙ front (q e) (q d) refl refl
    go Equal x after h =
        ap (λ b. length (filter q (e ∷ es)) + (if q (if b then d else entry_of es e.client) then 1 else 0)) (same_client-true d.client e.client (sym (client_cmp-equal e.client d.client x)))
        ∙ over (q e) (q d)
    go Greater x after h =
        ap (λ b. length (filter q (d ∷ with_entry e es)) + (if q (if b then d else entry_of es e.client) then 1 else 0)) (other (same_client d.client e.client) refl)
        ∙ behind (q d) h
      where
        other : (b : Bool) → same_client d.client e.client ≡ b → b ≡ false
        other false y = refl
        other true y = absurd (let s : client_cmp e.client d.client ≡ Equal = ap (client_cmp e.client) (same_client-equal d.client e.client y) ∙ client_cmp-self e.client in cc)

pub few-noted : (m time lease : ℕ) (kind : CallKind) (c : Client) (n : ℤ) (os : List ObjId) (es : List Entry) (most : ℕ) → m ≤ time → is_in_order es ≡ true → length (filter (has_time_left m) es) ≤ most →
    (IsTrue (is_dirty_kind kind) → clients_after es c time ≤ most) →
    length (filter (has_time_left time) (after_lapse time (with_entry (entry_after lease kind n os time (entry_of es c)) es))) ≤ most
few-noted m time lease kind c n os es most le order few room =
    few-lapse time time (with_entry (entry_after lease kind n os time (entry_of es c)) es) most (omega arith) (go kind room)
  where
    counted : (k : CallKind) → length (filter (has_time_left time) (with_entry (entry_after lease k n os time (entry_of es c)) es)) + (if has_time_left time (entry_of es c) then 1 else 0)
        ≡ length (filter (has_time_left time) es) + (if has_time_left time (entry_after lease k n os time (entry_of es c)) then 1 else 0)
    counted k =
        ap (λ d. length (filter (has_time_left time) (with_entry (entry_after lease k n os time (entry_of es c)) es)) + (if has_time_left time (entry_of es d) then 1 else 0)) (sym (client-of es c))
        ∙ few-with (has_time_left time) (λ d. no_time time) (entry_after lease k n os time (entry_of es c)) es order

    same : (x y : ℕ) (b : Bool) → x + (if b then 1 else 0) ≡ y + (if b then 1 else 0) → x ≡ y
    same x y true h = omega arith
    same x y false h = omega arith

    within : (x y : ℕ) (a b : Bool) → x + (if a then 1 else 0) ≡ y + (if b then 1 else 0) → y + (if a then 0 else 1) ≤ most → x ≤ most
    within x y true true h k = omega arith
    within x y true false h k = omega arith
    within x y false true h k = omega arith
    within x y false false h k = omega arith

    clean : (k : CallKind) → is_dirty_kind k ≡ false → length (filter (has_time_left time) (with_entry (entry_after lease k n os time (entry_of es c)) es)) ≤ most
    clean k d =
        let same_time : has_time_left time (entry_after lease k n os time (entry_of es c)) ≡ has_time_left time (entry_of es c) = ap (λ b. nat_lt time (if b then max (time + lease) (entry_of es c).until else (entry_of es c).until)) d in
        let e = same (length (filter (has_time_left time) (with_entry (entry_after lease k n os time (entry_of es c)) es))) (length (filter (has_time_left time) es)) (has_time_left time (entry_of es c))
        (counted k ∙ ap (λ b. length (filter (has_time_left time) es) + (if b then 1 else 0)) same_time) in
        let f = fewer (has_time_left time) (has_time_left m) (λ e x. earlier m time e.until le x) es in
        omega (arith, e, f, few)

    go : (k : CallKind) → (IsTrue (is_dirty_kind k) → clients_after es c time ≤ most) → length (filter (has_time_left time) (with_entry (entry_after lease k n os time (entry_of es c)) es)) ≤ most
    go Dirty r =
        within (length (filter (has_time_left time) (with_entry (entry_after lease Dirty n os time (entry_of es c)) es))) (length (filter (has_time_left time) es)) (has_time_left time (entry_of es c)) (has_time_left time (entry_after lease Dirty n os time (entry_of es c)))
        (counted Dirty) (r refl)
    go Weak r = clean Weak refl
    go Strong r = clean Strong refl

-- No more hold an object than have time left.
pub few-holders : (m time : ℕ) (o : ObjId) (es : List Entry) (most : ℕ) → m ≤ time → length (filter (has_time_left m) es) ≤ most → length (filter (entry_holds time o) es) ≤ most
few-holders m time o es most le few =
    let a = fewer (entry_holds time o) (has_time_left m) (λ e h. earlier m time e.until le (and_parts (has_time_left time e) _ h).0) es in omega (arith, a, few)
