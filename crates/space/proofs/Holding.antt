-- What a client holds, it holds on until its lease ends or a clean call names the object.
use Rattle.std.proofs.Common.{◌≡◌, ℕ, ◌≤◌, ◌⊎◌, inl, inr, List, ◌∷◌, ◌++◌, refl, ap, sym, ◌∙◌, cond, arith}
use Rattle.std.specs.Prelude.{Bool, true, false, ◌&&◌, ◌||◌, filter, max, nat_lt, int_lt, if◌then◌else◌}
use Rattle.std.specs.List.{list_any, list_all}
use Rattle.std.proofs.lemmas.Bool.{and_parts, and_from, or_left, or_right, lt-ltb, ltb-true}
use Rattle.std.proofs.lemmas.List.Elements.{filter-append}
use Rattle.object_ids.specs.declared.ids.ObjId.{ObjId}
use Rattle.object_ids.specs.Client.{Client}
use Rattle.object_ids.specs.Same.{same_client}
use Rattle.object_ids.proofs.Exact.{same_client-equal}
use Rattle.history.specs.declared.calls.Call.{Call}
use Rattle.history.specs.declared.calls.CallKind.{CallKind}
use Rattle.history.specs.declared.calls.CallKind.TheVariants.{Dirty as DirtyCall, Weak, Strong}
use Rattle.history.specs.Leases.{is_dirty, is_dirty_kind, is_strong, is_strong_kind, is_naming, grant_end, lease_end, has_time_left, tenure, strong_cleans, counting_calls, highest_is_dirty, holds, calls_of, is_held}
use Rattle.history.proofs.LeaseLaws.{highest_is_dirty-scan, is_held-calls}
use Rattle.history.proofs.ListLemmas.{Somewhere-test, test-Somewhere, witness}
use Rattle.dgc_server.specs.StandsForCalls.{LeaseTable, StandsFor}
use Rattle.dgc_server.specs.Entry.{entry_holds}
use Rattle.dgc_server.specs.Table.{entry_of}
use Rattle.dgc_server.proofs.Outputs.{time-called, holds-entry}

-- ---- lists

pub any-weaker : {X : Type 0} (p q : X → Bool) → ((x : X) → p x ≡ true → q x ≡ true) → (xs : List X) → list_any p xs ≡ true → list_any q xs ≡ true
any-weaker p q f xs h = test-Somewhere (λ x. p x ≡ true) q f xs (Somewhere-test p xs h)

-- ---- one client

holds-left : (lease t : ℕ) (own : List Call) (o : ObjId) → holds lease t own o ≡ true → has_time_left lease t own ≡ true
unfolding holds
holds-left lease t own o h = (and_parts (has_time_left lease t own) (highest_is_dirty (counting_calls lease own o)) h).0

-- One more dirty leaves a dirty highest.
dirty-more : (x : Call) (calls : List Call) → is_dirty x ≡ true → highest_is_dirty calls ≡ true → highest_is_dirty (x ∷ calls) ≡ true
dirty-more x calls d h =
    highest_is_dirty-scan (x ∷ calls)
    ∙ or_right (is_dirty x && list_all (λ y. is_dirty y || int_lt y.number x.number) (x ∷ calls)) (list_any (λ e. is_dirty e && list_all (λ y. is_dirty y || int_lt y.number e.number) (x ∷ calls)) calls)
    (any-weaker (λ e. is_dirty e && list_all (λ y. is_dirty y || int_lt y.number e.number) calls) (λ e. is_dirty e && list_all (λ y. is_dirty y || int_lt y.number e.number) (x ∷ calls))
    (λ e k. let two = and_parts (is_dirty e) (list_all (λ y. is_dirty y || int_lt y.number e.number) calls) k in
    and_from (is_dirty e) (list_all (λ y. is_dirty y || int_lt y.number e.number) (x ∷ calls)) two.0
    (and_from (is_dirty x || int_lt x.number e.number) (list_all (λ y. is_dirty y || int_lt y.number e.number) calls) (or_left (is_dirty x) (int_lt x.number e.number) d) two.1))
    calls (sym (highest_is_dirty-scan calls) ∙ h))

dirty-not_strong : (k : CallKind) → is_dirty_kind k ≡ true → is_strong_kind k ≡ false
dirty-not_strong DirtyCall e = refl
dirty-not_strong Weak e = absurd (cc)
dirty-not_strong Strong e = absurd (cc)

tenure-more : (lease : ℕ) (own : List Call) (x : Call) → has_time_left lease x.moment own ≡ true → tenure lease (x ∷ own) ≡ x ∷ tenure lease own
unfolding tenure
tenure-more lease own x left = rw left refl

-- A call that comes while there is time left, and is a dirty or does not name the object.
counting-call : (lease : ℕ) (own : List Call) (x : Call) (o : ObjId) → has_time_left lease x.moment own ≡ true → (is_dirty x ≡ true) ⊎ (is_naming o x ≡ false) →
    highest_is_dirty (counting_calls lease own o) ≡ true → highest_is_dirty (counting_calls lease (x ∷ own) o) ≡ true
unfolding counting_calls
counting-call lease own x o left (inr other) h = ap highest_is_dirty same ∙ h
  where
    rest : (b : Bool) → filter (is_naming o) (cond b (x ∷ strong_cleans own) (strong_cleans own)) ≡ filter (is_naming o) (strong_cleans own)
    rest true = rw other refl
    rest false = refl

    same : filter (is_naming o) (tenure lease (x ∷ own) ++ strong_cleans (x ∷ own)) ≡ filter (is_naming o) (tenure lease own ++ strong_cleans own)
    same =
        filter-append (is_naming o) (tenure lease (x ∷ own)) (strong_cleans (x ∷ own))
        ∙ ap (λ l. filter (is_naming o) l ++ filter (is_naming o) (strong_cleans (x ∷ own))) (tenure-more lease own x left)
        ∙ ap (λ l. cond (is_naming o x) (x ∷ filter (is_naming o) (tenure lease own)) (filter (is_naming o) (tenure lease own)) ++ l) (rest (is_strong x))
        ∙ ap (λ b. cond b (x ∷ filter (is_naming o) (tenure lease own)) (filter (is_naming o) (tenure lease own)) ++ filter (is_naming o) (strong_cleans own)) other
        ∙ sym (filter-append (is_naming o) (tenure lease own) (strong_cleans own))
counting-call lease own x o left (inl dirty) h = ap (λ l. highest_is_dirty (filter (is_naming o) l)) whole ∙ go (is_naming o x)
  where
    strongs : strong_cleans (x ∷ own) ≡ strong_cleans own
    strongs = ap (λ b. cond b (x ∷ strong_cleans own) (strong_cleans own)) (dirty-not_strong x.kind dirty)

    whole : tenure lease (x ∷ own) ++ strong_cleans (x ∷ own) ≡ x ∷ (tenure lease own ++ strong_cleans own)
    whole = ap (λ l. l ++ strong_cleans (x ∷ own)) (tenure-more lease own x left) ∙ ap (λ l. (x ∷ tenure lease own) ++ l) strongs

    go : (b : Bool) → highest_is_dirty (cond b (x ∷ filter (is_naming o) (tenure lease own ++ strong_cleans own)) (filter (is_naming o) (tenure lease own ++ strong_cleans own))) ≡ true
    go true = dirty-more x (filter (is_naming o) (tenure lease own ++ strong_cleans own)) dirty h
    go false = h

-- Its lease ends no earlier.
left-call : (lease : ℕ) (own : List Call) (x : Call) → 1 ≤ lease → has_time_left lease x.moment own ≡ true → has_time_left lease x.moment (x ∷ own) ≡ true
unfolding lease_end
left-call lease own x some left = go (is_dirty x)
  where
    go : (b : Bool) → nat_lt x.moment (if b then max (grant_end lease x) (lease_end lease own) else lease_end lease own) ≡ true
    go true = lt-ltb x.moment (max (grant_end lease x) (lease_end lease own)) (let l = ltb-true x.moment (lease_end lease own) left in omega arith)
    go false = left

holds-call : (lease : ℕ) (own : List Call) (x : Call) (o : ObjId) → 1 ≤ lease → (is_dirty x ≡ true) ⊎ (is_naming o x ≡ false) → holds lease x.moment own o ≡ true → holds lease x.moment (x ∷ own) o ≡ true
unfolding holds
holds-call lease own x o some kind h =
    let two = and_parts (has_time_left lease x.moment own) (highest_is_dirty (counting_calls lease own o)) h in
    and_from (has_time_left lease x.moment (x ∷ own)) (highest_is_dirty (counting_calls lease (x ∷ own) o)) (left-call lease own x some two.0) (counting-call lease own x o two.0 kind two.1)

-- ---- all clients

held-where : (lease t : ℕ) (calls : List Call) (o : ObjId) → is_held lease t calls o ≡ true → (c : Client) × (holds lease t (calls_of c calls) o ≡ true)
held-where lease t calls o h =
    let one = witness (λ (x : Call). holds lease t (calls_of x.client calls) o) calls (Somewhere-test (λ (x : Call). holds lease t (calls_of x.client calls) o) calls (sym (is_held-calls lease t calls o) ∙ h)) in
    (one.0.client, one.1)

held-when : (lease t : ℕ) (calls : List Call) (o : ObjId) (c : Client) → holds lease t (calls_of c calls) o ≡ true → is_held lease t calls o ≡ true
held-when lease t calls o c h =
    is_held-calls lease t calls o
    ∙ any-weaker (λ (x : Call). same_client c x.client) (λ (x : Call). holds lease t (calls_of x.client calls) o)
    (λ x e. ap (λ (d : Client). holds lease t (calls_of d calls) o) (sym (same_client-equal c x.client e)) ∙ h)
    calls (time-called lease t c calls (holds-left lease t (calls_of c calls) o h))

-- An object is held on after a call that is a dirty or does not name it.
pub held-call : (lease : ℕ) (calls : List Call) (x : Call) (o : ObjId) → 1 ≤ lease → (is_dirty x ≡ true) ⊎ (is_naming o x ≡ false) → is_held lease x.moment calls o ≡ true → is_held lease x.moment (x ∷ calls) o ≡ true
unfolding calls_of
held-call lease calls x o some kind h =
    let one = held-where lease x.moment calls o h in
    held-when lease x.moment (x ∷ calls) o one.0 (go one.0 (same_client x.client one.0) one.1)
  where
    go : (c : Client) (b : Bool) → holds lease x.moment (filter (λ y. same_client y.client c) calls) o ≡ true →
        holds lease x.moment (cond b (x ∷ filter (λ y. same_client y.client c) calls) (filter (λ y. same_client y.client c) calls)) o ≡ true
    go c true k = holds-call lease (filter (λ y. same_client y.client c) calls) x o some kind k
    go c false k = k

-- All calls that a table stands for say the same of what is held.
pub held-alike : (lease n m k t s : ℕ) (table : LeaseTable) (calls others : List Call) (o : ObjId) → StandsFor lease table m calls → StandsFor n table k others → m ≤ t → k ≤ s → s ≡ t →
    is_held lease t calls o ≡ true → is_held n s others o ≡ true
held-alike lease n m k t s table calls others o a b early soon same h =
    let one = held-where lease t calls o h in
    let entry = sym (holds-entry lease m t (entry_of table.entries one.0) (calls_of one.0 calls) o early (a.each one.0)) ∙ one.1 in
    held-when n s others o one.0 (holds-entry n k s (entry_of table.entries one.0) (calls_of one.0 others) o soon (b.each one.0) ∙ ap (λ i. entry_holds i o (entry_of table.entries one.0)) same ∙ entry)
