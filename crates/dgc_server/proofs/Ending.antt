-- Leases that end as time passes, and whether there is one.
use Rattle.std.proofs.Common.{◌≡◌, ℕ, ◌≤◌, ◌<◌, List, [], ◌∷◌, refl, ap, subst, ◌∙◌, max, arith}
use Rattle.std.specs.Prelude.{Bool, true, false, ◌&&◌, ◌||◌, not, nat_lt, if◌then◌else◌}
use Rattle.std.specs.List.{list_any, AllByRecursion}
use Rattle.std.proofs.lemmas.Bool.{and_parts, not-true, ltb-true, ltb-false, lt-ltb, le-ltb}
use Rattle.object_ids.specs.Client.{Client}
use Rattle.object_ids.specs.Same.{same_client}
use Rattle.history.specs.declared.calls.Call.{Call}
use Rattle.history.specs.Leases.{calls_of}
use Rattle.dgc_server.specs.Entry.{Entry}
use Rattle.dgc_server.specs.Table.{entry_of, no_entry}
use Rattle.dgc_server.specs.StandsForCalls.{LeaseTable, EntryStands, StandsFor, SomeLeaseEnds, is_in_order}
use Rattle.dgc_server.specs.HolderIndex.{ends_between, IsSettled}
use Rattle.dgc_server.proofs.IndexLaws.{same-lt}
use Rattle.dgc_server.proofs.Outputs.{each-own}

-- ---- where nothing is due

pub none-ends : (m n t : ℕ) (es : List Entry) → m ≤ t → t < n → AllByRecursion (IsSettled m n) es → list_any (ends_between m t) es ≡ false
none-ends m n t [] le lt a = refl
none-ends m n t (e ∷ es) le lt a =
    ap (λ b. (nat_lt m e.until && not b) || list_any (ends_between m t) es) (same-lt m n t e.until le lt a.0.later) ∙ go (nat_lt m e.until) (none-ends m n t es le lt a.1)
  where
    go : (b : Bool) → list_any (ends_between m t) es ≡ false → ((b && not b) || list_any (ends_between m t) es) ≡ false
    go true rest = rest
    go false rest = rest

-- ---- for the calls that a table stands for

-- One that passes, with what holds of each.
record Found {X : Type 0} (P : X → Type 0) (p : X → Bool) : Type 0 where
  x : X
  passes : p x ≡ true
  holds : P x

find-one : {X : Type 0} (P : X → Type 0) (p : X → Bool) (xs : List X) → AllByRecursion P xs → list_any p xs ≡ true → Found P p
find-one P p [] a h = absurd (cc)
find-one P p (x ∷ xs) a h = go (p x) refl h (find-one P p xs a.1)
  where
    go : (b : Bool) → p x ≡ b → (b || list_any p xs) ≡ true → (list_any p xs ≡ true → Found P p) → Found P p
    go true e q rest = record { x = x; passes = e; holds = a.0 }
    go false e q rest = rest q

any-own : (p : Entry → Bool) (es : List Entry) (c : Client) → p (no_entry c) ≡ false → p (entry_of es c) ≡ true → list_any p es ≡ true
any-own p [] c none h = absurd (cc)
any-own p (e ∷ es) c none h = go (same_client e.client c) h (any-own p es c none)
  where
    here : (b : Bool) → b ≡ true → (b || list_any p es) ≡ true
    here true q = refl
    here false q = absurd (cc)

    later : (b : Bool) → list_any p es ≡ true → (b || list_any p es) ≡ true
    later true q = refl
    later false q = q

    go : (b : Bool) → p (if b then e else entry_of es c) ≡ true → (p (entry_of es c) ≡ true → list_any p es ≡ true) → (p e || list_any p es) ≡ true
    go true q rest = here (p e) q
    go false q rest = later (p e) (rest q)

ended-between : (m t u : ℕ) → m < u → u ≤ t → (nat_lt m u && not (nat_lt t u)) ≡ true
ended-between m t u lt le = ap (λ b. b && not (nat_lt t u)) (lt-ltb m u lt) ∙ ap not (le-ltb t u le)

pub ends-some : (lease m t now : ℕ) (table : LeaseTable) (calls : List Call) → StandsFor lease table m calls → is_in_order table.entries ≡ true → t ≡ max now m →
    list_any (ends_between m t) table.entries ≡ true → SomeLeaseEnds lease m now calls
ends-some lease m t now table calls s order time h = go (find-one (λ e. entry_of table.entries e.client ≡ e) (ends_between m t) table.entries (each-own table.entries order) h)
  where
    go : Found (λ e. entry_of table.entries e.client ≡ e) (ends_between m t) → SomeLeaseEnds lease m now calls
    go f =
        let two = and_parts (nat_lt m f.x.until) (not (nat_lt t f.x.until)) f.passes in
        let after = ltb-true m f.x.until two.0 in
        let before = ltb-false t f.x.until (not-true (nat_lt t f.x.until) two.1) in
        let P : Entry → Type 0 = λ e. EntryStands lease m e (calls_of f.x.client calls) in
        let ends = (subst P f.holds (s.each f.x.client)).ends in
        (f.x.client, (omega arith, omega arith))

pub some-ends : (lease m t now : ℕ) (table : LeaseTable) (calls : List Call) → StandsFor lease table m calls → t ≡ max now m →
    SomeLeaseEnds lease m now calls → list_any (ends_between m t) table.entries ≡ true
some-ends lease m t now table calls s time some =
    let c = some.0 in
    let after = some.1.0 in
    let before = some.1.1 in
    let ends = (s.each c).ends in
    any-own (ends_between m t) table.entries c (ap (λ b. b && not (nat_lt t 0)) (le-ltb m 0 (omega arith))) (ended-between m t (entry_of table.entries c).until (omega arith) (omega arith))
