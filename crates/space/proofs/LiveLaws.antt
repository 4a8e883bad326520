-- The lease calls of a history, and the live ones: those that name only objects of a table. For each object of the table they say the
-- same, and as objects leave the table the live calls forget them.
use Rattle.std.proofs.Common.{◌≡◌, ℕ, List, [], ◌∷◌, ◌++◌, refl, ap, sym, ◌∙◌, cond, map}
use Rattle.std.specs.Prelude.{pos, Bool, true, false, ◌&&◌, ◌||◌, not, filter, max, nat_lt, if◌then◌else◌}
use Rattle.std.specs.List.{list_any, AllByRecursion}
use Rattle.std.proofs.lemmas.Bool.{or_parts}
use Rattle.std.proofs.lemmas.List.Folds.{list_any-append}
use Rattle.std.proofs.lemmas.List.{map-append}
use Rattle.object_ids.specs.declared.ids.ObjId.{ObjId}
use Rattle.object_ids.specs.Client.{Client, client_cmp}
use Rattle.object_ids.specs.Same.{same_client, same_id}
use Rattle.object_ids.proofs.Exact.{same_id-equal}
use Rattle.history.specs.declared.asks.Ask.{Ask}
use Rattle.history.specs.declared.asks.Ask.TheVariants.{Dirty, Clean}
use Rattle.history.specs.declared.calls.Call.{Call}
use Rattle.history.specs.declared.calls.CallKind.TheVariants.{Dirty as DirtyCall, Weak, Strong}
use Rattle.history.specs.declared.calls.Pair.{Pair}
use Rattle.history.specs.declared.places.Exported.{Exported}
use Rattle.history.specs.Lists.{in_order}
use Rattle.history.specs.LeaseCalls.{call_with}
use Rattle.history.specs.Leases.{is_dirty, is_strong, is_naming, grant_end, lease_end, has_time_left, calls_of, clients, clients_with_time_left, lease_rows, holders, is_held, is_remembered, same_pair, pairs_of, pairs_with, pairs, new_pairs}
use Rattle.history.specs.Places.{has}
use Rattle.history.specs.Replies.{ids}
use Rattle.history.proofs.AlikeCalls.{AllAlike, AllAlike-append, AllAlike-map, holders-alike, is_held-alike, is_remembered-alike, calls_of-alike}
use Rattle.history.proofs.ListLemmas.{list_any-filter, list_any-same, and_false}
use Rattle.history.proofs.NamedCalls.{call_with-alike}
use Rattle.history.proofs.NumberLaws.{AllApart}
use Rattle.history.proofs.PairLaws.{any-pairs_with, any-pairs, remembered-named}
use Rattle.dgc_server.specs.Counts.{without_all}
use Rattle.space.specs.Kept.{live_call, live_calls}
use Rattle.space.proofs.Named.{NamesOnly, naming-has, any-ids, passing}

-- ---- what is said of an object of the table

live-naming : (objects : List Exported) (o : ObjId) → has objects o ≡ true → (x : Call) → is_naming o x ≡ is_naming o (live_call objects x)
live-naming objects o h x =
    list_any-same (λ y. same_id y o) (λ y. has objects y && same_id y o) (λ y. each y (same_id y o) refl) x.objects
    ∙ sym (list_any-filter (λ y. same_id y o) (has objects) x.objects)
  where
    each : (y : ObjId) (b : Bool) → same_id y o ≡ b → b ≡ (has objects y && b)
    each y true e = sym (ap (λ v. v && true) (ap (has objects) (same_id-equal y o e) ∙ h))
    each y false e = sym (and_false (has objects y))

pub live-alike : (objects : List Exported) (o : ObjId) (calls : List Call) → has objects o ≡ true → AllAlike o calls (live_calls objects calls)
live-alike objects o calls h =
    AllAlike-map o (live_call objects) (λ x. record { moment = refl; client = refl; number = refl; kind = refl; asked = refl; naming = live-naming objects o h x }) calls

-- The same clients hold it.
pub holders-live : (objects : List Exported) (o : ObjId) (lease t : ℕ) (calls : List Call) → has objects o ≡ true → holders lease t calls o ≡ holders lease t (live_calls objects calls) o
holders-live objects o lease t calls h = holders-alike o lease t calls (live_calls objects calls) (live-alike objects o calls h)

pub is_held-live : (objects : List Exported) (o : ObjId) (lease t : ℕ) (calls : List Call) → has objects o ≡ true → is_held lease t calls o ≡ is_held lease t (live_calls objects calls) o
is_held-live objects o lease t calls h = is_held-alike o lease t calls (live_calls objects calls) (live-alike objects o calls h)

-- ---- the clients

-- Calls that differ in their objects alone: their clients have the same leases.
live-own : (objects : List Exported) (c : Client) (calls : List Call) → calls_of c (live_calls objects calls) ≡ live_calls objects (calls_of c calls)
unfolding calls_of
live-own objects c [] = refl
live-own objects c (x ∷ calls) = go (same_client x.client c) (live-own objects c calls)
  where
    go : (b : Bool) → filter (λ y. same_client y.client c) (live_calls objects calls) ≡ live_calls objects (filter (λ y. same_client y.client c) calls) →
        cond b (live_call objects x ∷ filter (λ y. same_client y.client c) (live_calls objects calls)) (filter (λ y. same_client y.client c) (live_calls objects calls))
        ≡ live_calls objects (cond b (x ∷ filter (λ y. same_client y.client c) calls) (filter (λ y. same_client y.client c) calls))
    go true e = ap (λ l. live_call objects x ∷ l) e
    go false e = e

live-end : (objects : List Exported) (lease : ℕ) (own : List Call) → lease_end lease (live_calls objects own) ≡ lease_end lease own
unfolding lease_end
live-end objects lease [] = refl
live-end objects lease (x ∷ own) = go (is_dirty x) (live-end objects lease own)
  where
    go : (b : Bool) → lease_end lease (live_calls objects own) ≡ lease_end lease own →
        (if b then max (grant_end lease x) (lease_end lease (live_calls objects own)) else lease_end lease (live_calls objects own))
        ≡ (if b then max (grant_end lease x) (lease_end lease own) else lease_end lease own)
    go true e = ap (max (grant_end lease x)) e
    go false e = e

pub live-lease_end : (objects : List Exported) (lease : ℕ) (c : Client) (calls : List Call) → lease_end lease (calls_of c (live_calls objects calls)) ≡ lease_end lease (calls_of c calls)
live-lease_end objects lease c calls = ap (lease_end lease) (live-own objects c calls) ∙ live-end objects lease (calls_of c calls)

live-senders : (objects : List Exported) (calls : List Call) → map (λ x. x.client) (live_calls objects calls) ≡ map (λ x. x.client) calls
live-senders objects [] = refl
live-senders objects (x ∷ calls) = ap (λ l. x.client ∷ l) (live-senders objects calls)

live-clients : (objects : List Exported) (calls : List Call) → clients (live_calls objects calls) ≡ clients calls
unfolding clients
live-clients objects calls = ap (in_order client_cmp) (live-senders objects calls)

filter_alike : {X : Type 0} (p q : X → Bool) → ((x : X) → p x ≡ q x) → (xs : List X) → filter p xs ≡ filter q xs
filter_alike p q h [] = refl
filter_alike p q h (x ∷ xs) = rw (h x, filter_alike p q h xs) refl

map_alike : {X Y : Type 0} (f g : X → Y) → ((x : X) → f x ≡ g x) → (xs : List X) → map f xs ≡ map g xs
map_alike f g h [] = refl
map_alike f g h (x ∷ xs) = rw (h x, map_alike f g h xs) refl

pub left-live : (objects : List Exported) (lease t : ℕ) (calls : List Call) → clients_with_time_left lease t (live_calls objects calls) ≡ clients_with_time_left lease t calls
unfolding clients_with_time_left
left-live objects lease t calls =
    ap (filter (λ c. has_time_left lease t (calls_of c (live_calls objects calls)))) (live-clients objects calls)
    ∙ filter_alike (λ c. has_time_left lease t (calls_of c (live_calls objects calls))) (λ c. has_time_left lease t (calls_of c calls))
    (λ c. ap (λ n. nat_lt t n) (live-lease_end objects lease c calls)) (clients calls)

pub lease_rows-live : (objects : List Exported) (lease t : ℕ) (calls : List Call) → lease_rows lease t (live_calls objects calls) ≡ lease_rows lease t calls
unfolding lease_rows
lease_rows-live objects lease t calls =
    map_alike (λ c. record { client = c; until = lease_end lease (calls_of c (live_calls objects calls)) }) (λ c. record { client = c; until = lease_end lease (calls_of c calls) })
    (λ c. ap (λ (n : ℕ). record { client = c; until = n }) (live-lease_end objects lease c calls)) (clients_with_time_left lease t (live_calls objects calls))
    ∙ ap (map (λ c. record { client = c; until = lease_end lease (calls_of c calls) })) (left-live objects lease t calls)

-- ---- the pairs

pub live-names : (objects : List Exported) (calls : List Call) → AllByRecursion (NamesOnly objects) (live_calls objects calls)
live-names objects [] = tt
live-names objects (x ∷ calls) = (passing (has objects) x.objects, live-names objects calls)

-- ALL PAIRS of the live calls are those of the calls with an object of the table.
pub pairs-live : (objects : List Exported) (lease t : ℕ) (calls : List Call) (p : Pair) →
    list_any (same_pair p) (pairs_with lease t calls (ids objects)) ≡ list_any (same_pair p) (pairs lease t (live_calls objects calls))
pairs-live objects lease t calls p =
    any-pairs_with lease t calls (ids objects) p
    ∙ ap (λ v. v && is_remembered lease t (calls_of p.client calls) p.object) (any-ids objects p.object)
    ∙ go (has objects p.object) refl
    ∙ sym (any-pairs lease t (live_calls objects calls) p)
  where
    none : (b : Bool) → is_remembered lease t (calls_of p.client (live_calls objects calls)) p.object ≡ b → has objects p.object ≡ false → false ≡ b
    none false e h = refl
    none true e h =
        absurd (let there = naming-has objects p.object (live_calls objects calls) (live-names objects calls) (remembered-named lease t p.client (live_calls objects calls) p.object e) in cc)

    go : (b : Bool) → has objects p.object ≡ b → (b && is_remembered lease t (calls_of p.client calls) p.object) ≡ is_remembered lease t (calls_of p.client (live_calls objects calls)) p.object
    go true h =
        is_remembered-alike p.object lease t (calls_of p.client calls) (calls_of p.client (live_calls objects calls))
        (calls_of-alike p.object p.client calls (live_calls objects calls) (live-alike objects p.object calls h))
    go false h = none (is_remembered lease t (calls_of p.client (live_calls objects calls)) p.object) refl h

-- A call brings the same pairs after either.
pub new_pairs-live : (objects : List Exported) (lease : ℕ) (calls : List Call) (x : Call) → new_pairs lease calls x ≡ new_pairs lease (live_calls objects calls) x
unfolding new_pairs
new_pairs-live objects lease calls x =
    ap (λ n. if is_dirty x || is_strong x || nat_lt x.moment n then pairs_of x.client x.objects else []) (sym (live-lease_end objects lease x.client calls))

-- ---- objects leave the table

abbrev among : ObjId → List ObjId → Bool
among y os = list_any (λ o. same_id y o) os

filter-two : (p q r s : ObjId → Bool) (ys : List ObjId) → AllByRecursion (λ y. (p y && q y) ≡ (r y && s y)) ys → filter p (filter q ys) ≡ filter r (filter s ys)
filter-two p q r s [] e = refl
filter-two p q r s (y ∷ ys) e = go (p y) (q y) (r y) (s y) refl refl refl refl e.0 (filter-two p q r s ys e.1)
  where
    go : (a b c d : Bool) → p y ≡ a → q y ≡ b → r y ≡ c → s y ≡ d → (a && b) ≡ (c && d) → filter p (filter q ys) ≡ filter r (filter s ys) →
        filter p (cond b (y ∷ filter q ys) (filter q ys)) ≡ filter r (cond d (y ∷ filter s ys) (filter s ys))
    go true true true true e f g h i rest = rw (e, g) (ap (λ l. y ∷ l) rest)
    go a false c false e f g h i rest = rest
    go false true c false e f g h i rest = rw e rest
    go a false false true e f g h i rest = rw g rest
    go false true false true e f g h i rest = rw (e, g) rest
    go true true c false e f g h i rest = absurd (let never = i ∙ and_false c in cc)
    go true true false true e f g h i rest = absurd (cc)
    go a false true true e f g h i rest = absurd (let never = sym i ∙ and_false a in cc)
    go false true true true e f g h i rest = absurd (cc)

-- Objects of a table, each once: those that stay, and those that go.
pub has-staying : (stays : Exported → Bool) (objects : List Exported) (y : ObjId) → AllApart objects →
    has (filter stays objects) y ≡ (not (has (filter (λ x. not (stays x)) objects) y) && has objects y)
has-staying stays [] y a = refl
has-staying stays (x ∷ objects) y a = go (stays x) (same_id x.id y) refl a.0 (has-staying stays objects y a.1)
  where
    off : (b : Bool) → (b && false) ≡ false
    off = and_false

    none : (test : Exported → Bool) (xs : List Exported) → has xs y ≡ false → has (filter test xs) y ≡ false
    none test [] h = refl
    none test (z ∷ zs) h = let two = or_parts (same_id z.id y) (has zs y) h in kept (test z) two.0 (none test zs two.1)
      where
        kept : (c : Bool) → same_id z.id y ≡ false → has (filter test zs) y ≡ false → has (cond c (z ∷ filter test zs) (filter test zs)) y ≡ false
        kept true p q = rw (p, q) refl
        kept false p q = q

    gone : same_id x.id y ≡ true → has objects x.id ≡ false → has objects y ≡ false
    gone e h = ap (has objects) (sym (same_id-equal x.id y e)) ∙ h

    go : (s b : Bool) → same_id x.id y ≡ b → has objects x.id ≡ false → has (filter stays objects) y ≡ (not (has (filter (λ z. not (stays z)) objects) y) && has objects y) →
        has (cond s (x ∷ filter stays objects) (filter stays objects)) y ≡ (not (has (cond (not s) (x ∷ filter (λ z. not (stays z)) objects) (filter (λ z. not (stays z)) objects)) y) && (b || has objects y))
    go true true e h rest = rw (e, none (λ z. not (stays z)) objects (gone e h)) refl
    go false true e h rest = rw (e, none stays objects (gone e h)) refl
    go true false e h rest = rw e rest
    go false false e h rest = rw e rest

-- What a table is before and after an event, and what was ever exported.
pub record IsNext (objects more exported objects' : List Exported) (stays : Exported → Bool) : Type 0 where
  pub apart : AllApart (objects ++ more)
  pub old : (y : ObjId) → has objects y ≡ true → has exported y ≡ true
  pub new : (y : ObjId) → has exported y ≡ true → has more y ≡ false
  pub next : objects' ≡ filter stays (objects ++ more)

abbrev pub gone_of : List Exported → (Exported → Bool) → List ObjId
gone_of objects stays = ids (filter (λ x. not (stays x)) objects)

among-ids : (xs : List Exported) (y : ObjId) → among y (ids xs) ≡ has xs y
among-ids xs y = any-ids xs y

-- An object that was exported before is in the table afterwards where it was there and doesn't go.
has-next : (objects more exported objects' : List Exported) (stays : Exported → Bool) → IsNext objects more exported objects' stays → (y : ObjId) → has exported y ≡ true →
    has objects' y ≡ (not (among y (gone_of (objects ++ more) stays)) && has objects y)
has-next objects more exported objects' stays n y h =
    ap (λ l. has l y) n.next
    ∙ has-staying stays (objects ++ more) y n.apart
    ∙ ap (λ v. not v && has (objects ++ more) y) (sym (among-ids (filter (λ x. not (stays x)) (objects ++ more)) y))
    ∙ ap (λ v. not (among y (gone_of (objects ++ more) stays)) && v) (list_any-append (λ (x : Exported). same_id x.id y) objects more ∙ none (has objects y) (has more y) (n.new y h))
  where
    none : (a b : Bool) → b ≡ false → (a || b) ≡ a
    none true b e = refl
    none false b e = e

has-nowhere : (objects more exported objects' : List Exported) (stays : Exported → Bool) → IsNext objects more exported objects' stays → (y : ObjId) → has exported y ≡ false → has objects y ≡ false
has-nowhere objects more exported objects' stays n y h = go (has objects y) refl
  where
    go : (b : Bool) → has objects y ≡ b → b ≡ false
    go true e = absurd (let there = n.old y e in cc)
    go false e = refl

live-reported : (objects more exported objects' : List Exported) (stays : Exported → Bool) → IsNext objects more exported objects' stays → (ys : List ObjId) →
    filter (has objects') (filter (has exported) ys) ≡ filter (λ y. not (among y (gone_of (objects ++ more) stays))) (filter (has objects) ys)
live-reported objects more exported objects' stays n ys =
    filter-two (has objects') (has exported) (λ y. not (among y (gone_of (objects ++ more) stays))) (has objects) ys (all ys)
  where
    each : (y : ObjId) (b : Bool) → has exported y ≡ b → (has objects' y && b) ≡ (not (among y (gone_of (objects ++ more) stays)) && has objects y)
    each y true e = and_true (has objects' y) ∙ has-next objects more exported objects' stays n y e
      where
        and_true : (v : Bool) → (v && true) ≡ v
        and_true true = refl
        and_true false = refl
    each y false e =
        and_false (has objects' y)
        ∙ sym (ap (λ v. not (among y (gone_of (objects ++ more) stays)) && v) (has-nowhere objects more exported objects' stays n y e) ∙ and_false (not (among y (gone_of (objects ++ more) stays))))

    all : (zs : List ObjId) → AllByRecursion (λ y. (has objects' y && has exported y) ≡ (not (among y (gone_of (objects ++ more) stays)) && has objects y)) zs
    all [] = tt
    all (z ∷ zs) = (each z (has exported z) refl, all zs)

live-kept : (objects more exported objects' : List Exported) (stays : Exported → Bool) → IsNext objects more exported objects' stays → (calls : List Call) → AllByRecursion (NamesOnly exported) calls →
    live_calls objects' calls ≡ map (without_all (gone_of (objects ++ more) stays)) (live_calls objects calls)
live-kept objects more exported objects' stays n [] e = refl
live-kept objects more exported objects' stays n (x ∷ calls) e =
    ap (λ (os : List ObjId). record x { objects = os } ∷ live_calls objects' calls) (same x.objects e.0)
    ∙ ap (λ l. without_all (gone_of (objects ++ more) stays) (live_call objects x) ∷ l) (live-kept objects more exported objects' stays n calls e.1)
  where
    whole : (ys : List ObjId) → AllByRecursion (λ y. has exported y ≡ true) ys → filter (has exported) ys ≡ ys
    whole [] f = refl
    whole (y ∷ ys) f = rw (f.0, whole ys f.1) refl

    same : (ys : List ObjId) → AllByRecursion (λ y. has exported y ≡ true) ys → filter (has objects') ys ≡ filter (λ y. not (among y (gone_of (objects ++ more) stays))) (filter (has objects) ys)
    same ys f = ap (filter (has objects')) (sym (whole ys f)) ∙ live-reported objects more exported objects' stays n ys

live-call : (objects more exported objects' : List Exported) (stays : Exported → Bool) → IsNext objects more exported objects' stays → (moment : ℕ) (a : Ask) →
    live_calls objects' (call_with (has exported) moment a) ≡ map (without_all (gone_of (objects ++ more) stays)) (call_with (has objects) moment a)
live-call objects more exported objects' stays n moment (Dirty client number asked named) =
    ap (λ (os : List ObjId). record { moment = moment; client = client; number = number; objects = os; kind = DirtyCall; asked = asked } ∷ []) (live-reported objects more exported objects' stays n named)
live-call objects more exported objects' stays n moment (Clean client number named strong) =
    ap (λ (os : List ObjId). record { moment = moment; client = client; number = number; objects = os; kind = if strong then Strong else Weak; asked = pos 0 } ∷ []) (live-reported objects more exported objects' stays n named)
live-call objects more exported objects' stays n moment _ = refl

-- THE LIVE CALLS AFTER AN EVENT are those before it with the event's own, without the objects that go.
pub live-push : (objects more exported objects' : List Exported) (stays : Exported → Bool) → IsNext objects more exported objects' stays → (moment : ℕ) (a : Ask) (calls : List Call) → AllByRecursion (NamesOnly exported) calls →
    live_calls objects' (call_with (has exported) moment a ++ calls)
    ≡ map (without_all (gone_of (objects ++ more) stays)) (call_with (has objects) moment a ++ live_calls objects calls)
live-push objects more exported objects' stays n moment a calls e =
    map-append (live_call objects') (call_with (has exported) moment a) calls
    ∙ ap (λ l. l ++ live_calls objects' calls) (live-call objects more exported objects' stays n moment a)
    ∙ ap (λ l. map (without_all (gone_of (objects ++ more) stays)) (call_with (has objects) moment a) ++ l) (live-kept objects more exported objects' stays n calls e)
    ∙ sym (map-append (without_all (gone_of (objects ++ more) stays)) (call_with (has objects) moment a) (live_calls objects calls))

-- Before they go, the event's own call and the live ones say the same of each object that was in the table or is new.
pub reported-alike : (objects exported : List Exported) (o : ObjId) (moment : ℕ) (a : Ask) (calls : List Call) → has exported o ≡ has objects o → (has objects o ≡ false → list_any (is_naming o) calls ≡ false) →
    AllAlike o (call_with (has exported) moment a ++ calls) (call_with (has objects) moment a ++ live_calls objects calls)
reported-alike objects exported o moment a calls same none =
    AllAlike-append o (call_with (has exported) moment a) (call_with (has objects) moment a) calls (live_calls objects calls)
    (call_with-alike (has exported) (has objects) o same moment a) (go (has objects o) refl)
  where
    silent : (xs : List Call) → list_any (is_naming o) xs ≡ false → has objects o ≡ false → AllAlike o xs (live_calls objects xs)
    silent [] e h = tt
    silent (x ∷ xs) e h =
        let two = or_parts (is_naming o x) (list_any (is_naming o) xs) e in
        (record { moment = refl; client = refl; number = refl; kind = refl; asked = refl; naming = two.0 ∙ sym (nameless x.objects two.0) }, silent xs two.1 h)
      where
        nameless : (ys : List ObjId) → list_any (λ y. same_id y o) ys ≡ false → list_any (λ y. same_id y o) (filter (has objects) ys) ≡ false
        nameless [] f = refl
        nameless (y ∷ ys) f = let two = or_parts (same_id y o) (list_any (λ z. same_id z o) ys) f in kept (has objects y) two.0 (nameless ys two.1)
          where
            kept : (b : Bool) → same_id y o ≡ false → list_any (λ z. same_id z o) (filter (has objects) ys) ≡ false → list_any (λ z. same_id z o) (cond b (y ∷ filter (has objects) ys) (filter (has objects) ys)) ≡ false
            kept true p q = rw (p, q) refl
            kept false p q = q

    go : (b : Bool) → has objects o ≡ b → AllAlike o calls (live_calls objects calls)
    go true h = live-alike objects o calls h
    go false h = silent calls (none h) h
