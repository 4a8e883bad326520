-- Which pairs of a client and an object are remembered, and that some call names them.
use Rattle.std.proofs.Common.{◌≡◌, ℕ, inl, inr, List, [], ◌∷◌, refl, ap, sym, ◌∙◌}
use Rattle.std.specs.Prelude.{Bool, true, false, ◌&&◌, ◌||◌, filter, flat_map, if◌then◌else◌}
use Rattle.std.specs.List.{list_any}
use Rattle.std.proofs.lemmas.Bool.{or_right, or_cases, and_parts, and_from}
use Rattle.std.proofs.lemmas.List.Folds.{list_any-append}
use Rattle.object_ids.specs.declared.ids.ObjId.{ObjId}
use Rattle.object_ids.specs.Client.{Client}
use Rattle.object_ids.specs.Same.{same_client, same_id}
use Rattle.object_ids.proofs.Exact.{same_client-equal, same_client-self, same_id-equal, same_id-self}
use Rattle.history.specs.declared.calls.Call.{Call}
use Rattle.history.specs.declared.calls.Pair.{Pair}
use Rattle.history.specs.Leases.{is_dirty, is_strong, is_naming, lease_end, has_time_left, tenure, strong_cleans, calls_of, clients, is_remembered, same_pair, pairs_of, pairs_with, objects_named, pairs}
use Rattle.history.proofs.LeaseLaws.{list_any-clients}
use Rattle.history.proofs.ListLemmas.{IsEquality, list_any-filter, list_any-same, and_false, any-filtered, any-distinct, same-turned}
use Rattle.history.proofs.Equalities.{object-equality, client-equality}

pair-equal : (a b : Pair) → same_pair a b ≡ true → a ≡ b
pair-equal a b h =
    let two = and_parts (same_client a.client b.client) (same_id a.object b.object) h in
    ap (λ (c : Client). record a { client = c }) (same_client-equal a.client b.client two.0) ∙ ap (λ (o : ObjId). record { client = b.client; object = o }) (same_id-equal a.object b.object two.1)

pair-self : (a : Pair) → same_pair a a ≡ true
pair-self a = and_from (same_client a.client a.client) (same_id a.object a.object) (same_client-self a.client) (same_id-self a.object)

pub pair-equality : IsEquality same_pair
pair-equality = record { self = pair-self; equal = pair-equal }

-- ---- a pair in a list of pairs

-- It is among a client's exactly where the client is its own and the object is among the objects.
pub any-pairs_of : (p : Pair) (c : Client) (os : List ObjId) → list_any (same_pair p) (pairs_of c os) ≡ (same_client p.client c && list_any (same_id p.object) os)
any-pairs_of p c [] = sym (and_false (same_client p.client c))
any-pairs_of p c (o ∷ os) = ap (λ v. same_pair p (record { client = c; object = o }) || v) (any-pairs_of p c os) ∙ go (same_client p.client c) (same_id p.object o) (list_any (same_id p.object) os)
  where
    go : (a b v : Bool) → ((a && b) || (a && v)) ≡ (a && (b || v))
    go true b v = refl
    go false b v = refl

pub any-flat : (p : Pair) (f : Client → List ObjId) (cs : List Client) → list_any (same_pair p) (flat_map (λ c. pairs_of c (f c)) cs) ≡ list_any (λ c. same_client p.client c && list_any (same_id p.object) (f c)) cs
any-flat p f [] = refl
any-flat p f (c ∷ cs) =
    list_any-append (same_pair p) (pairs_of c (f c)) (flat_map (λ d. pairs_of d (f d)) cs)
    ∙ ap (λ v. v || list_any (same_pair p) (flat_map (λ d. pairs_of d (f d)) cs)) (any-pairs_of p c (f c))
    ∙ ap (λ v. (same_client p.client c && list_any (same_id p.object) (f c)) || v) (any-flat p f cs)

-- ---- what is remembered was named

any-both : {X : Type 0} (p q : X → Bool) (xs : List X) → list_any (λ x. q x && p x) xs ≡ true → (list_any q xs ≡ true) × (list_any p xs ≡ true)
any-both p q [] h = absurd (cc)
any-both p q (x ∷ xs) h = go (q x) (p x) h (any-both p q xs)
  where
    go : (a b : Bool) → ((a && b) || list_any (λ y. q y && p y) xs) ≡ true → (list_any (λ y. q y && p y) xs ≡ true → (list_any q xs ≡ true) × (list_any p xs ≡ true)) →
        ((a || list_any q xs) ≡ true) × ((b || list_any p xs) ≡ true)
    go true true e rest = (refl, refl)
    go true false e rest = let r = rest e in (refl, r.1)
    go false b e rest = let r = rest e in (r.0, or_right b (list_any p xs) r.1)

pub tenure-within : (lease : ℕ) (p : Call → Bool) (own : List Call) → list_any p (tenure lease own) ≡ true → list_any p own ≡ true
unfolding tenure
tenure-within lease p [] h = h
tenure-within lease p (x ∷ own) h = go (has_time_left lease x.moment own) (is_dirty x) h (tenure-within lease p own)
  where
    first : (a b : Bool) → (a || false) ≡ true → (a || b) ≡ true
    first true b e = refl
    first false b e = absurd (cc)

    both : (a b c : Bool) → (a || b) ≡ true → (b ≡ true → c ≡ true) → (a || c) ≡ true
    both true b c e f = refl
    both false b c e f = f e

    go : (t d : Bool) → list_any p (if t then x ∷ tenure lease own else (if d then x ∷ [] else tenure lease own)) ≡ true → (list_any p (tenure lease own) ≡ true → list_any p own ≡ true) → (p x || list_any p own) ≡ true
    go true d e rest = both (p x) (list_any p (tenure lease own)) (list_any p own) e rest
    go false true e rest = first (p x) (list_any p own) e
    go false false e rest = or_right (p x) (list_any p own) (rest e)

named-own : (lease t : ℕ) (own : List Call) (o : ObjId) → is_remembered lease t own o ≡ true → list_any (is_naming o) own ≡ true
unfolding is_remembered
named-own lease t own o h = elim (or_cases (has_time_left lease t own && list_any (is_naming o) (tenure lease own)) (list_any (is_naming o) (strong_cleans own)) h) [
  | inl x ↦ tenure-within lease (is_naming o) own (and_parts (has_time_left lease t own) (list_any (is_naming o) (tenure lease own)) x).1
  | inr y ↦ (any-both (is_naming o) is_strong own (sym (list_any-filter (is_naming o) is_strong own) ∙ y)).1
]

-- Some call of the client names the object.
remembered-called : (lease t : ℕ) (c : Client) (calls : List Call) (o : ObjId) → is_remembered lease t (calls_of c calls) o ≡ true →
    (list_any (λ x. same_client x.client c) calls ≡ true) × (list_any (is_naming o) calls ≡ true)
unfolding calls_of
remembered-called lease t c calls o h =
    any-both (is_naming o) (λ x. same_client x.client c) calls
    (sym (list_any-filter (is_naming o) (λ x. same_client x.client c) calls) ∙ named-own lease t (filter (λ x. same_client x.client c) calls) o h)

pub remembered-named : (lease t : ℕ) (c : Client) (calls : List Call) (o : ObjId) → is_remembered lease t (calls_of c calls) o ≡ true → list_any (is_naming o) calls ≡ true
remembered-named lease t c calls o h = (remembered-called lease t c calls o h).1

pub any-named : (o : ObjId) (calls : List Call) → list_any (same_id o) (objects_named calls) ≡ list_any (is_naming o) calls
unfolding objects_named
any-named o calls = any-distinct object-equality o (flat_map (λ x. x.objects) calls) ∙ flat calls
  where
    flat : (xs : List Call) → list_any (same_id o) (flat_map (λ x. x.objects) xs) ≡ list_any (is_naming o) xs
    flat [] = refl
    flat (x ∷ xs) =
        list_any-append (same_id o) x.objects (flat_map (λ y. y.objects) xs)
        ∙ ap (λ v. v || list_any (same_id o) (flat_map (λ y. y.objects) xs)) (list_any-same (same_id o) (λ y. same_id y o) (λ y. same-turned object-equality o y) x.objects)
        ∙ ap (λ v. is_naming o x || v) (flat xs)

-- ---- the remembered pairs

-- A pair is among the remembered ones with some objects exactly where its object is among them and it is remembered.
pub any-pairs_with : (lease t : ℕ) (calls : List Call) (objects : List ObjId) (p : Pair) →
    list_any (same_pair p) (pairs_with lease t calls objects) ≡ (list_any (same_id p.object) objects && is_remembered lease t (calls_of p.client calls) p.object)
unfolding pairs_with
any-pairs_with lease t calls objects p =
    any-flat p (λ c. filter (is_remembered lease t (calls_of c calls)) objects) (clients calls)
    ∙ list_any-clients (λ c. same_client p.client c && list_any (same_id p.object) (filter (is_remembered lease t (calls_of c calls)) objects)) calls
    ∙ list_any-same (λ x. same_client p.client x.client && list_any (same_id p.object) (filter (is_remembered lease t (calls_of x.client calls)) objects))
    (λ x. same_client p.client x.client && list_any (same_id p.object) (filter (is_remembered lease t (calls_of p.client calls)) objects))
    (λ x. own x (same_client p.client x.client) refl) calls
    ∙ out calls
    ∙ ap (λ v. list_any (λ x. same_client p.client x.client) calls && v) (any-filtered object-equality (is_remembered lease t (calls_of p.client calls)) p.object objects)
    ∙ all (is_remembered lease t (calls_of p.client calls) p.object) refl
  where
    own : (x : Call) (b : Bool) → same_client p.client x.client ≡ b →
        (b && list_any (same_id p.object) (filter (is_remembered lease t (calls_of x.client calls)) objects))
        ≡ (b && list_any (same_id p.object) (filter (is_remembered lease t (calls_of p.client calls)) objects))
    own x true e = ap (λ c. list_any (same_id p.object) (filter (is_remembered lease t (calls_of c calls)) objects)) (sym (same_client-equal p.client x.client e))
    own x false e = refl

    out : (xs : List Call) → list_any (λ x. same_client p.client x.client && list_any (same_id p.object) (filter (is_remembered lease t (calls_of p.client calls)) objects)) xs
        ≡ (list_any (λ x. same_client p.client x.client) xs && list_any (same_id p.object) (filter (is_remembered lease t (calls_of p.client calls)) objects))
    out [] = refl
    out (x ∷ xs) = rw (out xs) (one (same_client p.client x.client) (list_any (λ y. same_client p.client y.client) xs) (list_any (same_id p.object) (filter (is_remembered lease t (calls_of p.client calls)) objects)))
      where
        one : (a b c : Bool) → ((a && c) || (b && c)) ≡ ((a || b) && c)
        one true true true = refl
        one true true false = refl
        one true false true = refl
        one true false false = refl
        one false b c = refl

    all : (b : Bool) → is_remembered lease t (calls_of p.client calls) p.object ≡ b →
        (list_any (λ x. same_client p.client x.client) calls && (list_any (same_id p.object) objects && b)) ≡ (list_any (same_id p.object) objects && b)
    all true e =
        let called = (remembered-called lease t p.client calls p.object e).0 in
        rw (list_any-same (λ x. same_client p.client x.client) (λ x. same_client x.client p.client) (λ x. same-turned client-equality p.client x.client) calls ∙ called) refl
    all false e = rw (and_false (list_any (same_id p.object) objects)) (and_false (list_any (λ x. same_client p.client x.client) calls))

-- All of them have an object that some call names.
pub any-pairs : (lease t : ℕ) (calls : List Call) (p : Pair) → list_any (same_pair p) (pairs lease t calls) ≡ is_remembered lease t (calls_of p.client calls) p.object
unfolding pairs
any-pairs lease t calls p =
    any-pairs_with lease t calls (objects_named calls) p
    ∙ ap (λ v. v && is_remembered lease t (calls_of p.client calls) p.object) (any-named p.object calls)
    ∙ all (is_remembered lease t (calls_of p.client calls) p.object) refl
  where
    all : (b : Bool) → is_remembered lease t (calls_of p.client calls) p.object ≡ b → (list_any (is_naming p.object) calls && b) ≡ b
    all true e = ap (λ v. v && true) (remembered-named lease t p.client calls p.object e)
    all false e = and_false (list_any (is_naming p.object) calls)

-- ---- one more call

-- A call that is no dirty moves no lease.
pub lease_end-clean : (lease : ℕ) (x : Call) (own : List Call) → is_dirty x ≡ false → lease_end lease (x ∷ own) ≡ lease_end lease own
unfolding lease_end
lease_end-clean lease x own d = rw d refl
