-- Which objects lease calls name.
use Rattle.std.proofs.Common.{◌≡◌, ℕ, inl, inr, List, [], ◌∷◌, ◌++◌, refl, ap, subst, ◌∙◌, cond, max}
use Rattle.std.specs.Prelude.{Bool, true, false, filter}
use Rattle.std.specs.List.{list_any, AllByRecursion}
use Rattle.std.proofs.lemmas.Bool.{or_left, or_cases}
use Rattle.std.proofs.lemmas.List.Folds.{list_any-append}
use Rattle.object_ids.specs.declared.ids.ObjId.{ObjId}
use Rattle.object_ids.specs.Same.{same_id}
use Rattle.object_ids.proofs.Exact.{same_id-equal}
use Rattle.history.specs.declared.asks.SpaceConfig.{SpaceConfig}
use Rattle.history.specs.declared.asks.Event.{Event}
use Rattle.history.specs.declared.asks.Ask.{Ask}
use Rattle.history.specs.declared.asks.Ask.TheVariants.{Dirty, Clean}
use Rattle.history.specs.declared.calls.Call.{Call}
use Rattle.history.specs.declared.places.Exported.{Exported}
use Rattle.history.specs.LeaseCalls.{call_with, lease_calls}
use Rattle.history.specs.Leases.{is_naming}
use Rattle.history.specs.Places.{History, has, now, ever_exported}
use Rattle.history.specs.Replies.{ids}
use Rattle.history.specs.Table.{place_of}
use Rattle.history.proofs.ListLemmas.{every-append, every-weaker, list_any-map, list_any-same}
use Rattle.history.proofs.Equalities.{same_id-turned}
use Rattle.space.specs.Kept.{live_call, live_calls}

-- A call names only objects that are among these.
abbrev pub NamesOnly : List Exported → Call → Type 0
NamesOnly objects x = AllByRecursion (λ y. has objects y ≡ true) x.objects

pub passing : {X : Type 0} (test : X → Bool) (xs : List X) → AllByRecursion (λ x. test x ≡ true) (filter test xs)
passing test [] = tt
passing {X} test (x ∷ xs) = go (test x) refl (passing test xs)
  where
    go : (b : Bool) → test x ≡ b → AllByRecursion (λ y. test y ≡ true) (filter test xs) → AllByRecursion (λ y. test y ≡ true) (cond b (x ∷ filter test xs) (filter test xs))
    go true e rest = (e, rest)
    go false e rest = rest

pub call-names : (objects : List Exported) (moment : ℕ) (a : Ask) → AllByRecursion (NamesOnly objects) (call_with (has objects) moment a)
call-names objects moment (Dirty client number asked named) = (passing (has objects) named, tt)
call-names objects moment (Clean client number named strong) = (passing (has objects) named, tt)
call-names objects moment _ = tt

names-more : (objects more : List Exported) (calls : List Call) → AllByRecursion (NamesOnly objects) calls → AllByRecursion (NamesOnly (objects ++ more)) calls
names-more objects more calls e =
    every-weaker (NamesOnly objects) (NamesOnly (objects ++ more))
    (λ x n. every-weaker (λ y. has objects y ≡ true) (λ y. has (objects ++ more) y ≡ true)
    (λ y h. list_any-append (λ (z : Exported). same_id z.id y) objects more ∙ or_left (has objects y) (has more y) h) x.objects n) calls e

-- THE CALLS OF A HISTORY name only objects that it exported.
pub calls-names : (h : History) → AllByRecursion (NamesOnly (ever_exported h)) (lease_calls h)
unfolding ever_exported lease_calls
calls-names [] = tt
calls-names (p ∷ h) =
    every-append (NamesOnly (ever_exported h ++ p.exported_here)) (call_with (has (ever_exported h)) p.moment p.event.ask) (lease_calls h)
    (names-more (ever_exported h) p.exported_here (call_with (has (ever_exported h)) p.moment p.event.ask) (call-names (ever_exported h) p.moment p.event.ask))
    (names-more (ever_exported h) p.exported_here (lease_calls h) (calls-names h))

-- An object that is named is among them.
pub naming-has : (objects : List Exported) (o : ObjId) (calls : List Call) → AllByRecursion (NamesOnly objects) calls → list_any (is_naming o) calls ≡ true → has objects o ≡ true
naming-has objects o [] e h = absurd (cc)
naming-has objects o (x ∷ calls) e h = elim (or_cases (is_naming o x) (list_any (is_naming o) calls) h) [
  | inl here ↦ one x.objects e.0 here
  | inr there ↦ naming-has objects o calls e.1 there
]
  where
    one : (ys : List ObjId) → AllByRecursion (λ y. has objects y ≡ true) ys → list_any (λ y. same_id y o) ys ≡ true → has objects o ≡ true
    one [] e h = absurd (cc)
    one (y ∷ ys) e h = elim (or_cases (same_id y o) (list_any (λ z. same_id z o) ys) h) [
      | inl here ↦ (let P : ObjId → Type 0 = λ z. has objects z ≡ true in subst P (same_id-equal y o here) e.0)
      | inr there ↦ one ys e.1 there
    ]

pub any-ids : (objects : List Exported) (o : ObjId) → list_any (same_id o) (ids objects) ≡ has objects o
any-ids objects o =
    list_any-map (same_id o) (λ (x : Exported). x.id) objects ∙ list_any-same (λ (x : Exported). same_id o x.id) (λ (x : Exported). same_id x.id o) (λ x. same_id-turned o x.id) objects

-- Calls that name only these objects name none less.
pub live-same : (objects : List Exported) (calls : List Call) → AllByRecursion (NamesOnly objects) calls → live_calls objects calls ≡ calls
live-same objects [] e = refl
live-same objects (x ∷ calls) e = ap (λ l. live_call objects x ∷ l) (live-same objects calls e.1) ∙ ap (λ (os : List ObjId). record x { objects = os } ∷ calls) (all x.objects e.0)
  where
    all : (ys : List ObjId) → AllByRecursion (λ y. has objects y ≡ true) ys → filter (has objects) ys ≡ ys
    all [] e = refl
    all (y ∷ ys) e = rw (e.0, all ys e.1) refl

-- One more event's call names the objects that were exported before it.
pub lease_calls-push : (config : SpaceConfig) (h : History) (e : Event) → lease_calls (place_of config h e ∷ h) ≡ call_with (has (ever_exported h)) (max e.moment (now h)) e.ask ++ lease_calls h
unfolding lease_calls place_of
lease_calls-push config h e = refl
