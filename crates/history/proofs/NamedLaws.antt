-- What a name stands for is in the table, since the name keeps it there.
use Rattle.std.proofs.Common.{◌≡◌, ℕ, inl, inr, List, [], ◌∷◌, ◌++◌, refl, ap, sym, subst, ◌∙◌, cond, Option, Some}
use Rattle.std.specs.Prelude.{Bool, true, false, ◌&&◌, ◌||◌, filter, is_none, reverse, if◌then◌else◌, unwrap_or}
use Rattle.std.proofs.lemmas.Bool.{and_parts, or_left}
use Rattle.std.proofs.lemmas.List.{reverse-reverse}
use Rattle.std.proofs.lemmas.List.Folds.{list_any-append}
use Rattle.object_ids.specs.declared.ids.ObjId.{ObjId}
use Rattle.object_ids.specs.Same.{same_id}
use Rattle.object_ids.proofs.Exact.{same_id-equal}
use Rattle.history.specs.declared.asks.SpaceConfig.{SpaceConfig}
use Rattle.history.specs.declared.asks.Event.{Event}
use Rattle.history.specs.declared.asks.Ask.{Ask}
use Rattle.history.specs.declared.asks.Ask.TheVariants.{Bind, Rebind}
use Rattle.history.specs.declared.places.Exported.{Exported}
use Rattle.history.specs.Places.{History, has}
use Rattle.history.specs.Names.{object_bound, is_bind_of, is_unbind_of, changes_name, stands_for}
use Rattle.history.specs.Table.{is_kept, is_effective, table, place_of, places}
use Rattle.history.specs.Laws.{NamedIsExported}
use Rattle.history.proofs.ListLemmas.{reverse-cons}
use Rattle.history.proofs.CollectorLaws.{kept-needed}
use Rattle.history.proofs.NameLaws.{stands_for-push, stands_for-none}
use Rattle.history.proofs.TableLaws.{ask-place_of, places-push, places-none, table-place}

-- ---- from event to event

-- What holds of no events, and of one more where it held before, holds of all lists of events.
pub by-events : (P : List Event → Type 0) → P [] → ((events : List Event) (e : Event) → P events → P (events ++ e ∷ [])) → (events : List Event) → P events
by-events P nothing more events = subst P (reverse-reverse events) (go (reverse events))
  where
    go : (es : List Event) → P (reverse es)
    go [] = nothing
    go (e ∷ es) = subst P (sym (reverse-cons e es)) (more (reverse es) e (go es))

-- ---- an object that is kept stays

has-kept : (test : Exported → Bool) (xs : List Exported) (o : ObjId) → ((x : Exported) → x.id ≡ o → test x ≡ true) → has xs o ≡ true → has (filter test xs) o ≡ true
has-kept test [] o k h = absurd (cc)
has-kept test (x ∷ xs) o k h = go (test x) (same_id x.id o) refl refl h (has-kept test xs o k)
  where
    go : (a b : Bool) → test x ≡ a → same_id x.id o ≡ b → (b || has xs o) ≡ true → (has xs o ≡ true → has (filter test xs) o ≡ true) → has (cond a (x ∷ filter test xs) (filter test xs)) o ≡ true
    go true true e f h rest = rw f refl
    go true false e f h rest = rw f (rest h)
    go false true e f h rest = absurd (let yes = k x (same_id-equal x.id o f) in cc)
    go false false e f h rest = rest h

-- An object of the table, or a new one, that is kept after an event is in the table then.
pub stays : (config : SpaceConfig) (events : List Event) (e : Event) (o : ObjId) →
    ((x : Exported) → x.id ≡ o → is_kept config (place_of config (places config events) e ∷ places config events) x ≡ true) →
    has (table config (places config events) ++ (place_of config (places config events) e).exported_here) o ≡ true →
    has (table config (place_of config (places config events) e ∷ places config events)) o ≡ true
stays config events e o k h =
    ap (λ l. has l o) (table-place config (places config events) e)
    ∙ has-kept (is_kept config (place_of config (places config events) e ∷ places config events)) (table config (places config events) ++ (place_of config (places config events) e).exported_here) o k h

pub in-front : (xs ys : List Exported) (o : ObjId) → has xs o ≡ true → has (xs ++ ys) o ≡ true
in-front xs ys o h = list_any-append (λ (x : Exported). same_id x.id o) xs ys ∙ or_left (has xs o) (has ys o) h

-- ---- names

-- An object to which a name is bound is in the table before.
bound-there : (config : SpaceConfig) (h : History) (e : Event) (n : List ℕ) (o : ObjId) →
    changes_name n (place_of config h e) ≡ true → object_bound e.ask ≡ Some o → has (table config h) o ≡ true
unfolding place_of is_effective
bound-there config h e n o changes bound = go e.ask changes bound
  where
    same : (x : ObjId) → ◌≡◌ {A = Option ObjId} (Some x) (Some o) → has (table config h) x ≡ true → has (table config h) o ≡ true
    same x q there = ap (has (table config h)) (sym (ap (λ s. unwrap_or s x) q)) ∙ there

    go : (a : Ask) → changes_name n (place_of config h (record e { ask = a })) ≡ true → object_bound a ≡ Some o → has (table config h) o ≡ true
    go (Bind m x) t q =
        let two = and_parts (has (table config h) x && is_none (stands_for h m)) (is_bind_of n (Bind m x) || is_unbind_of n (Bind m x)) t in
        same x q (and_parts (has (table config h) x) (is_none (stands_for h m)) two.0).0
    go (Rebind m x) t q = same x q (and_parts (has (table config h) x) (is_bind_of n (Rebind m x) || is_unbind_of n (Rebind m x)) t).0
    go _ t q = absurd (cc)

-- WHAT A NAME STANDS FOR is in the table.
pub named-exported : (config : SpaceConfig) (events : List Event) → NamedIsExported config events
named-exported config = by-events (NamedIsExported config) none more
  where
    none : NamedIsExported config []
    none n o s = absurd (let nothing = sym (ap (λ h. stands_for h n) (places-none config) ∙ stands_for-none n) ∙ s in cc)

    more : (events : List Event) (e : Event) → NamedIsExported config events → NamedIsExported config (events ++ e ∷ [])
    more events e ih n o s =
        ap (λ h. has (table config h) o) (places-push config events e)
        ∙ stays config events e o kept (in-front (table config (places config events)) (place_of config (places config events) e).exported_here o (before (changes_name n (place_of config (places config events) e)) refl stood))
      where
        kept : (x : Exported) → x.id ≡ o → is_kept config (place_of config (places config events) e ∷ places config events) x ≡ true
        kept x i =
            sym (ap (λ h. is_kept config h x) (places-push config events e))
            ∙ (kept-needed config (events ++ e ∷ []) x).1 (inr (inl (n, s ∙ ap Some (sym i))))

        stood : (if changes_name n (place_of config (places config events) e) then object_bound (place_of config (places config events) e).event.ask else stands_for (places config events) n) ≡ Some o
        stood = sym (stands_for-push (place_of config (places config events) e) (places config events) n) ∙ sym (ap (λ h. stands_for h n) (places-push config events e)) ∙ s

        before : (b : Bool) → changes_name n (place_of config (places config events) e) ≡ b →
            (if b then object_bound (place_of config (places config events) e).event.ask else stands_for (places config events) n) ≡ Some o → has (table config (places config events)) o ≡ true
        before true t q = bound-there config (places config events) e n o t (ap object_bound (sym (ask-place_of config (places config events) e)) ∙ q)
        before false t q = ih n o q
