-- What is kept of clients without an object stands for their calls as if none had named it.
use Rattle.std.proofs.Common.{◌≡◌, ℕ, List, [], ◌∷◌, refl, ap, sym, subst, ◌∙◌, cond, map, None}
use Rattle.std.specs.Prelude.{ℤ, Bool, true, false, max, ◌&&◌, ◌||◌, not, filter, Option, if◌then◌else◌}
use Rattle.std.specs.List.{list_any}
use Rattle.object_ids.specs.declared.ids.ObjId.{ObjId}
use Rattle.object_ids.specs.Client.{Client}
use Rattle.object_ids.specs.Same.{same_id, same_client}
use Rattle.object_ids.proofs.Exact.{same_id-equal}
use Rattle.history.specs.declared.calls.Call.{Call}
use Rattle.history.specs.Leases.{is_dirty, is_strong, is_naming, grant_end, lease_end, tenure, calls_of, has_time_left as has_time}
use Rattle.history.proofs.ListLemmas.{list_any-filter, and_false}
use Rattle.dgc_server.specs.declared.numbers.Numbers.{Numbers}
use Rattle.dgc_server.specs.Numbers.{no_numbers, larger}
use Rattle.dgc_server.specs.Entry.{ObjectEntry, Entry, numbers_of, entry_without}
use Rattle.dgc_server.specs.Table.{entry_of}
use Rattle.dgc_server.specs.Counts.{without}
use Rattle.dgc_server.specs.StandsForCalls.{LeaseTable, StandsFor, EntryStands, top, is_dirty_for, is_clean_for, is_strong_for}
use Rattle.dgc_server.proofs.Objects.{once-filter}
use Rattle.dgc_server.proofs.Ordered.{entry-map}

-- ---- one call

-- A call names an object without another one exactly where it named it and the two are not the same.
pub naming-without : (o p : ObjId) (x : Call) → is_naming p (without o x) ≡ (not (same_id p o) && is_naming p x)
naming-without o p x = list_any-filter (λ y. same_id y p) (λ y. not (same_id y o)) x.objects ∙ each x.objects
  where
    each : (ys : List ObjId) → list_any (λ y. not (same_id y o) && same_id y p) ys ≡ (not (same_id p o) && list_any (λ y. same_id y p) ys)
    each [] = sym (and_false (not (same_id p o)))
    each (y ∷ ys) = ap (λ v. (not (same_id y o) && same_id y p) || v) (each ys) ∙ one (same_id y p) refl
      where
        both : (a v : Bool) → ((a && true) || (a && v)) ≡ (a && true)
        both true v = refl
        both false v = refl

        neither : (a b v : Bool) → ((a && false) || (b && v)) ≡ (b && v)
        neither true b v = refl
        neither false b v = refl

        one : (b : Bool) → same_id y p ≡ b → ((not (same_id y o) && b) || (not (same_id p o) && list_any (λ z. same_id z p) ys)) ≡ (not (same_id p o) && (b || list_any (λ z. same_id z p) ys))
        one false e = neither (not (same_id y o)) (not (same_id p o)) (list_any (λ z. same_id z p) ys)
        one true e = ap (λ z. (not (same_id z o) && true) || (not (same_id p o) && list_any (λ w. same_id w p) ys)) (same_id-equal y p e) ∙ both (not (same_id p o)) (list_any (λ w. same_id w p) ys)

-- Which calls name another object stays.
pub naming-other : (o p : ObjId) (x : Call) → same_id p o ≡ false → is_naming p (without o x) ≡ is_naming p x
naming-other o p x h = naming-without o p x ∙ ap (λ b. not b && is_naming p x) h

-- ---- the calls of one client

pub lease_end-without : (o : ObjId) (lease : ℕ) (own : List Call) → lease_end lease (map (without o) own) ≡ lease_end lease own
unfolding lease_end
lease_end-without o lease [] = refl
lease_end-without o lease (x ∷ own) = go (is_dirty x) (lease_end-without o lease own)
  where
    go : (b : Bool) → lease_end lease (map (without o) own) ≡ lease_end lease own →
        (if b then max (grant_end lease x) (lease_end lease (map (without o) own)) else lease_end lease (map (without o) own))
        ≡ (if b then max (grant_end lease x) (lease_end lease own) else lease_end lease own)
    go true r = ap (max (grant_end lease x)) r
    go false r = r

pub tenure-without : (o : ObjId) (lease : ℕ) (own : List Call) → tenure lease (map (without o) own) ≡ map (without o) (tenure lease own)
unfolding tenure
tenure-without o lease [] = refl
tenure-without o lease (x ∷ own) = rw (lease_end-without o lease own) (go (has_time lease x.moment own) (is_dirty x) (tenure-without o lease own))
  where
    go : (b c : Bool) → tenure lease (map (without o) own) ≡ map (without o) (tenure lease own) →
        (if b then without o x ∷ tenure lease (map (without o) own) else if c then without o x ∷ [] else tenure lease (map (without o) own))
        ≡ map (without o) (if b then x ∷ tenure lease own else if c then x ∷ [] else tenure lease own)
    go true c r = ap (λ l. without o x ∷ l) r
    go false true r = refl
    go false false r = r

pub strong-without : (o : ObjId) (own : List Call) → filter is_strong (map (without o) own) ≡ map (without o) (filter is_strong own)
strong-without o [] = refl
strong-without o (x ∷ own) = go (is_strong x) (strong-without o own)
  where
    go : (b : Bool) → filter is_strong (map (without o) own) ≡ map (without o) (filter is_strong own) →
        cond b (without o x ∷ filter is_strong (map (without o) own)) (filter is_strong (map (without o) own)) ≡ map (without o) (cond b (x ∷ filter is_strong own) (filter is_strong own))
    go true r = ap (λ l. without o x ∷ l) r
    go false r = r

pub calls-without : (o : ObjId) (c : Client) (calls : List Call) → calls_of c (map (without o) calls) ≡ map (without o) (calls_of c calls)
unfolding calls_of
calls-without o c [] = refl
calls-without o c (x ∷ calls) = go (same_client x.client c) (calls-without o c calls)
  where
    go : (b : Bool) → calls_of c (map (without o) calls) ≡ map (without o) (calls_of c calls) →
        cond b (without o x ∷ calls_of c (map (without o) calls)) (calls_of c (map (without o) calls)) ≡ map (without o) (cond b (x ∷ calls_of c calls) (calls_of c calls))
    go true r = ap (λ l. without o x ∷ l) r
    go false r = r

-- ---- the greatest numbers

-- The greatest number of the calls that pass a test and name an object: none for the one that is taken out.
top-without : (o p : ObjId) (k : Call → Bool) → ((x : Call) → k (without o x) ≡ k x) → (calls : List Call) →
    top (λ x. k x && is_naming p x) (map (without o) calls) ≡ (if same_id p o then None else top (λ x. k x && is_naming p x) calls)
top-without o p k h [] = go (same_id p o)
  where
    go : (b : Bool) → ◌≡◌ {A = Option ℤ} None (if b then None else None)
    go true = refl
    go false = refl
top-without o p k h (x ∷ calls) =
    rw (h x, naming-without o p x, top-without o p k h calls) (go (same_id p o) (k x) (is_naming p x) (top (λ y. k y && is_naming p y) calls))
  where
    go : (s a b : Bool) (t : Option ℤ) →
        (if a && (not s && b) then larger x.number (if s then None else t) else (if s then None else t)) ≡ (if s then None else (if a && b then larger x.number t else t))
    go true true b t = refl
    go true false b t = refl
    go false a b t = refl

-- The numbers of an object: none for the one that is taken out.
pub numbers-without : (o p : ObjId) (es : List ObjectEntry) → numbers_of (filter (λ x. not (same_id x.object o)) es) p ≡ (if same_id p o then no_numbers else numbers_of es p)
numbers-without o p [] = go (same_id p o)
  where
    go : (b : Bool) → no_numbers ≡ (if b then no_numbers else no_numbers)
    go true = refl
    go false = refl
numbers-without o p (e ∷ es) = go (same_id e.object o) (same_id e.object p) refl refl (numbers-without o p es)
  where
    go : (a b : Bool) → same_id e.object o ≡ a → same_id e.object p ≡ b → numbers_of (filter (λ x. not (same_id x.object o)) es) p ≡ (if same_id p o then no_numbers else numbers_of es p) →
        numbers_of (cond (not a) (e ∷ filter (λ x. not (same_id x.object o)) es) (filter (λ x. not (same_id x.object o)) es)) p ≡ (if same_id p o then no_numbers else (if b then e.numbers else numbers_of es p))
    go true false x y rest = rest
    go false false x y rest = rw y rest
    go true true x y rest =
        let s : same_id p o ≡ true = ap (λ q. same_id q o) (sym (same_id-equal e.object p y)) ∙ x in
        rest ∙ ap (λ b. if b then no_numbers else numbers_of es p) s ∙ sym (ap (λ b. if b then no_numbers else e.numbers) s)
    go false true x y rest =
        let s : same_id p o ≡ false = ap (λ q. same_id q o) (sym (same_id-equal e.object p y)) ∙ x in
        rw (y, s) refl

-- ---- what is kept

stands-without : (o : ObjId) (lease m : ℕ) (e : Entry) (own : List Call) → EntryStands lease m e own → EntryStands lease m (entry_without o e) (map (without o) own)
stands-without o lease m e own s = record {
  ends = s.ends ∙ ap (max m) (sym (lease_end-without o lease own));
  dirties = λ left p. (ap (λ (n : Numbers). n.dirty) (numbers-without o p e.objects) ∙ choice p (λ n. n.dirty) refl (top (is_dirty_for p) (tenure lease own)) (s.dirties left p)
      ∙ sym (ap (top (is_dirty_for p)) (tenure-without o lease own) ∙ top-without o p is_dirty (λ x. refl) (tenure lease own)));
  cleans = λ left p. (ap (λ (n : Numbers). n.clean) (numbers-without o p e.objects) ∙ choice p (λ n. n.clean) refl (top (is_clean_for p) (tenure lease own)) (s.cleans left p)
      ∙ sym (ap (top (is_clean_for p)) (tenure-without o lease own) ∙ top-without o p (λ x. not (is_dirty x)) (λ x. refl) (tenure lease own)));
  strongs = λ p. (ap (λ (n : Numbers). n.strong) (numbers-without o p e.objects) ∙ choice p (λ n. n.strong) refl (top (is_strong_for p) own) (s.strongs p)
      ∙ sym (top-without o p is_strong (λ x. refl) own));
  once = once-filter (λ x. not (same_id x.object o)) e.objects s.once;
}
  where
    choice : (p : ObjId) (f : Numbers → Option ℤ) → f no_numbers ≡ None → (t : Option ℤ) → f (numbers_of e.objects p) ≡ t →
        f (if same_id p o then no_numbers else numbers_of e.objects p) ≡ (if same_id p o then None else t)
    choice p f z t h = go (same_id p o)
      where
        go : (b : Bool) → f (if b then no_numbers else numbers_of e.objects p) ≡ (if b then None else t)
        go true = z
        go false = h

-- A TABLE WITHOUT AN OBJECT stands for the calls as if none had named it.
pub table-without : (o : ObjId) (lease m : ℕ) (t u : LeaseTable) (calls : List Call) → StandsFor lease t m calls →
    u.lease ≡ t.lease → u.moment ≡ t.moment → u.entries ≡ map (entry_without o) t.entries → StandsFor lease u m (map (without o) calls)
table-without o lease m t u calls s a b e = record {
  is_lease = a ∙ s.is_lease;
  is_moment = b ∙ s.is_moment;
  each = λ c. (let P : Entry → Type 0 = λ x. EntryStands lease m x (map (without o) (calls_of c calls)) in
      let Q : List Call → Type 0 = λ own. EntryStands lease m (entry_of u.entries c) own in
      subst Q (sym (calls-without o c calls))
      (subst P (sym (ap (λ es. entry_of es c) e ∙ entry-map (entry_without o) (λ d. refl) (λ d. refl) t.entries c))
      (stands-without o lease m (entry_of t.entries c) (calls_of c calls) (s.each c))));
}
