-- The bindings of a registry stand for a history, from one event to the next.
use Rattle.std.proofs.Common.{◌≡◌, ℕ, List, [], ◌∷◌, ◌++◌, refl, ap, sym, subst, ◌∙◌, cond, Option, Some, None, length, suc, append-nil, true≢false}
use Rattle.std.specs.Prelude.{Bool, true, false, not, nat_lt, ◌&&◌, ◌||◌, filter, is_some, is_none, option_and_then, option_to_list, if◌then◌else◌}
use Rattle.std.specs.List.{list_any}
use Rattle.std.proofs.lemmas.Bool.{or_parts, and_parts}
use Rattle.std.proofs.lemmas.List.{length-map}
use Rattle.sequence.proofs.Lists.{all_stay}
use Rattle.object_ids.specs.declared.ids.ObjId.{ObjId}
use Rattle.object_ids.specs.Same.{same_id, same_bytes}
use Rattle.history.specs.declared.asks.Ask.{Ask}
use Rattle.history.specs.declared.asks.Ask.TheVariants.{Bind, Rebind, Unbind}
use Rattle.history.specs.declared.asks.Event.{Event}
use Rattle.history.specs.declared.asks.SpaceConfig.{SpaceConfig}
use Rattle.history.specs.Lists.{option_any}
use Rattle.history.specs.Names.{stands_for, names, names_of, is_named, is_name_of, changes_name, unbinds, name_begun, name_in, name_bound, object_bound, is_bind_of, is_unbind_of}
use Rattle.history.specs.Places.{History, has}
use Rattle.history.specs.Table.{is_effective, table, place_of, places}
use Rattle.history.specs.Lists.{AllOnce}
use Rattle.history.proofs.ListLemmas.{list_any-length, or_false}
use Rattle.history.proofs.NameLaws.{bytes-equality, names-push, stands_for-push, names-none, stands_for-none, same_bytes-turned}
use Rattle.history.proofs.TableLaws.{IsNumbered, places-push, places-numbered}
use Rattle.rmi_registry.specs.declared.binding.Binding.{Binding}
use Rattle.rmi_registry.specs.Bindings.{object_of, is_bound, names_in, count_of, with_binding, without_name, IsRegistry}
use Rattle.rmi_registry.specs.StandsForHistory.{AreBindings, NoneBound, NamesCount, BindAdds, RebindChanges, UnbindTakes, OthersLeaveNames}
use Rattle.rmi_registry.proofs.BindingLaws.{names-added, names-rebound, names-without, rebound-new}

-- ---- what names stand for

-- Another name's object after one is bound.
pub object-added : (bs : List Binding) (n : List ℕ) (o : ObjId) (m : List ℕ) → is_bound bs n ≡ false →
    object_of (bs ++ record { name = n; object = o } ∷ []) m ≡ (if same_bytes n m then Some o else object_of bs m)
object-added [] n o m absent = refl
object-added (b ∷ bs) n o m absent = go (same_bytes b.name n) refl (same_bytes b.name m) refl absent (object-added bs n o m)
  where
    go : (s : Bool) → same_bytes b.name n ≡ s → (t : Bool) → same_bytes b.name m ≡ t → is_some (if s then Some b.object else object_of bs n) ≡ false →
        (is_bound bs n ≡ false → object_of (bs ++ record { name = n; object = o } ∷ []) m ≡ (if same_bytes n m then Some o else object_of bs m)) →
        (if t then Some b.object else object_of (bs ++ record { name = n; object = o } ∷ []) m) ≡ (if same_bytes n m then Some o else (if t then Some b.object else object_of bs m))
    go true p t q h f = absurd (cc)
    go false p true q h f = other (same_bytes n m) refl
      where
        other : (u : Bool) → same_bytes n m ≡ u → Some b.object ≡ (if u then Some o else Some b.object)
        other true r = absurd (let P : List ℕ → Type 0 = λ l. same_bytes l n ≡ false in let Q : List ℕ → Type 0 = λ l. same_bytes n l ≡ true in
            let same : m ≡ b.name = sym (bytes-equality.equal b.name m q) in
            let here : same_bytes n b.name ≡ true = subst Q same r in let turn = same_bytes-turned n b.name in cc)
        other false r = refl
    go false p false q h f = f h

pub object-rebound : (bs : List Binding) (n : List ℕ) (o : ObjId) (m : List ℕ) →
    object_of (with_binding bs n o) m ≡ (if same_bytes n m then Some o else object_of bs m)
object-rebound [] n o m = refl
object-rebound (b ∷ bs) n o m = go (same_bytes b.name n) refl (object-rebound bs n o m)
  where
    go : (s : Bool) → same_bytes b.name n ≡ s → object_of (with_binding bs n o) m ≡ (if same_bytes n m then Some o else object_of bs m) →
        object_of (if s then record { name = b.name; object = o } ∷ bs else b ∷ with_binding bs n o) m ≡ (if same_bytes n m then Some o else (if same_bytes b.name m then Some b.object else object_of bs m))
    go true p ih =
        let same : b.name ≡ n = bytes-equality.equal b.name n p in
        let P : List ℕ → Type 0 = λ l. (if same_bytes b.name m then Some o else object_of bs m) ≡ (if same_bytes l m then Some o else (if same_bytes b.name m then Some b.object else object_of bs m)) in
        subst P same (both (same_bytes b.name m))
      where
        both : (t : Bool) → (if t then Some o else object_of bs m) ≡ (if t then Some o else (if t then Some b.object else object_of bs m))
        both true = refl
        both false = refl
    go false p ih = apart (same_bytes b.name m) refl (same_bytes n m) refl ih
      where
        apart : (t : Bool) → same_bytes b.name m ≡ t → (u : Bool) → same_bytes n m ≡ u → object_of (with_binding bs n o) m ≡ (if u then Some o else object_of bs m) →
            (if t then Some b.object else object_of (with_binding bs n o) m) ≡ (if u then Some o else (if t then Some b.object else object_of bs m))
        apart true q true r h = absurd (let Q : List ℕ → Type 0 = λ l. same_bytes n l ≡ true in
            let same : m ≡ b.name = sym (bytes-equality.equal b.name m q) in
            let here : same_bytes n b.name ≡ true = subst Q same r in let turn = same_bytes-turned n b.name in cc)
        apart true q false r h = refl
        apart false q u r h = h

pub object-without : (bs : List Binding) (n m : List ℕ) → object_of (without_name bs n) m ≡ (if same_bytes n m then None else object_of bs m)
object-without [] n m = same (same_bytes n m)
  where
    nothing : Option ObjId
    nothing = None

    same : (u : Bool) → nothing ≡ (if u then None else nothing)
    same true = refl
    same false = refl
object-without (b ∷ bs) n m = go (same_bytes b.name n) refl (object-without bs n m)
  where
    go : (s : Bool) → same_bytes b.name n ≡ s → object_of (without_name bs n) m ≡ (if same_bytes n m then None else object_of bs m) →
        object_of (cond (not s) (b ∷ without_name bs n) (without_name bs n)) m ≡ (if same_bytes n m then None else (if same_bytes b.name m then Some b.object else object_of bs m))
    go true p ih =
        let same : b.name ≡ n = bytes-equality.equal b.name n p in
        let P : List ℕ → Type 0 = λ l. (if same_bytes n m then None else object_of bs m) ≡ (if same_bytes n m then None else (if same_bytes l m then Some b.object else object_of bs m)) in
        ih ∙ subst P (sym same) (both (same_bytes n m))
      where
        both : (t : Bool) → (if t then None else object_of bs m) ≡ (if t then None else (if t then Some b.object else object_of bs m))
        both true = refl
        both false = refl
    go false p ih = apart (same_bytes b.name m) refl (same_bytes n m) refl ih
      where
        apart : (t : Bool) → same_bytes b.name m ≡ t → (u : Bool) → same_bytes n m ≡ u → object_of (without_name bs n) m ≡ (if u then None else object_of bs m) →
            (if t then Some b.object else object_of (without_name bs n) m) ≡ (if u then None else (if t then Some b.object else object_of bs m))
        apart true q true r h = absurd (let Q : List ℕ → Type 0 = λ l. same_bytes n l ≡ true in
            let same : m ≡ b.name = sym (bytes-equality.equal b.name m q) in
            let here : same_bytes n b.name ≡ true = subst Q same r in let turn = same_bytes-turned n b.name in cc)
        apart true q false r h = refl
        apart false q u r h = h

-- ---- one more event

pub none-bound : NoneBound
none-bound = record { names = sym names-none; objects = λ n. sym (stands_for-none n) }

-- The bindings after one more place of the history.
pub bound-next : (config : SpaceConfig) (events : List Event) (e : Event) (bs cs : List Binding) → AreBindings (places config events) bs →
    (let p = place_of config (places config events) e in
    (names_in cs ≡ filter (λ n. not (unbinds p n)) (names_in bs) ++ name_begun p)
    × ((n : List ℕ) → object_of cs n ≡ (if changes_name n p then object_bound p.event.ask else object_of bs n))) →
    AreBindings (places config (events ++ e ∷ [])) cs
bound-next config events e bs cs a h =
    let hist = places config events in
    let p = place_of config hist e in
    let push : places config (events ++ e ∷ []) ≡ p ∷ hist = places-push config events e in
    let numbered : IsNumbered (p ∷ hist) = subst (λ (l : History). IsNumbered l) push (places-numbered config (events ++ e ∷ [])) in
    let next : AreBindings (p ∷ hist) cs = record {
      names = h.0 ∙ ap (λ l. filter (λ n. not (unbinds p n)) l ++ name_begun p) a.names ∙ sym (names-push p hist numbered);
      objects = λ n. h.1 n ∙ ap (λ o. if changes_name n p then object_bound p.event.ask else o) (a.objects n) ∙ sym (stands_for-push p hist n);
    } in
    subst (λ (l : History). AreBindings l cs) (sym push) next

-- What an ask, effective or not, whose name stood for an object or for nothing, makes of the bindings.
abbrev Changed : Bool → Option ObjId → Ask → List Binding → List Binding → Type 0
Changed v stood a bs cs =
    (names_in cs ≡ filter (λ k. not (v && is_unbind_of k a)) (names_in bs) ++ (if v && is_none stood then option_to_list (name_bound a) else []))
    × ((m : List ℕ) → object_of cs m ≡ (if v && (is_bind_of m a || is_unbind_of m a) then object_bound a else object_of bs m))

changed-next : (config : SpaceConfig) (events : List Event) (e : Event) (bs cs : List Binding) → AreBindings (places config events) bs →
    Changed (is_effective config (places config events) e.by e.ask) (option_and_then (stands_for (places config events)) (name_in e.ask)) e.ask bs cs →
    AreBindings (places config (events ++ e ∷ [])) cs
unfolding place_of
changed-next config events e bs cs a h = bound-next config events e bs cs a h

absent : (o : Option ObjId) → is_none o ≡ true → is_some o ≡ false
absent None h = refl
absent (Some x) h = absurd (cc)

changed-bind : (stood : Option ObjId) (bs : List Binding) (n : List ℕ) (o : ObjId) → is_none stood ≡ true → is_bound bs n ≡ false →
    Changed true stood (Bind n o) bs (bs ++ record { name = n; object = o } ∷ [])
changed-bind stood bs n o none free = (
  names-added bs (record { name = n; object = o } ∷ []) ∙ ap (λ l. l ++ n ∷ []) (sym (all_stay (names_in bs)))
      ∙ ap (λ b. filter (λ k. not false) (names_in bs) ++ (if b then n ∷ [] else [])) (sym none),
  λ m. object-added bs n o m free ∙ ap (λ b. if b then Some o else object_of bs m) (sym (or_false (same_bytes n m))),
)

changed-rebind : (stood : Option ObjId) (bs : List Binding) (n : List ℕ) (o : ObjId) → object_of bs n ≡ stood →
    Changed true stood (Rebind n o) bs (with_binding bs n o)
changed-rebind stood bs n o h =
    (go stood h, λ m. object-rebound bs n o m ∙ ap (λ b. if b then Some o else object_of bs m) (sym (or_false (same_bytes n m))))
  where
    go : (s : Option ObjId) → object_of bs n ≡ s → names_in (with_binding bs n o) ≡ filter (λ k. not false) (names_in bs) ++ (if is_none s then n ∷ [] else [])
    go None e = ap names_in (rebound-new bs n o (ap is_some e)) ∙ names-added bs (record { name = n; object = o } ∷ []) ∙ ap (λ l. l ++ n ∷ []) (sym (all_stay (names_in bs)))
    go (Some x) e = names-rebound bs n o (ap is_some e) ∙ sym (all_stay (names_in bs)) ∙ sym (append-nil (filter (λ k. not false) (names_in bs)))

changed-unbind : (stood : Option ObjId) (bs : List Binding) (n : List ℕ) → Changed true stood (Unbind n) bs (without_name bs n)
changed-unbind stood bs n = (
  names-without bs n ∙ turned-filter (names_in bs) ∙ sym (append-nil (filter (λ k. not (same_bytes n k)) (names_in bs))) ∙ ap (λ l. filter (λ k. not (same_bytes n k)) (names_in bs) ++ l) (sym (same (is_none stood))),
  λ m. object-without bs n m,
)
  where
    same : (b : Bool) → ◌≡◌ {A = List (List ℕ)} (if b then [] else []) []
    same true = refl
    same false = refl

    turned-filter : (ns : List (List ℕ)) → filter (λ k. not (same_bytes k n)) ns ≡ filter (λ k. not (same_bytes n k)) ns
    turned-filter [] = refl
    turned-filter (k ∷ ns) = rw (same_bytes-turned k n, turned-filter ns) refl

changed-other : (v : Bool) (stood : Option ObjId) (a : Ask) (bs : List Binding) → ((n : List ℕ) → (v && (is_bind_of n a || is_unbind_of n a)) ≡ false) →
    Changed v stood a bs bs
changed-other v stood a bs h = (
  sym (stay (names_in bs)) ∙ sym (append-nil (filter (λ k. not (v && is_unbind_of k a)) (names_in bs))) ∙ ap (λ l. filter (λ k. not (v && is_unbind_of k a)) (names_in bs) ++ l) (sym (begun v stood a h)),
  λ m. ap (λ b. if b then object_bound a else object_of bs m) (sym (h m)),
)
  where
    part : (v x y : Bool) → (v && (x || y)) ≡ false → (v && y) ≡ false
    part true true y h = absurd (cc)
    part true false y h = h
    part false x y h = refl

    stay : (ns : List (List ℕ)) → filter (λ k. not (v && is_unbind_of k a)) ns ≡ ns
    stay [] = refl
    stay (n ∷ ns) = rw (part v (is_bind_of n a) (is_unbind_of n a) (h n)) (ap (λ l. n ∷ l) (stay ns))

    clash : (n : List ℕ) → (same_bytes n n || false) ≡ false → ⊥
    clash n q = let self : same_bytes n n ≡ true = bytes-equality.self n in true≢false (sym (ap (λ b. b || false) self) ∙ q)

    nothing : List (List ℕ)
    nothing = []

    same : (b : Bool) → (if b then nothing else []) ≡ nothing
    same true = refl
    same false = refl

    begun : (v : Bool) (stood : Option ObjId) (a : Ask) → ((n : List ℕ) → (v && (is_bind_of n a || is_unbind_of n a)) ≡ false) →
        (if v && is_none stood then option_to_list (name_bound a) else []) ≡ []
    begun true stood (Bind m o) h = absurd (clash m (h m))
    begun true stood (Rebind m o) h = absurd (clash m (h m))
    begun true stood _ h = same (is_none stood)
    begun false stood a h = refl

-- ---- the laws

pub bind-adds : BindAdds
unfolding is_effective
bind-adds config events e n o bs ask effective a =
    let h = places config events in
    let Effective : Ask → Type 0 = λ q. is_effective config h e.by q ≡ true in
    let free : is_none (stands_for h n) ≡ true = (and_parts (has (table config h) o) (is_none (stands_for h n)) (subst Effective ask effective)).1 in
    let P : Ask → Type 0 = λ q. Changed true (option_and_then (stands_for h) (name_in q)) q bs (bs ++ record { name = n; object = o } ∷ []) in
    let Q : Bool → Type 0 = λ v. Changed v (option_and_then (stands_for h) (name_in e.ask)) e.ask bs (bs ++ record { name = n; object = o } ∷ []) in
    changed-next config events e bs (bs ++ record { name = n; object = o } ∷ []) a
    (subst Q (sym effective) (subst P (sym ask) (changed-bind (stands_for h n) bs n o free (ap is_some (a.objects n) ∙ absent (stands_for h n) free))))

pub rebind-changes : RebindChanges
rebind-changes config events e n o bs ask effective a =
    let h = places config events in
    let P : Ask → Type 0 = λ q. Changed true (option_and_then (stands_for h) (name_in q)) q bs (with_binding bs n o) in
    let Q : Bool → Type 0 = λ v. Changed v (option_and_then (stands_for h) (name_in e.ask)) e.ask bs (with_binding bs n o) in
    changed-next config events e bs (with_binding bs n o) a (subst Q (sym effective) (subst P (sym ask) (changed-rebind (stands_for h n) bs n o (a.objects n))))

pub unbind-takes : UnbindTakes
unbind-takes config events e n bs ask effective a =
    let h = places config events in
    let P : Ask → Type 0 = λ q. Changed true (option_and_then (stands_for h) (name_in q)) q bs (without_name bs n) in
    let Q : Bool → Type 0 = λ v. Changed v (option_and_then (stands_for h) (name_in e.ask)) e.ask bs (without_name bs n) in
    changed-next config events e bs (without_name bs n) a (subst Q (sym effective) (subst P (sym ask) (changed-unbind (stands_for h n) bs n)))

pub others-leave-names : OthersLeaveNames
unfolding place_of
others-leave-names config events e bs same a =
    let h = places config events in
    changed-next config events e bs bs a (changed-other (is_effective config h e.by e.ask) (option_and_then (stands_for h) (name_in e.ask)) e.ask bs same)

-- ---- how many names stand for an object

-- Each binding has what its name stands for.
abbrev Own : (List ℕ → Option ObjId) → List Binding → Type 0
Own f [] = Unit {0}
Own f (b ∷ bs) = (f b.name ≡ Some b.object) × Own f bs

own-objects : (bs : List Binding) → AllOnce same_bytes (names_in bs) → Own (object_of bs) bs
own-objects [] once = tt
own-objects (b ∷ bs) once =
    (ap (λ s. if s then Some b.object else object_of bs b.name) (bytes-equality.self b.name), rest bs once.0 (own-objects bs once.1))
  where
    rest : (cs : List Binding) → list_any (same_bytes b.name) (names_in cs) ≡ false → Own (object_of bs) cs → Own (object_of (b ∷ bs)) cs
    rest [] h o = tt
    rest (c ∷ cs) h o =
        let two = or_parts (same_bytes b.name c.name) (list_any (same_bytes b.name) (names_in cs)) h in
        (ap (λ s. if s then Some b.object else object_of bs c.name) two.0 ∙ o.0, rest cs two.1 o.1)

counted-names : (f : List ℕ → Option ObjId) (bs : List Binding) (o : ObjId) → Own f bs → count_of bs o ≡ length (filter (λ n. option_any (λ x. same_id x o) (f n)) (names_in bs))
counted-names f [] o own = refl
counted-names f (b ∷ bs) o own = rw (own.0) (go (same_id b.object o) (counted-names f bs o own.1))
  where
    go : (s : Bool) → count_of bs o ≡ length (filter (λ n. option_any (λ x. same_id x o) (f n)) (names_in bs)) →
        length (cond s (b ∷ filter (λ c. same_id c.object o) bs) (filter (λ c. same_id c.object o) bs))
        ≡ length (cond s (b.name ∷ filter (λ n. option_any (λ x. same_id x o) (f n)) (names_in bs)) (filter (λ n. option_any (λ x. same_id x o) (f n)) (names_in bs)))
    go true ih = ap suc ih
    go false ih = ih

filter-alike : (f g : List ℕ → Option ObjId) (o : ObjId) → ((n : List ℕ) → f n ≡ g n) → (ns : List (List ℕ)) →
    filter (λ n. option_any (λ x. same_id x o) (f n)) ns ≡ filter (λ n. option_any (λ x. same_id x o) (g n)) ns
filter-alike f g o same [] = refl
filter-alike f g o same (n ∷ ns) = rw (same n, filter-alike f g o same ns) refl

count-named : (h : History) (bs : List Binding) → AreBindings h bs → IsRegistry bs → (o : ObjId) → count_of bs o ≡ length (names_of h o)
unfolding names_of
count-named h bs a r o =
    counted-names (object_of bs) bs o (own-objects bs r.once)
    ∙ ap length (filter-alike (object_of bs) (stands_for h) o a.objects (names_in bs))
    ∙ ap (λ ns. length (filter (is_name_of h o) ns)) a.names

named-length : (h : History) (o : ObjId) → nat_lt 0 (length (names_of h o)) ≡ is_named h o
unfolding names_of is_named
named-length h o = sym (list_any-length (is_name_of h o) (names h))

pub names-count : NamesCount
names-count h bs a r =
    (sym (length-map bs (λ (b : Binding). b.name)) ∙ ap length a.names, λ o. count-named h bs a r o, λ o. ap (nat_lt 0) (count-named h bs a r o) ∙ named-length h o)
