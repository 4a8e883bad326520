-- The bindings of names, from one event to the next.
use Rattle.std.proofs.Common.{◌≡◌, ℕ, ◌≤◌, ◌⊎◌, inl, inr, List, [], ◌∷◌, ◌++◌, length, refl, ap, sym, subst, ◌∙◌, Option, Some, None, Result, Ok, Err}
use Rattle.std.specs.Prelude.{Bool, true, false, ◌&&◌, ◌||◌, ◌↔◌, nat_le, is_none, is_some, if◌then◌else◌}
use Rattle.std.specs.List.{AllByRecursion}
use Rattle.std.proofs.lemmas.Bool.{le-leb, leb-true}
use Rattle.std.proofs.lemmas.List.{length-map}
use Rattle.object_ids.specs.declared.ids.ObjId.{ObjId}
use Rattle.object_ids.specs.declared.ids.FullKind.TheVariants.{Names as FullNames}
use Rattle.history.specs.declared.asks.SpaceConfig.{SpaceConfig}
use Rattle.history.specs.declared.asks.Event.{Event}
use Rattle.history.specs.declared.asks.Ask.{Ask}
use Rattle.history.specs.declared.asks.Ask.TheVariants.{Open, Begin, Finish, Abandon, Dirty, Clean, Ack, Bind, Rebind, Unbind, Lookup, List as ListNames, Tick}
use Rattle.history.specs.declared.limits.TheConstants.{MAX_NAMES, MAX_NAME_UNITS}
use Rattle.history.specs.declared.replies.Refused.{Refused}
use Rattle.history.specs.declared.replies.Refused.TheVariants.{Full}
use Rattle.history.specs.LeaseCalls.{call_with}
use Rattle.history.specs.Names.{names, is_bind_of, is_unbind_of, is_name_change, changes_name}
use Rattle.history.specs.Table.{is_effective, place_of, places}
use Rattle.history.proofs.ListLemmas.{and_false}
use Rattle.history.proofs.TableLaws.{ask-place_of}
use Rattle.rmi_registry.specs.declared.binding.Binding.{Binding}
use Rattle.rmi_registry.specs.declared.names.NameFault.{NameFault}
use Rattle.rmi_registry.specs.declared.names.NameFault.TheVariants.{Full as FullFault, OutOfMemory as NoMemoryFault}
use Rattle.rmi_registry.specs.Bindings.{is_bound, object_of, IsRegistry}
use Rattle.rmi_registry.specs.StandsForHistory.{AreBindings}
use Rattle.rmi_registry.proofs.BindingLaws.{rebound-new}
use Rattle.export_table.proofs.StandLaws.{bind-stood}
use Rattle.rmi_registry.proofs.StandLaws.{bind-adds, rebind-changes, unbind-takes, others-leave-names}
use Rattle.space.specs.Acts.{acted_names, binding_refusal, name_refusal, first_of_two, Agrees}
use Rattle.space.specs.Faults.{unbound_for}

effective-place : (config : SpaceConfig) (events : List Event) (e : Event) → (place_of config (places config events) e).effective ≡ is_effective config (places config events) e.by e.ask
unfolding place_of
effective-place config events e = refl

-- THE BINDINGS after an ask are those of the history after its event.
pub names-next : (config : SpaceConfig) (events : List Event) (e : Event) (effective : Bool) (bindings bindings' : List Binding) → AreBindings (places config events) bindings → effective ≡ is_effective config (places config events) e.by e.ask →
    bindings' ≡ acted_names effective e.ask bindings → AreBindings (places config (events ++ e ∷ [])) bindings'
names-next config events e effective bindings bindings' b f n =
    let P : List Binding → Type 0 = λ bs. AreBindings (places config (events ++ e ∷ [])) bs in
    subst P (sym (n ∙ ap (λ v. acted_names v e.ask bindings) f)) (go e.ask refl (is_effective config (places config events) e.by e.ask) refl)
  where
    -- an ask that changes nothing
    left : ((n : List ℕ) → changes_name n (place_of config (places config events) e) ≡ false) → AreBindings (places config (events ++ e ∷ [])) bindings
    left h = others-leave-names config events e bindings h b

    other : (a : Ask) → e.ask ≡ a → ((n : List ℕ) → (is_bind_of n a || is_unbind_of n a) ≡ false) → AreBindings (places config (events ++ e ∷ [])) bindings
    other a i h = left (λ n. changed n (h n))
      where
        changed : (n : List ℕ) → (is_bind_of n a || is_unbind_of n a) ≡ false → changes_name n (place_of config (places config events) e) ≡ false
        changed n c = ap (λ x. (place_of config (places config events) e).effective && (is_bind_of n x || is_unbind_of n x)) (ask-place_of config (places config events) e ∙ i)
            ∙ ap (λ v. (place_of config (places config events) e).effective && v) c ∙ and_false (place_of config (places config events) e).effective

    refused : is_effective config (places config events) e.by e.ask ≡ false → AreBindings (places config (events ++ e ∷ [])) bindings
    refused v = left (λ n. ap (λ w. w && (is_bind_of n (place_of config (places config events) e).event.ask || is_unbind_of n (place_of config (places config events) e).event.ask)) (effective-place config events e ∙ v))

    go : (a : Ask) → e.ask ≡ a → (v : Bool) → is_effective config (places config events) e.by e.ask ≡ v → AreBindings (places config (events ++ e ∷ [])) (acted_names v a bindings)
    go (Bind n o) i true s =
        let P : List Binding → Type 0 = λ bs. AreBindings (places config (events ++ e ∷ [])) bs in
        subst P (sym (rebound-new bindings n o (ap is_some (b.objects n ∙ bind-stood config (places config events) e.by n o (ap (is_effective config (places config events) e.by) (sym i) ∙ s)))))
        (bind-adds config events e n o bindings i s b)
    go (Bind n o) i false s = refused s
    go (Rebind n o) i true s = rebind-changes config events e n o bindings i s b
    go (Rebind n o) i false s = refused s
    go (Unbind n) i true s = unbind-takes config events e n bindings i s b
    go (Unbind n) i false s = refused s
    go (Open x y) i v s = other (Open x y) i (λ n. refl)
    go (Begin x) i v s = other (Begin x) i (λ n. refl)
    go (Finish x y z w) i v s = other (Finish x y z w) i (λ n. refl)
    go (Abandon x) i v s = other (Abandon x) i (λ n. refl)
    go (Dirty x y z w) i v s = other (Dirty x y z w) i (λ n. refl)
    go (Clean x y z w) i v s = other (Clean x y z w) i (λ n. refl)
    go (Ack x) i v s = other (Ack x) i (λ n. refl)
    go (Lookup x y) i v s = other (Lookup x y) i (λ n. refl)
    go ListNames i v s = other ListNames i (λ n. refl)
    go Tick i v s = other Tick i (λ n. refl)

-- ---- refusals

-- A name that is bound: there is room for it.
pub bound-agrees : (bindings : List Binding) (n : List ℕ) (answer : Result (Option ObjId) NameFault) (stood : Option ObjId) → answer ≡ Ok stood →
    ((answer ≡ Err (FullFault FullNames)) ↔ ((is_bound bindings n ≡ false) × (MAX_NAMES ≤ length bindings))) → binding_refusal (length bindings) (object_of bindings n) true ≡ None
bound-agrees bindings n answer stood ok full = go (object_of bindings n) refl (nat_le MAX_NAMES (length bindings)) refl
  where
    go : (s : Option ObjId) → object_of bindings n ≡ s → (b : Bool) → nat_le MAX_NAMES (length bindings) ≡ b → (if true && is_none s && b then Some (Full FullNames) else None) ≡ None
    go (Some o) e b l = refl
    go None e false l = refl
    go None e true l = absurd (let refused = full.1 (ap is_some e, leb-true MAX_NAMES (length bindings) l) in cc)

-- A name that is not bound.
pub unbound-agrees : (bindings : List Binding) (n : List ℕ) (answer : Result (Option ObjId) NameFault) (fault : NameFault) → answer ≡ Err fault →
    ((answer ≡ Err (FullFault FullNames)) ↔ ((is_bound bindings n ≡ false) × (MAX_NAMES ≤ length bindings))) → (fault ≡ FullFault FullNames) ⊎ (fault ≡ NoMemoryFault) →
    Agrees {T = Unit {0}} (binding_refusal (length bindings) (object_of bindings n) true) (Err (unbound_for fault))
unbound-agrees bindings n answer fault err full (inl f) = inl (go (object_of bindings n) refl ∙ ap (λ x. Some (unbound_for x)) (sym f))
  where
    why : (is_bound bindings n ≡ false) × (MAX_NAMES ≤ length bindings)
    why = full.0 (err ∙ ap (λ x. Err x) f)

    go : (s : Option ObjId) → object_of bindings n ≡ s → (if true && is_none s && nat_le MAX_NAMES (length bindings) then Some (Full FullNames) else None) ≡ Some (Full FullNames)
    go (Some o) e = absurd (let free = why.0 in let there = ap is_some e in cc)
    go None e = ap (λ b. if b then Some (Full FullNames) else None) (le-leb MAX_NAMES (length bindings) why.1)
unbound-agrees bindings n answer fault err full (inr m) = inr (ap unbound_for m)

-- An ask that changes a name makes no lease call.
pub no-call : (f : ObjId → Bool) (m : ℕ) (a : Ask) → is_name_change a ≡ true → call_with f m a ≡ []
no-call f m (Bind n o) h = refl
no-call f m (Rebind n o) h = refl
no-call f m (Unbind n) h = refl
no-call f m _ h = absurd (cc)

-- One that changes none leaves the bindings, and is not refused for a name.
pub names-left : (effective : Bool) (a : Ask) (bindings : List Binding) → is_name_change a ≡ false → acted_names effective a bindings ≡ bindings
names-left effective (Bind n o) bindings h = absurd (cc)
names-left effective (Rebind n o) bindings h = absurd (cc)
names-left effective (Unbind n) bindings h = absurd (cc)
names-left effective _ bindings h = refl

pub names-unrefused : (count : ℕ) (stood : Option ObjId) (effective : Bool) (a : Ask) → is_name_change a ≡ false → name_refusal count stood effective a ≡ None
names-unrefused count stood effective (Bind n o) h = absurd (cc)
names-unrefused count stood effective (Rebind n o) h = absurd (cc)
names-unrefused count stood effective (Unbind n) h = absurd (cc)
names-unrefused count stood effective _ h = refl

-- A refusal and none after it.
pub alone : (o last : Option Refused) → last ≡ None → o ≡ first_of_two o last
alone None last e = sym e
alone (Some r) last e = refl

-- ---- the bindings

-- How many there are.
pub bindings-counted : (config : SpaceConfig) (events : List Event) (bindings : List Binding) → AreBindings (places config events) bindings → length bindings ≡ length (names (places config events))
bindings-counted config events bindings b = sym (length-map bindings (λ (x : Binding). x.name)) ∙ ap length b.names

pub bindings-same : (config : SpaceConfig) (events events' : List Event) (bindings bindings' : List Binding) → AreBindings (places config events) bindings → events' ≡ events → bindings' ≡ bindings → AreBindings (places config events') bindings'
bindings-same config events events' bindings bindings' b e s =
    let E : List Event → Type 0 = λ es. AreBindings (places config es) bindings' in
    let B : List Binding → Type 0 = λ bs. AreBindings (places config events) bs in
    subst E (sym e) (subst B (sym s) b)

-- None of the names is too long.
pub names-short : (config : SpaceConfig) (events : List Event) (bindings : List Binding) → AreBindings (places config events) bindings → IsRegistry bindings → AllByRecursion (λ n. length n ≤ MAX_NAME_UNITS) (names (places config events))
names-short config events bindings b r = (let P : List (List ℕ) → Type 0 = λ ns. AllByRecursion (λ n. length n ≤ MAX_NAME_UNITS) ns in subst P b.names r.short)
