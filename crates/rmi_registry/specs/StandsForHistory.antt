-- The history for which the bindings of a registry stand: they are its names in their order, each with the object for which it stands there.
use Rattle.std.specs.Prelude.{◌≡◌, ℕ, nat_lt, true, false, List, [], ◌∷◌, ◌++◌, length}
use Rattle.object_ids.specs.declared.ids.ObjId.{ObjId}
use Rattle.history.specs.declared.asks.Ask.{Ask}
use Rattle.history.specs.declared.asks.Ask.TheVariants.{Bind, Rebind, Unbind}
use Rattle.history.specs.declared.asks.Event.{Event}
use Rattle.history.specs.declared.asks.SpaceConfig.{SpaceConfig}
use Rattle.history.specs.Names.{stands_for, names, names_of, is_named, changes_name}
use Rattle.history.specs.Places.{History}
use Rattle.history.specs.Table.{with_event, is_effective, place_of, places}
use Rattle.rmi_registry.specs.declared.binding.Binding.{Binding}
use Rattle.rmi_registry.specs.Bindings.{object_of, names_in, count_of, with_binding, without_name, IsRegistry}

pub record AreBindings (h : History) (bs : List Binding) : Type 0 where
  pub names : names_in bs ≡ names h
  pub objects : (n : List ℕ) → object_of bs n ≡ stands_for h n

-- ---- laws

-- No names stand where there is no history.
abbrev pub NoneBound : Type 0
NoneBound = AreBindings [] []

-- So many names stand for an object in the history.
abbrev pub NamesCount : Type 0
NamesCount = (h : History) (bs : List Binding) → AreBindings h bs → IsRegistry bs →
    (length bs ≡ length (names h))
    × ((o : ObjId) → count_of bs o ≡ length (names_of h o))
    × ((o : ObjId) → nat_lt 0 (count_of bs o) ≡ is_named h o)

-- What the bindings are after an ask of this kind that is effective.
abbrev pub After : SpaceConfig → List Event → Event → Ask → (List Binding → List Binding) → Type 0
After config events e ask change = (bs : List Binding) → e.ask ≡ ask → is_effective config (places config events) e.by e.ask ≡ true →
    AreBindings (places config events) bs → AreBindings (places config (with_event events e)) (change bs)

-- A Bind puts its name behind the others.
abbrev pub BindAdds : Type 0
BindAdds = (config : SpaceConfig) (events : List Event) (e : Event) (n : List ℕ) (o : ObjId) →
    After config events e (Bind n o) (λ bs. bs ++ record { name = n; object = o } ∷ [])

-- A Rebind gives its name the object.
abbrev pub RebindChanges : Type 0
RebindChanges = (config : SpaceConfig) (events : List Event) (e : Event) (n : List ℕ) (o : ObjId) →
    After config events e (Rebind n o) (λ bs. with_binding bs n o)

-- An Unbind takes its name away.
abbrev pub UnbindTakes : Type 0
UnbindTakes = (config : SpaceConfig) (events : List Event) (e : Event) (n : List ℕ) →
    After config events e (Unbind n) (λ bs. without_name bs n)

-- An event that changes no name leaves the bindings.
abbrev pub OthersLeaveNames : Type 0
OthersLeaveNames = (config : SpaceConfig) (events : List Event) (e : Event) (bs : List Binding) →
    ((n : List ℕ) → changes_name n (place_of config (places config events) e) ≡ false) →
    AreBindings (places config events) bs → AreBindings (places config (with_event events e)) bs
