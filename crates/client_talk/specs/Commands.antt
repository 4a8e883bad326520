-- What each command of a client asks for, as a script.
use Rattle.std.specs.Prelude.{ℕ, Bool, List, if◌then◌else◌}
use Rattle.java_shapes.specs.declared.ref_views.LiveRef.{LiveRef}
use Rattle.client_talk.specs.declared.place.Place.{Place}
use Rattle.client_talk.specs.Scripts.{Script, dials, asks, tells, done, halts}
use Rattle.client_talk.specs.Rmi.{Reply, Names, Found, Header, OwnHost, List_names, Look_up, Bind, Unbind, Acknowledge, rmi, out_of_turn}

-- ---- steps

-- A link was dialled, whose own end has this host: a session opens.
abbrev pub greets : {V : Type 0} → ℕ → List ℕ → Script rmi V → Script rmi V
greets k host next = asks k Header (λ welcome. tells k (OwnHost host) next)

-- A link is dialled, and a session opens.
abbrev pub opens : {V : Type 0} → ℕ → Place → Script rmi V → Script rmi V
opens k place next = dials place (λ host. greets k host next)

-- what follows a reference that was found; no Return of a lookup answers anything else
abbrev pub if_found : {V : Type 0} → (List ℕ → LiveRef → Script rmi V) → Reply → Script rmi V
if_found next (Found uid reference) = next uid reference
if_found next _ = halts out_of_turn

-- A name is looked up.
abbrev pub finds : {V : Type 0} → ℕ → List ℕ → (List ℕ → LiveRef → Script rmi V) → Script rmi V
finds k name next = asks k (Look_up name) (if_found next)

-- A Return is acknowledged where a reference in it has its flag set.
abbrev pub acks_if : {V : Type 0} → ℕ → List ℕ → Bool → Script rmi V → Script rmi V
acks_if k uid flagged next = if flagged then tells k (Acknowledge uid) next else next

-- A reference that was found is acknowledged where its flag is set.
abbrev pub acks : {V : Type 0} → ℕ → List ℕ → LiveRef → Script rmi V → Script rmi V
acks k uid reference next = acks_if k uid reference.result next

-- ---- commands

-- what follows the names of a registry
abbrev pub if_named : Reply → Script rmi (List (List ℕ))
if_named (Names names) = done names
if_named _ = halts out_of_turn

-- The session is open on which the names are to be listed.
abbrev pub lists : ℕ → Script rmi (List (List ℕ))
lists k = asks k List_names if_named

-- `list HOST PORT`: the names of the registry there
abbrev pub list_script : Place → Script rmi (List (List ℕ))
list_script place = opens 0 place (lists 0)

-- The session is open on which a name is to be looked up.
abbrev pub lookups : ℕ → List ℕ → Script rmi LiveRef
lookups k name = finds k name (λ uid reference. acks k uid reference (done reference))

-- `lookup HOST PORT NAME`: what the name stands for
abbrev pub lookup_script : Place → List ℕ → Script rmi LiveRef
lookup_script place name = opens 0 place (lookups 0 name)

-- The session is open on which a name is to be unbound.
abbrev pub unbinds : ℕ → List ℕ → Script rmi (Unit {0})
unbinds k name = asks k (Unbind name) (λ finished. done tt)

-- `unbind HOST PORT NAME`
abbrev pub unbind_script : Place → List ℕ → Script rmi (Unit {0})
unbind_script place name = opens 0 place (unbinds 0 name)

-- The session is open on which a name is to be bound to what another one stands for.
abbrev pub binds : ℕ → List ℕ → List ℕ → Script rmi (Unit {0})
binds k name from = finds k from (λ uid reference. acks k uid reference (asks k (Bind name reference) (λ finished. done tt)))

-- `bind HOST PORT NAME FROM`: what FROM stands for is bound to NAME, on the same link
abbrev pub bind_script : Place → List ℕ → List ℕ → Script rmi (Unit {0})
bind_script place name from = opens 0 place (binds 0 name from)
