-- What views tell of nodes whose flags are set.
use Rattle.std.proofs.Common.{◌≡◌, ◌∙◌, ◌<◌, ◌≤◌, ◌-◌, ℕ, zero, suc, List, [], ◌∷◌, length, Option, Some, None, option_map, unwrap_or, codes, slice_get, slice_set, refl, ap, sym, subst, arith}
use Rattle.std.proofs.lemmas.List.{length-set}
use Rattle.class_desc.specs.declared.slot.Slot.{Slot}
use Rattle.class_desc.specs.declared.slot.Slot.TheVariants as slots
use Rattle.class_desc.specs.declared.field.TypeCode.{TypeCode}
use Rattle.class_desc.specs.declared.field.TypeCode.TheVariants as types
use Rattle.class_desc.specs.declared.desc.ClassDesc.{ClassDesc}
use Rattle.ser_values.specs.declared.value.Part.{Part}
use Rattle.ser_values.specs.declared.node.Node.{Node}
use Rattle.ser_values.specs.declared.node.Node.TheVariants.{Text, Desc, Proxy, Object, Array, Class, Enum}
use Rattle.java_shapes.specs.declared.ref_views.LiveRef.{LiveRef}
use Rattle.java_shapes.specs.Objects.{Held, node_at, named_in, parent_in, held_here, held_within, held_in, held_at, own_of, own_in, own_at, value_of, as_slot, ◌>>=◌}
use Rattle.java_shapes.specs.LiveRefs.{is_proxy, is_proxied, proxy_handler, holder_at, run_of, ref_in, ref_of, stub_ref_at, live_ref_at}
use Rattle.java_shapes.specs.Flags.{place_here, place_within, flags_in, set_flags, for_result}
use Rattle.java_shapes.proofs.FlagNotes.{ref_set}
use Rattle.java_shapes.proofs.Flagged.{FlaggedAt, kept, flagged, last_one, noted, all_flagged}

-- ---- classes stay

abbrev Set : List Node → List Node → Type 0
Set nodes new = (j : ℕ) → FlaggedAt nodes new j

named_one : (nodes new : List Node) (j : ℕ) (name : List ℕ) → FlaggedAt nodes new j → named_in name (slice_get new j) ≡ named_in name (slice_get nodes j)
named_one nodes new j name (kept none same) = ap (λ (o : Option Node). named_in name o) same
named_one nodes new j name (flagged r o place is stands found same) = rw (same, o.is) refl

named_same : (nodes new : List Node) → Set nodes new → (name : List ℕ) (s : Slot) → named_in name (node_at new s) ≡ named_in name (node_at nodes s)
named_same nodes new set name slots.Null = refl
named_same nodes new set name (slots.Node j) = named_one nodes new j name (set j)

parent_one : (nodes new : List Node) (j : ℕ) → FlaggedAt nodes new j → parent_in (slice_get new j) ≡ parent_in (slice_get nodes j)
parent_one nodes new j (kept none same) = ap (λ (o : Option Node). parent_in o) same
parent_one nodes new j (flagged r o place is stands found same) = rw (same, o.is) refl

parent_same : (nodes new : List Node) → Set nodes new → (s : Slot) → parent_in (node_at new s) ≡ parent_in (node_at nodes s)
parent_same nodes new set slots.Null = refl
parent_same nodes new set (slots.Node j) = parent_one nodes new j (set j)

proxy_one : (nodes new : List Node) (j : ℕ) → FlaggedAt nodes new j → is_proxy (slice_get new j) ≡ is_proxy (slice_get nodes j)
proxy_one nodes new j (kept none same) = ap (λ (o : Option Node). is_proxy o) same
proxy_one nodes new j (flagged r o place is stands found same) = rw (same, o.is) refl

here_same : (f g : Slot → Option Held) → ((s : Slot) → f s ≡ g s) → (o : Option Part) (d : Option ClassDesc) (up : Option Slot) → held_here f o d up ≡ held_here g o d up
here_same f g e None d up = refl
here_same f g e (Some p) (Some d) up = refl
here_same f g e (Some p) None (Some s) = e s
here_same f g e (Some p) None None = refl

-- the search through the classes finds the same part
within_same : (nodes new : List Node) → Set nodes new → (name : List ℕ) (ps : List Part) (n : ℕ) (s : Slot) → held_within new name ps n s ≡ held_within nodes name ps n s
unfolding held_within
within_same nodes new set name ps zero s = refl
within_same nodes new set name ps (suc n) s =
    ap (λ (d : Option ClassDesc). held_here (held_within new name ps n) (slice_get ps n) d (parent_in (node_at new s))) (named_same nodes new set name s)
    ∙ (ap (λ (o : Option Slot). held_here (held_within new name ps n) (slice_get ps n) (named_in name (node_at nodes s)) o) (parent_same nodes new set s)
    ∙ here_same (held_within new name ps n) (held_within nodes name ps n) (λ t. within_same nodes new set name ps n t) (slice_get ps n) (named_in name (node_at nodes s)) (parent_in (node_at nodes s)))

-- ---- parts with other notes

abbrev AlikePart : Option Part → Option Part → Type 0
AlikePart None None = Unit {0}
AlikePart (Some p) (Some q) = p.values ≡ q.values
AlikePart _ _ = ⊥

abbrev Alike : Option Held → Option Held → Type 0
Alike None None = Unit {0}
Alike (Some h) (Some g) = (h.0 ≡ g.0) × ((h.1).values ≡ (g.1).values)
Alike _ _ = ⊥

alike_same : (h g : Option Held) → h ≡ g → Alike h g
alike_same h g e = subst (λ (x : Option Held). Alike h x) e (alike_self h)
  where
    alike_self : (h : Option Held) → Alike h h
    alike_self None = tt
    alike_self (Some h) = (refl, refl)

here_alike : (f g : Slot → Option Held) → ((s : Slot) → Alike (f s) (g s)) → (o q : Option Part) → AlikePart o q → (d : Option ClassDesc) (up : Option Slot) → Alike (held_here f o d up) (held_here g q d up)
here_alike f g e None None a d up = tt
here_alike f g e None (Some q) a d up = absurd a
here_alike f g e (Some p) None a d up = absurd a
here_alike f g e (Some p) (Some q) a (Some d) up = (refl, a)
here_alike f g e (Some p) (Some q) a None (Some s) = e s
here_alike f g e (Some p) (Some q) a None None = tt

within_alike : (nodes : List Node) (name : List ℕ) (ps qs : List Part) → ((i : ℕ) → AlikePart (slice_get ps i) (slice_get qs i)) → (n : ℕ) (s : Slot) → Alike (held_within nodes name ps n s) (held_within nodes name qs n s)
unfolding held_within
within_alike nodes name ps qs a zero s = tt
within_alike nodes name ps qs a (suc n) s =
    here_alike (held_within nodes name ps n) (held_within nodes name qs n) (λ t. within_alike nodes name ps qs a n t) (slice_get ps n) (slice_get qs n) (a n) (named_in name (node_at nodes s)) (parent_in (node_at nodes s))

part_self : (o : Option Part) → AlikePart o o
part_self None = tt
part_self (Some p) = refl

set_alike : (ps : List Part) (place : ℕ) (p : Part) (bytes : List ℕ) → slice_get ps place ≡ Some p → (i : ℕ) → AlikePart (slice_get ps i) (slice_get (slice_set ps place (noted p bytes)) i)
set_alike [] place p bytes e i = absurd cc
set_alike (x ∷ ps) zero p bytes e zero = let same : x ≡ p = ap (λ (o : Option Part). unwrap_or o x) e in ap (λ (y : Part). y.values) same
set_alike (x ∷ ps) zero p bytes e (suc i) = part_self (slice_get ps i)
set_alike (x ∷ ps) (suc place) p bytes e zero = refl
set_alike (x ∷ ps) (suc place) p bytes e (suc i) = set_alike ps place p bytes e i

alike_to : (a b c : Option Held) → Alike a b → c ≡ b → Alike a c
alike_to a b c h e = subst (λ (x : Option Held). Alike a x) (sym e) h

at_one : (nodes new : List Node) → Set nodes new → (name : List ℕ) (j : ℕ) → FlaggedAt nodes new j → Alike (held_at nodes name (slots.Node j)) (held_at new name (slots.Node j))
at_one nodes new set name j (kept none same) = kept_in (slice_get nodes j) (slice_get new j) same
  where
    kept_in : (o q : Option Node) → q ≡ o → Alike (held_in nodes name o) (held_in new name q)
    kept_in o q e = alike_to (held_in nodes name o) (held_in nodes name o) (held_in new name q) (alike_same (held_in nodes name o) (held_in nodes name o) refl) (ap (λ (x : Option Node). held_in new name x) e ∙ in_same o)
      where
        in_same : (o : Option Node) → held_in new name o ≡ held_in nodes name o
        in_same None = refl
        in_same (Some (Object c ps)) = within_same nodes new set name ps (length ps) (slots.Node c)
        in_same (Some (Text t)) = refl
        in_same (Some (Desc d)) = refl
        in_same (Some (Proxy p)) = refl
        in_same (Some (Array c vs)) = refl
        in_same (Some (Class c)) = refl
        in_same (Some (Enum c t)) = refl
at_one nodes new set name j (flagged r o place is stands found same) =
    let qs : List Part = slice_set o.parts place (noted o.part (last_one o.bytes)) in
    let count : length qs ≡ length o.parts = length-set o.parts place (noted o.part (last_one o.bytes)) in
    let old : held_at nodes name (slots.Node j) ≡ held_within nodes name o.parts (length o.parts) (slots.Node o.class) = rw (o.is) refl in
    let now : held_at new name (slots.Node j) ≡ held_within nodes name qs (length o.parts) (slots.Node o.class) = rw same (within_same nodes new set name qs (length qs) (slots.Node o.class) ∙ ap (λ (n : ℕ). held_within nodes name qs n (slots.Node o.class)) count) in
    let both = within_alike nodes name o.parts qs (set_alike o.parts place o.part (last_one o.bytes) stands) (length o.parts) (slots.Node o.class) in
    subst (λ (x : Option Held). Alike x (held_at new name (slots.Node j))) (sym old) (alike_to (held_within nodes name o.parts (length o.parts) (slots.Node o.class)) (held_within nodes name qs (length o.parts) (slots.Node o.class)) (held_at new name (slots.Node j)) both now)

at_alike : (nodes new : List Node) → Set nodes new → (name : List ℕ) (s : Slot) → Alike (held_at nodes name s) (held_at new name s)
at_alike nodes new set name slots.Null = tt
at_alike nodes new set name (slots.Node j) = at_one nodes new set name j (set j)

-- ---- who has the note

value_alike : (h g : Held) (code : TypeCode) (name : List ℕ) → h.0 ≡ g.0 → (h.1).values ≡ (g.1).values → value_of h code name ≡ value_of g code name
unfolding value_of
value_alike h g code name e f = rw (e, f) refl

abbrev first_value : Option Held → Option Slot
first_value None = None
first_value (Some h) = as_slot (value_of h types.Object (codes "h"))

first_alike : (h g : Option Held) → Alike h g → first_value g ≡ first_value h
first_alike None None a = refl
first_alike None (Some g) a = absurd a
first_alike (Some h) None a = absurd a
first_alike (Some h) (Some g) a = ap as_slot (sym (value_alike h g types.Object (codes "h") a.0 a.1))

abbrev has_own : List Node → Slot → Option Slot
has_own nodes handler = own_at nodes (codes "java.rmi.server.RemoteObjectInvocationHandler") handler >>= λ held. Some handler

own_part : (d : Option ClassDesc) (o q : Option Part) (s : Slot) → AlikePart o q → (own_of d q >>= λ held. Some s) ≡ (own_of d o >>= λ held. Some s)
own_part None o q s a = refl
own_part (Some d) None None s a = refl
own_part (Some d) None (Some q) s a = absurd a
own_part (Some d) (Some p) None s a = absurd a
own_part (Some d) (Some p) (Some q) s a = refl

own_one : (nodes new : List Node) → Set nodes new → (j : ℕ) → FlaggedAt nodes new j → has_own new (slots.Node j) ≡ has_own nodes (slots.Node j)
own_one nodes new set j (kept none same) = rw same (in_same (slice_get nodes j))
  where
    in_same : (o : Option Node) → (own_in new (codes "java.rmi.server.RemoteObjectInvocationHandler") o >>= λ held. Some (slots.Node j)) ≡ (own_in nodes (codes "java.rmi.server.RemoteObjectInvocationHandler") o >>= λ held. Some (slots.Node j))
    in_same None = refl
    in_same (Some (Object c ps)) = ap (λ (d : Option ClassDesc). own_of d (slice_get ps (length ps - 1)) >>= λ held. Some (slots.Node j)) (named_one nodes new c (codes "java.rmi.server.RemoteObjectInvocationHandler") (set c))
    in_same (Some (Text t)) = refl
    in_same (Some (Desc d)) = refl
    in_same (Some (Proxy p)) = refl
    in_same (Some (Array c vs)) = refl
    in_same (Some (Class c)) = refl
    in_same (Some (Enum c t)) = refl
own_one nodes new set j (flagged r o place is stands found same) =
    let name = codes "java.rmi.server.RemoteObjectInvocationHandler" in
    let qs : List Part = slice_set o.parts place (noted o.part (last_one o.bytes)) in
    let count : length qs ≡ length o.parts = length-set o.parts place (noted o.part (last_one o.bytes)) in
    let now : has_own new (slots.Node j) ≡ (own_of (named_in name (slice_get new o.class)) (slice_get qs (length qs - 1)) >>= λ held. Some (slots.Node j)) = rw same refl in
    let old : has_own nodes (slots.Node j) ≡ (own_of (named_in name (slice_get nodes o.class)) (slice_get o.parts (length o.parts - 1)) >>= λ held. Some (slots.Node j)) = rw (o.is) refl in
    now
    ∙ (ap (λ (n : ℕ). own_of (named_in name (slice_get new o.class)) (slice_get qs (n - 1)) >>= λ held. Some (slots.Node j)) count
    ∙ (ap (λ (d : Option ClassDesc). own_of d (slice_get qs (length o.parts - 1)) >>= λ held. Some (slots.Node j)) (named_one nodes new o.class name (set o.class))
    ∙ (own_part (named_in name (slice_get nodes o.class)) (slice_get o.parts (length o.parts - 1)) (slice_get qs (length o.parts - 1)) (slots.Node j) (set_alike o.parts place o.part (last_one o.bytes) stands (length o.parts - 1)) ∙ sym old)))

own_same : (nodes new : List Node) → Set nodes new → (s : Slot) → has_own new s ≡ has_own nodes s
own_same nodes new set slots.Null = refl
own_same nodes new set (slots.Node j) = own_one nodes new set j (set j)

handler_by : (nodes : List Node) (s : Slot) → proxy_handler nodes s ≡ (first_value (held_at nodes (codes "java.lang.reflect.Proxy") s) >>= has_own nodes)
unfolding proxy_handler
handler_by nodes s = by_held (held_at nodes (codes "java.lang.reflect.Proxy") s)
  where
    by_held : (o : Option Held) → (o >>= λ proxy. as_slot (value_of proxy types.Object (codes "h")) >>= has_own nodes) ≡ (first_value o >>= has_own nodes)
    by_held None = refl
    by_held (Some h) = refl

bind_same : (f g : Slot → Option Slot) → ((s : Slot) → f s ≡ g s) → (o : Option Slot) → (o >>= f) ≡ (o >>= g)
bind_same f g e None = refl
bind_same f g e (Some s) = e s

handler_same : (nodes new : List Node) → Set nodes new → (s : Slot) → proxy_handler new s ≡ proxy_handler nodes s
handler_same nodes new set s =
    handler_by new s
    ∙ (ap (λ (o : Option Slot). o >>= has_own new) (first_alike (held_at nodes (codes "java.lang.reflect.Proxy") s) (held_at new (codes "java.lang.reflect.Proxy") s) (at_alike nodes new set (codes "java.lang.reflect.Proxy") s))
    ∙ (bind_same (has_own new) (has_own nodes) (own_same nodes new set) (first_value (held_at nodes (codes "java.lang.reflect.Proxy") s)) ∙ sym (handler_by nodes s)))

proxied_one : (nodes new : List Node) → Set nodes new → (j : ℕ) → FlaggedAt nodes new j → is_proxied new (slice_get new j) ≡ is_proxied nodes (slice_get nodes j)
proxied_one nodes new set j (kept none same) = rw same (in_same (slice_get nodes j))
  where
    in_same : (o : Option Node) → is_proxied new o ≡ is_proxied nodes o
    in_same None = refl
    in_same (Some (Object c ps)) = proxy_one nodes new c (set c)
    in_same (Some (Text t)) = refl
    in_same (Some (Desc d)) = refl
    in_same (Some (Proxy p)) = refl
    in_same (Some (Array c vs)) = refl
    in_same (Some (Class c)) = refl
    in_same (Some (Enum c t)) = refl
proxied_one nodes new set j (flagged r o place is stands found same) = rw (same, o.is) (proxy_one nodes new o.class (set o.class))

proxied_same : (nodes new : List Node) → Set nodes new → (s : Slot) → is_proxied new (node_at new s) ≡ is_proxied nodes (node_at nodes s)
proxied_same nodes new set slots.Null = refl
proxied_same nodes new set (slots.Node j) = proxied_one nodes new set j (set j)

holder_same : (nodes new : List Node) → Set nodes new → (s : Slot) → holder_at new s ≡ holder_at nodes s
holder_same nodes new set s = rw (proxied_same nodes new set s, handler_same nodes new set s) refl

-- ---- what the note is

abbrev FoundAs : List Node → List ℕ → List Part → Part → Option Held → Type 0
FoundAs nodes name qs q o = (d : ClassDesc) × (o ≡ Some (d, q))

all_there : (qs : List Part) (i : ℕ) → i < length qs → (p : Part) × (slice_get qs i ≡ Some p)
all_there [] i lt = absurd (omega arith)
all_there (x ∷ qs) zero lt = (x, refl)
all_there (x ∷ qs) (suc i) lt = all_there qs i (omega arith)

found_here : (nodes : List Node) (name : List ℕ) (qs : List Part) (q : Part) (n k : ℕ) (above : Slot → Option Held) (places : Slot → Option ℕ) → slice_get qs k ≡ Some q → ((s : Slot) → places s ≡ Some k → FoundAs nodes name qs q (above s))
    → (p : Part) (dd : Option ClassDesc) (up : Option Slot) → slice_get qs n ≡ Some p → place_here places n dd up ≡ Some k → FoundAs nodes name qs q (held_here above (Some p) dd up)
found_here nodes name qs q n k above places e f p (Some d) up g h =
    let same : n ≡ k = ap (λ (o : Option ℕ). unwrap_or o n) h in
    let two : Some p ≡ Some q = sym g ∙ (ap (λ (i : ℕ). slice_get qs i) same ∙ e) in
    let part : p ≡ q = ap (λ (o : Option Part). unwrap_or o p) two in
    (d, ap (λ (x : Part). Some (d, x)) part)
found_here nodes name qs q n k above places e f p None (Some s) g h = f s h
found_here nodes name qs q n k above places e f p None None g h = absurd cc

place_found : (nodes : List Node) (name : List ℕ) (qs : List Part) (q : Part) (k : ℕ) → slice_get qs k ≡ Some q → (n : ℕ) (s : Slot) → n ≤ length qs → place_within nodes name n s ≡ Some k → FoundAs nodes name qs q (held_within nodes name qs n s)
unfolding held_within place_within
place_found nodes name qs q k e zero s le h = absurd cc
place_found nodes name qs q k e (suc n) s le h =
    let p = all_there qs n (omega arith) in
    rw (p.1) (found_here nodes name qs q n k (held_within nodes name qs n) (place_within nodes name n) e (λ t g. place_found nodes name qs q k e n t (omega arith) g) p.0 (named_in name (node_at nodes s)) (parent_in (node_at nodes s)) p.1 h)

set_there : (ps : List Part) (k : ℕ) (p q : Part) → slice_get ps k ≡ Some p → slice_get (slice_set ps k q) k ≡ Some q
set_there [] k p q e = absurd cc
set_there (x ∷ ps) zero p q e = refl
set_there (x ∷ ps) (suc k) p q e = set_there ps k p q e

stub_one : (nodes new : List Node) → Set nodes new → (j : ℕ) → FlaggedAt nodes new j → stub_ref_at new (slots.Node j) ≡ option_map for_result (stub_ref_at nodes (slots.Node j))
stub_one nodes new set j (kept none same) = rw none (now ∙ none)
  where
    in_same : (o : Option Node) → held_in new (codes "java.rmi.server.RemoteObject") o ≡ held_in nodes (codes "java.rmi.server.RemoteObject") o
    in_same None = refl
    in_same (Some (Object c ps)) = within_same nodes new set (codes "java.rmi.server.RemoteObject") ps (length ps) (slots.Node c)
    in_same (Some (Text t)) = refl
    in_same (Some (Desc d)) = refl
    in_same (Some (Proxy p)) = refl
    in_same (Some (Array c vs)) = refl
    in_same (Some (Class c)) = refl
    in_same (Some (Enum c t)) = refl

    now : stub_ref_at new (slots.Node j) ≡ stub_ref_at nodes (slots.Node j)
    now = ap (λ (o : Option Held). ref_in (run_of o)) (ap (λ (o : Option Node). held_in new (codes "java.rmi.server.RemoteObject") o) same ∙ in_same (slice_get nodes j))
stub_one nodes new set j (flagged r o place is stands found same) =
    let name = codes "java.rmi.server.RemoteObject" in
    let q = noted o.part (last_one o.bytes) in
    let qs : List Part = slice_set o.parts place q in
    let count : length qs ≡ length o.parts = length-set o.parts place q in
    let there : slice_get qs place ≡ Some q = set_there o.parts place o.part q stands in
    let w = place_found nodes name qs q place there (length o.parts) (slots.Node o.class) (omega (arith, count)) found in
    let held : held_at new name (slots.Node j) ≡ Some (w.0, q) = rw same (within_same nodes new set name qs (length qs) (slots.Node o.class) ∙ (ap (λ (n : ℕ). held_within nodes name qs n (slots.Node o.class)) count ∙ w.1)) in
    let now : stub_ref_at new (slots.Node j) ≡ ref_of (last_one o.bytes) = rw held refl in
    now ∙ (ref_set o.bytes r o.read ∙ sym (ap (λ (x : Option LiveRef). option_map for_result x) is))

stub_same : (nodes new : List Node) → Set nodes new → (s : Slot) → stub_ref_at new s ≡ option_map for_result (stub_ref_at nodes s)
stub_same nodes new set slots.Null = refl
stub_same nodes new set (slots.Node j) = stub_one nodes new set j (set j)

-- Each reference is the same, made for a result; and what is none, stays none.
pub refs_flagged : (nodes new : List Node) → set_flags nodes (flags_in nodes) ≡ Some new → (s : Slot) → live_ref_at new s ≡ option_map for_result (live_ref_at nodes s)
refs_flagged nodes new e s =
    let set = all_flagged nodes new e in
    ap (λ (h : Slot). stub_ref_at new h) (holder_same nodes new set s) ∙ stub_same nodes new set (holder_at nodes s)
