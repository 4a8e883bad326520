-- Each flag of a reference can be set.
use Rattle.std.proofs.Common.{◌≡◌, ◌∙◌, ◌<◌, ◌≤◌, ◌+◌, ◌-◌, ℕ, zero, suc, List, [], ◌∷◌, ◌++◌, length, drop, get_or, Option, Some, None, codes, unwrap_or, slice_get, slice_set, refl, ap, sym, subst, arith, add-one, drop-cons, append-nil, ◌⊎◌, inl, inr}
use Rattle.std.proofs.lemmas.List.{drop_all}
use Rattle.std.proofs.lemmas.Option.{slice_get_within, slice_get-get_or, slice_get_past}
use Rattle.class_desc.specs.declared.slot.Slot.{Slot}
use Rattle.class_desc.specs.declared.slot.Slot.TheVariants as slots
use Rattle.class_desc.specs.declared.slot.Item.{Item}
use Rattle.class_desc.specs.declared.slot.Item.TheVariants as items
use Rattle.class_desc.specs.declared.desc.ClassDesc.{ClassDesc}
use Rattle.ser_values.specs.declared.value.Part.{Part}
use Rattle.ser_values.specs.declared.node.Node.{Node}
use Rattle.ser_values.specs.declared.node.Node.TheVariants.{Text, Desc, Proxy, Object, Array, Class, Enum}
use Rattle.ser_values.specs.declared.note_bytes.NotePlace.{NotePlace}
use Rattle.ser_values.specs.NoteBytes.{note_to, object_to, with_note_byte}
use Rattle.ser_values.proofs.Keeps.{set_here}
use Rattle.ser_values.proofs.Lists.{slice_get-set_other}
use Rattle.java_shapes.specs.declared.ref_views.LiveRef.{LiveRef}
use Rattle.java_shapes.specs.Objects.{Held, node_at, named_in, parent_in, held_here, held_within, held_in, held_at, ◌>>=◌}
use Rattle.java_shapes.specs.LiveRefs.{host_and_tail, ref_of, one_run, run_of, note_at, ref_in, stub_ref_at}
use Rattle.java_shapes.specs.Flags.{place_here, place_within, place_in, note_end, flag_at, as_places, flags_below, flags_in, set_flags}

-- ---- steps

flags_one : (nodes : List Node) (n : ℕ) → flags_below nodes n ++ as_places (flag_at nodes n) ≡ flags_below nodes (suc n)
unfolding flags_below
flags_one nodes n = refl

pub flags_step : (nodes seen : List Node) (n : ℕ) (before after : List NotePlace) → seen ≡ nodes → before ≡ flags_below nodes n → after ≡ before ++ as_places (flag_at seen n) → after ≡ flags_below nodes (n + 1)
flags_step nodes seen n before after same e f =
    rw (add-one) (f ∙ (ap (λ (l : List Node). before ++ as_places (flag_at l n)) same ∙ (ap (λ (l : List NotePlace). l ++ as_places (flag_at nodes n)) e ∙ flags_one nodes n)))

pub flags_none : (nodes : List Node) → [] ≡ flags_below nodes 0
unfolding flags_below
flags_none nodes = refl

set_one : (nodes : List Node) (at : NotePlace) (ats : List NotePlace) → set_flags nodes (at ∷ ats) ≡ (with_note_byte nodes at 1 >>= λ changed. set_flags changed ats)
unfolding set_flags
set_one nodes at ats = refl

pub set_step : (nodes new : List Node) (ats : List NotePlace) (i : ℕ) (d : NotePlace) (whole : Option (List Node)) → i < length ats → with_note_byte nodes (get_or ats i d) 1 ≡ Some new → set_flags nodes (drop i ats) ≡ whole
    → set_flags new (drop (i + 1) ats) ≡ whole
set_step nodes new ats i d whole lt e h =
    let cut : drop i ats ≡ get_or ats i d ∷ drop (i + 1) ats = rw (add-one) (drop-cons ats i d lt) in
    let one : set_flags nodes (drop i ats) ≡ set_flags new (drop (i + 1) ats) = ap (λ (l : List NotePlace). set_flags nodes l) cut ∙ (set_one nodes (get_or ats i d) (drop (i + 1) ats) ∙ rw e refl) in
    sym one ∙ h

pub set_stops : (nodes : List Node) (ats : List NotePlace) (i : ℕ) (d : NotePlace) (whole : Option (List Node)) → i < length ats → with_note_byte nodes (get_or ats i d) 1 ≡ None → set_flags nodes (drop i ats) ≡ whole → whole ≡ None
set_stops nodes ats i d whole lt e h =
    let cut : drop i ats ≡ get_or ats i d ∷ drop (i + 1) ats = rw (add-one) (drop-cons ats i d lt) in
    let one : set_flags nodes (drop i ats) ≡ None = ap (λ (l : List NotePlace). set_flags nodes l) cut ∙ (set_one nodes (get_or ats i d) (drop (i + 1) ats) ∙ rw e refl) in
    sym h ∙ one

pub set_ends : (nodes : List Node) (ats : List NotePlace) (i : ℕ) (whole : Option (List Node)) → length ats ≤ i → set_flags nodes (drop i ats) ≡ whole → Some nodes ≡ whole
unfolding set_flags
set_ends nodes ats i whole le h = (rw (drop_all i ats le) at h)

-- ---- where a flag stands

abbrev Placed : List Part → Part → Option ℕ → Type 0
Placed ps p o = (k : ℕ) × (o ≡ Some k) × (slice_get ps k ≡ Some p)

abbrev part_or : Part → Option Held → Part
part_or p (Some held) = held.1
part_or p None = p

placed_here : (ps : List Part) (p : Part) (d : ClassDesc) (n : ℕ) (above : Slot → Option Held) (places : Slot → Option ℕ) → ((s : Slot) → above s ≡ Some (d, p) → Placed ps p (places s))
    → (o : Option Part) (dd : Option ClassDesc) (up : Option Slot) → slice_get ps n ≡ o → held_here above o dd up ≡ Some (d, p) → Placed ps p (place_here places n dd up)
placed_here ps p d n above places f None dd up e h = absurd cc
placed_here ps p d n above places f (Some q) (Some x) up e h = let same : q ≡ p = ap (part_or q) h in (n, refl, e ∙ ap (λ (y : Part). Some y) same)
placed_here ps p d n above places f (Some q) None (Some s) e h = f s h
placed_here ps p d n above places f (Some q) None None e h = absurd cc

held_placed : (nodes : List Node) (name : List ℕ) (ps : List Part) (n : ℕ) (d : ClassDesc) (p : Part) (s : Slot) → held_within nodes name ps n s ≡ Some (d, p) → Placed ps p (place_within nodes name n s)
unfolding held_within place_within
held_placed nodes name ps zero d p s h = absurd cc
held_placed nodes name ps (suc n) d p s h =
    placed_here ps p d n (held_within nodes name ps n) (place_within nodes name n) (λ t e. held_placed nodes name ps n d p t e) (slice_get ps n) (named_in name (node_at nodes s)) (parent_in (node_at nodes s)) refl h

run_is : (l : List Item) (bytes : List ℕ) → one_run l ≡ Some bytes → l ≡ items.Bytes bytes ∷ []
run_is [] bytes h = absurd cc
run_is (items.Bytes b ∷ []) bytes h = cc
run_is (items.Bytes b ∷ y ∷ ys) bytes h = absurd cc
run_is (items.Ref s ∷ ys) bytes h = absurd cc

not_empty : (bytes : List ℕ) (r : LiveRef) → ref_of bytes ≡ Some r → 0 < length bytes
unfolding host_and_tail
not_empty [] r h = absurd cc
not_empty (b ∷ bs) r h = omega arith

-- A node whose own note is a reference.
pub record OwnRef (nodes : List Node) (k : ℕ) (r : LiveRef) : Type 0 where
  pub class : ℕ
  pub parts : List Part
  pub desc : ClassDesc
  pub part : Part
  pub bytes : List ℕ
  pub is : slice_get nodes k ≡ Some (Object class parts)
  pub held : held_within nodes (codes "java.rmi.server.RemoteObject") parts (length parts) (slots.Node class) ≡ Some (desc, part)
  pub note : part.note ≡ items.Bytes bytes ∷ []
  pub read : ref_of bytes ≡ Some r

in_object : (nodes : List Node) (k : ℕ) (r : LiveRef) (o : Option Node) (bytes : List ℕ) (held : Held) → slice_get nodes k ≡ o → held_in nodes (codes "java.rmi.server.RemoteObject") o ≡ Some held → one_run (held.1).note ≡ Some bytes → ref_of bytes ≡ Some r
    → OwnRef nodes k r
in_object nodes k r None bytes held e h run read = absurd cc
in_object nodes k r (Some (Object c ps)) bytes held e h run read = record {
  class = c;
  parts = ps;
  desc = held.0;
  part = held.1;
  bytes = bytes;
  is = e;
  held = h;
  note = run_is (held.1).note bytes run;
  read = read;
}
in_object nodes k r (Some (Text t)) bytes held e h run read = absurd cc
in_object nodes k r (Some (Desc d)) bytes held e h run read = absurd cc
in_object nodes k r (Some (Proxy p)) bytes held e h run read = absurd cc
in_object nodes k r (Some (Array c vs)) bytes held e h run read = absurd cc
in_object nodes k r (Some (Class c)) bytes held e h run read = absurd cc
in_object nodes k r (Some (Enum c t)) bytes held e h run read = absurd cc

in_held : (nodes : List Node) (k : ℕ) (r : LiveRef) (o : Option Held) (bytes : List ℕ) → held_in nodes (codes "java.rmi.server.RemoteObject") (slice_get nodes k) ≡ o → run_of o ≡ Some bytes → ref_of bytes ≡ Some r → OwnRef nodes k r
in_held nodes k r None bytes e h read = absurd cc
in_held nodes k r (Some held) bytes e h read = in_object nodes k r (slice_get nodes k) bytes held refl e h read

in_note : (nodes : List Node) (k : ℕ) (r : LiveRef) (o : Option (List ℕ)) → note_at nodes (slots.Node k) ≡ o → ref_in o ≡ Some r → OwnRef nodes k r
in_note nodes k r None e h = absurd cc
in_note nodes k r (Some bytes) e h = in_held nodes k r (held_at nodes (codes "java.rmi.server.RemoteObject") (slots.Node k)) bytes refl e h

pub own_ref : (nodes : List Node) (k : ℕ) (r : LiveRef) → stub_ref_at nodes (slots.Node k) ≡ Some r → OwnRef nodes k r
own_ref nodes k r h = in_note nodes k r (note_at nodes (slots.Node k)) refl h

-- ---- a node whose flag is set

abbrev pub last_one : List ℕ → List ℕ
last_one bytes = slice_set bytes (length bytes - 1) 1

abbrev pub noted : Part → List ℕ → Part
noted p bytes = record p { note = items.Bytes bytes ∷ [] }

pub record IsSet (nodes : List Node) (k : ℕ) (r : LiveRef) (o : OwnRef nodes k r) : Type 0 where
  pub place : ℕ
  pub stands : slice_get o.parts place ≡ Some o.part
  pub found : place_within nodes (codes "java.rmi.server.RemoteObject") (length o.parts) (slots.Node o.class) ≡ Some place
  pub at : flag_at nodes k ≡ Some (record { node = k; part = place; item = 0; offset = length o.bytes - 1 })
  pub done : object_to place 0 (length o.bytes - 1) 1 (slice_get nodes k) ≡ Some (Object o.class (slice_set o.parts place (noted o.part (last_one o.bytes))))

end_is : (nodes : List Node) (k place : ℕ) (bytes : List ℕ) → place_in nodes (codes "java.rmi.server.RemoteObject") (slice_get nodes k) ≡ Some place → note_at nodes (slots.Node k) ≡ Some bytes
    → note_end nodes k ≡ Some (record { node = k; part = place; item = 0; offset = length bytes - 1 })
unfolding note_end
end_is nodes k place bytes e f = rw (e, f) refl

byte_set : (p : Part) (bytes : List ℕ) → p.note ≡ items.Bytes bytes ∷ [] → 0 < length bytes → note_to 0 (length bytes - 1) 1 (Some p) ≡ Some (noted p (last_one bytes))
byte_set p bytes e lt =
    let x : slice_get bytes (length bytes - 1) ≡ Some (get_or bytes (length bytes - 1) 0) = slice_get-get_or bytes (length bytes - 1) 0 (omega arith) in
    rw (e, x) refl

pub is_set : (nodes : List Node) (k : ℕ) (r : LiveRef) (e : stub_ref_at nodes (slots.Node k) ≡ Some r) (o : OwnRef nodes k r) → IsSet nodes k r o
is_set nodes k r e o =
    let w = held_placed nodes (codes "java.rmi.server.RemoteObject") o.parts (length o.parts) o.desc o.part (slots.Node o.class) o.held in
    let place : place_in nodes (codes "java.rmi.server.RemoteObject") (slice_get nodes k) ≡ Some w.0 = rw o.is w.1 in
    let note : note_at nodes (slots.Node k) ≡ Some o.bytes = rw (o.is, o.held, o.note) refl in
    let set = byte_set o.part o.bytes o.note (not_empty o.bytes r o.read) in
    record {
      place = w.0;
      stands = w.2;
      found = w.1;
      at = rw e (end_is nodes k w.0 o.bytes place note);
      done = rw (o.is, w.2, set) refl;
    }

-- ---- all flags

-- What became of a node: its own reference's flag was set, or it has none and is as it was.
pub data FlaggedAt (nodes new : List Node) (j : ℕ) : Type 0 where
  kept : stub_ref_at nodes (slots.Node j) ≡ None → slice_get new j ≡ slice_get nodes j → FlaggedAt nodes new j
  flagged : (r : LiveRef) (o : OwnRef nodes j r) (place : ℕ) → stub_ref_at nodes (slots.Node j) ≡ Some r → slice_get o.parts place ≡ Some o.part
      → place_within nodes (codes "java.rmi.server.RemoteObject") (length o.parts) (slots.Node o.class) ≡ Some place → slice_get new j ≡ Some (Object o.class (slice_set o.parts place (noted o.part (last_one o.bytes)))) → FlaggedAt nodes new j

record SetUpTo (nodes : List Node) (n : ℕ) : Type 0 where
  pub new : List Node
  pub done : set_flags nodes (flags_below nodes n) ≡ Some new
  pub later : (j : ℕ) → n ≤ j → slice_get new j ≡ slice_get nodes j
  pub before : (j : ℕ) → j < n → FlaggedAt nodes new j

still : (nodes new more : List Node) (j : ℕ) → slice_get more j ≡ slice_get new j → FlaggedAt nodes new j → FlaggedAt nodes more j
still nodes new more j e (kept none same) = kept none (e ∙ same)
still nodes new more j e (flagged r o place is stands found same) = flagged r o place is stands found (e ∙ same)

last_or_before : (j n : ℕ) → j < suc n → (j ≡ n) ⊎ (j < n)
last_or_before zero zero lt = inl refl
last_or_before zero (suc n) lt = inr (omega arith)
last_or_before (suc j) zero lt = absurd (omega arith)
last_or_before (suc j) (suc n) lt = up (last_or_before j n (omega arith))
  where
    up : (j ≡ n) ⊎ (j < n) → (suc j ≡ suc n) ⊎ (suc j < suc n)
    up (inl e) = inl (ap suc e)
    up (inr l) = inr (omega arith)

set_next : (nodes new : List Node) (at : NotePlace) (ats ys : List NotePlace) (o : Option (List Node)) → with_note_byte nodes at 1 ≡ o → ((mid : List Node) → set_flags mid ats ≡ Some new → set_flags mid (ats ++ ys) ≡ set_flags new ys)
    → (o >>= λ changed. set_flags changed ats) ≡ Some new → (o >>= λ changed. set_flags changed (ats ++ ys)) ≡ set_flags new ys
set_next nodes new at ats ys None e f h = absurd cc
set_next nodes new at ats ys (Some mid) e f h = f mid h

some_nodes : (a b : List Node) → Some a ≡ Some b → a ≡ b
some_nodes a b e = ap (λ (o : Option (List Node)). unwrap_or o a) e

set_join : (nodes new : List Node) (xs ys : List NotePlace) → set_flags nodes xs ≡ Some new → set_flags nodes (xs ++ ys) ≡ set_flags new ys
unfolding set_flags
set_join nodes new [] ys h = ap (λ (l : List Node). set_flags l ys) (some_nodes nodes new h)
set_join nodes new (at ∷ ats) ys h = set_next nodes new at ats ys (with_note_byte nodes at 1) refl (λ mid g. set_join mid new ats ys g) h

within : (nodes : List Node) (n c : ℕ) (ps : List Part) → slice_get nodes n ≡ Some (Object c ps) → n < length nodes
within nodes n c ps e = slice_get_within nodes n (Object c ps) e

next : (nodes : List Node) (n : ℕ) (u : SetUpTo nodes n) (o : Option LiveRef) → stub_ref_at nodes (slots.Node n) ≡ o → SetUpTo nodes (suc n)
unfolding flags_below set_flags
next nodes n u None e =
    let none : flag_at nodes n ≡ None = rw e refl in
    let same : flags_below nodes n ++ as_places (flag_at nodes n) ≡ flags_below nodes n = rw none (append-nil (flags_below nodes n)) in
    record { new = u.new; done = ap (λ (l : List NotePlace). set_flags nodes l) same ∙ u.done; later = λ j le. u.later j (omega arith); before = λ j lt. kept_more j (last_or_before j n lt) }
  where
    kept_more : (j : ℕ) → (j ≡ n) ⊎ (j < n) → FlaggedAt nodes u.new j
    kept_more j (inl same) = subst (λ (k : ℕ). FlaggedAt nodes u.new k) (sym same) (kept e (u.later n (omega arith)))
    kept_more j (inr lt) = u.before j lt
next nodes n u (Some r) e =
    let o = own_ref nodes n r e in
    let s = is_set nodes n r e o in
    let at : NotePlace = record { node = n; part = s.place; item = 0; offset = length o.bytes - 1 } in
    let j = Object o.class (slice_set o.parts s.place (noted o.part (last_one o.bytes))) in
    let here : slice_get u.new n ≡ slice_get nodes n = u.later n (omega arith) in
    let changed : object_to s.place 0 (length o.bytes - 1) 1 (slice_get u.new n) ≡ Some j = rw here s.done in
    let written : with_note_byte u.new at 1 ≡ Some (slice_set u.new n j) = rw changed refl in
    let more : flags_below nodes n ++ as_places (flag_at nodes n) ≡ flags_below nodes n ++ at ∷ [] = rw (s.at) refl in
    record {
      new = slice_set u.new n j;
      done = ap (λ (l : List NotePlace). set_flags nodes l) more ∙ (set_join nodes u.new (flags_below nodes n) (at ∷ []) u.done ∙ rw written refl);
      later = λ i le. slice_get-set_other u.new n i j (omega arith) ∙ u.later i (omega arith);
      before = λ i lt. elim (last_or_before i n lt) [
        | inl same ↦ subst (λ (k : ℕ). FlaggedAt nodes (slice_set u.new n j) k) (sym same) (flagged r o s.place e s.stands s.found (set_here u.new n j (within u.new n o.class o.parts (here ∙ o.is))))
        | inr less ↦ still nodes u.new (slice_set u.new n j) i (slice_get-set_other u.new n i j (omega arith)) (u.before i less)
      ];
    }

up_to : (nodes : List Node) (n : ℕ) → SetUpTo nodes n
unfolding flags_below set_flags
up_to nodes zero = record { new = nodes; done = refl; later = λ j le. refl; before = λ j lt. absurd (omega arith) }
up_to nodes (suc n) = next nodes n (up_to nodes n) (stub_ref_at nodes (slots.Node n)) refl

-- Each flag can be set.
pub all_set : (nodes : List Node) → (new : List Node) × (set_flags nodes (flags_in nodes) ≡ Some new)
all_set nodes = let u = up_to nodes (length nodes) in (u.new, u.done)

past_end : (xs : List Node) (j : ℕ) → length xs ≤ j → slice_get xs j ≡ None
past_end xs j le = slice_get_past xs j le

below_or_not : (j n : ℕ) → (j < n) ⊎ (n ≤ j)
below_or_not j zero = inr (omega arith)
below_or_not zero (suc n) = inl (omega arith)
below_or_not (suc j) (suc n) = up (below_or_not j n)
  where
    up : (j < n) ⊎ (n ≤ j) → (suc j < suc n) ⊎ (suc n ≤ suc j)
    up (inl l) = inl (omega arith)
    up (inr l) = inr (omega arith)

-- What became of each node.
pub all_flagged : (nodes new : List Node) → set_flags nodes (flags_in nodes) ≡ Some new → (j : ℕ) → FlaggedAt nodes new j
all_flagged nodes new e j =
    let u = up_to nodes (length nodes) in
    let two : Some u.new ≡ Some new = sym u.done ∙ e in
    let same : u.new ≡ new = some_nodes u.new new two in
    subst (λ (l : List Node). FlaggedAt nodes l j) same (elim (below_or_not j (length nodes)) [
      | inl lt ↦ u.before j lt
      | inr le ↦ let none : slice_get nodes j ≡ None = past_end nodes j le in kept (rw none refl) (u.later j le)
    ])
