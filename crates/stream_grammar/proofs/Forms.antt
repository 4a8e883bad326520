-- The same bytes spell only the same node.
use Rattle.std.proofs.Common.{◌≡◌, ◌&&◌, ◌||◌, ℕ, zero, suc, ◌<◌, ◌^◌, ◌⊎◌, ℤ, Bool, true, false, eqb, ltb, List, [], ◌∷◌, ◌++◌, map, length, Some, Option, slice_get, refl, sym, ap, subst, ◌∙◌, arith, inl, inr}
use Rattle.std.proofs.lemmas.Bool.{ltb-true, and_parts}
use Rattle.std.specs.Int.{w16, w32, w64, cast_unsigned}
use Rattle.mod_utf.specs.Utf.{utf}
use Rattle.class_desc.specs.declared.slot.Slot.{Slot}
use Rattle.class_desc.specs.declared.slot.Slot.TheVariants as slots
use Rattle.class_desc.specs.declared.slot.Item.{Item}
use Rattle.class_desc.specs.declared.field.FieldDesc.{FieldDesc}
use Rattle.class_desc.specs.declared.desc.ClassDesc.{ClassDesc}
use Rattle.class_desc.specs.declared.desc.ProxyDesc.{ProxyDesc}
use Rattle.class_desc.specs.TypeText.{element_of}
use Rattle.class_desc.specs.ClassDesc.{has_flag, is_good_desc}
use Rattle.ser_values.specs.declared.value.Values.{Values}
use Rattle.ser_values.specs.declared.value.Part.{Part}
use Rattle.ser_values.specs.declared.node.Node.{Node}
use Rattle.ser_values.specs.declared.node.Node.TheVariants.{Text, Desc, Proxy, Object, Array, Class, Enum}
use Rattle.ser_values.specs.declared.node.SlotPlace.TheVariants as places
use Rattle.ser_values.specs.Node.{is_desc}
use Rattle.ser_values.specs.Shape.{is_short, are_short, is_joined, are_typed, fits_chain, fit_elements, count_of, fits_array, is_shaped}
use Rattle.stream_grammar.specs.Spelled.{Token, raw, want, note, number, short_text, long_text, field_tokens, element_tokens, writers, part_tokens, Form, a_text, a_long_text, a_desc, a_proxy, an_object, an_external, an_array, a_class, an_enum}
use Rattle.ser_values.specs.Ranges.{NodeFits}
use Rattle.stream_grammar.proofs.Varieties.{elements_of}
use Rattle.stream_grammar.proofs.Leading.{SameAbove, SameChain, SameUp, Leads, byte_lead, lead_16, lead_32, lead_i64, text_lead, long_lead, names_lead}
use Rattle.stream_grammar.proofs.Parted.{fields_lead, elements_lead, part_same}
use Rattle.stream_grammar.proofs.Chains.{objects_lead, not_both, chained_flag}

-- ---- the row of a code

abbrev When : Bool → Type 0 → Type 0 → Type 0
When true P Q = P
When false P Q = Q

record ATwo (bs ls cs ds : List Token) : Type 0 where
  befores : bs ≡ cs
  afters : ls ≡ ds

abbrev ObjectForm : List Node → Node → List Token → List Token → Type 0
ObjectForm nodes i bs ls = (c : ℕ) × (ps : List Part) × (i ≡ Object c ps) × (bs ≡ want (places.Class, slots.Node c) ∷ [])
    × (((fits_chain nodes ps (length ps) (slots.Node c) ≡ true) × (ls ≡ part_tokens (writers nodes (length ps) (slots.Node c)) ps))
    ⊎ ((p : Part) × (d : ClassDesc) × (slice_get nodes c ≡ Some (Desc d)) × (has_flag d.flags 4 ≡ true) × (p.values ≡ []) × (ps ≡ p ∷ []) × (ls ≡ note p.note ∷ [])))

abbrev pub desc_tokens : ClassDesc → List Token
desc_tokens d = raw (d.flags ∷ []) ∷ number w16 (length d.fields) ∷ (field_tokens d.fields ++ (note d.note ∷ want (places.Parent, d.parent) ∷ []))

abbrev pub proxy_tokens : ProxyDesc → List Token
proxy_tokens p = number w32 (length p.names) ∷ (map short_text p.names ++ (note p.note ∷ want (places.Parent, p.parent) ∷ []))

-- what a form of the code is
abbrev FormAt : List Node → Node → ℕ → List Token → List Token → Type 0
FormAt nodes i code bs ls =
    When (eqb code 0x74) ((t : List ℕ) × (i ≡ Text t) × (length (utf t) < 2 ^ 16) × ATwo bs ls [] (short_text t ∷ []))
    (When (eqb code 0x7C) ((t : List ℕ) × (i ≡ Text t) × (length (utf t) < 2 ^ 63) × ATwo bs ls [] (long_text t ∷ []))
    (When (eqb code 0x72) ((d : ClassDesc) × (i ≡ Desc d) × ATwo bs ls (short_text d.name ∷ number w64 (cast_unsigned w64 d.suid) ∷ []) (desc_tokens d))
    (When (eqb code 0x7D) ((p : ProxyDesc) × (i ≡ Proxy p) × ATwo bs ls [] (proxy_tokens p))
    (When (eqb code 0x73) (ObjectForm nodes i bs ls)
    (When (eqb code 0x75) ((c : ℕ) × (vs : Values) × (i ≡ Array c vs) × ATwo bs ls (want (places.Class, slots.Node c) ∷ []) (number w32 (count_of vs) ∷ element_tokens vs))
    (When (eqb code 0x76) ((c : ℕ) × (i ≡ Class c) × ATwo bs ls (want (places.Class, slots.Node c) ∷ []) [])
    (When (eqb code 0x7E) ((c : ℕ) × (t : ℕ) × (i ≡ Enum c t) × ATwo bs ls (want (places.Class, slots.Node c) ∷ []) (want (places.Text, slots.Node t) ∷ []))
    ⊥)))))))

form_at : (nodes : List Node) (i : Node) (code : ℕ) (bs ls : List Token) → Form nodes i code bs ls → FormAt nodes i code bs ls
form_at nodes _ _ _ _ (a_text t f) = (t, refl, f, record { befores = refl; afters = refl })
form_at nodes _ _ _ _ (a_long_text t f) = (t, refl, f, record { befores = refl; afters = refl })
form_at nodes _ _ _ _ (a_desc d) = (d, refl, record { befores = refl; afters = refl })
form_at nodes _ _ _ _ (a_proxy p) = (p, refl, record { befores = refl; afters = refl })
form_at nodes _ _ _ _ (an_object c ps chained) = (c, ps, refl, refl, inl (chained, refl))
form_at nodes _ _ _ _ (an_external c p d is external none) = (c, p ∷ [], refl, refl, inr (p, d, is, external, none, refl, refl))
form_at nodes _ _ _ _ (an_array c vs) = (c, vs, refl, record { befores = refl; afters = refl })
form_at nodes _ _ _ _ (a_class c) = (c, refl, record { befores = refl; afters = refl })
form_at nodes _ _ _ _ (an_enum c t) = (c, t, refl, record { befores = refl; afters = refl })

-- the code is none of those of null, handles, blocks and an annotation's end, and tells descriptions
pub record IsCodeOf (i : Node) (code : ℕ) : Type 0 where
  pub not_null : eqb code 0x70 ≡ false
  pub not_handle : eqb code 0x71 ≡ false
  pub not_block : eqb code 0x77 ≡ false
  pub not_long_block : eqb code 0x7A ≡ false
  pub not_end : eqb code 0x78 ≡ false
  pub tells : is_desc i ≡ (eqb code 0x72 || eqb code 0x7D)

pub code_of : (nodes : List Node) (i : Node) (code : ℕ) (bs ls : List Token) → Form nodes i code bs ls → IsCodeOf i code
unfolding is_desc
code_of nodes _ _ _ _ (a_text t f) = record { not_null = refl; not_handle = refl; not_block = refl; not_long_block = refl; not_end = refl; tells = refl }
code_of nodes _ _ _ _ (a_long_text t f) = record { not_null = refl; not_handle = refl; not_block = refl; not_long_block = refl; not_end = refl; tells = refl }
code_of nodes _ _ _ _ (a_desc d) = record { not_null = refl; not_handle = refl; not_block = refl; not_long_block = refl; not_end = refl; tells = refl }
code_of nodes _ _ _ _ (a_proxy p) = record { not_null = refl; not_handle = refl; not_block = refl; not_long_block = refl; not_end = refl; tells = refl }
code_of nodes _ _ _ _ (an_object c ps chained) = record { not_null = refl; not_handle = refl; not_block = refl; not_long_block = refl; not_end = refl; tells = refl }
code_of nodes _ _ _ _ (an_external c p d is external none) = record { not_null = refl; not_handle = refl; not_block = refl; not_long_block = refl; not_end = refl; tells = refl }
code_of nodes _ _ _ _ (an_array c vs) = record { not_null = refl; not_handle = refl; not_block = refl; not_long_block = refl; not_end = refl; tells = refl }
code_of nodes _ _ _ _ (a_class c) = record { not_null = refl; not_handle = refl; not_block = refl; not_long_block = refl; not_end = refl; tells = refl }
code_of nodes _ _ _ _ (an_enum c t) = record { not_null = refl; not_handle = refl; not_block = refl; not_long_block = refl; not_end = refl; tells = refl }

-- ---- one kind of node each

-- the nodes are the same, and so is what stands above a description
pub record Whole (A B : List Node) (i j : Node) : Type 0 where
  pub same : i ≡ j
  pub above : (n : ℕ) → SameAbove (SameChain A B n) (Some i)

abbrev pub LeadsTo : List Node → List Node → Node → Node → List Token → List Token → List Token → List Token → Type 0
LeadsTo A B i j bs cs ls ds = Leads A B bs cs (Leads A B ls ds (Whole A B i j))

text_leads : (A B : List Node) (t u : List ℕ) → length (utf t) < 2 ^ 16 → length (utf u) < 2 ^ 16 → LeadsTo A B (Text t) (Text u) [] [] (short_text t ∷ []) (short_text u ∷ [])
text_leads A B t u f g = text_lead A B t u [] [] (Whole A B (Text t) (Text u)) f g (λ e. record { same = ap Text e; above = λ n. tt })

long_leads : (A B : List Node) (t u : List ℕ) → length (utf t) < 2 ^ 63 → length (utf u) < 2 ^ 63 → LeadsTo A B (Text t) (Text u) [] [] (long_text t ∷ []) (long_text u ∷ [])
long_leads A B t u f g = long_lead A B t u [] [] (Whole A B (Text t) (Text u)) (omega arith) (omega arith) (λ e. record { same = ap Text e; above = λ n. tt })

abbrev desc : List ℕ → ℤ → ℕ → List FieldDesc → List Item → Slot → ClassDesc
desc n s f fs is p = record { name = n; suid = s; flags = f; fields = fs; note = is; parent = p }

desc_same : (d e : ClassDesc) → d.name ≡ e.name → d.suid ≡ e.suid → d.flags ≡ e.flags → d.fields ≡ e.fields → d.note ≡ e.note → d.parent ≡ e.parent → d ≡ e
desc_same d e n s f fs is p =
    ap (λ x. desc x d.suid d.flags d.fields d.note d.parent) n ∙ (ap (λ x. desc e.name x d.flags d.fields d.note d.parent) s ∙ (ap (λ x. desc e.name e.suid x d.fields d.note d.parent) f
    ∙ (ap (λ x. desc e.name e.suid e.flags x d.note d.parent) fs ∙ (ap (λ x. desc e.name e.suid e.flags e.fields x d.parent) is ∙ ap (λ x. desc e.name e.suid e.flags e.fields e.note x) p))))

desc_leads : (A B : List Node) (d e : ClassDesc) → is_shaped A (Desc d) ≡ true → is_shaped B (Desc e) ≡ true → NodeFits (Desc d) → NodeFits (Desc e)
    → LeadsTo A B (Desc d) (Desc e) (short_text d.name ∷ number w64 (cast_unsigned w64 d.suid) ∷ []) (short_text e.name ∷ number w64 (cast_unsigned w64 e.suid) ∷ []) (desc_tokens d) (desc_tokens e)
unfolding is_shaped
desc_leads A B d e p q f g =
    let W = Whole A B (Desc d) (Desc e) in
    let G = Leads A B (desc_tokens d) (desc_tokens e) W in
    let p1 = and_parts (is_short d.name && ltb (length d.fields) 32768) (is_good_desc d && (are_typed A d.fields && is_joined d.note)) p in
    let q1 = and_parts (is_short e.name && ltb (length e.fields) 32768) (is_good_desc e && (are_typed B e.fields && is_joined e.note)) q in
    let p2 = and_parts (is_short d.name) (ltb (length d.fields) 32768) p1.0 in
    let q2 = and_parts (is_short e.name) (ltb (length e.fields) 32768) q1.0 in
    let p3 = and_parts (is_good_desc d) (are_typed A d.fields && is_joined d.note) p1.1 in
    let q3 = and_parts (is_good_desc e) (are_typed B e.fields && is_joined e.note) q1.1 in
    let few : length d.fields < 32768 = ltb-true _ _ p2.1 in
    let few2 : length e.fields < 32768 = ltb-true _ _ q2.1 in
    let dn = note d.note ∷ want (places.Parent, d.parent) ∷ [] in
    let en = note e.note ∷ want (places.Parent, e.parent) ∷ [] in
    text_lead A B d.name e.name (number w64 (cast_unsigned w64 d.suid) ∷ []) (number w64 (cast_unsigned w64 e.suid) ∷ []) G (ltb-true _ _ p2.0) (ltb-true _ _ q2.0) (λ name.
    lead_i64 A B d.suid e.suid [] [] G f.0 g.0 (λ suid.
    byte_lead A B d.flags e.flags (number w16 (length d.fields) ∷ (field_tokens d.fields ++ dn)) (number w16 (length e.fields) ∷ (field_tokens e.fields ++ en)) W (λ flags.
    lead_16 A B (length d.fields) (length e.fields) (field_tokens d.fields ++ dn) (field_tokens e.fields ++ en) W (omega arith) (omega arith) (λ len.
    fields_lead A B d.fields e.fields len (and_parts (are_typed A d.fields) (is_joined d.note) p3.1).0 (and_parts (are_typed B e.fields) (is_joined e.note) q3.1).0 dn en W (λ fields notes.
    (refl, λ parent up. record { same = ap Desc (desc_same d e name suid flags fields notes parent); above = λ n. (p3.0, up n) }))))))

abbrev proxy : List (List ℕ) → List Item → Slot → ProxyDesc
proxy ns is p = record { names = ns; note = is; parent = p }

proxy_same : (p q : ProxyDesc) → p.names ≡ q.names → p.note ≡ q.note → p.parent ≡ q.parent → p ≡ q
proxy_same p q n is s = ap (λ x. proxy x p.note p.parent) n ∙ (ap (λ x. proxy q.names x p.parent) is ∙ ap (λ x. proxy q.names q.note x) s)

proxy_leads : (A B : List Node) (p q : ProxyDesc) → is_shaped A (Proxy p) ≡ true → is_shaped B (Proxy q) ≡ true → LeadsTo A B (Proxy p) (Proxy q) [] [] (proxy_tokens p) (proxy_tokens q)
unfolding is_shaped
proxy_leads A B p q a b =
    let W = Whole A B (Proxy p) (Proxy q) in
    let a1 = and_parts (ltb (length p.names) (2 ^ 31) && are_short p.names) (is_joined p.note) a in
    let b1 = and_parts (ltb (length q.names) (2 ^ 31) && are_short q.names) (is_joined q.note) b in
    let a2 = and_parts (ltb (length p.names) (2 ^ 31)) (are_short p.names) a1.0 in
    let b2 = and_parts (ltb (length q.names) (2 ^ 31)) (are_short q.names) b1.0 in
    let few : length p.names < 2 ^ 31 = ltb-true _ _ a2.0 in
    let few2 : length q.names < 2 ^ 31 = ltb-true _ _ b2.0 in
    let pn = note p.note ∷ want (places.Parent, p.parent) ∷ [] in
    let qn = note q.note ∷ want (places.Parent, q.parent) ∷ [] in
    lead_32 A B (length p.names) (length q.names) (map short_text p.names ++ pn) (map short_text q.names ++ qn) W (omega arith) (omega arith) (λ len.
    names_lead A B p.names q.names len a2.1 b2.1 pn qn W (λ names notes.
    (refl, λ parent up. record { same = ap Proxy (proxy_same p q names notes parent); above = λ n. up n })))

-- what stands before the handle: the class
class_lead : (A B : List Node) (c e : ℕ) (G : Type 0) → (c ≡ e → SameUp A B (slots.Node c) → G) → Leads A B (want (places.Class, slots.Node c) ∷ []) (want (places.Class, slots.Node e) ∷ []) G
class_lead A B c e G k = (refl, λ same up. (let one : c ≡ e = cc in k one up))

array_fits : (i : Option Node) (vs : Values) → fits_array i vs ≡ true → (d : ClassDesc) × (i ≡ Some (Desc d)) × (fit_elements vs (element_of d.name) ≡ true) × (count_of vs < 2 ^ 31)
array_fits (Some (Desc d)) vs h = let p = and_parts (fit_elements vs (element_of d.name)) (ltb (count_of vs) (2 ^ 31)) h in (d, refl, p.0, ltb-true _ _ p.1)
array_fits _ vs h = absurd cc

array_leads : (A B : List Node) (c e : ℕ) (v w : Values) → is_shaped A (Array c v) ≡ true → is_shaped B (Array e w) ≡ true → NodeFits (Array c v) → NodeFits (Array e w)
    → LeadsTo A B (Array c v) (Array e w) (want (places.Class, slots.Node c) ∷ []) (want (places.Class, slots.Node e) ∷ []) (number w32 (count_of v) ∷ element_tokens v) (number w32 (count_of w) ∷ element_tokens w)
unfolding is_shaped
array_leads A B c e v w p q f g =
    let W = Whole A B (Array c v) (Array e w) in
    let G = Leads A B (number w32 (count_of v) ∷ element_tokens v) (number w32 (count_of w) ∷ element_tokens w) W in
    class_lead A B c e G (λ class up.
    let a = array_fits (slice_get A c) v p in
    let b = array_fits (slice_get B e) w q in
    let one : Some (Desc a.0) ≡ Some (Desc b.0) = sym a.1 ∙ ((up (suc zero)).0 ∙ (ap (slice_get B) class ∙ b.1)) in
    let d : b.0 ≡ a.0 = cc in
    let fits : fit_elements w (element_of a.0.name) ≡ true = subst (λ (x : ClassDesc). fit_elements w (element_of x.name) ≡ true) d b.2 in
    let few : count_of v < 2 ^ 31 = a.3 in
    let few2 : count_of w < 2 ^ 31 = b.3 in
    lead_32 A B (count_of v) (count_of w) (element_tokens v) (element_tokens w) W (omega arith) (omega arith) (λ len.
    elements_lead A B (element_of a.0.name) v w (elements_of v (element_of a.0.name) a.2) (elements_of w (element_of a.0.name) fits) len f g W (λ elements.
    record { same = cc; above = λ n. tt })))

mixed : (A B : List Node) (c e : ℕ) (ps : List Part) (d : ClassDesc) → c ≡ e → SameUp A B (slots.Node c) → fits_chain A ps (length ps) (slots.Node c) ≡ true → slice_get B e ≡ Some (Desc d) → has_flag d.flags 4 ≡ true → ⊥
mixed A B c e ps d class up chained is four =
    let one = up (suc zero) in
    let here : slice_get A c ≡ Some (Desc d) = one.0 ∙ (ap (slice_get B) class ∙ is) in
    let good : SameAbove (SameChain A B zero) (Some (Desc d)) = subst (λ (i : Option Node). SameAbove (SameChain A B zero) i) here one.1 in
    not_both d good.0 (chained_flag A ps c d here chained) four

mixed_back : (A B : List Node) (c e : ℕ) (qs : List Part) (d : ClassDesc) → c ≡ e → SameUp A B (slots.Node c) → fits_chain B qs (length qs) (slots.Node e) ≡ true → slice_get A c ≡ Some (Desc d) → has_flag d.flags 4 ≡ true → ⊥
mixed_back A B c e qs d class up chained is four =
    let one = up (suc zero) in
    let here : slice_get B e ≡ Some (Desc d) = sym (ap (slice_get B) class) ∙ (sym one.0 ∙ is) in
    let good : SameAbove (SameChain A B zero) (Some (Desc d)) = subst (λ (i : Option Node). SameAbove (SameChain A B zero) i) is one.1 in
    not_both d good.0 (chained_flag B qs e d here chained) four

object_leads : (A B : List Node) (i j : Node) (bs cs ls ds : List Token) → ObjectForm A i bs ls → ObjectForm B j cs ds → NodeFits i → NodeFits j → LeadsTo A B i j bs cs ls ds
object_leads A B i j bs cs ls ds (c, ps, ei, eb, inl (chained, ea)) (e, qs, ej, ec, inl (chained2, ed)) f g =
    rw (ei, ej, eb, ec, ea, ed) (class_lead A B c e _ (λ class up.
    let fits : fits_chain B qs (length qs) (slots.Node c) ≡ true = subst (λ x. fits_chain B qs (length qs) (slots.Node x) ≡ true) (sym class) chained2 in
    let r : Leads A B (part_tokens (writers A (length ps) (slots.Node c)) ps) (part_tokens (writers B (length qs) (slots.Node c)) qs) (Whole A B (Object c ps) (Object e qs)) =
    objects_lead A B (slots.Node c) ps qs up chained fits (rw ei at f) (rw ej at g) (Whole A B (Object c ps) (Object e qs)) (λ parts. record { same = cc; above = λ n. tt }) in
    subst (λ x. Leads A B (part_tokens (writers A (length ps) (slots.Node c)) ps) (part_tokens (writers B (length qs) (slots.Node x)) qs) (Whole A B (Object c ps) (Object e qs))) class r))
object_leads A B i j bs cs ls ds (c, ps, ei, eb, inl (chained, ea)) (e, qs, ej, ec, inr (q, d, is, four, none, one, ed)) f g =
    rw (ei, ej, eb, ec, ea, ed) (class_lead A B c e _ (λ class up. absurd (mixed A B c e ps d class up chained is four)))
object_leads A B i j bs cs ls ds (c, ps, ei, eb, inr (p, d, is, four, none, one, ea)) (e, qs, ej, ec, inl (chained, ed)) f g =
    rw (ei, ej, eb, ec, ea, ed) (class_lead A B c e _ (λ class up. absurd (mixed_back A B c e qs d class up chained is four)))
object_leads A B i j bs cs ls ds (c, ps, ei, eb, inr (p, d, is, four, none, one, ea)) (e, qs, ej, ec, inr (q, d2, is2, four2, none2, one2, ed)) f g =
    rw (ei, ej, eb, ec, ea, ed, one, one2) (class_lead A B c e _ (λ class up notes. (let parts = part_same p q (none ∙ sym none2) notes in record { same = cc; above = λ n. tt })))

-- ---- any kind of node

-- the other node's form is known
moved : (A B : List Node) (i j k : Node) (bs cs es ls ds gs : List Token) → j ≡ k → ATwo cs ds es gs → LeadsTo A B i k bs es ls gs → LeadsTo A B i j bs cs ls ds
moved A B i j k bs cs es ls ds gs e t h = rw (e, t.befores, t.afters) h

abbrev shaped_as : (B : List Node) (j k : Node) → j ≡ k → is_shaped B j ≡ true → is_shaped B k ≡ true
shaped_as B j k e q = subst (λ (x : Node). is_shaped B x ≡ true) e q

abbrev fits_as : (j k : Node) → j ≡ k → NodeFits j → NodeFits k
fits_as j k e y = subst (λ (x : Node). NodeFits x) e y

pub forms_lead : (A B : List Node) (i j : Node) (code : ℕ) (bs cs ls ds : List Token) → Form A i code bs ls → Form B j code cs ds → is_shaped A i ≡ true → is_shaped B j ≡ true → NodeFits i → NodeFits j → LeadsTo A B i j bs cs ls ds
forms_lead A B _ j _ bs cs ls ds (a_text t f) fb p q x y = let v = form_at B j 0x74 cs ds fb in moved A B (Text t) j (Text v.0) bs cs [] ls ds (short_text v.0 ∷ []) v.1 v.3 (text_leads A B t v.0 f v.2)
forms_lead A B _ j _ bs cs ls ds (a_long_text t f) fb p q x y = let v = form_at B j 0x7C cs ds fb in moved A B (Text t) j (Text v.0) bs cs [] ls ds (long_text v.0 ∷ []) v.1 v.3 (long_leads A B t v.0 f v.2)
forms_lead A B _ j _ bs cs ls ds (a_desc d) fb p q x y =
    let v = form_at B j 0x72 cs ds fb in
    moved A B (Desc d) j (Desc v.0) bs cs (short_text v.0.name ∷ number w64 (cast_unsigned w64 v.0.suid) ∷ []) ls ds (desc_tokens v.0) v.1 v.2 (desc_leads A B d v.0 p (shaped_as B j (Desc v.0) v.1 q) x (fits_as j (Desc v.0) v.1 y))
forms_lead A B _ j _ bs cs ls ds (a_proxy d) fb p q x y = let v = form_at B j 0x7D cs ds fb in moved A B (Proxy d) j (Proxy v.0) bs cs [] ls ds (proxy_tokens v.0) v.1 v.2 (proxy_leads A B d v.0 p (shaped_as B j (Proxy v.0) v.1 q))
forms_lead A B i j _ bs cs ls ds (an_object c ps chained) fb p q x y = object_leads A B i j bs cs ls ds (form_at A i 0x73 bs ls (an_object c ps chained)) (form_at B j 0x73 cs ds fb) x y
forms_lead A B i j _ bs cs ls ds (an_external c part d is external none) fb p q x y = object_leads A B i j bs cs ls ds (form_at A i 0x73 bs ls (an_external c part d is external none)) (form_at B j 0x73 cs ds fb) x y
forms_lead A B _ j _ bs cs ls ds (an_array c vs) fb p q x y =
    let v = form_at B j 0x75 cs ds fb in
    moved A B (Array c vs) j (Array v.0 v.1) bs cs (want (places.Class, slots.Node v.0) ∷ []) ls ds (number w32 (count_of v.1) ∷ element_tokens v.1) v.2 v.3 (array_leads A B c v.0 vs v.1 p (shaped_as B j (Array v.0 v.1) v.2 q) x (fits_as j (Array v.0 v.1) v.2 y))
forms_lead A B _ j _ bs cs ls ds (a_class c) fb p q x y =
    let v = form_at B j 0x76 cs ds fb in
    moved A B (Class c) j (Class v.0) bs cs (want (places.Class, slots.Node v.0) ∷ []) ls ds [] v.1 v.2 (class_lead A B c v.0 (Whole A B (Class c) (Class v.0)) (λ class up. record { same = ap Class class; above = λ n. tt }))
forms_lead A B _ j _ bs cs ls ds (an_enum c t) fb p q x y =
    let v = form_at B j 0x7E cs ds fb in
    let W = Whole A B (Enum c t) (Enum v.0 v.1) in
    moved A B (Enum c t) j (Enum v.0 v.1) bs cs (want (places.Class, slots.Node v.0) ∷ []) ls ds (want (places.Text, slots.Node v.1) ∷ []) v.2 v.3
    (class_lead A B c v.0 (Leads A B (want (places.Text, slots.Node t) ∷ []) (want (places.Text, slots.Node v.1) ∷ []) W) (λ class up. (refl, λ same chained. record { same = cc; above = λ n. tt })))
