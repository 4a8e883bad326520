-- The same bytes spell only the same fields, values, elements and parts.
use Rattle.std.proofs.Common.{◌≡◌, ◌&&◌, not, ℕ, zero, ◌<◌, ◌^◌, FitsSigned, Bool, true, false, cond, List, [], ◌∷◌, ◌++◌, map, length, All, Some, None, Option, refl, sym, ap, ◌∙◌, arith}
use Rattle.std.proofs.lemmas.Bool.{ltb-true, and_parts}
use Rattle.std.specs.Int.{w16, w32, w64}
use Rattle.class_desc.specs.declared.slot.Slot.{Slot}
use Rattle.class_desc.specs.declared.slot.Slot.TheVariants as slots
use Rattle.class_desc.specs.declared.slot.Item.{Item}
use Rattle.class_desc.specs.declared.field.TypeCode.{TypeCode}
use Rattle.class_desc.specs.declared.field.TypeCode.TheVariants as codes
use Rattle.class_desc.specs.declared.field.FieldDesc.{FieldDesc}
use Rattle.class_desc.specs.TypeCode.{is_primitive, letter}
use Rattle.class_desc.specs.TypeText.{code_of}
use Rattle.class_desc.proofs.TypeTexts.{letter_back}
use Rattle.ser_values.specs.declared.value.Value.{Value}
use Rattle.ser_values.specs.declared.value.Value.TheVariants as values
use Rattle.ser_values.specs.declared.value.Values.{Values}
use Rattle.ser_values.specs.declared.value.Values.TheVariants as kinds
use Rattle.ser_values.specs.declared.value.Part.{Part}
use Rattle.ser_values.specs.declared.node.Node.{Node}
use Rattle.ser_values.specs.declared.node.SlotPlace.TheVariants as places
use Rattle.ser_values.specs.Shape.{is_short, fits_type, are_typed, fits_value, fit_values, count_of}
use Rattle.stream_grammar.specs.Spelled.{Token, raw, truth, want, note, number, short_text, reference, field_tokens, value_token, element_tokens, part_tokens}
use Rattle.ser_values.specs.Ranges.{ValueFits, ElementsFit, PartFits}
use Rattle.stream_grammar.proofs.Varieties.{ValueOf, value_of, ElementsOf}
use Rattle.stream_grammar.proofs.Leading.{Leads, byte_lead, lead_16, lead_32, lead_64, lead_i16, lead_i32, lead_i64, text_lead, whole_lead, all_rest}

-- ---- fields

letter_same : (c d : TypeCode) → letter c ≡ letter d → c ≡ d
letter_same c d e = let s : Some c ≡ Some d = sym (letter_back c) ∙ (ap code_of e ∙ letter_back d) in cc

abbrev field : TypeCode → List ℕ → Slot → FieldDesc
field c n t = record { code = c; name = n; type_text = t }

pub field_same : (f g : FieldDesc) → f.code ≡ g.code → f.name ≡ g.name → f.type_text ≡ g.type_text → f ≡ g
field_same f g a b c = ap (λ x. field x f.name f.type_text) a ∙ (ap (λ x. field g.code x f.type_text) b ∙ ap (λ x. field g.code g.name x) c)

pub null_type : (nodes : List Node) (code : TypeCode) (s : Slot) → fits_type nodes code s ≡ true → is_primitive code ≡ true → s ≡ slots.Null
null_type nodes code slots.Null h p = refl
null_type nodes code (slots.Node k) h p = let a = and_parts (not (is_primitive code)) _ h in let b : not true ≡ true = rw p at a.0 in absurd cc

type_lead : (A B : List Node) (f g : FieldDesc) (fs gs ts us : List Token) (G : Type 0) (b c : Bool) → b ≡ c → is_primitive f.code ≡ b → is_primitive g.code ≡ c → fits_type A f.code f.type_text ≡ true → fits_type B g.code g.type_text ≡ true
    → (f.type_text ≡ g.type_text → Leads A B (fs ++ ts) (gs ++ us) G) → Leads A B (cond b fs (want (places.Text, f.type_text) ∷ fs) ++ ts) (cond c gs (want (places.Text, g.type_text) ∷ gs) ++ us) G
type_lead A B f g fs gs ts us G true true e p q x y k = k (null_type A f.code f.type_text x p ∙ sym (null_type B g.code g.type_text y q))
type_lead A B f g fs gs ts us G false false e p q x y k = (refl, λ same chained. k same)
type_lead A B f g fs gs ts us G true false e p q x y k = absurd cc
type_lead A B f g fs gs ts us G false true e p q x y k = absurd cc

pub fields_lead : (A B : List Node) (fs gs : List FieldDesc) → length fs ≡ length gs → are_typed A fs ≡ true → are_typed B gs ≡ true → (ts us : List Token) (G : Type 0) → (fs ≡ gs → Leads A B ts us G) → Leads A B (field_tokens fs ++ ts) (field_tokens gs ++ us) G
unfolding are_typed
fields_lead A B [] [] len p q ts us G k = k refl
fields_lead A B [] (g ∷ gs) len p q ts us G k = absurd (omega arith)
fields_lead A B (f ∷ fs) [] len p q ts us G k = absurd (omega arith)
fields_lead A B (f ∷ fs) (g ∷ gs) len p q ts us G k =
    let p1 = and_parts (is_short f.name && fits_type A f.code f.type_text) (are_typed A fs) p in
    let q1 = and_parts (is_short g.name && fits_type B g.code g.type_text) (are_typed B gs) q in
    let p2 = and_parts (is_short f.name) (fits_type A f.code f.type_text) p1.0 in
    let q2 = and_parts (is_short g.name) (fits_type B g.code g.type_text) q1.0 in
    let ts1 = cond (is_primitive f.code) (field_tokens fs) (want (places.Text, f.type_text) ∷ field_tokens fs) ++ ts in
    let us1 = cond (is_primitive g.code) (field_tokens gs) (want (places.Text, g.type_text) ∷ field_tokens gs) ++ us in
    byte_lead A B (letter f.code) (letter g.code) (short_text f.name ∷ ts1) (short_text g.name ∷ us1) G (λ e.
    let code : f.code ≡ g.code = letter_same f.code g.code e in
    text_lead A B f.name g.name ts1 us1 G (ltb-true _ _ p2.0) (ltb-true _ _ q2.0) (λ name.
    type_lead A B f g (field_tokens fs) (field_tokens gs) ts us G (is_primitive f.code) (is_primitive g.code) (ap is_primitive code) refl refl p2.1 q2.1 (λ text.
    fields_lead A B fs gs (omega arith) p1.1 q1.1 ts us G (λ others. let first = field_same f g code name text in k cc))))

-- ---- values

value_lead : (A B : List Node) (code : TypeCode) (v w : Value) → ValueOf code v → ValueOf code w → ValueFits v → ValueFits w → (ts us : List Token) (G : Type 0) → (v ≡ w → Leads A B ts us G) → Leads A B (value_token v ∷ ts) (value_token w ∷ us) G
value_lead A B codes.Byte v w a b p q ts us G k = rw (a.1, b.1) (byte_lead A B a.0 b.0 ts us G (λ e. k (a.1 ∙ (ap values.Byte e ∙ sym b.1))))
value_lead A B codes.Char v w a b p q ts us G k = rw (a.1, b.1) (lead_16 A B a.0 b.0 ts us G (rw a.1 at p) (rw b.1 at q) (λ e. k (a.1 ∙ (ap values.Char e ∙ sym b.1))))
value_lead A B codes.Double v w a b p q ts us G k = rw (a.1, b.1) (lead_64 A B a.0 b.0 ts us G (rw a.1 at p) (rw b.1 at q) (λ e. k (a.1 ∙ (ap values.Double e ∙ sym b.1))))
value_lead A B codes.Float v w a b p q ts us G k = rw (a.1, b.1) (lead_32 A B a.0 b.0 ts us G (rw a.1 at p) (rw b.1 at q) (λ e. k (a.1 ∙ (ap values.Float e ∙ sym b.1))))
value_lead A B codes.Int v w a b p q ts us G k = rw (a.1, b.1) (lead_i32 A B a.0 b.0 ts us G (rw a.1 at p) (rw b.1 at q) (λ e. k (a.1 ∙ (ap values.Int e ∙ sym b.1))))
value_lead A B codes.Long v w a b p q ts us G k = rw (a.1, b.1) (lead_i64 A B a.0 b.0 ts us G (rw a.1 at p) (rw b.1 at q) (λ e. k (a.1 ∙ (ap values.Long e ∙ sym b.1))))
value_lead A B codes.Short v w a b p q ts us G k = rw (a.1, b.1) (lead_i16 A B a.0 b.0 ts us G (rw a.1 at p) (rw b.1 at q) (λ e. k (a.1 ∙ (ap values.Short e ∙ sym b.1))))
value_lead A B codes.Boolean v w a b p q ts us G k = rw (a.1, b.1) (λ e. k (a.1 ∙ (ap values.Boolean e ∙ sym b.1)))
value_lead A B codes.Array v w a b p q ts us G k = rw (a.1, b.1) (refl, λ e chained. k (a.1 ∙ (ap values.Ref e ∙ sym b.1)))
value_lead A B codes.Object v w a b p q ts us G k = rw (a.1, b.1) (refl, λ e chained. k (a.1 ∙ (ap values.Ref e ∙ sym b.1)))

values_lead : (A B : List Node) (fs : List FieldDesc) (vs ws : List Value) → fit_values fs vs ≡ true → fit_values fs ws ≡ true → All ValueFits vs → All ValueFits ws → (ts us : List Token) (G : Type 0) → (vs ≡ ws → Leads A B ts us G) → Leads A B (map value_token vs ++ ts) (map value_token ws ++ us) G
unfolding fit_values
values_lead A B [] [] [] a b p q ts us G k = k refl
values_lead A B (f ∷ fs) (v ∷ vs) (w ∷ ws) a b p q ts us G k =
    let a1 = and_parts (fits_value f.code v) (fit_values fs vs) a in
    let b1 = and_parts (fits_value f.code w) (fit_values fs ws) b in
    value_lead A B f.code v w (value_of f.code v a1.0) (value_of f.code w b1.0) (p zero v (omega arith)) (q zero w (omega arith)) (map value_token vs ++ ts) (map value_token ws ++ us) G
    (λ e. values_lead A B fs vs ws a1.1 b1.1 (all_rest ValueFits v vs p) (all_rest ValueFits w ws q) ts us G (λ others. k cc))
values_lead A B _ _ _ a b p q ts us G k = absurd cc

-- ---- elements

pub elements_lead : (A B : List Node) (code : Option TypeCode) (v w : Values) → ElementsOf code v → ElementsOf code w → count_of v ≡ count_of w → ElementsFit v → ElementsFit w → (G : Type 0) → (v ≡ w → G) → Leads A B (element_tokens v) (element_tokens w) G
elements_lead A B None v w a b n p q G k = absurd a
elements_lead A B (Some codes.Byte) v w a b n p q G k = rw (a.1, b.1) (whole_lead A B (λ x. raw (x ∷ [])) (λ x. x < 2 ^ 8) (λ x y ts us G c d g. byte_lead A B x y ts us G g) a.0 b.0 (rw (a.1, b.1) at n) (rw a.1 at p) (rw b.1 at q) G (λ e. k (a.1 ∙ (ap kinds.Bytes e ∙ sym b.1))))
elements_lead A B (Some codes.Char) v w a b n p q G k = rw (a.1, b.1) (whole_lead A B (λ x. number w16 x) (λ x. x < 2 ^ 16) (lead_16 A B) a.0 b.0 (rw (a.1, b.1) at n) (rw a.1 at p) (rw b.1 at q) G (λ e. k (a.1 ∙ (ap kinds.Chars e ∙ sym b.1))))
elements_lead A B (Some codes.Double) v w a b n p q G k = rw (a.1, b.1) (whole_lead A B (λ x. number w64 x) (λ x. x < 2 ^ 64) (lead_64 A B) a.0 b.0 (rw (a.1, b.1) at n) (rw a.1 at p) (rw b.1 at q) G (λ e. k (a.1 ∙ (ap kinds.Doubles e ∙ sym b.1))))
elements_lead A B (Some codes.Float) v w a b n p q G k = rw (a.1, b.1) (whole_lead A B (λ x. number w32 x) (λ x. x < 2 ^ 32) (lead_32 A B) a.0 b.0 (rw (a.1, b.1) at n) (rw a.1 at p) (rw b.1 at q) G (λ e. k (a.1 ∙ (ap kinds.Floats e ∙ sym b.1))))
elements_lead A B (Some codes.Int) v w a b n p q G k = rw (a.1, b.1) (whole_lead A B _ (FitsSigned w32) (lead_i32 A B) a.0 b.0 (rw (a.1, b.1) at n) (rw a.1 at p) (rw b.1 at q) G (λ e. k (a.1 ∙ (ap kinds.Ints e ∙ sym b.1))))
elements_lead A B (Some codes.Long) v w a b n p q G k = rw (a.1, b.1) (whole_lead A B _ (FitsSigned w64) (lead_i64 A B) a.0 b.0 (rw (a.1, b.1) at n) (rw a.1 at p) (rw b.1 at q) G (λ e. k (a.1 ∙ (ap kinds.Longs e ∙ sym b.1))))
elements_lead A B (Some codes.Short) v w a b n p q G k = rw (a.1, b.1) (whole_lead A B _ (FitsSigned w16) (lead_i16 A B) a.0 b.0 (rw (a.1, b.1) at n) (rw a.1 at p) (rw b.1 at q) G (λ e. k (a.1 ∙ (ap kinds.Shorts e ∙ sym b.1))))
elements_lead A B (Some codes.Boolean) v w a b n p q G k = rw (a.1, b.1) (whole_lead A B (λ x. truth x) (λ x. Unit {0}) (λ x y ts us G c d g. g) a.0 b.0 (rw (a.1, b.1) at n) (λ k d lt. tt) (λ k d lt. tt) G (λ e. k (a.1 ∙ (ap kinds.Bools e ∙ sym b.1))))
elements_lead A B (Some codes.Array) v w a b n p q G k = rw (a.1, b.1) (whole_lead A B (λ s. reference s) (λ s. Unit {0}) (λ x y ts us G c d g. (refl, λ e chained. g e)) a.0 b.0 (rw (a.1, b.1) at n) (λ k d lt. tt) (λ k d lt. tt) G (λ e. k (a.1 ∙ (ap kinds.Refs e ∙ sym b.1))))
elements_lead A B (Some codes.Object) v w a b n p q G k = rw (a.1, b.1) (whole_lead A B (λ s. reference s) (λ s. Unit {0}) (λ x y ts us G c d g. (refl, λ e chained. g e)) a.0 b.0 (rw (a.1, b.1) at n) (λ k d lt. tt) (λ k d lt. tt) G (λ e. k (a.1 ∙ (ap kinds.Refs e ∙ sym b.1))))

-- ---- parts

-- a class's fields, and whether it has a write method
abbrev pub Row : Type 0
Row = List FieldDesc × Bool

-- a part for each class, with a value for each field, and with no note where there is no write method
abbrev pub Fitted : List Row → List Part → Type 0
Fitted [] [] = Unit {0}
Fitted [] (p ∷ ps) = ⊥
Fitted (r ∷ rs) [] = ⊥
Fitted (r ∷ rs) (p ∷ ps) = (fit_values r.0 p.values ≡ true) × (r.1 ≡ false → p.note ≡ []) × Fitted rs ps

abbrev pub writes : List Row → List Bool
writes rs = map (λ r. r.1) rs

abbrev part : List Value → List Item → Part
part vs is = record { values = vs; note = is }

pub part_same : (p q : Part) → p.values ≡ q.values → p.note ≡ q.note → p ≡ q
part_same p q a b = ap (λ x. part x p.note) a ∙ ap (λ x. part q.values x) b

pub parts_lead : (A B : List Node) (rs : List Row) (ps qs : List Part) → Fitted rs ps → Fitted rs qs → All PartFits ps → All PartFits qs → (G : Type 0) → (ps ≡ qs → G) → Leads A B (part_tokens (writes rs) ps) (part_tokens (writes rs) qs) G
unfolding part_tokens
parts_lead A B [] [] [] a b p q G k = k refl
parts_lead A B ((fs, true) ∷ rs) (x ∷ ps) (y ∷ qs) a b p q G k =
    values_lead A B fs x.values y.values a.0 b.0 (p zero x (omega arith)).0 (q zero y (omega arith)).0 (note x.note ∷ part_tokens (writes rs) ps) (note y.note ∷ part_tokens (writes rs) qs) G
    (λ same notes. parts_lead A B rs ps qs a.2 b.2 (all_rest PartFits x ps p) (all_rest PartFits y qs q) G (λ others. let first = part_same x y same notes in k cc))
parts_lead A B ((fs, false) ∷ rs) (x ∷ ps) (y ∷ qs) a b p q G k =
    values_lead A B fs x.values y.values a.0 b.0 (p zero x (omega arith)).0 (q zero y (omega arith)).0 (part_tokens (writes rs) ps) (part_tokens (writes rs) qs) G
    (λ same. parts_lead A B rs ps qs a.2 b.2 (all_rest PartFits x ps p) (all_rest PartFits y qs q) G (λ others. let first = part_same x y same (a.1 refl ∙ sym (b.1 refl)) in k cc))
parts_lead A B [] (x ∷ ps) qs a b p q G k = absurd a
parts_lead A B [] [] (y ∷ qs) a b p q G k = absurd b
parts_lead A B (r ∷ rs) [] qs a b p q G k = absurd a
parts_lead A B (r ∷ rs) (x ∷ ps) [] a b p q G k = absurd b
