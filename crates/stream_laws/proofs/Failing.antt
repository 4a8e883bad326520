-- Reading a reference answers a fault exactly where the bytes show it.
use Rattle.std.proofs.Common.{◌≡◌, ◌≢◌, ◌⊎◌, ◌<◌, ◌≤◌, ◌+◌, ◌-◌, ◌^◌, ◌&&◌, ℕ, zero, suc, Bool, true, false, cond, eqb, ltb, List, [], ◌∷◌, ◌++◌, length, Option, Some, None, Result, Ok, Err, slice_get, refl, sym, ap, subst, ◌∙◌, arith, inl, inr}
use Rattle.std.proofs.lemmas.Bool.{eqb-true, eqb-false, ne_eqb, ltb-true, ltb-false, lt-ltb, le-ltb, or_cases}
use Rattle.std.specs.Prelude.{ℤ}
use Rattle.std.specs.Int.{Width, w16, w32, w64, byte_len, from_be_bytes, cast_signed}
use Rattle.mod_utf.specs.Decoding.{decoded_units}
use Rattle.mod_utf.proofs.Decoded.{decoded_bad, is_bad, gives_bad}
use Rattle.class_desc.specs.declared.slot.Slot.{Slot}
use Rattle.class_desc.specs.declared.slot.Slot.TheVariants as slots
use Rattle.class_desc.specs.declared.slot.Item.{Item}
use Rattle.class_desc.specs.declared.slot.Item.TheVariants as items
use Rattle.class_desc.specs.declared.field.TypeCode.{TypeCode}
use Rattle.class_desc.specs.declared.field.TypeCode.TheVariants as codes
use Rattle.class_desc.specs.declared.field.FieldDesc.{FieldDesc}
use Rattle.class_desc.specs.declared.desc.ClassDesc.{ClassDesc}
use Rattle.class_desc.specs.TypeCode.{is_primitive}
use Rattle.class_desc.specs.TypeText.{code_of}
use Rattle.class_desc.specs.ClassDesc.{is_good_desc}
use Rattle.ser_values.specs.declared.value.Value.{Value}
use Rattle.ser_values.specs.declared.value.Value.TheVariants as values
use Rattle.ser_values.specs.declared.value.Values.TheVariants as kinds
use Rattle.ser_values.specs.declared.value.Part.{Part}
use Rattle.ser_values.specs.declared.node.Node.{Node}
use Rattle.ser_values.specs.declared.node.Node.TheVariants.{Desc, Proxy, Array, Enum}
use Rattle.ser_values.specs.declared.node.SlotPlace.{SlotPlace}
use Rattle.ser_values.specs.declared.node.SlotPlace.TheVariants as places
use Rattle.ser_values.specs.declared.limits.TheConstants.{NODES, PARTS}
use Rattle.ser_values.specs.Node.{has, admits, admits_null, is_desc, is_text}
use Rattle.ser_values.specs.Shape.{fits_type, is_enum}
use Rattle.stream_grammar.specs.Reading.{FaultKind, bad_code, bad_handle, wrong_handle_kind, bad_desc, negative_length, reset, inner_exception, Fault, short, bad, too_many, ◌>>=◌, Plain, byte_at, take_at, number_at, size_at, units_of, units_at, short_at, long_at, Progress, Step, Slots, plain, map_step, many_at, push, refs_among, sizes_of, counting, add_parts, fill, blocks_at, items_at, field_of, field_at, is_true, value_at, values_at, elements_at, Row, chain_of, class_fault, note_at, part, parts_at, unless, roomy, blank, text_at, desc_after, desc_at, proxy_at, on_class, with_class, object_after, object_at, type_in, array_of, array_at, class_at, named, enum_at, gives_handle, admits_code, code_fault, fresh_at, null_at, handle_fault, handle_at, deep, coded, no_slots, slot_at}
use Rattle.stream_grammar.specs.Faults.{DescHead, desc_head_at}
use Rattle.stream_grammar.proofs.Codes.{admitted_gives, code_known}
use Rattle.stream_grammar.proofs.PlainSound.{bind_ok, chosen, passed, guarded, unless_ok, ok_is, take_sound}
use Rattle.stream_grammar.proofs.Plains.{take_back}
use Rattle.stream_laws.specs.Reads.{HasNumber, HasSize, HasText, References, Plainly, Many, HasBlock, BeginsReference, Follow, HasValues, HasNote, HasField, desc_of, HasFields, HasInterfaces, HasParts, rows_in, with_object, GivesHere, gives_none, Reads}
use Rattle.stream_laws.specs.Fails.{a_reference, a_size, a_text, a_part, Says, InText, InLongText, InItems, InNote, InField, no_letter, in_name, at_type, other_type, InDesc, in_desc_name, at_count, too_many_fields, in_field, breaks_rule, in_note, at_parent, InProxy, at_names, too_many_names, in_interface, in_proxy_note, at_proxy_parent, InParts, InObject, too_many_parts, no_objects, in_parts, InArray, no_array, at_size, too_many_elements, at_element, InEnum, no_enum, at_constant, InClassed, full, in_object, in_array, in_enum, BeginsWithClass, InConstruct, in_text, in_long_text, in_desc, in_proxy, at_class, behind_class, IsForDesc, RefusesCode, no_null, low_handle, no_handle, wrong_kind, is_unread, a_reset, an_exception, no_code, no_level, no_room, FailsNext, FailsHere, fails_never, Fails}
use Rattle.stream_laws.proofs.Reading.{ok_first, with_room, short_block, long_block, byte_has, has_byte, number_has, has_number, size_has, has_size, text_has, has_text, Same, same_many, same_text, same_values, same_note, same_note_if, same_parts, SameReferences, same_field, head_has, has_head}
use Rattle.stream_laws.proofs.Giving.{admitted_none, no_references, first_byte, step_same, same_references}

-- ---- steps that failed

abbrev pub failed : {A : Type 0} → Fault → Result A Fault
failed f = Err f

pub err_is : {A : Type 0} (f g : Fault) → failed {A = A} f ≡ failed {A = A} g → f ≡ g
err_is f g e = cc

pub bind_err : {A B : Type 0} (r : Result A Fault) (k : A → Result B Fault) (f : Fault) → (r >>= k) ≡ Err f → (r ≡ Err f) ⊎ ((x : A) × (r ≡ Ok x) × (k x ≡ Err f))
bind_err (Ok x) k f e = inr (x, refl, e)
bind_err (Err g) k f e = let same : g ≡ f = cc in inl (ap (λ x. Err x) same)

-- what answers the same behind it
pub then_err : {A B : Type 0} (r : Result A Fault) (g : A → B) (f : Fault) → (r >>= λ x. Ok (g x)) ≡ Err f → r ≡ Err f
then_err (Ok x) g f e = absurd cc
then_err (Err h) g f e = let same : h ≡ f = cc in ap (λ x. Err x) same

pub err_first : {A B : Type 0} (r : Result A Fault) (k : A → Result B Fault) (f : Fault) → r ≡ Err f → (r >>= k) ≡ Err f
err_first (Ok x) k f e = absurd cc
err_first (Err h) k f e = let same : h ≡ f = cc in ap (λ x. Err x) same

-- ---- bytes, numbers and texts

module _ (end : ℕ) (f : Fault) (firm : f ≢ short) where
  pub byte_firm : (bs : List ℕ) → byte_at bs ≡ Err f → ⊥
  byte_firm [] e = firm (let same : short ≡ f = cc in sym same)
  byte_firm (b ∷ bs) e = cc

  pub take_firm : (n : ℕ) (bs : List ℕ) → take_at n bs ≡ Err f → ⊥
  take_firm n bs e = elim (chosen (ltb (length bs) n) _ _ _ e) [
    | inl p ↦ firm (let q = p.1 in let same : short ≡ f = cc in sym same)
    | inr p ↦ (let q = p.1 in cc)
  ]

  pub number_firm : (w : Width) (bs : List ℕ) → number_at w bs ≡ Err f → ⊥
  number_firm w bs e = take_firm (byte_len w) bs (then_err (take_at (byte_len w) bs) _ f e)

  -- what can't fail but by bytes that end
  pub firmly : {A B : Type 0} (r : Result A Fault) (k : A → Result B Fault) → (r ≡ Err f → ⊥) → (r >>= k) ≡ Err f → (x : A) × (r ≡ Ok x) × (k x ≡ Err f)
  firmly (Ok x) k none e = (x, refl, e)
  firmly (Err g) k none e = absurd (none (let same : g ≡ f = cc in ap (λ x. Err x) same))

  -- a length or a count that is not below its bound
  pub size_fault : (w : Width) (bound : ℕ) (bs : List ℕ) → size_at end w bound bs ≡ Err f → (n : ℕ × List ℕ) × HasNumber w bs n × (bound ≤ n.0) × (f ≡ bad negative_length (end - length bs))
  unfolding size_at
  size_fault w bound bs e =
      let a = firmly (number_at w bs) _ (number_firm w bs) e in
      elim (chosen (ltb a.0.0 bound) _ _ _ a.2) [
        | inl p ↦ absurd (let q = p.1 in cc)
        | inr p ↦ (a.0, number_has w bs a.0 a.1, ltb-false a.0.0 bound p.0, sym (err_is _ f p.1))
      ]

  pub size_faulty : (w : Width) (bound : ℕ) (bs : List ℕ) → (n : ℕ × List ℕ) × HasNumber w bs n × (bound ≤ n.0) × (f ≡ bad negative_length (end - length bs)) → size_at end w bound bs ≡ Err f
  unfolding size_at
  size_faulty w bound bs (n, read, le, same) = ok_first (number_at w bs) _ n _ (has_number w bs n read) (rw (le-ltb n.0 bound le) (ap (λ z. Err z) (sym same)))

-- ---- so many steps, and the one that fails

pub many_stops : {A : Type 0} (step : Step A) (n : ℕ) (now : Progress) (bs : List ℕ) (f : Fault) → many_at step n now bs ≡ Err f → (k : ℕ) × (k < n) × (x : List A × Progress × List ℕ) × (many_at step k now bs ≡ Ok x) × (step x.1 x.2 ≡ Err f)
unfolding many_at
many_stops step zero now bs f e = absurd cc
many_stops step (suc n) now bs f e = elim (bind_err (step now bs) _ f e) [
  | inl h ↦ (0, omega arith, ([], now, bs), refl, h)
  | inr x ↦ (
      let r = many_stops step n x.0.1 x.0.2 f (then_err (many_at step n x.0.1 x.0.2) _ f x.2) in
      let lt = r.1 in
      (suc r.0, omega arith, (x.0.0 ∷ r.2.0, r.2.1, r.2.2), ok_first (step now bs) _ x.0 _ x.1 (ok_first (many_at step r.0 x.0.1 x.0.2) _ r.2 _ r.3 refl), r.4))
]

pub many_fails : {A : Type 0} (step : Step A) (n k : ℕ) (now : Progress) (bs : List ℕ) (x : List A × Progress × List ℕ) (f : Fault) → k < n → many_at step k now bs ≡ Ok x → step x.1 x.2 ≡ Err f → many_at step n now bs ≡ Err f
unfolding many_at
many_fails step zero k now bs x f lt e h = absurd (omega arith)
many_fails {A} step (suc n) zero now bs x f lt e h =
    let same : ([], now, bs) ≡ x = ok_is {A = List A × Progress × List ℕ} ([], now, bs) x e in
    err_first (step now bs) _ f (subst (λ (y : List A × Progress × List ℕ). step y.1 y.2 ≡ Err f) (sym same) h)
many_fails {A} step (suc n) (suc k) now bs x f lt e h =
    let a = bind_ok (step now bs) _ x e in
    let b = bind_ok (many_at step k a.0.1 a.0.2) _ x a.2 in
    let same : (a.0.0 ∷ b.0.0, b.0.1, b.0.2) ≡ x = ok_is {A = List A × Progress × List ℕ} (a.0.0 ∷ b.0.0, b.0.1, b.0.2) x b.2 in
    let more = many_fails step n k a.0.1 a.0.2 b.0 f (omega arith) b.1 (subst (λ (y : List A × Progress × List ℕ). step y.1 y.2 ≡ Err f) (sym same) h) in
    ok_first (step now bs) _ a.0 _ a.1 (err_first (many_at step n a.0.1 a.0.2) _ f more)

-- the bytes of a block, and then what stands behind them
abbrev with_bytes : Bool → ℕ → Step Slot → ℕ → Progress → List ℕ × List ℕ → Result (List Item × Progress × List ℕ) Fault
with_bytes within end step most now p = blocks_at end step within most now p.1 >>= λ is. Ok (items.Bytes p.0 ∷ is.0, is.1, is.2)

-- the handle of a node that was given it, and that is not taken
kind_refused : (p : SlotPlace) (unread : Bool) (node : Node) → admits p node ≡ false → (IsForDesc p → unread ≡ false) → handle_fault p unread (Some node) ≡ Some wrong_handle_kind
unfolding admits
kind_refused places.Reference unread node h own = absurd cc
kind_refused places.Text unread node h own = rw h refl
kind_refused places.Class unread node h own = rw (own (inl refl)) (rw h refl)
kind_refused places.Parent unread node h own = rw (own (inr refl)) (rw h refl)

unread_refused : (p : SlotPlace) (unread : Bool) (node : Node) → IsForDesc p → unread ≡ true → handle_fault p unread (Some node) ≡ Some bad_desc
unread_refused p unread node (inl is) h = rw (is, h) refl
unread_refused p unread node (inr is) h = rw (is, h) refl

handle_refused : (p : SlotPlace) (unread : List ℕ) (at : ℕ) (now : Progress) (bs : List ℕ) (h : ℕ × List ℕ) (kind : FaultKind) → number_at w32 bs ≡ Ok h → 0x7E0000 ≤ h.0 → (o : Option Node) → slice_get now.nodes (h.0 - 0x7E0000) ≡ o → handle_fault p (has unread (h.0 - 0x7E0000)) o ≡ Some kind
    → handle_at p unread at now bs ≡ Err (bad kind at)
unfolding handle_at
handle_refused p unread at now bs h kind read low o got why = ok_first (number_at w32 bs) _ h _ read (rw (le-ltb h.0 0x7E0000 low) (rw got (rw why refl)))

-- a code that the place does not take
refused_as : (left at : ℕ) (p : SlotPlace) (unread : List ℕ) (now : Progress) (code : ℕ) (bs : List ℕ) → code ≢ 0x70 → code ≢ 0x71 → admits_code p code ≡ false → RefusesCode left at p unread now code bs (bad (code_fault code) at)
refused_as left at p unread now code bs no_one no_other unfit = go (eqb code 0x79) (eqb code 0x7B) refl refl
  where
    go : (a b : Bool) → eqb code 0x79 ≡ a → eqb code 0x7B ≡ b → RefusesCode left at p unread now code bs (bad (cond a reset (cond b inner_exception bad_code)) at)
    go true b e f = a_reset (eqb-true code 0x79 e)
    go false true e f = an_exception (eqb-true code 0x7B f)
    go false false e f = no_code no_one no_other (eqb-false code 0x79 e) (eqb-false code 0x7B f) unfit

-- What refuses a reference for its code is answered.
refuses_coded : (end left : ℕ) (inner : Slots) (at : ℕ) (p : SlotPlace) (unread : List ℕ) (now : Progress) (code : ℕ) (bs : List ℕ) (g : Fault) → RefusesCode left at p unread now code bs g → coded end left inner p unread at code now bs ≡ Err g
unfolding coded admits_null handle_at
refuses_coded end left inner at p unread now code bs g (no_null is no_one) = ap (λ k. coded end left inner p unread at k now bs) is ∙ by p no_one
  where
    by : (p : SlotPlace) → admits_null p ≡ false → null_at p at now bs ≡ Err (bad bad_code at)
    by places.Reference h = absurd cc
    by places.Parent h = absurd cc
    by places.Class h = refl
    by places.Text h = refl
refuses_coded end left inner at p unread now code bs g (low_handle h is read low) = ap (λ k. coded end left inner p unread at k now bs) is ∙ by
  where
    by : handle_at p unread at now bs ≡ Err (bad bad_handle at)
    by = ok_first (number_at w32 bs) _ h _ (has_number w32 bs h read) (rw (lt-ltb h.0 0x7E0000 low) refl)
refuses_coded end left inner at p unread now code bs g (no_handle h is read low got) = ap (λ k. coded end left inner p unread at k now bs) is ∙ handle_refused p unread at now bs h bad_handle (has_number w32 bs h read) low None got refl
refuses_coded end left inner at p unread now code bs g (wrong_kind h node is read low got other own) =
    ap (λ k. coded end left inner p unread at k now bs) is ∙ handle_refused p unread at now bs h wrong_handle_kind (has_number w32 bs h read) low (Some node) got (kind_refused p (has unread (h.0 - 0x7E0000)) node other own)
refuses_coded end left inner at p unread now code bs g (is_unread h node is read low got own open_one) =
    ap (λ k. coded end left inner p unread at k now bs) is ∙ handle_refused p unread at now bs h bad_desc (has_number w32 bs h read) low (Some node) got (unread_refused p (has unread (h.0 - 0x7E0000)) node own open_one)
refuses_coded end left inner at p unread now code bs g (no_code no_one no_other no_reset no_exception unfit) =
    rw (ne_eqb code 0x70 no_one) (rw (ne_eqb code 0x71 no_other) (rw unfit (rw (ne_eqb code 0x79 no_reset, ne_eqb code 0x7B no_exception) refl)))
refuses_coded end left inner at p unread now code bs g (a_reset is) = ap (λ k. coded end left inner p unread at k now bs) is ∙ by p
  where
    by : (p : SlotPlace) → coded end left inner p unread at 0x79 now bs ≡ Err (bad reset at)
    by places.Reference = refl
    by places.Class = refl
    by places.Parent = refl
    by places.Text = refl
refuses_coded end left inner at p unread now code bs g (an_exception is) = ap (λ k. coded end left inner p unread at k now bs) is ∙ by p
  where
    by : (p : SlotPlace) → coded end left inner p unread at 0x7B now bs ≡ Err (bad inner_exception at)
    by places.Reference = refl
    by places.Class = refl
    by places.Parent = refl
    by places.Text = refl
refuses_coded end left inner at p unread now code bs g (no_level none admitted) =
    let n = admitted_none p code admitted in
    rw (ne_eqb code 0x70 n.0) (rw (ne_eqb code 0x71 n.1) (rw admitted (rw none refl)))
refuses_coded end left inner at p unread now code bs g (no_room some admitted many) =
    let n = admitted_none p code admitted in
    rw (ne_eqb code 0x70 n.0) (rw (ne_eqb code 0x71 n.1) (rw admitted (by left some)))
  where
    by : (left : ℕ) → 0 < left → deep left at (roomy now at (fresh_at end at inner unread code now bs)) ≡ Err (too_many at)
    by zero some = absurd (omega arith)
    by (suc left) some = rw (le-ltb (length now.nodes) NODES many) refl

-- ---- one level

-- `inner` reads what stands one level down, and is refused exactly where `Inner` says so. No class is null.
pub record Level (end : ℕ) (f : Fault) (Inner : SlotPlace → List ℕ → Progress → List ℕ → Type 0) (R : References) (inner : Slots) : Type 0 where
  pub reads : SameReferences inner R
  pub down : (p : SlotPlace) (unread : List ℕ) (now : Progress) (bs : List ℕ) → inner p unread now bs ≡ Err f → Inner p unread now bs
  pub up : (p : SlotPlace) (unread : List ℕ) (now : Progress) (bs : List ℕ) → Inner p unread now bs → inner p unread now bs ≡ Err f
  pub some : (unread : List ℕ) (now later : Progress) (bs rest : List ℕ) → inner places.Class unread now bs ≡ Ok (slots.Null, later, rest) → ⊥

module _ (end : ℕ) (f : Fault) (firm : f ≢ short) (Inner : SlotPlace → List ℕ → Progress → List ℕ → Type 0) (R : References) (inner : Slots) (level : Level end f Inner R inner) where
  abbrev P : Says
  P x here = FailsNext end f Inner x here

  -- ---- what was read whole, and what bytes give

  fields_same : (at : ℕ) (unread : List ℕ) (n : ℕ) → Same (many_at (field_at end at (inner places.Text unread)) n) (Many (HasField R unread) n)
  fields_same at unread n = same_many (field_at end at (inner places.Text unread)) (HasField R unread) (same_field end at inner R level.reads unread) n

  note_same : (unread : List ℕ) → Same (items_at end (inner places.Reference unread) true) (HasNote (R places.Reference unread))
  note_same unread = same_note end (inner places.Reference unread) (R places.Reference unread) (level.reads.at places.Reference unread)

  names_same : (n : ℕ) → Same (many_at (plain (short_at end)) n) (Many (Plainly HasText) n)
  names_same n = same_many (plain (short_at end)) (Plainly HasText) (same_text end) n

  values_same : (unread : List ℕ) (fs : List FieldDesc) → Same (values_at (inner places.Reference unread) fs) (HasValues (R places.Reference unread) fs)
  values_same unread fs = same_values (inner places.Reference unread) (R places.Reference unread) (level.reads.at places.Reference unread) fs

  parts_same : (unread : List ℕ) (rows : List Row) → Same (parts_at end (inner places.Reference unread) rows) (HasParts (R places.Reference unread) rows)
  parts_same unread rows = same_parts end (inner places.Reference unread) (R places.Reference unread) (level.reads.at places.Reference unread) rows

  refs_same : (unread : List ℕ) (n : ℕ) → Same (many_at (inner places.Reference unread) n) (Many (R places.Reference unread) n)
  refs_same unread n = same_many (inner places.Reference unread) (R places.Reference unread) (level.reads.at places.Reference unread) n

  -- ---- bytes, numbers and texts

  size_stops : (w : Width) (bound : ℕ) (bs : List ℕ) → size_at end w bound bs ≡ Err f → P (a_size w bound) bs
  size_stops w bound bs e = size_fault end f firm w bound bs e

  size_fails : (w : Width) (bound : ℕ) (bs : List ℕ) → P (a_size w bound) bs → size_at end w bound bs ≡ Err f
  size_fails w bound bs h = size_faulty end f firm w bound bs h

  text_stops : (n : ℕ) (bs : List ℕ) → units_at end n bs ≡ Err f → P (a_text n) bs
  unfolding units_at
  text_stops n bs e =
      let a = firmly end f firm (take_at n bs) _ (take_firm end f firm n bs) e in
      by a.0 (take_sound n bs a.0 a.1) (decoded_units a.0.0) refl (then_err (units_of (end - length bs) (decoded_units a.0.0)) _ f a.2)
    where
      by : (t : List ℕ × List ℕ) → (bs ≡ t.0 ++ t.1) × (length t.0 ≡ n) → (d : Result (List ℕ) ℕ) → decoded_units t.0 ≡ d → units_of (end - length bs) d ≡ Err f → P (a_text n) bs
      by t s (Ok us) e is = absurd cc
      by t s (Err offset) e is = (t, s.0, s.1, offset, is_bad t.0 offset (decoded_bad t.0 offset e), sym (err_is _ f is))

  text_fails : (n : ℕ) (bs : List ℕ) → P (a_text n) bs → units_at end n bs ≡ Err f
  unfolding units_at
  text_fails n bs (t, cut, len, offset, bad_here, same) =
      let taken : take_at n bs ≡ Ok t = ap (take_at n) cut ∙ (ap (λ k. take_at k (t.0 ++ t.1)) (sym len) ∙ take_back t.0 t.1) in
      ok_first (take_at n bs) _ t _ taken (err_first (units_of (end - length bs) (decoded_units t.0)) _ f (ap (units_of (end - length bs)) (gives_bad t.0 offset bad_here) ∙ ap (λ z. Err z) (sym same)))

  short_stops : (bs : List ℕ) → short_at end bs ≡ Err f → InText P bs
  unfolding short_at
  short_stops bs e = let a = firmly end f firm (number_at w16 bs) _ (number_firm end f firm w16 bs) e in (a.0, number_has w16 bs a.0 a.1, text_stops a.0.0 a.0.1 a.2)

  short_fails : (bs : List ℕ) → InText P bs → short_at end bs ≡ Err f
  unfolding short_at
  short_fails bs (n, read, h) = ok_first (number_at w16 bs) _ n _ (has_number w16 bs n read) (text_fails n.0 n.1 h)

  long_stops : (bs : List ℕ) → long_at end bs ≡ Err f → InLongText P bs
  unfolding long_at
  long_stops bs e = elim (bind_err (size_at end w64 (2 ^ 63) bs) _ f e) [
    | inl h ↦ inl (size_stops w64 (2 ^ 63) bs h)
    | inr a ↦ inr (a.0, size_has end w64 (2 ^ 63) bs a.0 a.1, text_stops a.0.0 a.0.1 a.2)
  ]

  long_fails : (bs : List ℕ) → InLongText P bs → long_at end bs ≡ Err f
  unfolding long_at
  long_fails bs (inl h) = err_first (size_at end w64 (2 ^ 63) bs) _ f (size_fails w64 (2 ^ 63) bs h)
  long_fails bs (inr (n, read, h)) = ok_first (size_at end w64 (2 ^ 63) bs) _ n _ (has_size end w64 (2 ^ 63) bs n read) (text_fails n.0 n.1 h)

  -- ---- annotations

  abbrev NextItem : Bool → List ℕ → Progress → List ℕ → Type 0
  NextItem within unread later there = (BeginsReference within there × P (a_reference places.Reference unread later) there)
      ⊎ ((BeginsReference within there × (x : Slot × Progress × List ℕ) × R places.Reference unread later there x × (PARTS < x.1.parts + 1) × P a_part there)
      ⊎ ((rest : List ℕ) × (there ≡ 0x7A ∷ rest) × P (a_size w32 (2 ^ 31)) rest))

  -- behind fewer items than these
  record Behind (within : Bool) (unread : List ℕ) (most : ℕ) (now : Progress) (bs : List ℕ) : Type 0 where
    before : List Item
    later : Progress
    there : List ℕ
    fewer : length before < most
    follow : Follow within (R places.Reference unread) before now bs later there
    next : NextItem within unread later there

  behind_block : (within : Bool) (unread p : List ℕ) (most : ℕ) (now : Progress) (bs rest : List ℕ) → HasBlock p bs rest → Behind within unread most now rest → Behind within unread (suc most) now bs
  behind_block within unread p most now bs rest block h = record { before = items.Bytes p ∷ h.before; later = h.later; there = h.there; fewer = omega (arith, h.fewer); follow = (rest, block, h.follow); next = h.next }

  behind_reference : (within : Bool) (unread : List ℕ) (most : ℕ) (now : Progress) (bs : List ℕ) (s : Slot × Progress × List ℕ) → BeginsReference within bs → inner places.Reference unread now bs ≡ Ok s → s.1.parts + 1 ≤ PARTS → Behind within unread most (add_parts 1 s.1) s.2 → Behind within unread (suc most) now bs
  behind_reference within unread most now bs s begins read room h = record { before = items.Ref s.0 ∷ h.before; later = h.later; there = h.there; fewer = omega (arith, h.fewer); follow = (begins, s.1, s.2, (level.reads.at places.Reference unread).to now bs s read, room, h.follow); next = h.next }

  blocks_stop : (within : Bool) (unread : List ℕ) (most : ℕ) (now : Progress) (bs : List ℕ) → blocks_at end (inner places.Reference unread) within most now bs ≡ Err f → Behind within unread most now bs
  unfolding blocks_at
  blocks_stop within unread zero now bs e = absurd (firm (sym (err_is short f e)))
  blocks_stop true unread (suc most) now [] e = absurd (firm (sym (err_is short f e)))
  blocks_stop false unread (suc most) now [] e = absurd cc
  blocks_stop within unread (suc most) now (c ∷ bs) e = elim (chosen (within && eqb c 0x78) _ _ _ e) [
    | inl p ↦ absurd (let q = p.1 in cc)
    | inr p ↦ elim (chosen (eqb c 0x77) _ _ _ p.1) [
      | inl q ↦ (
          let n = firmly end f firm (byte_at bs) _ (byte_firm end f firm bs) q.1 in
          let t = firmly end f firm (take_at n.0.0 n.0.1) _ (take_firm end f firm n.0.0 n.0.1) n.2 in
          let is : c ∷ bs ≡ 0x77 ∷ length t.0.0 ∷ (t.0.0 ++ t.0.1) = ap (λ k. k ∷ bs) (eqb-true c 0x77 q.0) ∙ ap (λ (l : List ℕ). 0x77 ∷ l) (short_block bs n.0 t.0 n.1 t.1) in
          behind_block within unread t.0.0 most now (c ∷ bs) t.0.1 (inl is) (blocks_stop within unread most now t.0.1 (then_err (blocks_at end (inner places.Reference unread) within most now t.0.1) _ f t.2)))
      | inr q ↦ elim (chosen (eqb c 0x7A) _ _ _ q.1) [
        | inl r ↦ (let begins : c ∷ bs ≡ 0x7A ∷ bs = ap (λ k. k ∷ bs) (eqb-true c 0x7A r.0) in long_stop within unread most (λ rest h. blocks_stop within unread most now rest h) c bs begins r.1)
        | inr r ↦ (
            let begins : BeginsReference within (c ∷ bs) = record { code = c; rest = bs; is = refl; goes_on = λ inside. eqb-false c 0x78 (ap (λ b. b && eqb c 0x78) (sym inside) ∙ p.0); no_block = eqb-false c 0x77 q.0; no_long_block = eqb-false c 0x7A r.0 } in
            elim (bind_err (inner places.Reference unread now (c ∷ bs)) _ f r.1) [
              | inl h ↦ record { before = []; later = now; there = c ∷ bs; fewer = omega arith; follow = (refl, refl); next = inl (begins, level.down places.Reference unread now (c ∷ bs) h) }
              | inr s ↦ elim (chosen (ltb PARTS (s.0.1.parts + 1)) _ _ _ s.2) [
                | inl z ↦ record { before = []; later = now; there = c ∷ bs; fewer = omega arith; follow = (refl, refl); next = inr (inl (begins, s.0, (level.reads.at places.Reference unread).to now (c ∷ bs) s.0 s.1, ltb-true PARTS (s.0.1.parts + 1) z.0, sym (err_is _ f z.1))) }
                | inr z ↦ behind_reference within unread most now (c ∷ bs) s.0 begins s.1 (ltb-false PARTS (s.0.1.parts + 1) z.0) (blocks_stop within unread most (add_parts 1 s.0.1) s.0.2 (then_err (blocks_at end (inner places.Reference unread) within most (add_parts 1 s.0.1) s.0.2) _ f z.1))
              ]
            ])
      ]
    ]
  ]
    where
      long_stop : (within : Bool) (unread : List ℕ) (most : ℕ) → ((rest : List ℕ) → blocks_at end (inner places.Reference unread) within most now rest ≡ Err f → Behind within unread most now rest) → (c : ℕ) (bs : List ℕ) → c ∷ bs ≡ 0x7A ∷ bs
          → (size_at end w32 (2 ^ 31) bs >>= λ n. take_at n.0 n.1 >>= λ p. with_bytes within end (inner places.Reference unread) most now p) ≡ Err f → Behind within unread (suc most) now (c ∷ bs)
      long_stop within unread most rec c bs begins e = elim (bind_err (size_at end w32 (2 ^ 31) bs) _ f e) [
        | inl h ↦ record { before = []; later = now; there = c ∷ bs; fewer = omega arith; follow = (refl, refl); next = inr (inr (bs, begins, size_stops w32 (2 ^ 31) bs h)) }
        | inr n ↦ (
            let t = firmly end f firm (take_at n.0.0 n.0.1) _ (take_firm end f firm n.0.0 n.0.1) n.2 in
            let block : HasBlock t.0.0 (c ∷ bs) t.0.1 = subst (λ (l : List ℕ). HasBlock t.0.0 l t.0.1) (sym begins) (long_block end bs n.0 t.0 n.1 t.1) in
            behind_block within unread t.0.0 most now (c ∷ bs) t.0.1 block (rec t.0.1 (then_err (blocks_at end (inner places.Reference unread) within most now t.0.1) _ f t.2)))
      ]

  pub items_stop : (within : Bool) (unread : List ℕ) (now : Progress) (bs : List ℕ) → items_at end (inner places.Reference unread) within now bs ≡ Err f → InItems within R unread P now bs
  unfolding items_at
  items_stop within unread now bs e =
      let h = blocks_stop within unread (suc (length bs)) now bs (then_err (blocks_at end (inner places.Reference unread) within (suc (length bs)) now bs) _ f e) in
      record { before = h.before; later = h.later; there = h.there; few = omega (arith, h.fewer); follow = h.follow; next = h.next }

  note_stops : (unread : List ℕ) (now : Progress) (bs : List ℕ) → items_at end (inner places.Reference unread) true now bs ≡ Err f → InNote R unread P now bs
  note_stops unread now bs e = items_stop true unread now bs e

  -- a block of the short form, and of the long one, before what fails
  short_passes : (within : Bool) (unread p : List ℕ) (most : ℕ) (now : Progress) (rest : List ℕ) → blocks_at end (inner places.Reference unread) within most now rest ≡ Err f → blocks_at end (inner places.Reference unread) within (suc most) now (0x77 ∷ length p ∷ (p ++ rest)) ≡ Err f
  unfolding blocks_at
  short_passes true unread p most now rest h = ok_first (take_at (length p) (p ++ rest)) _ (p, rest) _ (take_back p rest) (err_first (blocks_at end (inner places.Reference unread) true most now rest) _ f h)
  short_passes false unread p most now rest h = ok_first (take_at (length p) (p ++ rest)) _ (p, rest) _ (take_back p rest) (err_first (blocks_at end (inner places.Reference unread) false most now rest) _ f h)

  long_passes : (within : Bool) (unread digits p : List ℕ) (most : ℕ) (now : Progress) (rest : List ℕ) → length digits ≡ 4 → from_be_bytes w32 digits ≡ length p → length p < 2 ^ 31 → blocks_at end (inner places.Reference unread) within most now rest ≡ Err f
      → blocks_at end (inner places.Reference unread) within (suc most) now (0x7A ∷ (digits ++ (p ++ rest))) ≡ Err f
  unfolding blocks_at
  long_passes true unread digits p most now rest four number low h =
      ok_first (size_at end w32 (2 ^ 31) (digits ++ (p ++ rest))) _ (length p, p ++ rest) _ (has_size end w32 (2 ^ 31) (digits ++ (p ++ rest)) (length p, p ++ rest) ((digits, refl, four, sym number), low))
      (ok_first (take_at (length p) (p ++ rest)) _ (p, rest) _ (take_back p rest) (err_first (blocks_at end (inner places.Reference unread) true most now rest) _ f h))
  long_passes false unread digits p most now rest four number low h =
      ok_first (size_at end w32 (2 ^ 31) (digits ++ (p ++ rest))) _ (length p, p ++ rest) _ (has_size end w32 (2 ^ 31) (digits ++ (p ++ rest)) (length p, p ++ rest) ((digits, refl, four, sym number), low))
      (ok_first (take_at (length p) (p ++ rest)) _ (p, rest) _ (take_back p rest) (err_first (blocks_at end (inner places.Reference unread) false most now rest) _ f h))

  -- a reference is none of blocks
  opens : (within : Bool) (unread : List ℕ) (most : ℕ) (now : Progress) (bs : List ℕ) → BeginsReference within bs
      → blocks_at end (inner places.Reference unread) within (suc most) now bs ≡ (inner places.Reference unread now bs >>= λ s. counting 1 (end - length bs) s.1 (λ next. blocks_at end (inner places.Reference unread) within most next s.2 >>= λ is. Ok (items.Ref s.0 ∷ is.0, is.1, is.2)))
  unfolding blocks_at
  opens within unread most now bs b = by bs b.code b.rest b.is (no_end within b.code b.goes_on) b.no_block b.no_long_block
    where
      no_end : (within : Bool) (c : ℕ) → (within ≡ true → c ≢ 0x78) → (within && eqb c 0x78) ≡ false
      no_end true c h = ne_eqb c 0x78 (h refl)
      no_end false c h = refl

      by : (bs : List ℕ) (c : ℕ) (rest : List ℕ) → bs ≡ c ∷ rest → (within && eqb c 0x78) ≡ false → c ≢ 0x77 → c ≢ 0x7A
          → blocks_at end (inner places.Reference unread) within (suc most) now bs ≡ (inner places.Reference unread now bs >>= λ s. counting 1 (end - length bs) s.1 (λ next. blocks_at end (inner places.Reference unread) within most next s.2 >>= λ is. Ok (items.Ref s.0 ∷ is.0, is.1, is.2)))
      by bs c rest is a b d = rw is (rw a (rw (ne_eqb c 0x77 b) (rw (ne_eqb c 0x7A d) refl)))

  next_fails : (within : Bool) (unread : List ℕ) (most : ℕ) (later : Progress) (there : List ℕ) → NextItem within unread later there → blocks_at end (inner places.Reference unread) within (suc most) later there ≡ Err f
  unfolding blocks_at
  next_fails within unread most later there (inl (begins, h)) = opens within unread most later there begins ∙ err_first (inner places.Reference unread later there) _ f (level.up places.Reference unread later there h)
  next_fails within unread most later there (inr (inl (begins, x, read, many, same))) =
      opens within unread most later there begins ∙ ok_first (inner places.Reference unread later there) _ x _ ((level.reads.at places.Reference unread).from later there x read) (rw (lt-ltb PARTS (x.1.parts + 1) many) (ap (λ z. Err z) (sym same)))
  next_fails true unread most later there (inr (inr (rest, is, h))) = rw is (err_first (size_at end w32 (2 ^ 31) rest) _ f (size_fails w32 (2 ^ 31) rest h))
  next_fails false unread most later there (inr (inr (rest, is, h))) = rw is (err_first (size_at end w32 (2 ^ 31) rest) _ f (size_fails w32 (2 ^ 31) rest h))

  follow_fails : (within : Bool) (unread : List ℕ) (before : List Item) (most : ℕ) (now later : Progress) (bs there : List ℕ) → length before < most → Follow within (R places.Reference unread) before now bs later there → NextItem within unread later there
      → blocks_at end (inner places.Reference unread) within most now bs ≡ Err f
  follow_fails within unread before zero now later bs there lt h next = absurd (omega arith)
  follow_fails within unread [] (suc most) now later bs there lt (same, still) next = rw (same, still) (next_fails within unread most later there next)
  follow_fails within unread (items.Bytes p ∷ is) (suc most) now later bs there lt (rest, inl begins, h) next = rw begins (short_passes within unread p most now rest (follow_fails within unread is most now later rest there (omega arith) h next))
  follow_fails within unread (items.Bytes p ∷ is) (suc most) now later bs there lt (rest, inr (digits, four, number, low, begins), h) next =
      rw begins (long_passes within unread digits p most now rest four number low (follow_fails within unread is most now later rest there (omega arith) h next))
  follow_fails within unread (items.Ref s ∷ is) (suc most) now later bs there lt (begins, mid, rest, read, room, h) next =
      let after = add_parts 1 mid in
      opens within unread most now bs begins ∙ ok_first (inner places.Reference unread now bs) _ (s, mid, rest) _ ((level.reads.at places.Reference unread).from now bs (s, mid, rest) read)
      (with_room 1 (end - length bs) mid (blocks_at end (inner places.Reference unread) within most after rest >>= λ is. Ok (items.Ref s ∷ is.0, is.1, is.2)) (Err f) room (err_first (blocks_at end (inner places.Reference unread) within most after rest) _ f (follow_fails within unread is most after later rest there (omega arith) h next)))

  pub items_fail : (within : Bool) (unread : List ℕ) (now : Progress) (bs : List ℕ) → InItems within R unread P now bs → items_at end (inner places.Reference unread) within now bs ≡ Err f
  unfolding items_at
  items_fail within unread now bs h = err_first (blocks_at end (inner places.Reference unread) within (suc (length bs)) now bs) _ f (follow_fails within unread h.before (suc (length bs)) now h.later bs h.there (omega (arith, h.few)) h.follow h.next)

  note_fails : (unread : List ℕ) (now : Progress) (bs : List ℕ) → InNote R unread P now bs → items_at end (inner places.Reference unread) true now bs ≡ Err f
  note_fails unread now bs h = items_fail true unread now bs h

  -- ---- descriptions

  field_stops : (at : ℕ) (unread : List ℕ) (now : Progress) (bs : List ℕ) → field_at end at (inner places.Text unread) now bs ≡ Err f → InField at R unread P now bs
  unfolding field_at field_of
  field_stops at unread now [] e = absurd (firm (sym (err_is short f e)))
  field_stops at unread now (c ∷ rest) e = by (code_of c) refl e
    where
      by : (kind : Option TypeCode) → code_of c ≡ kind → field_of end at (inner places.Text unread) kind now rest ≡ Err f → InField at R unread P now (c ∷ rest)
      by None is e = no_letter c rest refl is (sym (err_is _ f e))
      by (Some code) is e = elim (bind_err (short_at end rest) _ f e) [
        | inl s ↦ in_name c rest code refl is (short_stops rest s)
        | inr s ↦ elim (chosen (is_primitive code) _ _ _ s.2) [
          | inl p ↦ absurd (let q = p.1 in cc)
          | inr p ↦ elim (bind_err (inner places.Text unread now s.0.1) _ f p.1) [
            | inl t ↦ at_type c rest code s.0 refl is (text_has end rest s.0 s.1) p.0 (level.down places.Text unread now s.0.1 t)
            | inr t ↦ elim (chosen (fits_type t.0.1.nodes code t.0.0) _ _ _ t.2) [
              | inl q ↦ absurd (let r = q.1 in cc)
              | inr q ↦ other_type c rest code s.0 t.0 refl is (text_has end rest s.0 s.1) p.0 ((level.reads.at places.Text unread).to now s.0.1 t.0 t.1) q.0 (sym (err_is _ f q.1))
            ]
          ]
        ]
      ]

  field_opens : (at : ℕ) (unread : List ℕ) (now : Progress) (bs : List ℕ) (c : ℕ) (rest : List ℕ) (kind : Option TypeCode) → bs ≡ c ∷ rest → code_of c ≡ kind → field_of end at (inner places.Text unread) kind now rest ≡ Err f → field_at end at (inner places.Text unread) now bs ≡ Err f
  unfolding field_at
  field_opens at unread now bs c rest kind is typed h = ap (field_at end at (inner places.Text unread) now) is ∙ (ap (λ o. field_of end at (inner places.Text unread) o now rest) typed ∙ h)

  field_fails : (at : ℕ) (unread : List ℕ) (now : Progress) (bs : List ℕ) → InField at R unread P now bs → field_at end at (inner places.Text unread) now bs ≡ Err f
  unfolding field_of
  field_fails at unread now bs (no_letter c rest is typed same) = field_opens at unread now bs c rest None is typed (ap (λ z. Err z) (sym same))
  field_fails at unread now bs (in_name c rest code is typed h) = field_opens at unread now bs c rest (Some code) is typed (err_first (short_at end rest) _ f (short_fails rest h))
  field_fails at unread now bs (at_type c rest code name is typed named_so own h) =
      field_opens at unread now bs c rest (Some code) is typed (ok_first (short_at end rest) _ name _ (has_text end rest name named_so) (rw own (err_first (inner places.Text unread now name.1) _ f (level.up places.Text unread now name.1 h))))
  field_fails at unread now bs (other_type c rest code name t is typed named_so own read unfit same) =
      field_opens at unread now bs c rest (Some code) is typed (ok_first (short_at end rest) _ name _ (has_text end rest name named_so) (rw own (ok_first (inner places.Text unread now name.1) _ t _ ((level.reads.at places.Text unread).from now name.1 t read) (rw unfit (ap (λ z. Err z) (sym same))))))

  -- what stands before a description's fields
  head_read : (bs : List ℕ) (name : List ℕ × List ℕ) (suid flags count : ℕ × List ℕ) → short_at end bs ≡ Ok name → number_at w64 name.1 ≡ Ok suid → byte_at suid.1 ≡ Ok flags → size_at end w16 32768 flags.1 ≡ Ok count
      → desc_head_at end bs ≡ Ok (record { name = name.0; suid = suid.0; flags = flags.0; count = count.0; rest = count.1 })
  unfolding desc_head_at
  head_read bs name suid flags count a b c d = rw a (rw b (rw c (rw d refl)))

  -- a description whose head was read
  abbrev whole_desc : DescHead → List FieldDesc → List Item → Slot → ClassDesc
  whole_desc head fields note parent = record { name = head.name; suid = cast_signed w64 head.suid; flags = head.flags; fields = fields; note = note; parent = parent }

  abbrev fields_behind : ℕ → List ℕ → Progress → DescHead → Result (ClassDesc × Progress × List ℕ) Fault
  fields_behind at unread first head = many_at (field_at end at (inner places.Text unread)) head.count first head.rest >>= λ fs. cond (is_good_desc (desc_of head fs.0)) (items_at end (inner places.Reference unread) true fs.1 fs.2 >>= λ is. inner places.Parent unread is.1 is.2 >>= λ p. Ok (whole_desc head fs.0 is.0 p.0, p.1, p.2)) (Err (bad bad_desc at))

  desc_stops : (at : ℕ) (unread : List ℕ) (now : Progress) (bs : List ℕ) → desc_at end at inner unread now bs ≡ Err f → InDesc at R (unread ++ length now.nodes ∷ []) P (push now (Desc blank)) bs
  unfolding desc_at desc_after
  desc_stops at unread now bs e = elim (bind_err (short_at end bs) _ f e) [
    | inl h ↦ in_desc_name (short_stops bs h)
    | inr name ↦ (
        let suid = firmly end f firm (number_at w64 name.0.1) _ (number_firm end f firm w64 name.0.1) name.2 in
        let flags = firmly end f firm (byte_at suid.0.1) _ (byte_firm end f firm suid.0.1) suid.2 in
        let own = then_err (desc_after end at inner (unread ++ length now.nodes ∷ []) name.0.0 suid.0.0 flags.0.0 (push now (Desc blank)) flags.0.1) _ f flags.2 in
        elim (bind_err (size_at end w16 32768 flags.0.1) _ f own) [
          | inl h ↦ at_count name.0 suid.0 flags.0 (text_has end bs name.0 name.1) (number_has w64 name.0.1 suid.0 suid.1) (byte_has suid.0.1 flags.0 flags.1) (size_stops w16 32768 flags.0.1 h)
          | inr count ↦ behind_head at (unread ++ length now.nodes ∷ []) (push now (Desc blank)) bs (record { name = name.0.0; suid = suid.0.0; flags = flags.0.0; count = count.0.0; rest = count.0.1 }) (head_read bs name.0 suid.0 flags.0 count.0 name.1 suid.1 flags.1 count.1) count.2
        ])
  ]
    where
      behind_fields : (at : ℕ) (unread : List ℕ) (first : Progress) (bs : List ℕ) (d : HasFields R unread first bs)
          → cond (is_good_desc (desc_of d.head d.fields)) (items_at end (inner places.Reference unread) true d.later d.there >>= λ is. inner places.Parent unread is.1 is.2 >>= λ p. Ok (record { name = d.head.name; suid = cast_signed w64 d.head.suid; flags = d.head.flags; fields = d.fields; note = is.0; parent = p.0 }, p.1, p.2)) (Err (bad bad_desc at)) ≡ failed {A = ClassDesc × Progress × List ℕ} f
          → InDesc at R unread P first bs
      behind_fields at unread first bs d e = elim (chosen (is_good_desc (desc_of d.head d.fields)) _ _ _ e) [
        | inr q ↦ breaks_rule d q.0 (sym (err_is _ f q.1))
        | inl q ↦ elim (bind_err (items_at end (inner places.Reference unread) true d.later d.there) _ f q.1) [
          | inl h ↦ in_note d q.0 (note_stops unread d.later d.there h)
          | inr note ↦ at_parent d note.0 q.0 ((note_same unread).to d.later d.there note.0 note.1) (level.down places.Parent unread note.0.1 note.0.2 (then_err (inner places.Parent unread note.0.1 note.0.2) _ f note.2))
        ]
      ]

      with_fields : (at : ℕ) (unread : List ℕ) (first : Progress) (bs : List ℕ) (head : DescHead) → desc_head_at end bs ≡ Ok head → first.parts + head.count ≤ PARTS → fields_behind at unread (add_parts head.count first) head ≡ failed f → InDesc at R unread P first bs
      with_fields at unread first bs head begins few e =
          let counted = add_parts head.count first in
          elim (bind_err (many_at (field_at end at (inner places.Text unread)) head.count counted head.rest) _ f e) [
            | inl h ↦ (let m = many_stops (field_at end at (inner places.Text unread)) head.count counted head.rest f h in in_field head m.0 m.2.0 m.2.1 m.2.2 (head_has end bs head begins) few m.1 ((fields_same at unread m.0).to counted head.rest m.2 m.3) (field_stops at unread m.2.1 m.2.2 m.4))
            | inr fs ↦ behind_fields at unread first bs (record { head = head; begins = head_has end bs head begins; few = few; fields = fs.0.0; later = fs.0.1; there = fs.0.2; read = (fields_same at unread head.count).to counted head.rest fs.0 fs.1 }) fs.2
          ]

      behind_head : (at : ℕ) (unread : List ℕ) (first : Progress) (bs : List ℕ) (head : DescHead) → desc_head_at end bs ≡ Ok head → counting head.count at first (λ later. fields_behind at unread later head) ≡ failed f → InDesc at R unread P first bs
      behind_head at unread first bs head begins e = elim (chosen (ltb PARTS (first.parts + head.count)) _ _ _ e) [
        | inl p ↦ too_many_fields head (head_has end bs head begins) (ltb-true PARTS (first.parts + head.count) p.0) (sym (err_is _ f p.1))
        | inr p ↦ with_fields at unread first bs head begins (ltb-false PARTS (first.parts + head.count) p.0) p.1
      ]

  record HeadParts (bs : List ℕ) (head : DescHead) : Type 0 where
    name : List ℕ × List ℕ
    suid : ℕ × List ℕ
    flags : ℕ × List ℕ
    count : ℕ × List ℕ
    name_read : short_at end bs ≡ Ok name
    suid_read : number_at w64 name.1 ≡ Ok suid
    flags_read : byte_at suid.1 ≡ Ok flags
    count_read : size_at end w16 32768 flags.1 ≡ Ok count
    is : record { name = name.0; suid = suid.0; flags = flags.0; count = count.0; rest = count.1 } ≡ head

  head_parts : (bs : List ℕ) (head : DescHead) → desc_head_at end bs ≡ Ok head → HeadParts bs head
  unfolding desc_head_at
  head_parts bs head e =
      let a = bind_ok (short_at end bs) _ head e in
      let b = bind_ok (number_at w64 a.0.1) _ head a.2 in
      let c = bind_ok (byte_at b.0.1) _ head b.2 in
      let d = bind_ok (size_at end w16 32768 c.0.1) _ head c.2 in
      record { name = a.0; suid = b.0; flags = c.0; count = d.0; name_read = a.1; suid_read = b.1; flags_read = c.1; count_read = d.1; is = ok_is _ head d.2 }

  head_fails : (at : ℕ) (unread : List ℕ) (now : Progress) (bs : List ℕ) (head : DescHead) → desc_head_at end bs ≡ Ok head → counting head.count at (push now (Desc blank)) (λ later. fields_behind at (unread ++ length now.nodes ∷ []) later head) ≡ Err f → desc_at end at inner unread now bs ≡ Err f
  unfolding desc_at desc_after
  head_fails at unread now bs head e h =
      let r = head_parts bs head e in
      ok_first (short_at end bs) _ r.name _ r.name_read (ok_first (number_at w64 r.name.1) _ r.suid _ r.suid_read (ok_first (byte_at r.suid.1) _ r.flags _ r.flags_read
      (err_first (desc_after end at inner (unread ++ length now.nodes ∷ []) r.name.0 r.suid.0 r.flags.0 (push now (Desc blank)) r.flags.1) _ f
      (ok_first (size_at end w16 32768 r.flags.1) _ r.count _ r.count_read (subst (λ (d : DescHead). counting d.count at (push now (Desc blank)) (λ later. fields_behind at (unread ++ length now.nodes ∷ []) later d) ≡ Err f) (sym r.is) h)))))

  -- the fields have room
  fields_fail : (at : ℕ) (unread : List ℕ) (now : Progress) (bs : List ℕ) (head : DescHead) → desc_head_at end bs ≡ Ok head → now.parts + head.count ≤ PARTS → fields_behind at (unread ++ length now.nodes ∷ []) (add_parts head.count (push now (Desc blank))) head ≡ Err f → desc_at end at inner unread now bs ≡ Err f
  fields_fail at unread now bs head e few h = head_fails at unread now bs head e (with_room head.count at (push now (Desc blank)) (fields_behind at (unread ++ length now.nodes ∷ []) (add_parts head.count (push now (Desc blank))) head) (Err f) few h)

  desc_fails : (at : ℕ) (unread : List ℕ) (now : Progress) (bs : List ℕ) → InDesc at R (unread ++ length now.nodes ∷ []) P (push now (Desc blank)) bs → desc_at end at inner unread now bs ≡ Err f
  unfolding desc_at desc_after
  desc_fails at unread now bs (in_desc_name h) = err_first (short_at end bs) _ f (short_fails bs h)
  desc_fails at unread now bs (at_count name suid flags a b c h) =
      ok_first (short_at end bs) _ name _ (has_text end bs name a) (ok_first (number_at w64 name.1) _ suid _ (has_number w64 name.1 suid b) (ok_first (byte_at suid.1) _ flags _ (has_byte suid.1 flags c)
      (err_first (desc_after end at inner (unread ++ length now.nodes ∷ []) name.0 suid.0 flags.0 (push now (Desc blank)) flags.1) _ f (err_first (size_at end w16 32768 flags.1) _ f (size_fails w16 32768 flags.1 h)))))
  desc_fails at unread now bs (too_many_fields head e many same) = head_fails at unread now bs head (has_head end bs head e) (rw (lt-ltb PARTS (now.parts + head.count) many) (ap (λ z. Err z) (sym same)))
  desc_fails at unread now bs (in_field head done fields later there e few lt read h) =
      fields_fail at unread now bs head (has_head end bs head e) few (err_first (many_at (field_at end at (inner places.Text (unread ++ length now.nodes ∷ []))) head.count (add_parts head.count (push now (Desc blank))) head.rest) _ f
      (many_fails (field_at end at (inner places.Text (unread ++ length now.nodes ∷ []))) head.count done (add_parts head.count (push now (Desc blank))) head.rest (fields, later, there) f lt ((fields_same at (unread ++ length now.nodes ∷ []) done).from (add_parts head.count (push now (Desc blank))) head.rest (fields, later, there) read) (field_fails at (unread ++ length now.nodes ∷ []) later there h)))
  desc_fails at unread now bs (breaks_rule d wrong same) =
      fields_fail at unread now bs d.head (has_head end bs d.head d.begins) d.few (ok_first (many_at (field_at end at (inner places.Text (unread ++ length now.nodes ∷ []))) d.head.count (add_parts d.head.count (push now (Desc blank))) d.head.rest) _ (d.fields, d.later, d.there) _ ((fields_same at (unread ++ length now.nodes ∷ []) d.head.count).from (add_parts d.head.count (push now (Desc blank))) d.head.rest (d.fields, d.later, d.there) d.read) (rw wrong (ap (λ z. Err z) (sym same))))
  desc_fails at unread now bs (in_note d good h) =
      fields_fail at unread now bs d.head (has_head end bs d.head d.begins) d.few (ok_first (many_at (field_at end at (inner places.Text (unread ++ length now.nodes ∷ []))) d.head.count (add_parts d.head.count (push now (Desc blank))) d.head.rest) _ (d.fields, d.later, d.there) _ ((fields_same at (unread ++ length now.nodes ∷ []) d.head.count).from (add_parts d.head.count (push now (Desc blank))) d.head.rest (d.fields, d.later, d.there) d.read)
      (rw good (err_first (items_at end (inner places.Reference (unread ++ length now.nodes ∷ [])) true d.later d.there) _ f (note_fails (unread ++ length now.nodes ∷ []) d.later d.there h))))
  desc_fails at unread now bs (at_parent d note good read h) =
      fields_fail at unread now bs d.head (has_head end bs d.head d.begins) d.few (ok_first (many_at (field_at end at (inner places.Text (unread ++ length now.nodes ∷ []))) d.head.count (add_parts d.head.count (push now (Desc blank))) d.head.rest) _ (d.fields, d.later, d.there) _ ((fields_same at (unread ++ length now.nodes ∷ []) d.head.count).from (add_parts d.head.count (push now (Desc blank))) d.head.rest (d.fields, d.later, d.there) d.read)
      (rw good (ok_first (items_at end (inner places.Reference (unread ++ length now.nodes ∷ [])) true d.later d.there) _ note _ ((note_same (unread ++ length now.nodes ∷ [])).from d.later d.there note read)
      (err_first (inner places.Parent (unread ++ length now.nodes ∷ []) note.1 note.2) _ f (level.up places.Parent (unread ++ length now.nodes ∷ []) note.1 note.2 h)))))

  -- ---- proxies

  interface_stops : (now : Progress) (bs : List ℕ) → plain (short_at end) now bs ≡ Err f → InText P bs
  interface_stops now bs e = short_stops bs (then_err (short_at end bs) _ f e)

  interface_fails : (now : Progress) (bs : List ℕ) → InText P bs → plain (short_at end) now bs ≡ Err f
  interface_fails now bs h = err_first (short_at end bs) _ f (short_fails bs h)

  -- the names of a proxy's interfaces, which are counted, and what stands behind them
  abbrev names_behind : List ℕ → Progress → ℕ × List ℕ → Result (Slot × Progress × List ℕ) Fault
  names_behind unread now n =
      many_at (plain (short_at end)) n.0 (add_parts n.0 (push now (Desc blank))) n.1 >>= λ names.
      items_at end (inner places.Reference (unread ++ length now.nodes ∷ [])) true names.1 names.2 >>= λ is.
      inner places.Parent (unread ++ length now.nodes ∷ []) is.1 is.2 >>= λ p.
      Ok (slots.Node (length now.nodes), fill p.1 (length now.nodes) (Proxy (record { names = names.0; note = is.0; parent = p.0 })), p.2)

  proxy_stops : (at : ℕ) (unread : List ℕ) (now : Progress) (bs : List ℕ) → proxy_at end at inner unread now bs ≡ Err f → InProxy at R (unread ++ length now.nodes ∷ []) P (push now (Desc blank)) bs
  unfolding proxy_at
  proxy_stops at unread now bs e = elim (bind_err (size_at end w32 (2 ^ 31) bs) _ f e) [
    | inl h ↦ at_names (size_stops w32 (2 ^ 31) bs h)
    | inr n ↦ elim (chosen (ltb PARTS (now.parts + n.0.0)) _ _ _ n.2) [
      | inl p ↦ too_many_names n.0 (size_has end w32 (2 ^ 31) bs n.0 n.1) (ltb-true PARTS (now.parts + n.0.0) p.0) (sym (err_is _ f p.1))
      | inr p ↦ behind_count n.0 (size_has end w32 (2 ^ 31) bs n.0 n.1) (ltb-false PARTS (now.parts + n.0.0) p.0) p.1
    ]
  ]
    where
      behind_count : (n : ℕ × List ℕ) → HasSize w32 (2 ^ 31) bs n → now.parts + n.0 ≤ PARTS → names_behind unread now n ≡ Err f → InProxy at R (unread ++ length now.nodes ∷ []) P (push now (Desc blank)) bs
      behind_count n begins few e =
          let first = push now (Desc blank) in
          let counted = add_parts n.0 first in
          let open_ones = unread ++ length now.nodes ∷ [] in
          elim (bind_err (many_at (plain (short_at end)) n.0 counted n.1) _ f e) [
            | inl h ↦ (let m = many_stops (plain (short_at end)) n.0 counted n.1 f h in in_interface n m.0 m.2.0 m.2.1 m.2.2 begins few m.1 ((names_same m.0).to counted n.1 m.2 m.3) (interface_stops m.2.1 m.2.2 m.4))
            | inr names ↦ (
                let d : HasInterfaces first bs = record { count = n; begins = begins; few = few; names = names.0.0; later = names.0.1; there = names.0.2; read = (names_same n.0).to counted n.1 names.0 names.1 } in
                elim (bind_err (items_at end (inner places.Reference open_ones) true names.0.1 names.0.2) _ f names.2) [
                  | inl h ↦ in_proxy_note d (note_stops open_ones names.0.1 names.0.2 h)
                  | inr note ↦ at_proxy_parent d note.0 ((note_same open_ones).to names.0.1 names.0.2 note.0 note.1) (level.down places.Parent open_ones note.0.1 note.0.2 (then_err (inner places.Parent open_ones note.0.1 note.0.2) _ f note.2))
                ])
          ]

  -- the names have room
  names_fail : (at : ℕ) (unread : List ℕ) (now : Progress) (bs : List ℕ) (n : ℕ × List ℕ) → HasSize w32 (2 ^ 31) bs n → now.parts + n.0 ≤ PARTS → names_behind unread now n ≡ Err f → proxy_at end at inner unread now bs ≡ Err f
  unfolding proxy_at
  names_fail at unread now bs n begins few h = ok_first (size_at end w32 (2 ^ 31) bs) _ n _ (has_size end w32 (2 ^ 31) bs n begins) (with_room n.0 at (push now (Desc blank)) (names_behind unread now n) (Err f) few h)

  proxy_fails : (at : ℕ) (unread : List ℕ) (now : Progress) (bs : List ℕ) → InProxy at R (unread ++ length now.nodes ∷ []) P (push now (Desc blank)) bs → proxy_at end at inner unread now bs ≡ Err f
  unfolding proxy_at
  proxy_fails at unread now bs (at_names h) = err_first (size_at end w32 (2 ^ 31) bs) _ f (size_fails w32 (2 ^ 31) bs h)
  proxy_fails at unread now bs (too_many_names n begins many same) = ok_first (size_at end w32 (2 ^ 31) bs) _ n _ (has_size end w32 (2 ^ 31) bs n begins) (rw (lt-ltb PARTS (now.parts + n.0) many) (ap (λ z. Err z) (sym same)))
  proxy_fails at unread now bs (in_interface n done names later there begins few lt read h) =
      let counted = add_parts n.0 (push now (Desc blank)) in
      names_fail at unread now bs n begins few (err_first (many_at (plain (short_at end)) n.0 counted n.1) _ f
      (many_fails (plain (short_at end)) n.0 done counted n.1 (names, later, there) f lt ((names_same done).from counted n.1 (names, later, there) read) (interface_fails later there h)))
  proxy_fails at unread now bs (in_proxy_note d h) =
      let counted = add_parts d.count.0 (push now (Desc blank)) in
      names_fail at unread now bs d.count d.begins d.few (ok_first (many_at (plain (short_at end)) d.count.0 counted d.count.1) _ (d.names, d.later, d.there) _ ((names_same d.count.0).from counted d.count.1 (d.names, d.later, d.there) d.read)
      (err_first (items_at end (inner places.Reference (unread ++ length now.nodes ∷ [])) true d.later d.there) _ f (note_fails (unread ++ length now.nodes ∷ []) d.later d.there h)))
  proxy_fails at unread now bs (at_proxy_parent d note read h) =
      let counted = add_parts d.count.0 (push now (Desc blank)) in
      names_fail at unread now bs d.count d.begins d.few (ok_first (many_at (plain (short_at end)) d.count.0 counted d.count.1) _ (d.names, d.later, d.there) _ ((names_same d.count.0).from counted d.count.1 (d.names, d.later, d.there) d.read)
      (ok_first (items_at end (inner places.Reference (unread ++ length now.nodes ∷ [])) true d.later d.there) _ note _ ((note_same (unread ++ length now.nodes ∷ [])).from d.later d.there note read)
      (err_first (inner places.Parent (unread ++ length now.nodes ∷ []) note.1 note.2) _ f (level.up places.Parent (unread ++ length now.nodes ∷ []) note.1 note.2 h))))

  -- ---- values and elements

  plain_firm : {A B : Type 0} (g : A → B) (read : List ℕ → Plain A) → ((bs : List ℕ) → read bs ≡ Err f → ⊥) → (now : Progress) (bs : List ℕ) → map_step g (plain read) now bs ≡ Err f → ⊥
  plain_firm g read none now bs e = none bs (then_err (read bs) _ f (then_err (plain read now bs) _ f e))

  many_firm : {A : Type 0} (step : Step A) → ((now : Progress) (bs : List ℕ) → step now bs ≡ Err f → ⊥) → (n : ℕ) (now : Progress) (bs : List ℕ) → many_at step n now bs ≡ Err f → ⊥
  many_firm step none n now bs e = let m = many_stops step n now bs f e in none m.2.1 m.2.2 m.4

  byte_plain : (now : Progress) (bs : List ℕ) → plain byte_at now bs ≡ Err f → ⊥
  byte_plain now bs e = byte_firm end f firm bs (then_err (byte_at bs) _ f e)

  number_plain : (w : Width) (now : Progress) (bs : List ℕ) → plain (number_at w) now bs ≡ Err f → ⊥
  number_plain w now bs e = number_firm end f firm w bs (then_err (number_at w bs) _ f e)

  abbrev Referred : TypeCode → Result (Slot × Progress × List ℕ) Fault → Type 0
  Referred code read = (is_primitive code ≡ false) × (read ≡ Err f)

  value_stops : (unread : List ℕ) (code : TypeCode) (now : Progress) (bs : List ℕ) → value_at (inner places.Reference unread) code now bs ≡ Err f → Referred code (inner places.Reference unread now bs)
  unfolding value_at
  value_stops unread codes.Byte now bs e = absurd (plain_firm values.Byte byte_at (byte_firm end f firm) now bs e)
  value_stops unread codes.Char now bs e = absurd (plain_firm values.Char (number_at w16) (number_firm end f firm w16) now bs e)
  value_stops unread codes.Double now bs e = absurd (plain_firm values.Double (number_at w64) (number_firm end f firm w64) now bs e)
  value_stops unread codes.Float now bs e = absurd (plain_firm values.Float (number_at w32) (number_firm end f firm w32) now bs e)
  value_stops unread codes.Int now bs e = absurd (plain_firm (λ n. values.Int (cast_signed w32 n)) (number_at w32) (number_firm end f firm w32) now bs e)
  value_stops unread codes.Long now bs e = absurd (plain_firm (λ n. values.Long (cast_signed w64 n)) (number_at w64) (number_firm end f firm w64) now bs e)
  value_stops unread codes.Short now bs e = absurd (plain_firm (λ n. values.Short (cast_signed w16 n)) (number_at w16) (number_firm end f firm w16) now bs e)
  value_stops unread codes.Boolean now bs e = absurd (plain_firm (λ b. values.Boolean (is_true b)) byte_at (byte_firm end f firm) now bs e)
  value_stops unread codes.Array now bs e = (refl, then_err (inner places.Reference unread now bs) _ f e)
  value_stops unread codes.Object now bs e = (refl, then_err (inner places.Reference unread now bs) _ f e)

  value_fails : (unread : List ℕ) (code : TypeCode) (now : Progress) (bs : List ℕ) → Referred code (inner places.Reference unread now bs) → value_at (inner places.Reference unread) code now bs ≡ Err f
  unfolding value_at
  value_fails unread codes.Array now bs (own, h) = err_first (inner places.Reference unread now bs) _ f h
  value_fails unread codes.Object now bs (own, h) = err_first (inner places.Reference unread now bs) _ f h
  value_fails unread codes.Byte now bs (own, h) = absurd cc
  value_fails unread codes.Char now bs (own, h) = absurd cc
  value_fails unread codes.Double now bs (own, h) = absurd cc
  value_fails unread codes.Float now bs (own, h) = absurd cc
  value_fails unread codes.Int now bs (own, h) = absurd cc
  value_fails unread codes.Long now bs (own, h) = absurd cc
  value_fails unread codes.Short now bs (own, h) = absurd cc
  value_fails unread codes.Boolean now bs (own, h) = absurd cc

  -- behind so many values
  record AtValue (unread : List ℕ) (fs : List FieldDesc) (now : Progress) (bs : List ℕ) : Type 0 where
    done : List FieldDesc
    field : FieldDesc
    fields : List FieldDesc
    are : fs ≡ done ++ field ∷ fields
    own : is_primitive field.code ≡ false
    x : List Value × Progress × List ℕ
    read : values_at (inner places.Reference unread) done now bs ≡ Ok x
    stops : inner places.Reference unread x.1 x.2 ≡ Err f

  values_stop : (unread : List ℕ) (fs : List FieldDesc) (now : Progress) (bs : List ℕ) → values_at (inner places.Reference unread) fs now bs ≡ Err f → AtValue unread fs now bs
  unfolding values_at
  values_stop unread [] now bs e = absurd cc
  values_stop unread (d ∷ fs) now bs e = elim (bind_err (value_at (inner places.Reference unread) d.code now bs) _ f e) [
    | inl h ↦ (let v = value_stops unread d.code now bs h in record { done = []; field = d; fields = fs; are = refl; own = v.0; x = ([], now, bs); read = refl; stops = v.1 })
    | inr v ↦ (
        let m = values_stop unread fs v.0.1 v.0.2 (then_err (values_at (inner places.Reference unread) fs v.0.1 v.0.2) _ f v.2) in
        record {
          done = d ∷ m.done;
          field = m.field;
          fields = m.fields;
          are = ap (λ (l : List FieldDesc). d ∷ l) m.are;
          own = m.own;
          x = (v.0.0 ∷ m.x.0, m.x.1, m.x.2);
          read = ok_first (value_at (inner places.Reference unread) d.code now bs) _ v.0 _ v.1 (ok_first (values_at (inner places.Reference unread) m.done v.0.1 v.0.2) _ m.x _ m.read refl);
          stops = m.stops;
        })
  ]

  values_fail : (unread : List ℕ) (done : List FieldDesc) (field : FieldDesc) (fields : List FieldDesc) (now : Progress) (bs : List ℕ) (x : List Value × Progress × List ℕ) → is_primitive field.code ≡ false → values_at (inner places.Reference unread) done now bs ≡ Ok x
      → inner places.Reference unread x.1 x.2 ≡ Err f → values_at (inner places.Reference unread) (done ++ field ∷ fields) now bs ≡ Err f
  unfolding values_at
  values_fail unread [] field fields now bs x own e h =
      let same : ([], now, bs) ≡ x = ok_is {A = List Value × Progress × List ℕ} ([], now, bs) x e in
      err_first (value_at (inner places.Reference unread) field.code now bs) _ f (value_fails unread field.code now bs (own, subst (λ (y : List Value × Progress × List ℕ). inner places.Reference unread y.1 y.2 ≡ Err f) (sym same) h))
  values_fail unread (d ∷ done) field fields now bs x own e h =
      let a = bind_ok (value_at (inner places.Reference unread) d.code now bs) _ x e in
      let b = bind_ok (values_at (inner places.Reference unread) done a.0.1 a.0.2) _ x a.2 in
      let same : (a.0.0 ∷ b.0.0, b.0.1, b.0.2) ≡ x = ok_is {A = List Value × Progress × List ℕ} (a.0.0 ∷ b.0.0, b.0.1, b.0.2) x b.2 in
      let more = values_fail unread done field fields a.0.1 a.0.2 b.0 own b.1 (subst (λ (y : List Value × Progress × List ℕ). inner places.Reference unread y.1 y.2 ≡ Err f) (sym same) h) in
      ok_first (value_at (inner places.Reference unread) d.code now bs) _ a.0 _ a.1 (err_first (values_at (inner places.Reference unread) (done ++ field ∷ fields) a.0.1 a.0.2) _ f more)

  abbrev Elements : TypeCode → Result (List Slot × Progress × List ℕ) Fault → Type 0
  Elements code read = (is_primitive code ≡ false) × (read ≡ Err f)

  elements_stop : (unread : List ℕ) (code : TypeCode) (n : ℕ) (now : Progress) (bs : List ℕ) → elements_at (inner places.Reference unread) code n now bs ≡ Err f → Elements code (many_at (inner places.Reference unread) n now bs)
  unfolding elements_at
  elements_stop unread codes.Byte n now bs e = absurd (many_firm (plain byte_at) byte_plain n now bs (then_err (many_at (plain byte_at) n now bs) _ f e))
  elements_stop unread codes.Char n now bs e = absurd (many_firm (plain (number_at w16)) (number_plain w16) n now bs (then_err (many_at (plain (number_at w16)) n now bs) _ f e))
  elements_stop unread codes.Double n now bs e = absurd (many_firm (plain (number_at w64)) (number_plain w64) n now bs (then_err (many_at (plain (number_at w64)) n now bs) _ f e))
  elements_stop unread codes.Float n now bs e = absurd (many_firm (plain (number_at w32)) (number_plain w32) n now bs (then_err (many_at (plain (number_at w32)) n now bs) _ f e))
  elements_stop unread codes.Int n now bs e =
      let step : Step ℤ = map_step (λ k. cast_signed w32 k) (plain (number_at w32)) in
      absurd (many_firm step (plain_firm (λ k. cast_signed w32 k) (number_at w32) (number_firm end f firm w32)) n now bs (then_err (many_at step n now bs) _ f e))
  elements_stop unread codes.Long n now bs e =
      let step : Step ℤ = map_step (λ k. cast_signed w64 k) (plain (number_at w64)) in
      absurd (many_firm step (plain_firm (λ k. cast_signed w64 k) (number_at w64) (number_firm end f firm w64)) n now bs (then_err (many_at step n now bs) _ f e))
  elements_stop unread codes.Short n now bs e =
      let step : Step ℤ = map_step (λ k. cast_signed w16 k) (plain (number_at w16)) in
      absurd (many_firm step (plain_firm (λ k. cast_signed w16 k) (number_at w16) (number_firm end f firm w16)) n now bs (then_err (many_at step n now bs) _ f e))
  elements_stop unread codes.Boolean n now bs e =
      let step : Step Bool = map_step is_true (plain byte_at) in
      absurd (many_firm step (plain_firm is_true byte_at (byte_firm end f firm)) n now bs (then_err (many_at step n now bs) _ f e))
  elements_stop unread codes.Array n now bs e = (refl, then_err (many_at (inner places.Reference unread) n now bs) _ f e)
  elements_stop unread codes.Object n now bs e = (refl, then_err (many_at (inner places.Reference unread) n now bs) _ f e)

  elements_fail : (unread : List ℕ) (code : TypeCode) (n : ℕ) (now : Progress) (bs : List ℕ) → Elements code (many_at (inner places.Reference unread) n now bs) → elements_at (inner places.Reference unread) code n now bs ≡ Err f
  unfolding elements_at
  elements_fail unread codes.Array n now bs (own, h) = err_first (many_at (inner places.Reference unread) n now bs) _ f h
  elements_fail unread codes.Object n now bs (own, h) = err_first (many_at (inner places.Reference unread) n now bs) _ f h
  elements_fail unread codes.Byte n now bs (own, h) = absurd cc
  elements_fail unread codes.Char n now bs (own, h) = absurd cc
  elements_fail unread codes.Double n now bs (own, h) = absurd cc
  elements_fail unread codes.Float n now bs (own, h) = absurd cc
  elements_fail unread codes.Int n now bs (own, h) = absurd cc
  elements_fail unread codes.Long n now bs (own, h) = absurd cc
  elements_fail unread codes.Short n now bs (own, h) = absurd cc
  elements_fail unread codes.Boolean n now bs (own, h) = absurd cc

  -- ---- parts of objects

  optional_stops : (unread : List ℕ) (b : Bool) (now : Progress) (bs : List ℕ) → note_at end (inner places.Reference unread) b now bs ≡ Err f → (b ≡ true) × InNote R unread P now bs
  unfolding note_at
  optional_stops unread true now bs e = (refl, note_stops unread now bs e)
  optional_stops unread false now bs e = absurd cc

  parts_stop : (unread : List ℕ) (rows : List Row) (now : Progress) (bs : List ℕ) → parts_at end (inner places.Reference unread) rows now bs ≡ Err f → InParts R unread P rows now bs
  unfolding parts_at
  parts_stop unread [] now bs e = absurd cc
  parts_stop unread (r ∷ rs) now bs e = elim (bind_err (values_at (inner places.Reference unread) r.0 now bs) _ f e) [
    | inl h ↦ (
        let v = values_stop unread r.0 now bs h in
        record { before = []; row = r; behind = rs; are = refl; parts = []; later = now; there = bs; read = refl; next = inl (v.done, v.field, v.fields, v.are, v.own, v.x, (values_same unread v.done).to now bs v.x v.read, level.down places.Reference unread v.x.1 v.x.2 v.stops) })
    | inr vs ↦ elim (bind_err (note_at end (inner places.Reference unread) r.1 vs.0.1 vs.0.2) _ f vs.2) [
      | inl h ↦ (
          let n = optional_stops unread r.1 vs.0.1 vs.0.2 h in
          record { before = []; row = r; behind = rs; are = refl; parts = []; later = now; there = bs; read = refl; next = inr (n.0, vs.0, (values_same unread r.0).to now bs vs.0 vs.1, n.1) })
      | inr is ↦ (
          let m = parts_stop unread rs is.0.1 is.0.2 (then_err (parts_at end (inner places.Reference unread) rs is.0.1 is.0.2) _ f is.2) in
          record {
            before = r ∷ m.before;
            row = m.row;
            behind = m.behind;
            are = ap (λ (l : List Row). r ∷ l) m.are;
            parts = part vs.0.0 is.0.0 ∷ m.parts;
            later = m.later;
            there = m.there;
            read = (vs.0, (values_same unread r.0).to now bs vs.0 vs.1, is.0, (same_note_if end (inner places.Reference unread) (R places.Reference unread) (level.reads.at places.Reference unread) r.1).to vs.0.1 vs.0.2 is.0 is.1, (m.parts, m.later, m.there), m.read, refl);
            next = m.next;
          })
    ]
  ]

  -- what comes next in the part that fails
  abbrev NextPart : List ℕ → Row → Progress → List ℕ → Type 0
  NextPart unread row later there = ((done : List FieldDesc) × (field : FieldDesc) × (fields : List FieldDesc) × (row.0 ≡ done ++ field ∷ fields) × (is_primitive field.code ≡ false)
      × (x : List Value × Progress × List ℕ) × HasValues (R places.Reference unread) done later there x × P (a_reference places.Reference unread x.1) x.2)
      ⊎ ((row.1 ≡ true) × (x : List Value × Progress × List ℕ) × HasValues (R places.Reference unread) row.0 later there x × InNote R unread P x.1 x.2)

  row_fails : (unread : List ℕ) (row : Row) (behind : List Row) (now : Progress) (bs : List ℕ) → NextPart unread row now bs → parts_at end (inner places.Reference unread) (row ∷ behind) now bs ≡ Err f
  unfolding parts_at note_at
  row_fails unread row behind now bs (inl (done, field, fields, are, own, x, read, h)) =
      err_first (values_at (inner places.Reference unread) row.0 now bs) _ f (ap (λ (l : List FieldDesc). values_at (inner places.Reference unread) l now bs) are ∙ values_fail unread done field fields now bs x own ((values_same unread done).from now bs x read) (level.up places.Reference unread x.1 x.2 h))
  row_fails unread row behind now bs (inr (noted, x, read, h)) =
      ok_first (values_at (inner places.Reference unread) row.0 now bs) _ x _ ((values_same unread row.0).from now bs x read) (err_first (note_at end (inner places.Reference unread) row.1 x.1 x.2) _ f (ap (λ b. note_at end (inner places.Reference unread) b x.1 x.2) noted ∙ note_fails unread x.1 x.2 h))

  parts_fail : (unread : List ℕ) (before : List Row) (row : Row) (behind : List Row) (now : Progress) (bs : List ℕ) (x : List Part × Progress × List ℕ) → parts_at end (inner places.Reference unread) before now bs ≡ Ok x → NextPart unread row x.1 x.2
      → parts_at end (inner places.Reference unread) (before ++ row ∷ behind) now bs ≡ Err f
  unfolding parts_at
  parts_fail unread [] row behind now bs x e h =
      let same : ([], now, bs) ≡ x = ok_is {A = List Part × Progress × List ℕ} ([], now, bs) x e in
      row_fails unread row behind now bs (subst (λ (y : List Part × Progress × List ℕ). NextPart unread row y.1 y.2) (sym same) h)
  parts_fail unread (r ∷ before) row behind now bs x e h =
      let a = bind_ok (values_at (inner places.Reference unread) r.0 now bs) _ x e in
      let b = bind_ok (note_at end (inner places.Reference unread) r.1 a.0.1 a.0.2) _ x a.2 in
      let c = bind_ok (parts_at end (inner places.Reference unread) before b.0.1 b.0.2) _ x b.2 in
      let same : (part a.0.0 b.0.0 ∷ c.0.0, c.0.1, c.0.2) ≡ x = ok_is {A = List Part × Progress × List ℕ} (part a.0.0 b.0.0 ∷ c.0.0, c.0.1, c.0.2) x c.2 in
      let more = parts_fail unread before row behind b.0.1 b.0.2 c.0 c.1 (subst (λ (y : List Part × Progress × List ℕ). NextPart unread row y.1 y.2) (sym same) h) in
      ok_first (values_at (inner places.Reference unread) r.0 now bs) _ a.0 _ a.1 (ok_first (note_at end (inner places.Reference unread) r.1 a.0.1 a.0.2) _ b.0 _ b.1 (err_first (parts_at end (inner places.Reference unread) (before ++ row ∷ behind) b.0.1 b.0.2) _ f more))

  -- ---- behind the class

  object_stops : (at : ℕ) (unread : List ℕ) (class : ℕ) (now : Progress) (bs : List ℕ) → object_at end at (inner places.Reference unread) class now bs ≡ Err f → InObject at R unread P class now bs
  unfolding object_at object_after
  object_stops at unread class now bs e = elim (chosen (ltb PARTS (now.parts + sizes_of (rows_in now class))) _ _ _ e) [
    | inl p ↦ too_many_parts (ltb-true PARTS (now.parts + sizes_of (rows_in now class)) p.0) (sym (err_is _ f p.1))
    | inr p ↦ by (ltb-false PARTS (now.parts + sizes_of (rows_in now class)) p.0) (class_fault (slice_get now.nodes class) (chain_of PARTS now.nodes (slots.Node class)).1) refl p.1
  ]
    where
      by : now.parts + sizes_of (rows_in now class) ≤ PARTS → (o : Option FaultKind) → class_fault (slice_get now.nodes class) (chain_of PARTS now.nodes (slots.Node class)).1 ≡ o
          → unless o at (object_after end (inner places.Reference unread) class (rows_in now class) now bs) ≡ Err f → InObject at R unread P class now bs
      by few (Some kind) is e = no_objects kind few is (sym (err_is _ f e))
      by few None is e = in_parts few is (parts_stop unread (rows_in now class) (with_object now class) bs (then_err (parts_at end (inner places.Reference unread) (rows_in now class) (with_object now class) bs) _ f e))

  object_fails : (at : ℕ) (unread : List ℕ) (class : ℕ) (now : Progress) (bs : List ℕ) → InObject at R unread P class now bs → object_at end at (inner places.Reference unread) class now bs ≡ Err f
  unfolding object_at object_after
  object_fails at unread class now bs (too_many_parts many same) = rw (lt-ltb PARTS (now.parts + sizes_of (rows_in now class)) many) (ap (λ z. Err z) (sym same))
  object_fails at unread class now bs (no_objects kind few is same) = rw (le-ltb PARTS (now.parts + sizes_of (rows_in now class)) few) (rw is (ap (λ z. Err z) (sym same)))
  object_fails at unread class now bs (in_parts few is h) =
      let m : parts_at end (inner places.Reference unread) (h.before ++ h.row ∷ h.behind) (with_object now class) bs ≡ Err f = parts_fail unread h.before h.row h.behind (with_object now class) bs (h.parts, h.later, h.there) ((parts_same unread h.before).from (with_object now class) bs (h.parts, h.later, h.there) h.read) h.next in
      let n : parts_at end (inner places.Reference unread) (rows_in now class) (with_object now class) bs ≡ Err f = ap (λ (l : List Row). parts_at end (inner places.Reference unread) l (with_object now class) bs) h.are ∙ m in
      rw (le-ltb PARTS (now.parts + sizes_of (rows_in now class)) few) (rw is (err_first (parts_at end (inner places.Reference unread) (rows_in now class) (with_object now class) bs) _ f n))

  array_stops : (at : ℕ) (unread : List ℕ) (class : ℕ) (now : Progress) (bs : List ℕ) → array_at end at (inner places.Reference unread) class now bs ≡ Err f → InArray at R unread P class now bs
  unfolding array_at array_of
  array_stops at unread class now bs e = by (type_in (slice_get now.nodes class)) refl e
    where
      by : (o : Option TypeCode) → type_in (slice_get now.nodes class) ≡ o → array_of end at (inner places.Reference unread) class o now bs ≡ Err f → InArray at R unread P class now bs
      by None is e = no_array is (sym (err_is _ f e))
      by (Some code) is e = elim (bind_err (size_at end w32 (2 ^ 31) bs) _ f e) [
        | inl h ↦ at_size code is (size_stops w32 (2 ^ 31) bs h)
        | inr n ↦ elim (chosen (ltb PARTS (now.parts + refs_among code n.0.0)) _ _ _ n.2) [
          | inl p ↦ too_many_elements code n.0 is (size_has end w32 (2 ^ 31) bs n.0 n.1) (ltb-true PARTS (now.parts + refs_among code n.0.0) p.0) (sym (err_is _ f p.1))
          | inr p ↦ (
              let first = add_parts (refs_among code n.0.0) (push now (Array class (kinds.Bytes []))) in
              let own = elements_stop unread code n.0.0 first n.0.1 (then_err (elements_at (inner places.Reference unread) code n.0.0 first n.0.1) _ f p.1) in
              let m = many_stops (inner places.Reference unread) n.0.0 first n.0.1 f own.1 in
              at_element code n.0 m.0 m.2 is own.0 (size_has end w32 (2 ^ 31) bs n.0 n.1) (ltb-false PARTS (now.parts + refs_among code n.0.0) p.0) m.1 ((refs_same unread m.0).to first n.0.1 m.2 m.3) (level.down places.Reference unread m.2.1 m.2.2 m.4))
        ]
      ]

  array_opens : (at : ℕ) (unread : List ℕ) (class : ℕ) (now : Progress) (bs : List ℕ) (o : Option TypeCode) → type_in (slice_get now.nodes class) ≡ o → array_of end at (inner places.Reference unread) class o now bs ≡ Err f → array_at end at (inner places.Reference unread) class now bs ≡ Err f
  unfolding array_at
  array_opens at unread class now bs o is h = ap (λ o. array_of end at (inner places.Reference unread) class o now bs) is ∙ h

  array_fails : (at : ℕ) (unread : List ℕ) (class : ℕ) (now : Progress) (bs : List ℕ) → InArray at R unread P class now bs → array_at end at (inner places.Reference unread) class now bs ≡ Err f
  unfolding array_of
  array_fails at unread class now bs (no_array is same) = array_opens at unread class now bs None is (ap (λ z. Err z) (sym same))
  array_fails at unread class now bs (at_size code is h) = array_opens at unread class now bs (Some code) is (err_first (size_at end w32 (2 ^ 31) bs) _ f (size_fails w32 (2 ^ 31) bs h))
  array_fails at unread class now bs (too_many_elements code n is sized many same) =
      array_opens at unread class now bs (Some code) is (ok_first (size_at end w32 (2 ^ 31) bs) _ n _ (has_size end w32 (2 ^ 31) bs n sized) (rw (lt-ltb PARTS (now.parts + refs_among code n.0) many) (ap (λ z. Err z) (sym same))))
  array_fails at unread class now bs (at_element code n done x is own sized few lt read h) =
      let more = refs_among code n.0 in
      let first = add_parts more (push now (Array class (kinds.Bytes []))) in
      array_opens at unread class now bs (Some code) is (ok_first (size_at end w32 (2 ^ 31) bs) _ n _ (has_size end w32 (2 ^ 31) bs n sized)
      (with_room more at (push now (Array class (kinds.Bytes []))) (elements_at (inner places.Reference unread) code n.0 first n.1 >>= λ vs. Ok (slots.Node (length now.nodes), fill vs.1 (length now.nodes) (Array class vs.0), vs.2)) (Err f) few (err_first (elements_at (inner places.Reference unread) code n.0 first n.1) _ f
      (elements_fail unread code n.0 first n.1 (own, many_fails (inner places.Reference unread) n.0 done first n.1 x f lt ((refs_same unread done).from first n.1 x read) (level.up places.Reference unread x.1 x.2 h))))))

  named_firm : (class n : ℕ) (x : Slot × Progress × List ℕ) → named class n x ≡ Err f → ⊥
  named_firm class n (slots.Null, now, bs) e = firm (sym (err_is short f e))
  named_firm class n (slots.Node t, now, bs) e = cc

  enum_stops : (at : ℕ) (unread : List ℕ) (class : ℕ) (now : Progress) (bs : List ℕ) → enum_at at (inner places.Text unread) class now bs ≡ Err f → InEnum at unread P class now bs
  unfolding enum_at
  enum_stops at unread class now bs e = elim (chosen (is_enum (slice_get now.nodes class)) _ _ _ e) [
    | inr p ↦ no_enum p.0 (sym (err_is _ f p.1))
    | inl p ↦ elim (bind_err (inner places.Text unread (push now (Enum class 0)) bs) _ f p.1) [
      | inl h ↦ at_constant p.0 (level.down places.Text unread (push now (Enum class 0)) bs h)
      | inr x ↦ absurd (named_firm class (length now.nodes) x.0 x.2)
    ]
  ]

  enum_fails : (at : ℕ) (unread : List ℕ) (class : ℕ) (now : Progress) (bs : List ℕ) → InEnum at unread P class now bs → enum_at at (inner places.Text unread) class now bs ≡ Err f
  unfolding enum_at
  enum_fails at unread class now bs (no_enum is same) = rw is (ap (λ z. Err z) (sym same))
  enum_fails at unread class now bs (at_constant is h) = rw is (err_first (inner places.Text unread (push now (Enum class 0)) bs) _ f (level.up places.Text unread (push now (Enum class 0)) bs h))

  -- ---- constructs that begin with their class

  -- what stands behind a class
  record Own (at : ℕ) (unread : List ℕ) (code : ℕ) (own : ℕ → Step Slot) : Type 0 where
    stops : (class : ℕ) (now : Progress) (bs : List ℕ) → length now.nodes < NODES → own class now bs ≡ Err f → InClassed at R unread P code class now bs
    fails : (class : ℕ) (now : Progress) (bs : List ℕ) → InClassed at R unread P code class now bs → roomy now at (own class now bs) ≡ Err f

  class_stops : (at : ℕ) (unread : List ℕ) (code : ℕ) (own : ℕ → Step Slot) → BeginsWithClass code → Own at unread code own → (now : Progress) (bs : List ℕ) → with_class inner unread at own now bs ≡ Err f → InConstruct at R unread P code now bs
  unfolding with_class
  class_stops at unread code own begins h now bs e = elim (bind_err (inner places.Class unread now bs) _ f e) [
    | inl g ↦ at_class begins (level.down places.Class unread now bs g)
    | inr x ↦ by x.0 x.1 x.2
  ]
    where
      by : (x : Slot × Progress × List ℕ) → inner places.Class unread now bs ≡ Ok x → on_class at own x ≡ Err f → InConstruct at R unread P code now bs
      by (slots.Null, later, rest) read e = absurd (level.some unread now later bs rest read)
      by (slots.Node class, later, rest) read e = elim (chosen (ltb (length later.nodes) NODES) _ _ _ e) [
        | inl p ↦ behind_class class later rest begins ((level.reads.at places.Class unread).to now bs (slots.Node class, later, rest) read) (h.stops class later rest (ltb-true (length later.nodes) NODES p.0) p.1)
        | inr p ↦ behind_class class later rest begins ((level.reads.at places.Class unread).to now bs (slots.Node class, later, rest) read) (full (ltb-false (length later.nodes) NODES p.0) (sym (err_is _ f p.1)))
      ]

  class_first_fails : (at : ℕ) (unread : List ℕ) (own : ℕ → Step Slot) (now : Progress) (bs : List ℕ) → P (a_reference places.Class unread now) bs → with_class inner unread at own now bs ≡ Err f
  unfolding with_class
  class_first_fails at unread own now bs h = err_first (inner places.Class unread now bs) _ f (level.up places.Class unread now bs h)

  class_fails : (at : ℕ) (unread : List ℕ) (code : ℕ) (own : ℕ → Step Slot) → Own at unread code own → (class : ℕ) (now later : Progress) (bs rest : List ℕ) → inner places.Class unread now bs ≡ Ok (slots.Node class, later, rest) → InClassed at R unread P code class later rest
      → with_class inner unread at own now bs ≡ Err f
  unfolding with_class
  class_fails at unread code own o class now later bs rest read h = ok_first (inner places.Class unread now bs) _ (slots.Node class, later, rest) _ read (o.fails class later rest h)

  full_fails : (at : ℕ) (own : Result (Slot × Progress × List ℕ) Fault) (now : Progress) → NODES ≤ length now.nodes → f ≡ too_many at → roomy now at own ≡ Err f
  full_fails at own now many same = rw (le-ltb (length now.nodes) NODES many) (ap (λ z. Err z) (sym same))

  room_fails : (at : ℕ) (own : Result (Slot × Progress × List ℕ) Fault) (now : Progress) → length now.nodes < NODES → own ≡ Err f → roomy now at own ≡ Err f
  room_fails at own now few e = rw (lt-ltb (length now.nodes) NODES few) e

  own_object : (at : ℕ) (unread : List ℕ) → Own at unread 0x73 (object_at end at (inner places.Reference unread))
  own_object at unread = record {
    stops = λ class now bs few e. in_object refl few (object_stops at unread class now bs e);
    fails = by;
  }
    where
      by : (class : ℕ) (now : Progress) (bs : List ℕ) → InClassed at R unread P 0x73 class now bs → roomy now at (object_at end at (inner places.Reference unread) class now bs) ≡ Err f
      by class now bs (full many same) = full_fails at _ now many same
      by class now bs (in_object is few h) = room_fails at _ now few (object_fails at unread class now bs h)
      by class now bs (in_array is few h) = absurd (eqb-false 0x73 0x75 refl is)
      by class now bs (in_enum is few h) = absurd (eqb-false 0x73 0x7E refl is)

  own_array : (at : ℕ) (unread : List ℕ) → Own at unread 0x75 (array_at end at (inner places.Reference unread))
  own_array at unread = record {
    stops = λ class now bs few e. in_array refl few (array_stops at unread class now bs e);
    fails = by;
  }
    where
      by : (class : ℕ) (now : Progress) (bs : List ℕ) → InClassed at R unread P 0x75 class now bs → roomy now at (array_at end at (inner places.Reference unread) class now bs) ≡ Err f
      by class now bs (full many same) = full_fails at _ now many same
      by class now bs (in_array is few h) = room_fails at _ now few (array_fails at unread class now bs h)
      by class now bs (in_object is few h) = absurd (eqb-false 0x75 0x73 refl is)
      by class now bs (in_enum is few h) = absurd (eqb-false 0x75 0x7E refl is)

  own_class : (at : ℕ) (unread : List ℕ) → Own at unread 0x76 class_at
  unfolding class_at
  own_class at unread = record { stops = λ class now bs few e. absurd cc; fails = by }
    where
      by : (class : ℕ) (now : Progress) (bs : List ℕ) → InClassed at R unread P 0x76 class now bs → roomy now at (class_at class now bs) ≡ Err f
      by class now bs (full many same) = full_fails at _ now many same
      by class now bs (in_object is few h) = absurd (eqb-false 0x76 0x73 refl is)
      by class now bs (in_array is few h) = absurd (eqb-false 0x76 0x75 refl is)
      by class now bs (in_enum is few h) = absurd (eqb-false 0x76 0x7E refl is)

  own_enum : (at : ℕ) (unread : List ℕ) → Own at unread 0x7E (enum_at at (inner places.Text unread))
  own_enum at unread = record {
    stops = λ class now bs few e. in_enum refl few (enum_stops at unread class now bs e);
    fails = by;
  }
    where
      by : (class : ℕ) (now : Progress) (bs : List ℕ) → InClassed at R unread P 0x7E class now bs → roomy now at (enum_at at (inner places.Text unread) class now bs) ≡ Err f
      by class now bs (full many same) = full_fails at _ now many same
      by class now bs (in_enum is few h) = room_fails at _ now few (enum_fails at unread class now bs h)
      by class now bs (in_object is few h) = absurd (eqb-false 0x7E 0x73 refl is)
      by class now bs (in_array is few h) = absurd (eqb-false 0x7E 0x75 refl is)

  -- ---- any construct

  -- the same with a code that is known
  recoded : (at : ℕ) (unread : List ℕ) (c code : ℕ) (now : Progress) (bs : List ℕ) → eqb code c ≡ true → InConstruct at R unread P c now bs → InConstruct at R unread P code now bs
  recoded at unread c code now bs e h = subst (λ k. InConstruct at R unread P k now bs) (sym (eqb-true code c e)) h

  fresh_stops : (at : ℕ) (unread : List ℕ) (code : ℕ) (now : Progress) (bs : List ℕ) → gives_handle code ≡ true → fresh_at end at inner unread code now bs ≡ Err f → InConstruct at R unread P code now bs
  unfolding fresh_at text_at
  fresh_stops at unread code now bs gives e =
      elim (chosen (eqb code 0x72) _ _ _ e) [
        | inl p ↦ recoded at unread 0x72 code now bs p.0 (in_desc refl (desc_stops at unread now bs p.1))
        | inr p ↦ elim (chosen (eqb code 0x73) _ _ _ p.1) [
          | inl q ↦ recoded at unread 0x73 code now bs q.0 (class_stops at unread 0x73 (object_at end at (inner places.Reference unread)) (inl refl) (own_object at unread) now bs q.1)
          | inr q ↦ elim (chosen (eqb code 0x74) _ _ _ q.1) [
            | inl r ↦ recoded at unread 0x74 code now bs r.0 (in_text refl (short_stops bs (then_err (short_at end bs) _ f r.1)))
            | inr r ↦ elim (chosen (eqb code 0x75) _ _ _ r.1) [
              | inl s ↦ recoded at unread 0x75 code now bs s.0 (class_stops at unread 0x75 (array_at end at (inner places.Reference unread)) (inr (inl refl)) (own_array at unread) now bs s.1)
              | inr s ↦ elim (chosen (eqb code 0x76) _ _ _ s.1) [
                | inl t ↦ recoded at unread 0x76 code now bs t.0 (class_stops at unread 0x76 class_at (inr (inr (inl refl))) (own_class at unread) now bs t.1)
                | inr t ↦ elim (chosen (eqb code 0x7C) _ _ _ t.1) [
                  | inl u ↦ recoded at unread 0x7C code now bs u.0 (in_long_text refl (long_stops bs (then_err (long_at end bs) _ f u.1)))
                  | inr u ↦ elim (chosen (eqb code 0x7D) _ _ _ u.1) [
                    | inl v ↦ recoded at unread 0x7D code now bs v.0 (in_proxy refl (proxy_stops at unread now bs v.1))
                    | inr v ↦ elim (chosen (eqb code 0x7E) _ _ _ v.1) [
                      | inl w ↦ recoded at unread 0x7E code now bs w.0 (class_stops at unread 0x7E (enum_at at (inner places.Text unread)) (inr (inr (inr refl))) (own_enum at unread) now bs w.1)
                      | inr w ↦ absurd (code_known code gives p.0 q.0 r.0 s.0 t.0 u.0 v.0 w.0)
                    ]
                  ]
                ]
              ]
            ]
          ]
        ]
      ]

  -- with a code that is known, it is read so
  fresh_known : (at : ℕ) (unread : List ℕ) (c code : ℕ) (now : Progress) (bs : List ℕ) → code ≡ c → fresh_at end at inner unread c now bs ≡ Err f → fresh_at end at inner unread code now bs ≡ Err f
  fresh_known at unread c code now bs is h = ap (λ k. fresh_at end at inner unread k now bs) is ∙ h

  fresh_class : (at : ℕ) (unread : List ℕ) (code : ℕ) (now : Progress) (bs : List ℕ) → BeginsWithClass code → P (a_reference places.Class unread now) bs → fresh_at end at inner unread code now bs ≡ Err f
  unfolding fresh_at
  fresh_class at unread code now bs (inl is) h = fresh_known at unread 0x73 code now bs is (class_first_fails at unread (object_at end at (inner places.Reference unread)) now bs h)
  fresh_class at unread code now bs (inr (inl is)) h = fresh_known at unread 0x75 code now bs is (class_first_fails at unread (array_at end at (inner places.Reference unread)) now bs h)
  fresh_class at unread code now bs (inr (inr (inl is))) h = fresh_known at unread 0x76 code now bs is (class_first_fails at unread class_at now bs h)
  fresh_class at unread code now bs (inr (inr (inr is))) h = fresh_known at unread 0x7E code now bs is (class_first_fails at unread (enum_at at (inner places.Text unread)) now bs h)

  fresh_behind : (at : ℕ) (unread : List ℕ) (code class : ℕ) (now later : Progress) (bs rest : List ℕ) → BeginsWithClass code → inner places.Class unread now bs ≡ Ok (slots.Node class, later, rest) → InClassed at R unread P code class later rest
      → fresh_at end at inner unread code now bs ≡ Err f
  unfolding fresh_at
  fresh_behind at unread code class now later bs rest (inl is) read h = fresh_known at unread 0x73 code now bs is (class_fails at unread 0x73 (object_at end at (inner places.Reference unread)) (own_object at unread) class now later bs rest read (subst (λ k. InClassed at R unread P k class later rest) is h))
  fresh_behind at unread code class now later bs rest (inr (inl is)) read h = fresh_known at unread 0x75 code now bs is (class_fails at unread 0x75 (array_at end at (inner places.Reference unread)) (own_array at unread) class now later bs rest read (subst (λ k. InClassed at R unread P k class later rest) is h))
  fresh_behind at unread code class now later bs rest (inr (inr (inl is))) read h = fresh_known at unread 0x76 code now bs is (class_fails at unread 0x76 class_at (own_class at unread) class now later bs rest read (subst (λ k. InClassed at R unread P k class later rest) is h))
  fresh_behind at unread code class now later bs rest (inr (inr (inr is))) read h = fresh_known at unread 0x7E code now bs is (class_fails at unread 0x7E (enum_at at (inner places.Text unread)) (own_enum at unread) class now later bs rest read (subst (λ k. InClassed at R unread P k class later rest) is h))

  fresh_fails : (at : ℕ) (unread : List ℕ) (code : ℕ) (now : Progress) (bs : List ℕ) → InConstruct at R unread P code now bs → fresh_at end at inner unread code now bs ≡ Err f
  unfolding fresh_at text_at
  fresh_fails at unread code now bs (in_text is h) = fresh_known at unread 0x74 code now bs is (err_first (short_at end bs) _ f (short_fails bs h))
  fresh_fails at unread code now bs (in_long_text is h) = fresh_known at unread 0x7C code now bs is (err_first (long_at end bs) _ f (long_fails bs h))
  fresh_fails at unread code now bs (in_desc is h) = fresh_known at unread 0x72 code now bs is (desc_fails at unread now bs h)
  fresh_fails at unread code now bs (in_proxy is h) = fresh_known at unread 0x7D code now bs is (proxy_fails at unread now bs h)
  fresh_fails at unread code now bs (at_class begins h) = fresh_class at unread code now bs begins h
  fresh_fails at unread code now bs (behind_class class later rest begins read h) = fresh_behind at unread code class now later bs rest begins ((level.reads.at places.Class unread).from now bs (slots.Node class, later, rest) read) h

  -- ---- any reference

  null_stops : (left at : ℕ) (p : SlotPlace) (unread : List ℕ) (now : Progress) (code : ℕ) (bs : List ℕ) → code ≡ 0x70 → null_at p at now bs ≡ Err f → RefusesCode left at p unread now code bs f
  unfolding admits_null
  null_stops left at places.Reference unread now code bs is e = absurd cc
  null_stops left at places.Parent unread now code bs is e = absurd cc
  null_stops left at places.Class unread now code bs is e = subst (λ z. RefusesCode left at places.Class unread now code bs z) (err_is _ f e) (no_null is refl)
  null_stops left at places.Text unread now code bs is e = subst (λ z. RefusesCode left at places.Text unread now code bs z) (err_is _ f e) (no_null is refl)

  -- a handle of a node that was given it
  given_stops : (left at : ℕ) (p : SlotPlace) (unread : List ℕ) (now : Progress) (code : ℕ) (bs : List ℕ) (h : ℕ × List ℕ) (node : Node) → code ≡ 0x71 → number_at w32 bs ≡ Ok h → 0x7E0000 ≤ h.0 → slice_get now.nodes (h.0 - 0x7E0000) ≡ Some node
      → unless {A = Slot × Progress × List ℕ} (handle_fault p (has unread (h.0 - 0x7E0000)) (Some node)) at (Ok (slots.Node (h.0 - 0x7E0000), now, h.1)) ≡ Err f → RefusesCode left at p unread now code bs f
  unfolding admits
  given_stops left at places.Reference unread now code bs h node is read low got e = absurd cc
  given_stops left at places.Text unread now code bs h node is read low got e = by (is_text node) refl e
    where
      by : (b : Bool) → is_text node ≡ b → unless {A = Slot × Progress × List ℕ} (cond b None (Some wrong_handle_kind)) at (Ok (slots.Node (h.0 - 0x7E0000), now, h.1)) ≡ Err f → RefusesCode left at places.Text unread now code bs f
      by true t e = absurd cc
      by false t e = subst (λ z. RefusesCode left at places.Text unread now code bs z) (err_is _ f e) (wrong_kind h node is (number_has w32 bs h read) low got t (λ own. absurd (elim own [ inl x ↦ (let y = x in cc) | inr x ↦ (let y = x in cc) ])))
  given_stops left at places.Class unread now code bs h node is read low got e = by (has unread (h.0 - 0x7E0000)) (is_desc node) refl refl e
    where
      by : (u b : Bool) → has unread (h.0 - 0x7E0000) ≡ u → is_desc node ≡ b → unless {A = Slot × Progress × List ℕ} (cond u (Some bad_desc) (cond b None (Some wrong_handle_kind))) at (Ok (slots.Node (h.0 - 0x7E0000), now, h.1)) ≡ Err f → RefusesCode left at places.Class unread now code bs f
      by true b u t e = subst (λ z. RefusesCode left at places.Class unread now code bs z) (err_is _ f e) (is_unread h node is (number_has w32 bs h read) low got (inl refl) u)
      by false true u t e = absurd cc
      by false false u t e = subst (λ z. RefusesCode left at places.Class unread now code bs z) (err_is _ f e) (wrong_kind h node is (number_has w32 bs h read) low got t (λ own. u))
  given_stops left at places.Parent unread now code bs h node is read low got e = by (has unread (h.0 - 0x7E0000)) (is_desc node) refl refl e
    where
      by : (u b : Bool) → has unread (h.0 - 0x7E0000) ≡ u → is_desc node ≡ b → unless {A = Slot × Progress × List ℕ} (cond u (Some bad_desc) (cond b None (Some wrong_handle_kind))) at (Ok (slots.Node (h.0 - 0x7E0000), now, h.1)) ≡ Err f → RefusesCode left at places.Parent unread now code bs f
      by true b u t e = subst (λ z. RefusesCode left at places.Parent unread now code bs z) (err_is _ f e) (is_unread h node is (number_has w32 bs h read) low got (inr refl) u)
      by false true u t e = absurd cc
      by false false u t e = subst (λ z. RefusesCode left at places.Parent unread now code bs z) (err_is _ f e) (wrong_kind h node is (number_has w32 bs h read) low got t (λ own. u))

  handle_stops : (left at : ℕ) (p : SlotPlace) (unread : List ℕ) (now : Progress) (code : ℕ) (bs : List ℕ) → code ≡ 0x71 → handle_at p unread at now bs ≡ Err f → RefusesCode left at p unread now code bs f
  unfolding handle_at
  handle_stops left at p unread now code bs is e =
      let h = firmly end f firm (number_at w32 bs) _ (number_firm end f firm w32 bs) e in
      elim (chosen (ltb h.0.0 0x7E0000) _ _ _ h.2) [
        | inl q ↦ subst (λ z. RefusesCode left at p unread now code bs z) (err_is _ f q.1) (low_handle h.0 is (number_has w32 bs h.0 h.1) (ltb-true h.0.0 0x7E0000 q.0))
        | inr q ↦ by h.0 h.1 (ltb-false h.0.0 0x7E0000 q.0) (slice_get now.nodes (h.0.0 - 0x7E0000)) refl q.1
      ]
    where
      by : (h : ℕ × List ℕ) → number_at w32 bs ≡ Ok h → 0x7E0000 ≤ h.0 → (o : Option Node) → slice_get now.nodes (h.0 - 0x7E0000) ≡ o → unless {A = Slot × Progress × List ℕ} (handle_fault p (has unread (h.0 - 0x7E0000)) o) at (Ok (slots.Node (h.0 - 0x7E0000), now, h.1)) ≡ Err f → RefusesCode left at p unread now code bs f
      by h read low None got e = subst (λ z. RefusesCode left at p unread now code bs z) (err_is _ f e) (no_handle h is (number_has w32 bs h read) low got)
      by h read low (Some node) got e = given_stops left at p unread now code bs h node is read low got e

  -- what a reference fails by: its code, or what stands in its construct
  abbrev FailsCoded : ℕ → ℕ → SlotPlace → List ℕ → Progress → ℕ → List ℕ → Type 0
  FailsCoded left at p unread now code bs = RefusesCode left at p unread now code bs f ⊎ ((0 < left) × (admits_code p code ≡ true) × (length now.nodes < NODES) × InConstruct at R unread P code now bs)

  coded_stops : (left at : ℕ) (p : SlotPlace) (unread : List ℕ) (now : Progress) (code : ℕ) (bs : List ℕ) → coded end left inner p unread at code now bs ≡ Err f → FailsCoded left at p unread now code bs
  unfolding coded
  coded_stops left at p unread now code bs e = elim (chosen (eqb code 0x70) _ _ _ e) [
    | inl a ↦ inl (null_stops left at p unread now code bs (eqb-true code 0x70 a.0) a.1)
    | inr a ↦ elim (chosen (eqb code 0x71) _ _ _ a.1) [
      | inl b ↦ inl (handle_stops left at p unread now code bs (eqb-true code 0x71 b.0) b.1)
      | inr b ↦ elim (chosen (admits_code p code) _ _ _ b.1) [
        | inr c ↦ inl (subst (λ z. RefusesCode left at p unread now code bs z) (err_is _ f c.1) (refused_as left at p unread now code bs (eqb-false code 0x70 a.0) (eqb-false code 0x71 b.0) c.0))
        | inl c ↦ by left c.0 c.1
      ]
    ]
  ]
    where
      by : (left : ℕ) → admits_code p code ≡ true → deep left at (roomy now at (fresh_at end at inner unread code now bs)) ≡ Err f → FailsCoded left at p unread now code bs
      by zero admitted e = inl (subst (λ z. RefusesCode zero at p unread now code bs z) (err_is _ f e) (no_level refl admitted))
      by (suc left) admitted e = elim (chosen (ltb (length now.nodes) NODES) _ _ _ e) [
        | inl q ↦ inr (omega arith, admitted, ltb-true (length now.nodes) NODES q.0, fresh_stops at unread code now bs (admitted_gives p code admitted) q.1)
        | inr q ↦ inl (subst (λ z. RefusesCode (suc left) at p unread now code bs z) (err_is _ f q.1) (no_room (omega arith) admitted (ltb-false (length now.nodes) NODES q.0)))
      ]

  coded_fails : (left at : ℕ) (p : SlotPlace) (unread : List ℕ) (now : Progress) (code : ℕ) (bs : List ℕ) → 0 < left → admits_code p code ≡ true → length now.nodes < NODES → InConstruct at R unread P code now bs → coded end left inner p unread at code now bs ≡ Err f
  unfolding coded
  coded_fails left at p unread now code bs some admitted room h =
      let n = admitted_none p code admitted in
      rw (ne_eqb code 0x70 n.0) (rw (ne_eqb code 0x71 n.1) (rw admitted (by left some (rw (lt-ltb (length now.nodes) NODES room) (fresh_fails at unread code now bs h)))))
    where
      by : (left : ℕ) → 0 < left → roomy now at (fresh_at end at inner unread code now bs) ≡ Err f → deep left at (roomy now at (fresh_at end at inner unread code now bs)) ≡ Err f
      by zero some e = absurd (omega arith)
      by (suc left) some e = e

-- ---- all levels

deep_ok : {A : Type 0} (left at : ℕ) (r : Result A Fault) (y : A) → deep left at r ≡ Ok y → r ≡ Ok y
deep_ok zero at r y e = absurd cc
deep_ok (suc left) at r y e = e

abbrev read_slot : Slot → Progress → List ℕ → Result (Slot × Progress × List ℕ) Fault
read_slot s now bs = Ok (s, now, bs)

node_not_null : (k : ℕ) (now later : Progress) (bs rest : List ℕ) → read_slot (slots.Node k) now bs ≡ read_slot slots.Null later rest → ⊥
node_not_null k now later bs rest e =
    let same = ok_is {A = Slot × Progress × List ℕ} (slots.Node k, now, bs) (slots.Null, later, rest) e in
    let one : slots.Node k ≡ slots.Null = ap (λ (y : Slot × Progress × List ℕ). y.0) same in
    cc

-- no class is null
class_some : (end left : ℕ) (inner : Slots) (unread : List ℕ) (at code : ℕ) (now later : Progress) (bs rest : List ℕ) → coded end left inner places.Class unread at code now bs ≡ Ok (slots.Null, later, rest) → ⊥
unfolding coded handle_at fresh_at desc_at proxy_at
class_some end left inner unread at code now later bs rest e = elim (chosen (eqb code 0x70) _ _ _ e) [
  | inl a ↦ (let b = a.1 in cc)
  | inr a ↦ elim (chosen (eqb code 0x71) _ _ _ a.1) [
    | inl b ↦ (
        let h = bind_ok (number_at w32 bs) _ _ b.1 in
        let g = guarded (ltb h.0.0 0x7E0000) (bad bad_handle at) _ _ h.2 in
        let u = unless_ok (handle_fault places.Class (has unread (h.0.0 - 0x7E0000)) (slice_get now.nodes (h.0.0 - 0x7E0000))) at (Ok (slots.Node (h.0.0 - 0x7E0000), now, h.0.1)) _ g.1 in
        node_not_null _ _ _ _ _ u.1)
    | inr b ↦ (
        let c = passed (admits_code places.Class code) (deep left at (roomy now at (fresh_at end at inner unread code now bs))) (bad (code_fault code) at) _ b.1 in
        let d = passed (ltb (length now.nodes) NODES) (fresh_at end at inner unread code now bs) (too_many at) _ (deep_ok left at (roomy now at (fresh_at end at inner unread code now bs)) _ c.1) in
        elim (or_cases (eqb code 0x72) (eqb code 0x7D) c.0) [
          | inl k ↦ desc (ap (λ z. fresh_at end at inner unread z now bs) (sym (eqb-true code 0x72 k)) ∙ d.1)
          | inr k ↦ proxy (ap (λ z. fresh_at end at inner unread z now bs) (sym (eqb-true code 0x7D k)) ∙ d.1)
        ])
  ]
]
  where
    desc : fresh_at end at inner unread 0x72 now bs ≡ Ok (slots.Null, later, rest) → ⊥
    desc e =
        let a = bind_ok (short_at end bs) _ _ e in
        let b = bind_ok (number_at w64 a.0.1) _ _ a.2 in
        let c = bind_ok (byte_at b.0.1) _ _ b.2 in
        let d = bind_ok (desc_after end at inner (unread ++ length now.nodes ∷ []) a.0.0 b.0.0 c.0.0 (push now (Desc blank)) c.0.1) _ _ c.2 in
        node_not_null _ _ _ _ _ d.2

    proxy : fresh_at end at inner unread 0x7D now bs ≡ Ok (slots.Null, later, rest) → ⊥
    proxy e =
        let a = bind_ok (size_at end w32 (2 ^ 31) bs) _ _ e in
        let g = guarded (ltb PARTS (now.parts + a.0.0)) (too_many at) _ _ a.2 in
        let b = bind_ok (many_at (plain (short_at end)) a.0.0 (add_parts a.0.0 (push now (Desc blank))) a.0.1) _ _ g.1 in
        let c = bind_ok (items_at end (inner places.Reference (unread ++ length now.nodes ∷ [])) true b.0.1 b.0.2) _ _ b.2 in
        let d = bind_ok (inner places.Parent (unread ++ length now.nodes ∷ []) c.0.1 c.0.2) _ _ c.2 in
        node_not_null _ _ _ _ _ d.2

never_level : (end : ℕ) (f : Fault) → f ≢ short → Level end f fails_never gives_none no_slots
never_level end f firm = record {
  reads = no_references;
  down = λ p unread now bs e. absurd (firm (sym (err_is short f e)));
  up = λ p unread now bs h. absurd h;
  some = λ unread now later bs rest e. cc;
}

-- a reference at its first byte, where what stands one level down is read so
step_level : (end : ℕ) (f : Fault) → f ≢ short → (left : ℕ) (Inner : SlotPlace → List ℕ → Progress → List ℕ → Type 0) (R : References) (inner : Slots) → Level end f Inner R inner
    → Level end f (FailsHere end f Inner R left) (GivesHere R left) (first_byte end left inner)
step_level end f firm left Inner R inner level = record { reads = step_same end left inner R level.reads; down = down_by; up = up_by; some = some_by }
  where
    down_by : (p : SlotPlace) (unread : List ℕ) (now : Progress) (bs : List ℕ) → (byte_at bs >>= λ c. coded end left inner p unread (end - length bs) c.0 now c.1) ≡ Err f → FailsHere end f Inner R left p unread now bs
    down_by p unread now [] e = absurd (firm (sym (err_is short f e)))
    down_by p unread now (c ∷ bs) e = record { code = c; rest = bs; is = refl; fails = coded_stops end f firm Inner R inner level left (end - length (c ∷ bs)) p unread now c bs e }

    up_by : (p : SlotPlace) (unread : List ℕ) (now : Progress) (bs : List ℕ) → FailsHere end f Inner R left p unread now bs → (byte_at bs >>= λ c. coded end left inner p unread (end - length bs) c.0 now c.1) ≡ Err f
    up_by p unread now bs h = ap (λ (l : List ℕ). byte_at l >>= λ c. coded end left inner p unread (end - length bs) c.0 now c.1) h.is ∙ by (end - length bs) h.code h.rest h.fails
      where
        by : (at code : ℕ) (rest : List ℕ) → RefusesCode left at p unread now code rest f ⊎ ((0 < left) × (admits_code p code ≡ true) × (length now.nodes < NODES) × InConstruct at R unread (FailsNext end f Inner) code now rest) → coded end left inner p unread at code now rest ≡ Err f
        by at code rest (inl r) = refuses_coded end left inner at p unread now code rest f r
        by at code rest (inr (some, admitted, room, g)) = coded_fails end f firm Inner R inner level left at p unread now code rest some admitted room g

    some_by : (unread : List ℕ) (now later : Progress) (bs rest : List ℕ) → (byte_at bs >>= λ c. coded end left inner places.Class unread (end - length bs) c.0 now c.1) ≡ Ok (slots.Null, later, rest) → ⊥
    some_by unread now later [] rest e = cc
    some_by unread now later (c ∷ bs) rest e = class_some end left inner unread (end - length (c ∷ bs)) c now later bs rest e

-- Reading a reference answers a fault exactly where the bytes show it.
pub levels : (end : ℕ) (f : Fault) → f ≢ short → (left : ℕ) → Level end f (Fails end f left) (Reads left) (slot_at end left)
unfolding slot_at Fails Reads
levels end f firm zero = let g = step_level end f firm zero fails_never gives_none no_slots (never_level end f firm) in record { reads = same_references end zero; down = λ p unread now bs e. g.down p unread now bs e; up = λ p unread now bs h. g.up p unread now bs h; some = λ unread now later bs rest e. g.some unread now later bs rest e }
levels end f firm (suc left) = let g = step_level end f firm (suc left) (Fails end f left) (Reads left) (slot_at end left) (levels end f firm left) in record { reads = same_references end (suc left); down = λ p unread now bs e. g.down p unread now bs e; up = λ p unread now bs h. g.up p unread now bs h; some = λ unread now later bs rest e. g.some unread now later bs rest e }
