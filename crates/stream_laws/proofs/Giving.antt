-- Reading answers a construct exactly as its bytes give it.
use Rattle.std.proofs.Common.{◌≡◌, ◌≢◌, ◌<◌, ◌≤◌, ◌+◌, ◌-◌, ◌^◌, ◌&&◌, not, ℕ, zero, suc, Bool, true, false, cond, eqb, ltb, List, [], ◌∷◌, ◌++◌, length, Option, Some, None, Result, Ok, Err, slice_get, refl, sym, ap, subst, ◌∙◌, arith, inl, inr}
use Rattle.std.proofs.lemmas.Bool.{eqb-true, ne_eqb, ltb-true, ltb-false, lt-ltb, le-ltb}
use Rattle.std.specs.Int.{w16, w32, w64, cast_signed}
use Rattle.class_desc.specs.declared.slot.Slot.{Slot}
use Rattle.class_desc.specs.declared.slot.Slot.TheVariants as slots
use Rattle.class_desc.specs.declared.field.TypeCode.{TypeCode}
use Rattle.class_desc.specs.declared.field.FieldDesc.{FieldDesc}
use Rattle.class_desc.specs.declared.desc.ClassDesc.{ClassDesc}
use Rattle.class_desc.specs.ClassDesc.{is_good_desc}
use Rattle.ser_values.specs.declared.value.Values.{Values}
use Rattle.ser_values.specs.declared.value.Values.TheVariants as kinds
use Rattle.ser_values.specs.declared.node.Node.{Node}
use Rattle.ser_values.specs.declared.node.Node.TheVariants.{Desc, Proxy, Array, Enum}
use Rattle.ser_values.specs.declared.node.SlotPlace.{SlotPlace}
use Rattle.ser_values.specs.declared.node.SlotPlace.TheVariants as places
use Rattle.ser_values.specs.declared.limits.TheConstants.{NODES, PARTS}
use Rattle.ser_values.specs.Node.{has, admits_null, takes, is_desc, is_text}
use Rattle.ser_values.specs.Shape.{is_enum}
use Rattle.stream_grammar.specs.Reading.{bad_handle, bad_desc, wrong_handle_kind, Fault, bad, too_many, ◌>>=◌, byte_at, number_at, size_at, short_at, long_at, Progress, Step, Slots, plain, many_at, push, fill, add_parts, sizes_of, refs_among, items_at, field_at, elements_at, class_fault, chain_of, parts_at, roomy, blank, text_at, desc_after, desc_at, proxy_at, on_class, with_class, object_after, object_at, type_in, array_of, array_at, class_at, named, enum_at, admits_code, code_fault, fresh_at, null_at, handle_fault, handle_at, deep, coded, no_slots, slot_at}
use Rattle.stream_grammar.specs.Faults.{DescHead}
use Rattle.stream_grammar.proofs.PlainSound.{done, bind_ok, chosen, passed, guarded, unless_ok, ok_is}
use Rattle.stream_laws.specs.Reads.{HasNumber, HasText, References, Plainly, HasField, desc_of, whole_desc, GivesDesc, GivesProxy, rows_in, with_object, GivesObject, GivesArray, GivesEnum, GivesClassed, an_object, an_array, a_class, an_enum, GivesConstruct, a_short_text, a_long_text, a_desc, a_proxy, of_class, GivesCode, a_null, a_handle, a_construct, GivesHere, gives_none, Reads}
use Rattle.stream_laws.proofs.Reading.{ok_first, room_of, with_room, byte_has, has_byte, number_has, has_number, size_has, has_size, text_has, has_text, long_has, has_long, same_many, same_text, same_elements, same_note, same_parts, SameReferences, same_field}

abbrev SlotOk : Type 0
SlotOk = Slot × Progress × List ℕ

abbrev filled : Progress → ClassDesc × Progress × List ℕ → SlotOk
filled now z = (slots.Node (length now.nodes), fill z.1 (length now.nodes) (Desc z.0), z.2)

-- null and handles are no codes of constructs
pub admitted_none : (p : SlotPlace) (code : ℕ) → admits_code p code ≡ true → (code ≢ 0x70) × (code ≢ 0x71)
admitted_none p code h = (λ is. absurd (none p (subst (λ k. admits_code p k ≡ true) is h)), λ is. absurd (again p (subst (λ k. admits_code p k ≡ true) is h)))
  where
    none : (p : SlotPlace) → admits_code p 0x70 ≡ true → ⊥
    none places.Reference h = cc
    none places.Class h = cc
    none places.Parent h = cc
    none places.Text h = cc

    again : (p : SlotPlace) → admits_code p 0x71 ≡ true → ⊥
    again places.Reference h = cc
    again places.Class h = cc
    again places.Parent h = cc
    again places.Text h = cc

module _ (end : ℕ) (inner : Slots) (R : References) (s : SameReferences inner R) where
  -- ---- descriptions

  -- what stands behind the fields of a description
  abbrev fields_then : ℕ → List ℕ → List ℕ → ℕ → ℕ → List FieldDesc × Progress × List ℕ → Result (ClassDesc × Progress × List ℕ) Fault
  fields_then at own name suid flags fs =
      cond (is_good_desc (record { name = name; suid = cast_signed w64 suid; flags = flags; fields = fs.0; note = []; parent = slots.Null }))
      (items_at end (inner places.Reference own) true fs.1 fs.2 >>= λ is. inner places.Parent own is.1 is.2 >>= λ p. Ok (record { name = name; suid = cast_signed w64 suid; flags = flags; fields = fs.0; note = is.0; parent = p.0 }, p.1, p.2))
      (Err (bad bad_desc at))

  desc_to : (at : ℕ) (unread : List ℕ) (now : Progress) (bs : List ℕ) (y : SlotOk) → desc_at end at inner unread now bs ≡ Ok y → GivesDesc R unread now bs y
  unfolding desc_at desc_after
  desc_to at unread now bs y e =
      let own = unread ++ length now.nodes ∷ [] in
      let first = push now (Desc blank) in
      let a = bind_ok (short_at end bs) _ y e in
      let b = bind_ok (number_at w64 a.0.1) _ y a.2 in
      let c = bind_ok (byte_at b.0.1) _ y b.2 in
      let d = bind_ok (desc_after end at inner own a.0.0 b.0.0 c.0.0 first c.0.1) _ y c.2 in
      let n = bind_ok (size_at end w16 32768 c.0.1) _ d.0 d.1 in
      let k = room_of n.0.0 at first (many_at (field_at end at (inner places.Text own)) n.0.0 (add_parts n.0.0 first) n.0.1 >>= fields_then at own a.0.0 b.0.0 c.0.0) d.0 n.2 in
      let fs = bind_ok (many_at (field_at end at (inner places.Text own)) n.0.0 (add_parts n.0.0 first) n.0.1) _ d.0 k.1 in
      let head : DescHead = record { name = a.0.0; suid = b.0.0; flags = c.0.0; count = n.0.0; rest = n.0.1 } in
      let g = passed (is_good_desc (desc_of head fs.0.0)) _ _ d.0 fs.2 in
      let is = bind_ok (items_at end (inner places.Reference own) true fs.0.1 fs.0.2) _ d.0 g.1 in
      let p = bind_ok (inner places.Parent own is.0.1 is.0.2) _ d.0 is.2 in
      let same : (whole_desc head fs.0.0 is.0.0 p.0.0, p.0.1, p.0.2) ≡ d.0 = ok_is {A = ClassDesc × Progress × List ℕ} (whole_desc head fs.0.0 is.0.0 p.0.0, p.0.1, p.0.2) d.0 p.2 in
      record {
        d = record {
          head = head;
          begins = record { behind_name = a.0.1; named = text_has end bs a.0 a.1; behind_suid = b.0.1; numbered = number_has w64 a.0.1 b.0 b.1; behind_flags = c.0.1; flagged = byte_has b.0.1 c.0 c.1; counted = size_has end w16 32768 c.0.1 n.0 n.1 };
          few = k.0;
          fields = fs.0.0;
          later = fs.0.1;
          there = fs.0.2;
          read = (same_many (field_at end at (inner places.Text own)) (HasField R own) (same_field end at inner R s own) n.0.0).to (add_parts n.0.0 first) n.0.1 fs.0 fs.1;
        };
        good = g.0;
        note = is.0;
        noted = (same_note end (inner places.Reference own) (R places.Reference own) (s.at places.Reference own)).to fs.0.1 fs.0.2 is.0 is.1;
        parent = p.0;
        above = (s.at places.Parent own).to is.0.1 is.0.2 p.0 p.1;
        same = sym (ap (λ (z : ClassDesc × Progress × List ℕ). filled now z) same ∙ ok_is _ y d.2);
      }

  desc_from : (at : ℕ) (unread : List ℕ) (now : Progress) (bs : List ℕ) (y : SlotOk) → GivesDesc R unread now bs y → desc_at end at inner unread now bs ≡ Ok y
  unfolding desc_at desc_after
  desc_from at unread now bs y h =
      let own = unread ++ length now.nodes ∷ [] in
      let first = push now (Desc blank) in
      let d = h.d in
      let b = d.begins in
      ok_first (short_at end bs) _ (d.head.name, b.behind_name) _ (has_text end bs (d.head.name, b.behind_name) b.named) (ok_first (number_at w64 b.behind_name) _ (d.head.suid, b.behind_suid) _ (has_number w64 b.behind_name (d.head.suid, b.behind_suid) b.numbered)
      (ok_first (byte_at b.behind_suid) _ (d.head.flags, b.behind_flags) _ (has_byte b.behind_suid (d.head.flags, b.behind_flags) b.flagged)
      (ok_first (desc_after end at inner own d.head.name d.head.suid d.head.flags first b.behind_flags) _ (whole_desc d.head d.fields h.note.0 h.parent.0, h.parent.1, h.parent.2) _
      (ok_first (size_at end w16 32768 b.behind_flags) _ (d.head.count, d.head.rest) _ (has_size end w16 32768 b.behind_flags (d.head.count, d.head.rest) b.counted)
      (with_room d.head.count at first (many_at (field_at end at (inner places.Text own)) d.head.count (add_parts d.head.count first) d.head.rest >>= fields_then at own d.head.name d.head.suid d.head.flags) (done (whole_desc d.head d.fields h.note.0 h.parent.0, h.parent.1, h.parent.2)) d.few
      (ok_first (many_at (field_at end at (inner places.Text own)) d.head.count (add_parts d.head.count first) d.head.rest) _ (d.fields, d.later, d.there) _ ((same_many (field_at end at (inner places.Text own)) (HasField R own) (same_field end at inner R s own) d.head.count).from (add_parts d.head.count first) d.head.rest (d.fields, d.later, d.there) d.read)
      (rw h.good (ok_first (items_at end (inner places.Reference own) true d.later d.there) _ h.note _ ((same_note end (inner places.Reference own) (R places.Reference own) (s.at places.Reference own)).from d.later d.there h.note h.noted)
      (ok_first (inner places.Parent own h.note.1 h.note.2) _ h.parent _ ((s.at places.Parent own).from h.note.1 h.note.2 h.parent h.above) refl))))))
      (ap (λ z. done z) (sym h.same)))))

  -- what stands behind the names of a proxy's interfaces
  abbrev names_then : Progress → List ℕ → List (List ℕ) × Progress × List ℕ → Result SlotOk Fault
  names_then now own names =
      items_at end (inner places.Reference own) true names.1 names.2 >>= λ is. inner places.Parent own is.1 is.2 >>= λ p.
      Ok (slots.Node (length now.nodes), fill p.1 (length now.nodes) (Proxy (record { names = names.0; note = is.0; parent = p.0 })), p.2)

  proxy_to : (at : ℕ) (unread : List ℕ) (now : Progress) (bs : List ℕ) (y : SlotOk) → proxy_at end at inner unread now bs ≡ Ok y → GivesProxy R unread now bs y
  unfolding proxy_at
  proxy_to at unread now bs y e =
      let own = unread ++ length now.nodes ∷ [] in
      let first = push now (Desc blank) in
      let n = bind_ok (size_at end w32 (2 ^ 31) bs) _ y e in
      let k = room_of n.0.0 at first (many_at (plain (short_at end)) n.0.0 (add_parts n.0.0 first) n.0.1 >>= names_then now own) y n.2 in
      let names = bind_ok (many_at (plain (short_at end)) n.0.0 (add_parts n.0.0 first) n.0.1) _ y k.1 in
      let is = bind_ok (items_at end (inner places.Reference own) true names.0.1 names.0.2) _ y names.2 in
      let p = bind_ok (inner places.Parent own is.0.1 is.0.2) _ y is.2 in
      record {
        d = record { count = n.0; begins = size_has end w32 (2 ^ 31) bs n.0 n.1; few = k.0; names = names.0.0; later = names.0.1; there = names.0.2; read = (same_many (plain (short_at end)) (Plainly HasText) (same_text end) n.0.0).to (add_parts n.0.0 first) n.0.1 names.0 names.1 };
        note = is.0;
        noted = (same_note end (inner places.Reference own) (R places.Reference own) (s.at places.Reference own)).to names.0.1 names.0.2 is.0 is.1;
        parent = p.0;
        above = (s.at places.Parent own).to is.0.1 is.0.2 p.0 p.1;
        same = sym (ok_is _ y p.2);
      }

  proxy_from : (at : ℕ) (unread : List ℕ) (now : Progress) (bs : List ℕ) (y : SlotOk) → GivesProxy R unread now bs y → proxy_at end at inner unread now bs ≡ Ok y
  unfolding proxy_at
  proxy_from at unread now bs y h =
      let own = unread ++ length now.nodes ∷ [] in
      let first = push now (Desc blank) in
      let d = h.d in
      ok_first (size_at end w32 (2 ^ 31) bs) _ d.count _ (has_size end w32 (2 ^ 31) bs d.count d.begins)
      (with_room d.count.0 at first (many_at (plain (short_at end)) d.count.0 (add_parts d.count.0 first) d.count.1 >>= names_then now own) (done y) d.few
      (ok_first (many_at (plain (short_at end)) d.count.0 (add_parts d.count.0 first) d.count.1) _ (d.names, d.later, d.there) _ ((same_many (plain (short_at end)) (Plainly HasText) (same_text end) d.count.0).from (add_parts d.count.0 first) d.count.1 (d.names, d.later, d.there) d.read)
      (ok_first (items_at end (inner places.Reference own) true d.later d.there) _ h.note _ ((same_note end (inner places.Reference own) (R places.Reference own) (s.at places.Reference own)).from d.later d.there h.note h.noted)
      (ok_first (inner places.Parent own h.note.1 h.note.2) _ h.parent _ ((s.at places.Parent own).from h.note.1 h.note.2 h.parent h.above) (ap (λ z. done z) (sym h.same))))))

  -- ---- behind the class

  object_to : (at : ℕ) (unread : List ℕ) (class : ℕ) (now : Progress) (bs : List ℕ) (y : SlotOk) → object_at end at (inner places.Reference unread) class now bs ≡ Ok y → GivesObject R unread class now bs y
  unfolding object_at object_after
  object_to at unread class now bs y e =
      let g = guarded (ltb PARTS (now.parts + sizes_of (rows_in now class))) (too_many at) _ y e in
      let u = unless_ok (class_fault (slice_get now.nodes class) (chain_of PARTS now.nodes (slots.Node class)).1) at (object_after end (inner places.Reference unread) class (rows_in now class) now bs) y g.1 in
      let ps = bind_ok (parts_at end (inner places.Reference unread) (rows_in now class) (with_object now class) bs) _ y u.1 in
      record {
        few = ltb-false PARTS (now.parts + sizes_of (rows_in now class)) g.0;
        objects = u.0;
        parts = ps.0;
        read = (same_parts end (inner places.Reference unread) (R places.Reference unread) (s.at places.Reference unread) (rows_in now class)).to (with_object now class) bs ps.0 ps.1;
        same = sym (ok_is _ y ps.2);
      }

  object_from : (at : ℕ) (unread : List ℕ) (class : ℕ) (now : Progress) (bs : List ℕ) (y : SlotOk) → GivesObject R unread class now bs y → object_at end at (inner places.Reference unread) class now bs ≡ Ok y
  unfolding object_at object_after
  object_from at unread class now bs y h =
      rw (le-ltb PARTS (now.parts + sizes_of (rows_in now class)) h.few) (rw h.objects
      (ok_first (parts_at end (inner places.Reference unread) (rows_in now class) (with_object now class) bs) _ h.parts _
      ((same_parts end (inner places.Reference unread) (R places.Reference unread) (s.at places.Reference unread) (rows_in now class)).from (with_object now class) bs h.parts h.read) (ap (λ z. done z) (sym h.same))))

  -- the array of these elements
  abbrev elements_then : Progress → ℕ → Values × Progress × List ℕ → Result SlotOk Fault
  elements_then now class vs = Ok (slots.Node (length now.nodes), fill vs.1 (length now.nodes) (Array class vs.0), vs.2)

  array_to : (at : ℕ) (unread : List ℕ) (class : ℕ) (now : Progress) (bs : List ℕ) (y : SlotOk) → array_at end at (inner places.Reference unread) class now bs ≡ Ok y → GivesArray R unread class now bs y
  unfolding array_at array_of
  array_to at unread class now bs y e = by (type_in (slice_get now.nodes class)) refl e
    where
      by : (o : Option TypeCode) → type_in (slice_get now.nodes class) ≡ o → array_of end at (inner places.Reference unread) class o now bs ≡ Ok y → GivesArray R unread class now bs y
      by None is e = absurd cc
      by (Some code) is e =
          let n = bind_ok (size_at end w32 (2 ^ 31) bs) _ y e in
          let first = push now (Array class (kinds.Bytes [])) in
          let more = refs_among code n.0.0 in
          let k = room_of more at first (elements_at (inner places.Reference unread) code n.0.0 (add_parts more first) n.0.1 >>= elements_then now class) y n.2 in
          let x = bind_ok (elements_at (inner places.Reference unread) code n.0.0 (add_parts more first) n.0.1) _ y k.1 in
          record {
            code = code;
            typed = is;
            count = n.0;
            sized = size_has end w32 (2 ^ 31) bs n.0 n.1;
            few = k.0;
            elements = x.0;
            read = (same_elements (inner places.Reference unread) (R places.Reference unread) (s.at places.Reference unread) code n.0.0).to (add_parts more first) n.0.1 x.0 x.1;
            same = sym (ok_is _ y x.2);
          }

  array_from : (at : ℕ) (unread : List ℕ) (class : ℕ) (now : Progress) (bs : List ℕ) (y : SlotOk) → GivesArray R unread class now bs y → array_at end at (inner places.Reference unread) class now bs ≡ Ok y
  unfolding array_at array_of
  array_from at unread class now bs y h =
      let first = push now (Array class (kinds.Bytes [])) in
      ap (λ o. array_of end at (inner places.Reference unread) class o now bs) h.typed
      ∙ ok_first (size_at end w32 (2 ^ 31) bs) _ h.count _ (has_size end w32 (2 ^ 31) bs h.count h.sized)
      (with_room (refs_among h.code h.count.0) at first (elements_at (inner places.Reference unread) h.code h.count.0 (add_parts (refs_among h.code h.count.0) first) h.count.1 >>= elements_then now class) (done y) h.few
      (ok_first (elements_at (inner places.Reference unread) h.code h.count.0 (add_parts (refs_among h.code h.count.0) first) h.count.1) _ h.elements _
      ((same_elements (inner places.Reference unread) (R places.Reference unread) (s.at places.Reference unread) h.code h.count.0).from (add_parts (refs_among h.code h.count.0) first) h.count.1 h.elements h.read) (ap (λ z. done z) (sym h.same))))

  enum_to : (at : ℕ) (unread : List ℕ) (class : ℕ) (now : Progress) (bs : List ℕ) (y : SlotOk) → enum_at at (inner places.Text unread) class now bs ≡ Ok y → GivesEnum R unread class now bs y
  unfolding enum_at
  enum_to at unread class now bs y e =
      let g = passed (is_enum (slice_get now.nodes class)) _ _ y e in
      let x = bind_ok (inner places.Text unread (push now (Enum class 0)) bs) _ y g.1 in
      by g.0 x.0 x.1 x.2
    where
      by : is_enum (slice_get now.nodes class) ≡ true → (x : SlotOk) → inner places.Text unread (push now (Enum class 0)) bs ≡ Ok x → named class (length now.nodes) x ≡ Ok y → GivesEnum R unread class now bs y
      by is (slots.Null, later, rest) read e = absurd cc
      by is (slots.Node t, later, rest) read e = record { enum = is; constant = t; later = later; there = rest; read = (s.at places.Text unread).to (push now (Enum class 0)) bs (slots.Node t, later, rest) read; same = sym (ok_is _ y e) }

  enum_from : (at : ℕ) (unread : List ℕ) (class : ℕ) (now : Progress) (bs : List ℕ) (y : SlotOk) → GivesEnum R unread class now bs y → enum_at at (inner places.Text unread) class now bs ≡ Ok y
  unfolding enum_at
  enum_from at unread class now bs y h =
      rw h.enum (ok_first (inner places.Text unread (push now (Enum class 0)) bs) _ (slots.Node h.constant, h.later, h.there) _ ((s.at places.Text unread).from (push now (Enum class 0)) bs (slots.Node h.constant, h.later, h.there) h.read) (ap (λ z. done z) (sym h.same)))

  -- a construct's own part, behind its class
  class_to : (at : ℕ) (unread : List ℕ) (code : ℕ) (own : ℕ → Step Slot) → ((class : ℕ) (now : Progress) (bs : List ℕ) (y : SlotOk) → own class now bs ≡ Ok y → GivesClassed R unread code class now bs y) → (now : Progress) (bs : List ℕ) (y : SlotOk) → with_class inner unread at own now bs ≡ Ok y → GivesConstruct R unread code now bs y
  unfolding with_class
  class_to at unread code own h now bs y e =
      let x = bind_ok (inner places.Class unread now bs) _ y e in
      by x.0 x.1 x.2
    where
      by : (x : SlotOk) → inner places.Class unread now bs ≡ Ok x → on_class at own x ≡ Ok y → GivesConstruct R unread code now bs y
      by (slots.Null, later, rest) read e = absurd cc
      by (slots.Node class, later, rest) read e =
          let g = passed (ltb (length later.nodes) NODES) _ _ y e in
          of_class class later rest ((s.at places.Class unread).to now bs (slots.Node class, later, rest) read) (ltb-true (length later.nodes) NODES g.0) (h class later rest y g.1)

  class_from : (at : ℕ) (unread : List ℕ) (own : ℕ → Step Slot) (class : ℕ) (now later : Progress) (bs rest : List ℕ) (y : SlotOk) → R places.Class unread now bs (slots.Node class, later, rest) → length later.nodes < NODES → own class later rest ≡ Ok y → with_class inner unread at own now bs ≡ Ok y
  unfolding with_class
  class_from at unread own class now later bs rest y read room h =
      ok_first (inner places.Class unread now bs) _ (slots.Node class, later, rest) _ ((s.at places.Class unread).from now bs (slots.Node class, later, rest) read) (rw (lt-ltb (length later.nodes) NODES room) h)

  -- ---- any construct

  recoded : (unread : List ℕ) (c code : ℕ) (now : Progress) (bs : List ℕ) (y : SlotOk) → eqb code c ≡ true → GivesConstruct R unread c now bs y → GivesConstruct R unread code now bs y
  recoded unread c code now bs y e h = subst (λ k. GivesConstruct R unread k now bs y) (sym (eqb-true code c e)) h

  fresh_to : (at : ℕ) (unread : List ℕ) (code : ℕ) (now : Progress) (bs : List ℕ) (y : SlotOk) → fresh_at end at inner unread code now bs ≡ Ok y → GivesConstruct R unread code now bs y
  unfolding fresh_at text_at class_at
  fresh_to at unread code now bs y e =
      elim (chosen (eqb code 0x72) _ _ _ e) [
        | inl p ↦ recoded unread 0x72 code now bs y p.0 (a_desc refl (desc_to at unread now bs y p.1))
        | inr p ↦ elim (chosen (eqb code 0x73) _ _ _ p.1) [
          | inl q ↦ recoded unread 0x73 code now bs y q.0 (class_to at unread 0x73 (object_at end at (inner places.Reference unread)) (λ class now bs y e. an_object refl (object_to at unread class now bs y e)) now bs y q.1)
          | inr q ↦ elim (chosen (eqb code 0x74) _ _ _ q.1) [
            | inl r ↦ (let t = bind_ok (short_at end bs) _ y r.1 in recoded unread 0x74 code now bs y r.0 (a_short_text t.0 refl (text_has end bs t.0 t.1) (sym (ok_is _ y t.2))))
            | inr r ↦ elim (chosen (eqb code 0x75) _ _ _ r.1) [
              | inl z ↦ recoded unread 0x75 code now bs y z.0 (class_to at unread 0x75 (array_at end at (inner places.Reference unread)) (λ class now bs y e. an_array refl (array_to at unread class now bs y e)) now bs y z.1)
              | inr z ↦ elim (chosen (eqb code 0x76) _ _ _ z.1) [
                | inl t ↦ recoded unread 0x76 code now bs y t.0 (class_to at unread 0x76 class_at (λ class now bs y e. a_class refl (sym (ok_is _ y e))) now bs y t.1)
                | inr t ↦ elim (chosen (eqb code 0x7C) _ _ _ t.1) [
                  | inl u ↦ (let x = bind_ok (long_at end bs) _ y u.1 in recoded unread 0x7C code now bs y u.0 (a_long_text x.0 refl (long_has end bs x.0 x.1) (sym (ok_is _ y x.2))))
                  | inr u ↦ elim (chosen (eqb code 0x7D) _ _ _ u.1) [
                    | inl v ↦ recoded unread 0x7D code now bs y v.0 (a_proxy refl (proxy_to at unread now bs y v.1))
                    | inr v ↦ elim (chosen (eqb code 0x7E) _ _ _ v.1) [
                      | inl w ↦ recoded unread 0x7E code now bs y w.0 (class_to at unread 0x7E (enum_at at (inner places.Text unread)) (λ class now bs y e. an_enum refl (enum_to at unread class now bs y e)) now bs y w.1)
                      | inr w ↦ absurd (let x = w.1 in cc)
                    ]
                  ]
                ]
              ]
            ]
          ]
        ]
      ]

  fresh_known : (at : ℕ) (unread : List ℕ) (c code : ℕ) (now : Progress) (bs : List ℕ) (y : SlotOk) → code ≡ c → fresh_at end at inner unread c now bs ≡ Ok y → fresh_at end at inner unread code now bs ≡ Ok y
  fresh_known at unread c code now bs y is h = ap (λ k. fresh_at end at inner unread k now bs) is ∙ h

  classed_from : (at : ℕ) (unread : List ℕ) (code class : ℕ) (now later : Progress) (bs rest : List ℕ) (y : SlotOk) → R places.Class unread now bs (slots.Node class, later, rest) → length later.nodes < NODES → GivesClassed R unread code class later rest y → fresh_at end at inner unread code now bs ≡ Ok y
  unfolding fresh_at class_at
  classed_from at unread code class now later bs rest y read room (an_object is h) = fresh_known at unread 0x73 code now bs y is (class_from at unread (object_at end at (inner places.Reference unread)) class now later bs rest y read room (object_from at unread class later rest y h))
  classed_from at unread code class now later bs rest y read room (an_array is h) = fresh_known at unread 0x75 code now bs y is (class_from at unread (array_at end at (inner places.Reference unread)) class now later bs rest y read room (array_from at unread class later rest y h))
  classed_from at unread code class now later bs rest y read room (a_class is same) = fresh_known at unread 0x76 code now bs y is (class_from at unread class_at class now later bs rest y read room (ap (λ z. done z) (sym same)))
  classed_from at unread code class now later bs rest y read room (an_enum is h) = fresh_known at unread 0x7E code now bs y is (class_from at unread (enum_at at (inner places.Text unread)) class now later bs rest y read room (enum_from at unread class later rest y h))

  fresh_from : (at : ℕ) (unread : List ℕ) (code : ℕ) (now : Progress) (bs : List ℕ) (y : SlotOk) → GivesConstruct R unread code now bs y → fresh_at end at inner unread code now bs ≡ Ok y
  unfolding fresh_at text_at
  fresh_from at unread code now bs y (a_short_text t is h same) = fresh_known at unread 0x74 code now bs y is (ok_first (short_at end bs) _ t _ (has_text end bs t h) (ap (λ z. done z) (sym same)))
  fresh_from at unread code now bs y (a_long_text t is h same) = fresh_known at unread 0x7C code now bs y is (ok_first (long_at end bs) _ t _ (has_long end bs t h) (ap (λ z. done z) (sym same)))
  fresh_from at unread code now bs y (a_desc is h) = fresh_known at unread 0x72 code now bs y is (desc_from at unread now bs y h)
  fresh_from at unread code now bs y (a_proxy is h) = fresh_known at unread 0x7D code now bs y is (proxy_from at unread now bs y h)
  fresh_from at unread code now bs y (of_class class later rest read room h) = classed_from at unread code class now later bs rest y read room h

  -- ---- any reference

  null_to : (p : SlotPlace) (at : ℕ) (now : Progress) (bs : List ℕ) (y : SlotOk) → null_at p at now bs ≡ Ok y → (admits_null p ≡ true) × (y ≡ (slots.Null, now, bs))
  unfolding admits_null
  null_to places.Reference at now bs y e = (refl, sym (ok_is (slots.Null, now, bs) y e))
  null_to places.Parent at now bs y e = (refl, sym (ok_is (slots.Null, now, bs) y e))
  null_to places.Class at now bs y e = absurd cc
  null_to places.Text at now bs y e = absurd cc

  null_from : (p : SlotPlace) (at : ℕ) (now : Progress) (bs : List ℕ) (y : SlotOk) → admits_null p ≡ true → y ≡ (slots.Null, now, bs) → null_at p at now bs ≡ Ok y
  unfolding admits_null
  null_from places.Reference at now bs y h same = ap (λ z. done z) (sym same)
  null_from places.Parent at now bs y h same = ap (λ z. done z) (sym same)
  null_from places.Class at now bs y h same = absurd cc
  null_from places.Text at now bs y h same = absurd cc

  taken_to : (p : SlotPlace) (u : Bool) (node : Node) → handle_fault p u (Some node) ≡ None → takes p u node ≡ true
  unfolding takes
  taken_to places.Reference u node h = refl
  taken_to places.Text u node h = by (is_text node) h
    where
      by : (b : Bool) → cond b None (Some wrong_handle_kind) ≡ None → b ≡ true
      by true h = refl
      by false h = absurd cc
  taken_to places.Class u node h = by u (is_desc node) h
    where
      by : (u b : Bool) → cond u (Some bad_desc) (cond b None (Some wrong_handle_kind)) ≡ None → (b && not u) ≡ true
      by true b h = absurd cc
      by false true h = refl
      by false false h = absurd cc
  taken_to places.Parent u node h = by u (is_desc node) h
    where
      by : (u b : Bool) → cond u (Some bad_desc) (cond b None (Some wrong_handle_kind)) ≡ None → (b && not u) ≡ true
      by true b h = absurd cc
      by false true h = refl
      by false false h = absurd cc

  taken_from : (p : SlotPlace) (u : Bool) (node : Node) → takes p u node ≡ true → handle_fault p u (Some node) ≡ None
  unfolding takes
  taken_from places.Reference u node h = refl
  taken_from places.Text u node h = rw h refl
  taken_from places.Class u node h = by u (is_desc node) h
    where
      by : (u b : Bool) → (b && not u) ≡ true → cond u (Some bad_desc) (cond b None (Some wrong_handle_kind)) ≡ None
      by true true h = absurd cc
      by true false h = absurd cc
      by false true h = refl
      by false false h = absurd cc
  taken_from places.Parent u node h = by u (is_desc node) h
    where
      by : (u b : Bool) → (b && not u) ≡ true → cond u (Some bad_desc) (cond b None (Some wrong_handle_kind)) ≡ None
      by true true h = absurd cc
      by true false h = absurd cc
      by false true h = refl
      by false false h = absurd cc

  handle_to : (left : ℕ) (p : SlotPlace) (unread : List ℕ) (at code : ℕ) (now : Progress) (bs : List ℕ) (y : SlotOk) → code ≡ 0x71 → handle_at p unread at now bs ≡ Ok y → GivesCode R left p unread now code bs y
  unfolding handle_at
  handle_to left p unread at code now bs y is e =
      let h = bind_ok (number_at w32 bs) _ y e in
      let g = guarded (ltb h.0.0 0x7E0000) (bad bad_handle at) _ y h.2 in
      let u = unless_ok (handle_fault p (has unread (h.0.0 - 0x7E0000)) (slice_get now.nodes (h.0.0 - 0x7E0000))) at (Ok (slots.Node (h.0.0 - 0x7E0000), now, h.0.1)) y g.1 in
      by h.0 (number_has w32 bs h.0 h.1) (ltb-false h.0.0 0x7E0000 g.0) (slice_get now.nodes (h.0.0 - 0x7E0000)) refl u.0 (sym (ok_is _ y u.1))
    where
      by : (h : ℕ × List ℕ) → HasNumber w32 bs h → 0x7E0000 ≤ h.0 → (o : Option Node) → slice_get now.nodes (h.0 - 0x7E0000) ≡ o → handle_fault p (has unread (h.0 - 0x7E0000)) o ≡ None → y ≡ (slots.Node (h.0 - 0x7E0000), now, h.1) → GivesCode R left p unread now code bs y
      by h number low None got none same = absurd cc
      by h number low (Some node) got none same = a_handle h node is number low got (taken_to p (has unread (h.0 - 0x7E0000)) node none) same

  handle_from : (p : SlotPlace) (unread : List ℕ) (at : ℕ) (now : Progress) (bs : List ℕ) (y : SlotOk) (h : ℕ × List ℕ) (node : Node) → HasNumber w32 bs h → 0x7E0000 ≤ h.0 → slice_get now.nodes (h.0 - 0x7E0000) ≡ Some node → takes p (has unread (h.0 - 0x7E0000)) node ≡ true
      → y ≡ (slots.Node (h.0 - 0x7E0000), now, h.1) → handle_at p unread at now bs ≡ Ok y
  unfolding handle_at
  handle_from p unread at now bs y h node number low got taken same =
      ok_first (number_at w32 bs) _ h _ (has_number w32 bs h number) (rw (le-ltb h.0 0x7E0000 low) (rw got (rw (taken_from p (has unread (h.0 - 0x7E0000)) node taken) (ap (λ z. done z) (sym same)))))

  deep_to : (left at : ℕ) (r : Result SlotOk Fault) (y : SlotOk) → deep left at r ≡ Ok y → (0 < left) × (r ≡ Ok y)
  deep_to zero at r y e = absurd cc
  deep_to (suc left) at r y e = (omega arith, e)

  deep_from : (left at : ℕ) (r : Result SlotOk Fault) (y : SlotOk) → 0 < left → r ≡ Ok y → deep left at r ≡ Ok y
  deep_from zero at r y some e = absurd (omega arith)
  deep_from (suc left) at r y some e = e

  pub coded_to : (left : ℕ) (p : SlotPlace) (unread : List ℕ) (at code : ℕ) (now : Progress) (bs : List ℕ) (y : SlotOk) → coded end left inner p unread at code now bs ≡ Ok y → GivesCode R left p unread now code bs y
  unfolding coded
  coded_to left p unread at code now bs y e = elim (chosen (eqb code 0x70) _ _ _ e) [
    | inl a ↦ (let n = null_to p at now bs y a.1 in a_null (eqb-true code 0x70 a.0) n.0 n.1)
    | inr a ↦ elim (chosen (eqb code 0x71) _ _ _ a.1) [
      | inl b ↦ handle_to left p unread at code now bs y (eqb-true code 0x71 b.0) b.1
      | inr b ↦ (
          let c = passed (admits_code p code) (deep left at (roomy now at (fresh_at end at inner unread code now bs))) (bad (code_fault code) at) y b.1 in
          let d = deep_to left at (roomy now at (fresh_at end at inner unread code now bs)) y c.1 in
          let g = passed (ltb (length now.nodes) NODES) (fresh_at end at inner unread code now bs) (too_many at) y d.1 in
          a_construct d.0 c.0 (ltb-true (length now.nodes) NODES g.0) (fresh_to at unread code now bs y g.1))
    ]
  ]

  pub coded_from : (left : ℕ) (p : SlotPlace) (unread : List ℕ) (at code : ℕ) (now : Progress) (bs : List ℕ) (y : SlotOk) → GivesCode R left p unread now code bs y → coded end left inner p unread at code now bs ≡ Ok y
  unfolding coded
  coded_from left p unread at code now bs y (a_null is h same) = ap (λ k. coded end left inner p unread at k now bs) is ∙ null_from p at now bs y h same
  coded_from left p unread at code now bs y (a_handle h node is number low got taken same) = ap (λ k. coded end left inner p unread at k now bs) is ∙ handle_from p unread at now bs y h node number low got taken same
  coded_from left p unread at code now bs y (a_construct some admitted room h) =
      let n = admitted_none p code admitted in
      rw (ne_eqb code 0x70 n.0) (rw (ne_eqb code 0x71 n.1) (rw admitted (deep_from left at (roomy now at (fresh_at end at inner unread code now bs)) y some (rw (lt-ltb (length now.nodes) NODES room) (fresh_from at unread code now bs y h)))))

-- ---- all levels

pub no_references : SameReferences no_slots gives_none
no_references = record { at = λ p unread. record { to = λ now bs y e. absurd cc; from = λ now bs y h. absurd h } }

abbrev pub first_byte : ℕ → ℕ → Slots → Slots
first_byte end left inner p unread now bs = byte_at bs >>= λ c. coded end left inner p unread (end - length bs) c.0 now c.1

pub step_same : (end left : ℕ) (inner : Slots) (R : References) → SameReferences inner R → SameReferences (first_byte end left inner) (GivesHere R left)
step_same end left inner R s = record { at = λ p unread. record { to = to p unread; from = from p unread } }
  where
    to : (p : SlotPlace) (unread : List ℕ) (now : Progress) (bs : List ℕ) (y : SlotOk) → first_byte end left inner p unread now bs ≡ Ok y → GivesHere R left p unread now bs y
    to p unread now bs y e =
        let c = bind_ok (byte_at bs) _ y e in
        record { code = c.0.0; rest = c.0.1; is = byte_has bs c.0 c.1; gives = coded_to end inner R s left p unread (end - length bs) c.0.0 now c.0.1 y c.2 }

    from : (p : SlotPlace) (unread : List ℕ) (now : Progress) (bs : List ℕ) (y : SlotOk) → GivesHere R left p unread now bs y → first_byte end left inner p unread now bs ≡ Ok y
    from p unread now bs y h = ok_first (byte_at bs) _ (h.code, h.rest) _ (has_byte bs (h.code, h.rest) h.is) (coded_from end inner R s left p unread (end - length bs) h.code now h.rest y h.gives)

-- Reading a reference answers what the bytes give of it.
pub same_references : (end left : ℕ) → SameReferences (slot_at end left) (Reads left)
unfolding slot_at Reads
same_references end zero = let g = step_same end zero no_slots gives_none no_references in record { at = λ p unread. record { to = λ now bs y e. (g.at p unread).to now bs y e; from = λ now bs y h. (g.at p unread).from now bs y h } }
same_references end (suc left) = let g = step_same end (suc left) (slot_at end left) (Reads left) (same_references end left) in record { at = λ p unread. record { to = λ now bs y e. (g.at p unread).to now bs y e; from = λ now bs y h. (g.at p unread).from now bs y h } }
