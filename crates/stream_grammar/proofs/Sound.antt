-- What is read is spelled: bytes are a stream of the nodes and items that reading answers.
use Rattle.std.proofs.Common.{◌≡◌, ◌&&◌, ◌||◌, not, ℕ, zero, suc, ◌+◌, ◌-◌, ◌<◌, ◌≤◌, Bool, true, false, cond, eqb, ltb, List, [], ◌∷◌, ◌++◌, length, Some, None, Option, Result, Ok, Err, slice_get, refl, sym, ap, subst, ◌∙◌, arith, inl, inr}
use Rattle.std.proofs.lemmas.Bool.{eqb-true, ltb-true, ltb-false}
use Rattle.std.proofs.lemmas.List.Elements.{All-nil}
use Rattle.std.proofs.lemmas.Option.{slice_get_within}
use Rattle.std.specs.Int.{w32, to_be_bytes}
use Rattle.class_desc.specs.declared.slot.Slot.{Slot}
use Rattle.class_desc.specs.declared.slot.Slot.TheVariants as slots
use Rattle.class_desc.specs.declared.slot.Item.{Item}
use Rattle.ser_values.specs.declared.node.Node.{Node}
use Rattle.ser_values.specs.declared.node.SlotPlace.{SlotPlace}
use Rattle.ser_values.specs.declared.node.SlotPlace.TheVariants as places
use Rattle.ser_values.specs.Node.{has, is_desc, is_text, admits, admits_null, takes}
use Rattle.ser_values.specs.Shape.{parts_in}
use Rattle.ser_values.specs.Ranges.{ItemsFit, InRange}
use Rattle.stream_grammar.specs.Spelled.{Spelling, Spell, a_null, again, fresh, never, Spells, SpellsItems, IsStream}
use Rattle.stream_grammar.specs.Reading.{Fault, bad, bad_code, bad_handle, bad_desc, wrong_handle_kind, bad_magic, too_many, ◌>>=◌, byte_at, number_at, Progress, Slots, roomy, with_class, object_at, array_at, class_at, enum_at, admits_code, code_fault, fresh_at, null_at, handle_fault, handle_at, deep, coded, no_slots, slot_at, magic_at, items_at, stream_of}
use Rattle.ser_values.proofs.Lists.{has_not, found_at}
use Rattle.ser_values.proofs.Ranged.{numbers_of, units_of}
use Rattle.stream_grammar.proofs.PlainSound.{AreBytes, all_bytes, bind_ok, passed, guarded, chosen, ok_is, number_sound_32, unless_ok}
use Rattle.stream_grammar.proofs.Solid.{IsWhole, WholeIn, Solid, Sees, got_none, got_map}
use Rattle.stream_grammar.proofs.StepSound.{GotSlot, IsSound, byte_spells}
use Rattle.stream_grammar.proofs.NoteSound.{items_sound}
use Rattle.stream_grammar.proofs.NodeSound.{GotNode, short_node, long_node, desc_node}
use Rattle.stream_grammar.proofs.ObjectSound.{class_node, object_node, array_node, class_of_node, enum_node}
use Rattle.stream_grammar.proofs.ProxySound.{proxy_node}

-- ---- a node that gets a handle

fresh_sound : (S : List Node → Spelling) (inner : Slots) → IsSound S inner → (unread : List ℕ) (end at code : ℕ) (now : Progress) (bs : List ℕ) (y : Slot × Progress × List ℕ) → fresh_at end at inner unread code now bs ≡ Ok y → Solid unread now → AreBytes bs → length now.nodes < 65536 → GotNode S unread now code bs y
unfolding fresh_at
fresh_sound S inner sound unread end at code now bs y e solid bytes room =
    let one = inner places.Reference unread in
    elim (chosen (eqb code 0x72) _ _ _ e) [
      | inl p ↦ by 0x72 p.0 (desc_node S inner sound unread end at now bs y p.1 solid bytes room)
      | inr p ↦ elim (chosen (eqb code 0x73) _ _ _ p.1) [
        | inl q ↦ by 0x73 q.0 (class_node S inner sound unread at 0x73 (object_at end at one) (object_node S inner sound unread end at) now bs y q.1 solid bytes)
        | inr q ↦ elim (chosen (eqb code 0x74) _ _ _ q.1) [
          | inl r ↦ by 0x74 r.0 (short_node S unread end now bs y r.1 solid bytes room)
          | inr r ↦ elim (chosen (eqb code 0x75) _ _ _ r.1) [
            | inl s ↦ by 0x75 s.0 (class_node S inner sound unread at 0x75 (array_at end at one) (array_node S inner sound unread end at) now bs y s.1 solid bytes)
            | inr s ↦ elim (chosen (eqb code 0x76) _ _ _ s.1) [
              | inl t ↦ by 0x76 t.0 (class_node S inner sound unread at 0x76 class_at (class_of_node S unread) now bs y t.1 solid bytes)
              | inr t ↦ elim (chosen (eqb code 0x7C) _ _ _ t.1) [
                | inl u ↦ by 0x7C u.0 (long_node S unread end now bs y u.1 solid bytes room)
                | inr u ↦ elim (chosen (eqb code 0x7D) _ _ _ u.1) [
                  | inl v ↦ by 0x7D v.0 (proxy_node S inner sound unread end at now bs y v.1 solid bytes room)
                  | inr v ↦
                      let w = passed (eqb code 0x7E) (with_class inner unread at (enum_at at (inner places.Text unread)) now bs) (bad bad_code at) y v.1 in
                      by 0x7E w.0 (class_node S inner sound unread at 0x7E (enum_at at (inner places.Text unread)) (enum_node S inner sound unread at) now bs y w.1 solid bytes)
                ]
              ]
            ]
          ]
        ]
      ]
    ]
  where
    by : (c : ℕ) → eqb code c ≡ true → GotNode S unread now c bs y → GotNode S unread now code bs y
    by c e g = subst (λ z. GotNode S unread now z bs y) (sym (eqb-true code c e)) g

-- ---- null and handles

null_ok : (p : SlotPlace) (at : ℕ) (now : Progress) (bs : List ℕ) (y : Slot × Progress × List ℕ) → null_at p at now bs ≡ Ok y → (admits_null p ≡ true) × ((slots.Null, now, bs) ≡ y)
unfolding admits_null
null_ok places.Reference at now bs y e = (refl, ok_is (slots.Null, now, bs) y e)
null_ok places.Parent at now bs y e = (refl, ok_is (slots.Null, now, bs) y e)
null_ok _ at now bs y e = absurd cc

null_whole : (p : SlotPlace) (N : List Node) (unread : List ℕ) → admits_null p ≡ true → WholeIn p N unread slots.Null
unfolding admits_null
null_whole places.Reference N unread h = tt
null_whole places.Class N unread h = tt
null_whole places.Parent N unread h = tt
null_whole places.Text N unread h = absurd cc

-- a handle that is taken
record IsTaken (p : SlotPlace) (N : List Node) (unread : List ℕ) (k : ℕ) : Type 0 where
  in_it : k < length N
  whole : WholeIn p N unread (slots.Node k)
  takes_it : (F : List Node) → Sees F N unread → (i : Node) × (slice_get F k ≡ Some i) × (takes p (has unread k) i ≡ true)

desc_test : (b d : Bool) → cond b (Some bad_desc) (cond d None (Some wrong_handle_kind)) ≡ None → (b ≡ false) × (d ≡ true)
desc_test true d h = absurd cc
desc_test false true h = (refl, refl)
desc_test false false h = absurd cc

text_test : (d : Bool) → cond d None (Some wrong_handle_kind) ≡ None → d ≡ true
text_test true h = refl
text_test false h = absurd cc

taken_desc : (N : List Node) (unread : List ℕ) (k : ℕ) (i : Node) → slice_get N k ≡ Some i → has unread k ≡ false → is_desc i ≡ true → (IsWhole N unread k) × ((F : List Node) → Sees F N unread → (x : Node) × (slice_get F k ≡ Some x) × ((is_desc x && not (has unread k)) ≡ true))
taken_desc N unread k i is gone desc = (record { read = gone; node = i; is = is; desc = desc }, λ F sees. (i, sees.descs k i gone is desc, rw desc (rw gone refl)))

taken : (p : SlotPlace) (N : List Node) (unread : List ℕ) (k : ℕ) (o : Option Node) → slice_get N k ≡ o → handle_fault p (has unread k) o ≡ None → IsTaken p N unread k
unfolding takes
taken places.Reference N unread k (Some i) is h = record { in_it = slice_get_within N k i is; whole = tt; takes_it = λ F sees. (let lt = slice_get_within N k i is in let long = sees.long in let x = found_at F k (omega arith) in (x.0, x.1, refl)) }
taken places.Text N unread k (Some i) is h =
    let text = text_test (is_text i) h in
    record { in_it = slice_get_within N k i is; whole = record { number = k; node = i; what = refl; is = is; text = text }; takes_it = λ F sees. (i, sees.texts k i is text, text) }
taken places.Class N unread k (Some i) is h =
    let t = desc_test (has unread k) (is_desc i) h in
    let d = taken_desc N unread k i is t.0 t.1 in
    record { in_it = slice_get_within N k i is; whole = d.0; takes_it = d.1 }
taken places.Parent N unread k (Some i) is h =
    let t = desc_test (has unread k) (is_desc i) h in
    let d = taken_desc N unread k i is t.0 t.1 in
    record { in_it = slice_get_within N k i is; whole = d.0; takes_it = d.1 }
taken p N unread k None is h = absurd cc

abbrev One : (List Node → Spelling) → ℕ → List Node → Spelling
One S left F = Spell F left (S F)

handle_sound : (S : List Node → Spelling) (left : ℕ) (p : SlotPlace) (unread : List ℕ) (at : ℕ) (now : Progress) (bs : List ℕ) (y : Slot × Progress × List ℕ) → handle_at p unread at now bs ≡ Ok y → Solid unread now → AreBytes bs → GotSlot (One S left) unread p now (0x71 ∷ bs) y
unfolding handle_at
handle_sound S left p unread at now bs y e solid bytes =
    let a = bind_ok (number_at w32 bs) _ y e in
    let h = a.0.0 in
    let n = number_sound_32 bs a.0 a.1 bytes in
    let b = guarded (ltb h 0x7E0000) (bad bad_handle at) _ y a.2 in
    let low : 0x7E0000 ≤ h = ltb-false h 0x7E0000 b.0 in
    let k = h - 0x7E0000 in
    let same : h ≡ 0x7E0000 + k = omega arith in
    let u = unless_ok (handle_fault p (has unread k) (slice_get now.nodes k)) at (Ok (slots.Node k, now, a.0.1)) y b.1 in
    let t = taken p now.nodes unread k (slice_get now.nodes k) refl u.0 in
    let begins : 0x71 ∷ bs ≡ 0x71 ∷ (to_be_bytes w32 (0x7E0000 + k) ++ a.0.1) = ap (λ (l : List ℕ). 0x71 ∷ l) (n.parts ∙ ap (λ z. to_be_bytes w32 z ++ a.0.1) same) in
    subst (λ (y : Slot × Progress × List ℕ). GotSlot (One S left) unread p now (0x71 ∷ bs) y) (ok_is (slots.Node k, now, a.0.1) y u.1) (record {
      got = got_none unread now a.0.1 _ solid n.left (λ F sees. (let x = t.takes_it F sees in again k x.0 refl x.1 t.in_it x.2 begins refl));
      whole = t.whole;
    })

-- ---- any reference

admitted : (p : SlotPlace) (code : ℕ) (i : Node) → is_desc i ≡ (eqb code 0x72 || eqb code 0x7D) → is_text i ≡ (eqb code 0x74 || eqb code 0x7C) → admits_code p code ≡ true → admits p i ≡ true
unfolding admits
admitted places.Reference code i d t h = refl
admitted places.Class code i d t h = d ∙ h
admitted places.Parent code i d t h = d ∙ h
admitted places.Text code i d t h = t ∙ h

node_whole : (p : SlotPlace) (N : List Node) (unread : List ℕ) (s : Slot) (k : ℕ) (i : Node) → s ≡ slots.Node k → slice_get N k ≡ Some i → has unread k ≡ false → admits p i ≡ true → WholeIn p N unread s
unfolding admits
node_whole places.Reference N unread s k i what is gone h = tt
node_whole places.Class N unread s k i what is gone h = rw what (record { read = gone; node = i; is = is; desc = h })
node_whole places.Parent N unread s k i what is gone h = rw what (record { read = gone; node = i; is = is; desc = h })
node_whole places.Text N unread s k i what is gone h = record { number = k; node = i; what = what; is = is; text = h }

deep_ok : {A : Type 0} (left at : ℕ) (r : Result A Fault) (y : A) → deep left at r ≡ Ok y → (0 < left) × (r ≡ Ok y)
deep_ok zero at r y e = absurd cc
deep_ok (suc left) at r y e = (omega arith, e)

coded_sound : (S : List Node → Spelling) (inner : Slots) → IsSound S inner → (end left : ℕ) (p : SlotPlace) (unread : List ℕ) (at code : ℕ) (now : Progress) (bs : List ℕ) (y : Slot × Progress × List ℕ) → coded end left inner p unread at code now bs ≡ Ok y → Solid unread now → AreBytes bs → GotSlot (One S left) unread p now (code ∷ bs) y
unfolding coded
coded_sound S inner sound end left p unread at code now bs y e solid bytes = elim (chosen (eqb code 0x70) _ _ _ e) [
  | inl q ↦
      let n = null_ok p at now bs y q.1 in
      let begins : code ∷ bs ≡ 0x70 ∷ bs = ap (λ z. z ∷ bs) (eqb-true code 0x70 q.0) in
      subst (λ (y : Slot × Progress × List ℕ). GotSlot (One S left) unread p now (code ∷ bs) y) n.1 (record { got = got_none unread now bs _ solid bytes (λ F sees. a_null refl n.0 begins refl); whole = null_whole p now.nodes unread n.0 })
  | inr q ↦ elim (chosen (eqb code 0x71) _ _ _ q.1) [
    | inl r ↦ subst (λ z. GotSlot (One S left) unread p now (z ∷ bs) y) (sym (eqb-true code 0x71 r.0)) (handle_sound S left p unread at now bs y r.1 solid bytes)
    | inr r ↦
        let a = passed (admits_code p code) (deep left at (roomy now at (fresh_at end at inner unread code now bs))) (bad (code_fault code) at) y r.1 in
        let b = deep_ok left at (roomy now at (fresh_at end at inner unread code now bs)) y a.1 in
        let d = passed (ltb (length now.nodes) 65536) (fresh_at end at inner unread code now bs) (too_many at) y b.1 in
        let g = fresh_sound S inner sound unread end at code now bs y d.1 solid bytes (ltb-true _ _ d.0) in
        let ok = admitted p code g.node g.desc g.text a.0 in
        record {
          got = got_map unread now y.1 y.2 _ _ g.got (λ F sees x. fresh g.k g.node code x.befores x.afters bs x.middle g.what x.is g.low g.few b.0 ok x.shaped x.form refl x.first x.second);
          whole = node_whole p y.1.nodes unread y.0 g.k g.node g.what g.here (has_not unread (length now.nodes) solid.below g.k g.low) ok;
        }
  ]
]

slot_by : (S T : List Node → Spelling) (inner : Slots) → IsSound S inner → (end left : ℕ) (unread : List ℕ) (p : SlotPlace) (now : Progress) (bs : List ℕ) (y : Slot × Progress × List ℕ) → ((F : List Node) (s : Slot) (bs rest : List ℕ) (m : ℕ) → Spell F left (S F) unread (p, s) (length now.nodes) bs rest m → T F unread (p, s) (length now.nodes) bs rest m)
    → (byte_at bs >>= λ c. coded end left inner p unread (end - length bs) c.0 now c.1) ≡ Ok y → Solid unread now → AreBytes bs → GotSlot T unread p now bs y
slot_by S T inner sound end left unread p now bs y as_one e solid bytes =
    let a = bind_ok (byte_at bs) (λ c. coded end left inner p unread (end - length bs) c.0 now c.1) y e in
    let s = byte_spells bs bytes a.0 a.1 in
    let g = coded_sound S inner sound end left p unread (end - length bs) a.0.0 now a.0.1 y a.2 solid s.0 in
    record {
      got = got_map unread now y.1 y.2 _ _ g.got (λ F sees h. as_one F y.0 bs y.2 (length y.1.nodes) (subst (λ (l : List ℕ). Spell F left (S F) unread (p, y.0) (length now.nodes) l y.2 (length y.1.nodes)) (sym s.1) h));
      whole = g.whole;
    }

none_sound : IsSound (λ F. never) no_slots
none_sound unread p now bs y e solid bytes = absurd cc

pub slots_sound : (end d : ℕ) → IsSound (λ F. Spells F d) (slot_at end d)
unfolding slot_at Spells
slots_sound end zero unread p now bs y e solid bytes = slot_by (λ F. never) (λ F. Spells F zero) no_slots none_sound end zero unread p now bs y (λ F s bs rest m h. h) e solid bytes
slots_sound end (suc d) unread p now bs y e solid bytes = slot_by (λ F. Spells F d) (λ F. Spells F (suc d)) (slot_at end d) (slots_sound end d) end (suc d) unread p now bs y (λ F s bs rest m h. h) e solid bytes

-- ---- a whole stream

pub record IsHeaded (ws bs rest : List ℕ) : Type 0 where
  pub parts : bs ≡ ws ++ rest
  pub left : AreBytes rest

pub magic_sound : (end : ℕ) (ws bs rest : List ℕ) → magic_at end ws bs ≡ Ok rest → AreBytes bs → IsHeaded ws bs rest
unfolding magic_at
magic_sound end [] bs rest e bytes = let same : bs ≡ rest = ok_is bs rest e in record { parts = same; left = subst AreBytes same bytes }
magic_sound end (w ∷ ws) bs rest e bytes =
    let a = bind_ok (byte_at bs) (λ b. cond (eqb b.0 w) (magic_at end ws b.1) (Err (bad bad_magic (end - length bs)))) rest e in
    let s = byte_spells bs bytes a.0 a.1 in
    let p = passed (eqb a.0.0 w) (magic_at end ws a.0.1) (bad bad_magic (end - length bs)) rest a.2 in
    let more = magic_sound end ws a.0.1 rest p.1 s.0 in
    record { parts = s.1 ∙ (ap (λ z. z ∷ a.0.1) (eqb-true a.0.0 w p.0) ∙ ap (λ (l : List ℕ). w ∷ l) more.parts); left = more.left }

abbrev pub Answer : Type 0
Answer = List Node × List Item

-- Bytes that are read are a stream of the nodes and items that are answered, and the items' bytes are in range.
pub stream_got : (bytes : List ℕ) (x : Answer) → AreBytes bytes → stream_of bytes ≡ Ok x → IsStream x.0 x.1 bytes × ItemsFit x.1
unfolding stream_of has parts_in
stream_got bytes x are e =
    let end = length bytes in
    let start : Progress = record { nodes = []; parts = 0 } in
    let a = bind_ok (magic_at end (0xAC ∷ 0xED ∷ 0x00 ∷ 0x05 ∷ []) bytes) (λ bs. items_at end (slot_at end 200 places.Reference []) false start bs >>= λ x. Ok (x.1.nodes, x.0)) x e in
    let b = bind_ok (items_at end (slot_at end 200 places.Reference []) false start a.0) (λ x. Ok (x.1.nodes, x.0)) x a.2 in
    let y = b.0 in
    let m = magic_sound end (0xAC ∷ 0xED ∷ 0x00 ∷ 0x05 ∷ []) bytes a.0 a.1 are in
    let solid : Solid [] start = record { above = λ k i gone is desc. absurd cc; good = λ k i gone is. absurd cc; below = λ k h. absurd cc; few = omega arith; ranged = All-nil InRange } in
    let g = items_sound (λ F. Spells F 200) (slot_at end 200) (slots_sound end 200) [] end false start a.0 y b.1 solid m.left in
    let F = y.1.nodes in
    let spelled : SpellsItems (Spells F 200 []) y.0 0 a.0 g.stop (length F) = g.got.spelled F (record { descs = λ k i gone is desc. is; texts = λ k i is t. is; long = omega arith }) (λ k low lt. refl) in
    let ended : SpellsItems (Spells F 200 []) y.0 0 a.0 [] (length F) = subst (λ (l : List ℕ). SpellsItems (Spells F 200 []) y.0 0 a.0 l (length F)) g.ends.0 spelled in
    let all : parts_in F ≡ parts_in g.got.added = ap parts_in g.got.grown in
    let p = g.got.parts in
    let few = g.got.solid.few in
    let ranged = g.got.solid.ranged in
    subst (λ (x : Answer). IsStream x.0 x.1 bytes × ItemsFit x.1) (ok_is (F, y.0) x b.2) (record { contents = a.0; headed = m.parts; spelled = ended; numbers = numbers_of F ranged; units = units_of F ranged; few_parts = omega arith; are_bytes = all_bytes bytes are }, g.ranged)

pub stream_sound : (bytes : List ℕ) (x : Answer) → AreBytes bytes → stream_of bytes ≡ Ok x → IsStream x.0 x.1 bytes
stream_sound bytes x are e = (stream_got bytes x are e).0
