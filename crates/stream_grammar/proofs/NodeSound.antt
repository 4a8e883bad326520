-- Texts and descriptions that are read are spelled, and are in range.
use Rattle.std.proofs.Common.{◌≡◌, ◌||◌, ℕ, suc, ◌+◌, ◌<◌, ◌≤◌, ◌^◌, true, false, eqb, ltb, List, [], ◌∷◌, ◌++◌, length, Some, Ok, slice_get, refl, sym, ap, subst, ◌∙◌, arith}
use Rattle.std.proofs.lemmas.Bool.{lt-ltb, ltb-false}
use Rattle.std.specs.Prelude.{All, FitsSigned}
use Rattle.std.proofs.lemmas.Int.{of_z-to_z}
use borrow.Author.Gap.{read_sfits}
use Rattle.std.specs.Int.{w16, w64, to_be_bytes, cast_unsigned, cast_signed}
use Rattle.mod_utf.specs.Utf.{utf}
use Rattle.class_desc.specs.declared.slot.Slot.{Slot}
use Rattle.class_desc.specs.declared.slot.Slot.TheVariants as slots
use Rattle.class_desc.specs.declared.slot.Item.{Item}
use Rattle.class_desc.specs.declared.field.FieldDesc.{FieldDesc}
use Rattle.class_desc.specs.declared.desc.ClassDesc.{ClassDesc}
use Rattle.class_desc.specs.ClassDesc.{is_good_desc, fit_flags}
use Rattle.ser_values.specs.declared.node.Node.{Node}
use Rattle.ser_values.specs.declared.node.Node.TheVariants.{Text, Desc}
use Rattle.ser_values.specs.declared.node.SlotPlace.TheVariants as places
use Rattle.ser_values.specs.Node.{is_desc, is_text, inside}
use Rattle.ser_values.specs.Shape.{is_short, are_typed, is_joined, is_shaped, refs_in, parts_of}
use Rattle.ser_values.specs.Ranges.{ItemFits, ItemsFit, TextFits, NameFits, InRange}
use Rattle.stream_grammar.specs.Spelled.{Token, want, note, number, short_text, long_text, field_tokens, Form, a_text, a_long_text, a_desc, One, SpellsItems, SpellsToken, SpellsAll, Spelling}
use Rattle.stream_grammar.specs.Reading.{◌>>=◌, too_many, byte_at, number_at, size_at, short_at, long_at, Progress, add_parts, Slots, many_at, push, fill, blank, items_at, field_at, text_at, desc_after, desc_at}
use Rattle.ser_values.proofs.Lists.{length_push, slice_get-append_seam}
use Rattle.std.proofs.lemmas.List.{length-set}
use Rattle.std.proofs.lemmas.List.Elements.{All-nil, All-cons}
use Rattle.stream_grammar.proofs.Steps.{field_toks, fields_flat}
use Rattle.stream_grammar.proofs.Forms.{desc_tokens}
use Rattle.stream_grammar.proofs.Constructs.{set_here}
use Rattle.stream_grammar.proofs.PlainSound.{AreBytes, bind_ok, guarded, passed, ok_is, number_sound_16, number_sound_64, size_sound, short_sound, long_sound}
use Rattle.stream_grammar.proofs.Solid.{WholeSlot, Solid, GotBy, Got, got_sum, got_map, got_self, grown_length, Free, free_solid, solid_add, got_add}
use Rattle.ser_values.proofs.Ranged.{units_all}
use Rattle.stream_grammar.proofs.Filled.{got_filled, got_pushed}
use Rattle.stream_grammar.proofs.StepSound.{IsSound, spells_join, spells_last, Each, many_sound, byte_spells, back, FieldOk}
use Rattle.stream_grammar.proofs.FieldSound.{field_sound}
use Rattle.stream_grammar.proofs.NoteSound.{items_sound}

-- ---- a node that got a handle

-- how a graph has the node and its bytes spell it
pub record FreshAs (F : List Node) (S : Spelling) (unread : List ℕ) (n code : ℕ) (bs rest : List ℕ) (m k : ℕ) (i : Node) : Type 0 where
  pub is : slice_get F k ≡ Some i
  pub shaped : is_shaped F i ≡ true
  pub befores : List Token
  pub afters : List Token
  pub form : Form F i code befores afters
  pub middle : List ℕ
  pub first : SpellsAll (S unread) befores n bs middle k
  pub second : SpellsAll (S (inside unread k i)) afters (suc k) middle rest m

pub record GotNode (S : List Node → Spelling) (unread : List ℕ) (now : Progress) (code : ℕ) (bs : List ℕ) (y : Slot × Progress × List ℕ) : Type 0 where
  pub k : ℕ
  pub node : Node
  pub what : y.0 ≡ slots.Node k
  pub low : length now.nodes ≤ k
  pub few : k < 65536
  pub here : slice_get y.1.nodes k ≡ Some node
  pub desc : is_desc node ≡ (eqb code 0x72 || eqb code 0x7D)
  pub text : is_text node ≡ (eqb code 0x74 || eqb code 0x7C)
  pub got : Got unread now y.1 y.2 (λ F. FreshAs F (S F) unread (length now.nodes) code bs y.2 (length y.1.nodes) k node)

-- the node that keeps a place free is in range
pub blank_ranged : InRange (Desc blank)
blank_ranged = ((read_sfits w64 0, All-nil ItemFits), (All-nil _, All-nil NameFits))

-- the node in its place
pub filled_here : (now mid last : Progress) (added : List Node) (i j : Node) → mid.nodes ≡ now.nodes ++ j ∷ [] → last.nodes ≡ mid.nodes ++ added → slice_get (fill last (length now.nodes) i).nodes (length now.nodes) ≡ Some i
filled_here now mid last added i j e f =
    let a : length mid.nodes ≡ suc (length now.nodes) = ap (λ (l : List Node). length l) e ∙ length_push now.nodes j in
    let b = grown_length mid.nodes added last.nodes f in
    set_here last.nodes (length now.nodes) i (omega arith)

-- ---- texts

text_node : (S : List Node → Spelling) (unread : List ℕ) (now : Progress) (code : ℕ) (t bs rest : List ℕ) (tok : Token) → Solid unread now → length now.nodes < 65536 → length (utf t) < 2 ^ 63 → TextFits t → false ≡ (eqb code 0x72 || eqb code 0x7D) → true ≡ (eqb code 0x74 || eqb code 0x7C)
    → ((F : List Node) → Form F (Text t) code [] (tok ∷ [])) → ((S : One) (n m : ℕ) → m ≡ n → SpellsToken S tok n bs rest m) → AreBytes rest → GotNode S unread now code bs (slots.Node (length now.nodes), push now (Text t), rest)
unfolding is_desc is_text is_shaped
text_node S unread now code t bs rest tok solid room fits units d tx form spelled bytes = record {
  k = length now.nodes;
  node = Text t;
  what = refl;
  low = omega arith;
  few = room;
  here = here_of;
  desc = d;
  text = tx;
  got = got_pushed unread now rest _ (Text t) solid refl refl (tt, units) bytes (λ F sees is. record {
    is = is;
    shaped = lt-ltb _ _ fits;
    befores = [];
    afters = tok ∷ [];
    form = form F;
    middle = bs;
    first = (refl, refl);
    second = spells_last (S F unread) tok (suc (length now.nodes)) bs rest (length (push now (Text t)).nodes) (spelled (S F unread) (suc (length now.nodes)) (length (push now (Text t)).nodes) (length_push now.nodes (Text t)));
  });
}
  where
    here_of : slice_get (push now (Text t)).nodes (length now.nodes) ≡ Some (Text t)
    here_of = slice_get-append_seam now.nodes (Text t) []

pub short_node : (S : List Node → Spelling) (unread : List ℕ) (end : ℕ) (now : Progress) (bs : List ℕ) (y : Slot × Progress × List ℕ) → text_at (short_at end) now bs ≡ Ok y → Solid unread now → AreBytes bs → length now.nodes < 65536 → GotNode S unread now 0x74 bs y
unfolding text_at
short_node S unread end now bs y e solid bytes room =
    let a = bind_ok (short_at end bs) (λ t. Ok (slots.Node (length now.nodes), push now (Text t.0), t.1)) y e in
    let t = short_sound end bs a.0 a.1 bytes in
    let below = t.below in
    subst (λ (y : Slot × Progress × List ℕ). GotNode S unread now 0x74 bs y) (ok_is (slots.Node (length now.nodes), push now (Text a.0.0), a.0.1) y a.2)
    (text_node S unread now 0x74 a.0.0 bs a.0.1 (short_text a.0.0) solid room (omega arith) (units_all a.0.0 t.units) refl refl (λ F. a_text a.0.0 t.below) (λ S n m same. (t.parts, same)) t.left)

pub long_node : (S : List Node → Spelling) (unread : List ℕ) (end : ℕ) (now : Progress) (bs : List ℕ) (y : Slot × Progress × List ℕ) → text_at (long_at end) now bs ≡ Ok y → Solid unread now → AreBytes bs → length now.nodes < 65536 → GotNode S unread now 0x7C bs y
unfolding text_at
long_node S unread end now bs y e solid bytes room =
    let a = bind_ok (long_at end bs) (λ t. Ok (slots.Node (length now.nodes), push now (Text t.0), t.1)) y e in
    let t = long_sound end bs a.0 a.1 bytes in
    subst (λ (y : Slot × Progress × List ℕ). GotNode S unread now 0x7C bs y) (ok_is (slots.Node (length now.nodes), push now (Text a.0.0), a.0.1) y a.2)
    (text_node S unread now 0x7C a.0.0 bs a.0.1 (long_text a.0.0) solid room t.below (units_all a.0.0 t.units) refl refl (λ F. a_long_text a.0.0 t.below) (λ S n m same. (t.parts, same)) t.left)

-- ---- descriptions

each_typed : (F : List Node) (fs : List FieldDesc) → Each (FieldOk F) fs → are_typed F fs ≡ true
unfolding are_typed
each_typed F [] h = refl
each_typed F (f ∷ fs) h = rw (h.0.0) (rw (h.0.1) (each_typed F fs h.1))

each_named : (F : List Node) (fs : List FieldDesc) → Each (FieldOk F) fs → All NameFits fs
each_named F [] h = All-nil NameFits
each_named F (f ∷ fs) h = All-cons NameFits f fs h.0.2 (each_named F fs h.1)

record GotDesc (S : List Node → Spelling) (unread name : List ℕ) (suid flags : ℕ) (now : Progress) (bs : List ℕ) (y : ClassDesc × Progress × List ℕ) : Type 0 where
  name_is : y.0.name ≡ name
  suid_is : y.0.suid ≡ cast_signed w64 suid
  flags_are : y.0.flags ≡ flags
  few : length y.0.fields < 32768
  good : is_good_desc y.0 ≡ true
  joined : is_joined y.0.note ≡ true
  names : All NameFits y.0.fields
  note_fits : ItemsFit y.0.note
  parent : WholeSlot y.1.nodes unread y.0.parent
  got : GotBy (parts_of (Desc y.0)) unread now y.1 y.2 (λ F. SpellsAll (S F unread) (number w16 (length y.0.fields) ∷ (field_tokens y.0.fields ++ (note y.0.note ∷ want (places.Parent, y.0.parent) ∷ []))) (length now.nodes) bs y.2 (length y.1.nodes) × (are_typed F y.0.fields ≡ true))

abbrev desc_with : List ℕ → ℕ → ℕ → List FieldDesc → List Item → Slot → ClassDesc
desc_with name suid flags fs is p = record { name = name; suid = cast_signed w64 suid; flags = flags; fields = fs; note = is; parent = p }

good_with : (name : List ℕ) (suid flags : ℕ) (fs : List FieldDesc) (is : List Item) (p : Slot) → is_good_desc (desc_with name suid flags fs [] slots.Null) ≡ is_good_desc (desc_with name suid flags fs is p)
unfolding is_good_desc fit_flags
good_with name suid flags fs is p = refl

desc_after_sound : (S : List Node → Spelling) (inner : Slots) → IsSound S inner → (unread : List ℕ) (end at : ℕ) (name : List ℕ) (suid flags : ℕ) (now : Progress) (bs : List ℕ) (y : ClassDesc × Progress × List ℕ) → desc_after end at inner unread name suid flags now bs ≡ Ok y → Solid unread now → AreBytes bs
    → GotDesc S unread name suid flags now bs y
unfolding desc_after
desc_after_sound S inner sound unread end at name suid flags now bs y e solid bytes =
    let one = inner places.Reference unread in
    let step = field_at end at (inner places.Text unread) in
    let a = bind_ok (size_at end w16 32768 bs) _ y e in
    let count = guarded (ltb 1048576 (now.parts + a.0.0)) (too_many at) _ y a.2 in
    let room : now.parts + a.0.0 ≤ 1048576 = ltb-false 1048576 (now.parts + a.0.0) count.0 in
    let next = add_parts a.0.0 now in
    let b = bind_ok (many_at step a.0.0 next a.0.1) _ y count.1 in
    let fs = b.0 in
    let c = passed (is_good_desc (desc_with name suid flags fs.0 [] slots.Null)) _ _ y b.2 in
    let d = bind_ok (items_at end one true fs.1 fs.2) (λ is. inner places.Parent unread is.1 is.2 >>= λ p. Ok (desc_with name suid flags fs.0 is.0 p.0, p.1, p.2)) y c.1 in
    let is = d.0 in
    let f = bind_ok (inner places.Parent unread is.1 is.2) (λ p. Ok (desc_with name suid flags fs.0 is.0 p.0, p.1, p.2)) y d.2 in
    let p = f.0 in
    let n = size_sound end w16 32768 (2 ^ 16) number_sound_16 bs a.0 a.1 bytes in
    let g = many_sound S unread step field_toks FieldOk (field_sound S inner sound unread end at) a.0.0 next a.0.1 fs b.1 (solid_add unread now a.0.0 solid room) n.left in
    let h = items_sound S inner sound unread end true fs.1 fs.2 is d.1 g.got.solid g.got.left in
    let k = sound unread places.Parent is.1 is.2 p f.1 h.got.solid h.got.left in
    let below = n.below in
    let noted : GotBy (refs_in is.0) unread fs.1 is.1 is.2 (λ F. SpellsItems (S F unread) is.0 (length fs.1.nodes) fs.2 (0x78 ∷ is.2) (length is.1.nodes)) = got_map unread fs.1 is.1 is.2 _ _ h.got (λ F sees q. subst (λ (l : List ℕ). SpellsItems (S F unread) is.0 (length fs.1.nodes) fs.2 l (length is.1.nodes)) h.ends q) in
    let tail = got_sum (refs_in is.0) (omega arith) unread fs.1 is.1 p.1 is.2 p.2 _ _ (λ F. SpellsAll (S F unread) (note is.0 ∷ want (places.Parent, p.0) ∷ []) (length fs.1.nodes) fs.2 p.2 (length p.1.nodes)) noted k.got
    (λ F sees q r. (is.2, length is.1.nodes, q, spells_last (S F unread) (want (places.Parent, p.0)) (length is.1.nodes) is.2 p.2 (length p.1.nodes) r)) in
    let begins : bs ≡ to_be_bytes w16 (length fs.0) ++ a.0.1 = n.parts ∙ ap (λ k. to_be_bytes w16 k ++ a.0.1) (sym g.len) in
    let counted = got_sum a.0.0 (omega arith) unread now next fs.1 a.0.1 fs.2 _ _ _ (got_add unread now a.0.0 a.0.1 solid room n.left) g.got (λ F sees u q. q) in
    let len = g.len in
    let whole = got_sum (length fs.0 + refs_in is.0) (omega arith) unread now fs.1 p.1 fs.2 p.2 _ _ (λ F. SpellsAll (S F unread) (number w16 (length fs.0) ∷ (field_tokens fs.0 ++ (note is.0 ∷ want (places.Parent, p.0) ∷ []))) (length now.nodes) bs p.2 (length p.1.nodes) × (are_typed F fs.0 ≡ true)) counted tail
    (λ F sees q r. (
      (
        a.0.1,
        length now.nodes,
        (begins, refl),
        spells_join (S F unread) (field_tokens fs.0) (note is.0 ∷ want (places.Parent, p.0) ∷ []) (length now.nodes) a.0.1 fs.2 p.2 (length fs.1.nodes) (length p.1.nodes)
            (subst (λ (ts : List Token). SpellsAll (S F unread) ts (length now.nodes) a.0.1 fs.2 (length fs.1.nodes)) (sym (fields_flat fs.0)) q.0) r,
      ),
      each_typed F fs.0 q.1,
    )) in
    subst (λ (y : ClassDesc × Progress × List ℕ). GotDesc S unread name suid flags now bs y) (ok_is (desc_with name suid flags fs.0 is.0 p.0, p.1, p.2) y f.2) (record {
      name_is = refl;
      suid_is = refl;
      flags_are = refl;
      few = rw g.len below;
      good = sym (good_with name suid flags fs.0 is.0 p.0) ∙ c.0;
      joined = h.fine;
      names = each_named fs.1.nodes fs.0 (got_self unread next fs.1 fs.2 _ g.got).1;
      note_fits = h.ranged;
      parent = k.whole;
      got = whole;
    })

pub desc_node : (S : List Node → Spelling) (inner : Slots) → IsSound S inner → (unread : List ℕ) (end at : ℕ) (now : Progress) (bs : List ℕ) (y : Slot × Progress × List ℕ) → desc_at end at inner unread now bs ≡ Ok y → Solid unread now → AreBytes bs → length now.nodes < 65536 → GotNode S unread now 0x72 bs y
unfolding desc_at is_desc is_text is_shaped
desc_node S inner sound unread end at now bs y e solid bytes room =
    let n = length now.nodes in
    let within = unread ++ n ∷ [] in
    let a = bind_ok (short_at end bs) _ y e in
    let b = bind_ok (number_at w64 a.0.1) _ y a.2 in
    let c = bind_ok (byte_at b.0.1) _ y b.2 in
    let mid = push now (Desc blank) in
    let f = bind_ok (desc_after end at inner within a.0.0 b.0.0 c.0.0 mid c.0.1) (λ d. Ok (slots.Node n, fill d.1 n (Desc d.0), d.2)) y c.2 in
    let d = f.0 in
    let t = short_sound end bs a.0 a.1 bytes in
    let u = number_sound_64 a.0.1 b.0 b.1 t.left in
    let v = byte_spells b.0.1 u.left c.0 c.1 in
    let free : Free unread now mid (Desc blank) true = record { grown = refl; kind = refl; few = solid.few; ranged = blank_ranged } in
    let g = desc_after_sound S inner sound within end at a.0.0 b.0.0 c.0.0 mid c.0.1 d f.1 (free_solid unread now mid (Desc blank) true solid free) v.0 in
    let below = t.below in
    let name : is_short d.0.name ≡ true = rw g.name_is (lt-ltb _ _ below) in
    let few : ltb (length d.0.fields) 32768 ≡ true = lt-ltb _ _ g.few in
    let good = g.good in
    let joined = g.joined in
    let mid_len : length mid.nodes ≡ suc n = length_push now.nodes (Desc blank) in
    let text : bs ≡ (to_be_bytes w16 (length (utf d.0.name)) ++ utf d.0.name) ++ a.0.1 = rw g.name_is (t.parts) in
    let suid : a.0.1 ≡ to_be_bytes w64 (cast_unsigned w64 d.0.suid) ++ b.0.1 = rw g.suid_is (back w64 (2 ^ 64) a.0.1 b.0 (of_z-to_z w64) u) in
    let flags : b.0.1 ≡ d.0.flags ∷ c.0.1 = rw g.flags_are v.1 in
    let len : length (fill d.1 n (Desc d.0)).nodes ≡ length d.1.nodes = length-set d.1.nodes n (Desc d.0) in
    let number_fits : FitsSigned w64 d.0.suid = subst (FitsSigned w64) (sym g.suid_is) (read_sfits w64 b.0.0) in
    let name_fits : TextFits d.0.name = subst TextFits (sym g.name_is) (units_all a.0.0 t.units) in
    let ranged : InRange (Desc d.0) = ((number_fits, g.note_fits), (name_fits, g.names)) in
    subst (λ (y : Slot × Progress × List ℕ). GotNode S unread now 0x72 bs y) (ok_is (slots.Node n, fill d.1 n (Desc d.0), d.2) y f.2) (record {
      k = n;
      node = Desc d.0;
      what = refl;
      low = omega arith;
      few = room;
      here = filled_here now mid d.1 g.got.added (Desc d.0) (Desc blank) refl g.got.grown;
      desc = refl;
      text = refl;
      got = got_filled unread now mid d.1 d.2 _ _ (Desc d.0) (Desc blank) true solid refl refl free g.got (λ yes. g.parent) g.good ranged (omega arith) (λ F sees is q. record {
        is = is;
        shaped = (let typed = q.1 in rw name (rw few (rw good (rw typed joined))));
        befores = short_text d.0.name ∷ number w64 (cast_unsigned w64 d.0.suid) ∷ [];
        afters = desc_tokens d.0;
        form = a_desc d.0;
        middle = b.0.1;
        first = (a.0.1, n, (text, refl), (b.0.1, n, (suid, refl), (refl, refl)));
        second = (c.0.1, suc n, (flags, refl), rw len (rw (sym mid_len) q.0));
      });
    })
