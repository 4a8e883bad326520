-- Proxies' descriptions that are read are spelled.
use Rattle.std.proofs.Common.{◌+◌, ◌≤◌, ◌≡◌, ℕ, suc, ◌<◌, ◌^◌, true, ltb, List, [], ◌∷◌, ◌++◌, map, length, Ok, refl, sym, ap, subst, ◌∙◌, arith}
use Rattle.std.proofs.lemmas.Bool.{lt-ltb, ltb-false}
use Rattle.std.proofs.lemmas.List.{length-set}
use Rattle.std.proofs.lemmas.List.Elements.{All-nil, All-cons}
use Rattle.std.specs.Prelude.{All}
use Rattle.std.specs.Int.{w32, to_be_bytes}
use Rattle.class_desc.specs.declared.slot.Slot.{Slot}
use Rattle.class_desc.specs.declared.slot.Slot.TheVariants as slots
use Rattle.class_desc.specs.declared.desc.ProxyDesc.{ProxyDesc}
use Rattle.ser_values.specs.declared.node.Node.{Node}
use Rattle.ser_values.specs.declared.node.Node.TheVariants.{Desc, Proxy}
use Rattle.ser_values.specs.declared.node.SlotPlace.TheVariants as places
use Rattle.ser_values.specs.Node.{is_desc, is_text}
use Rattle.ser_values.specs.Shape.{is_short, are_short, is_shaped, refs_in}
use Rattle.ser_values.specs.Ranges.{TextFits}
use Rattle.stream_grammar.specs.Spelled.{Token, want, note, short_text, a_proxy, SpellsItems, SpellsAll, Spelling}
use Rattle.stream_grammar.specs.Reading.{too_many, size_at, short_at, Progress, add_parts, Slots, plain, many_at, push, fill, blank, items_at, proxy_at}
use Rattle.ser_values.proofs.Lists.{length_push}
use Rattle.stream_grammar.proofs.Forms.{proxy_tokens}
use Rattle.stream_grammar.proofs.Steps.{map_flat}
use Rattle.stream_grammar.proofs.PlainSound.{AreBytes, bind_ok, guarded, ok_is, number_sound_32, size_sound, short_sound}
use Rattle.stream_grammar.proofs.Solid.{Solid, GotBy, Got, got_none, got_sum, got_map, got_self, Free, free_solid}
use Rattle.ser_values.proofs.Ranged.{units_all}
use Rattle.stream_grammar.proofs.Filled.{got_filled}
use Rattle.stream_grammar.proofs.StepSound.{IsSound, spells_join, spells_last, plain_ok, StepSound, Each, many_sound}
use Rattle.stream_grammar.proofs.NoteSound.{items_sound}
use Rattle.stream_grammar.proofs.NodeSound.{GotNode, filled_here, blank_ranged}

ShortName : List Node → List ℕ → Type 0
ShortName F t = (is_short t ≡ true) × TextFits t

name_step : (S : List Node → Spelling) (unread : List ℕ) (end : ℕ) → StepSound S unread (plain (short_at end)) (λ t. short_text t ∷ []) ShortName
unfolding ShortName
name_step S unread end now bs y e solid bytes =
    let b = plain_ok (short_at end) now bs y e in
    let v = b.0 in
    let t = short_sound end bs v b.1 bytes in
    subst (λ (y : List ℕ × Progress × List ℕ). Got unread now y.1 y.2 (λ F. SpellsAll (S F unread) (short_text y.0 ∷ []) (length now.nodes) bs y.2 (length y.1.nodes) × ((is_short y.0 ≡ true) × TextFits y.0))) b.2
    (got_none unread now v.1 _ solid t.left (λ F sees. (spells_last (S F unread) (short_text v.0) (length now.nodes) bs v.1 (length now.nodes) (t.parts, refl), (lt-ltb _ _ t.below, units_all v.0 t.units))))

each_short : (F : List Node) (ns : List (List ℕ)) → Each (ShortName F) ns → are_short ns ≡ true
unfolding are_short ShortName
each_short F [] h = refl
each_short F (n ∷ ns) h = rw (h.0.0) (each_short F ns h.1)

each_units : (F : List Node) (ns : List (List ℕ)) → Each (ShortName F) ns → All TextFits ns
unfolding ShortName
each_units F [] h = All-nil TextFits
each_units F (n ∷ ns) h = All-cons TextFits n ns h.0.1 (each_units F ns h.1)

pub proxy_node : (S : List Node → Spelling) (inner : Slots) → IsSound S inner → (unread : List ℕ) (end at : ℕ) (now : Progress) (bs : List ℕ) (y : Slot × Progress × List ℕ) → proxy_at end at inner unread now bs ≡ Ok y → Solid unread now → AreBytes bs → length now.nodes < 65536 → GotNode S unread now 0x7D bs y
unfolding proxy_at is_desc is_text is_shaped
proxy_node S inner sound unread end at now bs y e solid bytes room =
    let n = length now.nodes in
    let within = unread ++ n ∷ [] in
    let one = inner places.Reference within in
    let begun = push now (Desc blank) in
    let a = bind_ok (size_at end w32 (2 ^ 31) bs) _ y e in
    let mid = add_parts a.0.0 begun in
    let count = guarded (ltb 1048576 (begun.parts + a.0.0)) (too_many at) _ y a.2 in
    let limit : begun.parts + a.0.0 ≤ 1048576 = ltb-false 1048576 (begun.parts + a.0.0) count.0 in
    let b = bind_ok (many_at (plain (short_at end)) a.0.0 mid a.0.1) _ y count.1 in
    let ns = b.0 in
    let d = bind_ok (items_at end one true ns.1 ns.2) _ y b.2 in
    let is = d.0 in
    let f = bind_ok (inner places.Parent within is.1 is.2) (λ p. Ok (slots.Node n, fill p.1 n (Proxy (record { names = ns.0; note = is.0; parent = p.0 })), p.2)) y d.2 in
    let p = f.0 in
    let q : ProxyDesc = record { names = ns.0; note = is.0; parent = p.0 } in
    let size = size_sound end w32 (2 ^ 31) (2 ^ 32) number_sound_32 bs a.0 a.1 bytes in
    let free : Free unread now mid (Desc blank) true = record { grown = refl; kind = refl; few = limit; ranged = blank_ranged } in
    let g = many_sound S within (plain (short_at end)) (λ t. short_text t ∷ []) ShortName (name_step S within end) a.0.0 mid a.0.1 ns b.1 (free_solid unread now mid (Desc blank) true solid free) size.left in
    let h = items_sound S inner sound within end true ns.1 ns.2 is d.1 g.got.solid g.got.left in
    let k = sound within places.Parent is.1 is.2 p f.1 h.got.solid h.got.left in
    let below = size.below in
    let noted : GotBy (refs_in is.0) within ns.1 is.1 is.2 (λ F. SpellsItems (S F within) is.0 (length ns.1.nodes) ns.2 (0x78 ∷ is.2) (length is.1.nodes)) = got_map within ns.1 is.1 is.2 _ _ h.got (λ F sees q. subst (λ (l : List ℕ). SpellsItems (S F within) is.0 (length ns.1.nodes) ns.2 l (length is.1.nodes)) h.ends q) in
    let tail = got_sum (refs_in is.0) (omega arith) within ns.1 is.1 p.1 is.2 p.2 _ _ (λ F. SpellsAll (S F within) (note is.0 ∷ want (places.Parent, p.0) ∷ []) (length ns.1.nodes) ns.2 p.2 (length p.1.nodes)) noted k.got
    (λ F sees q r. (is.2, length is.1.nodes, q, spells_last (S F within) (want (places.Parent, p.0)) (length is.1.nodes) is.2 p.2 (length p.1.nodes) r)) in
    let begins : bs ≡ to_be_bytes w32 (length ns.0) ++ a.0.1 = size.parts ∙ ap (λ k. to_be_bytes w32 k ++ a.0.1) (sym g.len) in
    let len_names = g.len in
    let whole = got_sum (refs_in is.0) (omega arith) within mid ns.1 p.1 ns.2 p.2 _ _ (λ F. SpellsAll (S F within) (proxy_tokens q) (length mid.nodes) bs p.2 (length p.1.nodes) × (are_short ns.0 ≡ true)) g.got tail
    (λ F sees q r. (
      (
        a.0.1,
        length mid.nodes,
        (begins, refl),
        spells_join (S F within) (map short_text ns.0) (note is.0 ∷ want (places.Parent, p.0) ∷ []) (length mid.nodes) a.0.1 ns.2 p.2 (length ns.1.nodes) (length p.1.nodes)
            (subst (λ (ts : List Token). SpellsAll (S F within) ts (length mid.nodes) a.0.1 ns.2 (length ns.1.nodes)) (sym (map_flat short_text ns.0)) q.0) r,
      ),
      each_short F ns.0 q.1,
    )) in
    let mid_len : length mid.nodes ≡ suc n = length_push now.nodes (Desc blank) in
    let len : length (fill p.1 n (Proxy q)).nodes ≡ length p.1.nodes = length-set p.1.nodes n (Proxy q) in
    let few : ltb (length ns.0) (2 ^ 31) ≡ true = lt-ltb _ _ (rw g.len below) in
    let joined = h.fine in
    subst (λ (y : Slot × Progress × List ℕ). GotNode S unread now 0x7D bs y) (ok_is (slots.Node n, fill p.1 n (Proxy q), p.2) y f.2) (record {
      k = n;
      node = Proxy q;
      what = refl;
      low = omega arith;
      few = room;
      here = filled_here now mid p.1 whole.added (Proxy q) (Desc blank) refl whole.grown;
      desc = refl;
      text = refl;
      got = got_filled unread now mid p.1 p.2 _ _ (Proxy q) (Desc blank) true solid refl refl free whole (λ yes. k.whole) tt (h.ranged, each_units ns.1.nodes ns.0 (got_self within mid ns.1 ns.2 _ g.got).1) (omega arith) (λ F sees is q. record {
        is = is;
        shaped = (let short = q.1 in rw few (rw short joined));
        befores = [];
        afters = _;
        form = a_proxy _;
        middle = bs;
        first = (refl, refl);
        second = rw len (rw (sym mid_len) q.0);
      });
    })
