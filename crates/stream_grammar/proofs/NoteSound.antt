-- Annotations and parts that are read are spelled, and are in range.
use Rattle.std.proofs.Common.{◌≡◌, ◌&&◌, ℕ, zero, suc, ◌+◌, ◌-◌, ◌<◌, ◌≤◌, ◌^◌, Bool, true, false, eqb, ltb, List, [], ◌∷◌, ◌++◌, map, length, Some, Ok, refl, sym, ap, subst, ◌∙◌, append_assoc, inl, inr, arith}
use Rattle.std.specs.Prelude.{All}
use Rattle.std.proofs.lemmas.Bool.{eqb-true, ltb-false}
use Rattle.std.proofs.lemmas.List.Elements.{All-nil, All-cons}
use Rattle.std.specs.Int.{w32, to_be_bytes}
use Rattle.class_desc.specs.declared.slot.Slot.{Slot}
use Rattle.class_desc.specs.declared.slot.Item.{Item}
use Rattle.class_desc.specs.declared.slot.Item.TheVariants as items
use Rattle.ser_values.specs.declared.value.Part.{Part}
use Rattle.ser_values.specs.declared.node.Node.{Node}
use Rattle.ser_values.specs.declared.node.SlotPlace.TheVariants as places
use Rattle.ser_values.specs.Shape.{joined_from, is_joined, fits_part, refs_in, notes_in}
use Rattle.ser_values.specs.Node.{Want, item_wants}
use Rattle.ser_values.specs.Ranges.{ItemFits, ItemsFit, PartFits}
use Rattle.stream_grammar.specs.Spelled.{note, value_token, part_tokens, IsBlock, joined, SpellsBlocks, SpellsItems, SpellsAll, Spelling}
use Rattle.stream_grammar.specs.Reading.{◌>>=◌, too_many, byte_at, take_at, size_at, Progress, add_parts, counting, Slots, blocks_at, items_at, note_at, part, parts_at, values_at}
use Rattle.stream_grammar.proofs.Spelling.{joined_wants, joined_joined, joined_fit}
use Rattle.stream_grammar.proofs.Parted.{Row, writes}
use Rattle.stream_grammar.proofs.Notes.{Ends}
use Rattle.stream_grammar.proofs.PlainSound.{AreBytes, bytes_left, bytes_fit, bind_ok, guarded, chosen, ok_is, byte_sound, take_sound, number_sound_32, size_sound}
use Rattle.stream_grammar.proofs.Solid.{Solid, GotBy, got_none, got_sum, got_map, solid_add, got_add}
use Rattle.stream_grammar.proofs.StepSound.{GotSlot, IsSound, spells_join, mapped_ok, values_sound}

-- ---- blocks

pub record GotBlocks (S : List Node → Spelling) (unread : List ℕ) (within : Bool) (now : Progress) (bs : List ℕ) (y : List Item × Progress × List ℕ) : Type 0 where
  pub stop : List ℕ
  pub ends : Ends within stop y.2
  pub ranged : ItemsFit y.0
  pub got : GotBy (refs_in y.0) unread now y.1 y.2 (λ F. SpellsBlocks (S F unread) y.0 (length now.nodes) bs stop (length y.1.nodes))

-- one block more before them
block_before : (S : List Node → Spelling) (unread : List ℕ) (within : Bool) (now : Progress) (p block bs b : List ℕ) (y : List Item × Progress × List ℕ) → IsBlock p block → bs ≡ block ++ b → All (λ x. x < 2 ^ 8) p → GotBlocks S unread within now b y → GotBlocks S unread within now bs (items.Bytes p ∷ y.0, y.1, y.2)
unfolding item_wants
block_before S unread within now p block bs b y is e fit g = record { stop = g.stop; ends = g.ends; ranged = All-cons ItemFits (items.Bytes p) y.0 fit g.ranged; got = got_map unread now y.1 y.2 _ _ g.got (λ F sees h. (block, b, is, e, h)) }

ref_before : (S : List Node → Spelling) (unread : List ℕ) (within : Bool) (now : Progress) (bs : List ℕ) (s : Slot × Progress × List ℕ) (y : List Item × Progress × List ℕ) → GotSlot S unread places.Reference now bs s → s.1.parts + 1 ≤ 1048576 → GotBlocks S unread within (add_parts 1 s.1) s.2 y → GotBlocks S unread within now bs (items.Ref s.0 ∷ y.0, y.1, y.2)
unfolding item_wants
ref_before S unread within now bs s y g room h =
    let next = add_parts 1 s.1 in
    let counted : GotBy 1 unread now next s.2 (λ F. S F unread (places.Reference, s.0) (length now.nodes) bs s.2 (length s.1.nodes)) =
    got_sum 1 (omega arith) unread now s.1 next s.2 s.2 (λ F. S F unread (places.Reference, s.0) (length now.nodes) bs s.2 (length s.1.nodes)) (λ F. Unit {0}) (λ F. S F unread (places.Reference, s.0) (length now.nodes) bs s.2 (length s.1.nodes)) g.got
    (got_add unread s.1 1 s.2 g.got.solid room g.got.left) (λ F sees p q. p) in
    record {
      stop = h.stop;
      ends = h.ends;
      ranged = All-cons ItemFits (items.Ref s.0) y.0 tt h.ranged;
      got = got_sum (refs_in (items.Ref s.0 ∷ y.0)) (omega arith) unread now next y.1 s.2 y.2 (λ F. S F unread (places.Reference, s.0) (length now.nodes) bs s.2 (length s.1.nodes)) (λ F. SpellsBlocks (S F unread) y.0 (length s.1.nodes) s.2 h.stop (length y.1.nodes))
          (λ F. SpellsBlocks (S F unread) (items.Ref s.0 ∷ y.0) (length now.nodes) bs h.stop (length y.1.nodes)) counted h.got (λ F sees p q. (s.2, length s.1.nodes, p, q));
    }

ended : (S : List Node → Spelling) (unread : List ℕ) (within : Bool) (now : Progress) (bs rest : List ℕ) (y : List Item × Progress × List ℕ) → ([], now, rest) ≡ y → Ends within bs rest → Solid unread now → AreBytes rest → GotBlocks S unread within now bs y
unfolding item_wants
ended S unread within now bs rest y e ends solid bytes =
    subst (λ (y : List Item × Progress × List ℕ). GotBlocks S unread within now bs y) e (record { stop = bs; ends = ends; ranged = All-nil ItemFits; got = got_none unread now rest _ solid bytes (λ F sees. (refl, refl)) })

end_code : (b : Bool) (c : ℕ) (bs : List ℕ) → (b && eqb c 0x78) ≡ true → Ends b (c ∷ bs) bs
end_code true c bs h = ap (λ k. k ∷ bs) (eqb-true c 0x78 h)
end_code false c bs h = absurd cc

pub blocks_sound : (S : List Node → Spelling) (inner : Slots) → IsSound S inner → (unread : List ℕ) (end : ℕ) (within : Bool) (most : ℕ) (now : Progress) (bs : List ℕ) (y : List Item × Progress × List ℕ) → blocks_at end (inner places.Reference unread) within most now bs ≡ Ok y → Solid unread now → AreBytes bs
    → GotBlocks S unread within now bs y
unfolding blocks_at
blocks_sound S inner sound unread end within zero now bs y e solid bytes = absurd cc
blocks_sound S inner sound unread end true (suc most) now [] y e solid bytes = absurd cc
blocks_sound S inner sound unread end false (suc most) now [] y e solid bytes = ended S unread false now [] [] y (ok_is ([], now, []) y e) (refl, refl) solid bytes
blocks_sound S inner sound unread end within (suc most) now (c ∷ bs) y e solid bytes =
    let one = inner places.Reference unread in
    elim (chosen (within && eqb c 0x78) _ _ _ e) [
      | inl p ↦ ended S unread within now (c ∷ bs) bs y (ok_is ([], now, bs) y p.1) (end_code within c bs p.0) solid bytes.1
      | inr p ↦ elim (chosen (eqb c 0x77) _ _ _ p.1) [
        | inl q ↦
            let a = bind_ok (byte_at bs) (λ n. take_at n.0 n.1 >>= λ p. blocks_at end one within most now p.1 >>= λ is. Ok (items.Bytes p.0 ∷ is.0, is.1, is.2)) y q.1 in
            let b = bind_ok (take_at a.0.0 a.0.1) (λ p. blocks_at end one within most now p.1 >>= λ is. Ok (items.Bytes p.0 ∷ is.0, is.1, is.2)) y a.2 in
            let d = bind_ok (blocks_at end one within most now b.0.1) (λ is. Ok (items.Bytes b.0.0 ∷ is.0, is.1, is.2)) y b.2 in
            let n = byte_sound bs a.0 a.1 in
            let t = take_sound a.0.0 a.0.1 b.0 b.1 in
            let few : a.0.0 < 256 = (subst AreBytes n bytes.1).0 in
            let fit = bytes_fit b.0.0 b.0.1 (subst AreBytes t.0 (subst AreBytes n bytes.1).1) in
            let left = bytes_left a.0.1 b.0.0 b.0.1 t.0 (subst AreBytes n bytes.1).1 in
            let g = blocks_sound S inner sound unread end within most now b.0.1 d.0 d.1 solid left in
            let p_len : length b.0.0 < 256 = rw t.1 few in
            let begins : c ∷ bs ≡ (0x77 ∷ (length b.0.0 ∷ b.0.0)) ++ b.0.1 = ap (λ k. k ∷ bs) (eqb-true c 0x77 q.0) ∙ ap (λ (l : List ℕ). 0x77 ∷ l) (n ∙ (ap (λ (l : List ℕ). a.0.0 ∷ l) t.0 ∙ ap (λ k. k ∷ (b.0.0 ++ b.0.1)) (sym t.1))) in
            subst (λ (y : List Item × Progress × List ℕ). GotBlocks S unread within now (c ∷ bs) y) (ok_is (items.Bytes b.0.0 ∷ d.0.0, d.0.1, d.0.2) y d.2)
            (block_before S unread within now b.0.0 (0x77 ∷ (length b.0.0 ∷ b.0.0)) (c ∷ bs) b.0.1 d.0 (inl (p_len, refl)) begins fit g)
        | inr q ↦ elim (chosen (eqb c 0x7A) _ _ _ q.1) [
          | inl r ↦
              let a = bind_ok (size_at end w32 (2 ^ 31) bs) (λ n. take_at n.0 n.1 >>= λ p. blocks_at end one within most now p.1 >>= λ is. Ok (items.Bytes p.0 ∷ is.0, is.1, is.2)) y r.1 in
              let b = bind_ok (take_at a.0.0 a.0.1) (λ p. blocks_at end one within most now p.1 >>= λ is. Ok (items.Bytes p.0 ∷ is.0, is.1, is.2)) y a.2 in
              let d = bind_ok (blocks_at end one within most now b.0.1) (λ is. Ok (items.Bytes b.0.0 ∷ is.0, is.1, is.2)) y b.2 in
              let n = size_sound end w32 (2 ^ 31) (2 ^ 32) number_sound_32 bs a.0 a.1 bytes.1 in
              let t = take_sound a.0.0 a.0.1 b.0 b.1 in
              let left = bytes_left a.0.1 b.0.0 b.0.1 t.0 n.left in
              let fit = bytes_fit b.0.0 b.0.1 (subst AreBytes t.0 n.left) in
              let g = blocks_sound S inner sound unread end within most now b.0.1 d.0 d.1 solid left in
              let below = n.below in
              let p_len : length b.0.0 < 2 ^ 31 = rw t.1 below in
              let inside : bs ≡ (to_be_bytes w32 (length b.0.0) ++ b.0.0) ++ b.0.1 = n.parts ∙ (ap (λ (l : List ℕ). to_be_bytes w32 a.0.0 ++ l) t.0 ∙ (sym (append_assoc (to_be_bytes w32 a.0.0) b.0.0 b.0.1) ∙ ap (λ k. (to_be_bytes w32 k ++ b.0.0) ++ b.0.1) (sym t.1))) in
              let begins : c ∷ bs ≡ (0x7A ∷ (to_be_bytes w32 (length b.0.0) ++ b.0.0)) ++ b.0.1 = ap (λ k. k ∷ bs) (eqb-true c 0x7A r.0) ∙ ap (λ (l : List ℕ). 0x7A ∷ l) inside in
              subst (λ (y : List Item × Progress × List ℕ). GotBlocks S unread within now (c ∷ bs) y) (ok_is (items.Bytes b.0.0 ∷ d.0.0, d.0.1, d.0.2) y d.2)
              (block_before S unread within now b.0.0 (0x7A ∷ (to_be_bytes w32 (length b.0.0) ++ b.0.0)) (c ∷ bs) b.0.1 d.0 (inr (p_len, refl)) begins fit g)
          | inr r ↦
              let at = end - length (c ∷ bs) in
              let a = bind_ok (one now (c ∷ bs)) (λ s. counting 1 at s.1 (λ next. blocks_at end one within most next s.2 >>= λ is. Ok (items.Ref s.0 ∷ is.0, is.1, is.2))) y r.1 in
              let next = add_parts 1 a.0.1 in
              let k = guarded (ltb 1048576 (a.0.1.parts + 1)) (too_many at) (blocks_at end one within most next a.0.2 >>= λ is. Ok (items.Ref a.0.0 ∷ is.0, is.1, is.2)) y a.2 in
              let room : a.0.1.parts + 1 ≤ 1048576 = ltb-false 1048576 (a.0.1.parts + 1) k.0 in
              let d = bind_ok (blocks_at end one within most next a.0.2) (λ is. Ok (items.Ref a.0.0 ∷ is.0, is.1, is.2)) y k.1 in
              let first = sound unread places.Reference now (c ∷ bs) a.0 a.1 solid bytes in
              let g = blocks_sound S inner sound unread end within most next a.0.2 d.0 d.1 (solid_add unread a.0.1 1 first.got.solid room) first.got.left in
              subst (λ (y : List Item × Progress × List ℕ). GotBlocks S unread within now (c ∷ bs) y) (ok_is (items.Ref a.0.0 ∷ d.0.0, d.0.1, d.0.2) y d.2) (ref_before S unread within now (c ∷ bs) a.0 d.0 first room g)
        ]
      ]
    ]

pub record GotItems (S : List Node → Spelling) (unread : List ℕ) (within : Bool) (now : Progress) (bs : List ℕ) (y : List Item × Progress × List ℕ) : Type 0 where
  pub stop : List ℕ
  pub ends : Ends within stop y.2
  pub fine : is_joined y.0 ≡ true
  pub ranged : ItemsFit y.0
  pub got : GotBy (refs_in y.0) unread now y.1 y.2 (λ F. SpellsItems (S F unread) y.0 (length now.nodes) bs stop (length y.1.nodes))

pub items_sound : (S : List Node → Spelling) (inner : Slots) → IsSound S inner → (unread : List ℕ) (end : ℕ) (within : Bool) (now : Progress) (bs : List ℕ) (y : List Item × Progress × List ℕ) → items_at end (inner places.Reference unread) within now bs ≡ Ok y → Solid unread now → AreBytes bs → GotItems S unread within now bs y
unfolding items_at
items_sound S inner sound unread end within now bs y e solid bytes =
    let a = mapped_ok joined (blocks_at end (inner places.Reference unread) within (suc (length bs))) now bs y e in
    let g = blocks_sound S inner sound unread end within (suc (length bs)) now bs a.0 a.1 solid bytes in
    subst (λ (y : List Item × Progress × List ℕ). GotItems S unread within now bs y) a.2 (record {
      stop = g.stop;
      ends = g.ends;
      fine = joined_joined a.0.0;
      ranged = joined_fit a.0.0 g.ranged;
      got = subst (λ k. GotBy k unread now a.0.1 a.0.2 (λ F. SpellsItems (S F unread) (joined a.0.0) (length now.nodes) bs g.stop (length a.0.1.nodes))) (sym (ap (λ (l : List Want). length l) (joined_wants a.0.0)))
          (got_map unread now a.0.1 a.0.2 _ _ g.got (λ F sees h. (a.0.0, h, refl)));
    })

-- ---- parts

-- parts of a chain's classes
abbrev pub FitRows : List Row → List Part → Type 0
FitRows [] [] = Unit {0}
FitRows [] (p ∷ ps) = ⊥
FitRows (r ∷ rs) [] = ⊥
FitRows (r ∷ rs) (p ∷ ps) = (fits_part r.0 r.1 (Some p) ≡ true) × FitRows rs ps

pub record GotParts (S : List Node → Spelling) (unread : List ℕ) (rs : List Row) (now : Progress) (bs : List ℕ) (y : List Part × Progress × List ℕ) : Type 0 where
  pub fit : FitRows rs y.0
  pub ranged : All PartFits y.0
  pub got : GotBy (notes_in y.0) unread now y.1 y.2 (λ F. SpellsAll (S F unread) (part_tokens (writes rs) y.0) (length now.nodes) bs y.2 (length y.1.nodes))

pub parts_sound : (S : List Node → Spelling) (inner : Slots) → IsSound S inner → (unread : List ℕ) (end : ℕ) (rs : List Row) (now : Progress) (bs : List ℕ) (y : List Part × Progress × List ℕ) → parts_at end (inner places.Reference unread) rs now bs ≡ Ok y → Solid unread now → AreBytes bs → GotParts S unread rs now bs y
unfolding parts_at note_at part_tokens joined_from notes_in item_wants
parts_sound S inner sound unread end [] now bs y e solid bytes =
    subst (λ (y : List Part × Progress × List ℕ). GotParts S unread [] now bs y) (ok_is ([], now, bs) y e) (record { fit = tt; ranged = All-nil PartFits; got = got_none unread now bs _ solid bytes (λ F sees. (refl, refl)) })
parts_sound S inner sound unread end ((fs, true) ∷ rs) now bs y e solid bytes =
    let one = inner places.Reference unread in
    let a = bind_ok (values_at one fs now bs) (λ vs. items_at end one true vs.1 vs.2 >>= λ is. parts_at end one rs is.1 is.2 >>= λ ps. Ok (part vs.0 is.0 ∷ ps.0, ps.1, ps.2)) y e in
    let vs = a.0 in
    let b = bind_ok (items_at end one true vs.1 vs.2) (λ is. parts_at end one rs is.1 is.2 >>= λ ps. Ok (part vs.0 is.0 ∷ ps.0, ps.1, ps.2)) y a.2 in
    let is = b.0 in
    let d = bind_ok (parts_at end one rs is.1 is.2) (λ ps. Ok (part vs.0 is.0 ∷ ps.0, ps.1, ps.2)) y b.2 in
    let ps = d.0 in
    let g = values_sound S inner sound unread fs now bs vs a.1 solid bytes in
    let h = items_sound S inner sound unread end true vs.1 vs.2 is b.1 g.got.solid g.got.left in
    let k = parts_sound S inner sound unread end rs is.1 is.2 ps d.1 h.got.solid h.got.left in
    let noted : GotBy (refs_in is.0) unread vs.1 is.1 is.2 (λ F. SpellsItems (S F unread) is.0 (length vs.1.nodes) vs.2 (0x78 ∷ is.2) (length is.1.nodes)) = got_map unread vs.1 is.1 is.2 _ _ h.got (λ F sees q. subst (λ (l : List ℕ). SpellsItems (S F unread) is.0 (length vs.1.nodes) vs.2 l (length is.1.nodes)) h.ends q) in
    let later = got_sum (refs_in is.0 + notes_in ps.0) refl unread vs.1 is.1 ps.1 is.2 ps.2 _ _ (λ F. SpellsAll (S F unread) (note is.0 ∷ part_tokens (writes rs) ps.0) (length vs.1.nodes) vs.2 ps.2 (length ps.1.nodes)) noted k.got (λ F sees p q. (is.2, length is.1.nodes, p, q)) in
    subst (λ (y : List Part × Progress × List ℕ). GotParts S unread ((fs, true) ∷ rs) now bs y) (ok_is (part vs.0 is.0 ∷ ps.0, ps.1, ps.2) y d.2) (record {
      fit = (rw g.fit h.fine, k.fit);
      ranged = All-cons PartFits (part vs.0 is.0) ps.0 (g.ranged, h.ranged) k.ranged;
      got = got_sum (refs_in is.0 + notes_in ps.0) (omega arith) unread now vs.1 ps.1 vs.2 ps.2 _ _ (λ F. SpellsAll (S F unread) (map value_token vs.0 ++ (note is.0 ∷ part_tokens (writes rs) ps.0)) (length now.nodes) bs ps.2 (length ps.1.nodes)) g.got later
          (λ F sees p q. spells_join (S F unread) (map value_token vs.0) (note is.0 ∷ part_tokens (writes rs) ps.0) (length now.nodes) bs vs.2 ps.2 (length vs.1.nodes) (length ps.1.nodes) p q);
    })
parts_sound S inner sound unread end ((fs, false) ∷ rs) now bs y e solid bytes =
    let one = inner places.Reference unread in
    let a = bind_ok (values_at one fs now bs) (λ vs. parts_at end one rs vs.1 vs.2 >>= λ ps. Ok (part vs.0 [] ∷ ps.0, ps.1, ps.2)) y e in
    let vs = a.0 in
    let d = bind_ok (parts_at end one rs vs.1 vs.2) (λ ps. Ok (part vs.0 [] ∷ ps.0, ps.1, ps.2)) y a.2 in
    let ps = d.0 in
    let g = values_sound S inner sound unread fs now bs vs a.1 solid bytes in
    let k = parts_sound S inner sound unread end rs vs.1 vs.2 ps d.1 g.got.solid g.got.left in
    subst (λ (y : List Part × Progress × List ℕ). GotParts S unread ((fs, false) ∷ rs) now bs y) (ok_is (part vs.0 [] ∷ ps.0, ps.1, ps.2) y d.2) (record {
      fit = (rw g.fit refl, k.fit);
      ranged = All-cons PartFits (part vs.0 []) ps.0 (g.ranged, All-nil ItemFits) k.ranged;
      got = got_sum (notes_in (part vs.0 [] ∷ ps.0)) (omega arith) unread now vs.1 ps.1 vs.2 ps.2 _ _ (λ F. SpellsAll (S F unread) (map value_token vs.0 ++ part_tokens (writes rs) ps.0) (length now.nodes) bs ps.2 (length ps.1.nodes)) g.got k.got
          (λ F sees p q. spells_join (S F unread) (map value_token vs.0) (part_tokens (writes rs) ps.0) (length now.nodes) bs vs.2 ps.2 (length vs.1.nodes) (length ps.1.nodes) p q);
    })
