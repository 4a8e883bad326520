-- A node that was read, in its place.
use Rattle.std.proofs.Common.{◌≡◌, ◌≢◌, ℕ, suc, ◌+◌, ◌<◌, Bool, true, false, List, [], ◌∷◌, ◌++◌, length, Some, slice_get, refl, sym, ap, subst, ◌∙◌, append_assoc, arith, inl, inr}
use Rattle.std.proofs.lemmas.Bool.{cases_eq}
use Rattle.std.proofs.lemmas.List.{length-set}
use Rattle.std.proofs.lemmas.List.Elements.{All-set}
use Rattle.std.proofs.lemmas.Option.{slice_get_within}
use Rattle.class_desc.specs.declared.slot.Slot.{Slot}
use Rattle.class_desc.specs.declared.slot.Slot.TheVariants as slots
use Rattle.ser_values.specs.declared.node.Node.{Node}
use Rattle.ser_values.specs.Node.{is_desc, is_text}
use Rattle.ser_values.specs.Shape.{parts_of, parts_in}
use Rattle.ser_values.specs.Ranges.{InRange}
use Rattle.stream_grammar.specs.Reading.{Progress, push, fill}
use Rattle.ser_values.proofs.Lists.{slice_get-append_seam, slice_get-set_other, length_push, fills, some_same, still_not}
use Rattle.stream_grammar.proofs.Chains.{parent_of}
use Rattle.stream_grammar.proofs.PlainSound.{AreBytes}
use Rattle.stream_grammar.proofs.Solid.{WholeSlot, IsGood, Solid, Sees, Agrees, GotBy, Got, Free, free_solid, Within, was_no, not_free}

-- what stands of node n and the others, once n was written over
record Filled (now last : Progress) (i j : Node) (added : List Node) : Type 0 where
  whole : (fill last (length now.nodes) i).nodes ≡ now.nodes ++ i ∷ added
  here : slice_get (fill last (length now.nodes) i).nodes (length now.nodes) ≡ Some i
  free : slice_get last.nodes (length now.nodes) ≡ Some j
  same : (z : ℕ) → z ≢ length now.nodes → slice_get (fill last (length now.nodes) i).nodes z ≡ slice_get last.nodes z
  len : length (fill last (length now.nodes) i).nodes ≡ length last.nodes
  room : length now.nodes < length last.nodes

filled_is : (now mid last : Progress) (i j : Node) (added : List Node) → mid.nodes ≡ now.nodes ++ j ∷ [] → last.nodes ≡ mid.nodes ++ added → Filled now last i j added
filled_is now mid last i j added e f =
    let grown : last.nodes ≡ (now.nodes ++ j ∷ []) ++ added = f ∙ ap (λ (l : List Node). l ++ added) e in
    let fl = fills now.nodes j i added last.nodes grown in
    let at : slice_get last.nodes (length now.nodes) ≡ Some j = ap (λ (l : List Node). slice_get l (length now.nodes)) (grown ∙ append_assoc now.nodes (j ∷ []) added) ∙ slice_get-append_seam now.nodes j added in
    record {
      whole = fl.parts;
      here = fl.here;
      free = at;
      same = λ z ne. slice_get-set_other last.nodes (length now.nodes) z i ne;
      len = length-set last.nodes (length now.nodes) i;
      room = slice_get_within last.nodes (length now.nodes) j at;
    }

no_both : (i : Node) → is_text i ≡ true → is_text i ≡ false → ⊥
no_both i t f = absurd cc

-- what was whole while node n was read is whole afterwards
carry : (unread : List ℕ) (now last : Progress) (i j : Node) (added : List Node) (d : Bool) → is_desc j ≡ d → Filled now last i j added → (s : Slot) → WholeSlot last.nodes (Within unread (length now.nodes) d) s → WholeSlot (fill last (length now.nodes) i).nodes unread s
carry unread now last i j added d kind f slots.Null w = tt
carry unread now last i j added d kind f (slots.Node q) w =
    let ne = not_free unread (length now.nodes) q j w.node last.nodes d kind f.free w.read w.is w.desc in
    record { read = was_no unread (length now.nodes) q d w.read; node = w.node; is = f.same q ne ∙ w.is; desc = w.desc }

pub got_filled : {own : ℕ} (unread : List ℕ) (now mid last : Progress) (rest : List ℕ) (P Q : List Node → Type 0) (i j : Node) (d : Bool) → Solid unread now → is_desc i ≡ d → is_text j ≡ false → Free unread now mid j d → GotBy own (Within unread (length now.nodes) d) mid last rest P
    → (is_desc i ≡ true → WholeSlot last.nodes (Within unread (length now.nodes) d) (parent_of (Some i))) → IsGood i → InRange i → mid.parts + own ≡ now.parts + parts_of i
    → ((F : List Node) → Sees F last.nodes (Within unread (length now.nodes) d) → slice_get F (length now.nodes) ≡ Some i → P F → Q F) → Got unread now (fill last (length now.nodes) i) rest Q
unfolding parts_in
got_filled unread now mid last rest P Q i j d solid kind blank_text free g up good ranged parts f =
    let n = length now.nodes in
    let made = fill last n i in
    let fl = filled_is now mid last i j g.added free.grown g.grown in
    let solid2 = g.solid in
    let p = g.parts in
    record {
      added = i ∷ g.added;
      grown = fl.whole;
      parts = omega arith;
      solid = record {
        above = λ z x gone is desc. elim (cases_eq z n) [
          | inl same ↦
              let one : x ≡ i = some_same x i (sym is ∙ (ap (slice_get made.nodes) same ∙ fl.here)) in
              carry unread now last i j g.added d free.kind fl (parent_of (Some x)) (subst (λ (y : Node). WholeSlot last.nodes (Within unread n d) (parent_of (Some y))) (sym one) (up (ap is_desc (sym one) ∙ desc)))
          | inr ne ↦ carry unread now last i j g.added d free.kind fl (parent_of (Some x)) (solid2.above z x (still_not unread n z d gone ne) (sym (fl.same z ne) ∙ is) desc)
        ];
        good = λ z x gone is. elim (cases_eq z n) [
          | inl same ↦ subst IsGood (sym (some_same x i (sym is ∙ (ap (slice_get made.nodes) same ∙ fl.here)))) good
          | inr ne ↦ solid2.good z x (still_not unread n z d gone ne) (sym (fl.same z ne) ∙ is)
        ];
        below = λ z h. (let lt : z < n = solid.below z h in let r = fl.room in let l = fl.len in omega arith);
        few = solid2.few;
        ranged = All-set InRange last.nodes n i ranged solid2.ranged;
      };
      left = g.left;
      spelled = λ F sees agrees. (
          let l = fl.len in
          let r = fl.room in
          let sees2 : Sees F last.nodes (Within unread n d) = record {
            descs = λ z x gone is desc. (let ne = not_free unread n z j x last.nodes d free.kind fl.free gone is desc in sees.descs z x (was_no unread n z d gone) (fl.same z ne ∙ is) desc);
            texts = λ z x is t. elim (cases_eq z n) [
              | inl same ↦ absurd (no_both x t (ap is_text (some_same x j (sym is ∙ (ap (slice_get last.nodes) same ∙ fl.free))) ∙ blank_text))
              | inr ne ↦ sees.texts z x (fl.same z ne ∙ is) t
            ];
            long = let m = sees.long in omega arith;
          } in
          let mid_len : length mid.nodes ≡ suc n = ap (λ (N : List Node). length N) free.grown ∙ length_push now.nodes j in
          let agrees2 : Agrees F last.nodes (length mid.nodes) = λ z low lt. agrees z (omega arith) (omega arith) ∙ fl.same z (λ same. absurd (omega arith)) in
          f F sees2 (agrees n (omega arith) (omega arith) ∙ fl.here) (g.spelled F sees2 agrees2));
    }

-- a node that is whole with its handle
pub got_pushed : (unread : List ℕ) (now : Progress) (rest : List ℕ) (Q : List Node → Type 0) (i : Node) → Solid unread now → is_desc i ≡ false → parts_of i ≡ 0 → InRange i → AreBytes rest → ((F : List Node) → Sees F (push now i).nodes unread → slice_get F (length now.nodes) ≡ Some i → Q F) → Got unread now (push now i) rest Q
unfolding parts_in
got_pushed unread now rest Q i solid kind none ranged bytes f =
    let n = length now.nodes in
    let made = push now i in
    let len : length made.nodes ≡ suc n = length_push now.nodes i in
    let here : slice_get made.nodes n ≡ Some i = slice_get-append_seam now.nodes i [] in
    record {
      added = i ∷ [];
      grown = refl;
      parts = omega arith;
      solid = pushed_solid unread now i solid kind ranged len here;
      left = bytes;
      spelled = λ F sees agrees. f F sees (agrees n (omega arith) (omega arith) ∙ here);
    }
  where
    pushed_solid : (unread : List ℕ) (now : Progress) (i : Node) → Solid unread now → is_desc i ≡ false → InRange i → length (push now i).nodes ≡ suc (length now.nodes) → slice_get (push now i).nodes (length now.nodes) ≡ Some i → Solid unread (push now i)
    pushed_solid unread now i solid kind ranged len here = free_solid unread now (push now i) i false solid (record { grown = refl; kind = kind; few = solid.few; ranged = ranged })
