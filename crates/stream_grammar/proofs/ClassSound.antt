-- The classes of objects that are read.
use Rattle.std.proofs.Common.{◌≡◌, ◌&&◌, ◌||◌, not, ℕ, zero, suc, ◌≤◌, Bool, true, false, List, [], ◌∷◌, ◌++◌, length, Some, None, Option, slice_get, refl, sym, ap, subst, arith, inl, inr}
use Rattle.std.specs.Prelude.{is_some}
use Rattle.std.proofs.lemmas.Bool.{and_parts}
use Rattle.std.proofs.Math.Bool.{or-true}
use Rattle.class_desc.specs.declared.slot.Slot.{Slot}
use Rattle.class_desc.specs.declared.slot.Slot.TheVariants as slots
use Rattle.class_desc.specs.declared.desc.ClassDesc.{ClassDesc}
use Rattle.class_desc.specs.TypeText.{element_of}
use Rattle.class_desc.specs.ClassDesc.{has_flag, lacks_flag}
use Rattle.ser_values.specs.declared.value.Part.{Part}
use Rattle.ser_values.specs.declared.node.Node.{Node}
use Rattle.ser_values.specs.declared.node.Node.TheVariants.{Desc, Proxy}
use Rattle.ser_values.specs.Shape.{fits_part, fits_above, fits_chain, fits_object, is_joined}
use Rattle.stream_grammar.specs.Reading.{old_external, bad_desc, Row, chain_above, chain_of, rows_of, class_fault}
use Rattle.ser_values.proofs.Lists.{slice_get-append_left, slice_get-append_seam, length_push}
use Rattle.stream_grammar.proofs.PlainSound.{chosen}
use Rattle.stream_grammar.proofs.NoteSound.{FitRows}

-- ---- parts that fit rows fit the chain

pub fit_len : (rs : List Row) (ps : List Part) → FitRows rs ps → length ps ≡ length rs
fit_len [] [] h = refl
fit_len (r ∷ rs) (p ∷ ps) h = ap suc (fit_len rs ps h.1)
fit_len [] (p ∷ ps) h = absurd h
fit_len (r ∷ rs) [] h = absurd h

record Split (rs : List Row) (r : Row) (ps : List Part) : Type 0 where
  front : List Part
  last : Part
  are : ps ≡ front ++ last ∷ []
  fit : FitRows rs front
  fits : fits_part r.0 r.1 (Some last) ≡ true

fit_split : (rs : List Row) (r : Row) (ps : List Part) → FitRows (rs ++ r ∷ []) ps → Split rs r ps
fit_split [] r (p ∷ []) h = record { front = []; last = p; are = refl; fit = tt; fits = h.0 }
fit_split [] r (p ∷ q ∷ ps) h = absurd h.1
fit_split [] r [] h = absurd h
fit_split (x ∷ rs) r (p ∷ ps) h = let s = fit_split rs r ps h.1 in record { front = p ∷ s.front; last = s.last; are = ap (λ (l : List Part). p ∷ l) s.are; fit = (h.0, s.fit); fits = s.fits }
fit_split (x ∷ rs) r [] h = absurd h

above_more : (above more : Slot → Bool) (p : Option Part) (i : Option Node) → ((s : Slot) → above s ≡ true → more s ≡ true) → fits_above above p i ≡ true → fits_above more p i ≡ true
above_more above more p (Some (Desc d)) f h =
    let a = and_parts (has_flag d.flags 2) (fits_part d.fields (has_flag d.flags 1) p && above d.parent) h in
    let b = and_parts (fits_part d.fields (has_flag d.flags 1) p) (above d.parent) a.1 in
    let up = f d.parent b.1 in
    rw a.0 (rw b.0 (rw up refl))
above_more above more p (Some (Proxy q)) f h = let b = and_parts (fits_part [] false p) (above q.parent) h in let up = f q.parent b.1 in rw b.0 (rw up refl)
above_more above more p _ f h = absurd cc

fits_more : (nodes : List Node) (qs ts : List Part) (n : ℕ) (s : Slot) → n ≤ length qs → fits_chain nodes qs n s ≡ true → fits_chain nodes (qs ++ ts) n s ≡ true
unfolding fits_chain
fits_more nodes qs ts zero slots.Null le h = refl
fits_more nodes qs ts zero (slots.Node k) le h = absurd cc
fits_more nodes qs ts (suc n) slots.Null le h = absurd cc
fits_more nodes qs ts (suc n) (slots.Node k) le h =
    let more = above_more (fits_chain nodes qs n) (fits_chain nodes (qs ++ ts) n) (slice_get qs n) (slice_get nodes k) (λ s g. fits_more nodes qs ts n s (omega arith) g) h in
    subst (λ (o : Option Part). fits_above (fits_chain nodes (qs ++ ts) n) o (slice_get nodes k) ≡ true) (sym (slice_get-append_left qs ts n (omega arith))) more

abbrev IsChain : List Node → ℕ → Type 0
IsChain nodes most = (s : Slot) (rs : List Row) → chain_of most nodes s ≡ (rs, true) → (ps : List Part) → FitRows rs ps → fits_chain nodes ps (length ps) s ≡ true

-- one description more
fits_push : (nodes : List Node) (k : ℕ) (i : Option Node) (front : List Part) (last : Part) → slice_get nodes k ≡ i → fits_above (fits_chain nodes (front ++ last ∷ []) (length front)) (Some last) i ≡ true → fits_chain nodes (front ++ last ∷ []) (length (front ++ last ∷ [])) (slots.Node k) ≡ true
unfolding fits_chain
fits_push nodes k i front last is h =
    let e : length (front ++ last ∷ []) ≡ suc (length front) = length_push front last in
    let at : slice_get (front ++ last ∷ []) (length front) ≡ Some last = slice_get-append_seam front last [] in
    rw e (rw at (rw is h))

chain_fits_above : (nodes : List Node) (most k : ℕ) → IsChain nodes most → (i : Option Node) (rs : List Row) → slice_get nodes k ≡ i → chain_above (chain_of most nodes) i ≡ (rs, true) → (ps : List Part) → FitRows rs ps → fits_chain nodes ps (length ps) (slots.Node k) ≡ true
chain_fits_above nodes most k ih (Some (Desc d)) rs is e ps fit =
    let up = chain_of most nodes d.parent in
    let flags : (up.1 && has_flag d.flags 2) ≡ true = ap (λ (x : List Row × Bool). x.1) e in
    let b = and_parts up.1 (has_flag d.flags 2) flags in
    let rows : up.0 ++ (d.fields, has_flag d.flags 1) ∷ [] ≡ rs = ap (λ (x : List Row × Bool). x.0) e in
    let s = fit_split up.0 (d.fields, has_flag d.flags 1) ps (subst (λ (l : List Row). FitRows l ps) (sym rows) fit) in
    let above = ih d.parent up.0 (ap (λ (z : Bool). pair up.0 z) b.0) s.front s.fit in
    let more = fits_more nodes s.front (s.last ∷ []) (length s.front) d.parent (omega arith) above in
    let fits = s.fits in
    subst (λ (l : List Part). fits_chain nodes l (length l) (slots.Node k) ≡ true) (sym s.are) (fits_push nodes k (Some (Desc d)) s.front s.last is (rw b.1 (rw fits (rw more refl))))
  where
    pair : List Row → Bool → List Row × Bool
    pair l z = (l, z)
chain_fits_above nodes most k ih (Some (Proxy q)) rs is e ps fit =
    let up = chain_of most nodes q.parent in
    let serial : up.1 ≡ true = ap (λ (x : List Row × Bool). x.1) e in
    let rows : up.0 ++ ([], false) ∷ [] ≡ rs = ap (λ (x : List Row × Bool). x.0) e in
    let s = fit_split up.0 ([], false) ps (subst (λ (l : List Row). FitRows l ps) (sym rows) fit) in
    let above = ih q.parent up.0 (ap (λ (z : Bool). pair up.0 z) serial) s.front s.fit in
    let more = fits_more nodes s.front (s.last ∷ []) (length s.front) q.parent (omega arith) above in
    let fits = s.fits in
    subst (λ (l : List Part). fits_chain nodes l (length l) (slots.Node k) ≡ true) (sym s.are) (fits_push nodes k (Some (Proxy q)) s.front s.last is (rw fits (rw more refl)))
  where
    pair : List Row → Bool → List Row × Bool
    pair l z = (l, z)
chain_fits_above nodes most k ih _ rs is e ps fit = absurd (let bad : false ≡ true = ap (λ (x : List Row × Bool). x.1) e in cc)

no_rows : (rs : List Row) (nodes : List Node) (ps : List Part) → [] ≡ rs → FitRows rs ps → fits_chain nodes ps (length ps) slots.Null ≡ true
unfolding fits_chain
no_rows [] nodes [] e fit = refl
no_rows [] nodes (p ∷ ps) e fit = absurd fit
no_rows (r ∷ rs) nodes ps e fit = absurd cc

pub chain_fits : (nodes : List Node) (most : ℕ) → IsChain nodes most
unfolding chain_of
chain_fits nodes zero slots.Null rs e ps fit = no_rows rs nodes ps (ap (λ (x : List Row × Bool). x.0) e) fit
chain_fits nodes (suc most) slots.Null rs e ps fit = no_rows rs nodes ps (ap (λ (x : List Row × Bool). x.0) e) fit
chain_fits nodes zero (slots.Node k) rs e ps fit = absurd (let bad : false ≡ true = ap (λ (x : List Row × Bool). x.1) e in cc)
chain_fits nodes (suc most) (slots.Node k) rs e ps fit = chain_fits_above nodes most k (chain_fits nodes most) (slice_get nodes k) rs refl e ps fit

-- ---- a class that has objects

pub data ClassFine (i : Option Node) (serial : Bool) : Type 0 where
  external : (d : ClassDesc) → i ≡ Some (Desc d) → has_flag d.flags 4 ≡ true → ((p : Part) (chained : Bool) → p.values ≡ [] → is_joined p.note ≡ true → fits_object i (p ∷ []) chained ≡ true) → ClassFine i serial
  chained : serial ≡ true → ((ps : List Part) → fits_object i ps true ≡ true) → ((rows : List Row) → rows_of i rows ≡ rows) → ClassFine i serial

desc_fine : (d : ClassDesc) (serial four eight : Bool) → has_flag d.flags 4 ≡ four → has_flag d.flags 8 ≡ eight → (four && not eight) ≡ false → (lacks_flag d.flags 16 && (not (is_some (element_of d.name)) && (four || serial))) ≡ true → ClassFine (Some (Desc d)) serial
desc_fine d serial true true f e a h =
    let b = and_parts (lacks_flag d.flags 16) (not (is_some (element_of d.name)) && true) h in
    let c = and_parts (not (is_some (element_of d.name))) true b.1 in
    external d refl f (λ p chained none fine. rw b.0 (rw c.0 (rw f (rw e (rw none (rw fine (or-true chained)))))))
desc_fine d serial true false f e a h = absurd cc
desc_fine d serial false eight f e a h =
    let b = and_parts (lacks_flag d.flags 16) (not (is_some (element_of d.name)) && serial) h in
    let c = and_parts (not (is_some (element_of d.name))) serial b.1 in
    chained c.1 (λ ps. rw b.0 (rw c.0 refl)) (λ rows. rw f refl)

pub class_fine : (i : Option Node) (serial : Bool) → class_fault i serial ≡ None → ClassFine i serial
class_fine (Some (Desc d)) serial h = elim (chosen (has_flag d.flags 4 && not (has_flag d.flags 8)) _ _ _ h) [
  | inl p ↦ absurd (let bad : Some old_external ≡ None = p.1 in cc)
  | inr p ↦ elim (chosen (lacks_flag d.flags 16 && (not (is_some (element_of d.name)) && (has_flag d.flags 4 || serial))) _ _ _ p.1) [
    | inl q ↦ desc_fine d serial (has_flag d.flags 4) (has_flag d.flags 8) refl refl p.0 q.0
    | inr q ↦ absurd (let bad : Some bad_desc ≡ None = q.1 in cc)
  ]
]
class_fine (Some (Proxy p)) true h = chained refl (λ ps. refl) (λ rows. refl)
class_fine (Some (Proxy p)) false h = absurd cc
class_fine _ serial h = absurd cc
