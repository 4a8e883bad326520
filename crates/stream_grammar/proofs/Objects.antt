-- What is known of an object's class while the object is read.
use Rattle.std.proofs.Common.{◌≡◌, ◌&&◌, ◌||◌, not, ℕ, zero, suc, ◌≤◌, Bool, true, false, List, [], ◌∷◌, length, Some, None, Option, slice_get, refl, sym, ap, subst, ◌∙◌, arith}
use Rattle.std.specs.Prelude.{is_some}
use Rattle.std.proofs.lemmas.Bool.{and_parts}
use Rattle.class_desc.specs.declared.slot.Slot.{Slot}
use Rattle.class_desc.specs.declared.slot.Slot.TheVariants as slots
use Rattle.class_desc.specs.declared.field.TypeCode.{TypeCode}
use Rattle.class_desc.specs.declared.desc.ClassDesc.{ClassDesc}
use Rattle.class_desc.specs.TypeText.{element_of}
use Rattle.class_desc.specs.ClassDesc.{has_flag, lacks_flag, is_good_desc}
use Rattle.ser_values.specs.declared.value.Values.{Values}
use Rattle.ser_values.specs.declared.value.Part.{Part}
use Rattle.ser_values.specs.declared.node.Node.{Node}
use Rattle.ser_values.specs.declared.node.Node.TheVariants.{Text, Desc, Proxy, Object, Array, Class, Enum}
use Rattle.ser_values.specs.Shape.{fits_part, fits_above, fits_chain, fits_object, is_external, fit_elements, fits_array, fit_values}
use Rattle.stream_grammar.specs.Spelled.{Token, note, writers, part_tokens}
use Rattle.stream_grammar.specs.Reading.{chain_above, chain_of, rows_of, class_fault, type_in}
use Rattle.stream_grammar.proofs.Varieties.{elements_of}
use Rattle.stream_grammar.proofs.Leading.{SameAbove, SameChain, SameUp}
use Rattle.stream_grammar.proofs.Parted.{Row, Fitted, writes}
use Rattle.stream_grammar.proofs.Chains.{rows_above, rows, rows_write, parts_fitted, not_both, chained_flag}

-- ---- chains

chain_above_rows : (nodes : List Node) (ps : List Part) (n most : ℕ) → ((s : Slot) → fits_chain nodes ps n s ≡ true → chain_of most nodes s ≡ (rows nodes n s, true)) → (p : Option Part) (i : Option Node) → fits_above (fits_chain nodes ps n) p i ≡ true
    → chain_above (chain_of most nodes) i ≡ (rows_above (rows nodes n) i, true)
chain_above_rows nodes ps n most ih p (Some (Desc d)) h =
    let a = and_parts (has_flag d.flags 2) (fits_part d.fields (has_flag d.flags 1) p && fits_chain nodes ps n d.parent) h in
    let b = and_parts (fits_part d.fields (has_flag d.flags 1) p) (fits_chain nodes ps n d.parent) a.1 in
    rw (ih d.parent b.1) (rw a.0 refl)
chain_above_rows nodes ps n most ih p (Some (Proxy q)) h =
    let b = and_parts (fits_part [] false p) (fits_chain nodes ps n q.parent) h in
    rw (ih q.parent b.1) refl
chain_above_rows nodes ps n most ih p _ h = absurd cc

pub chain_rows : (nodes : List Node) (ps : List Part) (n most : ℕ) (s : Slot) → n ≤ most → fits_chain nodes ps n s ≡ true → chain_of most nodes s ≡ (rows nodes n s, true)
unfolding fits_chain chain_of
chain_rows nodes ps zero zero slots.Null le h = refl
chain_rows nodes ps zero (suc most) slots.Null le h = refl
chain_rows nodes ps zero most (slots.Node k) le h = absurd cc
chain_rows nodes ps (suc n) most slots.Null le h = absurd cc
chain_rows nodes ps (suc n) zero (slots.Node k) le h = absurd (omega arith)
chain_rows nodes ps (suc n) (suc most) (slots.Node k) le h = chain_above_rows nodes ps n most (λ s g. chain_rows nodes ps n most s (omega arith) g) (slice_get ps n) (slice_get nodes k) h

chain_same_above : (A B : List Node) (n : ℕ) → ((s : Slot) → SameChain A B n s → chain_of n A s ≡ chain_of n B s) → (i : Option Node) → SameAbove (SameChain A B n) i → chain_above (chain_of n A) i ≡ chain_above (chain_of n B) i
chain_same_above A B n ih (Some (Desc d)) h = rw (ih d.parent h.1) refl
chain_same_above A B n ih (Some (Proxy p)) h = rw (ih p.parent h) refl
chain_same_above A B n ih (Some (Text t)) h = refl
chain_same_above A B n ih (Some (Object c ps)) h = refl
chain_same_above A B n ih (Some (Array c vs)) h = refl
chain_same_above A B n ih (Some (Class c)) h = refl
chain_same_above A B n ih (Some (Enum c t)) h = refl
chain_same_above A B n ih None h = refl

pub chain_same : (A B : List Node) (n : ℕ) (s : Slot) → SameChain A B n s → chain_of n A s ≡ chain_of n B s
unfolding chain_of
chain_same A B zero slots.Null h = refl
chain_same A B zero (slots.Node k) h = refl
chain_same A B (suc n) slots.Null h = refl
chain_same A B (suc n) (slots.Node k) h = chain_same_above A B n (chain_same A B n) (slice_get A k) h.1 ∙ ap (chain_above (chain_of n B)) h.0

-- ---- the class

-- what reading an object goes by
pub record ObjectRow (N : List Node) (c : ℕ) (ps : List Part) (ts : List Token) : Type 0 where
  pub rs : List Row
  pub are : rows_of (slice_get N c) (chain_of 1048576 N (slots.Node c)).0 ≡ rs
  pub fine : class_fault (slice_get N c) (chain_of 1048576 N (slots.Node c)).1 ≡ None
  pub fitted : Fitted rs ps
  pub toks : ts ≡ part_tokens (writes rs) ps

pub fitted_len : (rs : List Row) (ps : List Part) → Fitted rs ps → length rs ≡ length ps
fitted_len [] [] h = refl
fitted_len (r ∷ rs) (p ∷ ps) h = ap suc (fitted_len rs ps h.2)
fitted_len [] (p ∷ ps) h = absurd h
fitted_len (r ∷ rs) [] h = absurd h

not_flag : (d : ClassDesc) → is_good_desc d ≡ true → has_flag d.flags 2 ≡ true → has_flag d.flags 4 ≡ false
not_flag d good two = go (has_flag d.flags 4) refl
  where
    go : (b : Bool) → has_flag d.flags 4 ≡ b → b ≡ false
    go false e = refl
    go true e = absurd (not_both d good two e)

rows_chained : (i : Option Node) (ps : List Part) (rs : List Row) → fits_object i ps true ≡ true → ((d : ClassDesc) → i ≡ Some (Desc d) → has_flag d.flags 4 ≡ false) → (rows_of i rs ≡ rs) × (class_fault i true ≡ None)
rows_chained (Some (Desc d)) ps rs h four =
    let f = four d refl in
    let a = and_parts (lacks_flag d.flags 16 && not (is_some (element_of d.name))) _ h in
    let b = and_parts (lacks_flag d.flags 16) (not (is_some (element_of d.name))) a.0 in
    (rw f refl, rw f (rw b.0 (rw b.1 refl)))
rows_chained (Some (Proxy p)) ps rs h four = (refl, refl)
rows_chained _ ps rs h four = absurd cc

pub object_row : (F N : List Node) (c : ℕ) (ps : List Part) → SameUp F N (slots.Node c) → length ps ≤ 1048576 → fits_chain F ps (length ps) (slots.Node c) ≡ true → fits_object (slice_get F c) ps (fits_chain F ps (length ps) (slots.Node c)) ≡ true
    → ObjectRow N c ps (part_tokens (writers F (length ps) (slots.Node c)) ps)
object_row F N c ps up few chained shaped =
    let rs = rows F (length ps) (slots.Node c) in
    let one = up (suc zero) in
    let chain : chain_of 1048576 N (slots.Node c) ≡ (rs, true) = sym (chain_same F N 1048576 (slots.Node c) (up 1048576)) ∙ chain_rows F ps (length ps) 1048576 (slots.Node c) few chained in
    let h : fits_object (slice_get F c) ps true ≡ true = rw chained at shaped in
    let four : (d : ClassDesc) → slice_get F c ≡ Some (Desc d) → has_flag d.flags 4 ≡ false = λ d is. (
    let good : SameAbove (SameChain F N zero) (Some (Desc d)) = subst (λ (i : Option Node). SameAbove (SameChain F N zero) i) is one.1 in
    not_flag d good.0 (chained_flag F ps c d is chained)) in
    let r = rows_chained (slice_get F c) ps rs h four in
    record {
      rs = rs;
      are = ap (λ (x : List Row × Bool). rows_of (slice_get N c) x.0) chain ∙ (ap (λ (i : Option Node). rows_of i rs) (sym one.0) ∙ r.0);
      fine = ap (λ (x : List Row × Bool). class_fault (slice_get N c) x.1) chain ∙ (ap (λ (i : Option Node). class_fault i true) (sym one.0) ∙ r.1);
      fitted = parts_fitted F ps (slots.Node c) chained;
      toks = ap (λ (ws : List Bool). part_tokens ws ps) (rows_write F (length ps) (slots.Node c));
    }

external_fine : (d : ClassDesc) (ps : List Part) (chained serial : Bool) → has_flag d.flags 4 ≡ true → chained ≡ false → fits_object (Some (Desc d)) ps chained ≡ true → class_fault (Some (Desc d)) serial ≡ None
external_fine d ps chained serial four no_chain h =
    let a = and_parts (lacks_flag d.flags 16 && not (is_some (element_of d.name))) _ h in
    let b = and_parts (lacks_flag d.flags 16) (not (is_some (element_of d.name))) a.0 in
    let c : (false || ((has_flag d.flags 4 && has_flag d.flags 8) && is_external ps)) ≡ true = rw no_chain at a.1 in
    let e = and_parts (has_flag d.flags 4 && has_flag d.flags 8) (is_external ps) c in
    let eight = (and_parts (has_flag d.flags 4) (has_flag d.flags 8) e.0).1 in
    rw four (rw eight (rw b.0 (rw b.1 refl)))

pub external_row : (F N : List Node) (c : ℕ) (p : Part) (d : ClassDesc) → SameUp F N (slots.Node c) → slice_get F c ≡ Some (Desc d) → has_flag d.flags 4 ≡ true → p.values ≡ [] → fits_object (slice_get F c) (p ∷ []) (fits_chain F (p ∷ []) 1 (slots.Node c)) ≡ true
    → ObjectRow N c (p ∷ []) (note p.note ∷ [])
unfolding part_tokens fit_values
external_row F N c p d up is four none shaped =
    let one = up (suc zero) in
    let here : slice_get N c ≡ Some (Desc d) = sym one.0 ∙ is in
    let good : SameAbove (SameChain F N zero) (Some (Desc d)) = subst (λ (i : Option Node). SameAbove (SameChain F N zero) i) is one.1 in
    let h : fits_object (Some (Desc d)) (p ∷ []) (fits_chain F (p ∷ []) 1 (slots.Node c)) ≡ true = subst (λ (i : Option Node). fits_object i (p ∷ []) (fits_chain F (p ∷ []) 1 (slots.Node c)) ≡ true) is shaped in
    record {
      rs = ([], true) ∷ [];
      are = rw here (rw four refl);
      fine = ap (λ (i : Option Node). class_fault i (chain_of 1048576 N (slots.Node c)).1) here ∙ external_fine d (p ∷ []) (fits_chain F (p ∷ []) 1 (slots.Node c)) (chain_of 1048576 N (slots.Node c)).1 four (no_chain good.0 (fits_chain F (p ∷ []) 1 (slots.Node c)) refl) h;
      fitted = (rw none refl, λ e. absurd cc, tt);
      toks = rw none refl;
    }
  where
    no_chain : is_good_desc d ≡ true → (b : Bool) → fits_chain F (p ∷ []) 1 (slots.Node c) ≡ b → b ≡ false
    no_chain good false e = refl
    no_chain good true e = absurd (not_both d good (chained_flag F (p ∷ []) c d is e) four)

-- ---- an array's class

pub record ArrayType (N : List Node) (c : ℕ) (v : Values) : Type 0 where
  pub code : TypeCode
  pub is : type_in (slice_get N c) ≡ Some code
  pub fit : fit_elements v (Some code) ≡ true
  pub few : fits_array (slice_get N c) v ≡ true

type_fits : (o : Option TypeCode) (v : Values) → fit_elements v o ≡ true → (code : TypeCode) × (o ≡ Some code)
type_fits (Some code) v h = (code, refl)
type_fits None v h = absurd (elements_of v None h)

pub array_type : (N : List Node) (i : Option Node) (c : ℕ) (v : Values) → slice_get N c ≡ i → fits_array i v ≡ true → ArrayType N c v
array_type N (Some (Desc d)) c v is h =
    let a = and_parts (fit_elements v (element_of d.name)) _ h in
    let t = type_fits (element_of d.name) v a.0 in
    record { code = t.0; is = rw is t.1; fit = subst (λ (o : Option TypeCode). fit_elements v o ≡ true) t.1 a.0; few = rw is h }
array_type N _ c v is h = absurd cc
