-- The parts of objects of one class: the chain of its descriptions says how many there are, and what each has.
use Rattle.std.proofs.Common.{◌≡◌, ◌&&◌, ◌||◌, ℕ, zero, suc, Bool, true, false, List, [], ◌∷◌, ◌++◌, length, take, All, Some, None, Option, slice_get, bit_and, refl, sym, ap, subst, ◌∙◌, arith, inl, inr}
use Rattle.std.proofs.lemmas.Bool.{eqb-true, and_parts}
use Rattle.std.proofs.lemmas.List.{map_push}
use Rattle.class_desc.specs.declared.slot.Slot.{Slot}
use Rattle.class_desc.specs.declared.slot.Slot.TheVariants as slots
use Rattle.class_desc.specs.declared.field.FieldDesc.{FieldDesc}
use Rattle.class_desc.specs.declared.desc.ClassDesc.{ClassDesc}
use Rattle.class_desc.specs.TypeText.{is_nil}
use Rattle.class_desc.specs.ClassDesc.{has_flag, is_good_desc, fit_flags, are_ordered}
use Rattle.class_desc.proofs.Fields.{flags_are}
use Rattle.ser_values.specs.declared.value.Part.{Part}
use Rattle.ser_values.specs.declared.node.Node.{Node}
use Rattle.ser_values.specs.declared.node.Node.TheVariants.{Desc, Proxy}
use Rattle.ser_values.specs.Ranges.{PartFits}
use Rattle.ser_values.specs.Shape.{fit_values, fits_part, fits_above, fits_chain, is_joined}
use Rattle.stream_grammar.specs.Spelled.{writers_above, writers, part_tokens}
use Rattle.stream_grammar.proofs.Spelling.{take-push, take-all, nil_is}
use Rattle.stream_grammar.proofs.Leading.{SameAbove, SameChain, SameUp, Leads}
use Rattle.stream_grammar.proofs.Parted.{Row, Fitted, writes, parts_lead}

-- ---- the classes of a chain, the highest first

abbrev pub rows_above : (Slot → List Row) → Option Node → List Row
rows_above above (Some (Desc d)) = above d.parent ++ (d.fields, has_flag d.flags 1) ∷ []
rows_above above (Some (Proxy p)) = above p.parent ++ ([], false) ∷ []
rows_above above _ = []

abbrev pub rows : List Node → ℕ → Slot → List Row
rows nodes zero s = []
rows nodes (suc n) slots.Null = []
rows nodes (suc n) (slots.Node k) = rows_above (rows nodes n) (slice_get nodes k)

above_write : (nodes : List Node) (n : ℕ) → ((s : Slot) → writers nodes n s ≡ writes (rows nodes n s)) → (i : Option Node) → writers_above (writers nodes n) i ≡ writes (rows_above (rows nodes n) i)
above_write nodes n ih (Some (Desc d)) = ap (λ (l : List Bool). l ++ has_flag d.flags 1 ∷ []) (ih d.parent) ∙ sym (map_push (λ (r : Row). r.1) (rows nodes n d.parent) (d.fields, has_flag d.flags 1))
above_write nodes n ih (Some (Proxy p)) = ap (λ (l : List Bool). l ++ false ∷ []) (ih p.parent) ∙ sym (map_push (λ (r : Row). r.1) (rows nodes n p.parent) ([], false))
above_write nodes n ih _ = refl

pub rows_write : (nodes : List Node) (n : ℕ) (s : Slot) → writers nodes n s ≡ writes (rows nodes n s)
unfolding writers
rows_write nodes zero s = refl
rows_write nodes (suc n) slots.Null = refl
rows_write nodes (suc n) (slots.Node k) = above_write nodes n (rows_write nodes n) (slice_get nodes k)

-- ---- parts that fit the chain

fitted_push : (rs : List Row) (ps : List Part) (r : Row) (p : Part) → Fitted rs ps → fit_values r.0 p.values ≡ true → (r.1 ≡ false → p.note ≡ []) → Fitted (rs ++ r ∷ []) (ps ++ p ∷ [])
fitted_push [] [] r p h a b = (a, b, tt)
fitted_push (x ∷ rs) (y ∷ ps) r p h a b = (h.0, h.1, fitted_push rs ps r p h.2 a b)
fitted_push [] (y ∷ ps) r p h a b = absurd h
fitted_push (x ∷ rs) [] r p h a b = absurd h

fitted_part : (fs : List FieldDesc) (w : Bool) (p : Part) → fits_part fs w (Some p) ≡ true → (fit_values fs p.values ≡ true) × (w ≡ false → p.note ≡ [])
fitted_part fs w p h =
    let a = and_parts (fit_values fs p.values) ((w || is_nil p.note) && is_joined p.note) h in
    let b = and_parts (w || is_nil p.note) (is_joined p.note) a.1 in
    (a.0, λ none. (let c : is_nil p.note ≡ true = rw none at b.0 in nil_is p.note c))

abbrev AreFitted : List Node → List Part → ℕ → Type 0
AreFitted nodes ps n = (s : Slot) → fits_chain nodes ps n s ≡ true → Fitted (rows nodes n s) (take n ps)

fitted_above : (nodes : List Node) (ps : List Part) (n : ℕ) → AreFitted nodes ps n → (o : Option Part) (i : Option Node) → slice_get ps n ≡ o → fits_above (fits_chain nodes ps n) o i ≡ true → Fitted (rows_above (rows nodes n) i) (take (suc n) ps)
fitted_above nodes ps n ih (Some p) (Some (Desc d)) e h =
    let a = and_parts (has_flag d.flags 2) (fits_part d.fields (has_flag d.flags 1) (Some p) && fits_chain nodes ps n d.parent) h in
    let b = and_parts (fits_part d.fields (has_flag d.flags 1) (Some p)) (fits_chain nodes ps n d.parent) a.1 in
    let c = fitted_part d.fields (has_flag d.flags 1) p b.0 in
    rw (take-push ps n p e) (fitted_push (rows nodes n d.parent) (take n ps) (d.fields, has_flag d.flags 1) p (ih d.parent b.1) c.0 c.1)
fitted_above nodes ps n ih (Some p) (Some (Proxy q)) e h =
    let b = and_parts (fits_part [] false (Some p)) (fits_chain nodes ps n q.parent) h in
    let c = fitted_part [] false p b.0 in
    rw (take-push ps n p e) (fitted_push (rows nodes n q.parent) (take n ps) ([], false) p (ih q.parent b.1) c.0 c.1)
fitted_above nodes ps n ih None (Some (Desc d)) e h = let a = (and_parts (has_flag d.flags 2) (false && fits_chain nodes ps n d.parent) h).1 in absurd cc
fitted_above nodes ps n ih _ _ e h = absurd cc

chain_fitted : (nodes : List Node) (ps : List Part) (n : ℕ) → AreFitted nodes ps n
unfolding fits_chain
chain_fitted nodes ps zero s h = tt
chain_fitted nodes ps (suc n) slots.Null h = absurd cc
chain_fitted nodes ps (suc n) (slots.Node k) h = fitted_above nodes ps n (chain_fitted nodes ps n) (slice_get ps n) (slice_get nodes k) refl h

pub parts_fitted : (nodes : List Node) (ps : List Part) (s : Slot) → fits_chain nodes ps (length ps) s ≡ true → Fitted (rows nodes (length ps) s) ps
parts_fitted nodes ps s h = subst (λ (l : List Part). Fitted (rows nodes (length ps) s) l) (take-all ps) (chain_fitted nodes ps (length ps) s h)

-- ---- the same chain in two graphs

rows_same_above : (A B : List Node) (n : ℕ) → ((s : Slot) → SameChain A B n s → rows A n s ≡ rows B n s) → (i : Option Node) → SameAbove (SameChain A B n) i → rows_above (rows A n) i ≡ rows_above (rows B n) i
rows_same_above A B n ih (Some (Desc d)) h = ap (λ (l : List Row). l ++ (d.fields, has_flag d.flags 1) ∷ []) (ih d.parent h.1)
rows_same_above A B n ih (Some (Proxy p)) h = ap (λ (l : List Row). l ++ ([], false) ∷ []) (ih p.parent h)
rows_same_above A B n ih _ h = refl

rows_same : (A B : List Node) (n : ℕ) (s : Slot) → SameChain A B n s → rows A n s ≡ rows B n s
rows_same A B zero s h = refl
rows_same A B (suc n) slots.Null h = refl
rows_same A B (suc n) (slots.Node k) h = rows_same_above A B n (rows_same A B n) (slice_get A k) h.1 ∙ ap (rows_above (rows B n)) h.0

abbrev pub parent_of : Option Node → Slot
parent_of (Some (Desc d)) = d.parent
parent_of (Some (Proxy p)) = p.parent
parent_of _ = slots.Null

null_up : (A B : List Node) → SameUp A B slots.Null
null_up A B zero = tt
null_up A B (suc n) = tt

chain_above : (A B : List Node) (n : ℕ) (i : Option Node) → SameAbove (SameChain A B n) i → SameChain A B n (parent_of i)
chain_above A B n (Some (Desc d)) h = h.1
chain_above A B n (Some (Proxy p)) h = h
chain_above A B n _ h = null_up A B n

fits_parent : (above : Slot → Bool) (p : Option Part) (i : Option Node) → fits_above above p i ≡ true → above (parent_of i) ≡ true
fits_parent above p (Some (Desc d)) h =
    let a = and_parts (has_flag d.flags 2) (fits_part d.fields (has_flag d.flags 1) p && above d.parent) h in
    (and_parts (fits_part d.fields (has_flag d.flags 1) p) (above d.parent) a.1).1
fits_parent above p (Some (Proxy q)) h = (and_parts (fits_part [] false p) (above q.parent) h).1
fits_parent above p _ h = absurd cc

-- as many parts as there are descriptions
length_same : (A B : List Node) (ps qs : List Part) (n m : ℕ) (s : Slot) → SameUp A B s → fits_chain A ps n s ≡ true → fits_chain B qs m s ≡ true → n ≡ m
unfolding fits_chain
length_same A B ps qs zero zero s up a b = refl
length_same A B ps qs zero (suc m) slots.Null up a b = absurd cc
length_same A B ps qs zero (suc m) (slots.Node k) up a b = absurd cc
length_same A B ps qs (suc n) zero slots.Null up a b = absurd cc
length_same A B ps qs (suc n) zero (slots.Node k) up a b = absurd cc
length_same A B ps qs (suc n) (suc m) slots.Null up a b = absurd cc
length_same A B ps qs (suc n) (suc m) (slots.Node k) up a b =
    let one = up (suc zero) in
    let i = slice_get A k in
    let a1 = fits_parent (fits_chain A ps n) (slice_get ps n) i a in
    let b1 : fits_chain B qs m (parent_of i) ≡ true = subst (λ (j : Option Node). fits_chain B qs m (parent_of j) ≡ true) (sym one.0) (fits_parent (fits_chain B qs m) (slice_get qs m) (slice_get B k) b) in
    ap suc (length_same A B ps qs n m (parent_of i) (λ d. chain_above A B d i (up (suc d)).1) a1 b1)

-- The same bytes spell only the same parts.
pub objects_lead : (A B : List Node) (s : Slot) (ps qs : List Part) → SameUp A B s → fits_chain A ps (length ps) s ≡ true → fits_chain B qs (length qs) s ≡ true → All PartFits ps → All PartFits qs
    → (G : Type 0) → (ps ≡ qs → G) → Leads A B (part_tokens (writers A (length ps) s) ps) (part_tokens (writers B (length qs) s) qs) G
objects_lead A B s ps qs up a b p q G k =
    let rs = rows A (length ps) s in
    let len : length ps ≡ length qs = length_same A B ps qs (length ps) (length qs) s up a b in
    let same : rs ≡ rows B (length qs) s = rows_same A B (length ps) s (up (length ps)) ∙ ap (λ n. rows B n s) len in
    let fb : Fitted rs qs = subst (λ (r : List Row). Fitted r qs) (sym same) (parts_fitted B qs s b) in
    let wa : writers A (length ps) s ≡ writes rs = rows_write A (length ps) s in
    let wb : writers B (length qs) s ≡ writes rs = rows_write B (length qs) s ∙ ap (λ (r : List Row). writes r) (sym same) in
    rw (wa, wb) (parts_lead A B rs ps qs (parts_fitted A ps s a) fb p q G k)

-- ---- a class is serializable or externalizable

pub not_both : (d : ClassDesc) → is_good_desc d ≡ true → has_flag d.flags 2 ≡ true → has_flag d.flags 4 ≡ true → ⊥
unfolding is_good_desc
not_both d good two four =
    let g = flags_are d (and_parts (fit_flags d) (are_ordered d.fields) good).0 in
    let e2 : bit_and d.flags 2 ≡ 2 = eqb-true _ _ two in
    let e4 : bit_and d.flags 4 ≡ 4 = eqb-true _ _ four in
    elim g.one_kind [
      | inl none ↦ absurd (omega arith)
      | inr none ↦ absurd (omega arith)
    ]

-- the description of an object's class is serializable, where the parts fit its chain
pub chained_flag : (nodes : List Node) (ps : List Part) (c : ℕ) (d : ClassDesc) → slice_get nodes c ≡ Some (Desc d) → fits_chain nodes ps (length ps) (slots.Node c) ≡ true → has_flag d.flags 2 ≡ true
unfolding fits_chain
chained_flag nodes [] c d is h = absurd cc
chained_flag nodes (p ∷ ps) c d is h =
    let e : fits_above (fits_chain nodes (p ∷ ps) (length ps)) (slice_get (p ∷ ps) (length ps)) (Some (Desc d)) ≡ true = rw is at h in
    (and_parts (has_flag d.flags 2) _ e).0
