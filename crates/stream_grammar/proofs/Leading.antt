-- Tokens of two graphs that the same bytes spell: at each the bytes decide what it is, and so what comes next.
use Rattle.std.proofs.Common.{◌≡◌, ℕ, zero, suc, ◌<◌, ◌^◌, ℤ, FitsSigned, true, List, [], ◌∷◌, ◌++◌, map, length, All, Some, Option, slice_get, refl, ap, subst, append-nil, arith}
use Rattle.std.proofs.lemmas.Bool.{ltb-true, and_parts}
use Rattle.std.specs.Int.{w16, w32, w64, to_be_bytes, cast_unsigned}
use Rattle.mod_utf.specs.Utf.{utf}
use Rattle.class_desc.specs.declared.slot.Slot.{Slot}
use Rattle.class_desc.specs.declared.slot.Slot.TheVariants as slots
use Rattle.class_desc.specs.ClassDesc.{is_good_desc}
use Rattle.ser_values.specs.declared.node.Node.{Node}
use Rattle.ser_values.specs.declared.node.Node.TheVariants.{Desc, Proxy}
use Rattle.ser_values.specs.declared.node.SlotPlace.{SlotPlace}
use Rattle.ser_values.specs.declared.node.SlotPlace.TheVariants as places
use Rattle.ser_values.specs.Shape.{is_short, are_short}
use Rattle.stream_grammar.specs.Spelled.{Token, raw, truth, want, note, number, short_text, long_text}
use Rattle.stream_grammar.proofs.Apart.{front_same, same_16, same_32, same_64, same_signed, below_16, below_32, below_64, text_same}

-- ---- descriptions that two graphs share, up to the highest superclass

abbrev pub SameAbove : (Slot → Type 0) → Option Node → Type 0
SameAbove above (Some (Desc d)) = (is_good_desc d ≡ true) × above d.parent
SameAbove above (Some (Proxy p)) = above p.parent
SameAbove above _ = Unit {0}

abbrev pub SameChain : List Node → List Node → ℕ → Slot → Type 0
SameChain A B zero s = Unit {0}
SameChain A B (suc n) slots.Null = Unit {0}
SameChain A B (suc n) (slots.Node k) = (slice_get A k ≡ slice_get B k) × SameAbove (SameChain A B n) (slice_get A k)

-- The slot's description, and all above it, are the same in both.
abbrev pub SameUp : List Node → List Node → Slot → Type 0
SameUp A B s = (n : ℕ) → SameChain A B n s

-- what is known of a slot once it was read in a place
abbrev pub Chained : List Node → List Node → SlotPlace → Slot → Type 0
Chained A B places.Class s = SameUp A B s
Chained A B places.Parent s = SameUp A B s
Chained A B _ s = Unit {0}

-- ---- tokens

-- The same bytes spell both lists of tokens only where G holds.
abbrev pub Leads : List Node → List Node → List Token → List Token → Type 0 → Type 0
Leads A B [] [] G = G
Leads A B (raw r ∷ ts) (raw q ∷ us) G = (x y : List ℕ) → r ++ x ≡ q ++ y → (r ≡ q) × Leads A B ts us G
Leads A B (truth a ∷ ts) (truth b ∷ us) G = a ≡ b → Leads A B ts us G
Leads A B (want w ∷ ts) (want v ∷ us) G = (w.0 ≡ v.0) × (w.1 ≡ v.1 → Chained A B w.0 w.1 → Leads A B ts us G)
Leads A B (note is ∷ ts) (note js ∷ us) G = is ≡ js → Leads A B ts us G
Leads A B _ _ G = ⊥

pub front_lead : (A B : List Node) (r q : List ℕ) (ts us : List Token) (G : Type 0) → length r ≡ length q → (r ≡ q → Leads A B ts us G) → Leads A B (raw r ∷ ts) (raw q ∷ us) G
front_lead A B r q ts us G len f = λ x y e. (let s = front_same r q x y len e in (s.0, f s.0))

pub byte_lead : (A B : List Node) (a b : ℕ) (ts us : List Token) (G : Type 0) → (a ≡ b → Leads A B ts us G) → Leads A B (raw (a ∷ []) ∷ ts) (raw (b ∷ []) ∷ us) G
byte_lead A B a b ts us G f = front_lead A B (a ∷ []) (b ∷ []) ts us G refl (λ e. f cc)

pub lead_16 : (A B : List Node) (a b : ℕ) (ts us : List Token) (G : Type 0) → a < 2 ^ 16 → b < 2 ^ 16 → (a ≡ b → Leads A B ts us G) → Leads A B (number w16 a ∷ ts) (number w16 b ∷ us) G
lead_16 A B a b ts us G p q f = front_lead A B (to_be_bytes w16 a) (to_be_bytes w16 b) ts us G refl (λ e. f (same_16 a b p q e))

pub lead_32 : (A B : List Node) (a b : ℕ) (ts us : List Token) (G : Type 0) → a < 2 ^ 32 → b < 2 ^ 32 → (a ≡ b → Leads A B ts us G) → Leads A B (number w32 a ∷ ts) (number w32 b ∷ us) G
lead_32 A B a b ts us G p q f = front_lead A B (to_be_bytes w32 a) (to_be_bytes w32 b) ts us G refl (λ e. f (same_32 a b p q e))

pub lead_64 : (A B : List Node) (a b : ℕ) (ts us : List Token) (G : Type 0) → a < 2 ^ 64 → b < 2 ^ 64 → (a ≡ b → Leads A B ts us G) → Leads A B (number w64 a ∷ ts) (number w64 b ∷ us) G
lead_64 A B a b ts us G p q f = front_lead A B (to_be_bytes w64 a) (to_be_bytes w64 b) ts us G refl (λ e. f (same_64 a b p q e))

pub lead_i16 : (A B : List Node) (y z : ℤ) (ts us : List Token) (G : Type 0) → FitsSigned w16 y → FitsSigned w16 z → (y ≡ z → Leads A B ts us G) → Leads A B (number w16 (cast_unsigned w16 y) ∷ ts) (number w16 (cast_unsigned w16 z) ∷ us) G
lead_i16 A B y z ts us G p q f = lead_16 A B (cast_unsigned w16 y) (cast_unsigned w16 z) ts us G (below_16 y p) (below_16 z q) (λ e. f (same_signed w16 y z p q e))

pub lead_i32 : (A B : List Node) (y z : ℤ) (ts us : List Token) (G : Type 0) → FitsSigned w32 y → FitsSigned w32 z → (y ≡ z → Leads A B ts us G) → Leads A B (number w32 (cast_unsigned w32 y) ∷ ts) (number w32 (cast_unsigned w32 z) ∷ us) G
lead_i32 A B y z ts us G p q f = lead_32 A B (cast_unsigned w32 y) (cast_unsigned w32 z) ts us G (below_32 y p) (below_32 z q) (λ e. f (same_signed w32 y z p q e))

pub lead_i64 : (A B : List Node) (y z : ℤ) (ts us : List Token) (G : Type 0) → FitsSigned w64 y → FitsSigned w64 z → (y ≡ z → Leads A B ts us G) → Leads A B (number w64 (cast_unsigned w64 y) ∷ ts) (number w64 (cast_unsigned w64 z) ∷ us) G
lead_i64 A B y z ts us G p q f = lead_64 A B (cast_unsigned w64 y) (cast_unsigned w64 z) ts us G (below_64 y p) (below_64 z q) (λ e. f (same_signed w64 y z p q e))

pub text_lead : (A B : List Node) (t u : List ℕ) (ts us : List Token) (G : Type 0) → length (utf t) < 2 ^ 16 → length (utf u) < 2 ^ 16 → (t ≡ u → Leads A B ts us G) → Leads A B (short_text t ∷ ts) (short_text u ∷ us) G
text_lead A B t u ts us G p q f = λ x y e. (
    let h = front_same (to_be_bytes w16 (length (utf t))) (to_be_bytes w16 (length (utf u))) (utf t ++ x) (utf u ++ y) refl e in
    let g = front_same (utf t) (utf u) x y (same_16 (length (utf t)) (length (utf u)) p q h.0) h.1 in
    let same : t ≡ u = text_same t u g.0 in
    (ap (λ (v : List ℕ). to_be_bytes w16 (length (utf v)) ++ utf v) same, f same))

pub long_lead : (A B : List Node) (t u : List ℕ) (ts us : List Token) (G : Type 0) → length (utf t) < 2 ^ 64 → length (utf u) < 2 ^ 64 → (t ≡ u → Leads A B ts us G) → Leads A B (long_text t ∷ ts) (long_text u ∷ us) G
long_lead A B t u ts us G p q f = λ x y e. (
    let h = front_same (to_be_bytes w64 (length (utf t))) (to_be_bytes w64 (length (utf u))) (utf t ++ x) (utf u ++ y) refl e in
    let g = front_same (utf t) (utf u) x y (same_64 (length (utf t)) (length (utf u)) p q h.0) h.1 in
    let same : t ≡ u = text_same t u g.0 in
    (ap (λ (v : List ℕ). to_be_bytes w64 (length (utf v)) ++ utf v) same, f same))

-- ---- tokens of one form, one after the other

abbrev pub OneLeads : {X : Type 0} → List Node → List Node → (X → Token) → (X → Type 0) → Type 1
OneLeads {X} A B f P = (x y : X) (ts us : List Token) (G : Type 0) → P x → P y → (x ≡ y → Leads A B ts us G) → Leads A B (f x ∷ ts) (f y ∷ us) G

pub all_rest : {X : Type 0} (P : X → Type 0) (x : X) (xs : List X) → All P (x ∷ xs) → All P xs
all_rest P x xs h = λ k d lt. h (suc k) d (omega arith)

pub all_lead : {X : Type 0} (A B : List Node) (f : X → Token) (P : X → Type 0) → OneLeads A B f P → (xs ys : List X) → length xs ≡ length ys → All P xs → All P ys → (ts us : List Token) (G : Type 0) → (xs ≡ ys → Leads A B ts us G) → Leads A B (map f xs ++ ts) (map f ys ++ us) G
all_lead A B f P one [] [] len p q ts us G g = g refl
all_lead A B f P one [] (y ∷ ys) len p q ts us G g = absurd (omega arith)
all_lead A B f P one (x ∷ xs) [] len p q ts us G g = absurd (omega arith)
all_lead A B f P one (x ∷ xs) (y ∷ ys) len p q ts us G g =
    one x y (map f xs ++ ts) (map f ys ++ us) G (p zero x (omega arith)) (q zero y (omega arith))
    (λ e. all_lead A B f P one xs ys (omega arith) (all_rest P x xs p) (all_rest P y ys q) ts us G (λ e2. g cc))

-- the same with nothing after them
pub whole_lead : {X : Type 0} (A B : List Node) (f : X → Token) (P : X → Type 0) → OneLeads A B f P → (xs ys : List X) → length xs ≡ length ys → All P xs → All P ys → (G : Type 0) → (xs ≡ ys → G) → Leads A B (map f xs) (map f ys) G
whole_lead A B f P one xs ys len p q G g =
    subst (λ (us : List Token). Leads A B (map f xs) us G) (append-nil (map f ys))
    (subst (λ (ts : List Token). Leads A B ts (map f ys ++ []) G) (append-nil (map f xs)) (all_lead A B f P one xs ys len p q [] [] G g))

all_more : {X : Type 0} (P : X → Type 0) (x : X) (xs : List X) → P x → All P xs → All P (x ∷ xs)
all_more P x xs p h zero d lt = p
all_more P x xs p h (suc k) d lt = h k d (omega arith)

pub short_all : (ns : List (List ℕ)) → are_short ns ≡ true → All (λ t. length (utf t) < 2 ^ 16) ns
unfolding are_short
short_all [] h = λ k d lt. absurd (omega arith)
short_all (n ∷ ns) h =
    let p = and_parts (is_short n) (are_short ns) h in
    all_more (λ t. length (utf t) < 2 ^ 16) n ns (ltb-true _ _ p.0) (short_all ns p.1)

pub names_lead : (A B : List Node) (ms ns : List (List ℕ)) → length ms ≡ length ns → are_short ms ≡ true → are_short ns ≡ true → (ts us : List Token) (G : Type 0) → (ms ≡ ns → Leads A B ts us G) → Leads A B (map short_text ms ++ ts) (map short_text ns ++ us) G
names_lead A B ms ns len p q ts us G g = all_lead A B short_text (λ t. length (utf t) < 2 ^ 16) (text_lead A B) ms ns len (short_all ms p) (short_all ns q) ts us G g
