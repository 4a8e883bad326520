-- One unit, and units one after the other: reading and spelling agree.
use Rattle.std.proofs.Common.{◌≡◌, ◌≢◌, ℕ, zero, suc, ◌-◌, ◌+◌, ◌*◌, ◌/◌, ◌%◌, ◌≤◌, ◌<◌, Bool, true, false, cond, eqb, leb, ltb, ◌&&◌, ◌||◌, take, List, [], ◌∷◌, ◌++◌, length, drop, Option, Some, None, refl, sym, ap, subst, ◌∙◌, arith, inl, inr}
use Rattle.std.proofs.lemmas.Bool.{leb-true, le-leb, lt-ltb, le-ltb, ltb-true, ltb-false}
use Rattle.std.specs.Prelude.{◌⊎◌}
use Rattle.std.proofs.lemmas.Grind.{flat_map-append, common_steps}
use Rattle.std.proofs.lemmas.List.{append-nil, length-append, drop-drop, drop_at}
use Rattle.std.proofs.Common.{length-drop, append_assoc}
use Rattle.mod_utf.specs.Utf.{unit_bytes, utf}
use Rattle.mod_utf.specs.Decoding.{two, three, front}

-- numbers of 16 bits
abbrev pub AreUnits : List ℕ → Type 0
AreUnits [] = Unit {0}
AreUnits (u ∷ us) = (u < 65536) × AreUnits us

-- no unit's bytes stand in front
abbrev pub NoFront : List ℕ → Type 0
NoFront bs = (u : ℕ) (rest : List ℕ) → u < 65536 → bs ≡ unit_bytes u ++ rest → ⊥

-- the bytes are those of these units
abbrev pub AreOf : List ℕ → List ℕ → Type 0
AreOf units bytes = AreUnits units × (bytes ≡ utf units)

-- the longest front that spells whole units ends here
abbrev pub IsBad : List ℕ → ℕ → Type 0
IsBad bytes at = (units : List ℕ) × (rest : List ℕ) × (bytes ≡ utf units ++ rest) × AreUnits units × (rest ≢ []) × NoFront rest × (at ≡ length (utf units))

-- the spelling of a unit, by its size
one_bytes : (u : ℕ) → 0 < u → u < 128 → unit_bytes u ≡ u ∷ []
one_bytes u lo hi = let a : ltb 0 u ≡ true = lt-ltb _ _ lo in let b : ltb u 128 ≡ true = lt-ltb _ _ hi in rw (a, b) refl

two_bytes : (u : ℕ) → u < 2048 → (ltb 0 u && ltb u 128) ≡ false → unit_bytes u ≡ (192 + u / 64) ∷ (128 + u % 64) ∷ []
two_bytes u hi more = let b : ltb u 2048 ≡ true = lt-ltb _ _ hi in rw (more, b) refl

three_bytes : (u : ℕ) → 2048 ≤ u → unit_bytes u ≡ (224 + u / 4096) ∷ (128 + u / 64 % 64) ∷ (128 + u % 64) ∷ []
three_bytes u lo = let a : ltb u 128 ≡ false = le-ltb _ _ (omega arith) in let b : ltb u 2048 ≡ false = le-ltb _ _ lo in let c : ltb 0 u ≡ true = lt-ltb _ _ (omega arith) in rw (a, b, c) refl

small : (a b : ℕ) → 192 ≤ a → a < 224 → 128 ≤ b → b < 192 → (192 + ((a - 192) * 64 + (b - 128)) / 64 ≡ a) × (128 + ((a - 192) * 64 + (b - 128)) % 64 ≡ b) × ((a - 192) * 64 + (b - 128) < 2048)
small a b p q r s = (omega (arith, p, q, r, s), omega (arith, p, q, r, s), omega (arith, p, q, r, s))

large : (a b c : ℕ) → 224 ≤ a → a < 240 → 128 ≤ b → b < 192 → 128 ≤ c → c < 192
    → (224 + ((a - 224) * 4096 + (b - 128) * 64 + (c - 128)) / 4096 ≡ a) × (128 + ((a - 224) * 4096 + (b - 128) * 64 + (c - 128)) / 64 % 64 ≡ b) × (128 + ((a - 224) * 4096 + (b - 128) * 64 + (c - 128)) % 64 ≡ c) × ((a - 224) * 4096 + (b - 128) * 64 + (c - 128) < 65536)
large a b c p q r s t v = (omega (arith, p, q, r, s, t, v), omega (arith, p, q, r, s, t, v), omega (arith, p, q, r, s, t, v), omega (arith, p, q, r, s, t, v))

small_back : (u : ℕ) → u < 2048 → (192 + u / 64 - 192) * 64 + (128 + u % 64 - 128) ≡ u
small_back u hi = omega (arith, hi)

large_back : (u : ℕ) → u < 65536 → (224 + u / 4096 - 224) * 4096 + (128 + u / 64 % 64 - 128) * 64 + (128 + u % 64 - 128) ≡ u
large_back u hi = omega (arith, hi)

-- ---- what reading one unit finds

and_true : (a b : Bool) → a && b ≡ true → (a ≡ true) × (b ≡ true)
and_true true b e = (refl, e)
and_true false b e = absurd cc

range : (lo hi a : ℕ) → leb lo a && ltb a hi ≡ true → (lo ≤ a) × (a < hi)
range lo hi a e = let h = and_true _ _ e in (leb-true _ _ h.0, ltb-true _ _ h.1)

in_range : (lo hi a : ℕ) → lo ≤ a → a < hi → leb lo a && ltb a hi ≡ true
in_range lo hi a p q = let x : leb lo a ≡ true = le-leb _ _ p in let y : ltb a hi ≡ true = lt-ltb _ _ q in rw (x, y) refl

chosen : {A : Type 0} (b : Bool) (x y : Option A) (z : A) → cond b x y ≡ Some z → ((b ≡ true) × (x ≡ Some z)) ⊎ ((b ≡ false) × (y ≡ Some z))
chosen true x y z e = inl (refl, e)
chosen false x y z e = inr (refl, e)

abbrev some : ℕ × ℕ → Option (ℕ × ℕ)
some x = Some x

some_is : (x y : ℕ × ℕ) → some x ≡ some y → x ≡ y
some_is x y e = cc

abbrev pub Fronts : List ℕ → ℕ × ℕ → Type 0
Fronts bs x = (x.0 < 65536) × (bs ≡ unit_bytes x.0 ++ drop x.1 bs)

long_two : (u : ℕ) → (eqb u 0 || leb 128 u) ≡ true → (ltb 0 u && ltb u 128) ≡ false
long_two zero e = refl
long_two (suc u) e = go (leb 128 (suc u)) refl e
  where
    go : (t : Bool) → leb 128 (suc u) ≡ t → (eqb (suc u) 0 || t) ≡ true → (ltb 0 (suc u) && ltb (suc u) 128) ≡ false
    go true p e = let b : ltb (suc u) 128 ≡ false = le-ltb _ _ (leb-true _ _ p) in let a : ltb 0 (suc u) ≡ true = lt-ltb _ _ (omega arith) in rw (a, b) refl
    go false p e = absurd (let z : eqb (suc u) 0 ≡ false = grind arith in let h : (eqb (suc u) 0 || false) ≡ true = e in let h2 : (false || false) ≡ true = rw z at h in cc)

two_sound : (a : ℕ) (bs : List ℕ) (x : ℕ × ℕ) → 192 ≤ a → a < 224 → two a bs ≡ Some x → Fronts (a ∷ bs) x
two_sound a [] x lo hi e = absurd cc
two_sound a (b ∷ bs) x lo hi e = elim (chosen ((leb 128 b && ltb b 192) && (eqb ((a - 192) * 64 + (b - 128)) 0 || leb 128 ((a - 192) * 64 + (b - 128)))) (some ((a - 192) * 64 + (b - 128), 2)) None x e) [
  | inl p ↦
      let h = and_true _ _ p.0 in
      let r = range 128 192 b h.0 in
      let s = small a b lo hi r.0 r.1 in
      let same : unit_bytes ((a - 192) * 64 + (b - 128)) ≡ a ∷ b ∷ [] = two_bytes ((a - 192) * 64 + (b - 128)) s.2 (long_two ((a - 192) * 64 + (b - 128)) h.1) ∙ rw (s.0, s.1) refl in
      subst (Fronts (a ∷ b ∷ bs)) (some_is _ _ p.1) (omega (arith, s.2), ap (λ us. us ++ bs) (sym same))
  | inr p ↦ absurd (let h = p.1 in cc)
]

three_sound : (a : ℕ) (bs : List ℕ) (x : ℕ × ℕ) → 224 ≤ a → a < 240 → three a bs ≡ Some x → Fronts (a ∷ bs) x
three_sound a [] x lo hi e = absurd cc
three_sound a (b ∷ []) x lo hi e = absurd cc
three_sound a (b ∷ c ∷ bs) x lo hi e = elim (chosen ((leb 128 b && ltb b 192) && ((leb 128 c && ltb c 192) && leb 2048 ((a - 224) * 4096 + (b - 128) * 64 + (c - 128)))) (some ((a - 224) * 4096 + (b - 128) * 64 + (c - 128), 3)) None x e) [
  | inl p ↦
      let h = and_true _ _ p.0 in
      let k = and_true _ _ h.1 in
      let r = range 128 192 b h.0 in
      let t = range 128 192 c k.0 in
      let s = large a b c lo hi r.0 r.1 t.0 t.1 in
      let same : unit_bytes ((a - 224) * 4096 + (b - 128) * 64 + (c - 128)) ≡ a ∷ b ∷ c ∷ [] = three_bytes ((a - 224) * 4096 + (b - 128) * 64 + (c - 128)) (leb-true _ _ k.1) ∙ rw (s.0, s.1, s.2) refl in
      subst (Fronts (a ∷ b ∷ c ∷ bs)) (some_is _ _ p.1) (s.3, ap (λ us. us ++ bs) (sym same))
  | inr p ↦ absurd (let h = p.1 in cc)
]

pub front_sound : (bs : List ℕ) (x : ℕ × ℕ) → front bs ≡ Some x → Fronts bs x
unfolding front
front_sound [] x e = absurd cc
front_sound (a ∷ bs) x e = elim (chosen (ltb 0 a && ltb a 128) _ _ _ e) [
  | inl p ↦ let h = and_true _ _ p.0 in
      subst (Fronts (a ∷ bs)) (some_is _ _ p.1) (omega (arith, ltb-true _ _ h.1), ap (λ us. us ++ bs) (sym (one_bytes a (ltb-true _ _ h.0) (ltb-true _ _ h.1))))
  | inr p ↦ elim (chosen (leb 192 a && ltb a 224) _ _ _ p.1) [
    | inl q ↦ let r = range 192 224 a q.0 in two_sound a bs x r.0 r.1 q.1
    | inr q ↦ elim (chosen (leb 224 a && ltb a 240) _ _ _ q.1) [
      | inl t ↦ let r = range 224 240 a t.0 in three_sound a bs x r.0 r.1 t.1
      | inr t ↦ absurd (let h = t.1 in cc)
    ]
  ]
]

-- ---- what is spelled in front is found

two_front : (u : ℕ) (rest : List ℕ) → u < 2048 → (eqb u 0 || leb 128 u) ≡ true → front ((192 + u / 64) ∷ (128 + u % 64) ∷ rest) ≡ Some (u, 2)
unfolding front
two_front u rest hi e =
    let g1 : ltb 0 (192 + u / 64) && ltb (192 + u / 64) 128 ≡ false = let x : ltb (192 + u / 64) 128 ≡ false = le-ltb _ _ (omega arith) in let y : ltb 0 (192 + u / 64) ≡ true = lt-ltb _ _ (omega arith) in rw (y, x) refl in
    let g2 : leb 192 (192 + u / 64) && ltb (192 + u / 64) 224 ≡ true = in_range 192 224 (192 + u / 64) (omega arith) (omega (arith, hi)) in
    let g3 : leb 128 (128 + u % 64) && ltb (128 + u % 64) 192 ≡ true = in_range 128 192 (128 + u % 64) (omega arith) (omega arith) in
    rw (g1, g2, g3, small_back u hi, e) refl

three_front : (u : ℕ) (rest : List ℕ) → 2048 ≤ u → u < 65536 → front ((224 + u / 4096) ∷ (128 + u / 64 % 64) ∷ (128 + u % 64) ∷ rest) ≡ Some (u, 3)
unfolding front
three_front u rest lo hi =
    let g1 : ltb 0 (224 + u / 4096) && ltb (224 + u / 4096) 128 ≡ false = let x : ltb (224 + u / 4096) 128 ≡ false = le-ltb _ _ (omega arith) in let y : ltb 0 (224 + u / 4096) ≡ true = lt-ltb _ _ (omega arith) in rw (y, x) refl in
    let g2 : leb 192 (224 + u / 4096) && ltb (224 + u / 4096) 224 ≡ false = let x : ltb (224 + u / 4096) 224 ≡ false = le-ltb _ _ (omega arith) in let y : leb 192 (224 + u / 4096) ≡ true = le-leb _ _ (omega arith) in rw (y, x) refl in
    let g3 : leb 224 (224 + u / 4096) && ltb (224 + u / 4096) 240 ≡ true = in_range 224 240 (224 + u / 4096) (omega arith) (omega (arith, hi)) in
    let g4 : leb 128 (128 + u / 64 % 64) && ltb (128 + u / 64 % 64) 192 ≡ true = in_range 128 192 (128 + u / 64 % 64) (omega arith) (omega arith) in
    let g5 : leb 128 (128 + u % 64) && ltb (128 + u % 64) 192 ≡ true = in_range 128 192 (128 + u % 64) (omega arith) (omega arith) in
    let g6 : leb 2048 u ≡ true = le-leb _ _ lo in
    rw (g1, g2, g3, g4, g5, large_back u hi, g6) refl

not_one : (u : ℕ) → (ltb 0 u && ltb u 128) ≡ false → (eqb u 0 || leb 128 u) ≡ true
not_one zero e = refl
not_one (suc u) e =
    let a : ltb 0 (suc u) ≡ true = lt-ltb _ _ (omega arith) in
    let b : ltb (suc u) 128 ≡ false = rw a at e in
    let c : leb 128 (suc u) ≡ true = le-leb _ _ (ltb-false _ _ b) in
    let z : eqb (suc u) 0 ≡ false = grind arith in
    rw (z, c) refl

pub front_back : (u : ℕ) (rest : List ℕ) → u < 65536 → front (unit_bytes u ++ rest) ≡ Some (u, length (unit_bytes u))
unfolding front
front_back u rest hi = go (ltb 0 u && ltb u 128) refl (ltb u 2048) refl
  where
    go : (s : Bool) → (ltb 0 u && ltb u 128) ≡ s → (t : Bool) → ltb u 2048 ≡ t → front (unit_bytes u ++ rest) ≡ Some (u, length (unit_bytes u))
    go true p t q = let same : unit_bytes u ≡ u ∷ [] = rw p refl in rw same (rw p refl)
    go false p true q =
        let same = two_bytes u (ltb-true _ _ q) p in
        let e : (eqb u 0 || leb 128 u) ≡ true = not_one u p in
        rw same (two_front u rest (ltb-true _ _ q) e)
    go false p false q = let same = three_bytes u (ltb-false _ _ q) in rw same (three_front u rest (ltb-false _ _ q) hi)

pub front_none : (bs : List ℕ) → front bs ≡ None → NoFront bs
front_none bs e u rest hi is = let t : front bs ≡ Some (u, length (unit_bytes u)) = ap front is ∙ front_back u rest hi in let h : some (u, length (unit_bytes u)) ≡ None = sym t ∙ e in absurd cc

-- ---- decoding, unit by unit

push_units : (us : List ℕ) (u : ℕ) → AreUnits us → u < 65536 → AreUnits (us ++ u ∷ [])
push_units [] u h lt = (lt, tt)
push_units (v ∷ us) u h lt = (h.0, push_units us u h.1 lt)

utf_push : (us : List ℕ) (u : ℕ) → utf (us ++ u ∷ []) ≡ utf us ++ unit_bytes u
utf_push us u = flat_map-append unit_bytes us (u ∷ []) ∙ ap (λ bs. utf us ++ bs) (append-nil (unit_bytes u))

-- one more unit was found
pub one_more : (bytes us us2 : List ℕ) (i u n : ℕ) → i ≤ length bytes → bytes ≡ utf us ++ drop i bytes → i ≡ length (utf us) → AreUnits us → front (drop i bytes) ≡ Some (u, n) → n ≤ length (drop i bytes) → us2 ≡ us ++ u ∷ []
    → (i + n ≤ length bytes) × (bytes ≡ utf us2 ++ drop (i + n) bytes) × (i + n ≡ length (utf us2)) × AreUnits us2
one_more bytes us us2 i u n within is at ok found room grown =
    let f = front_sound (drop i bytes) (u, n) found in
    let rest : drop n (drop i bytes) ≡ drop (i + n) bytes = drop-drop n i bytes in
    let all : bytes ≡ utf (us ++ u ∷ []) ++ drop (i + n) bytes = is ∙ ap (λ bs. utf us ++ bs) f.1 ∙ sym (append_assoc (utf us) (unit_bytes u) (drop n (drop i bytes))) ∙ ap (λ bs. bs ++ drop n (drop i bytes)) (sym (utf_push us u)) ∙ ap (λ bs. utf (us ++ u ∷ []) ++ bs) rest in
    let inside : i + n ≤ length bytes = omega (arith, within, room, length-drop i bytes) in
    let len : i + n ≡ length (utf (us ++ u ∷ [])) = omega (arith, ap length all, length-append (utf (us ++ u ∷ [])) (drop (i + n) bytes), length-drop (i + n) bytes, inside) in
    (inside, all ∙ ap (λ (us : List ℕ). utf us ++ drop (i + n) bytes) (sym grown), rw grown len, rw grown (push_units us u ok f.0))

pub no_more : (bytes us : List ℕ) (i : ℕ) → i < length bytes → bytes ≡ utf us ++ drop i bytes → i ≡ length (utf us) → AreUnits us → front (drop i bytes) ≡ None → IsBad bytes i
no_more bytes us i lt is at ok none = (us, drop i bytes, is, ok, (λ e. let z : length (drop i bytes) ≡ 0 = ap length e in absurd (omega (arith, z, length-drop i bytes))), front_none (drop i bytes) none, at)

-- ---- bytes have one reading

front_nothing : (x : ℕ × ℕ) → front [] ≡ Some x → ⊥
unfolding front
front_nothing x e = absurd (let h : some x ≡ None = sym e in cc)

nothing_is_unit : NoFront []
nothing_is_unit u rest hi e = front_nothing (u, length (unit_bytes u)) (ap front e ∙ front_back u rest hi)

pub one_reading : (us vs r q : List ℕ) → AreUnits us → AreUnits vs → utf us ++ r ≡ utf vs ++ q → NoFront r → NoFront q → (us ≡ vs) × (r ≡ q)
one_reading [] [] r q a b e f g = (refl, e)
one_reading [] (v ∷ vs) r q a b e f g = absurd (f v (utf vs ++ q) b.0 (e ∙ append_assoc (unit_bytes v) (utf vs) q))
one_reading (u ∷ us) [] r q a b e f g = absurd (g u (utf us ++ r) a.0 (sym e ∙ append_assoc (unit_bytes u) (utf us) r))
one_reading (u ∷ us) (v ∷ vs) r q a b e f g =
    let all : unit_bytes u ++ (utf us ++ r) ≡ unit_bytes v ++ (utf vs ++ q) = sym (append_assoc (unit_bytes u) (utf us) r) ∙ e ∙ append_assoc (unit_bytes v) (utf vs) q in
    let found : some (u, length (unit_bytes u)) ≡ some (v, length (unit_bytes v)) = sym (front_back u (utf us ++ r) a.0) ∙ ap front all ∙ front_back v (utf vs ++ q) b.0 in
    let both = some_is (u, length (unit_bytes u)) (v, length (unit_bytes v)) found in
    let same : u ≡ v = ap (λ (x : ℕ × ℕ). x.0) both in
    let len : length (unit_bytes u) ≡ length (unit_bytes v) = ap (λ u. length (unit_bytes u)) same in
    let rest : utf us ++ r ≡ utf vs ++ q = sym (drop_at (unit_bytes u) (utf us ++ r) (length (unit_bytes u)) refl) ∙ ap (drop (length (unit_bytes u))) all ∙ drop_at (unit_bytes v) (utf vs ++ q) (length (unit_bytes u)) (sym len) in
    let later = one_reading us vs r q a.1 b.1 rest f g in
    (ap (λ u. u ∷ us) same ∙ ap (λ us. v ∷ us) later.0, later.1)

-- bytes that spell units are no bad ones
pub not_both : (units bytes : List ℕ) (at : ℕ) → AreOf units bytes → IsBad bytes at → ⊥
not_both units bytes at h b =
    let e : utf units ++ [] ≡ utf b.0 ++ b.1 = append-nil (utf units) ∙ sym h.1 ∙ b.2 in
    let s = one_reading units b.0 [] b.1 h.0 b.3 e nothing_is_unit b.5 in
    b.4 (sym s.1)

pub one_place : (bytes : List ℕ) (at at2 : ℕ) → IsBad bytes at → IsBad bytes at2 → at ≡ at2
one_place bytes at at2 a b = let s = one_reading a.0 b.0 a.1 b.1 a.3 b.3 (sym a.2 ∙ b.2) a.5 b.5 in a.6 ∙ ap (λ us. length (utf us)) s.0 ∙ sym b.6

pub whole_rest : (bytes : List ℕ) (i : ℕ) → take (length bytes - i) (drop i bytes) ≡ drop i bytes
whole_rest bytes i = grind (arith, common_steps)

pub unit_some : (u : ℕ) → 0 < length (unit_bytes u)
unit_some u = go (ltb 0 u && ltb u 128) refl (ltb u 2048) refl
  where
    go : (s : Bool) → (ltb 0 u && ltb u 128) ≡ s → (t : Bool) → ltb u 2048 ≡ t → 0 < length (unit_bytes u)
    go true p t q = rw p (omega arith)
    go false p true q = rw (p, q) (omega arith)
    go false p false q = rw (p, q) (omega arith)

pub one_units : (bytes us vs : List ℕ) → AreOf us bytes → AreOf vs bytes → us ≡ vs
one_units bytes us vs a b =
    let e : utf us ++ [] ≡ utf vs ++ [] = append-nil (utf us) ∙ sym a.1 ∙ b.1 ∙ sym (append-nil (utf vs)) in
    let s = one_reading us vs [] [] a.0 b.0 e nothing_is_unit nothing_is_unit in s.0
