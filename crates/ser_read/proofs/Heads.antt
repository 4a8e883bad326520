-- Heads of blocks, empty ones passed over.
use Rattle.std.proofs.Common.{◌≡◌, ℕ, zero, suc, ◌+◌, ◌-◌, ◌^◌, ◌≤◌, ◌<◌, Bool, true, false, cond, eqb, if◌then◌else◌, nat_eq, List, [], ◌∷◌, ◌++◌, length, length-append, length-drop, Result, Ok, Err, refl, sym, ap, subst, ◌∙◌, arith, inl, inr}
use Rattle.std.proofs.lemmas.Bool.{cases_lt}
use Rattle.std.proofs.Math.Path.{fun_ext}
use Rattle.std.specs.Int.{Width, w32, byte_len}
use Rattle.stream_grammar.specs.Reading.{short, ◌>>=◌, Fault, Plain, bad, bad_magic, byte_at, take_at, number_at, size_at, magic_at}
use Rattle.stream_grammar.proofs.PlainSound.{bind_ok, chosen, passed, ok_is, byte_sound}
use Rattle.ser_read.specs.declared.block.Head.{Head}
use Rattle.wire_io.specs.Pulled.{PullState}
use Rattle.ser_read.specs.declared.block.Head.TheVariants.{Block}
use Rattle.ser_read.specs.Here.{Reads}
use Rattle.ser_read.specs.Heads.{one_head, any_head, is_empty, head_within, head_at}
use Rattle.ser_read.proofs.Bytes.{takes_all, takes_short}

abbrev Found : Type 0
Found = Plain Head

abbrev chosen_head : ℕ → ℕ → Head × List ℕ → Found
chosen_head end most h = cond (is_empty h.0) (head_within end most h.1) (Ok h)

pub any_here : (end : ℕ) (bs : List ℕ) (at : ℕ) → end ≡ at + length bs → any_head end bs ≡ (byte_at bs >>= λ c. one_head end c.0 at c.1)
unfolding any_head
any_here end bs at e = let h : end - length bs ≡ at = omega arith in ap (λ a. byte_at bs >>= λ c. one_head end c.0 a c.1) h

-- ---- what is read is shorter

byte_less : (bs : List ℕ) (y : ℕ × List ℕ) → byte_at bs ≡ Ok y → length y.1 < length bs
byte_less bs y e = let h : length bs ≡ length (y.0 ∷ y.1) = ap (λ (l : List ℕ). length l) (byte_sound bs y e) in omega (arith, h)

take_less : (n : ℕ) (bs : List ℕ) (y : List ℕ × List ℕ) → take_at n bs ≡ Ok y → length y.1 ≤ length bs
take_less n bs y e = elim (cases_lt (length bs) n) [
  | inl lt ↦ absurd (let s = takes_short n bs lt in cc)
  | inr le ↦ (let s = ok_is _ y (sym (takes_all n bs le) ∙ e) in subst (λ (y : List ℕ × List ℕ). length y.1 ≤ length bs) s (omega (arith, length-drop n bs)))
]

number_less : (w : Width) (bs : List ℕ) (y : ℕ × List ℕ) → number_at w bs ≡ Ok y → length y.1 ≤ length bs
number_less w bs y e =
    let a = bind_ok (take_at (byte_len w) bs) _ y e in
    subst (λ (y : ℕ × List ℕ). length y.1 ≤ length bs) (ok_is _ y a.2) (take_less (byte_len w) bs a.0 a.1)

size_less : (end : ℕ) (w : Width) (bound : ℕ) (bs : List ℕ) (y : ℕ × List ℕ) → size_at end w bound bs ≡ Ok y → length y.1 ≤ length bs
unfolding size_at
size_less end w bound bs y e =
    let a = bind_ok (number_at w bs) _ y e in
    let b = passed _ (Ok a.0) _ y a.2 in
    subst (λ (y : ℕ × List ℕ). length y.1 ≤ length bs) (ok_is a.0 y b.1) (number_less w bs a.0 a.1)

one_less : (end code at : ℕ) (bs : List ℕ) (y : Head × List ℕ) → one_head end code at bs ≡ Ok y → length y.1 ≤ length bs
unfolding one_head
one_less end code at bs y e = elim (chosen (eqb code 0x77) _ _ _ e) [
  | inl p ↦ (let a = bind_ok (byte_at bs) _ y p.1 in
      let less = byte_less bs a.0 a.1 in
      subst (λ (y : Head × List ℕ). length y.1 ≤ length bs) (ok_is _ y a.2) (omega (arith, less)))
  | inr p ↦ elim (chosen (eqb code 0x7A) _ _ _ p.1) [
    | inl q ↦ (let a = bind_ok (size_at end w32 (2 ^ 31) bs) _ y q.1 in
        subst (λ (y : Head × List ℕ). length y.1 ≤ length bs) (ok_is _ y a.2) (size_less end w32 (2 ^ 31) bs a.0 a.1))
    | inr q ↦ subst (λ (y : Head × List ℕ). length y.1 ≤ length bs) (ok_is _ y q.1) (omega arith)
  ]
]

pub any_less : (end : ℕ) (bs : List ℕ) (y : Head × List ℕ) → any_head end bs ≡ Ok y → length y.1 < length bs
unfolding any_head
any_less end bs y e =
    let a = bind_ok (byte_at bs) _ y e in
    omega (arith, byte_less bs a.0 a.1, one_less end a.0.0 _ a.0.1 y a.2)

-- ---- how many empty blocks there may be does not matter, once there may be as many as bytes

same_head : (end f g : ℕ) (bs : List ℕ) → length bs < f → length bs < g → head_within end f bs ≡ head_within end g bs
unfolding head_within
same_head end zero g bs lf lg = absurd (omega arith)
same_head end (suc f) zero bs lf lg = absurd (omega arith)
same_head end (suc f) (suc g) bs lf lg = go (λ bs lf lg. same_head end f g bs lf lg) (any_head end bs) refl
  where
    go : ((bs : List ℕ) → length bs < f → length bs < g → head_within end f bs ≡ head_within end g bs) → (r : Found) → any_head end bs ≡ r → (r >>= chosen_head end f) ≡ (r >>= chosen_head end g)
    go rec (Err e) is = refl
    go rec (Ok h) is =
        let less : length h.1 < length bs = any_less end bs h is in
        ap (λ (r : Found). cond (is_empty h.0) r (Ok h)) (rec h.1 (omega arith) (omega arith))

-- from the first one on
pub heads_from : (end : ℕ) (bs : List ℕ) → head_at end bs ≡ (any_head end bs >>= λ h. cond (is_empty h.0) (head_at end h.1) (Ok h))
unfolding head_within
heads_from end bs = go (any_head end bs) refl
  where
    go : (r : Found) → any_head end bs ≡ r → (r >>= chosen_head end (length bs)) ≡ (r >>= λ h. cond (is_empty h.0) (head_at end h.1) (Ok h))
    go (Err e) is = refl
    go (Ok h) is =
        let less : length h.1 < length bs = any_less end bs h is in
        let same : head_within end (length bs) h.1 ≡ head_at end h.1 = same_head end (length bs) (suc (length h.1)) h.1 (omega arith) (omega arith) in
        ap (λ (r : Found). cond (is_empty h.0) r (Ok h)) same

pub head_goes : (end : ℕ) (bs : List ℕ) (h : Head) (rest : List ℕ) → any_head end bs ≡ Ok (h, rest) → is_empty h ≡ true → head_at end bs ≡ head_at end rest
head_goes end bs h rest o empty = heads_from end bs ∙ rw o (rw empty refl)

pub head_stops : (end : ℕ) (bs : List ℕ) (h : Head) (rest : List ℕ) → any_head end bs ≡ Ok (h, rest) → is_empty h ≡ false → head_at end bs ≡ Ok (h, rest)
head_stops end bs h rest o full = heads_from end bs ∙ rw o (rw full refl)

pub head_err : (end : ℕ) (bs : List ℕ) (f : Fault) → any_head end bs ≡ Err f → head_at end bs ≡ Err f
head_err end bs f h = heads_from end bs ∙ rw h refl

-- a head takes a byte at least
pub head_nearer : {p q : PullState} {h : Head} → Reads short p q any_head (λ rest. (h, rest)) → q.at ≤ q.stop → q.stop - q.at < p.stop - p.at
head_nearer {p} {q} {h} r le =
    let some = any_less (q.at + 0) (r.taken ++ []) (h, []) (r.is []) in
    omega (arith, some, length-append r.taken [], r.takes.at, r.takes.stop)

pub head_block : (end code at : ℕ) (bs : List ℕ) → code ≡ 0x77 → one_head end code at bs ≡ (byte_at bs >>= λ n. Ok (Block n.0, n.1))
unfolding one_head
head_block end code at bs h = rw h refl

pub head_long : (end code at : ℕ) (bs : List ℕ) → code ≡ 0x7A → one_head end code at bs ≡ (size_at end w32 (2 ^ 31) bs >>= λ n. Ok (Block n.0, n.1))
unfolding one_head
head_long end code at bs h = rw h refl

-- what is found is no empty block
pub head_full : (end most : ℕ) (bs : List ℕ) (h : Head × List ℕ) → head_within end most bs ≡ Ok h → is_empty h.0 ≡ false
unfolding head_within
head_full end zero bs h e = absurd cc
head_full end (suc most) bs h e =
    let a = bind_ok (any_head end bs) _ h e in
    elim (chosen (is_empty a.0.0) _ _ _ a.2) [
      | inl p ↦ head_full end most a.0.1 h p.1
      | inr p ↦ subst (λ (h : Head × List ℕ). is_empty h.0 ≡ false) (ok_is a.0 h p.1) p.0
    ]

-- ---- the magic number, byte by byte

magic_cons : (end w : ℕ) (ws bs : List ℕ) → magic_at end (w ∷ ws) bs ≡ (magic_at end (w ∷ []) bs >>= λ rest. magic_at end ws rest)
unfolding magic_at
magic_cons end w ws [] = refl
magic_cons end w ws (b ∷ bs) = go (eqb b w)
  where
    go : (same : Bool) → cond same (magic_at end ws bs) (Err (bad bad_magic (end - length (b ∷ bs)))) ≡ (cond same (Ok bs) (Err (bad bad_magic (end - length (b ∷ bs)))) >>= λ rest. magic_at end ws rest)
    go true = refl
    go false = refl

pub magic_four : (end : ℕ) (bs : List ℕ) → magic_at end (0xAC ∷ 0xED ∷ 0x00 ∷ 0x05 ∷ []) bs
    ≡ (magic_at end (0xAC ∷ []) bs >>= λ a. magic_at end (0xED ∷ []) a >>= λ b. magic_at end (0x00 ∷ []) b >>= λ c. magic_at end (0x05 ∷ []) c)
magic_four end bs = magic_cons end 0xAC (0xED ∷ 0x00 ∷ 0x05 ∷ []) bs ∙ ap (λ (f : List ℕ → Result (List ℕ) Fault). magic_at end (0xAC ∷ []) bs >>= f) (fun_ext (λ a.
    magic_cons end 0xED (0x00 ∷ 0x05 ∷ []) a ∙ ap (λ (f : List ℕ → Result (List ℕ) Fault). magic_at end (0xED ∷ []) a >>= f) (fun_ext (λ b. magic_cons end 0x00 (0x05 ∷ []) b))))

pub magic_here : (end w at : ℕ) (bs : List ℕ) → end ≡ at + length bs → magic_at end (w ∷ []) bs ≡ (byte_at bs >>= λ b. if nat_eq b.0 w then Ok b.1 else Err (bad bad_magic at))
unfolding magic_at
magic_here end w at bs e = let h : end - length bs ≡ at = omega arith in ap (λ a. byte_at bs >>= λ b. if nat_eq b.0 w then Ok b.1 else Err (bad bad_magic a)) h
