-- Bytes in pieces, and descriptions from below.
use Rattle.std.proofs.Common.{◌≡◌, ℕ, zero, suc, ◌-◌, ◌<◌, ◌≤◌, Bool, List, [], ◌∷◌, ◌++◌, length, take, drop, Some, None, refl, sym, ap, ◌∙◌, append_assoc, arith, length-drop, reverse}
use Rattle.std.proofs.lemmas.List.{reverse-append, append-nil}
use Rattle.class_desc.specs.declared.slot.Slot.{Slot}
use Rattle.ser_values.specs.declared.node.Node.{Node}
use Rattle.stream_grammar.specs.Spelled.{writers}
use Rattle.ser_write.specs.Canonical.{pieces_in, pieces, block_of, blocks, writers_by}
use Rattle.ser_write.specs.declared.pieces.TheConstants.{BLOCK_BYTES}

-- more room changes nothing
more_room : (k j : ℕ) (b : List ℕ) → length b ≤ k → length b ≤ j → pieces_in k b ≡ pieces_in j b
unfolding pieces_in
more_room zero zero b h g = refl
more_room zero (suc j) [] h g = refl
more_room zero (suc j) (x ∷ b) h g = absurd (omega arith)
more_room (suc k) zero [] h g = refl
more_room (suc k) zero (x ∷ b) h g = absurd (omega arith)
more_room (suc k) (suc j) [] h g = refl
more_room (suc k) (suc j) (x ∷ b) h g =
    let d = length-drop BLOCK_BYTES (x ∷ b) in
    ap (λ (l : List (List ℕ)). take BLOCK_BYTES (x ∷ b) ∷ l) (more_room k j (drop BLOCK_BYTES (x ∷ b)) (omega arith) (omega arith))

pieces_none : (b : List ℕ) → length b ≡ 0 → pieces b ≡ []
unfolding pieces pieces_in
pieces_none [] h = refl
pieces_none (x ∷ b) h = absurd (omega arith)

pieces_next : (b : List ℕ) → 0 < length b → pieces b ≡ take BLOCK_BYTES b ∷ pieces (drop BLOCK_BYTES b)
unfolding pieces pieces_in
pieces_next [] h = absurd (omega arith)
pieces_next (x ∷ b) h =
    let d = length-drop BLOCK_BYTES (x ∷ b) in
    ap (λ (l : List (List ℕ)). take BLOCK_BYTES (x ∷ b) ∷ l) (more_room (length b) (length (drop BLOCK_BYTES (x ∷ b))) (drop BLOCK_BYTES (x ∷ b)) (omega arith) (omega arith))

-- a loop over the pieces: one more, and at last none
pub blocks_next : (out new rest piece more : List ℕ) → 0 < length rest → new ≡ out ++ block_of piece → piece ≡ take BLOCK_BYTES rest → more ≡ drop BLOCK_BYTES rest → new ++ blocks more ≡ out ++ blocks rest
blocks_next out new rest piece more some e p m =
    rw (e, p, m, pieces_next rest some) (append_assoc out (block_of (take BLOCK_BYTES rest)) (blocks (drop BLOCK_BYTES rest)))

pub blocks_none : (out rest : List ℕ) → length rest ≡ 0 → out ++ blocks rest ≡ out
blocks_none out rest none = rw (pieces_none rest none) (append-nil out)

pub blocks_less : (rest more : List ℕ) → 0 < length rest → more ≡ drop BLOCK_BYTES rest → length more < length rest
blocks_less rest more some m = let d = length-drop BLOCK_BYTES rest in rw m (omega arith)

-- ---- descriptions from below

pub up_next : (nodes : List Node) (n : ℕ) (s : Slot) (up : List Bool) (w : Bool) (parent : Slot) → 0 < n → ((m : ℕ) → writers nodes (suc m) s ≡ writers_by (writers nodes m) (Some (w, parent)))
    → writers nodes n s ++ reverse up ≡ writers nodes (n - 1) parent ++ reverse (up ++ w ∷ [])
up_next nodes n s up w parent some h =
    let e : n ≡ suc (n - 1) = omega arith in
    ap (λ m. writers nodes m s ++ reverse up) e ∙ ap (λ (l : List Bool). l ++ reverse up) (h (n - 1)) ∙ append_assoc (writers nodes (n - 1) parent) (w ∷ []) (reverse up) ∙ ap (λ (l : List Bool). writers nodes (n - 1) parent ++ l) (sym (reverse-append up (w ∷ [])))

pub up_none : (nodes : List Node) (n : ℕ) (s : Slot) → 0 < n → ((m : ℕ) → writers nodes (suc m) s ≡ writers_by (writers nodes m) None) → writers nodes n s ≡ []
up_none nodes n s some h = let e : n ≡ suc (n - 1) = omega arith in ap (λ m. writers nodes m s) e ∙ h (n - 1)

pub up_zero : (nodes : List Node) (s : Slot) → writers nodes 0 s ≡ []
unfolding writers
up_zero nodes s = refl
