-- A description's bytes between its name and its fields, at once and one after the other.
use Rattle.std.proofs.Common.{◌≡◌, ℕ, ◌+◌, ◌-◌, ◌<◌, nat_lt, cond, Bool, true, false, List, [], ◌∷◌, ◌++◌, length, take, drop, get_or, Result, Ok, Err, inl, inr, refl, sym, ◌∙◌, arith, length-drop}
use Rattle.std.proofs.lemmas.Bool.{cases_lt}
use Rattle.std.specs.Int.{w16, w64, from_be_bytes}
use Rattle.class_desc.specs.declared.slot.Slot.TheVariants as slots
use Rattle.ser_values.specs.declared.node.Node.TheVariants as nodes
use Rattle.stream_grammar.specs.Reading.{◌>>=◌, Fault, short, bad, negative_length, Plain, Progress, Slots, push, fill, blank, byte_at, take_at, number_at, size_at, short_at, desc_at, desc_after}
use Rattle.ser_read.specs.declared.front.DescFront.{DescFront}
use Rattle.ser_read.specs.Fronts.{front_at, desc_behind}
use Rattle.ser_read.proofs.Bytes.{takes_all, takes_short}

abbrev pub front_of : ℕ → ℕ → ℕ → DescFront
front_of suid flags fields = record { suid = suid; flags = flags; fields = fields }

abbrev counted : ℕ → ℕ → ℕ × List ℕ → Plain DescFront
counted suid flags n = Ok (front_of suid flags n.0, n.1)

abbrev flagged : ℕ → ℕ → ℕ × List ℕ → Plain DescFront
flagged end suid flags = size_at end w16 32768 flags.1 >>= counted suid flags.0

abbrev numbered : ℕ → ℕ × List ℕ → Plain DescFront
numbered end suid = byte_at suid.1 >>= flagged end suid.0

-- ---- eleven bytes at once

-- the number that is the count of fields
abbrev pub count_in : List ℕ → ℕ
count_in t = from_be_bytes w16 (get_or t 9 0 ∷ get_or t 10 0 ∷ [])

-- what eleven bytes say
abbrev pub front_in : List ℕ → DescFront
front_in t = record {
  suid = from_be_bytes w64 (get_or t 0 0 ∷ get_or t 1 0 ∷ get_or t 2 0 ∷ get_or t 3 0 ∷ get_or t 4 0 ∷ get_or t 5 0 ∷ get_or t 6 0 ∷ get_or t 7 0 ∷ []);
  flags = get_or t 8 0;
  fields = count_in t;
}

-- a count that is too great stands at this position
abbrev pub judged : ℕ → List ℕ × List ℕ → Plain DescFront
judged at t = cond (nat_lt (count_in t.0) 32768) (Ok (front_in t.0, t.1)) (Err (bad negative_length at))

judged_so : (low : Bool) (suid flags n : ℕ) (rest : List ℕ) (at : ℕ) → (cond low (Ok (n, rest)) (Err (bad negative_length at)) >>= counted suid flags) ≡ cond low (Ok (front_of suid flags n, rest)) (Err (bad negative_length at))
judged_so true suid flags n rest at = refl
judged_so false suid flags n rest at = refl

front_short : (end : ℕ) (bs : List ℕ) → length bs < 11 → front_at end bs ≡ Err short
unfolding front_at size_at
front_short end bs few = elim (cases_lt (length bs) 8) [
  | inl lt ↦ rw (takes_short 8 bs lt) refl
  | inr le ↦ rw (takes_all 8 bs le) (go (from_be_bytes w64 (take 8 bs)) (drop 8 bs) (omega (arith, length-drop 8 bs)))
]
  where
    go : (suid : ℕ) (r : List ℕ) → length r < 3 → (byte_at r >>= flagged end suid) ≡ Err short
    go suid [] lt = refl
    go suid (b ∷ r) lt = rw (takes_short 2 r (omega arith)) refl

few : (end at : ℕ) (bs : List ℕ) → length bs < 11 → front_at end bs ≡ (take_at 11 bs >>= judged at)
few end at bs lt = front_short end bs lt ∙ sym (rw (takes_short 11 bs lt) refl)

-- Which bytes are told one after the other, is what eleven at once say.
pub front_is : (end at : ℕ) (bs : List ℕ) → end ≡ at + length bs → front_at end bs ≡ (take_at 11 bs >>= judged (at + 9))
unfolding front_at size_at
front_is end at [] here = few end (at + 9) [] (omega arith)
front_is end at (a ∷ []) here = few end (at + 9) (a ∷ []) (omega arith)
front_is end at (a ∷ b ∷ []) here = few end (at + 9) (a ∷ b ∷ []) (omega arith)
front_is end at (a ∷ b ∷ c ∷ []) here = few end (at + 9) (a ∷ b ∷ c ∷ []) (omega arith)
front_is end at (a ∷ b ∷ c ∷ d ∷ []) here = few end (at + 9) (a ∷ b ∷ c ∷ d ∷ []) (omega arith)
front_is end at (a ∷ b ∷ c ∷ d ∷ e ∷ []) here = few end (at + 9) (a ∷ b ∷ c ∷ d ∷ e ∷ []) (omega arith)
front_is end at (a ∷ b ∷ c ∷ d ∷ e ∷ f ∷ []) here = few end (at + 9) (a ∷ b ∷ c ∷ d ∷ e ∷ f ∷ []) (omega arith)
front_is end at (a ∷ b ∷ c ∷ d ∷ e ∷ f ∷ g ∷ []) here = few end (at + 9) (a ∷ b ∷ c ∷ d ∷ e ∷ f ∷ g ∷ []) (omega arith)
front_is end at (a ∷ b ∷ c ∷ d ∷ e ∷ f ∷ g ∷ h ∷ []) here = few end (at + 9) (a ∷ b ∷ c ∷ d ∷ e ∷ f ∷ g ∷ h ∷ []) (omega arith)
front_is end at (a ∷ b ∷ c ∷ d ∷ e ∷ f ∷ g ∷ h ∷ x ∷ []) here = few end (at + 9) (a ∷ b ∷ c ∷ d ∷ e ∷ f ∷ g ∷ h ∷ x ∷ []) (omega arith)
front_is end at (a ∷ b ∷ c ∷ d ∷ e ∷ f ∷ g ∷ h ∷ x ∷ i ∷ []) here = few end (at + 9) (a ∷ b ∷ c ∷ d ∷ e ∷ f ∷ g ∷ h ∷ x ∷ i ∷ []) (omega arith)
front_is end at (a ∷ b ∷ c ∷ d ∷ e ∷ f ∷ g ∷ h ∷ x ∷ i ∷ j ∷ rest) here =
    let one : take_at 8 (a ∷ b ∷ c ∷ d ∷ e ∷ f ∷ g ∷ h ∷ x ∷ i ∷ j ∷ rest) ≡ Ok (a ∷ b ∷ c ∷ d ∷ e ∷ f ∷ g ∷ h ∷ [], x ∷ i ∷ j ∷ rest) = takes_all 8 (a ∷ b ∷ c ∷ d ∷ e ∷ f ∷ g ∷ h ∷ x ∷ i ∷ j ∷ rest) (omega arith) in
    let two : take_at 2 (i ∷ j ∷ rest) ≡ Ok (i ∷ j ∷ [], rest) = takes_all 2 (i ∷ j ∷ rest) (omega arith) in
    let all : take_at 11 (a ∷ b ∷ c ∷ d ∷ e ∷ f ∷ g ∷ h ∷ x ∷ i ∷ j ∷ rest) ≡ Ok (a ∷ b ∷ c ∷ d ∷ e ∷ f ∷ g ∷ h ∷ x ∷ i ∷ j ∷ [], rest) = takes_all 11 (a ∷ b ∷ c ∷ d ∷ e ∷ f ∷ g ∷ h ∷ x ∷ i ∷ j ∷ rest) (omega arith) in
    let place : end - length (i ∷ j ∷ rest) ≡ at + 9 = omega (arith, here) in
    rw (one, two, all, place) (judged_so (nat_lt (from_be_bytes w16 (i ∷ j ∷ [])) 32768) (from_be_bytes w64 (a ∷ b ∷ c ∷ d ∷ e ∷ f ∷ g ∷ h ∷ [])) x (from_be_bytes w16 (i ∷ j ∷ [])) rest (at + 9))

-- ---- a description in two steps

size_two : {Y Z : Type 0} (suid flags : ℕ) (k : DescFront → List ℕ → Result Y Fault) (tail : Y → Result Z Fault) (r : Plain ℕ)
    → ((r >>= λ n. k (front_of suid flags n.0) n.1) >>= tail) ≡ ((r >>= counted suid flags) >>= λ f. k f.0 f.1 >>= tail)
size_two suid flags k tail (Ok n) = refl
size_two suid flags k tail (Err e) = refl

flags_two : {Y Z : Type 0} (end suid : ℕ) (k : DescFront → List ℕ → Result Y Fault) (tail : Y → Result Z Fault) (r : Plain ℕ)
    → (r >>= λ flags. (size_at end w16 32768 flags.1 >>= λ n. k (front_of suid flags.0 n.0) n.1) >>= tail)
    ≡ ((r >>= flagged end suid) >>= λ f. k f.0 f.1 >>= tail)
flags_two end suid k tail (Ok flags) = size_two suid flags.0 k tail (size_at end w16 32768 flags.1)
flags_two end suid k tail (Err e) = refl

suid_two : {Y Z : Type 0} (end : ℕ) (k : DescFront → List ℕ → Result Y Fault) (tail : Y → Result Z Fault) (r : Plain ℕ)
    → (r >>= λ suid. byte_at suid.1 >>= λ flags. (size_at end w16 32768 flags.1 >>= λ n. k (front_of suid.0 flags.0 n.0) n.1) >>= tail)
    ≡ ((r >>= numbered end) >>= λ f. k f.0 f.1 >>= tail)
suid_two end k tail (Ok suid) = flags_two end suid.0 k tail (byte_at suid.1)
suid_two end k tail (Err e) = refl

name_two : {Y Z : Type 0} (end : ℕ) (k : List ℕ → DescFront → List ℕ → Result Y Fault) (tail : Y → Result Z Fault) (r : Plain (List ℕ))
    → (r >>= λ name. number_at w64 name.1 >>= λ suid. byte_at suid.1 >>= λ flags. (size_at end w16 32768 flags.1 >>= λ n. k name.0 (front_of suid.0 flags.0 n.0) n.1) >>= tail)
    ≡ (r >>= λ name. front_at end name.1 >>= λ f. k name.0 f.0 f.1 >>= tail)
unfolding front_at
name_two end k tail (Ok name) = suid_two end (k name.0) tail (number_at w64 name.1)
name_two end k tail (Err e) = refl

-- A description is what stands before its fields, and what begins with them.
pub desc_is : (end at : ℕ) (inner : Slots) (unread : List ℕ) (now : Progress) (bs : List ℕ) → desc_at end at inner unread now bs ≡ (short_at end bs >>= λ name. front_at end name.1 >>= λ f.
    desc_behind end at inner (unread ++ length now.nodes ∷ []) name.0 f.0 (push now (nodes.Desc blank)) f.1 >>= λ d. Ok (slots.Node (length now.nodes), fill d.1 (length now.nodes) (nodes.Desc d.0), d.2))
unfolding desc_at desc_after desc_behind
desc_is end at inner unread now bs = name_two end (λ name f bs. desc_behind end at inner (unread ++ length now.nodes ∷ []) name f (push now (nodes.Desc blank)) bs) (λ d. Ok (slots.Node (length now.nodes), fill d.1 (length now.nodes) (nodes.Desc d.0), d.2)) (short_at end bs)
