-- Where bytes of a block are left.
use Rattle.std.proofs.Common.{◌≡◌, ◌≢◌, inl, inr, ℕ, zero, suc, ◌<◌, false, List, [], ◌∷◌, ◌++◌, length, Result, Ok, Err, refl, ap, ◌∙◌, arith, eqb}
use Rattle.std.proofs.lemmas.Bool.{eqb-true, eqb-false}
use Rattle.class_desc.specs.declared.slot.Item.TheVariants as items
use Rattle.stream_grammar.specs.Reading.{Fault, Progress}
use Rattle.stream_grammar.proofs.PlainSound.{AreBytes, chosen}
use Rattle.ser_read.specs.declared.block.Head.{Head}
use Rattle.ser_read.specs.declared.block.Head.TheVariants.{Block, Code}
use Rattle.ser_read.specs.Heads.{is_empty, head_at}
use Rattle.ser_read.specs.Wants.{block_left, lift_fault, Stand, only_slot, reference_at, slot_next}
use Rattle.ser_read.specs.WantLaws.{BeginsBlock, LeavesBlock}
use Rattle.ser_read.proofs.Heads.{head_full}
use Rattle.ser_read.proofs.Empties.{found}
use Rattle.ser_read.proofs.Heading.{header_is}
use Rattle.ser_read.proofs.Missing.{lifted_err, want_err, empties_are}

some_left : (k : ℕ) → k ≢ 0 → 0 < k
some_left zero no_zero = absurd (no_zero refl)
some_left (suc k) no_zero = omega arith

full : (k : ℕ) → is_empty (Block k) ≡ false → 0 < k
full zero e = absurd cc
full (suc k) e = omega arith

lifted_inside : {A : Type 0} (r : Result A Fault) (at : ℕ) → lift_fault r ≢ Err (block_left at)
lifted_inside (Ok x) at = λ e. cc
lifted_inside (Err d) at = λ e. cc

-- A block begins behind empty ones.
begins : (end at : ℕ) (now : Progress) (bytes : List ℕ) (h : Head × List ℕ) → AreBytes bytes → head_at end bytes ≡ Ok h → only_slot end now h ≡ Err (block_left at) → BeginsBlock end at bytes
begins end at now bytes (Code code p, rest) whole is e = absurd (lifted_inside _ at e)
begins end at now bytes (Block k, rest) whole is e =
    let f = found end (suc (length bytes)) bytes (Block k, rest) is whole in
    let blocks = empties_are f.count bytes f.mid f.empties in
    let header = header_is k f.mid rest f.is in
    record {
      count = f.count;
      blocks = blocks.0;
      are_empty = blocks.1;
      n = k;
      some = full k (head_full end (suc (length bytes)) bytes (Block k, rest) is);
      header = header.0;
      head = header.1;
      rest = rest;
      bytes_are = blocks.2 ∙ ap (λ xs. blocks.0 ++ xs) header.2;
      at_is = let same = e in cc;
    }

pub leaves_block : (end : ℕ) (s : Stand) (at : ℕ) (bytes : List ℕ) → AreBytes bytes → slot_next end s bytes ≡ Err (block_left at) → LeavesBlock end s.block at bytes
unfolding slot_next reference_at
leaves_block end s at bytes whole e = elim (chosen (eqb s.block 0) _ _ _ e) [
  | inl p ↦ (
      let read = want_err (reference_at end s.progress bytes) (λ x. (x.0, record { progress = x.1; items = s.items ++ items.Ref x.0 ∷ []; block = 0 }, x.2)) (block_left at) p.1 in
      let h = lifted_err (head_at end bytes) (only_slot end s.progress) (block_left at) (λ d same. cc) read in
      inr (eqb-true s.block 0 p.0, begins end at s.progress bytes h.0 whole h.1 h.2))
  | inr p ↦ inl (some_left s.block (eqb-false s.block 0 p.0), (let same = p.1 in cc))
]
