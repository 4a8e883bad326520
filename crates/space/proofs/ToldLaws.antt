-- Withdrawals that are kept no longer, with one batch more.
use Rattle.std.proofs.Common.{◌≡◌, ℕ, ◌+◌, List, [], ◌∷◌, ◌++◌, length, ap, ◌∙◌, arith, append-nil, length-append}
use Rattle.std.specs.Prelude.{Vec, flat_map}
use Rattle.std.proofs.lemmas.List.Concat.{flat_map-append}
use Rattle.object_ids.specs.declared.ids.ObjId.{ObjId}
use Rattle.space.specs.ToldBatches.{batch_withdrawals}
use Rattle.space.proofs.WithdrawalLaws.{paired-length}

pub told_more : {Y Z : Type 0} (batches : List (Vec ObjId Y × Vec ℕ Z)) (b : Vec ObjId Y × Vec ℕ Z) → flat_map batch_withdrawals (batches ++ b ∷ []) ≡ flat_map batch_withdrawals batches ++ batch_withdrawals b
told_more batches b = flat_map-append batch_withdrawals batches (b ∷ []) ∙ ap (λ l. flat_map batch_withdrawals batches ++ l) (append-nil (batch_withdrawals b))

pub told_length : {Y Z : Type 0} (batches : List (Vec ObjId Y × Vec ℕ Z)) (b : Vec ObjId Y × Vec ℕ Z) → length b.0.items ≡ length b.1.items →
    length (flat_map batch_withdrawals (batches ++ b ∷ [])) ≡ length (flat_map batch_withdrawals batches) + length b.0.items
told_length batches b even =
    let all = ap length (told_more batches b) in let sum = length-append (flat_map batch_withdrawals batches) (batch_withdrawals b) in
    let long = paired-length b.0.items b.1.items even in omega (arith, all, sum, long)
