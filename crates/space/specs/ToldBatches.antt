-- Withdrawals that exist in proofs alone.
use Rattle.std.specs.Prelude.{ℕ, List, Vec}
use Rattle.object_ids.specs.declared.ids.ObjId.{ObjId}
use Rattle.history.specs.declared.places.Withdrawal.{Withdrawal}
use Rattle.space.specs.Withdrawals.{paired_withdrawals}

-- Those of a batch, which are told by their objects and their places.
abbrev pub batch_withdrawals : {Y Z : Type 0} → Vec ObjId Y × Vec ℕ Z → List Withdrawal
batch_withdrawals b = paired_withdrawals b.0.items b.1.items
