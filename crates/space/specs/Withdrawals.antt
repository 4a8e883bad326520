-- What contracts see of the withdrawals.
use Rattle.std.specs.Prelude.{ℕ, List, [], ◌∷◌}
use Rattle.object_ids.specs.declared.ids.ObjId.{ObjId}
use Rattle.history.specs.declared.places.Withdrawal.{Withdrawal}

-- The withdrawals, in their order, for how many in all there is room, and how many of the first were told as gone and are kept no longer.
pub record WithdrawalTable : Type 0 where
  pub items : List Withdrawal
  pub room : ℕ
  pub told : ℕ

-- The withdrawals of these objects at these places.
abbrev pub paired_withdrawals : List ObjId → List ℕ → List Withdrawal
paired_withdrawals [] places = []
paired_withdrawals (o ∷ objects) [] = []
paired_withdrawals (o ∷ objects) (p ∷ places) = record { object = o; place = p } ∷ paired_withdrawals objects places
