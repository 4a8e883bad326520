-- What is kept of a history that is stored, and of one that exists in proofs alone.
use Rattle.std.specs.Prelude.{◌≡◌, ◌≤◌, ℕ, true, false}
use Rattle.history.specs.declared.asks.SpaceConfig.{SpaceConfig}
use Rattle.event_log.specs.Log.{EventRecord}
use Rattle.space.specs.Withdrawals.{WithdrawalTable}

-- The events are stored where the configuration says so. Of the withdrawals only those are kept that were not told as gone, so many being told; where
-- the events are stored, all are kept.
pub record IsStoredAs (config : SpaceConfig) (events : EventRecord) (withdrawn : WithdrawalTable) (reported : ℕ) : Type 0 where
  pub stored_is : events.stored ≡ config.stored
  pub told_are : withdrawn.told ≤ reported
  pub all_kept : config.stored ≡ true → withdrawn.told ≡ 0
  pub untold_kept : config.stored ≡ false → withdrawn.told ≡ reported
