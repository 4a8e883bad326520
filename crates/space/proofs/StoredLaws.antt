-- What is stored and what is not, after a turn.
use Rattle.std.proofs.Common.{◌≡◌, ℕ, ◌≤◌, length, refl, sym, ◌∙◌, arith}
use Rattle.std.specs.Prelude.{Bool, true, false, if◌then◌else◌}
use Rattle.history.specs.declared.asks.SpaceConfig.{SpaceConfig}
use Rattle.history.specs.declared.asks.Ask.{Ask}
use Rattle.history.specs.Replies.{is_abandon}
use Rattle.event_log.specs.Log.{EventRecord}
use Rattle.space.specs.Acts.{reported_after}
use Rattle.space.specs.Stored.{IsStoredAs}
use Rattle.space.specs.Withdrawals.{WithdrawalTable}

-- Where nothing more is forgotten.
pub stored-kept : {config : SpaceConfig} {events events' : EventRecord} {withdrawn withdrawn' : WithdrawalTable} {reported : ℕ} → IsStoredAs config events withdrawn reported →
    events'.stored ≡ events.stored → withdrawn'.told ≡ withdrawn.told → IsStoredAs config events' withdrawn' reported
stored-kept s e t = record {
  stored_is = e ∙ s.stored_is;
  told_are = (let told = s.told_are in omega (arith, t, told));
  all_kept = λ c. t ∙ s.all_kept c;
  untold_kept = λ c. t ∙ s.untold_kept c;
}

-- Where what an ask told is forgotten, unless all is kept.
pub stored-told : {config : SpaceConfig} {events : EventRecord} {withdrawn withdrawn' : WithdrawalTable} {reported reported' : ℕ} (ask : Ask) → IsStoredAs config events withdrawn reported →
    reported' ≡ reported_after reported (length withdrawn'.items) ask →
    (config.stored ≡ true → withdrawn'.told ≡ withdrawn.told) → (is_abandon ask ≡ true → withdrawn'.told ≡ withdrawn.told) →
    (config.stored ≡ false → is_abandon ask ≡ false → withdrawn'.told ≡ length withdrawn'.items) → IsStoredAs config events withdrawn' reported'
stored-told {config} {events} {withdrawn} {withdrawn'} {reported} {reported'} ask s is kept abandoned told = record {
  stored_is = s.stored_is;
  told_are = within config.stored refl;
  all_kept = λ c. kept c ∙ s.all_kept c;
  untold_kept = λ c. untold c;
}
  where
    go : (b : Bool) → config.stored ≡ false → (b ≡ true → withdrawn'.told ≡ withdrawn.told) → (b ≡ false → withdrawn'.told ≡ length withdrawn'.items) →
        withdrawn'.told ≡ (if b then reported else length withdrawn'.items)
    go true c same all = same refl ∙ s.untold_kept c
    go false c same all = all refl

    untold : config.stored ≡ false → withdrawn'.told ≡ reported'
    untold c = go (is_abandon ask) c abandoned (told c) ∙ sym is

    within : (b : Bool) → config.stored ≡ b → withdrawn'.told ≤ reported'
    within true c = let none = kept c ∙ s.all_kept c in omega (arith, none)
    within false c = let same = untold c in omega (arith, same)
