-- What an ask exports.
use Rattle.std.proofs.Common.{◌≡◌, ℕ, List, [], ◌∷◌, length, refl, ap, ◌∙◌}
use Rattle.std.specs.Prelude.{Bool, true, false, if◌then◌else◌}
use Rattle.sequence.proofs.Lists.{none-either}
use Rattle.history.specs.declared.asks.SpaceConfig.{SpaceConfig}
use Rattle.history.specs.declared.asks.Event.{Event}
use Rattle.history.specs.declared.asks.Ask.{Ask}
use Rattle.history.specs.declared.asks.Ask.TheVariants.{Open, Begin, Finish, Abandon, Dirty, Clean, Ack, Bind, Rebind, Unbind, Lookup, List as ListNames, Tick}
use Rattle.history.specs.declared.places.Exported.{Exported}
use Rattle.history.specs.Places.{History, exported_from, exported_count}
use Rattle.history.specs.Table.{is_effective, exports, place_of}
use Rattle.history.proofs.NumberLaws.{length-exported_from}
use Rattle.space.specs.Acts.{opens}

-- The objects that an ask exports, the first of them as the space's k-th.
abbrev pub opened_by : SpaceConfig → ℕ → Bool → Ask → List Exported
opened_by config k effective (Open kind pinned) = exported_from config.uid k pinned (kind ∷ [])
opened_by config k effective (Finish object made listed uid) = if effective then exported_from config.uid k false made else []
opened_by config k effective _ = []

pub opened-length : (config : SpaceConfig) (k : ℕ) (effective : Bool) (a : Ask) → length (opened_by config k effective a) ≡ opens effective a
opened-length config k effective (Open kind pinned) = refl
opened-length config k true (Finish object made listed uid) = length-exported_from config.uid k false made
opened-length config k false (Finish object made listed uid) = refl
opened-length config k effective _ = refl

pub adds-are : (config : SpaceConfig) (h : History) (e : Event) → (place_of config h e).exported_here ≡ opened_by config (exported_count h) (is_effective config h e.by e.ask) e.ask
unfolding place_of is_effective exports
adds-are config h e = go e.ask
  where
    go : (a : Ask) → (place_of config h (record e { ask = a })).exported_here ≡ opened_by config (exported_count h) (is_effective config h e.by a) a
    go (Open kind pinned) = refl
    go (Dirty x y z w) = refl
    go (Clean x y z w) = refl
    go Tick = refl
    go (Begin x) = none-either _
    go (Finish x y z w) = refl
    go (Abandon x) = none-either _
    go (Ack u) = refl
    go (Bind x y) = none-either _
    go (Rebind x y) = none-either _
    go (Unbind x) = none-either _
    go (Lookup x y) = none-either _
    go ListNames = refl

-- How many they are.
pub adds-length : (config : SpaceConfig) (h : History) (e : Event) → length (place_of config h e).exported_here ≡ opens (is_effective config h e.by e.ask) e.ask
adds-length config h e = ap length (adds-are config h e) ∙ opened-length config (exported_count h) (is_effective config h e.by e.ask) e.ask
