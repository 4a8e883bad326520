-- What contracts see of a list of references that await, and what holds of its index.
use Rattle.std.specs.Prelude.{◌≡◌, ℕ, ◌≤◌, Bool, true, IsTrue, List, length, drop}
use Rattle.indexmap.specs.IndexMap.{IndexMap, spare}
use Rattle.indexmap.specs.IndexSet.{IndexSet, spare as places}
use Rattle.object_ids.specs.declared.ids.ObjId.{ObjId}
use Rattle.object_ids.specs.declared.ids.Uid.{Uid}
use Rattle.export_table.specs.declared.counts.Reference.{Reference}
use Rattle.export_table.specs.declared.waits.Wait.{Wait}
use Rattle.export_table.specs.Waits.{each_once}
use Rattle.export_table.specs.WaitIndex.{IsIndexOf, EndsNoEarlier, EndsRise}

-- The references that await, the last listed last, and how many more can be listed without memory.
pub record WaitTable : Type 0 where
  pub waits : List Wait
  pub room : ℕ

-- A queue of waits, of which so many at the front are gone: none of the others ends before the moment `next`, and where it is noted that their ends rise,
-- they do.
pub record IsQueue (items : List Wait) (gone next : ℕ) (rising : Bool) : Type 0 where
  pub within : gone ≤ length items
  pub later : EndsNoEarlier next (drop gone items)
  pub rises : rising ≡ true → EndsRise (drop gone items)

-- Each reference is listed once, the index is that of the waits, and there is room, in their queue and in the index.
pub record IsIndexed {S T U : Type 0} (queue : WaitTable) (counts : IndexMap ObjId ℕ S) (references : IndexSet Reference T) (returns : IndexMap Uid ℕ U) (room : ℕ) : Type 0 where
  pub once : IsTrue (each_once queue.waits)
  pub index : IsIndexOf counts references returns queue.waits
  pub queue_room : room ≤ queue.room
  pub counts_room : room ≤ spare counts
  pub references_room : room ≤ places references
  pub returns_room : room ≤ spare returns
