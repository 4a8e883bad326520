-- What contracts see of the objects that a client named.
use Rattle.std.specs.Prelude.{ℕ, ◌-◌, List, length, vec_capacity}
use Rattle.std.specs.Slice.Iter.{iter_rest}
use Rattle.indexmap.specs.IndexMap.{spare}
use Rattle.object_ids.specs.declared.ids.ObjId.{ObjId}
use Rattle.dgc_server.specs.declared.numbers.Numbers.{Numbers}
use Rattle.dgc_server.specs.declared.mark_list.Held.{Held}
use Rattle.dgc_server.specs.declared.mark_list.Held.TheVariants.{Few, Many}
use Rattle.dgc_server.specs.declared.mark_list.Walk.{Walk}
use Rattle.dgc_server.specs.declared.mark_list.Walk.TheVariants.{OverFew, OverMany}

-- The objects with their numbers, in the order in which they came, and for how many more there is room.
pub record MarkList : Type 0 where
  pub entries : List (ObjId × Numbers)
  pub room : ℕ

abbrev pub marks_of : Held → MarkList
marks_of (Few list) = record { entries = list.items; room = vec_capacity list - length list.items }
marks_of (Many map) = record { entries = map.entries; room = spare map }

-- What is left to a walk over the objects.
abbrev pub marks_left : Walk → List (ObjId × Numbers)
marks_left (OverFew marks) = iter_rest marks
marks_left (OverMany marks) = marks
