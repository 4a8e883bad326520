-- The two objects that every server has of itself: the registry and the collector (Java RMI Specification, 6.1 and 9.1).
use Rattle.std.specs.Prelude.{pos, Bool, ◌||◌}
use Rattle.object_ids.specs.declared.ids.ObjId.{ObjId}
use Rattle.object_ids.specs.declared.ids.Uid.{Uid}
use Rattle.object_ids.specs.Same.{same_id}

-- the space of the objects that are known to all
abbrev pub known_space : Uid
known_space = record { unique = pos 0; time = pos 0; count = pos 0 }

abbrev pub registry_id : ObjId
registry_id = record { number = pos 0; space = known_space }

abbrev pub collector_id : ObjId
collector_id = record { number = pos 2; space = known_space }

-- The object is one of the two.
abbrev pub is_system : ObjId → Bool
is_system id = same_id id registry_id || same_id id collector_id
