-- The descriptions that a list of identifiers wants.
use Rattle.std.specs.Prelude.{List}
use Rattle.class_desc.specs.declared.slot.Slot.TheVariants as slots
use Rattle.class_desc.specs.declared.known_class.KnownClass.TheVariants as known
use Rattle.ser_values.specs.declared.node.Node.{Node}
use Rattle.java_shapes.specs.declared.id_lists.ListClasses.{ListClasses}
use Rattle.java_shapes.specs.Put.{IsClassAt}

-- The slots name the descriptions of ObjID[], of ObjID and of UID.
pub record AreListClasses (nodes : List Node) (classes : ListClasses) : Type 0 where
  pub list : IsClassAt nodes known.ObjIdArray slots.Null classes.list
  pub id : IsClassAt nodes known.ObjId slots.Null classes.id
  pub uid : IsClassAt nodes known.Uid slots.Null classes.uid
