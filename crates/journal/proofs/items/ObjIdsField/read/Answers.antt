use Rattle.journal.proofs.Joined.{object_lacks_comma}
use Rattle.journal.proofs.items.ObjIdsField.read.Goals as goal

pub read_list-requires : goal.read_list-requires
read_list-requires c object word spells = object_lacks_comma c.args.space object word spells
