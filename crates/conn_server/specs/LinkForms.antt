-- What contracts see of the entries of a link.
use Rattle.std.specs.Prelude.{List}
use Rattle.space.specs.declared.asked.Asked.{Asked}
use Rattle.conn_server.specs.declared.link_entries.Form.{Form}
use Rattle.conn_server.specs.declared.link_entries.Form.TheVariants.{Kept, Told}

abbrev pub entries_in : Form → List Asked
entries_in (Kept entries) = entries
entries_in (Told log) = log.value
