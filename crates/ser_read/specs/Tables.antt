-- The nodes that are being read.
use Rattle.stream_grammar.specs.Reading.{Progress}
use Rattle.ser_read.specs.declared.table.Table.{Table}

-- how far reading has come
abbrev pub now_of : Table → Progress
now_of t = record { nodes = t.nodes.items; parts = t.parts }
