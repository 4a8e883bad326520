-- How far a reader has come, without where it lies in memory.
use Rattle.ser_read.specs.declared.reader.Stand as held
use Rattle.ser_read.specs.Tables.{now_of}
use Rattle.ser_read.specs.Wants.{Stand}

abbrev pub stand_of : held.Stand → Stand
stand_of s = record { progress = now_of s.table; items = s.items.items; block = s.block }
