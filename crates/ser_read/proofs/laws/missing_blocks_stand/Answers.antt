use Rattle.stream_grammar.proofs.PlainSound.{from_bytes}
use Rattle.ser_read.proofs.Missing.{misses_block}
use Rattle.ser_read.proofs.laws.missing_blocks_stand.Goals as goal

pub returns : goal.returns
returns c = λ end n block at bytes whole e. misses_block end n block at bytes (from_bytes bytes whole) e
