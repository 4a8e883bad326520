use Rattle.stream_grammar.proofs.PlainSound.{from_bytes}
use Rattle.ser_read.proofs.Left.{leaves_block}
use Rattle.ser_read.proofs.laws.left_blocks_stand.Goals as goal

pub returns : goal.returns
returns c = λ end s at bytes whole e. leaves_block end s at bytes (from_bytes bytes whole) e
