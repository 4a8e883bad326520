use Rattle.history.specs.Texts.{hex_byte}
use Rattle.journal.proofs.Fronts.{on_err, front_of_all}
use Rattle.journal.proofs.put.put_hex.Goals as goal

pub returns-in_err-put_hex_byte-clause-err : goal.returns-in_err-put_hex_byte-clause-err
returns-in_err-put_hex_byte-clause-err c = on_err c.from_residual.result
    (front_of_all hex_byte c.args.out.now c.args.bytes.now c.loop-byte.byte-index c.loop-byte.out c.put_hex_byte.new.out c.loop-byte.invariant.0 (c.in_err-put_hex_byte.ensures {u = tt}).err)
