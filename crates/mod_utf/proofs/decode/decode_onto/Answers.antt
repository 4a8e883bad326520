use Rattle.mod_utf.proofs.Decoded.{gives_text, gives_unread}
use Rattle.mod_utf.proofs.decode.decode_onto.Goals as goal

pub returns-in-Ok-clause-value : goal.returns-in-Ok-clause-value
returns-in-Ok-clause-value c = let h = c.in-Ok.ensures.ok in (h.0, gives_text c.args.bytes.now h.0 h.1, h.2)

pub returns-in-Err-clause-value : goal.returns-in-Err-clause-value
returns-in-Err-clause-value c = gives_unread c.args.bytes.now c.args.units.now c.truncate.new.self c.in-Err.fault c.in-Err.ensures.err
