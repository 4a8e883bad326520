use Rattle.std.proofs.Common.{◌≡◌, [], rules}
use Rattle.journal.proofs.HexBytes.{no_bytes}
use Rattle.journal.proofs.hex.read_bytes.Goals as goal

pub returns-in_default : goal.returns-in_default
returns-in_default c is all spells = no_bytes c.loop-rest.bytes c.args.digits.now c.loop-rest.rest.now c.loop-rest.invariant.digits
    (λ (none : c.loop-rest.rest.now ≡ []). search rules) (c.in_default.ensures {u = tt}) all spells
