use Rattle.std.proofs.Common.{◌≡◌, [], rules}
use Rattle.journal.proofs.NameUnits.{too_many, no_units}
use Rattle.journal.proofs.name.read_units.Goals as goal

pub returns-then-len-eq-MAX_NAME_UNITS : goal.returns-then-len-eq-MAX_NAME_UNITS
returns-then-len-eq-MAX_NAME_UNITS c is all spells =
    too_many c.args.text.now c.loop-rest.units c.loop-rest.rest.now c.loop-rest.invariant
    (λ (none : c.loop-rest.rest.now ≡ []). search rules) (search rules) all spells

pub returns-in_default : goal.returns-in_default
returns-in_default c is all spells = no_units c.args.text.now c.loop-rest.units c.loop-rest.rest.now c.loop-rest.invariant
    (λ (none : c.loop-rest.rest.now ≡ []). search rules) (λ u len begins. c.in_default.ensures {u = tt} (record { unit = u; len = len }) begins) all spells
