use Rattle.std.proofs.Common.{◌≡◌, take}
use Rattle.suid_calc.specs.Description.{texts_of, texts_in}
use Rattle.suid_calc.proofs.description.texts_of.Given as goal

abbrev pub invariant-loop-member : goal.invariant-loop-member
invariant-loop-member l = texts_in l.texts.keys ≡ texts_of (take l.member-index l.members)
