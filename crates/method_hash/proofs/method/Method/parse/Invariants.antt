use Rattle.std.proofs.Common.{take}
use Rattle.method_hash.specs.TextReading.{HasRead}
use Rattle.method_hash.proofs.method.Method.parse.Given as goal

abbrev pub invariant-loop-at : goal.invariant-loop-at
invariant-loop-at l = HasRead (take l.at l.text) l.draft.place l.draft.name l.draft.params l.draft.result
