use Rattle.std.proofs.Common.{◌≡◌, ◌++◌, drop, map}
use Rattle.rmi_server.proofs.kinds.methods_of.Given as goal

abbrev pub invariant-loop-text : goal.invariant-loop-text
invariant-loop-text l = map (λ method. method.text) l.methods ++ map (λ text. text.now) (drop l.text-index l.texts) ≡ map (λ text. text.now) l.texts
