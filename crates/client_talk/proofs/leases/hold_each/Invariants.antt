use Rattle.std.proofs.Common.{◌≡◌, ℕ, List, Option, drop, false}
use Rattle.dgc_client.specs.Log.{ClientCall}
use Rattle.rmi_client.specs.Sessions.{link_of}
use Rattle.client_talk.specs.Calling.{Lessee, Keeps, holds_each}
use Rattle.client_talk.specs.Contents.{CallAnswer}
use Rattle.client_talk.specs.Rmi.{rmi}
use Rattle.client_talk.specs.Scripts.{Script}
use Rattle.client_talk.specs.Sessions.{seen_of}
use Rattle.client_talk.specs.Steps.{IsAt, Stands, with_seen}
use Rattle.client_talk.specs.Talk.{Linked}
use Rattle.client_talk.proofs.leases.hold_each.Given as goal

abbrev pub invariant-loop-object : goal.invariant-loop-object
invariant-loop-object g l = record {
  still : l.session.is_over ≡ false;
  notes : (s : Script rmi CallAnswer) (k : ℕ) (links : List Linked) (given : Option (List ℕ)) (lessee : Lessee) (log : List ClientCall) (next : List ClientCall → Script rmi CallAnswer)
      → Keeps lessee l.initial.leases log → IsAt k links (seen_of (link_of g.I.Source.half g.O.Sink.half l.initial.session))
      → Stands s links given (g.T.Clock.given l.initial.ticks) (holds_each k lessee l.objects log next)
      → (log2 : List ClientCall) × Keeps lessee l.leases log2
      × Stands s (with_seen k (seen_of (link_of g.I.Source.half g.O.Sink.half l.session)) links) given (g.T.Clock.given l.ticks)
      (holds_each k lessee (drop l.object-index l.objects) log2 next);
}
