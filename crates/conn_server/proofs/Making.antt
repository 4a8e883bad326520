-- A link that was admitted is made for its connection.
use Rattle.std.proofs.Common.{◌≡◌, ℕ, List, [], ◌∷◌, sym, subst, ◌∙◌, ap}
use Rattle.std.specs.Prelude.{Option}
use Rattle.wire_io.specs.Wire.{ReadHalf, WriteHalf, AreNewHalves, Gave}
use Rattle.wire_io.specs.declared.link.Link.{Link}
use Rattle.history.specs.declared.asks.Ask.TheVariants.{Tick}
use Rattle.call_dispatch.specs.Acts.{WorkerState, Call, States}
use Rattle.system_objects.specs.Terms.{terms_of}
use Rattle.system_objects.specs.declared.book.Kind.{Kind}
use Rattle.conn_server.specs.Made.{IsMadeFor, IsTickEnd, WasTold}
use Rattle.conn_server.specs.Plans.{link_terms}
use Rattle.conn_server.specs.declared.link_task.AdmittedLink.{AdmittedLink}
use Rattle.conn_server.specs.declared.plan.ServePlan.{ServePlan}

pub made_for : {I O T H : Type 0} (read_half : I → ReadHalf) (write_half : O → WriteHalf) (given : T → Option (List ℕ)) (shown : H → WorkerState)
    (moves : States → Call → States → Type 0) (plan : ServePlan) (k by : ℕ) (link : Link I O T) (admitted : AdmittedLink I O T H) → admitted.first.value ≡ link → by ≡ k
    → (read_half admitted.source).left ≡ (read_half link.source).left → (write_half admitted.sink).held ≡ (write_half link.sink).held
    → AreNewHalves (read_half admitted.source) (write_half admitted.sink) → admitted.peer.host ≡ link.host → admitted.peer.port ≡ link.port
    → ((kinds : List Kind) → terms_of kinds admitted.setup ≡ link_terms kinds plan by link.host link.port)
    → admitted.tick.value.ask ≡ Tick → IsTickEnd admitted.tick.value.end → Gave (given link.clock) (given admitted.clock) (admitted.tick.value.moment ∷ []) → (shown admitted.hand).number ≡ by → WasTold moves (shown admitted.hand).seen (shown admitted.hand).state admitted.tick.value
    → IsMadeFor read_half write_half given shown moves plan k admitted
made_for {I = I} {O = O} {T = T} read_half write_half given shown moves plan k by link admitted is number source sink halves peer_host peer_port terms asked end gave hand told = record {
  left_is = source ∙ ap (λ (x : Link I O T). (read_half x.source).left) (sym is);
  held_is = sink ∙ ap (λ (x : Link I O T). (write_half x.sink).held) (sym is);
  terms = λ kinds. subst (λ (x : ℕ × Link I O T). terms_of kinds admitted.setup ≡ link_terms kinds plan x.0 x.1.host x.1.port) (λ i. (number i, sym is i)) (terms kinds);
  halves = halves;
  peer_host = peer_host ∙ ap (λ (x : Link I O T). x.host) (sym is);
  peer_port = peer_port ∙ ap (λ (x : Link I O T). x.port) (sym is);
  tick_asked = asked;
  tick_end = end;
  ticked = subst (λ (x : Link I O T). Gave (given x.clock) (given admitted.clock) (admitted.tick.value.moment ∷ [])) (sym is) gave;
  hand = hand ∙ number;
  told = told;
}
