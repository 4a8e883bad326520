use Rattle.std.proofs.Common.{length, ap, ◌∙◌, arith, Some}
use Rattle.std.proofs.Math.Logic.{∥∥₁_map}
use Rattle.stream_laws.proofs.round_trip.read_back.Goals as goal

pub returns : goal.returns
returns c = record {
  same = λ short. (
      let told = ap (λ s. Some s.left) c.new-pull.ensures.source ∙ ap (λ bytes. Some bytes) c.new-source.ensures.left in
      let long = ap length c.in_ok-written.ensures.canonical in let at = c.new-pull.ensures.at in let stop = c.new-pull.ensures.stop in
      ∥∥₁_map c.in_ok-written.ensures.spelled (λ stream. c.read_to_end.ensures.complete c.in_ok-written.written c.args.graph.now.nodes c.args.graph.now.items told (omega (arith, short, long, at, stop)) stream));
}
