use Rattle.std.proofs.Common.{ap}
use Rattle.rmi_client.specs.Sessions.{link_of}
use Rattle.client_talk.specs.Sessions.{seen_of}
use Rattle.client_talk.specs.Talk.{Seen}
use Rattle.client_talk.proofs.Leaving.{both_left, leaves_as}
use Rattle.client_talk.proofs.calling.call_between.Goals as goal

pub returns-clause-talks : goal.returns-clause-talks
returns-clause-talks g c s b0 b1 given stands =
    let seen0 : Seen = seen_of (link_of g.I.Source.half g.O.Sink.half c.call_on-result.new.found.session) in
    let seen1 : Seen = seen_of (link_of g.I.Source.half g.O.Sink.half c.call_on-result.new.second) in (
      seen0,
      seen1,
      both_left g.I.Source.half g.O.Sink.half _ _ _ b0 b1 seen0 seen1
          (leaves_as _ _ _ _ _ _ _ _ (ap g.I.Source.half c.close.ensures.source) (ap g.O.Sink.half c.close.ensures.sink) c.put_away.ensures.left)
          (leaves_as _ _ _ _ _ _ _ _ (ap g.I.Source.half c.close-2.ensures.source) (ap g.O.Sink.half c.close-2.ensures.sink) c.put_away-2.ensures.left),
      c.call_on-result.ensures.talks s b0 b1 given stands,
    )
