use Rattle.std.proofs.Common.{length, ◌≤◌, ◌∷◌, [], ◌++◌, pos, ◌<ℤ◌, sym, subst, Ok, Err, ◌∙◌, arith, length-append}
use Rattle.mod_utf.specs.Utf.{utf}
use Rattle.wire_io.specs.declared.limits.TheConstants.{MAX_HOST_BYTES}
use Rattle.system_objects.specs.Terms.{Terms}
use Rattle.call_dispatch.specs.ConnectionState.{state_of_connection}
use Rattle.call_dispatch.proofs.Steps.{goes_on_more}
use Rattle.call_dispatch.proofs.MessageSteps.{stream_at_code}
use Rattle.call_dispatch.proofs.Staying.{lent_on, grew_on, steps_on}
use Rattle.call_dispatch.proofs.messages.serve_many.Goals as goal
use Rattle.system_objects.specs.declared.setup.TheConstants.{DRAWS_BEGIN_BELOW}

pub serve_message-requires-clause-can : goal.serve_message-requires-clause-can
serve_message-requires-clause-can g c = record {
  host = subst (λ (t : Terms). length (utf t.host) ≤ MAX_HOST_BYTES) (sym c.loop-after.invariant.4.terms) c.requires.can.host;
  time = subst (λ (t : Terms). t.time <ℤ pos DRAWS_BEGIN_BELOW) (sym c.loop-after.invariant.4.terms) c.requires.can.time;
  drawn = omega (arith, c.loop-after.invariant.11, c.loop-after.invariant.1, c.requires.can.drawn);
  ready = c.loop-after.invariant.7;
  room = omega (arith, c.loop-after.invariant.9, c.loop-after.invariant.1, c.requires.can.room);
  balanced = c.loop-after.invariant.6;
  calls = omega (arith, c.loop-after.invariant.10, c.loop-after.invariant.1, c.requires.can.calls);
}

pub returns-in-Err-clause-goes_on : goal.returns-in-Err-clause-goes_on
returns-in-Err-clause-goes_on g c start opening is stands =
    let (exchanges, count, goes, now) = c.loop-after.invariant.0 start opening is stands in
    let steps = steps_on _ _ _ _ _
    (state_of_connection g.S.Source.half g.K.Sink.half g.C.Clock.given g.P.Port.shown g.W.Worker.shown c.serve_message.new.connection)
    _ _ _ c.serve_message.new.connection.pull.at (Err c.in-Err.end) c.loop-after.invariant.4.terms c.in-Err.ensures.steps in
    steps start opening exchanges count (stream_at_code opening exchanges is goes) now

pub loop-after-preserved : goal.loop-after-preserved
loop-after-preserved g c = (
  (λ start opening is stands.
      let (exchanges, count, goes, now) = c.loop-after.invariant.0 start opening is stands in
      let steps = steps_on _ _ _ _ _
      (state_of_connection g.S.Source.half g.K.Sink.half g.C.Clock.given g.P.Port.shown g.W.Worker.shown c.serve_message.new.connection)
      _ _ _ c.serve_message.new.connection.pull.at (Ok c.in-Ok.after) c.loop-after.invariant.4.terms c.in-Ok.ensures.steps in
      let (e, leaves, after) = steps start opening exchanges count (stream_at_code opening exchanges is goes) now in
      (exchanges ++ e ∷ [], omega (arith, length-append exchanges (e ∷ []), count), goes_on_more exchanges e leaves, after)),
  omega (arith, c.in-Ok.ensures.going),
  omega (arith, c.in-Ok.ensures.most, c.loop-after.invariant.2),
  omega (arith, c.in-Ok.ensures.most, c.loop-after.invariant.3),
  lent_on _ _ _ c.loop-after.invariant.4 c.in-Ok.ensures.frame.keeps.lent,
  grew_on _ _ _ c.loop-after.invariant.5 c.in-Ok.ensures.blames,
  c.in-Ok.ensures.frame.balanced,
  c.in-Ok.ensures.frame.keeps.ready,
  g.met.P.Port.goes_on _ _ _ c.loop-after.invariant.8 c.in-Ok.ensures.frame.keeps.leads,
  omega (arith, c.in-Ok.ensures.frame.keeps.room, c.loop-after.invariant.9),
  omega (arith, c.in-Ok.ensures.frame.calls, c.loop-after.invariant.10),
  omega (arith, c.in-Ok.ensures.frame.drawn, c.loop-after.invariant.11),
  (c.in-Ok.ensures.shut.0 ∙ c.loop-after.invariant.12.0, c.in-Ok.ensures.shut.1 ∙ c.loop-after.invariant.12.1),
)

pub returns-in-Err-clause-frame : goal.returns-in-Err-clause-frame
returns-in-Err-clause-frame g c = record {
  lent = lent_on _ _ _ c.loop-after.invariant.4 c.in-Err.ensures.frame.keeps.lent;
  balanced = c.in-Err.ensures.frame.balanced;
  ready = c.in-Err.ensures.frame.keeps.ready;
  leads = g.met.P.Port.goes_on _ _ _ c.loop-after.invariant.8 c.in-Err.ensures.frame.keeps.leads;
}

pub returns-in-Err-clause-shut : goal.returns-in-Err-clause-shut
returns-in-Err-clause-shut g c = (c.in-Err.ensures.shut.0 ∙ c.loop-after.invariant.12.0, c.in-Err.ensures.shut.1 ∙ c.loop-after.invariant.12.1)
