use Rattle.std.proofs.Common.{◌∙◌, sym}
use Rattle.std.specs.List.{flat_map}
use Rattle.call_dispatch.specs.Acts.{entries}
use Rattle.call_dispatch.proofs.Balancing.{balanced_more}
use Rattle.call_dispatch.proofs.Completing.{unfailed_is_settled, no_fault_unfailed, talked_completes}
use Rattle.call_dispatch.proofs.Invoking.{talked_invokes}
use Rattle.call_dispatch.proofs.OneReading.{talked_served}
use Rattle.call_dispatch.proofs.serve.serve_connection.Goals as goal

pub returns-clause-dialogue : goal.returns-clause-dialogue
returns-clause-dialogue g c =
    let lent = c.talk.ensures.frame.lent in
    let source = c.source-1.given.1 (sym (lent.source_lent ∙ c.new-pull.ensures.lent)) in
    let sink = c.sink-1.given.1 (sym lent.sink_lent) in
    let clock = c.clock-1.given.1 (sym lent.clock_lent) in
    let port = c.port-1.given.1 (sym lent.port_lent) in
    let worker = c.worker-1.given.1 (sym lent.worker_lent) in
    let setup = c.setup-1.given.1 (sym lent.setup_lent) in
    let talked = rw c.new-pull.ensures.source at c.talk.ensures.dialogue in
    rw (source, sink, clock, port, worker, setup) (talked_served _ _ _ _ _ c.talk.result talked)

pub returns-clause-invoked : goal.returns-clause-invoked
returns-clause-invoked g c =
    let lent = c.talk.ensures.frame.lent in
    let source = c.source-1.given.1 (sym (lent.source_lent ∙ c.new-pull.ensures.lent)) in
    let sink = c.sink-1.given.1 (sym lent.sink_lent) in
    let clock = c.clock-1.given.1 (sym lent.clock_lent) in
    let port = c.port-1.given.1 (sym lent.port_lent) in
    let worker = c.worker-1.given.1 (sym lent.worker_lent) in
    let setup = c.setup-1.given.1 (sym lent.setup_lent) in
    let talked = rw c.new-pull.ensures.source at c.talk.ensures.dialogue in
    rw (source, sink, clock, port, worker, setup) (talked_invokes _ _ _ _ _ c.talk.result talked)

pub returns-clause-balanced : goal.returns-clause-balanced
returns-clause-balanced g c =
    let port = c.port-1.given.1 (sym c.talk.ensures.frame.lent.port_lent) in
    let (course, talks) = c.talk.ensures.dialogue in
    rw port (flat_map entries course.acts, talks.goes.led.asked, balanced_more (g.P.Port.shown c.args.port.now).asked (flat_map entries course.acts) (g.P.Port.shown c.talk.new.connection.port.now).asked talks.goes.led.asked c.requires.can.balanced c.talk.ensures.frame.balanced)

pub returns-clause-ready : goal.returns-clause-ready
returns-clause-ready g c =
    let port = c.port-1.given.1 (sym c.talk.ensures.frame.lent.port_lent) in
    rw port c.talk.ensures.frame.ready

pub returns-clause-leads : goal.returns-clause-leads
returns-clause-leads g c =
    let port = c.port-1.given.1 (sym c.talk.ensures.frame.lent.port_lent) in
    rw port c.talk.ensures.frame.leads

pub returns-clause-terms : goal.returns-clause-terms
returns-clause-terms g c =
    let setup = c.setup-1.given.1 (sym c.talk.ensures.frame.lent.setup_lent) in
    rw setup (rw c.talk.ensures.frame.lent.book at c.talk.ensures.frame.lent.terms)

pub returns-clause-settled : goal.returns-clause-settled
returns-clause-settled g c none =
    let lent = c.talk.ensures.frame.lent in
    let source = c.source-1.given.1 (sym (lent.source_lent ∙ c.new-pull.ensures.lent)) in
    let sink = c.sink-1.given.1 (sym lent.sink_lent) in
    let blames = rw c.new-pull.ensures.source at c.talk.ensures.blames in
    unfailed_is_settled c.talk.result (no_fault_unfailed _ _ _ _ c.talk.result blames.read_fault blames.write_fault (rw (source, sink) at none))

pub returns-clause-complete : goal.returns-clause-complete
returns-clause-complete g c none =
    let lent = c.talk.ensures.frame.lent in
    let source = c.source-1.given.1 (sym (lent.source_lent ∙ c.new-pull.ensures.lent)) in
    let sink = c.sink-1.given.1 (sym lent.sink_lent) in
    let clock = c.clock-1.given.1 (sym lent.clock_lent) in
    let port = c.port-1.given.1 (sym lent.port_lent) in
    let worker = c.worker-1.given.1 (sym lent.worker_lent) in
    let setup = c.setup-1.given.1 (sym lent.setup_lent) in
    let talked = rw c.new-pull.ensures.source at c.talk.ensures.dialogue in
    let blames = rw c.new-pull.ensures.source at c.talk.ensures.blames in
    let unfailed = no_fault_unfailed _ _ _ _ c.talk.result blames.read_fault blames.write_fault (rw (source, sink) at none) in
    rw (source, sink, clock, port, worker, setup) (talked_completes _ _ _ _ _ c.talk.result talked unfailed)
