use Rattle.std.proofs.Common.{◌∙◌, arith, refl}
use Rattle.conn_server.specs.declared.accept_loop.Stop.TheVariants.{AcceptFault}
use Rattle.conn_server.proofs.Failing.{none_given_up, since_answer, since_fault, waited_faults, waited_open}
use Rattle.conn_server.proofs.Hosting.{halted_none, halted_told}
use Rattle.conn_server.proofs.Listening.{counted_told, like_looked}
use Rattle.conn_server.proofs.host_loop.HostLoop.step.Goals as goal

pub returns-in-Ok-clause-keeps : goal.returns-in-Ok-clause-keeps
returns-in-Ok-clause-keeps g c = c.take_waited.ensures.keeps

pub returns-in-Ok-clause-goes_on : goal.returns-in-Ok-clause-goes_on
returns-in-Ok-clause-goes_on g c l0 gave_first h =
    c.take_waited.ensures.goes_on l0 (g.L.Listener.listening c.args.listener.now) (g.L.Listener.listening c.wait.new.self) gave_first h c.in-Ok.ensures.waits c.in-Ok.ensures.ports

pub returns-then-is_told-clause-goes_on : goal.returns-then-is_told-clause-goes_on
returns-then-is_told-clause-goes_on g c l0 gave_first h =
    let looks = c.is_told.ensures.looks in
    let same = looks.2 in
    let test = c.if-self-count_of.false in
    let count = c.count_of.ensures in
    let l = g.L.Listener.listening c.args.listener.now in
    let l2 = g.L.Listener.listening c.is_told.new.self in
    halted_told _ _ _ _ _ _ _ _ _ _ _ l0 gave_first l l2 _ _ _ _ h (omega (arith, test, count)) h.is (λ front begins. begins, refl) refl refl refl looks.1 (omega (arith, same)) (looks.3 ∙ c.if-is_told.true) looks.0
    (counted_told l.quiets l2.quiets c.is_told.result looks.4 c.if-is_told.true) looks.7

pub returns-then-holds_back-clause-goes_on : goal.returns-then-holds_back-clause-goes_on
returns-then-holds_back-clause-goes_on g c l0 gave_first h =
    let l = g.L.Listener.listening c.args.listener.now in
    let l2 = g.L.Listener.listening c.is_told.new.self in
    c.pass_time.ensures.goes_on l0 l l2 gave_first h (like_looked l l2 c.is_told.result c.is_told.ensures.looks c.if-is_told.false)

pub returns-then-gives_up-clause-goes_on : goal.returns-then-gives_up-clause-goes_on
returns-then-gives_up-clause-goes_on g c l0 gave_first h =
    let passed = c.pass_time-in-Err.ensures in
    let failed = c.in-Err.ensures.waits in
    let rose = failed.1.0 in
    let counted = failed.4 in
    let test = c.if-self-count_of.false in
    let count = c.count_of.ensures in
    let begun = passed.begun in
    let l = g.L.Listener.listening c.args.listener.now in
    let l2 = g.L.Listener.listening c.wait.new.self in
    rw (c.gives_up.ensures.acceptor, c.gives_up.ensures.own)
    (halted_none _ _ _ _ _ _ _ _ _ _ _ l0 gave_first l2 _ _ _ AcceptFault
    (passed.goes_on l0 l l2 gave_first h (record { accepted = failed.0; faults = omega (arith, rose); quiets = omega (arith, counted); same_told = failed.2; same_ports = c.in-Err.ensures.ports; waited = failed.6 }))
    (omega (arith, test, count, begun), refl))

pub returns-else-gives_up-clause-goes_on : goal.returns-else-gives_up-clause-goes_on
returns-else-gives_up-clause-goes_on g c l0 gave_first h =
    let passed = c.pass_time-in-Err.ensures in
    let failed = c.in-Err.ensures.waits in
    let rose = failed.1.0 in
    let counted = failed.4 in
    let l = g.L.Listener.listening c.args.listener.now in
    let l2 = g.L.Listener.listening c.wait.new.self in
    rw (c.gives_up.ensures.acceptor, c.gives_up.ensures.own)
    (passed.goes_on l0 l l2 gave_first h (record { accepted = failed.0; faults = omega (arith, rose); quiets = omega (arith, counted); same_told = failed.2; same_ports = c.in-Err.ensures.ports; waited = failed.6 }))

-- ---- the failures since the listener last answered

pub returns-in-Ok-clause-since : goal.returns-in-Ok-clause-since
returns-in-Ok-clause-since g c first since =
    let l = g.L.Listener.listening c.args.listener.now in
    rw c.take_waited.ensures.untried (since_answer g.L.Listener.listening first c.args.self.now.idle_tries l c.wait.new.self since
    (waited_faults _ l (g.L.Listener.listening c.wait.new.self) c.in-Ok.waited c.in-Ok.ensures.waits))

pub returns-then-is_told-clause-since : goal.returns-then-is_told-clause-since
returns-then-is_told-clause-since g c first since =
    let same = c.is_told.ensures.looks.2 in
    since_answer g.L.Listener.listening first c.args.self.now.idle_tries (g.L.Listener.listening c.args.listener.now) c.is_told.new.self since (omega (arith, same))

pub returns-then-holds_back-clause-since : goal.returns-then-holds_back-clause-since
returns-then-holds_back-clause-since g c first since =
    let same = c.is_told.ensures.looks.2 in
    rw c.pass_time.ensures.idle_tries
    (since_answer g.L.Listener.listening first c.args.self.now.idle_tries (g.L.Listener.listening c.args.listener.now) c.is_told.new.self since (omega (arith, same)))

pub returns-then-gives_up-clause-since : goal.returns-then-gives_up-clause-since
returns-then-gives_up-clause-since g c first since =
    let failed = c.in-Err.ensures.waits in
    let same = c.pass_time-in-Err.ensures.idle_tries in
    let raised = c.gives_up.ensures.raised in
    since_fault g.L.Listener.listening first c.args.self.now.idle_tries c.gives_up.new.self.idle_tries (g.L.Listener.listening c.args.listener.now) (g.L.Listener.listening c.wait.new.self)
    since failed.0 failed.4 failed.2 failed.1 (omega (arith, raised, same))

pub returns-else-gives_up-clause-since : goal.returns-else-gives_up-clause-since
returns-else-gives_up-clause-since g c first since =
    let failed = c.in-Err.ensures.waits in
    let same = c.pass_time-in-Err.ensures.idle_tries in
    let raised = c.gives_up.ensures.raised in
    since_fault g.L.Listener.listening first c.args.self.now.idle_tries c.gives_up.new.self.idle_tries (g.L.Listener.listening c.args.listener.now) (g.L.Listener.listening c.wait.new.self)
    since failed.0 failed.4 failed.2 failed.1 (omega (arith, raised, same))

pub returns-in-Ok-clause-given_up : goal.returns-in-Ok-clause-given_up
returns-in-Ok-clause-given_up g c = none_given_up c.take_waited.result _ c.take_waited.ensures.other

pub returns-then-gives_up-clause-given_up : goal.returns-then-gives_up-clause-given_up
returns-then-gives_up-clause-given_up g c is = c.gives_up.ensures.many c.if-gives_up.true

-- ---- the listener is left as open as it was

pub returns-in-Ok-clause-still_open : goal.returns-in-Ok-clause-still_open
returns-in-Ok-clause-still_open g c = waited_open _ (g.L.Listener.listening c.args.listener.now) (g.L.Listener.listening c.wait.new.self) c.in-Ok.waited c.in-Ok.ensures.waits

pub returns-then-is_told-clause-still_open : goal.returns-then-is_told-clause-still_open
returns-then-is_told-clause-still_open g c = c.is_told.ensures.looks.6

pub returns-then-holds_back-clause-still_open : goal.returns-then-holds_back-clause-still_open
returns-then-holds_back-clause-still_open g c = c.is_told.ensures.looks.6

pub returns-then-gives_up-clause-still_open : goal.returns-then-gives_up-clause-still_open
returns-then-gives_up-clause-still_open g c = c.in-Err.ensures.waits.5

pub returns-else-gives_up-clause-still_open : goal.returns-else-gives_up-clause-still_open
returns-else-gives_up-clause-still_open g c = c.in-Err.ensures.waits.5

-- ---- no failure is counted while a link is live

pub returns-then-gives_up-clause-busy : goal.returns-then-gives_up-clause-busy
returns-then-gives_up-clause-busy g c live =
    let same = c.pass_time-in-Err.ensures.idle_tries in
    let kept = c.gives_up.ensures.busy (rw c.gives_up.ensures.acceptor at live) in
    omega (arith, same, kept)

pub returns-else-gives_up-clause-busy : goal.returns-else-gives_up-clause-busy
returns-else-gives_up-clause-busy g c live =
    let same = c.pass_time-in-Err.ensures.idle_tries in
    let kept = c.gives_up.ensures.busy (rw c.gives_up.ensures.acceptor at live) in
    omega (arith, same, kept)
