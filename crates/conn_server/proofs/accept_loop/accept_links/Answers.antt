use Rattle.std.proofs.Common.{◌≡◌, ◌∙◌, ◌+◌, ◌++◌, ◌∷◌, [], length, ap, sym, refl, arith}
use Rattle.wire_io.specs.Links.{accepted_as}
use Rattle.conn_server.specs.Accepts.{shown_all, links_of, ticks_of, with_all}
use Rattle.conn_server.proofs.Listening.{with_none, one_more, ticks_same}
use Rattle.conn_server.proofs.accept_loop.accept_links.Goals as goal

pub loop-init : goal.loop-init
loop-init g c =
    let a = c.args.acceptor.now in
    let fresh = c.requires.fresh in
    let read_half = g.L.In.Source.half in let write_half = g.L.Out.Sink.half in let given = g.L.Ticks.Clock.given in
    let told = (g.L.Listener.listening c.args.listener.now).accepted in
    record {
      is = c.requires.accepting;
      count = c.requires.accepting.begun ∙ ap length fresh.0;
      tied = fresh.1 ∙ ap (λ l. ticks_of (shown_all read_half write_half given l)) (sym fresh.0);
      links = sym (with_none told) ∙ ap (λ l. with_all told (links_of (shown_all read_half write_half given l))) (sym fresh.0);
      faults = omega arith;
      ports = refl;
    }

pub admit-requires-clause-few : goal.admit-requires-clause-few
admit-requires-clause-few g c κs within =
    let was = c.loop.invariant in
    let freed = c.join_ended.ensures in
    let count = was.count in
    let count2 = freed.begun in
    let count3 = c.next_link.ensures.begun in
    let test = c.loop-test.true in
    let few = c.requires.few in
    omega (arith, count, count2, count3, test, few)

pub returns-in-Some-clause-tied : goal.returns-in-Some-clause-tied
returns-in-Some-clause-tied g c =
    let same = rw c.in-Some.is at c.admit.ensures.tied in
    same.0 ∙ (c.join_ended.ensures.ticks ∙ (c.next_link.ensures.ticks ∙ (c.loop.invariant.tied ∙ (ap (λ l. ticks_of l) (sym (c.join_ended.ensures.links ∙ c.next_link.ensures.links)) ∙ sym same.1))))

pub returns-in-Some-clause-links : goal.returns-in-Some-clause-links
returns-in-Some-clause-links g c =
    let read_half = g.L.In.Source.half in let write_half = g.L.Out.Sink.half in let given = g.L.Ticks.Clock.given in
    let next = c.admit.new.self in
    let was = c.loop.invariant in
    let before = links_of (shown_all read_half write_half given c.loop.acceptor.all) in
    let told = (g.L.Listener.listening c.args.listener.now).accepted in
    let link = accepted_as read_half write_half given c.in-Ok.link in
    let freed = c.join_ended.new.self in
    let here : links_of (shown_all read_half write_half given next.all) ≡ links_of (shown_all read_half write_half given freed.all) = rw c.in-Some.is at c.admit.ensures.links in
    let same : links_of (shown_all read_half write_half given next.all) ≡ before = here ∙ ap (λ l. links_of l) (c.join_ended.ensures.links ∙ c.next_link.ensures.links) in
    let count : next.begun ≡ freed.begun = rw c.in-Some.is at c.admit.ensures.count in
    let count2 = c.join_ended.ensures.begun in
    let count3 = c.next_link.ensures.begun in
    let counter = was.count in
    let test = c.loop-test.true in (
      link ∷ [],
      one_more told (g.L.Listener.listening c.loop.listener).accepted (g.L.Listener.listening c.next_link.new.listener).accepted before link was.links c.in-Ok.ensures.accepts.0 ∙ ap (λ l. with_all told (l ++ link ∷ [])) (sym same),
      (omega (arith, count, count2, count3, counter, test), refl),
      rw c.in-Some.is at c.admit.ensures.lost,
    )

pub loop-preserved : goal.loop-preserved
loop-preserved g c =
    let read_half = g.L.In.Source.half in let write_half = g.L.Out.Sink.half in let given = g.L.Ticks.Clock.given in
    let next = c.admit.new.self in
    let was = c.loop.invariant in
    let before = links_of (shown_all read_half write_half given c.loop.acceptor.all) in
    let told = (g.L.Listener.listening c.args.listener.now).accepted in
    let link = accepted_as read_half write_half given c.in-Ok.link in
    let freed = c.join_ended.new.self in
    let here : links_of (shown_all read_half write_half given next.all) ≡ links_of (shown_all read_half write_half given freed.all) ++ link ∷ [] = rw c.in-None.is at c.admit.ensures.links in
    let longer : links_of (shown_all read_half write_half given next.all) ≡ before ++ link ∷ [] = here ∙ ap (λ l. links_of l ++ link ∷ []) (c.join_ended.ensures.links ∙ c.next_link.ensures.links) in
    let count : next.begun ≡ freed.begun + 1 = rw c.in-None.is at c.admit.ensures.count in
    let count2 = c.join_ended.ensures.begun in
    let count3 = c.next_link.ensures.begun in
    let counter = was.count in
    let faults = was.faults in
    let faults2 = c.in-Ok.ensures.accepts.1 in
    record {
      is = c.admit.ensures.accepting;
      count = omega (arith, count, count2, count3, counter);
      tied = ticks_same _ _ _ _ (c.join_ended.ensures.ticks ∙ (c.next_link.ensures.ticks ∙ (was.tied ∙ ap (λ l. ticks_of l) (sym (c.join_ended.ensures.links ∙ c.next_link.ensures.links))))) (rw c.in-None.is at c.admit.ensures.tied);
      links = one_more told (g.L.Listener.listening c.loop.listener).accepted (g.L.Listener.listening c.next_link.new.listener).accepted before link was.links c.in-Ok.ensures.accepts.0 ∙ ap (with_all told) (sym longer);
      faults = omega (arith, faults, faults2);
      ports = c.in-Ok.ensures.ports ∙ was.ports;
    }
