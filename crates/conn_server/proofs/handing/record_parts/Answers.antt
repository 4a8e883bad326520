use Rattle.std.proofs.Common.{◌≡◌, ◌<◌, ◌∙◌, arith, length, refl, rules}
use Rattle.conn_server.proofs.Recording.{none_behind, parts_on}
use Rattle.conn_server.proofs.Keeping.{keeps_on, keeps_self}
use Rattle.conn_server.proofs.handing.record_parts.Goals as goal

pub loop-rest-init : goal.loop-rest-init
loop-rest-init g c = record {
  events = refl;
  ticks = refl;
  reports = record { reports = refl; room = omega arith; still = λ report e. e };
  keeps = keeps_self g.C.ReportTaker.holds g.C.ReportTaker.stays _;
}

pub loop-rest-preserved : goal.loop-rest-preserved
loop-rest-preserved g c =
    let split = c.split_at.ensures in
    let done = c.record.ensures in
    let was = c.loop-rest.invariant in
    let room = was.reports.room in
    let room2 = done.reports.room in
    record {
      events = parts_on _ _ _ _ c.loop-rest.rest.now _ done.events split.front split.back ∙ was.events;
      ticks = done.ticks ∙ was.ticks;
      reports = record { reports = done.reports.reports ∙ was.reports.reports; room = omega (arith, room, room2); still = λ report e. done.reports.still report (was.reports.still report e) };
      keeps = keeps_on g.C.ReportTaker.holds g.C.ReportTaker.stays _ _ _ was.keeps done.keeps;
    }

pub returns-clause-events : goal.returns-clause-events
returns-clause-events g c =
    let none : length c.loop-rest.rest.now ≡ 0 = search rules in
    none_behind _ c.loop-rest.rest.now _ none c.loop-rest.invariant.events

pub loop-rest-smaller : goal.loop-rest-smaller
loop-rest-smaller g c =
    let some : 0 < length c.loop-rest.rest.now = search rules in
    let part = c.part_len.ensures.some some in
    let count = c.split_at.ensures.back_len in
    omega (arith, some, part, count)
