use Rattle.std.proofs.Common.{◌≡◌, ◌≤◌, ap, subst, ◌∙◌, arith, true, length}
use Rattle.std.specs.Prelude.{max, filter}
use Rattle.dgc_server.specs.declared.table.Sums.{Sums}
use Rattle.dgc_server.specs.Entry.{has_time_left}
use Rattle.dgc_server.specs.Table.{after_lapse, remembered_count}
use Rattle.dgc_server.specs.StandsForCalls.{LeaseTable, is_in_order}
use Rattle.dgc_server.proofs.Few.{few-lapse}
use Rattle.dgc_server.proofs.Kept.{numbered-lapse, once-lapse, remembered-lapse}
use Rattle.dgc_server.proofs.Tables.{order-lapse, table-lapsed}
use Rattle.dgc_server.proofs.Trimmed.{trimmed-lapse}
use Rattle.dgc_server.proofs.leases.Leases.lapse.Goals as goal

pub invariant_of-self : goal.invariant_of-self
invariant_of-self c =
    let time : c.max-time.result ≡ max c.args.now c.self.inside.clients.moment = c.max-time.ensures ∙ ap (max c.args.now) c.moment-moment.ensures in
    let moment = c.pass-sums.ensures.moment in
    let early = c.self.invariant.0.early in (
      rw (moment, c.pass-sums.ensures.entries) record {
        some = c.self.invariant.0.some;
        short = c.self.invariant.0.short;
        early = omega arith;
        ordered = order-lapse c.max-time.result c.self.inside.clients.entries c.self.invariant.0.ordered;
        few = few-lapse c.self.inside.clients.moment c.max-time.result c.self.inside.clients.entries _ (omega arith) c.self.invariant.0.few;
        once = once-lapse c.max-time.result c.self.inside.clients.entries c.self.invariant.0.once;
        noted = numbered-lapse c.max-time.result c.self.inside.clients.entries c.self.invariant.0.noted;
        small = (let fewer = remembered-lapse c.self.inside.clients.moment c.max-time.result c.self.inside.clients.entries (omega arith) in let small = c.self.invariant.0.small in omega arith);
      },
      rw moment c.pass-sums.ensures.indexed,
      rw moment c.pass-sums.ensures.sums,
      rw moment c.pass-sums.ensures.later,
    )

pub pass-sums-requires-clause-few : goal.pass-sums-requires-clause-few
pass-sums-requires-clause-few c =
    let es = c.self.inside.clients.entries in
    let leased : c.self.inside.sums.leased ≡ length (filter (has_time_left c.self.inside.clients.moment) es) = ap (λ (s : Sums). s.leased) c.self.invariant.2 in
    let pairs : c.self.inside.sums.pairs ≡ remembered_count c.self.inside.clients.moment es = ap (λ (s : Sums). s.pairs) c.self.invariant.2 in
    let few : length (filter (has_time_left c.self.inside.clients.moment) es) ≤ 65536 = c.self.invariant.0.few in
    let small : remembered_count c.self.inside.clients.moment es ≤ 262144 = c.self.invariant.0.small in (omega arith, omega arith)

pub returns-clause-stands : goal.returns-clause-stands
returns-clause-stands c lease moment calls s =
    let P : LeaseTable → Type 0 = λ t. is_in_order t.entries ≡ true in
    let m : c.self.inside.clients.moment ≡ moment = ap (λ (t : LeaseTable). t.moment) c.self.view_is ∙ s.is_moment in
    let time : c.max-time.result ≡ max c.args.now moment = c.max-time.ensures ∙ ap (max c.args.now) (c.moment-moment.ensures ∙ m) in
    table-lapsed lease moment (max c.args.now moment) c.args.self.now _ calls s (subst P c.self.view_is c.self.invariant.0.ordered) (omega arith)
    (ap (λ (t : LeaseTable). t.lease) c.self.view_is) (c.pass-sums.ensures.moment ∙ time)
    (c.pass-sums.ensures.entries ∙ ap (λ k. after_lapse k c.self.inside.clients.entries) time ∙ ap (λ (t : LeaseTable). after_lapse (max c.args.now moment) t.entries) c.self.view_is)

pub returns-clause-freed : goal.returns-clause-freed
returns-clause-freed c = rw (c.pass-sums.ensures.moment, c.pass-sums.ensures.entries) (trimmed-lapse c.max-time.result c.self.inside.clients.entries)
