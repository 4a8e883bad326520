use Rattle.std.proofs.Common.{◌≡◌, length, map, ap, sym, subst, ◌∙◌, arith, true}
use Rattle.std.specs.Prelude.{filter}
use Rattle.dgc_server.specs.declared.holders.Count.{Count}
use Rattle.dgc_server.specs.declared.table.Sums.{Sums}
use Rattle.dgc_server.specs.Entry.{entry_without, is_entry_kept, has_time_left}
use Rattle.dgc_server.specs.Table.{after_lapse, remembered_count}
use Rattle.dgc_server.specs.StandsForCalls.{LeaseTable, is_in_order}
use Rattle.dgc_server.specs.HolderIndex.{Naming, counted_at, is_counted, entry_names, sums_at}
use Rattle.dgc_server.proofs.SumLaws.{sums-are}
use Rattle.dgc_server.proofs.Walking.{rest_of, all-kept, leased-dropped, pairs-dropped}
use Rattle.dgc_server.proofs.IndexLaws.{forgotten, kept-counted}
use Rattle.dgc_server.proofs.Dropping.{dropped-lapses, settled-dropped, fewer-dropped, table-dropped}
use Rattle.dgc_server.proofs.Together.{sound-dropped}
use Rattle.dgc_server.proofs.leases.Leases.drop_object.Goals as goal

pub invariant_of-self : goal.invariant_of-self
invariant_of-self c =
    let m = c.self.inside.clients.moment in
    let o = c.args.object in
    let es = c.self.inside.clients.entries in
    let rest = map (entry_without o) es in
    let settled = c.self.invariant.1.settled c.self.invariant.3 in
    let named : c.count_of-count.result.clients ≡ length (filter (entry_names o) es) = ap (λ (n : Count). n.clients) c.count_of-count.ensures ∙ c.self.invariant.1.counted Naming o in
    let pairs : c.sums_without-self-inside.result.pairs ≡ remembered_count m (rest_of o m es) =
    (let all = pairs-dropped o m c.self.inside.clients.next es settled c.self.invariant.0.noted c.self.invariant.0.once in
    let before : c.self.inside.sums.pairs ≡ remembered_count m es = ap (λ (s : Sums). s.pairs) c.self.invariant.2 in
    let after = c.sums_without-self-inside.ensures.pairs in omega arith) in (
      rw (c.drop_object.ensures.moment, c.drop_object.ensures.entries) (sound-dropped m c.self.inside.clients.next c.self.inside.lease o es settled c.self.invariant.0),
      rw (c.drop_object.ensures.moment, c.drop_object.ensures.next) record {
        settled = λ h. rw c.drop_object.ensures.entries (settled-dropped m c.self.inside.clients.next o es settled);
        counted = λ w p. forgotten m o w es (counted_at w c.self.inside.counts) (counted_at w c.forget.new.counts) (c.self.invariant.1.counted w) (c.forget.ensures w) p
            ∙ sym (kept-counted m p w rest) ∙ ap (λ l. length (filter (is_counted w m p) l)) (sym c.drop_object.ensures.entries);
      },
      rw c.drop_object.ensures.moment (sums-are c.sums_without-self-inside.result (length (filter (has_time_left m) (rest_of o m es))) (remembered_count m (rest_of o m es))
          (c.sums_without-self-inside.ensures.leased ∙ ap (λ (s : Sums). s.leased) c.self.invariant.2 ∙ sym (leased-dropped o m es)) pairs
          ∙ ap (sums_at m) (sym c.drop_object.ensures.entries)),
      rw (c.drop_object.ensures.moment, c.drop_object.ensures.next) c.self.invariant.3,
    )

pub returns-clause-stands : goal.returns-clause-stands
returns-clause-stands c lease moment calls s =
    let P : LeaseTable → Type 0 = λ t. is_in_order t.entries ≡ true in
    let m : c.self.inside.clients.moment ≡ moment = ap (λ (t : LeaseTable). t.moment) c.self.view_is ∙ s.is_moment in
    table-dropped c.args.object lease moment c.args.self.now _ calls s (subst P c.self.view_is c.self.invariant.0.ordered)
    (ap (λ (t : LeaseTable). t.lease) c.self.view_is) (c.drop_object.ensures.moment ∙ ap (λ (t : LeaseTable). t.moment) c.self.view_is)
    (c.drop_object.ensures.entries ∙ dropped-lapses c.self.inside.clients.moment c.self.inside.clients.next c.args.object c.self.inside.clients.entries (c.self.invariant.1.settled c.self.invariant.3)
    ∙ ap (λ k. after_lapse k (map (entry_without c.args.object) c.self.inside.clients.entries)) m
    ∙ ap (λ (t : LeaseTable). after_lapse moment (map (entry_without c.args.object) t.entries)) c.self.view_is)

pub returns-clause-fewer : goal.returns-clause-fewer
returns-clause-fewer c =
    let same = c.drop_object.ensures.entries ∙ ap (λ (t : LeaseTable). filter (is_entry_kept c.self.inside.clients.moment) (map (entry_without c.args.object) t.entries)) c.self.view_is in
    let long = ap length same in let fewer = fewer-dropped c.self.inside.clients.moment c.args.object c.args.self.now.entries in omega arith

pub drop_object-requires-clause-kept : goal.drop_object-requires-clause-kept
drop_object-requires-clause-kept c = all-kept c.self.inside.clients.moment c.self.inside.clients.next c.self.inside.clients.entries (c.self.invariant.1.settled c.self.invariant.3)

pub drop_object-requires-clause-counted : goal.drop_object-requires-clause-counted
drop_object-requires-clause-counted c = ap (λ (n : Count). n.clients) c.count_of-count.ensures ∙ c.self.invariant.1.counted Naming c.args.object

pub sums_without-self-inside-requires : goal.sums_without-self-inside-requires
sums_without-self-inside-requires c =
    let m = c.self.inside.clients.moment in
    let es = c.self.inside.clients.entries in
    let named : c.count_of-count.result.clients ≡ length (filter (entry_names c.args.object) es) = ap (λ (n : Count). n.clients) c.count_of-count.ensures ∙ c.self.invariant.1.counted Naming c.args.object in
    let all = pairs-dropped c.args.object m c.self.inside.clients.next es (c.self.invariant.1.settled c.self.invariant.3) c.self.invariant.0.noted c.self.invariant.0.once in
    let pairs : c.self.inside.sums.pairs ≡ remembered_count m es = ap (λ (s : Sums). s.pairs) c.self.invariant.2 in omega arith
