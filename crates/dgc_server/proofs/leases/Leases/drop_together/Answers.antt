use Rattle.std.proofs.Common.{◌≡◌, ◌+◌, ℕ, List, length, map, refl, ap, sym, subst, ◌∙◌, arith}
use Rattle.std.specs.Prelude.{filter, if◌then◌else◌}
use Rattle.object_ids.specs.declared.ids.ObjId.{ObjId}
use Rattle.dgc_server.specs.declared.table.Sums.{Sums}
use Rattle.dgc_server.specs.Entry.{Entry, has_time_left, is_in}
use Rattle.dgc_server.specs.Table.{remembered_count}
use Rattle.dgc_server.specs.StandsForCalls.{LeaseTable, IsSound}
use Rattle.dgc_server.specs.HolderIndex.{Naming, counted_at, is_counted, is_named, with_only, objects_in, sums_at}
use Rattle.dgc_server.proofs.SumLaws.{sums-are}
use Rattle.dgc_server.proofs.Together.{each_dropped, each-settled, each-sound, each-fewer, each-leased, each-counted, each-pairs, together-left, together-pairs, table-together}
use Rattle.dgc_server.proofs.Walking.{all-kept}
use Rattle.dgc_server.proofs.leases.Leases.drop_together.Goals as goal

pub invariant_of-self : goal.invariant_of-self
invariant_of-self c =
    let m = c.self.inside.clients.moment in
    let n = c.self.inside.clients.next in
    let os = c.args.objects.now in
    let es = c.self.inside.clients.entries in
    let f : ObjId → ℕ = λ o. counted_at Naming c.self.inside.counts o in
    let settled = c.self.invariant.1.settled c.self.invariant.3 in
    let left : c.drop_objects.new.self.entries ≡ each_dropped m os es =
    c.drop_objects.ensures.entries ∙ together-left m c.forget_all-gone.new.counts n os es f (c.forget_all-gone.ensures.counts Naming) (c.self.invariant.1.counted Naming) settled in
    let pairs : c.sums_without-self-inside.result.pairs ≡ remembered_count m (each_dropped m os es) =
    (let all = each-pairs m n c.self.inside.lease os es f (c.self.invariant.1.counted Naming) settled c.self.invariant.0 in
    let gone = c.forget_all-gone.ensures.pairs in
    let before : c.self.inside.sums.pairs ≡ remembered_count m es = ap (λ (s : Sums). s.pairs) c.self.invariant.2 in
    let after = c.sums_without-self-inside.ensures.pairs in omega arith) in
    let P : List Entry → Type 0 = λ l. IsSound c.self.inside.lease m l in (
      rw c.drop_objects.ensures.moment (subst P (sym left) (each-sound m n c.self.inside.lease os es settled c.self.invariant.0)),
      rw (c.drop_objects.ensures.moment, c.drop_objects.ensures.next) record {
        settled = λ h. rw left (each-settled m n os es settled);
        counted = λ w p. c.forget_all-gone.ensures.counts w p ∙ ap (λ k. if is_in p os then 0 else k) (c.self.invariant.1.counted w p)
            ∙ sym (each-counted m w os es p) ∙ ap (λ l. length (filter (is_counted w m p) l)) (sym left);
      },
      rw c.drop_objects.ensures.moment (sums-are c.sums_without-self-inside.result (length (filter (has_time_left m) (each_dropped m os es))) (remembered_count m (each_dropped m os es))
          (c.sums_without-self-inside.ensures.leased ∙ ap (λ (s : Sums). s.leased) c.self.invariant.2 ∙ sym (each-leased m os es)) pairs
          ∙ ap (sums_at m) (sym left)),
      rw (c.drop_objects.ensures.moment, c.drop_objects.ensures.next) c.self.invariant.3,
    )

pub returns-clause-stands : goal.returns-clause-stands
returns-clause-stands c lease moment calls s =
    let m = c.self.inside.clients.moment in
    let n = c.self.inside.clients.next in
    let os = c.args.objects.now in
    let es = c.self.inside.clients.entries in
    let f : ObjId → ℕ = λ o. counted_at Naming c.self.inside.counts o in
    let settled = c.self.invariant.1.settled c.self.invariant.3 in
    table-together m n c.self.inside.lease es os c.args.self.now _ calls lease moment s (ap (λ (t : LeaseTable). t.moment) c.self.view_is ∙ s.is_moment) c.self.view_is c.self.invariant.0 settled refl c.drop_objects.ensures.moment
    (c.drop_objects.ensures.entries ∙ together-left m c.forget_all-gone.new.counts n os es f (c.forget_all-gone.ensures.counts Naming) (c.self.invariant.1.counted Naming) settled)

pub returns-clause-fewer : goal.returns-clause-fewer
returns-clause-fewer c =
    let m = c.self.inside.clients.moment in
    let n = c.self.inside.clients.next in
    let os = c.args.objects.now in
    let es = c.self.inside.clients.entries in
    let f : ObjId → ℕ = λ o. counted_at Naming c.self.inside.counts o in
    let settled = c.self.invariant.1.settled c.self.invariant.3 in
    let left = c.drop_objects.ensures.entries ∙ together-left m c.forget_all-gone.new.counts n os es f (c.forget_all-gone.ensures.counts Naming) (c.self.invariant.1.counted Naming) settled in
    let long = ap length left in let before = ap (λ (t : LeaseTable). length t.entries) c.self.view_is in let fewer = each-fewer m os es in omega arith

pub drop_objects-requires-clause-kept : goal.drop_objects-requires-clause-kept
drop_objects-requires-clause-kept c = all-kept c.self.inside.clients.moment c.self.inside.clients.next c.self.inside.clients.entries (c.self.invariant.1.settled c.self.invariant.3)

pub drop_objects-requires-clause-pairs : goal.drop_objects-requires-clause-pairs
drop_objects-requires-clause-pairs c =
    let m = c.self.inside.clients.moment in
    let os = c.args.objects.now in
    let es = c.self.inside.clients.entries in
    let f : ObjId → ℕ = λ o. counted_at Naming c.self.inside.counts o in
    let settled = c.self.invariant.1.settled c.self.invariant.3 in
    ap (λ k. k + objects_in (map (with_only (is_named c.forget_all-gone.new.counts)) es)) c.forget_all-gone.ensures.pairs
    ∙ together-pairs m c.forget_all-gone.new.counts c.self.inside.clients.next c.self.inside.lease os es f (c.forget_all-gone.ensures.counts Naming) (c.self.invariant.1.counted Naming) settled c.self.invariant.0

pub sums_without-self-inside-requires : goal.sums_without-self-inside-requires
sums_without-self-inside-requires c =
    let m = c.self.inside.clients.moment in
    let os = c.args.objects.now in
    let es = c.self.inside.clients.entries in
    let f : ObjId → ℕ = λ o. counted_at Naming c.self.inside.counts o in
    let all = each-pairs m c.self.inside.clients.next c.self.inside.lease os es f (c.self.invariant.1.counted Naming) (c.self.invariant.1.settled c.self.invariant.3) c.self.invariant.0 in
    let gone = c.forget_all-gone.ensures.pairs in
    let before : c.self.inside.sums.pairs ≡ remembered_count m es = ap (λ (s : Sums). s.pairs) c.self.invariant.2 in omega arith
