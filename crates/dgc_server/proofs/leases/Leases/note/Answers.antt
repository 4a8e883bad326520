use Rattle.std.proofs.Common.{◌≡◌, ◌+◌, ◌≤◌, List, length, ap, sym, subst, ◌∙◌, arith}
use Rattle.std.specs.Prelude.{IsTrue, filter, min, nat_lt, if◌then◌else◌}
use Rattle.object_ids.specs.Client.{Client}
use Rattle.history.specs.declared.limits.TheConstants.{MAX_CLIENTS, MAX_PAIRS}
use Rattle.history.specs.Leases.{is_dirty_kind}
use Rattle.dgc_server.specs.declared.table.Sums.{Sums}
use Rattle.dgc_server.specs.Entry.{Entry, has_time_left, remembered_of}
use Rattle.dgc_server.specs.Table.{entry_of, with_entry, after_lapse, remembered_count, clients_after, pairs_after}
use Rattle.dgc_server.specs.StandsForCalls.{LeaseTable, IsSound, entry_after}
use Rattle.dgc_server.specs.HolderIndex.{Naming, is_counted, one_if, sums_at, entry_sums}
use Rattle.dgc_server.proofs.Told.{no-more}
use Rattle.dgc_server.proofs.SumLaws.{own-leased, own-remembered, sums-with}
use Rattle.object_ids.specs.declared.ids.ObjId.{ObjId}
use Rattle.dgc_server.proofs.Few.{few-holders, few-noted}
use Rattle.dgc_server.proofs.HolderLaws.{each-way}
use Rattle.dgc_server.proofs.Walking.{rest_of, pairs-dropped}
use Rattle.dgc_server.proofs.IndexLaws.{settled-with}
use Rattle.dgc_server.proofs.Kept.{is_once, all_numbered, all_objects_once, numbered-with-noted, numbered-noted, each-with, once-entry, once-noted, remembered-noted}
use Rattle.dgc_server.proofs.Objects.{once-after}
use Rattle.dgc_server.proofs.Ordered.{client-of, order-with}
use Rattle.dgc_server.proofs.Tables.{order-lapse}
use Rattle.dgc_server.proofs.leases.Leases.note.Goals as goal

pub note-requires-clause-few : goal.note-requires-clause-few
note-requires-clause-few c =
    let es = c.self.inside.clients.entries in
    let m = c.self.inside.clients.moment in
    each-way (λ w. (o : ObjId) → length (filter (is_counted w m o) es) ≤ 262144)
    (λ o. (let few : length (filter (has_time_left m) es) ≤ 65536 = c.self.invariant.0.few in few-holders m m o es 262144 (omega arith) (omega (arith, few))))
    (λ o. (let all : remembered_count m (rest_of o m es) + length (filter (is_counted Naming m o) es) ≡ remembered_count m es =
    pairs-dropped o m c.self.inside.clients.next es (c.self.invariant.1.settled c.self.invariant.3) c.self.invariant.0.noted c.self.invariant.0.once in
    let small : remembered_count m es ≤ 262144 = c.self.invariant.0.small in omega (arith, all, small)))

pub sums_with-with-requires-clause-leased : goal.sums_with-with-requires-clause-leased
sums_with-with-requires-clause-leased c =
    let es = c.self.inside.clients.entries in
    let client = c.args.client.now in
    let before : c.in_ok-noted.noted.before ≡ entry_sums c.self.inside.clients.moment (entry_of es client) =
    c.in_ok-noted.ensures.noted.before in
    let own : c.in_ok-noted.noted.before.leased ≡ one_if (has_time_left c.self.inside.clients.moment (entry_of es client)) = ap (λ (s : Sums). s.leased) before in
    let all : c.self.inside.sums.leased ≡ length (filter (has_time_left c.self.inside.clients.moment) es) = ap (λ (s : Sums). s.leased) c.self.invariant.2 in
    let least = own-leased c.self.inside.clients.moment es client in omega arith

pub sums_with-with-requires-clause-pairs : goal.sums_with-with-requires-clause-pairs
sums_with-with-requires-clause-pairs c =
    let es = c.self.inside.clients.entries in
    let client = c.args.client.now in
    let before : c.in_ok-noted.noted.before ≡ entry_sums c.self.inside.clients.moment (entry_of es client) =
    c.in_ok-noted.ensures.noted.before in
    let own : c.in_ok-noted.noted.before.pairs ≡ remembered_of c.self.inside.clients.moment (entry_of es client) = ap (λ (s : Sums). s.pairs) before in
    let all : c.self.inside.sums.pairs ≡ remembered_count c.self.inside.clients.moment es = ap (λ (s : Sums). s.pairs) c.self.invariant.2 in
    let least = own-remembered c.self.inside.clients.moment es client in omega arith

pub pass-sums-requires-clause-once : goal.pass-sums-requires-clause-once
pass-sums-requires-clause-once c =
    let es = c.self.inside.clients.entries in
    let client = c.args.client.now in
    let next : Entry = entry_after c.args.granted c.args.kind c.args.number.now c.as_slice-named.result.now c.args.time (entry_of es client) in
    let entries : c.note.new.self.entries ≡ with_entry next es = c.in_ok-noted.ensures.ok in
    ap all_objects_once entries
    ∙ each-with is_once next es (once-after (has_time_left c.args.time (entry_of es client)) c.args.kind c.args.number.now c.as_slice-named.result.now (entry_of es client).objects (once-entry es client c.self.invariant.0.once)) c.self.invariant.0.once

pub pass-sums-requires-clause-indexed : goal.pass-sums-requires-clause-indexed
pass-sums-requires-clause-indexed c =
    let es = c.self.inside.clients.entries in
    let client = c.args.client.now in
    let next : Entry = entry_after c.args.granted c.args.kind c.args.number.now c.as_slice-named.result.now c.args.time (entry_of es client) in
    let entries : c.note.new.self.entries ≡ with_entry next es = c.in_ok-noted.ensures.ok in
    let late : c.self.inside.clients.moment ≤ c.args.time = (let P : LeaseTable → Type 0 = λ t. t.moment ≤ c.args.time in subst P (sym c.self.view_is) c.requires.late) in
    let bound_is : c.note.new.self.next ≡ (if has_time_left c.args.time next then min c.self.inside.clients.next next.until else 0) =
    c.in_ok-noted.ensures.next ∙ ap (λ u. if nat_lt c.args.time u then min c.self.inside.clients.next u else 0) c.in_ok-noted.ensures.noted.until in
    rw (c.in_ok-noted.ensures.moment, entries, bound_is) record {
      settled = settled-with c.self.inside.clients.moment c.self.inside.clients.next c.args.time next es late c.self.invariant.1.settled;
      counted = λ w o. c.in_ok-noted.ensures.counted w o ∙ ap (λ l. length (filter (is_counted w c.self.inside.clients.moment o) l)) entries;
    }

pub pass-sums-requires-clause-numbered : goal.pass-sums-requires-clause-numbered
pass-sums-requires-clause-numbered c =
    let es = c.self.inside.clients.entries in
    let client = c.args.client.now in
    let next : Entry = entry_after c.args.granted c.args.kind c.args.number.now c.as_slice-named.result.now c.args.time (entry_of es client) in
    let entries : c.note.new.self.entries ≡ with_entry next es = c.in_ok-noted.ensures.ok in
    ap all_numbered entries ∙ numbered-with-noted c.args.time c.args.granted c.args.kind client c.args.number.now c.as_slice-named.result.now es c.self.invariant.0.noted

pub pass-sums-requires-clause-few : goal.pass-sums-requires-clause-few
pass-sums-requires-clause-few c =
    let es = c.self.inside.clients.entries in
    let m = c.self.inside.clients.moment in
    let leased : c.self.inside.sums.leased ≡ length (filter (has_time_left m) es) = ap (λ (s : Sums). s.leased) c.self.invariant.2 in
    let pairs : c.self.inside.sums.pairs ≡ remembered_count m es = ap (λ (s : Sums). s.pairs) c.self.invariant.2 in
    let few : length (filter (has_time_left m) es) ≤ 65536 = c.self.invariant.0.few in
    let small : remembered_count m es ≤ 262144 = c.self.invariant.0.small in
    let more = c.sums_with-with.ensures.leased in
    let most = c.sums_with-with.ensures.pairs in
    let one = c.in_ok-noted.ensures.noted.small in (omega (arith, more, one.0, leased, few), omega (arith, most, one.1, pairs, small))

pub pass-sums-requires-clause-sums : goal.pass-sums-requires-clause-sums
pass-sums-requires-clause-sums c =
    let es = c.self.inside.clients.entries in
    let client = c.args.client.now in
    let next : Entry = entry_after c.args.granted c.args.kind c.args.number.now c.as_slice-named.result.now c.args.time (entry_of es client) in
    let entries : c.note.new.self.entries ≡ with_entry next es = c.in_ok-noted.ensures.ok in
    let m = c.self.inside.clients.moment in
    let before : c.in_ok-noted.noted.before ≡ entry_sums m (entry_of es client) = c.in_ok-noted.ensures.noted.before in
    let after : c.in_ok-noted.noted.after ≡ entry_sums m next =
    c.in_ok-noted.ensures.noted.after in
    let all = c.self.invariant.2 in
    let leased : c.sums_with-with.result.leased + c.in_ok-noted.noted.before.leased ≡ length (filter (has_time_left m) es) + one_if (has_time_left m next) =
    c.sums_with-with.ensures.leased ∙ ap (λ (s : Sums). s.leased + c.in_ok-noted.noted.after.leased) all ∙ ap (λ (s : Sums). length (filter (has_time_left m) es) + s.leased) after in
    let pairs : c.sums_with-with.result.pairs + c.in_ok-noted.noted.before.pairs ≡ remembered_count m es + remembered_of m next =
    c.sums_with-with.ensures.pairs ∙ ap (λ (s : Sums). s.pairs + c.in_ok-noted.noted.after.pairs) all ∙ ap (λ (s : Sums). remembered_count m es + s.pairs) after in
    rw (c.in_ok-noted.ensures.moment) (sums-with m next es c.in_ok-noted.noted.before c.sums_with-with.result c.self.invariant.0.ordered (before ∙ ap (λ (d : Client). entry_sums m (entry_of es d)) (sym (client-of es client))) leased pairs
    ∙ ap (sums_at m) (sym entries))

pub invariant_of-self-2 : goal.invariant_of-self-2
invariant_of-self-2 c =
    let es = c.self.inside.clients.entries in
    let client = c.args.client.now in
    let next : Entry = entry_after c.args.granted c.args.kind c.args.number.now c.as_slice-named.result.now c.args.time (entry_of es client) in
    let noted_entries : c.note.new.self.entries ≡ with_entry next es = c.in_ok-noted.ensures.ok in
    let late : c.self.inside.clients.moment ≤ c.args.time = (let P : LeaseTable → Type 0 = λ t. t.moment ≤ c.args.time in subst P (sym c.self.view_is) c.requires.late) in
    let room : IsTrue (is_dirty_kind c.args.kind) → clients_after es c.args.client.now c.args.time ≤ MAX_CLIENTS =
    (let P : LeaseTable → Type 0 = λ t. IsTrue (is_dirty_kind c.args.kind) → clients_after t.entries c.args.client.now c.args.time ≤ MAX_CLIENTS in subst P (sym c.self.view_is) c.requires.room) in
    let entries : c.pass-sums.new.self.entries ≡ after_lapse c.args.time (with_entry next es) = c.pass-sums.ensures.entries ∙ ap (after_lapse c.args.time) noted_entries in
    let moment = c.pass-sums.ensures.moment in
    let P : List Entry → Type 0 = λ l. IsSound c.self.inside.lease c.args.time l in (
      rw moment (subst P (sym entries) record {
        some = c.self.invariant.0.some;
        short = c.self.invariant.0.short;
        early = c.requires.early;
        ordered = order-lapse c.args.time (with_entry next es) (order-with next es c.self.invariant.0.ordered);
        few = few-noted c.self.inside.clients.moment c.args.time c.args.granted c.args.kind c.args.client.now c.args.number.now c.as_slice-named.result.now es MAX_CLIENTS late c.self.invariant.0.ordered c.self.invariant.0.few room;
        once = once-noted c.args.time c.args.granted c.args.kind c.args.client.now c.args.number.now c.as_slice-named.result.now es c.self.invariant.0.once;
        noted = numbered-noted c.args.time c.args.granted c.args.kind c.args.client.now c.args.number.now c.as_slice-named.result.now es c.self.invariant.0.noted;
        small = (let fewer = remembered-noted c.args.time c.args.granted c.args.kind c.args.client.now c.args.number.now c.as_slice-named.result.now es c.self.invariant.0.ordered c.self.invariant.0.once in
            let few : pairs_after c.args.time es c.args.client.now c.args.kind c.as_slice-named.result.now ≤ MAX_PAIRS =
            no-more MAX_PAIRS _ (λ h. (let past = c.is_past_pairs.ensures.1 h in let none = c.if-is_past_pairs.false in absurd (cc))) in omega arith);
      }),
      rw moment c.pass-sums.ensures.indexed,
      rw moment c.pass-sums.ensures.sums,
      rw moment c.pass-sums.ensures.later,
    )
