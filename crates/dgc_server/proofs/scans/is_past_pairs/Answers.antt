use Rattle.std.proofs.Common.{◌≡◌, ◌+◌, ◌≤◌, length, arith, refl}
use Rattle.std.proofs.lemmas.Bool.{ltb-true}
use Rattle.std.specs.Prelude.{Bool, true, false, IsTrue, nat_lt, if◌then◌else◌}
use Rattle.dgc_server.specs.Entry.{has_time_left, call_counts, fresh_of}
use Rattle.dgc_server.specs.Table.{entry_of, fresh_pairs}
use Rattle.dgc_server.proofs.Fresh.{fresh-within}
use Rattle.dgc_server.proofs.scans.is_past_pairs.Goals as goal

pub returns-else-remembered-named : goal.returns-else-remembered-named
returns-else-remembered-named c =
    let few = c.if-remembered-named.false in
    let fresh : fresh_pairs c.args.time c.args.clients.now.entries c.args.client.now c.args.kind c.args.named.now ≤ length c.args.named.now =
    go (call_counts c.args.kind (has_time_left c.args.time (entry_of c.args.clients.now.entries c.args.client.now))) (fresh-within _ c.args.named.now) in
    let all = c.requires.counted in
    (λ h. absurd (past (nat_lt 262144 (c.args.remembered + length c.args.named.now)) refl h), λ h. absurd (omega arith))
  where
    past : (b : Bool) → nat_lt 262144 (c.args.remembered + length c.args.named.now) ≡ b → IsTrue b → ⊥
    past true e h = absurd (let few = c.if-remembered-named.false in let most = ltb-true 262144 (c.args.remembered + length c.args.named.now) e in omega arith)
    past false e h = absurd (cc)

    go : (b : Bool) → fresh_of c.args.time (entry_of c.args.clients.now.entries c.args.client.now) c.args.named.now ≤ length c.args.named.now →
        (if b then fresh_of c.args.time (entry_of c.args.clients.now.entries c.args.client.now) c.args.named.now else 0) ≤ length c.args.named.now
    go true h = h
    go false h = omega arith
