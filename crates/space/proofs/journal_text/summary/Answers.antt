use Rattle.std.proofs.Common.{◌≡◌, ℕ, ◌++◌, length, ap, ◌∙◌, rules}
use Rattle.journal.specs.Rows.{events_text}
use Rattle.space.proofs.Bindings.{bindings-counted}
use Rattle.space.proofs.SummaryLaws.{summarized}
use Rattle.space.proofs.journal_text.summary.Goals as goal

pub returns : goal.returns
returns c =
    let count : c.len.result ≡ length c.space.inside.tables.events.items = search rules in
    let gone : c.len-4.result ≡ length c.space.inside.tables.withdrawn.items = search rules in
    summarized c.space.inside.tables.config c.space.inside.tables.events.items c.space.inside.tables.leases c.space.inside.tables.exports c.space.inside.tables.runs.items c.space.inside.tables.withdrawn.items c.space.inside.tables.reported c.space.inside.tables.added c.space.inside.tables.units c.space.inside.tables.moment
    c.in_ok-clients.clients (record { objects = c.from.result; clients = c.len-2.result; pairs = c.from-2.result; awaiting = c.from-3.result; names = c.from-4.result; withdrawn = c.len-4.result })
    c.new-text.result c.put_events_line.new.out c.put_counts.new.text c.args.space.now c.space.view_is c.space.invariant.0
    c.in_ok-clients.ensures (λ lease m calls stands. c.from-2.ensures ∙ c.pairs.ensures lease m calls stands)
    (c.from.ensures ∙ c.count.ensures.value) c.len-2.ensures (c.from-3.ensures ∙ c.waiting_count.ensures) (c.from-4.ensures ∙ c.len-3.ensures.value ∙ bindings-counted c.space.inside.tables.config c.space.inside.tables.events.items c.space.inside.tables.names c.space.invariant.2) gone
    c.new-text.ensures ((c.in_ok-put_events_line.ensures {u = tt}).ok ∙ ap (λ (n : ℕ). c.new-text.result ++ events_text n c.space.inside.tables.units c.space.inside.tables.moment) count)
    (c.in_ok-put_counts.ensures {u = tt})
