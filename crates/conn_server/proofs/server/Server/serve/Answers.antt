use Rattle.std.proofs.Common.{◌∙◌}
use Rattle.std.proofs.lemmas.List.Sorted.{IsPermutation-trans}
use Rattle.conn_server.proofs.Closing.{reports_numbered, serves_as}
use Rattle.conn_server.proofs.Ordering.{in_order}
use Rattle.conn_server.proofs.server.Server.serve.Goals as goal

pub returns-clause-served : goal.returns-clause-served
returns-clause-served g c =
    let s = c.serve_with-taker.ensures.given in
    let o = c.in_order-links.ensures in
    let links = s.serves.links in
    let each = reports_numbered _ (λ k p report link. link.by) _ _ 1 links.0 s.links links.4 in
    let same = in_order (λ report. report.by) 1 s.links c.in_order-links.result.0.items each (IsPermutation-trans _ _ _ s.given o.reports) o.order in
    serves_as _ _ _ _ _ _ s.links _ _ _ c.serve_with-taker.result (c.from_vec.ensures ∙ same) (c.from_vec-2.ensures ∙ o.ticks) s.serves
