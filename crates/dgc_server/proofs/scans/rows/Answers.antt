use Rattle.std.proofs.Common.{◌++◌, map, filter, take, get_or, ap, sym, ◌∙◌}
use Rattle.std.proofs.lemmas.List.{map-append}
use Rattle.std.proofs.lemmas.List.Elements.{filter-append}
use Rattle.dgc_server.specs.declared.clients.Chunk.{Chunk}
use Rattle.dgc_server.specs.Entry.{has_time_left, row_of}
use Rattle.dgc_server.specs.Chunks.{all_of}
use Rattle.dgc_server.proofs.Moving.{take-chunk}
use Rattle.dgc_server.proofs.scans.rows.Goals as goal

pub loop-chunk-preserved : goal.loop-chunk-preserved
loop-chunk-preserved c =
    let cs = c.chunks-chunks.result.now in
    let x = c.chunk-item.result in
    let t = c.args.time in
    let front = all_of (take c.loop-chunk.chunk-index cs) in
    let own = (get_or cs c.loop-chunk.chunk-index x).entries.items in
    c.in_ok-append_rows.ensures
    ∙ ap (λ l. c.loop-chunk.rows ++ map row_of (filter (has_time_left t) l)) c.deref.ensures.value
    ∙ ap (λ (y : Chunk). c.loop-chunk.rows ++ map row_of (filter (has_time_left t) y.entries.items)) c.chunk-item.is
    ∙ ap (λ l. l ++ map row_of (filter (has_time_left t) own)) c.loop-chunk.invariant
    ∙ sym (map-append row_of (filter (has_time_left t) front) (filter (has_time_left t) own)) ∙ ap (map row_of) (sym (filter-append (has_time_left t) front own))
    ∙ ap (λ l. map row_of (filter (has_time_left t) l)) (sym (take-chunk cs c.loop-chunk.chunk-index x c.loop-chunk-test.true))
