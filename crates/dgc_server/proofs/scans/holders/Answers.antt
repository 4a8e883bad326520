use Rattle.std.proofs.Common.{◌≡◌, ◌+◌, length, filter, take, get_or, ap, sym, ◌∙◌, arith}
use Rattle.dgc_server.specs.declared.clients.Chunk.{Chunk}
use Rattle.dgc_server.specs.Entry.{entry_holds}
use Rattle.dgc_server.specs.Chunks.{all_of}
use Rattle.dgc_server.proofs.Moving.{take-chunk, many-append}
use Rattle.dgc_server.proofs.scans.holders.Goals as goal

pub loop-chunk-preserved : goal.loop-chunk-preserved
loop-chunk-preserved c =
    let cs = c.chunks-chunks.result.now in
    let x = c.chunk-item.result in
    let p = entry_holds c.args.time c.args.object.now in
    let front = all_of (take c.loop-chunk.chunk-index cs) in
    let own = (get_or cs c.loop-chunk.chunk-index x).entries.items in
    let this : c.holders.result ≡ length (filter p own) =
    c.holders.ensures ∙ ap (λ l. length (filter p l)) c.deref.ensures.value ∙ ap (λ (y : Chunk). length (filter p y.entries.items)) c.chunk-item.is in
    let within = c.loop-chunk.invariant.within in record {
      counted = ap (λ n. n + c.holders.result) c.loop-chunk.invariant.counted ∙ ap (λ n. length (filter p front) + n) this ∙ sym (many-append p front own)
          ∙ ap (λ l. length (filter p l)) (sym (take-chunk cs c.loop-chunk.chunk-index x c.loop-chunk-test.true));
      within = omega arith;
    }
