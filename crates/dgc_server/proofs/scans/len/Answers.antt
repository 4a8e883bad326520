use Rattle.std.proofs.Common.{rules, ◌≡◌, ◌+◌, length, take, get_or, ap, sym, ◌∙◌, arith}
use Rattle.std.proofs.lemmas.List.{length-append}
use Rattle.dgc_server.specs.declared.clients.Chunk.{Chunk}
use Rattle.dgc_server.specs.Chunks.{all_of}
use Rattle.dgc_server.proofs.Moving.{take-chunk}
use Rattle.dgc_server.proofs.scans.len.Goals as goal

pub loop-chunk-preserved : goal.loop-chunk-preserved
loop-chunk-preserved c =
    let cs = c.chunks-chunks.result.now in
    let x = c.chunk-item.result in
    let front = all_of (take c.loop-chunk.chunk-index cs) in
    let own = (get_or cs c.loop-chunk.chunk-index x).entries.items in
    let this : c.len.result ≡ length own = search rules ∙ ap (λ (y : Chunk). length y.entries.items) c.chunk-item.is in
    let within = c.loop-chunk.invariant.within in record {
      counted = ap (λ n. n + c.len.result) c.loop-chunk.invariant.counted ∙ ap (λ n. length front + n) this ∙ sym (length-append front own)
          ∙ ap length (sym (take-chunk cs c.loop-chunk.chunk-index x c.loop-chunk-test.true));
      within = omega arith;
    }
