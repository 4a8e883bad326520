use Rattle.std.proofs.Common.{◌≡◌, ◌+◌, drop, get_or, ap, sym, ◌∙◌, arith}
use Rattle.std.specs.Prelude.{◌||◌, true, false}
use Rattle.std.specs.List.{list_any}
use Rattle.std.proofs.lemmas.List.Folds.{list_any-append}
use Rattle.dgc_server.specs.declared.clients.Chunk.{Chunk}
use Rattle.dgc_server.specs.Entry.{entry_holds}
use Rattle.dgc_server.specs.Chunks.{all_of}
use Rattle.dgc_server.proofs.Moving.{drop-chunk, drop-end}
use Rattle.dgc_server.proofs.scans.is_held.Goals as goal

pub loop-chunk-preserved : goal.loop-chunk-preserved
loop-chunk-preserved c =
    let cs = c.chunks-chunks.result.now in
    let i = c.loop-chunk.chunk-index in
    let x = c.chunk-item.result in
    let p = entry_holds c.args.time c.args.object.now in
    let own : list_any p (get_or cs i x).entries.items ≡ false =
    ap (λ (y : Chunk). list_any p y.entries.items) (sym c.chunk-item.is) ∙ ap (list_any p) (sym c.deref.ensures.value) ∙ sym c.is_held.ensures ∙ c.if-is_held.false in
    sym (ap (list_any p) (drop-chunk cs i x c.loop-chunk-test.true) ∙ list_any-append p (get_or cs i x).entries.items (all_of (drop (i + 1) cs))
    ∙ ap (λ b. b || list_any p (all_of (drop (i + 1) cs))) own) ∙ c.loop-chunk.invariant

pub returns-then-is_held : goal.returns-then-is_held
returns-then-is_held c =
    let cs = c.chunks-chunks.result.now in
    let i = c.loop-chunk.chunk-index in
    let x = c.chunk-item.result in
    let p = entry_holds c.args.time c.args.object.now in
    let own : list_any p (get_or cs i x).entries.items ≡ true =
    ap (λ (y : Chunk). list_any p y.entries.items) (sym c.chunk-item.is) ∙ ap (list_any p) (sym c.deref.ensures.value) ∙ sym c.is_held.ensures ∙ c.if-is_held.true in
    sym (ap (list_any p) (drop-chunk cs i x c.loop-chunk-test.true) ∙ list_any-append p (get_or cs i x).entries.items (all_of (drop (i + 1) cs))
    ∙ ap (λ b. b || list_any p (all_of (drop (i + 1) cs))) own) ∙ c.loop-chunk.invariant ∙ ap (list_any p) c.chunks-chunks.ensures.all

pub returns : goal.returns
returns c =
    let cs = c.chunks-chunks.result.now in
    let p = entry_holds c.args.time c.args.object.now in
    let stop = c.loop-chunk-test.false in
    sym (ap (list_any p) (drop-end cs c.loop-chunk.chunk-index (omega arith))) ∙ c.loop-chunk.invariant ∙ ap (list_any p) c.chunks-chunks.ensures.all
