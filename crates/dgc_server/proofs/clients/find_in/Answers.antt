use Rattle.std.proofs.Common.{ap, sym, ◌∙◌}
use Rattle.dgc_server.specs.StandsForCalls.{is_in_order}
use Rattle.dgc_server.specs.Table.{entry_of}
use Rattle.dgc_server.proofs.Chunked.{order-chunk}
use Rattle.dgc_server.proofs.clients.find_in.Goals as goal

pub find-requires : goal.find-requires
find-requires c =
    ap is_in_order c.deref.ensures.value
    ∙ order-chunk c.args.chunks.now c.chunk_of-i.result c.index-chunks-i.result c.chunk_of-i.ensures.bound c.requires.ordered

pub returns : goal.returns
returns c =
    c.chunk_of-i.ensures.entry c.index-chunks-i.result
    ∙ ap (λ l. entry_of l c.args.client.now) (sym c.deref.ensures.value) ∙ c.find.ensures
