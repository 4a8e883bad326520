use Rattle.std.proofs.Common.{ap, sym, ◌∙◌}
use Rattle.std.specs.Prelude.{insert}
use Rattle.dgc_server.specs.Chunks.{ends_of}
use Rattle.dgc_server.proofs.Skipping.{insert-end}
use Rattle.dgc_server.proofs.board.Board.insert.Goals as goal

pub returns-clause-ends : goal.returns-clause-ends
returns-clause-ends c =
    c.insert_within.ensures ∙ ap (λ l. insert l c.args.at c.args.chunk.least) c.requires.ends ∙ sym (insert-end c.args.self.now.chunks.items c.args.at c.args.chunk)
    ∙ ap ends_of (sym c.insert_within-2.ensures)
