use Rattle.std.proofs.Common.{rules}
use Rattle.std.proofs.lemmas.Fn.{filter_same}
use Rattle.dgc_server.specs.Chunks.{is_filled}
use Rattle.dgc_server.proofs.board.retain_filled.Goals as goal

pub returns : goal.returns
returns c = filter_same _ is_filled _ (λ x b f' h. search rules) _ _ c.retain.ensures.filtered
