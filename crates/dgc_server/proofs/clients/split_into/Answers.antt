use Rattle.std.proofs.Common.{◌++◌, ap, sym, ◌∙◌}
use Rattle.dgc_server.proofs.clients.split_into.Goals as goal

pub returns-clause-parts : goal.returns-clause-parts
returns-clause-parts c = c.move_back.ensures.parts ∙ ap (λ l. c.move_back.new.entries.items ++ l) (sym c.reverse.ensures.items)
