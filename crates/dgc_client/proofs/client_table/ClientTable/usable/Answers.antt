use Rattle.std.proofs.Common.{ap, sym, ◌∙◌}
use Rattle.std.specs.Prelude.{◌&&◌, nat_lt}
use Rattle.dgc_client.specs.StandsForLog.{Parts}
use Rattle.dgc_client.proofs.Told.{usable-is}
use Rattle.dgc_client.proofs.client_table.ClientTable.usable.Goals as goal

pub returns-then-is_sure : goal.returns-then-is_sure
returns-then-is_sure c client first calls s =
    ap (λ (v : Parts). nat_lt c.args.now v.until) c.self.view_is
    ∙ ap (λ b. b && nat_lt c.args.now (c.args.self.now).until) (sym c.if-is_sure.true ∙ c.is_sure.ensures)
    ∙ usable-is client first c.args.self.now c.args.object c.args.now calls s

pub returns-else-is_sure : goal.returns-else-is_sure
returns-else-is_sure c client first calls s =
    c.if-is_sure.false
    ∙ ap (λ b. b && nat_lt c.args.now (c.args.self.now).until) (sym c.if-is_sure.false ∙ c.is_sure.ensures)
    ∙ usable-is client first c.args.self.now c.args.object c.args.now calls s
