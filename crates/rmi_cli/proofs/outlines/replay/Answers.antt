use Rattle.std.proofs.Common.{refl, inl, ap, ◌∙◌}
use Rattle.std.proofs.lemmas.Result.{err_from_is_err_and}
use Rattle.history.specs.declared.asks.SpaceConfig.{SpaceConfig}
use Rattle.rmi_cli.proofs.Replaying.{no_config, no_first_line, outlined, not_all}
use Rattle.rmi_cli.proofs.outlines.replay.Goals as goal

pub returns-in_default : goal.returns-in_default
returns-in_default c = inl (refl, no_first_line c.args.input.now c.in_default.ensures)

pub returns-in_default-read_first_line : goal.returns-in_default-read_first_line
returns-in_default-read_first_line c =
    inl (refl, no_config c.args.input.now c.in-Some.line.now c.in-Some.lines.now c.in-Some.ensures.0 c.in-Some.ensures.1 c.in_default-read_first_line.ensures)

pub returns-in_err-take_lines : goal.returns-in_err-take_lines
returns-in_err-take_lines c =
    let p = err_from_is_err_and c.from_residual.result c.from_residual.ensures.1 in
    rw (p.1, p.2)
    (not_all c.args.input.now c.in-Some-read_first_line.config c.in-Some.lines.now _ c.take_lines.new.space.events
    (c.in-Some.line.now, c.in-Some-read_first_line.ensures, c.in-Some.ensures.1) (rw c.fresh-space.ensures at (c.in_err-take_lines.ensures {u = tt}).goes))

pub returns : goal.returns
returns c =
    outlined c.args.input.now c.in-Some-read_first_line.config c.in-Some.lines.now c.in_ok-outline.field-0 c.take_lines.new.space.events
    (c.in-Some.line.now, c.in-Some-read_first_line.ensures, c.in-Some.ensures.1) (rw c.fresh-space.ensures at c.in_ok-take_lines.ensures.goes) (rw c.in_ok-take_lines.ensures.config at c.in_ok-outline.ensures)

pub outline-requires : goal.outline-requires
outline-requires c = record { stored = ap (λ (k : SpaceConfig). k.stored) (c.in_ok-take_lines.ensures {u = tt}).config ∙ c.in-Some-read_first_line.ensures.1.1 }
