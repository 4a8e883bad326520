use Rattle.std.proofs.Common.{◌≡◌, ◌∙◌, ◌≤◌, length, ap, ap₂, sym, true, fold, arith, List}
use Rattle.clap.specs.Words.{App, Shape, app_of, with_subcommand}
use Rattle.clap.specs.Simple.{app_of_fields, on_top}
use Rattle.rmi_words.specs.Entries.{Entry}
use Rattle.rmi_words.specs.Program.{bare_program, with_command}
use Rattle.rmi_words.proofs.Declaring.{one_more, no_more}
use Rattle.rmi_words.proofs.declared.declared_program.Goals as goal

pub loop-entry-preserved : goal.loop-entry-preserved
loop-entry-preserved c =
    let shape = ap (λ (a : App). a.top) c.in_ok-declared_command.ensures.app in
    let added = c.in_ok-declared.ensures.shape c.in_ok-declared_command.ensures.local in
    one_more _ _ _ _ _ c.loop-entry-test.true (added ∙ ap (λ (s : Shape). with_subcommand (app_of c.loop-entry.declared) s) shape) ∙ c.loop-entry.invariant

pub returns : goal.returns
returns c =
    let bare : app_of c.subcommand_required-declared.result ≡ bare_program =
    ap app_of_fields c.subcommand_required-declared.ensures ∙ ap (on_top (λ s. record s { subcommand_required = true }))
    (ap app_of_fields c.disable_help_subcommand.ensures ∙ ap (on_top (λ s. record s { disable_help_subcommand = true }))
    (ap app_of_fields c.disable_help_flag.ensures ∙ ap (on_top (λ s. record s { disable_help_flag = true }))
    (ap app_of_fields c.no_binary_name.ensures ∙ ap (on_top (λ s. record s { no_binary_name = true })) c.new.ensures.app))) in
    let done : length c.commands-entry-items.result.now ≤ c.loop-entry.entry-index = omega (arith, c.loop-entry-test.false) in
    sym (no_more _ _ _ done) ∙ c.loop-entry.invariant
    ∙ ap₂ (λ (a : App) (es : List Entry). fold with_command a es) bare c.commands-entry-items.ensures
