use Rattle.std.proofs.Common.{◌≡◌, ◌++◌, ℕ, List, length, max, sym, subst, ◌∙◌, arith, Option}
use Rattle.std.specs.Prelude.{true, false, option_and_then}
use Rattle.history.specs.declared.calls.Call.{Call}
use Rattle.history.specs.declared.replies.Refused.{Refused}
use Rattle.history.specs.LeaseCalls.{call_with}
use Rattle.history.specs.Names.{name_in, is_name_change}
use Rattle.dgc_server.specs.StandsForCalls.{StandsFor}
use Rattle.export_table.specs.ExportRows.{is_exported}
use Rattle.rmi_registry.specs.Bindings.{object_of}
use Rattle.space.specs.Acts.{lease_refusal, name_refusal, Agrees}
use Rattle.space.proofs.Bindings.{no-call, names-unrefused, alone}
use Rattle.space.proofs.tables.Tables.settle.Goals as goal

pub returns-in_ok-rename-clause-ok : goal.returns-in_ok-rename-clause-ok
returns-in_ok-rename-clause-ok c lease moment calls s le =
    let P : List Call → Type 0 = λ cs. StandsFor lease c.lapse.new.self c.args.now (cs ++ calls) in
    let Q : ℕ → Type 0 = λ n. StandsFor lease c.lapse.new.self n calls in
    let late : max c.args.now moment ≡ c.args.now = omega (arith, le) in
    let change : is_name_change c.args.ask.now ≡ true = sym c.changes_name.ensures ∙ c.if-changes_name.true in
    subst P (sym (no-call (is_exported c.args.self.now.exports.rows) c.args.now c.args.ask.now change)) (subst Q late (c.lapse.ensures.stands lease moment calls s))

pub returns-else-changes_name-clause-refusal : goal.returns-else-changes_name-clause-refusal
returns-else-changes_name-clause-refusal c lease moment calls s le =
    let P : Option Refused → Type 0 = λ o. Agrees o c.tell.result in
    let change : is_name_change c.args.ask.now ≡ false = sym c.changes_name.ensures ∙ c.if-changes_name.false in
    subst P (alone (lease_refusal lease c.args.now calls (call_with (is_exported c.args.self.now.exports.rows) c.args.now c.args.ask.now))
    (name_refusal (length c.args.self.now.names) (option_and_then (object_of c.args.self.now.names) (name_in c.args.ask.now)) c.args.effective c.args.ask.now)
    (names-unrefused (length c.args.self.now.names) (option_and_then (object_of c.args.self.now.names) (name_in c.args.ask.now)) c.args.effective c.args.ask.now change))
    (c.tell.ensures.refusal lease moment calls s le)
