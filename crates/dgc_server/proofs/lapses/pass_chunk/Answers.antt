use Rattle.std.proofs.Common.{◌≡◌, ap, ◌∙◌, arith}
use Rattle.std.specs.Prelude.{filter}
use Rattle.dgc_server.specs.Entry.{is_entry_kept}
use Rattle.dgc_server.specs.Table.{after_lapse}
use Rattle.dgc_server.proofs.IndexLaws.{settled-after}
use Rattle.dgc_server.proofs.Passing.{ends-lapse}
use Rattle.dgc_server.proofs.lapses.pass_chunk.Goals as goal

pub returns-clause-bounded : goal.returns-clause-bounded
returns-clause-bounded c =
    let es = c.args.chunk.now.entries.items in
    let late = c.pass_entries-own.ensures.later in
    let kept : c.keep.new.entries.items ≡ after_lapse c.args.to es = c.keep.ensures ∙ ap (filter (is_entry_kept c.args.to)) c.pass_entries-own.ensures.entries in record {
      settled = λ h. rw kept (settled-after c.args.to c.pass_entries-own.result.next es (ends-lapse c.args.to c.pass_entries-own.result.next es c.pass_entries-own.ensures.ends));
      least = omega arith;
    }
