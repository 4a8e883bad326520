use Rattle.std.proofs.Common.{◌≡◌, sym, subst, true}
use Rattle.dgc_server.specs.Entry.{Entry, each_has_number}
use Rattle.dgc_server.proofs.Kept.{numbered-after}
use Rattle.dgc_server.proofs.table.note_entry.Goals as goal

pub sums_of-requires : goal.sums_of-requires
sums_of-requires c =
    let P : Entry → Type 0 = λ e. each_has_number e.objects ≡ true in
    subst P (sym c.in_ok-note.ensures.ok) (numbered-after _ c.args.call.now.kind c.args.call.now.number.now c.args.call.now.objects.now c.args.entry.now.objects c.requires.numbered)

pub returns-clause-noted : goal.returns-clause-noted
returns-clause-noted c = record { before = c.sums_of-before.ensures.value; after = c.sums_of.ensures.value; until = c.until.ensures; small = c.sums_of.ensures.small }
