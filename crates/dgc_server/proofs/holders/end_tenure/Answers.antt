use Rattle.std.proofs.Common.{◌≡◌, true, sym, subst}
use Rattle.dgc_server.specs.Entry.{Entry, each_has_number}
use Rattle.dgc_server.proofs.Kept.{numbered-lapsed}
use Rattle.dgc_server.proofs.holders.end_tenure.Goals as goal

pub sums_of-requires : goal.sums_of-requires
sums_of-requires c =
    let P : Entry → Type 0 = λ e. each_has_number e.objects ≡ true in
    subst P (sym c.lapse.ensures) (numbered-lapsed c.args.to c.args.entry.now c.requires.numbered)
