use Rattle.std.proofs.Common.{◌≡◌, true, ap, sym, subst, ◌∙◌}
use Rattle.std.specs.Prelude.{nat_lt, filter, length}
use Rattle.dgc_server.specs.declared.entry.Kept.{Kept}
use Rattle.dgc_server.specs.Numbers.{is_remembered}
use Rattle.dgc_server.specs.Entry.{Entry, ObjectEntry, object_entries, each_has_number, remembered_of}
use Rattle.dgc_server.proofs.entry.ClientEntry.remembered_count.Goals as goal

pub remembered_in-requires : goal.remembered_in-requires
remembered_in-requires c =
    let P : Entry → Type 0 = λ e. each_has_number e.objects ≡ true in
    ap (λ (k : Kept). each_has_number (object_entries k.objects.entries)) c.deref.ensures ∙ subst P (sym c.self.view_is) c.requires

pub returns : goal.returns
returns c =
    c.remembered_in.ensures
    ∙ ap (λ (k : Kept). length (filter (λ (x : ObjectEntry). is_remembered (nat_lt c.args.time c.self.inside.until) x.numbers) (object_entries k.objects.entries))) c.deref.ensures
    ∙ ap (λ (e : Entry). remembered_of c.args.time e) c.self.view_is
