use Rattle.std.proofs.Common.{ap, arith, length}
use Rattle.std.proofs.lemmas.List.{length-map}
use Rattle.dgc_server.specs.Entry.{ObjectEntry, object_entry, object_entries}
use Rattle.dgc_server.specs.HolderIndex.{is_named}
use Rattle.dgc_server.proofs.Purging.{filter-fewer}
use Rattle.dgc_server.proofs.marks.keep_named.Goals as goal

pub overflow_sub-result : goal.overflow_sub-result
overflow_sub-result c =
    let few = filter-fewer (λ (e : ObjectEntry). is_named c.args.counts.now e.object) (object_entries c.args.objects.now.entries) in
    let same = ap length c.keep_named.ensures in let before = c.len-before.ensures in let after = c.len.ensures in
    let old = length-map c.args.objects.now.entries object_entry in let new = length-map c.keep_named.new.self.entries object_entry in omega arith

pub returns-clause-gone : goal.returns-clause-gone
returns-clause-gone c =
    let few = filter-fewer (λ (e : ObjectEntry). is_named c.args.counts.now e.object) (object_entries c.args.objects.now.entries) in
    let same = ap length c.keep_named.ensures in let before = c.len-before.ensures in let after = c.len.ensures in
    let old = length-map c.args.objects.now.entries object_entry in let new = length-map c.keep_named.new.self.entries object_entry in omega arith
