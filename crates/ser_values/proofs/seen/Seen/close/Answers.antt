use Rattle.std.proofs.Common.{rules, ◌++◌, ◌∷◌, [], sym, length, ◌<◌}
use Rattle.ser_values.proofs.Keeps.{kept_close, has-push_last, front_push}
use Rattle.ser_values.specs.Seen.{Kept}
use Rattle.ser_values.proofs.seen.Seen.close.Goals as goal

pub index_mut-requires : goal.index_mut-requires
index_mut-requires c =
    let kept : Kept c.args.self.now.marks.items c.args.self.now.order.items (c.pop.new.self.items ++ c.in-Some.number ∷ []) = rw c.in-Some.ensures.items at c.requires.kept in
    let lt : c.in-Some.number < length c.args.self.now.marks.items = kept.within c.in-Some.number (kept.among c.in-Some.number (has-push_last c.pop.new.self.items c.in-Some.number)) in
    search (lt, rules)

pub returns-in-Some-clause-unread : goal.returns-in-Some-clause-unread
returns-in-Some-clause-unread c = sym (rw c.in-Some.ensures.items (front_push c.pop.new.self.items c.in-Some.number))

pub returns-in-Some-clause-kept : goal.returns-in-Some-clause-kept
returns-in-Some-clause-kept c =
    let kept : Kept c.args.self.now.marks.items c.args.self.now.order.items (c.pop.new.self.items ++ c.in-Some.number ∷ []) = rw c.in-Some.ensures.items at c.requires.kept in
    kept_close c.args.self.now.marks.items c.args.self.now.order.items c.pop.new.self.items c.in-Some.number kept
