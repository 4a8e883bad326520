use Rattle.ser_values.proofs.Keeps.{kept_number}
use Rattle.ser_values.proofs.seen.Seen.number.Goals as goal

pub returns-clause-kept : goal.returns-clause-kept
returns-clause-kept c = let k = kept_number c.args.self.now.marks.items c.args.self.now.order.items c.args.self.now.unread.items c.args.number c.requires.kept c.requires.within c.requires.unseen in rw c.in_ok-push.ensures.items k
