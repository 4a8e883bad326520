use Rattle.std.proofs.Common.{rules, ◌<◌, ◌^◌, sym, subst}
use Rattle.std.specs.Prelude.{ℕ}
use Rattle.std.specs.List.{AllByRecursion}
use Rattle.dgc_server.specs.Chunks.{IsBounded}
use Rattle.dgc_server.proofs.clients.Clients.note.Goals as goal

pub invariant_of-self : goal.invariant_of-self
invariant_of-self c = record { filled = c.note_call.ensures.filled; bounded = c.in_err-noted.ensures.still c.self.inside.next c.self.invariant.bounded; ends = c.note_call.ensures.ends }

pub invariant_of-self-2 : goal.invariant_of-self-2
invariant_of-self-2 c =
    let small : c.self.inside.next < 2 ^ 64 = search rules in
    let P : ℕ → Type 0 = λ n. AllByRecursion (IsBounded c.self.inside.moment n) c.note_call.new.board.chunks.items in
    record { filled = c.note_call.ensures.filled; bounded = subst P (sym c.bound_with-self-inside.ensures) (c.in_ok-noted.ensures.bounded c.self.inside.next small c.self.invariant.bounded); ends = c.note_call.ensures.ends }
