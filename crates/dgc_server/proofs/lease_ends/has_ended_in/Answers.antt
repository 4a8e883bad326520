use Rattle.std.proofs.Common.{◌≡◌, ◌<◌, ◌+◌, drop, length, get_or, ap, sym, ◌∙◌, arith}
use Rattle.std.specs.Prelude.{◌||◌, true, false}
use Rattle.std.specs.List.{list_any}
use Rattle.std.proofs.lemmas.List.Folds.{list_any-append}
use Rattle.dgc_server.specs.HolderIndex.{ends_between}
use Rattle.dgc_server.specs.Chunks.{all_of, IsBounded}
use Rattle.dgc_server.proofs.BoardLaws.{all-settled}
use Rattle.dgc_server.proofs.Ending.{none-ends}
use Rattle.dgc_server.proofs.Moving.{drop-chunk, drop-end}
use Rattle.dgc_server.proofs.Skipping.{Skipped, skipped, over, every-from, chunk-at}
use Rattle.dgc_server.proofs.lease_ends.has_ended_in.Goals as goal

pub returns-then-to-next : goal.returns-then-to-next
returns-then-to-next c =
    let cs = c.args.board.now.chunks.items in
    let later = c.requires.later in let quiet = c.if-to-next.true in
    sym (none-ends c.args.from c.args.next c.args.to (all_of cs) later quiet (all-settled c.args.from c.args.next cs (omega arith) c.requires.board.bounded))

pub loop-i-init : goal.loop-i-init
loop-i-init c =
    let cs = c.args.board.now.chunks.items in
    let p = ends_between c.args.from c.args.to in
    let s : Skipped c.args.from c.args.to cs 0 c.next_due-i.result = skipped c.args.from c.args.next c.args.to cs 0 c.next_due-i.result c.requires.later (omega arith) c.requires.board.bounded c.next_due-i.ensures in
    let none = none-ends c.args.from (c.args.to + 1) c.args.to (over c.args.to cs) c.requires.later (omega arith) s.settled in record {
      within = s.within;
      rest = sym (ap (list_any p) s.left ∙ list_any-append p (over c.args.to cs) (all_of (drop c.next_due-i.result cs)) ∙ ap (λ b. b || list_any p (all_of (drop c.next_due-i.result cs))) none);
    }

pub loop-i-preserved : goal.loop-i-preserved
loop-i-preserved c =
    let cs = c.args.board.now.chunks.items in
    let p = ends_between c.args.from c.args.to in
    let i = c.loop-i.i in
    let j = c.next_due-i-in-loop-i.result in
    let len = c.len.ensures in let test = c.loop-i-test.true in
    let here : i < length cs = omega arith in
    let x = chunk-at cs i here in
    let s : Skipped c.args.from c.args.to cs (i + 1) j =
    skipped c.args.from c.args.next c.args.to cs (i + 1) j c.requires.later (omega arith) (every-from (IsBounded c.args.from c.args.next) cs (i + 1) c.requires.board.bounded) c.next_due-i-in-loop-i.ensures in
    let es = over c.args.to (drop (i + 1) cs) in
    let rest = all_of (drop j cs) in
    let none = none-ends c.args.from (c.args.to + 1) c.args.to es c.requires.later (omega arith) s.settled in
    let own : list_any p (get_or cs i x).entries.items ≡ false = ap (list_any p) (sym (c.clients.ensures x)) ∙ sym c.has_ended_among.ensures ∙ c.if-has_ended_among.false in record {
      within = s.within;
      rest = sym (ap (list_any p) s.left ∙ list_any-append p es rest ∙ ap (λ b. b || list_any p rest) none)
          ∙ sym (ap (list_any p) (drop-chunk cs i x here) ∙ list_any-append p (get_or cs i x).entries.items (all_of (drop (i + 1) cs))
          ∙ ap (λ b. b || list_any p (all_of (drop (i + 1) cs))) own)
          ∙ c.loop-i.invariant.rest;
    }

pub returns-then-has_ended_among : goal.returns-then-has_ended_among
returns-then-has_ended_among c =
    let cs = c.args.board.now.chunks.items in
    let p = ends_between c.args.from c.args.to in
    let i = c.loop-i.i in
    let len = c.len.ensures in let test = c.loop-i-test.true in
    let here : i < length cs = omega arith in
    let x = chunk-at cs i here in
    let own : list_any p (get_or cs i x).entries.items ≡ true = ap (list_any p) (sym (c.clients.ensures x)) ∙ sym c.has_ended_among.ensures ∙ c.if-has_ended_among.true in
    sym (ap (list_any p) (drop-chunk cs i x here) ∙ list_any-append p (get_or cs i x).entries.items (all_of (drop (i + 1) cs))
    ∙ ap (λ b. b || list_any p (all_of (drop (i + 1) cs))) own) ∙ c.loop-i.invariant.rest

pub returns : goal.returns
returns c =
    let cs = c.args.board.now.chunks.items in
    let p = ends_between c.args.from c.args.to in
    let stop = c.loop-i-test.false in let len = c.len.ensures in
    sym (ap (list_any p) (drop-end cs c.loop-i.i (omega arith))) ∙ c.loop-i.invariant.rest
