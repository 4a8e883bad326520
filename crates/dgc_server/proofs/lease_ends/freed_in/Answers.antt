use Rattle.std.proofs.Common.{◌≡◌, ◌<◌, ◌+◌, ◌++◌, flat_map, drop, length, get_or, ap, sym, ◌∙◌, arith}
use Rattle.std.proofs.lemmas.List.{append-nil, append_assoc}
use Rattle.dgc_server.specs.HolderIndex.{freed_of}
use Rattle.dgc_server.specs.Chunks.{all_of, IsBounded}
use Rattle.dgc_server.proofs.BoardLaws.{all-settled}
use Rattle.dgc_server.proofs.Freeing.{none-freed}
use Rattle.dgc_server.proofs.Moving.{drop-chunk, drop-end, flat-append}
use Rattle.dgc_server.proofs.Skipping.{Skipped, skipped, over, every-from, chunk-at}
use Rattle.dgc_server.proofs.lease_ends.freed_in.Goals as goal

pub returns-then-to-next : goal.returns-then-to-next
returns-then-to-next c =
    let cs = c.args.board.now.chunks.items in
    let later = c.requires.later in let quiet = c.if-to-next.true in
    c.new-freed.ensures.items ∙ sym (none-freed c.args.from c.args.next c.args.to (all_of cs) later quiet (all-settled c.args.from c.args.next cs (omega arith) c.requires.board.bounded))

pub loop-i-init : goal.loop-i-init
loop-i-init c =
    let cs = c.args.board.now.chunks.items in
    let f = freed_of c.args.from c.args.to in
    let j = c.next_due-i.result in
    let s : Skipped c.args.from c.args.to cs 0 j = skipped c.args.from c.args.next c.args.to cs 0 j c.requires.later (omega arith) c.requires.board.bounded c.next_due-i.ensures in
    let none = none-freed c.args.from (c.args.to + 1) c.args.to (over c.args.to cs) c.requires.later (omega arith) s.settled in record {
      within = s.within;
      rest = ap (λ l. l ++ flat_map f (all_of (drop j cs))) c.new-freed.ensures.items
          ∙ sym (ap (flat_map f) s.left ∙ flat-append f (over c.args.to cs) (all_of (drop j cs)) ∙ ap (λ l. l ++ flat_map f (all_of (drop j cs))) none);
    }

pub loop-i-preserved : goal.loop-i-preserved
loop-i-preserved c =
    let cs = c.args.board.now.chunks.items in
    let f = freed_of c.args.from c.args.to in
    let i = c.loop-i.i in
    let j = c.next_due-i-in-loop-i.result in
    let len = c.len.ensures in let test = c.loop-i-test.true in
    let here : i < length cs = omega arith in
    let x = chunk-at cs i here in
    let own = (get_or cs i x).entries.items in
    let s : Skipped c.args.from c.args.to cs (i + 1) j =
    skipped c.args.from c.args.next c.args.to cs (i + 1) j c.requires.later (omega arith) (every-from (IsBounded c.args.from c.args.next) cs (i + 1) c.requires.board.bounded) c.next_due-i-in-loop-i.ensures in
    let es = over c.args.to (drop (i + 1) cs) in
    let rest = all_of (drop j cs) in
    let none = none-freed c.args.from (c.args.to + 1) c.args.to es c.requires.later (omega arith) s.settled in
    let skip : flat_map f (all_of (drop (i + 1) cs)) ≡ flat_map f rest = ap (flat_map f) s.left ∙ flat-append f es rest ∙ ap (λ l. l ++ flat_map f rest) none in
    let freed = c.loop-i.freed.items in record {
      within = s.within;
      rest = ap (λ l. l ++ flat_map f rest) (c.in_ok-append_all.ensures ∙ ap (λ l. freed ++ flat_map f l) (c.clients.ensures x))
          ∙ append_assoc freed (flat_map f own) (flat_map f rest)
          ∙ ap (λ l. freed ++ (flat_map f own ++ l)) (sym skip)
          ∙ ap (λ l. freed ++ l) (sym (ap (flat_map f) (drop-chunk cs i x here) ∙ flat-append f own (all_of (drop (i + 1) cs))))
          ∙ c.loop-i.invariant.rest;
    }

pub returns : goal.returns
returns c =
    let cs = c.args.board.now.chunks.items in
    let f = freed_of c.args.from c.args.to in
    let stop = c.loop-i-test.false in let len = c.len.ensures in
    sym (append-nil c.loop-i.freed.items) ∙ ap (λ l. c.loop-i.freed.items ++ flat_map f l) (sym (drop-end cs c.loop-i.i (omega arith))) ∙ c.loop-i.invariant.rest
