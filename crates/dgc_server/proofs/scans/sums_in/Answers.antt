use Rattle.std.proofs.Common.{◌≡◌, ◌+◌, ◌<◌, ◌++◌, length, filter, take, drop, get_or, ap, sym, ◌∙◌, arith}
use Rattle.std.specs.List.{list_all}
use Rattle.std.proofs.lemmas.List.Sums.{sum_by-append}
use Rattle.dgc_server.specs.declared.table.Sums.{Sums}
use Rattle.dgc_server.specs.Entry.{each_has_number, has_time_left, remembered_of}
use Rattle.dgc_server.specs.Table.{remembered_count}
use Rattle.dgc_server.specs.HolderIndex.{sums_at}
use Rattle.dgc_server.specs.Chunks.{all_of, IsBounded}
use Rattle.dgc_server.proofs.BoardLaws.{all-settled, front-leased}
use Rattle.dgc_server.proofs.Chunked.{all-part}
use Rattle.dgc_server.proofs.Moving.{take-chunk, take-end, many-append, sum-front}
use Rattle.dgc_server.proofs.Skipping.{Skipped, skipped, over, every-from, chunk-at}
use Rattle.dgc_server.proofs.SumLaws.{same-sums, sums-are}
use Rattle.dgc_server.proofs.scans.sums_in.Goals as goal

pub returns-then-to-next : goal.returns-then-to-next
returns-then-to-next c =
    let cs = c.args.board.now.chunks.items in
    let late = c.requires.later in let quiet = c.if-to-next.true in
    c.requires.sums ∙ sym (same-sums c.args.from c.args.next c.args.to (all_of cs) late quiet (all-settled c.args.from c.args.next cs (omega arith) c.requires.board.bounded))

pub loop-i-init : goal.loop-i-init
loop-i-init c =
    let cs = c.args.board.now.chunks.items in
    let j = c.next_due-i.result in
    let s : Skipped c.args.from c.args.to cs 0 j = skipped c.args.from c.args.next c.args.to cs 0 j c.requires.later (omega arith) c.requires.board.bounded c.next_due-i.ensures in
    let es = over c.args.to cs in
    let same : sums_at c.args.to es ≡ sums_at c.args.from es = same-sums c.args.from (c.args.to + 1) c.args.to es c.requires.later (omega arith) s.settled in
    let leased : length (filter (has_time_left c.args.to) es) ≡ length (filter (has_time_left c.args.from) es) = ap (λ (s : Sums). s.leased) same in
    let pairs : remembered_count c.args.to es ≡ remembered_count c.args.from es = ap (λ (s : Sums). s.pairs) same in
    let l1 = ap (λ l. length (filter (has_time_left c.args.from) l)) s.taken in let l2 = ap (λ l. length (filter (has_time_left c.args.to) l)) s.taken in
    let p1 = ap (remembered_count c.args.from) s.taken in let p2 = ap (remembered_count c.args.to) s.taken in record {
      within = s.within;
      leased = omega (arith, l1, l2, leased);
      pairs = omega (arith, p1, p2, pairs);
    }

pub sums_after-so_far-requires-clause-numbered : goal.sums_after-so_far-requires-clause-numbered
sums_after-so_far-requires-clause-numbered c =
    let cs = c.args.board.now.chunks.items in
    let len = c.len.ensures in let test = c.loop-i-test.true in
    let here : c.loop-i.i < length cs = omega arith in
    let x = chunk-at cs c.loop-i.i here in
    ap (list_all (λ e. each_has_number e.objects)) (c.clients.ensures x) ∙ all-part (λ e. each_has_number e.objects) cs c.loop-i.i x here c.requires.numbered

pub sums_after-so_far-requires-clause-leased : goal.sums_after-so_far-requires-clause-leased
sums_after-so_far-requires-clause-leased c =
    let cs = c.args.board.now.chunks.items in
    let len = c.len.ensures in let test = c.loop-i-test.true in
    let here : c.loop-i.i < length cs = omega arith in
    let x = chunk-at cs c.loop-i.i here in
    let front = front-leased c.args.from cs c.loop-i.i x here in
    let all : c.args.sums.leased ≡ length (filter (has_time_left c.args.from) (all_of cs)) = ap (λ (s : Sums). s.leased) c.requires.sums in
    let own = ap (λ l. length (filter (has_time_left c.args.from) l)) (c.clients.ensures x) in
    let so_far = c.loop-i.invariant.leased in omega (arith, front, all, own, so_far)

pub sums_after-so_far-requires-clause-pairs : goal.sums_after-so_far-requires-clause-pairs
sums_after-so_far-requires-clause-pairs c =
    let cs = c.args.board.now.chunks.items in
    let len = c.len.ensures in let test = c.loop-i-test.true in
    let here : c.loop-i.i < length cs = omega arith in
    let x = chunk-at cs c.loop-i.i here in
    let front = sum-front (remembered_of c.args.from) cs c.loop-i.i x here in
    let all : c.args.sums.pairs ≡ remembered_count c.args.from (all_of cs) = ap (λ (s : Sums). s.pairs) c.requires.sums in
    let own = ap (remembered_count c.args.from) (c.clients.ensures x) in
    let so_far = c.loop-i.invariant.pairs in omega (arith, front, all, own, so_far)

pub loop-i-preserved : goal.loop-i-preserved
loop-i-preserved c =
    let cs = c.args.board.now.chunks.items in
    let i = c.loop-i.i in
    let j = c.next_due-i-in-loop-i.result in
    let len = c.len.ensures in let test = c.loop-i-test.true in
    let here : i < length cs = omega arith in
    let x = chunk-at cs i here in
    let own = (get_or cs i x).entries.items in
    let here_ = c.clients.ensures x in
    let front = all_of (take i cs) in
    let next : all_of (take (i + 1) cs) ≡ front ++ own = take-chunk cs i x here in
    let s : Skipped c.args.from c.args.to cs (i + 1) j =
    skipped c.args.from c.args.next c.args.to cs (i + 1) j c.requires.later (omega arith) (every-from (IsBounded c.args.from c.args.next) cs (i + 1) c.requires.board.bounded) c.next_due-i-in-loop-i.ensures in
    let es = over c.args.to (drop (i + 1) cs) in
    let same : sums_at c.args.to es ≡ sums_at c.args.from es = same-sums c.args.from (c.args.to + 1) c.args.to es c.requires.later (omega arith) s.settled in
    let leased : length (filter (has_time_left c.args.to) es) ≡ length (filter (has_time_left c.args.from) es) = ap (λ (s : Sums). s.leased) same in
    let pairs : remembered_count c.args.to es ≡ remembered_count c.args.from es = ap (λ (s : Sums). s.pairs) same in
    let taken : all_of (take j cs) ≡ (front ++ own) ++ es = s.taken ∙ ap (λ l. l ++ es) next in
    let l1 = ap (λ l. length (filter (has_time_left c.args.from) l)) taken ∙ many-append (has_time_left c.args.from) (front ++ own) es in
    let l2 = ap (λ l. length (filter (has_time_left c.args.to) l)) taken ∙ many-append (has_time_left c.args.to) (front ++ own) es in
    let l3 = many-append (has_time_left c.args.from) front own in let l4 = many-append (has_time_left c.args.to) front own in
    let p1 = ap (remembered_count c.args.from) taken ∙ sum_by-append (remembered_of c.args.from) (front ++ own) es in
    let p2 = ap (remembered_count c.args.to) taken ∙ sum_by-append (remembered_of c.args.to) (front ++ own) es in
    let p3 = sum_by-append (remembered_of c.args.from) front own in let p4 = sum_by-append (remembered_of c.args.to) front own in
    let o1 = ap (λ l. length (filter (has_time_left c.args.from) l)) here_ in let o2 = ap (λ l. length (filter (has_time_left c.args.to) l)) here_ in
    let q1 = ap (remembered_count c.args.from) here_ in let q2 = ap (remembered_count c.args.to) here_ in
    let s1 = c.sums_after-so_far.ensures.leased in let s2 = c.sums_after-so_far.ensures.pairs in
    let a = c.loop-i.invariant.leased in let b = c.loop-i.invariant.pairs in record {
      within = s.within;
      leased = omega (arith, a, l1, l2, l3, l4, o1, o2, s1, leased);
      pairs = omega (arith, b, p1, p2, p3, p4, q1, q2, s2, pairs);
    }

pub returns : goal.returns
returns c =
    let cs = c.args.board.now.chunks.items in
    let stop = c.loop-i-test.false in let len = c.len.ensures in
    let whole = take-end cs c.loop-i.i (omega arith) in
    let l1 = ap (λ l. length (filter (has_time_left c.args.from) (all_of l))) whole in let l2 = ap (λ l. length (filter (has_time_left c.args.to) (all_of l))) whole in
    let p1 = ap (λ l. remembered_count c.args.from (all_of l)) whole in let p2 = ap (λ l. remembered_count c.args.to (all_of l)) whole in
    let leased : c.args.sums.leased ≡ length (filter (has_time_left c.args.from) (all_of cs)) = ap (λ (s : Sums). s.leased) c.requires.sums in
    let pairs : c.args.sums.pairs ≡ remembered_count c.args.from (all_of cs) = ap (λ (s : Sums). s.pairs) c.requires.sums in
    let a = c.loop-i.invariant.leased in let b = c.loop-i.invariant.pairs in
    sums-are c.loop-i.so_far (length (filter (has_time_left c.args.to) (all_of cs))) (remembered_count c.args.to (all_of cs)) (omega (arith, a, l1, l2, leased)) (omega (arith, b, p1, p2, pairs))
