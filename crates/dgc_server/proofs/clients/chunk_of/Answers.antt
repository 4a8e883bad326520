use Rattle.std.proofs.Common.{◌≡◌, ℕ, ◌+◌, ◌-◌, ◌/◌, ◌<◌, length, take, drop, get_or, ap, sym, ◌∙◌, arith, true, false, refl, suc}
use Rattle.std.specs.Ordering.{is_lt}
use Rattle.object_ids.specs.Client.{client_cmp}
use Rattle.dgc_server.specs.declared.clients.Chunk.{Chunk}
use Rattle.dgc_server.specs.Table.{no_entry}
use Rattle.dgc_server.specs.Chunks.{all_of, is_filled}
use Rattle.dgc_server.proofs.MarkLaws.{all-at}
use Rattle.dgc_server.proofs.Ordered.{all_after}
use Rattle.dgc_server.proofs.Search.{all_before}
use Rattle.dgc_server.proofs.Chunked.{chunk-after, chunk-before, chunk-here, entry-there, after-next}
use Rattle.dgc_server.proofs.clients.chunk_of.Goals as goal

pub is_before-requires : goal.is_before-requires
is_before-requires c =
    let cs = c.args.chunks.now in
    let m = c.loop-low.low + (c.loop-low.high - c.loop-low.low) / 2 in
    let within : m < length cs = (let a = c.loop-low.invariant.within in let b = c.loop-low-test.true in omega arith) in
    ap is_filled c.index-chunks-middle.is ∙ all-at is_filled cs m c.index-chunks-middle.result within c.requires.filled

pub loop-low-preserved-then-is_before : goal.loop-low-preserved-then-is_before
loop-low-preserved-then-is_before c =
    let cs = c.args.chunks.now in
    let inv = c.loop-low.invariant in
    let open_ = c.loop-low-test.true in
    let m = c.loop-low.low + (c.loop-low.high - c.loop-low.low) / 2 in
    let d = c.index-chunks-middle.result in
    let none = no_entry c.args.client.now in
    let within : m < length cs = (let a = inv.within in omega arith) in
    let compared : is_lt (client_cmp c.args.client.now (get_or (get_or cs m d).entries.items 0 none).client) ≡ true =
    ap (λ (x : Chunk). is_lt (client_cmp c.args.client.now (get_or x.entries.items 0 none).client)) (sym c.index-chunks-middle.is) ∙ sym (c.is_before.ensures none) ∙ c.if-is_before.true in record {
      forward = omega arith;
      within = (let a = inv.within in omega arith);
      before = inv.before;
      after = chunk-after c.args.client.now cs m d none c.requires.ordered within (all-at is_filled cs m d within c.requires.filled) compared;
    }

pub loop-low-preserved : goal.loop-low-preserved
loop-low-preserved c =
    let cs = c.args.chunks.now in
    let inv = c.loop-low.invariant in
    let open_ = c.loop-low-test.true in
    let m = c.loop-low.low + (c.loop-low.high - c.loop-low.low) / 2 in
    let d = c.index-chunks-middle.result in
    let none = no_entry c.args.client.now in
    let within : m < length cs = (let a = inv.within in omega arith) in
    let compared : is_lt (client_cmp c.args.client.now (get_or (get_or cs m d).entries.items 0 none).client) ≡ false =
    ap (λ (x : Chunk). is_lt (client_cmp c.args.client.now (get_or x.entries.items 0 none).client)) (sym c.index-chunks-middle.is) ∙ sym (c.is_before.ensures none) ∙ c.if-is_before.false in
    let less : (m + 1) - 1 ≡ m = omega arith in record {
      forward = omega arith;
      within = inv.within;
      before = ap (λ (n : ℕ). all_before c.args.client.now (all_of (take n cs))) less
          ∙ chunk-before c.args.client.now cs m d none c.requires.ordered within (all-at is_filled cs m d within c.requires.filled) compared;
      after = inv.after;
    }

pub returns-then-low-eq0-clause-place : goal.returns-then-low-eq0-clause-place
returns-then-low-eq0-clause-place c =
    let cs = c.args.chunks.now in
    let low : c.loop-low.high ≡ 0 = (let a = c.loop-low.invariant.forward in let b = c.loop-low-test.false in let z = c.if-low-eq0.true in omega arith) in
    chunk-here c.args.client.now cs 0 c.requires.some refl (after-next c.args.client.now cs (ap (λ n. all_after c.args.client.now (all_of (drop n cs))) (sym low) ∙ c.loop-low.invariant.after))

pub returns-then-low-eq0-clause-entry : goal.returns-then-low-eq0-clause-entry
returns-then-low-eq0-clause-entry c =
    let cs = c.args.chunks.now in
    let low : c.loop-low.high ≡ 0 = (let a = c.loop-low.invariant.forward in let b = c.loop-low-test.false in let z = c.if-low-eq0.true in omega arith) in
    entry-there c.args.client.now cs 0 c.requires.some refl (after-next c.args.client.now cs (ap (λ n. all_after c.args.client.now (all_of (drop n cs))) (sym low) ∙ c.loop-low.invariant.after))

pub returns-clause-place : goal.returns-clause-place
returns-clause-place c =
    let cs = c.args.chunks.now in
    let some = c.if-low-eq0.false in
    let stop = c.loop-low-test.false in
    let ends = c.loop-low.invariant.forward in
    let high : c.loop-low.high ≡ suc (c.loop-low.low - 1) = omega arith in
    let within = c.loop-low.invariant.within in
    chunk-here c.args.client.now cs (c.loop-low.low - 1) (omega arith) c.loop-low.invariant.before (ap (λ n. all_after c.args.client.now (all_of (drop n cs))) (sym high) ∙ c.loop-low.invariant.after)

pub returns-clause-entry : goal.returns-clause-entry
returns-clause-entry c =
    let cs = c.args.chunks.now in
    let some = c.if-low-eq0.false in
    let stop = c.loop-low-test.false in
    let ends = c.loop-low.invariant.forward in
    let high : c.loop-low.high ≡ suc (c.loop-low.low - 1) = omega arith in
    let within = c.loop-low.invariant.within in
    entry-there c.args.client.now cs (c.loop-low.low - 1) (omega arith) c.loop-low.invariant.before (ap (λ n. all_after c.args.client.now (all_of (drop n cs))) (sym high) ∙ c.loop-low.invariant.after)
