use Rattle.std.proofs.Common.{◌≡◌, ◌<◌, ℕ, List, length, drop, subst, sym, arith}
use Rattle.std.specs.Prelude.{filter}
use Rattle.export_table.specs.declared.waits.Wait.{Wait}
use Rattle.export_table.specs.WaitIndex.{stays, IsIndexOf}
use Rattle.export_table.proofs.Indexing.{next-counted, next-returned, next-once, next-index, so-far-last}
use Rattle.export_table.proofs.index.keep.Goals as goal

pub remove_unless-requires-clause-counted : goal.remove_unless-requires-clause-counted
remove_unless-requires-clause-counted c =
    let there : c.loop-i.i < length c.args.waits.now = (let below : c.loop-i.i < c.args.upto = c.loop-i-test.true in let within = c.requires.within in omega arith) in
    next-counted (stays c.args.which.now) c.args.waits.now c.loop-i.i _ c.loop-i.counts c.loop-i.references c.loop-i.returns there c.loop-i.invariant.index

pub remove_unless-requires-clause-returned : goal.remove_unless-requires-clause-returned
remove_unless-requires-clause-returned c =
    let there : c.loop-i.i < length c.args.waits.now = (let below : c.loop-i.i < c.args.upto = c.loop-i-test.true in let within = c.requires.within in omega arith) in
    next-returned (stays c.args.which.now) c.args.waits.now c.loop-i.i _ c.loop-i.counts c.loop-i.references c.loop-i.returns there c.loop-i.invariant.index

pub loop-i-preserved : goal.loop-i-preserved
loop-i-preserved c =
    let there : c.loop-i.i < length c.args.waits.now = (let below : c.loop-i.i < c.args.upto = c.loop-i-test.true in let within = c.requires.within in omega arith) in
    let inv = c.loop-i.invariant in
    let counts = c.remove_unless.ensures.counts_room in
    let places = c.remove_unless.ensures.references_room in
    let returns = c.remove_unless.ensures.returns_room in record {
      once = next-once (stays c.args.which.now) c.args.waits.now c.loop-i.i there inv.once;
      index = next-index (stays c.args.which.now) c.args.waits.now c.loop-i.i _ c.loop-i.counts c.remove_unless.new.counts c.loop-i.references c.remove_unless.new.references c.loop-i.returns c.remove_unless.new.returns
          there inv.once c.remove_unless.ensures.index inv.index;
      counts_room = (let a = inv.counts_room in omega arith);
      references_room = (let a = inv.references_room in omega arith);
      returns_room = (let a = inv.returns_room in omega arith);
    }

pub returns-clause-index : goal.returns-clause-index
returns-clause-index c =
    let upto : c.loop-i.i ≡ c.args.upto = (let end = c.loop-i.auto.i-end in let over = c.loop-i-test.false in let order = c.requires.order in omega arith) in
    let P : List Wait → Type 0 = λ l. IsIndexOf c.loop-i.counts c.loop-i.references c.loop-i.returns l in
    let Q : ℕ → Type 0 = λ n. filter (stays c.args.which.now) (drop n c.args.waits.now) ≡ drop n c.args.waits.now in
    subst P (so-far-last (stays c.args.which.now) c.args.waits.now c.loop-i.i (subst Q (sym upto) c.requires.after)) c.loop-i.invariant.index
