use Rattle.std.proofs.Common.{ap, sym, ◌∙◌, arith}
use Rattle.dgc_server.specs.declared.holders.Count.{Count}
use Rattle.dgc_server.specs.HolderIndex.{Naming, counted_at}
use Rattle.dgc_server.proofs.HolderLaws.{no_id}
use Rattle.dgc_server.proofs.Forgetting.{cleared-next, total-next, cleared-last, total-last}
use Rattle.dgc_server.proofs.holders.forget_all.Goals as goal

pub loop-object-preserved : goal.loop-object-preserved
loop-object-preserved c =
    let os = c.args.objects.now in
    let i = c.loop-object.object-index in
    let inv = c.loop-object.invariant in
    record {
      counts = λ w o. cleared-next os i no_id c.loop-object-test.true (counted_at w c.loop-object.counts) (counted_at w c.take_out-count.new.counts) (c.take_out-count.ensures.counts w) o ∙ inv.counts w o;
      pairs = (let one = ap (λ (n : Count). n.clients) c.take_out-count.ensures.value in let so_far = inv.pairs in
          let next = total-next os i no_id c.loop-object-test.true (counted_at Naming c.loop-object.counts) (counted_at Naming c.take_out-count.new.counts) (c.take_out-count.ensures.counts Naming) in omega arith);
      within = (let few = inv.within in omega arith);
    }

pub returns-clause-counts : goal.returns-clause-counts
returns-clause-counts c w o =
    sym (cleared-last c.args.objects.now c.loop-object.object-index (counted_at w c.loop-object.counts o) o c.loop-object-test.false) ∙ c.loop-object.invariant.counts w o

pub returns-clause-pairs : goal.returns-clause-pairs
returns-clause-pairs c =
    let last = total-last c.args.objects.now c.loop-object.object-index (counted_at Naming c.loop-object.counts) c.loop-object-test.false in
    let all = c.loop-object.invariant.pairs in omega arith
