use Rattle.std.proofs.Common.{arith}
use Rattle.dgc_server.proofs.OneByOne.{dropped-none, dropped-more, dropped-all}
use Rattle.dgc_server.proofs.leases.Leases.drop_each.Goals as goal

pub loop-object-init : goal.loop-object-init
loop-object-init c = record { fewer = omega arith; stands = λ lease moment calls s. dropped-none lease moment c.args.self.now calls s }

pub loop-object-preserved : goal.loop-object-preserved
loop-object-preserved c = record {
  fewer = (let one = c.drop_object.ensures.fewer in let so_far = c.loop-object.invariant.fewer in omega arith);
  stands = λ lease moment calls s. dropped-more lease moment c.drop_object.new.self calls c.args.objects.now c.loop-object.object-index _ c.loop-object-test.true
      (c.drop_object.ensures.stands lease moment _ (c.loop-object.invariant.stands lease moment calls s));
}

pub returns-clause-stands : goal.returns-clause-stands
returns-clause-stands c lease moment calls s =
    dropped-all lease moment c.loop-object.self calls c.args.objects.now c.loop-object.object-index c.loop-object-test.false (c.loop-object.invariant.stands lease moment calls s)
