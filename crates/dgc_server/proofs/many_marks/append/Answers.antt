use Rattle.std.proofs.Common.{ap, sym, ◌∙◌, arith, take, add-one}
use Rattle.indexmap.specs.IndexMap.{insert_entry}
use Rattle.object_ids.specs.declared.ids.ObjId.{ObjId}
use Rattle.object_ids.specs.Same.{same_key}
use Rattle.dgc_server.specs.declared.numbers.Numbers.{Numbers}
use Rattle.dgc_server.proofs.MarkLists.{inserted-next}
use Rattle.dgc_server.proofs.many_marks.append.Goals as goal

pub loop-mark-preserved : goal.loop-mark-preserved
loop-mark-preserved c =
    let i = c.loop-mark.mark-index in
    let x : ObjId × Numbers = c.mark-item.result in
    let room = c.loop-mark.invariant.room in let step = c.put.ensures.room in record {
      entries = c.put.ensures.entries ∙ ap (λ n. insert_entry same_key c.loop-mark.map.entries x.0 n) c.copy.ensures
          ∙ ap (λ es. insert_entry same_key es x.0 x.1) c.loop-mark.invariant.entries
          ∙ ap (λ (m : ObjId × Numbers). insert_entry same_key (take i c.args.marks.now) m.0 m.1) c.mark-item.is
          ∙ inserted-next c.args.marks.now i x c.loop-mark-test.true c.requires.once
          ∙ ap (λ n. take n c.args.marks.now) (sym (add-one i));
      room = omega arith;
    }
