use Rattle.std.proofs.Common.{◌≡◌, ◌+◌, ◌≤◌, List, ap, sym, subst, ◌∙◌, arith, drop, get_or, true}
use Rattle.sequence.proofs.Lists.{drop-at}
use Rattle.object_ids.specs.declared.ids.ObjId.{ObjId}
use Rattle.dgc_server.specs.Numbers.{with_call_noted}
use Rattle.dgc_server.specs.Entry.{ObjectEntry, object_entries, objects_noted, numbers_of, absent_in}
use Rattle.dgc_server.specs.HolderIndex.{counts_in}
use Rattle.dgc_server.proofs.HolderLaws.{no_id, next-in, at-most-one}
use Rattle.dgc_server.proofs.Room.{absent-here, absent-next}
use Rattle.dgc_server.proofs.marks.note_all.Goals as goal

pub note_one-requires-clause-room : goal.note_one-requires-clause-room
note_one-requires-clause-room c =
    let i = c.loop-object.object-index in
    let es = object_entries c.loop-object.objects.entries in
    let P : List ObjId → Type 0 = λ os. absent_in es os ≤ c.loop-object.objects.room in
    absent-here (get_or c.args.named.now i no_id) (drop (i + 1) c.args.named.now) es c.loop-object.objects.room
    (subst P (drop-at c.args.named.now i no_id c.loop-object-test.true) c.loop-object.invariant.room)

pub note_one-requires-clause-has : goal.note_one-requires-clause-has
note_one-requires-clause-has c = c.loop-object.invariant.has _ (next-in c.args.named.now c.loop-object.object-index no_id c.loop-object-test.true)

pub note_one-requires-clause-enough : goal.note_one-requires-clause-enough
note_one-requires-clause-enough c = λ w.
    let x = get_or c.args.named.now c.loop-object.object-index no_id in
    let now = c.loop-object.invariant.counts w x in let enough = c.requires.enough w x in omega arith

pub note_one-requires-clause-few : goal.note_one-requires-clause-few
note_one-requires-clause-few c = λ w.
    let x = get_or c.args.named.now c.loop-object.object-index no_id in
    let now = c.loop-object.invariant.counts w x in let few = c.requires.few w x in let one = at-most-one (counts_in w true (object_entries c.loop-object.objects.entries) x) in omega arith

pub loop-object-preserved : goal.loop-object-preserved
loop-object-preserved c =
    let i = c.loop-object.object-index in
    let x = get_or c.args.named.now i no_id in
    let es = object_entries c.loop-object.objects.entries in
    let P : List ObjId → Type 0 = λ os. absent_in es os ≤ c.loop-object.objects.room in
    let Q : List ObjectEntry → Type 0 = λ l. absent_in l (drop (i + 1) c.args.named.now) ≤ c.note_one.new.objects.room in
    let parted : drop i c.args.named.now ≡ _ = drop-at c.args.named.now i no_id c.loop-object-test.true in record {
      objects = c.loop-object.invariant.objects
          ∙ ap (λ os. objects_noted c.args.kind c.args.number.now os (object_entries c.loop-object.objects.entries)) parted
          ∙ ap (objects_noted c.args.kind c.args.number.now (drop (i + 1) c.args.named.now)) (sym c.note_one.ensures.objects);
      counts = λ w o. (let so_far = c.loop-object.invariant.counts w o in let step = c.note_one.ensures.counts w o in omega arith);
      has = λ o h. c.note_one.ensures.kept o (c.loop-object.invariant.has o h);
      room = subst Q (sym c.note_one.ensures.objects)
          (absent-next x (with_call_noted c.args.kind c.args.number.now (numbers_of es x)) (drop (i + 1) c.args.named.now) es c.loop-object.objects.room c.note_one.new.objects.room
          (subst P parted c.loop-object.invariant.room) c.note_one.ensures.room);
    }
