use Rattle.std.proofs.Common.{◌≡◌, List, ◌∷◌, true, subst, ap, sym, ◌∙◌}
use Rattle.std.proofs.lemmas.Bool.{and_parts}
use Rattle.std.specs.Prelude.{not}
use Rattle.dgc_server.specs.Entry.{ObjectEntry, object_entries, has_object}
use Rattle.dgc_server.specs.StandsForCalls.{each_once}
use Rattle.dgc_server.specs.HolderIndex.{Way, counted_at, loses}
use Rattle.dgc_server.proofs.HolderLaws.{Lowers, lowers-step, lower-enough}
use Rattle.dgc_server.proofs.holders.release.Goals as goal

pub release_one-requires : goal.release_one-requires
release_one-requires c = λ w.
    let objects = object_entries c.args.objects.now.entries in
    let x : ObjectEntry = record { object = c.in-Some.object.now; numbers = c.in-Some.numbers.now } in
    let rest = object_entries c.next.new.self in
    let steps : object_entries c.loop-object.object-iterator ≡ x ∷ rest = ap object_entries c.in-Some.ensures.steps in
    let P : List ObjectEntry → Type 0 = λ l. Lowers (loses w c.args.held) objects (counted_at w c.args.counts.now) (counted_at w c.loop-object.counts) l in
    lower-enough (loses w c.args.held) objects (counted_at w c.args.counts.now) (counted_at w c.loop-object.counts) x rest (subst P steps (c.loop-object.invariant.counts w)) (c.requires.enough w)

pub loop-object-preserved : goal.loop-object-preserved
loop-object-preserved c =
    let objects = object_entries c.args.objects.now.entries in
    let x : ObjectEntry = record { object = c.in-Some.object.now; numbers = c.in-Some.numbers.now } in
    let rest = object_entries c.next.new.self in
    let steps : object_entries c.loop-object.object-iterator ≡ x ∷ rest = ap object_entries c.in-Some.ensures.steps in
    let P : Way → List ObjectEntry → Type 0 = λ w l. Lowers (loses w c.args.held) objects (counted_at w c.args.counts.now) (counted_at w c.loop-object.counts) l in
    let once : each_once (x ∷ rest) ≡ true = sym (ap each_once steps) ∙ c.loop-object.invariant.once in record {
      counts = λ w. lowers-step (loses w c.args.held) objects (counted_at w c.args.counts.now) (counted_at w c.loop-object.counts) (counted_at w c.release_one.new.counts) x rest once
          (subst (P w) steps (c.loop-object.invariant.counts w)) (c.release_one.ensures.counts w);
      once = (and_parts (not (has_object rest x.object)) (each_once rest) once).1;
      kept = λ o h. c.release_one.ensures.kept o (c.loop-object.invariant.kept o h);
    }
