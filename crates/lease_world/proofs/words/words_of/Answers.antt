use Rattle.lease_world.proofs.Scripts.{one_more, some_word}
use Rattle.lease_world.proofs.words.words_of.Goals as goal

pub returns-in-Some-rest-3 : goal.returns-in-Some-rest-3
returns-in-Some-rest-3 c =
    one_more c.args.line.now _ _ c.in-Some.rest 4 c.split_word.ensures c.in-Some.is
    (one_more c.in-Some.rest.now _ _ c.in-Some-rest.rest 3 c.split_word-2.ensures c.in-Some-rest.is
    (one_more c.in-Some-rest.rest.now _ _ c.in-Some-rest-2.rest 2 c.split_word-3.ensures c.in-Some-rest-2.is
    (one_more c.in-Some-rest-2.rest.now _ _ c.in-Some-rest-3.field-0 1 c.split_word-4.ensures c.in-Some-rest-3.is (some_word c.in-Some-rest-3.field-0.now))))
