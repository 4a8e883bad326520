use Rattle.std.proofs.Common.{rules}
use Rattle.std.proofs.lemmas.Str.{IsUtf8-past_char}
use Rattle.mod_utf.specs.Texts.{units_of}
use Rattle.mod_utf.proofs.Characters.{no_more, one_more}
use Rattle.mod_utf.proofs.text.units_of_text.Goals as goal

pub loop-c-preserved : goal.loop-c-preserved
loop-c-preserved c =
    let held = c.loop-c.invariant in
    let parts = c.in-Some.ensures.steps.0 in
    (IsUtf8-past_char _ _ c.in-Some.c held.0 parts, one_more _ _ _ _ _ c.in-Some.c held.0 parts (search rules) held.1)

pub returns : goal.returns
unfolding units_of
returns c = no_more _ _ _ c.in-None.ensures.steps.0.0 c.loop-c.invariant.1
