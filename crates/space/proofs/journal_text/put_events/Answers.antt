use Rattle.std.proofs.Common.{◌≡◌, ℕ, ◌+◌, ◌<◌, ◌++◌, ◌∷◌, List, [], length, take, get_or, flat_map, ap, sym, subst, ◌∙◌, arith}
use Rattle.std.specs.Prelude.{Some, slice_get}
use Rattle.std.specs.List.{AllByRecursion}
use Rattle.std.proofs.lemmas.List.{take_more, flat_map_more}
use Rattle.std.proofs.lemmas.Option.{slice_get-get_or, slice_get_within, get_or_from_slice_get}
use Rattle.history.specs.declared.asks.Event.{Event}
use Rattle.history.specs.declared.limits.TheConstants.{END_OF_TIME}
use Rattle.history.proofs.ListLemmas.{every-append}
use Rattle.journal.specs.Written.{event_line, EventFits}
use Rattle.space.proofs.journal_text.put_events.Goals as goal

-- The events up to a place, with the one there.
one-more : (events : List Event) (place : ℕ) (e : Event) → slice_get events place ≡ Some e → take (place + 1) events ≡ take place events ++ e ∷ []
one-more events place e at =
    take_more events place e (slice_get_within events place e at) ∙ ap (λ x. take place events ++ x ∷ []) (get_or_from_slice_get events place e e at)

-- There is one at each place.
one-there : {X : Type 0} (xs : List X) (i : ℕ) → i < length xs → (x : X) × (slice_get xs i ≡ Some x)
one-there [] i within = absurd (omega (arith, within))
one-there (x ∷ xs) i within = (get_or (x ∷ xs) i x, slice_get-get_or (x ∷ xs) i x within)

pub loop-place-preserved : goal.loop-place-preserved
loop-place-preserved c =
    let it = one-there c.args.events.now.items c.loop-place.place (omega (arith, c.loop-place-test.true, c.len-place-end.ensures)) in
    let e : Event = it.0 in
    let P : Event → Type 0 = λ x. x.moment < END_OF_TIME → EventFits x in
    let before : List Event = take c.loop-place.place c.args.events.now.items in
    let more = one-more c.args.events.now.items c.loop-place.place e it.1 in (
      (c.in_ok-put_line_at.ensures {u = tt}).text e it.1 ∙ ap (λ t. t ++ event_line c.args.space e) c.loop-place.invariant.0
          ∙ flat_map_more (event_line c.args.space) c.args.text.now before e
          ∙ ap (λ l. c.args.text.now ++ flat_map (event_line c.args.space) l) (sym more),
      subst (AllByRecursion P) (sym more) (every-append P before (e ∷ []) c.loop-place.invariant.1 ((c.in_ok-put_line_at.ensures {u = tt}).fits e it.1, tt)),
    )
