-- Events from a place on.
use Rattle.std.proofs.Common.{◌≡◌, ℕ, [], ◌∷◌, ◌++◌, length, take, ap, sym, ◌∙◌, arith, append_assoc, append-nil}
use Rattle.std.specs.Prelude.{Result, Ok, Err}
use Rattle.std.proofs.Math.Seq.{take-length}
use Rattle.std.proofs.lemmas.List.{take-append-le, length-append}
use Rattle.history.specs.declared.asks.Event.{Event}
use Rattle.history.specs.declared.replies.Refused.{Refused}
use Rattle.history.specs.declared.replies.Turn.{Turn}
use Rattle.turn_lock.specs.Recent.{IsRest}
use Rattle.turn_lock.specs.Rule.{Events, events_answered}

-- One event more.
pub rest_more : (from : ℕ) (h part : Events) (e : Event) → IsRest from h part → IsRest from (h ++ e ∷ []) (part ++ e ∷ [])
rest_more from h part e r =
    let within = r.0 in let len = length-append h (e ∷ []) in (
      omega (arith, within, len),
      ap (λ l. l ++ e ∷ []) r.1 ∙ (append_assoc (take from h) part (e ∷ []) ∙ ap (λ l. l ++ (part ++ e ∷ [])) (sym (take-append-le from h (e ∷ []) r.0))),
    )

-- The events after an answer.
pub rest_after : (from : ℕ) (h part : Events) (e : Event) (answer : Result Turn Refused) → IsRest from h part → IsRest from (events_answered h e answer) (events_answered part e answer)
rest_after from h part e (Ok turn) r = rest_more from h part e r
rest_after from h part e (Err refused) r = r

-- None, at the end.
pub rest_none : (h : Events) (end : ℕ) → end ≡ length h → IsRest end h []
rest_none h end is = (omega (arith, is), sym (append-nil (take end h) ∙ (ap (λ n. take n h) is ∙ take-length h)))
