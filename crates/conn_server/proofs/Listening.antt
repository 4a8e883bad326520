-- What a listener tells as links are accepted one after another.
use Rattle.std.proofs.Common.{◌≡◌, ◌≤◌, ◌+◌, ℕ, Bool, true, false, List, [], ◌∷◌, ◌++◌, refl, ap, sym, ◌∙◌, append_assoc, append-nil, arith, true≢false}
use Rattle.std.proofs.lemmas.List.{map_push}
use Rattle.std.specs.Prelude.{Option, Some, None}
use Rattle.wire_io.specs.Links.{Accepted, Listening, Looks, quiets_after, with_next}
use Rattle.space.specs.declared.asked.Asked.{Asked}
use Rattle.conn_server.specs.Accepts.{TicksOn, links_of, ticks_of, with_all}
use Rattle.conn_server.specs.Hosts.{IsLike}

pub with_none : {A : Type 0} (told : Option (List A)) → with_all told [] ≡ told
with_none None = refl
with_none (Some told) = ap Some (append-nil told)

pub with_one : {A : Type 0} (told : Option (List A)) (xs : List A) (x : A) → with_next (with_all told xs) x ≡ with_all told (xs ++ x ∷ [])
with_one None xs x = refl
with_one (Some told) xs x = ap Some (append_assoc told xs (x ∷ []))

-- One more link was accepted.
pub one_more : {A : Type 0} (first before after : Option (List A)) (xs : List A) (x : A) → before ≡ with_all first xs → after ≡ with_next before x → after ≡ with_all first (xs ++ x ∷ [])
one_more first before after xs x is then = then ∙ (ap (λ t. with_next t x) is ∙ with_one first xs x)

-- None was.
pub no_more : {A : Type 0} (first before after : Option (List A)) (xs : List A) → before ≡ with_all first xs → after ≡ before → after ≡ with_all first (xs ++ [])
no_more first before after xs is same = same ∙ (is ∙ ap (with_all first) (sym (append-nil xs)))

-- One more link is shown with its entry: so it is the last of the links, and its entry the last of the entries.
pub links_on : (shown after : List (Accepted × Asked)) (p : Accepted × Asked) (links : List Accepted) (link : Accepted) → after ≡ shown ++ p ∷ [] → links_of shown ≡ links → p.0 ≡ link → links_of after ≡ links ++ link ∷ []
links_on shown after p links link is were named = ap links_of is ∙ (map_push (λ (q : Accepted × Asked). q.0) shown p ∙ (λ i. were i ++ named i ∷ []))

pub ticks_on : (shown after : List (Accepted × Asked)) (p : Accepted × Asked) (before ticks more : List Asked) → after ≡ shown ++ p ∷ [] → ticks_of shown ≡ before → more ≡ ticks ++ p.1 ∷ [] → TicksOn ticks more before (ticks_of after)
ticks_on shown after p before ticks more is was then = (p.1, then, ap ticks_of is ∙ (map_push (λ (q : Accepted × Asked). q.1) shown p ∙ ap (λ l. l ++ p.1 ∷ []) was))

-- The Ticks are those before the links, and one more of each was made.
pub ticks_same : (ticks ticks_after shown shown_after : List Asked) → ticks ≡ shown → TicksOn ticks ticks_after shown shown_after → ticks_after ≡ shown_after
ticks_same ticks ticks_after shown shown_after tied (tick, one, other) = one ∙ (ap (λ l. l ++ tick ∷ []) tied ∙ sym other)

still_untold : (old new answer : Bool) → new ≡ answer → answer ≡ false → (old ≡ true → answer ≡ true) → new ≡ old
still_untold true new answer is untold once = absurd (true≢false (sym (once refl) ∙ untold))
still_untold false new answer is untold once = is ∙ untold

-- A look raises the count of answers without a link and without a stop by one at most,
counted_once : (quiets new : ℕ) (answer : Bool) → new ≡ quiets_after quiets answer → new ≤ quiets + 1
counted_once quiets new true is = omega (arith, is)
counted_once quiets new false is = omega (arith, is)

-- and leaves it where it found that the listener was told to.
pub counted_told : (quiets new : ℕ) (answer : Bool) → new ≡ quiets_after quiets answer → answer ≡ true → new ≡ quiets
counted_told quiets new true is told = is
counted_told quiets new false is untold = absurd (true≢false (sym untold))

-- A look found that the listener wasn't told to stop.
pub like_looked : (l l2 : Listening) (answer : Bool) → Looks l l2 answer → answer ≡ false → IsLike l l2
like_looked l l2 answer looks untold =
    let same = looks.2 in
    record {
      accepted = looks.1;
      faults = omega (arith, same);
      quiets = counted_once l.quiets l2.quiets answer looks.4;
      same_told = still_untold l.told l2.told answer looks.3 untold looks.5;
      same_ports = looks.0;
      waited = looks.7;
    }
