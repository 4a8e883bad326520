-- The calls that a connection runs after its entries, among other connections' events.
use Rattle.std.proofs.Common.{◌≡◌, ◌≢◌, ℕ, ◌+◌, List, [], ◌∷◌, ◌++◌, refl, ap, sym, subst, ◌∙◌, arith, append_assoc, append-nil}
use Rattle.std.specs.Prelude.{Bool, true, false, ◌&&◌, ◌==◌}
use Rattle.std.proofs.lemmas.Bool.Decides.{Decides-eqb}
use Rattle.object_ids.specs.declared.ids.ObjId.{ObjId}
use Rattle.object_ids.specs.Same.{same_id}
use Rattle.history.specs.declared.asks.SpaceConfig.{SpaceConfig}
use Rattle.history.specs.declared.asks.Event.{Event}
use Rattle.history.specs.declared.asks.Ask.{Ask}
use Rattle.history.specs.declared.asks.Ask.TheVariants.{Abandon}
use Rattle.history.specs.declared.replies.Turn.{Turn}
use Rattle.history.specs.Running.{is_begin_of, is_end_of, running_calls_by}
use Rattle.history.specs.Steps.{turn_of}
use Rattle.history.specs.Table.{is_effective, place_of, places}
use Rattle.history.proofs.ListLemmas.{and_false}
use Rattle.history.proofs.Partitions.{one_if, length-filter-cons}
use Rattle.history.proofs.RunningLaws.{running_calls_by-push}
use Rattle.history.proofs.TableLaws.{places-push}
use Rattle.space.specs.declared.asked.AskedEnd.{AskedEnd}
use Rattle.space.specs.declared.asked.AskedEnd.TheVariants.{Turned, Abandoned, Refused as Denied}
use Rattle.space.specs.Acts.{event_of}
use Rattle.ports.specs.Balance.{AreOfOthers, WentAlone, CallsAddUp, BalancedLeavesNone}
use Rattle.ports.specs.Ports.{begins_with, begins, ends_with, ends, GoesBy}
use Rattle.space.proofs.AbandonLaws.{runs-effective}
use Rattle.space.proofs.NotedLaws.{taken-turn, refused-turn}
use Rattle.ports.proofs.TieSteps.{agree-begins, agree-ends, own-begins, own-ends, no-begins, no-ends, none-of}

-- ---- one event

-- An event of another connection leaves this one's calls.
other-runs : (config : SpaceConfig) (by : ℕ) (h : List Event) (e : Event) (o : ObjId) → e.by ≢ by → running_calls_by (places config (h ++ e ∷ [])) by o ≡ running_calls_by (places config h) by o
unfolding place_of
other-runs config by h e o away =
    let push = running_calls_by-push config h e by o in
    let after = ap (λ g. running_calls_by g by o) (places-push config h e) in
    let no_begin = ap one_if (never (is_effective config (places config h) e.by e.ask) (is_begin_of o e.ask)) in
    let no_end = ap one_if (never (is_effective config (places config h) e.by e.ask) (is_end_of o e.ask)) in
    let zero_if = none-of in
    omega (arith, push, after, no_begin, no_end, zero_if)
  where
    apart : (b : Bool) → (e.by == by) ≡ b → b ≡ false
    apart true q = absurd (away ((Decides-eqb e.by by).0 q))
    apart false q = refl

    shut : (v s b : Bool) → b ≡ false → ((v && b) && s) ≡ false
    shut true s false q = refl
    shut false s false q = refl
    shut v s true q = absurd (cc)

    never : (v s : Bool) → ((v && e.by == by) && s) ≡ false
    never v s = shut v s (e.by == by) (apart (e.by == by) refl)

others-run : (config : SpaceConfig) (by : ℕ) (h others : List Event) (o : ObjId) → AreOfOthers by others → running_calls_by (places config (h ++ others)) by o ≡ running_calls_by (places config h) by o
others-run config by h [] o a = ap (λ g. running_calls_by (places config g) by o) (append-nil h)
others-run config by h (e ∷ es) o a =
    ap (λ g. running_calls_by (places config g) by o) (sym (append_assoc h (e ∷ []) es))
    ∙ others-run config by (h ++ e ∷ []) es o a.1 ∙ other-runs config by h e o a.0

-- One of its own that was taken.
taken-runs : (config : SpaceConfig) (by : ℕ) (h : List Event) (m : ℕ) (a : Ask) (o : ObjId) (begun ended : Bool) → begun ≡ (is_effective config (places config h) by a && is_begin_of o a) → ended ≡ (is_effective config (places config h) by a && is_end_of o a) →
    running_calls_by (places config (h ++ event_of by m a ∷ [])) by o + one_if ended ≡ running_calls_by (places config h) by o + one_if begun
taken-runs config by h m a o begun ended b e =
    let push = running_calls_by-push config h (event_of by m a) by o in
    let after = ap (λ g. running_calls_by g by o) (places-push config h (event_of by m a)) in
    let begin = ap one_if (own-begins config h by m a o) in let end = ap one_if (own-ends config h by m a o) in
    let first = ap one_if b in let second = ap one_if e in
    omega (arith, push, after, begin, end, first, second)

-- An entry of its own.
entry-runs : (config : SpaceConfig) (by : ℕ) (h : List Event) (m : ℕ) (a : Ask) (end : AskedEnd) (next : List Event) (o : ObjId) → GoesBy config by h m a end next →
    running_calls_by (places config next) by o + one_if (ends_with o a end) ≡ running_calls_by (places config h) by o + one_if (begins_with o a end)
entry-runs config by h m a (Turned turn) next o g =
    let two = taken-turn config h next (event_of by m a) turn g in
    let P : Turn → Type 0 = λ t. running_calls_by (places config next) by o + one_if (ends_with o a (Turned t)) ≡ running_calls_by (places config h) by o + one_if (begins_with o a (Turned t)) in
    let Q : List Event → Type 0 = λ es. running_calls_by (places config es) by o + one_if (ends_with o a (Turned (turn_of config h (event_of by m a)))) ≡ running_calls_by (places config h) by o + one_if (begins_with o a (Turned (turn_of config h (event_of by m a)))) in
    subst P (sym two.0) (subst Q (sym two.1)
    (taken-runs config by h m a o (begins_with o a (Turned (turn_of config h (event_of by m a)))) (ends_with o a (Turned (turn_of config h (event_of by m a)))) (agree-begins config h by m a o) (agree-ends config h by m a o)))
entry-runs config by h m a (Denied refused) next o g =
    let same = ap (λ es. running_calls_by (places config es) by o) (refused-turn config h next (event_of by m a) refused g.1).1 in
    let one = ap one_if (no-begins refused a o) in let other = ap one_if (no-ends refused a o) in
    omega (arith, same, one, other)
entry-runs config by h m (Abandon x) (Abandoned place) next o g =
    let two = taken-turn config h next (event_of by m (Abandon x)) (turn_of config h (event_of by m (Abandon x))) g.2 in
    let eff : is_effective config (places config h) by (Abandon x) ≡ true = runs-effective config h by x g.0 in
    let Q : List Event → Type 0 = λ es. running_calls_by (places config es) by o + one_if (same_id x o) ≡ running_calls_by (places config h) by o + one_if false in
    subst Q (sym two.1)
    (taken-runs config by h m (Abandon x) o false (same_id x o) (sym (and_false (is_effective config (places config h) by (Abandon x)))) (ap (λ v. v && same_id x o) (sym eff)))
entry-runs config by h m _ (Abandoned place) next o g = absurd g.0

-- ---- entries

pub calls-add-up : CallsAddUp
calls-add-up config by h h2 [] o w =
    let same = ap (λ g. running_calls_by (places config g) by o) w.2 in let rest = others-run config by h w.0 o w.1 in
    omega (arith, same, rest)
calls-add-up config by h h2 (entry ∷ more) o w =
    let before = others-run config by h w.0 o w.2 in
    let here = entry-runs config by (h ++ w.0) entry.moment entry.ask entry.end w.1 o w.3 in
    let rest = calls-add-up config by w.1 h2 more o w.4 in
    let ended = length-filter-cons (ends o) entry more in let begun = length-filter-cons (begins o) entry more in
    omega (arith, before, here, rest, ended, begun)

pub balanced-leaves-none : BalancedLeavesNone
balanced-leaves-none config by h h2 entries w b none o =
    let sum = calls-add-up config by h h2 entries o w in let even = b o in let before = none o in
    omega (arith, sum, even, before)

pub went-alone : WentAlone
went-alone config by h h2 [] w = ([], tt, w ∙ sym (append-nil h))
went-alone config by h h2 (entry ∷ more) w =
    ([], w.0, tt, subst (λ (g : List Event). GoesBy config by g entry.moment entry.ask entry.end w.0) (sym (append-nil h)) w.1, went-alone config by w.0 h2 more w.2)
