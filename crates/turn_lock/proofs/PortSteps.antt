-- What one turn of a pass does to the port over it.
use Rattle.std.proofs.Common.{◌≡◌, ◌≢◌, ℕ, ◌+◌, ◌<◌, ◌≤◌, List, [], ◌∷◌, ◌++◌, length, refl, ap, sym, subst, ◌∙◌, append-nil, arith, inl, inr}
use Rattle.std.specs.Prelude.{Result, Ok, Err, ◌⊎◌}
use Rattle.object_ids.specs.declared.ids.ObjId.{ObjId}
use Rattle.history.specs.declared.asks.SpaceConfig.{SpaceConfig}
use Rattle.history.specs.declared.asks.Event.{Event}
use Rattle.history.specs.declared.asks.Ask.{Ask}
use Rattle.history.specs.declared.asks.Ask.TheVariants.{Abandon}
use Rattle.history.specs.declared.replies.Refused.{Refused}
use Rattle.history.specs.declared.replies.Refused.TheVariants.{OutOfMemory}
use Rattle.history.specs.declared.replies.Turn.{Turn}
use Rattle.history.specs.Running.{running_calls_by}
use Rattle.history.specs.Steps.{IsLegal, Step, turn_of}
use Rattle.history.specs.Table.{places}
use Rattle.history.proofs.StepLaws.{IsLegal-step}
use Rattle.space.specs.Acts.{event_of}
use Rattle.ports.specs.Balance.{AreOfOthers, WentAmong}
use Rattle.space.specs.Entries.{entry_of}
use Rattle.ports.specs.Ports.{GoesBy, Shows, abandoned_at, entries_of}
use Rattle.ports.specs.Ties.{IsTied, IsTiedTold}
use Rattle.space.specs.declared.asked.Asked.{Asked}
use Rattle.space.proofs.NotedLaws.{taken-turn, refused-turn}
use Rattle.ports.proofs.TieSteps.{tied-answered, tied-abandoned, tied-as, tied-told, entries-or, goes-answered, shown-runs}
use Rattle.turn_lock.specs.declared.view.View.{View}
use Rattle.turn_lock.specs.declared.handles.Pass.{Pass}
use Rattle.turn_lock.specs.Rule.{Events, MayComeTo, TurnedAt, own_after, space_with}
use Rattle.turn_lock.specs.Handles.{seen_space, view_of}
use Rattle.turn_lock.specs.Answers.{Gained, taken_of, events_of}
use Rattle.turn_lock.specs.PassPorts.{PortWent}
use Rattle.turn_lock.specs.PortLaws.{pass_self}
use Rattle.turn_lock.proofs.Turning.{runs_there}

-- ---- what has been seen

pub legal_turned : (v w : View) (before : Events) (by m : ℕ) (a : Ask) (answer : Result Turn Refused) → TurnedAt v before (event_of by m a) answer w → IsLegal w.config w.seen
legal_turned v w before by m a answer t = subst (λ (c : SpaceConfig). IsLegal c w.seen) (sym (ap (λ (y : View). y.config) t.after)) (IsLegal-step v.config before w.seen (event_of by m a) answer t.came.legal t.step)

-- ---- the tie

-- Other connections' events leave a port tied.
tied_there : (v : View) (before : Events) (entries : List Asked) (room : ℕ) → MayComeTo v before → IsTied v.number (seen_space v) entries room → IsTied v.number (space_with v.config before) entries room
tied_there v before entries room came t = record {
  calls = t.calls;
  run = λ o. let run = t.run o in let same = runs_there v.config v.number v.seen came.others before o came.apart came.after in omega (arith, run, same);
  shown = t.shown;
  few = t.few;
  within = t.within;
}

-- The view after a turn has the number and the configuration of the one before.
tied_view : (v w : View) (before : Events) (by m : ℕ) (a : Ask) (answer : Result Turn Refused) (entries : List Asked) (room : ℕ) → TurnedAt v before (event_of by m a) answer w
    → IsTied v.number (space_with v.config w.seen) entries room → IsTied w.number (seen_space w) entries room
tied_view v w before by m a answer entries room t tied =
    let number = ap (λ (y : View). y.number) t.after in let config = ap (λ (y : View). y.config) t.after in
    subst (λ (n : ℕ). IsTied n (seen_space w) entries room) (sym number) (subst (λ (c : SpaceConfig). IsTied v.number (space_with c w.seen) entries room) (sym config) tied)

pub tied_entered : (v w : View) (before : Events) (by m : ℕ) (a : Ask) (answer : Result Turn Refused) (entries entries2 : List Asked) (entry : Asked) (room room2 : ℕ) → by ≡ v.number → TurnedAt v before (event_of by m a) answer w
    → IsTied v.number (seen_space v) entries room → entry ≡ entry_of m a answer → entries2 ≡ entries ++ entry ∷ [] → length entries + (length entries + 2) ≤ room2 → IsTied w.number (seen_space w) entries2 room2
tied_entered v w before by m a answer entries entries2 entry room room2 number t tied is longer big =
    let t' : TurnedAt v before (event_of v.number m a) answer w = subst (λ (n : ℕ). TurnedAt v before (event_of n m a) answer w) number t in
    let next = tied-answered v.number m a (space_with v.config before) (space_with v.config w.seen) entries room room2 answer (tied_there v before entries room t.came tied) t'.step refl big in
    subst (λ (l : List Asked). IsTied w.number (seen_space w) l room2) (sym (longer ∙ ap (λ x. entries ++ x ∷ []) is)) (tied_view v w before v.number m a answer (entries ++ entry_of m a answer ∷ []) room2 t' next)

pub tied_unentered : (v w : View) (before : Events) (by m : ℕ) (a : Ask) (entries entries2 : List Asked) (room room2 : ℕ) → TurnedAt v before (event_of by m a) (Err OutOfMemory) w
    → IsTied v.number (seen_space v) entries room → entries2 ≡ entries → room ≤ room2 → IsTied w.number (seen_space w) entries2 room2
tied_unentered v w before by m a entries entries2 room room2 t tied same more =
    let is : w.seen ≡ before = (refused-turn v.config before w.seen (event_of by m a) OutOfMemory t.step).1 in
    let there = tied-as v.number (space_with v.config before) entries entries2 room room2 same more (tied_there v before entries room t.came tied) in
    tied_view v w before by m a (Err OutOfMemory) entries2 room2 t (subst (λ (h : Events). IsTied v.number (space_with v.config h) entries2 room2) (sym is) there)

pub tied_ended : (v w : View) (before : Events) (by m : ℕ) (o : ObjId) (answer : Result Turn Refused) (entries entries2 : List Asked) (place room room2 : ℕ) → by ≡ v.number → answer ≡ Ok (turn_of v.config before (event_of by m (Abandon o))) → TurnedAt v before (event_of by m (Abandon o)) answer w
    → IsTied v.number (seen_space v) entries room → Shows entries o → entries2 ≡ entries ++ abandoned_at m o place ∷ [] → room ≤ room2 → IsTied w.number (seen_space w) entries2 room2
tied_ended v w before by m o answer entries entries2 place room room2 number ok t tied shows longer more =
    let e = event_of by m (Abandon o) in
    let is : w.seen ≡ before ++ e ∷ [] = (taken-turn v.config before w.seen e (turn_of v.config before e) (subst (λ (x : Result Turn Refused). Step v.config before e x w.seen) ok t.step)).1 in
    let next = tied-abandoned v.number m o (space_with v.config before) (space_with v.config w.seen) entries room place (tied_there v before entries room t.came tied) shows
    (is ∙ ap (λ n. before ++ event_of n m (Abandon o) ∷ []) number) refl in
    tied_view v w before by m (Abandon o) answer entries2 room2 t (tied-as v.number (space_with v.config w.seen) (entries ++ abandoned_at m o place ∷ []) entries2 room room2 longer more next)

-- A call that the entries show runs in what the pass has seen, and wherever it may come to.
pub shown_there : (v : View) (before : Events) (by : ℕ) (entries : List Asked) (room : ℕ) (o : ObjId) → by ≡ v.number → MayComeTo v before → IsTied v.number (seen_space v) entries room → Shows entries o → 0 < running_calls_by (places v.config before) by o
shown_there v before by entries room o number came tied shows =
    subst (λ (n : ℕ). 0 < running_calls_by (places v.config before) n o) (sym number) (shown-runs v.number (space_with v.config before) entries room o (tied_there v before entries room came tied) shows)

-- ---- how it led on

own_entered : (own : Events) (by m : ℕ) (a : Ask) (answer : Result Turn Refused) → own_after own (event_of by m a) answer ≡ own ++ (taken_of by (entry_of m a answer) ++ [])
own_entered own by m a (Ok turn) = refl
own_entered own by m a (Err refused) = sym (append-nil own)

gained_by : (v w : View) (before : Events) (e : Event) (answer : Result Turn Refused) (entries : List Asked) → TurnedAt v before e answer w
    → own_after v.own e answer ≡ v.own ++ events_of v.number entries → WentAmong v.config v.number v.seen entries w.seen → Gained v w entries
gained_by v w before e answer entries t own went =
    let is = t.after in record {
      same_number = ap (λ (y : View). y.number) is;
      same_parts = ap (λ (y : View). y.parts) is;
      same_config = ap (λ (y : View). y.config) is;
      same_opening = ap (λ (y : View). y.opening) is;
      same_made = ap (λ (y : View). y.made) is;
      same_ended = ap (λ (y : View). y.ended) is;
      own_more = ap (λ (y : View). y.own) is ∙ own;
      went = went;
    }

-- One entry, after other connections' events.
among_one : (config : SpaceConfig) (by : ℕ) (seen others before last : Events) (entry : Asked) → AreOfOthers by others → before ≡ seen ++ others → GoesBy config by before entry.moment entry.ask entry.end last → WentAmong config by seen (entry ∷ []) last
among_one config by seen others before last entry apart is goes =
    (others, last, apart, subst (λ (h : Events). GoesBy config by h entry.moment entry.ask entry.end last) is goes, ([], tt, sym (append-nil last)))

gained_entered : (v w : View) (before : Events) (m : ℕ) (a : Ask) (answer : Result Turn Refused) → answer ≢ Err OutOfMemory → TurnedAt v before (event_of v.number m a) answer w → Gained v w (entry_of m a answer ∷ [])
gained_entered v w before m a answer known t = gained_by v w before (event_of v.number m a) answer (entry_of m a answer ∷ []) t (own_entered v.own v.number m a answer)
    (among_one v.config v.number v.seen t.came.others before w.seen (entry_of m a answer) t.came.apart t.came.after (goes-answered v.config v.number m a before w.seen answer known t.step))

gained_unentered : (v w : View) (before : Events) (e : Event) → TurnedAt v before e (Err OutOfMemory) w → Gained v w []
gained_unentered v w before e t = gained_by v w before e (Err OutOfMemory) [] t (sym (append-nil v.own))
    (t.came.others, t.came.apart, (refused-turn v.config before w.seen e OutOfMemory t.step).1 ∙ t.came.after)

gained_ended : (v w : View) (before : Events) (m : ℕ) (o : ObjId) (place : ℕ) → TurnedAt v before (event_of v.number m (Abandon o)) (Ok (turn_of v.config before (event_of v.number m (Abandon o)))) w → place ≡ length before
    → 0 < running_calls_by (places v.config before) v.number o → Gained v w (abandoned_at m o place ∷ [])
gained_ended v w before m o place t at runs =
    gained_by v w before (event_of v.number m (Abandon o)) (Ok (turn_of v.config before (event_of v.number m (Abandon o)))) (abandoned_at m o place ∷ []) t refl
    (among_one v.config v.number v.seen t.came.others before w.seen (abandoned_at m o place) t.came.apart t.came.after (runs, at, t.step))

went_by : (p q : Pass) (xs ys : List Asked) (gained : List Asked) → ys ≡ xs ++ gained → Gained (view_of p) (view_of q) gained → q.seat.id ≡ p.seat.id → PortWent p xs q ys
went_by p q xs ys gained is views same = (gained, is, record { views = views; same_seat = same })

pub went_entered : (p q : Pass) (xs ys : List Asked) (before : Events) (by m : ℕ) (a : Ask) (answer : Result Turn Refused) (entry : Asked) → answer ≢ Err OutOfMemory → by ≡ (view_of p).number → TurnedAt (view_of p) before (event_of by m a) answer (view_of q)
    → entry ≡ entry_of m a answer → ys ≡ xs ++ entry ∷ [] → q.seat.id ≡ p.seat.id → PortWent p xs q ys
went_entered p q xs ys before by m a answer entry known number t is longer same =
    let t' : TurnedAt (view_of p) before (event_of (view_of p).number m a) answer (view_of q) = subst (λ (n : ℕ). TurnedAt (view_of p) before (event_of n m a) answer (view_of q)) number t in
    went_by p q xs ys (entry_of m a answer ∷ []) (longer ∙ ap (λ x. xs ++ x ∷ []) is) (gained_entered (view_of p) (view_of q) before m a answer known t') same

pub went_unentered : (p q : Pass) (xs ys : List Asked) (before : Events) (e : Event) → TurnedAt (view_of p) before e (Err OutOfMemory) (view_of q) → ys ≡ xs → q.seat.id ≡ p.seat.id → PortWent p xs q ys
went_unentered p q xs ys before e t same_list same =
    went_by p q xs ys [] (same_list ∙ sym (append-nil xs)) (gained_unentered (view_of p) (view_of q) before e t) same

pub went_ended : (p q : Pass) (xs ys : List Asked) (before : Events) (by m : ℕ) (o : ObjId) (place : ℕ) → by ≡ (view_of p).number → TurnedAt (view_of p) before (event_of by m (Abandon o)) (Ok (turn_of (view_of p).config before (event_of by m (Abandon o)))) (view_of q)
    → place ≡ length before → 0 < running_calls_by (places (view_of p).config before) by o → ys ≡ xs ++ abandoned_at m o place ∷ [] → q.seat.id ≡ p.seat.id → PortWent p xs q ys
went_ended p q xs ys before by m o place number t at runs longer same =
    let v = view_of p in
    let P : ℕ → Type 0 = λ n. TurnedAt v before (event_of n m (Abandon o)) (Ok (turn_of v.config before (event_of n m (Abandon o)))) (view_of q) × (0 < running_calls_by (places v.config before) n o) in
    let both : P v.number = subst P number (t, runs) in
    went_by p q xs ys (abandoned_at m o place ∷ []) longer (gained_ended v (view_of q) before m o place both.0 at both.1) same

-- The same in what it has seen.
pub shown_now : (v : View) (by : ℕ) (entries : List Asked) (room : ℕ) (o : ObjId) → by ≡ v.number → IsTied v.number (seen_space v) entries room → Shows entries o → 0 < running_calls_by (places v.config v.seen) by o
shown_now v by entries room o number tied shows = subst (λ (n : ℕ). 0 < running_calls_by (places v.config v.seen) n o) (sym number) (shown-runs v.number (seen_space v) entries room o tied shows)

pub went_same : (p : Pass) (xs ys : List Asked) → ys ≡ xs → PortWent p xs p ys
went_same p xs ys same = ([], same ∙ sym (append-nil xs), pass_self p)

-- ---- entries in proofs alone

-- The tie after a turn, with its entry if it has one.
pub tied_told : (v w : View) (before : Events) (by m : ℕ) (a : Ask) (answer : Result Turn Refused) (entries entries2 : List Asked) → by ≡ v.number → TurnedAt v before (event_of by m a) answer w
    → IsTiedTold v.number (seen_space v) entries → entries2 ≡ entries ++ entries_of m a answer → IsTiedTold w.number (seen_space w) entries2
tied_told v w before by m a answer entries entries2 number t tied longer = go (entries-or m a answer)
  where
    go : ((answer ≡ Err OutOfMemory) × (entries_of m a answer ≡ [])) ⊎ ((answer ≢ Err OutOfMemory) × (entries_of m a answer ≡ entry_of m a answer ∷ [])) → IsTiedTold w.number (seen_space w) entries2
    go (inl x) =
        tied-told w.number (seen_space w) entries2 (length entries + length entries)
        (tied_unentered v w before by m a entries entries2 (length entries + length entries) (length entries + length entries) (subst (λ (r : Result Turn Refused). TurnedAt v before (event_of by m a) r w) x.0 t) tied
        (longer ∙ (ap (λ l. entries ++ l) x.1 ∙ append-nil entries)) (omega arith))
    go (inr x) =
        tied-told w.number (seen_space w) entries2 (length entries + (length entries + 2))
        (tied_entered v w before by m a answer entries entries2 (entry_of m a answer) (length entries + length entries) (length entries + (length entries + 2)) number t tied refl (longer ∙ ap (λ l. entries ++ l) x.1) (omega arith))

pub went_told : (p q : Pass) (xs ys : List Asked) (before : Events) (by m : ℕ) (a : Ask) (answer : Result Turn Refused) → by ≡ (view_of p).number → TurnedAt (view_of p) before (event_of by m a) answer (view_of q)
    → ys ≡ xs ++ entries_of m a answer → q.seat.id ≡ p.seat.id → PortWent p xs q ys
went_told p q xs ys before by m a answer number t longer same = go (entries-or m a answer)
  where
    go : ((answer ≡ Err OutOfMemory) × (entries_of m a answer ≡ [])) ⊎ ((answer ≢ Err OutOfMemory) × (entries_of m a answer ≡ entry_of m a answer ∷ [])) → PortWent p xs q ys
    go (inl x) =
        went_unentered p q xs ys before (event_of by m a) (subst (λ (r : Result Turn Refused). TurnedAt (view_of p) before (event_of by m a) r (view_of q)) x.0 t)
        (longer ∙ (ap (λ l. xs ++ l) x.1 ∙ append-nil xs)) same
    go (inr x) = went_entered p q xs ys before by m a answer (entry_of m a answer) x.0 number t refl (longer ∙ ap (λ l. xs ++ l) x.1) same

-- The tie after an end without an answer.
pub tied_told_end : (v w : View) (before : Events) (by m : ℕ) (o : ObjId) (entries entries2 : List Asked) (place : ℕ) → by ≡ v.number → TurnedAt v before (event_of by m (Abandon o)) (Ok (turn_of v.config before (event_of by m (Abandon o)))) w
    → IsTiedTold v.number (seen_space v) entries → Shows entries o → entries2 ≡ entries ++ abandoned_at m o place ∷ [] → IsTiedTold w.number (seen_space w) entries2
tied_told_end v w before by m o entries entries2 place number t tied shows longer =
    tied-told w.number (seen_space w) entries2 (length entries + length entries)
    (tied_ended v w before by m o (Ok (turn_of v.config before (event_of by m (Abandon o)))) entries entries2 place (length entries + length entries) (length entries + length entries) number refl t tied shows longer (omega arith))
