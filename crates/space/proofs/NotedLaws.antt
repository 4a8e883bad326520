-- What a turn's entry needs, by what is kept.
use Rattle.std.proofs.Common.{◌≡◌, ℕ, ◌≤◌, inl, inr, List, [], ◌∷◌, ◌++◌, length, refl, ap, sym, subst, ◌∙◌, arith, Option, Some, None, Ok, Err}
use Rattle.std.specs.Prelude.{Bool, true, false, ◌⊎◌, if◌then◌else◌, Result, IfOk, OnOk, OnErr}
use Rattle.std.proofs.lemmas.List.{length-map}
use Rattle.object_ids.specs.declared.ids.ObjId.{ObjId}
use Rattle.history.specs.declared.asks.SpaceConfig.{SpaceConfig}
use Rattle.history.specs.declared.asks.Event.{Event}
use Rattle.history.specs.declared.asks.Ask.{Ask}
use Rattle.history.specs.declared.asks.Ask.TheVariants.{Open, Begin, Finish, Abandon, Dirty, Clean, Ack, Bind, Rebind, Unbind, Lookup, List as ListNames, Tick}
use Rattle.history.specs.declared.places.Exported.{Exported}
use Rattle.history.specs.declared.replies.Refused.{Refused}
use Rattle.history.specs.declared.replies.Refused.TheVariants.{OutOfMemory}
use Rattle.history.specs.declared.replies.Reply.TheVariants.{Started, NoObject, Finished, NotRunning, Done, Bound, AlreadyBound, Unbound, NotBound, Names}
use Rattle.history.specs.declared.replies.Turn.{Turn}
use Rattle.history.specs.Limits.{limits, refusal}
use Rattle.history.specs.Places.{History, exported_from, has, kind_of, exported_count}
use Rattle.history.specs.Names.{names, stands_for}
use Rattle.history.specs.Replies.{ids, reply, reply_found}
use Rattle.history.specs.Steps.{turn_of, answer_with, history_with, Step}
use Rattle.history.specs.Table.{is_effective, exports, table, place_of, places}
use Rattle.history.proofs.NumberLaws.{length-exported_from}
use Rattle.space.specs.Built.{SpaceHistory}
use Rattle.space.specs.Noted.{NoteFitsIn, made_by, turn_answer}

-- ---- what a step says

-- An event that was taken is answered by its turn.
pub taken-turn : (config : SpaceConfig) (h h2 : List Event) (e : Event) (turn : Turn) → Step config h e (Ok turn) h2 → (turn ≡ turn_of config h e) × (h2 ≡ h ++ e ∷ [])
taken-turn config h h2 e turn (inl s) = go (refusal (limits config) config (places config h) e) s.0 s.1
  where
    go : (r : Option Refused) → Ok turn ≡ answer_with config h e r → h2 ≡ history_with h e r → (turn ≡ turn_of config h e) × (h2 ≡ h ++ e ∷ [])
    go None a b = ((cc), b)
    go (Some refused) a b = absurd (cc)
taken-turn config h h2 e turn (inr s) = absurd (let never = s.0 in cc)

-- One that was refused, for its cause or for want of memory, leaves all as it was.
pub refused-turn : (config : SpaceConfig) (h h2 : List Event) (e : Event) (refused : Refused) → Step config h e (Err refused) h2 → ((refusal (limits config) config (places config h) e ≡ Some refused) ⊎ (refused ≡ OutOfMemory)) × (h2 ≡ h)
refused-turn config h h2 e refused (inl s) = go (refusal (limits config) config (places config h) e) refl s.0 s.1
  where
    go : (r : Option Refused) → refusal (limits config) config (places config h) e ≡ r → Err refused ≡ answer_with config h e r → h2 ≡ history_with h e r → ((refusal (limits config) config (places config h) e ≡ Some refused) ⊎ (refused ≡ OutOfMemory)) × (h2 ≡ h)
    go None q a b = absurd (cc)
    go (Some x) q a b = (let same : x ≡ refused = (cc) in inl (q ∙ ap (λ y. Some y) same), b)
refused-turn config h h2 e refused (inr s) = (let same : refused ≡ OutOfMemory = (let first = s.0 in cc) in inr same, s.1)

-- ---- what a turn tells

-- A reply has no more identifiers than the return makes objects.
reply-ids : (config : SpaceConfig) (h : History) (e : Event) (os : List ObjId) → reply config h e ≡ Finished os → length os ≤ made_by e.ask
unfolding reply place_of exports
reply-ids config h e os s = go e.ask s
  where
    begun : (v : Bool) (kind n : ℕ) → (if v then Started kind else NoObject) ≡ Finished os → length os ≤ n
    begun true kind n t = absurd (cc)
    begun false kind n t = absurd (cc)

    ended : (v : Bool) (n : ℕ) → (if v then Done else NotRunning) ≡ Finished os → length os ≤ n
    ended true n t = absurd (cc)
    ended false n t = absurd (cc)

    made-few : (made : List ℕ) → ids (exported_from config.uid (exported_count h) false made) ≡ os → length os ≤ length made
    made-few made t =
        let same = ap length t in
        let all = length-map (exported_from config.uid (exported_count h) false made) (λ (x : Exported). x.id) in
        let long = length-exported_from config.uid (exported_count h) false made in
        omega (arith, same, all, long)

    finished : (v : Bool) (made : List ℕ) → (if v then Finished (ids (if v then exported_from config.uid (exported_count h) false made else [])) else NotRunning) ≡ Finished os → length os ≤ length made
    finished true made t = made-few made (cc)
    finished false made t = absurd (cc)

    bound : (v w : Bool) (n : ℕ) → (if v then Bound else if w then AlreadyBound else NoObject) ≡ Finished os → length os ≤ n
    bound true w n t = absurd (cc)
    bound false true n t = absurd (cc)
    bound false false n t = absurd (cc)

    rebound : (v : Bool) (n : ℕ) → (if v then Bound else NoObject) ≡ Finished os → length os ≤ n
    rebound true n t = absurd (cc)
    rebound false n t = absurd (cc)

    unbound : (v : Bool) (n : ℕ) → (if v then Unbound else NotBound) ≡ Finished os → length os ≤ n
    unbound true n t = absurd (cc)
    unbound false n t = absurd (cc)

    found : (s : Option ObjId) (n : ℕ) → reply_found (table config h) s ≡ Finished os → length os ≤ n
    found None n t = absurd (cc)
    found (Some o) n t = absurd (cc)

    go : (a : Ask) → reply config h (record e { ask = a }) ≡ Finished os → length os ≤ made_by a
    go (Open kind pinned) s = absurd (cc)
    go (Begin o) s = begun (is_effective config h e.by (Begin o)) (kind_of (table config h) o) 0 s
    go (Abandon o) s = ended (is_effective config h e.by (Abandon o)) 0 s
    go (Dirty x y z w) s = absurd (cc)
    go (Clean x y z w) s = absurd (cc)
    go (Ack u) s = absurd (cc)
    go Tick s = absurd (cc)
    go (Finish x y z w) s = finished (is_effective config h e.by (Finish x y z w)) y s
    go (Bind n o) s = bound (is_effective config h e.by (Bind n o)) (has (table config h) o) 0 s
    go (Rebind n o) s = rebound (is_effective config h e.by (Rebind n o)) 0 s
    go (Unbind n) s = unbound (is_effective config h e.by (Unbind n)) 0 s
    go (Lookup n u) s = found (stands_for h n) 0 s
    go ListNames s = absurd (cc)

-- It has names only where they are asked for, and then those of the history.
reply-names : (config : SpaceConfig) (h : History) (e : Event) (ns : List (List ℕ)) → reply config h e ≡ Names ns → (e.ask ≡ ListNames) × (names h ≡ ns)
unfolding reply place_of exports
reply-names config h e ns s = go e.ask refl s
  where
    begun : (v : Bool) (kind : ℕ) → (if v then Started kind else NoObject) ≡ Names ns → ⊥
    begun true kind t = cc
    begun false kind t = cc

    ended : (v : Bool) → (if v then Done else NotRunning) ≡ Names ns → ⊥
    ended true t = cc
    ended false t = cc

    finished : (v : Bool) (os : List ObjId) → (if v then Finished os else NotRunning) ≡ Names ns → ⊥
    finished true os t = cc
    finished false os t = cc

    bound : (v w : Bool) → (if v then Bound else if w then AlreadyBound else NoObject) ≡ Names ns → ⊥
    bound true w t = cc
    bound false true t = cc
    bound false false t = cc

    rebound : (v : Bool) → (if v then Bound else NoObject) ≡ Names ns → ⊥
    rebound true t = cc
    rebound false t = cc

    unbound : (v : Bool) → (if v then Unbound else NotBound) ≡ Names ns → ⊥
    unbound true t = cc
    unbound false t = cc

    found : (s : Option ObjId) → reply_found (table config h) s ≡ Names ns → ⊥
    found None t = cc
    found (Some o) t = cc

    go : (a : Ask) → e.ask ≡ a → reply config h (record e { ask = a }) ≡ Names ns → (e.ask ≡ ListNames) × (names h ≡ ns)
    go (Open kind pinned) i s = absurd (cc)
    go (Begin o) i s = absurd (begun (is_effective config h e.by (Begin o)) (kind_of (table config h) o) s)
    go (Abandon o) i s = absurd (ended (is_effective config h e.by (Abandon o)) s)
    go (Dirty x y z w) i s = absurd (cc)
    go (Clean x y z w) i s = absurd (cc)
    go (Ack u) i s = absurd (cc)
    go Tick i s = absurd (cc)
    go (Finish x y z w) i s = absurd (finished (is_effective config h e.by (Finish x y z w)) _ s)
    go (Bind n o) i s = absurd (bound (is_effective config h e.by (Bind n o)) (has (table config h) o) s)
    go (Rebind n o) i s = absurd (rebound (is_effective config h e.by (Rebind n o)) s)
    go (Unbind n) i s = absurd (unbound (is_effective config h e.by (Unbind n)) s)
    go (Lookup n u) i s = absurd (found (stands_for h n) s)
    go ListNames i s = (i, let same : names h ≡ ns = cc in same)

-- WHAT IS KNOWN of a turn for its copy, of the space that contracts see.
pub record IsSmall (asked : Ask) (bound : List (List ℕ)) (turn : Turn) (ids_room : ℕ) : Type 0 where
  pub ids : (os : List ObjId) → turn.reply ≡ Finished os → length os ≤ ids_room
  pub names : (ns : List (List ℕ)) → turn.reply ≡ Names ns → (asked ≡ ListNames) × (bound ≡ ns)

pub turn-small : {shown : List Exported} (config : SpaceConfig) (events h2 : List Event) (e : Event) (s : SpaceHistory) (turn : Turn) → record { configuration = config; events = events; rows = shown } ≡ s → Step s.configuration s.events e (Ok turn) h2 →
    IsSmall e.ask (names (places config events)) turn (made_by e.ask)
turn-small config events h2 e s turn v t =
    let P : SpaceHistory → Type 0 = λ h. Step h.configuration h.events e (Ok turn) h2 in
    let is : turn ≡ turn_of config events e = (taken-turn config events h2 e turn (subst P (sym v) t)).0 in
    let R : Turn → Type 0 = λ x. IsSmall e.ask (names (places config events)) x (made_by e.ask) in
    subst R (sym is) (record { ids = λ os p. reply-ids config (places config events) e os p; names = λ ns p. reply-names config (places config events) e ns p })

-- The same as there is room for a copy.
pub fits-turn : {shown : List Exported} (config : SpaceConfig) (events h2 : List Event) (e : Event) (s : SpaceHistory) (answer : Result (Turn × List ObjId) Refused) (ids_room : ℕ) (listed : List (List ℕ)) →
    record { configuration = config; events = events; rows = shown } ≡ s → Step s.configuration s.events e (turn_answer answer) h2 →
    (e.ask ≡ ListNames → listed ≡ names (places config events)) → made_by e.ask ≤ ids_room → IfOk answer (λ x. x.1 ≡ x.0.gone) → NoteFitsIn answer ids_room listed
fits-turn config events h2 e s (Ok x) ids_room listed v t l i g =
    let small = turn-small config events h2 e s x.0 v t in
    record {
      ids_fit = λ os p. (let few = small.ids os p in omega (arith, few, i));
      gone_are = g;
      names_are = λ ns p. (let two = small.names ns p in l two.0 ∙ two.1);
    }
fits-turn config events h2 e s (Err refused) ids_room listed v t l i g = tt

-- What follows of a value follows of it where there is one.
pub if-ok : {T E : Type 0} (r : Result T E) (P Q : T → Type 0) → IfOk r P → ((x : T) → P x → Q x) → IfOk r Q
if-ok (Ok x) P Q p f = f x p
if-ok (Err e) P Q p f = tt

-- A turn without memory was refused.
pub stays : (answer : Result (Turn × List ObjId) Refused) (P : Type 0) → turn_answer answer ≡ Err OutOfMemory → OnErr answer P → P
stays (Ok x) P e p = absurd (cc)
stays (Err refused) P e p = p

-- What holds where a turn is taken holds where its answer alone is looked at.
pub turned-ok : (answer : Result (Turn × List ObjId) Refused) (P : Type 0) → OnOk answer P → OnOk (turn_answer answer) P
turned-ok (Ok x) P p = p
turned-ok (Err refused) P p = p

-- So does what holds where it is refused.
pub turned-err : (answer : Result (Turn × List ObjId) Refused) (P : Type 0) → OnErr answer P → OnErr (turn_answer answer) P
turned-err (Ok x) P p = p
turned-err (Err refused) P p = p
