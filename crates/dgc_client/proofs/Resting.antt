-- Laws of what a table knows of its references since the last `due` for which no call was due.
use Rattle.std.proofs.Common.{◌≡◌, List, [], ◌∷◌, refl, ap, ◌∙◌, cond, None, true≢false, sym}
use Rattle.std.specs.Prelude.{Bool, true, false, not, filter, map, is_some}
use Rattle.dgc_client.specs.declared.client_ref.ClientRef.{ClientRef}
use Rattle.dgc_client.specs.declared.idle.Idle.TheVariants.{Timely, Over}
use Rattle.dgc_client.specs.Idle.{IsIdle}
use Rattle.dgc_client.specs.Log.{Dirty, due_names}
use Rattle.dgc_client.specs.RefMap.{lapsed}
use Rattle.dgc_client.specs.StandsForLog.{lapsed_if, wants, ids_of}

-- Where no call is due, no reference wants one.
pub none-wants : (renews : Bool) (rs : List ClientRef) → due_names renews (ids_of rs) ≡ None → rs ≡ []
none-wants renews [] h = refl
none-wants renews (r ∷ rs) h = absurd (true≢false (ap is_some h))

-- Where the client's time is over, it does not matter which references are sure.
wants-lapsed : (sent : List Dirty) (rs : List ClientRef) → filter (wants true sent) (map lapsed rs) ≡ map lapsed (filter (wants true sent) rs)
wants-lapsed sent [] = refl
wants-lapsed sent (r ∷ rs) = go (wants true sent r) (wants-lapsed sent rs)
  where
    go : (b : Bool) → filter (wants true sent) (map lapsed rs) ≡ map lapsed (filter (wants true sent) rs) →
        cond b (lapsed r ∷ filter (wants true sent) (map lapsed rs)) (filter (wants true sent) (map lapsed rs)) ≡ map lapsed (cond b (r ∷ filter (wants true sent) rs) (filter (wants true sent) rs))
    go true rest = ap (λ l. lapsed r ∷ l) rest
    go false rest = rest

lapsed-twice : (rs : List ClientRef) → map lapsed (map lapsed rs) ≡ map lapsed rs
lapsed-twice [] = refl
lapsed-twice (r ∷ rs) = ap (λ l. lapsed r ∷ l) (lapsed-twice rs)

pub idle-over : (over : Bool) (sent : List Dirty) (rs : List ClientRef) → over ≡ true → filter (wants over sent) rs ≡ [] → IsIdle Over sent (lapsed_if over rs)
idle-over true sent rs h none = (wants-lapsed sent rs ∙ ap (map lapsed) none, lapsed-twice rs)
idle-over false sent rs h none = absurd (true≢false (sym h))

pub idle-timely : (over : Bool) (sent : List Dirty) (rs : List ClientRef) → over ≡ false → filter (wants over sent) rs ≡ [] → IsIdle Timely sent (lapsed_if over rs)
idle-timely false sent rs h none = none
idle-timely true sent rs h none = absurd (true≢false h)

pub timely-known : (over : Bool) (sent : List Dirty) (rs : List ClientRef) → not over ≡ true → IsIdle Timely sent rs → (filter (wants over sent) rs ≡ []) × (lapsed_if over rs ≡ rs)
timely-known false sent rs h none = (none, refl)
timely-known true sent rs h none = absurd (true≢false (sym h))

pub over-known : (over : Bool) (sent : List Dirty) (rs : List ClientRef) → over ≡ true → IsIdle Over sent rs → (filter (wants over sent) rs ≡ []) × (lapsed_if over rs ≡ rs)
over-known true sent rs h none = none
over-known false sent rs h none = absurd (true≢false (sym h))
