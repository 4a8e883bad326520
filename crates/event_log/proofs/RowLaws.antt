-- A client or a name more changes no event of a row.
use Rattle.std.proofs.Common.{◌≡◌, ◌<◌, ℕ, List, [], ◌∷◌, ◌++◌, length, refl, ap, sym, subst, ◌∙◌, arith, true≢false}
use Rattle.std.specs.Prelude.{map, Option, None, Some, IsSome, get_or, slice_get, unwrap_or}
use Rattle.std.specs.List.{AllByRecursion}
use Rattle.std.proofs.lemmas.List.{get_or_append_left, length-append}
use Rattle.std.proofs.lemmas.Option.{unwrap_or-slice_get, slice_get-get_or, slice_get_within}
use Rattle.history.proofs.ListLemmas.{every-append}
use Rattle.object_ids.specs.declared.ids.Uid.{Uid}
use Rattle.object_ids.specs.Client.{Client}
use Rattle.history.specs.declared.asks.Event.{Event}
use Rattle.history.specs.declared.asks.Ask.TheVariants.{Dirty, Clean, Lookup}
use Rattle.event_log.specs.Rows.{client_at, event_of, event_with, name_at, nobody, IsAmong, IsKnown}
use Rattle.event_log.specs.declared.rows.Row.{Row}
use Rattle.event_log.specs.declared.rows.What.{What}
use Rattle.event_log.specs.declared.rows.What.TheVariants.{Opens, Begins, Finishes, Abandons, Acks, Dirties, Renews, Cleans, CleansNothing, LooksUp, ListsNames, Ticks, Whole}

-- The value at a place, whichever word says it.
value_there : {X : Type 0} (xs : List X) (number : ℕ) (other without : X) → number < length xs → get_or xs number other ≡ unwrap_or (slice_get xs number) without
value_there xs number other without below = ap (λ found. unwrap_or found without) (sym (slice_get-get_or xs number other below))

pub client_there : (clients : List Client) (number : ℕ) (other : Client) → number < length clients → get_or clients number other ≡ client_at clients number
client_there clients number other below = value_there clients number other nobody below

pub name_there : (names : List (List ℕ)) (number : ℕ) (other : List ℕ) → number < length names → get_or names number other ≡ name_at names number
name_there names number other below = value_there names number other [] below

-- The value of a number stays where there are more.
value-kept : {X : Type 0} (xs more : List X) (number : ℕ) (without : X) → number < length xs →
    unwrap_or (slice_get (xs ++ more) number) without ≡ unwrap_or (slice_get xs number) without
value-kept xs more number without below =
    unwrap_or-slice_get (xs ++ more) number without ∙ get_or_append_left xs more without number below ∙ sym (unwrap_or-slice_get xs number without)

pub what-kept : (space : Uid) (clients more : List Client) (names others : List (List ℕ)) (by moment : ℕ) (what : What) → IsAmong (length clients) (length names) what →
    event_with space (clients ++ more) (names ++ others) by moment what ≡ event_with space clients names by moment what
what-kept space clients more names others by moment (Opens kind pinned) known = refl
what-kept space clients more names others by moment (Begins object) known = refl
what-kept space clients more names others by moment (Finishes number uid) known = refl
what-kept space clients more names others by moment (Abandons object) known = refl
what-kept space clients more names others by moment (Acks uid) known = refl
what-kept space clients more names others by moment (Dirties client number asked object) known =
    ap (λ (c : Client). record { by = by; moment = moment; ask = Dirty c number asked (record { number = object; space = space } ∷ []) }) (value-kept clients more client nobody known)
what-kept space clients more names others by moment (Renews client number asked) known =
    ap (λ (c : Client). record { by = by; moment = moment; ask = Dirty c number asked [] }) (value-kept clients more client nobody known)
what-kept space clients more names others by moment (Cleans client strong number object) known =
    ap (λ (c : Client). record { by = by; moment = moment; ask = Clean c number (record { number = object; space = space } ∷ []) strong }) (value-kept clients more client nobody known)
what-kept space clients more names others by moment (CleansNothing client strong number) known =
    ap (λ (c : Client). record { by = by; moment = moment; ask = Clean c number [] strong }) (value-kept clients more client nobody known)
what-kept space clients more names others by moment (LooksUp name uid) known =
    ap (λ (n : List ℕ). record { by = by; moment = moment; ask = Lookup n uid }) (value-kept names others name [] known)
what-kept space clients more names others by moment ListsNames known = refl
what-kept space clients more names others by moment Ticks known = refl
what-kept space clients more names others by moment (Whole event) known = refl

pub what-known : (clients more : List Client) (names others : List (List ℕ)) (what : What) → IsAmong (length clients) (length names) what →
    IsAmong (length (clients ++ more)) (length (names ++ others)) what
what-known clients more names others (Opens kind pinned) known = tt
what-known clients more names others (Begins object) known = tt
what-known clients more names others (Finishes number uid) known = tt
what-known clients more names others (Abandons object) known = tt
what-known clients more names others (Acks uid) known = tt
what-known clients more names others (Dirties client number asked object) known = omega (arith, length-append clients more, known)
what-known clients more names others (Renews client number asked) known = omega (arith, length-append clients more, known)
what-known clients more names others (Cleans client strong number object) known = omega (arith, length-append clients more, known)
what-known clients more names others (CleansNothing client strong number) known = omega (arith, length-append clients more, known)
what-known clients more names others (LooksUp name uid) known = omega (arith, length-append names others, known)
what-known clients more names others ListsNames known = tt
what-known clients more names others Ticks known = tt
what-known clients more names others (Whole event) known = tt

pub rows-kept : (space : Uid) (clients more : List Client) (names others : List (List ℕ)) (rows : List Row) → AllByRecursion (IsKnown (length clients) (length names)) rows →
    map (event_of space (clients ++ more) (names ++ others)) rows ≡ map (event_of space clients names) rows
rows-kept space clients more names others [] known = refl
rows-kept space clients more names others (row ∷ rows) known =
    ap (λ (e : Event). e ∷ map (event_of space (clients ++ more) (names ++ others)) rows) (what-kept space clients more names others row.by row.moment row.what known.0)
    ∙ ap (λ (es : List Event). event_of space clients names row ∷ es) (rows-kept space clients more names others rows known.1)

pub rows-known : (clients more : List Client) (names others : List (List ℕ)) (rows : List Row) → AllByRecursion (IsKnown (length clients) (length names)) rows →
    AllByRecursion (IsKnown (length (clients ++ more)) (length (names ++ others))) rows
rows-known clients more names others [] known = tt
rows-known clients more names others (row ∷ rows) known = (what-known clients more names others row.what known.0, rows-known clients more names others rows known.1)

-- A row more.
pub one-more : (space : Uid) (clients : List Client) (names : List (List ℕ)) (rows : List Row) (row : Row) →
    map (event_of space clients names) (rows ++ row ∷ []) ≡ map (event_of space clients names) rows ++ event_of space clients names row ∷ []
one-more space clients names [] row = refl
one-more space clients names (first ∷ rows) row = ap (λ (es : List Event). event_of space clients names first ∷ es) (one-more space clients names rows row)

-- The events of the rows with a row more, where there may be clients and names more.
pub pushed : (space : Uid) (before after : List Client) → (more : List Client) × (after ≡ before ++ more) →
    (names longer : List (List ℕ)) → (others : List (List ℕ)) × (longer ≡ names ++ others) → (rows : List Row) (row : Row) (event : Event) →
    AllByRecursion (IsKnown (length before) (length names)) rows → event_of space after longer row ≡ event →
    map (event_of space after longer) (rows ++ row ∷ []) ≡ map (event_of space before names) rows ++ event ∷ []
pushed space before after (more, grown) names longer (others, further) rows row event known same =
    one-more space after longer rows row ∙ ap (λ (e : Event). map (event_of space after longer) rows ++ e ∷ []) same
    ∙ ap (λ (es : List Event). es ++ event ∷ []) (ap (λ (l : List Client). map (event_of space l longer) rows) grown
    ∙ ap (λ (l : List (List ℕ)). map (event_of space (before ++ more) l) rows) further ∙ rows-kept space before more names others rows known)

pub pushed-known : (before after : List Client) → (more : List Client) × (after ≡ before ++ more) →
    (names longer : List (List ℕ)) → (others : List (List ℕ)) × (longer ≡ names ++ others) → (rows : List Row) (row : Row) →
    AllByRecursion (IsKnown (length before) (length names)) rows → IsKnown (length after) (length longer) row →
    AllByRecursion (IsKnown (length after) (length longer)) (rows ++ row ∷ [])
pushed-known before after (more, grown) names longer (others, further) rows row known this =
    every-append (IsKnown (length after) (length longer)) rows (row ∷ [])
    (subst (λ (l : List Client). AllByRecursion (IsKnown (length l) (length longer)) rows) (sym grown)
    (subst (λ (l : List (List ℕ)). AllByRecursion (IsKnown (length (before ++ more)) (length l)) rows) (sym further) (rows-known before more names others rows known))) (this, tt)

-- A place at which something stands is within the list.
pub within : {X : Type 0} (xs : List X) (i : ℕ) (found : Option X) → slice_get xs i ≡ found → IsSome found → i < length xs
within xs i (Some x) at there = slice_get_within xs i x at
within xs i None at there = absurd (true≢false (sym there))
