-- An entry more that is kept whole changes no entry of a row.
use Rattle.std.proofs.Common.{◌≡◌, ◌<◌, ℕ, List, [], ◌∷◌, ◌++◌, length, refl, ap, sym, ◌∙◌, arith}
use Rattle.std.specs.Prelude.{map, get_or, unwrap_or}
use Rattle.std.specs.List.{AllByRecursion}
use Rattle.std.proofs.lemmas.List.{get_or_append_left, length-append}
use Rattle.std.proofs.lemmas.List.Elements.{All-from_recursion}
use Rattle.std.proofs.lemmas.Option.{unwrap_or-slice_get, slice_get-get_or}
use Rattle.history.proofs.ListLemmas.{every-append}
use Rattle.space.specs.declared.asked.Asked.{Asked}
use Rattle.ports.specs.declared.asked_rows.AskedRow.{AskedRow}
use Rattle.ports.specs.declared.asked_rows.AskedWhat.{AskedWhat}
use Rattle.ports.specs.declared.asked_rows.AskedWhat.TheVariants.{Began, Returned, GivenUp, Acked, Whole}
use Rattle.ports.specs.AskedRows.{entry_of_row, entry_with, no_entry, whole_at, IsAmongWhole, IsKnownRow}

-- The entry at a place, whichever word says it.
pub whole_there : (wholes : List Asked) (number : ℕ) (other : Asked) → number < length wholes → get_or wholes number other ≡ whole_at wholes number
whole_there wholes number other below = ap (λ found. unwrap_or found no_entry) (sym (slice_get-get_or wholes number other below))

-- The last one.
pub whole-last : (wholes : List Asked) (entry : Asked) → whole_at (wholes ++ entry ∷ []) (length wholes) ≡ entry
whole-last [] entry = refl
whole-last (first ∷ wholes) entry = whole-last wholes entry

pub whole-kept : (wholes more : List Asked) (number : ℕ) → number < length wholes → whole_at (wholes ++ more) number ≡ whole_at wholes number
whole-kept wholes more number below =
    unwrap_or-slice_get (wholes ++ more) number no_entry ∙ get_or_append_left wholes more no_entry number below ∙ sym (unwrap_or-slice_get wholes number no_entry)

pub what-kept : (wholes more : List Asked) (moment : ℕ) (what : AskedWhat) → IsAmongWhole (length wholes) what →
    entry_with (wholes ++ more) moment what ≡ entry_with wholes moment what
what-kept wholes more moment (Began place object kind) known = refl
what-kept wholes more moment (Returned place object uid) known = refl
what-kept wholes more moment (GivenUp place object) known = refl
what-kept wholes more moment (Acked place uid) known = refl
what-kept wholes more moment (Whole number) known = whole-kept wholes more number known

pub what-known : (wholes more : List Asked) (what : AskedWhat) → IsAmongWhole (length wholes) what → IsAmongWhole (length (wholes ++ more)) what
what-known wholes more (Began place object kind) known = tt
what-known wholes more (Returned place object uid) known = tt
what-known wholes more (GivenUp place object) known = tt
what-known wholes more (Acked place uid) known = tt
what-known wholes more (Whole number) known = omega (arith, length-append wholes more, known)

pub rows-kept : (wholes more : List Asked) (rows : List AskedRow) → AllByRecursion (IsKnownRow (length wholes)) rows →
    map (entry_of_row (wholes ++ more)) rows ≡ map (entry_of_row wholes) rows
rows-kept wholes more [] known = refl
rows-kept wholes more (row ∷ rows) known =
    ap (λ (e : Asked). e ∷ map (entry_of_row (wholes ++ more)) rows) (what-kept wholes more row.moment row.what known.0)
    ∙ ap (λ (es : List Asked). entry_of_row wholes row ∷ es) (rows-kept wholes more rows known.1)

pub rows-known : (wholes more : List Asked) (rows : List AskedRow) → AllByRecursion (IsKnownRow (length wholes)) rows →
    AllByRecursion (IsKnownRow (length (wholes ++ more))) rows
rows-known wholes more [] known = tt
rows-known wholes more (row ∷ rows) known = (what-known wholes more row.what known.0, rows-known wholes more rows known.1)

-- A row more.
pub one-more : (wholes : List Asked) (rows : List AskedRow) (row : AskedRow) →
    map (entry_of_row wholes) (rows ++ row ∷ []) ≡ map (entry_of_row wholes) rows ++ entry_of_row wholes row ∷ []
one-more wholes [] row = refl
one-more wholes (first ∷ rows) row = ap (λ (es : List Asked). entry_of_row wholes first ∷ es) (one-more wholes rows row)

-- The entries of the rows with a row more, of an entry that it is.
pub one-entered : (wholes : List Asked) (rows : List AskedRow) (row : AskedRow) (entry : Asked) → entry_of_row wholes row ≡ entry →
    map (entry_of_row wholes) (rows ++ row ∷ []) ≡ map (entry_of_row wholes) rows ++ entry ∷ []
one-entered wholes rows row entry same = one-more wholes rows row ∙ ap (λ (e : Asked). map (entry_of_row wholes) rows ++ e ∷ []) same

pub one-known : (count : ℕ) (rows : List AskedRow) (row : AskedRow) → AllByRecursion (IsKnownRow count) rows → IsKnownRow count row → AllByRecursion (IsKnownRow count) (rows ++ row ∷ [])
one-known count rows row known this = every-append (IsKnownRow count) rows (row ∷ []) known (this, tt)

-- The entries of the rows with a row more, whose entry is the last that is kept whole.
pub whole-entered : (wholes : List Asked) (rows : List AskedRow) (row : AskedRow) (entry : Asked) → AllByRecursion (IsKnownRow (length wholes)) rows →
    entry_of_row (wholes ++ entry ∷ []) row ≡ whole_at (wholes ++ entry ∷ []) (length wholes) →
    map (entry_of_row (wholes ++ entry ∷ [])) (rows ++ row ∷ []) ≡ map (entry_of_row wholes) rows ++ entry ∷ []
whole-entered wholes rows row entry known same =
    one-entered (wholes ++ entry ∷ []) rows row entry (same ∙ whole-last wholes entry)
    ∙ ap (λ (es : List Asked). es ++ entry ∷ []) (rows-kept wholes (entry ∷ []) rows known)

pub whole-known : (wholes : List Asked) (rows : List AskedRow) (row : AskedRow) (entry : Asked) → AllByRecursion (IsKnownRow (length wholes)) rows →
    IsKnownRow (length (wholes ++ entry ∷ [])) row → AllByRecursion (IsKnownRow (length (wholes ++ entry ∷ []))) (rows ++ row ∷ [])
whole-known wholes rows row entry known this = one-known (length (wholes ++ entry ∷ [])) rows row (rows-known wholes (entry ∷ []) rows known) this

-- The row at a place.
pub known-at : (count : ℕ) (rows : List AskedRow) (place : ℕ) (other : AskedRow) → AllByRecursion (IsKnownRow count) rows → place < length rows → IsKnownRow count (get_or rows place other)
known-at count rows place other known below = All-from_recursion (IsKnownRow count) rows known place other below
