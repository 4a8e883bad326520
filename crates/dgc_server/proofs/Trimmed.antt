-- After a lapse nothing is kept that time has taken.
use Rattle.std.proofs.Common.{◌≡◌, ℕ, List, [], ◌∷◌, refl, sym, subst, cond, map}
use Rattle.std.specs.Prelude.{ℤ, Bool, true, false, not, filter, is_some, nat_lt, if◌then◌else◌}
use Rattle.std.specs.List.{list_all}
use Rattle.std.proofs.lemmas.Bool.{and_from}
use Rattle.object_ids.specs.declared.ids.ObjId.{ObjId}
use Rattle.object_ids.specs.Client.{Client}
use Rattle.history.specs.declared.calls.CallKind.{CallKind}
use Rattle.history.proofs.ListLemmas.{and_true}
use Rattle.dgc_server.specs.Entry.{ObjectEntry, Entry, has_strong, strong_only, tenure_forgotten, entry_after_lapse, is_entry_kept, is_empty, is_strong_alone, is_needed}
use Rattle.dgc_server.specs.Table.{entry_of, with_entry, after_lapse}
use Rattle.dgc_server.specs.StandsForCalls.{LeaseTable, IsTrimmed, entry_after, table_after}

-- Once a tenure is forgotten, the numbers of strong cleans are left.
strong-left : (es : List ObjectEntry) → list_all is_strong_alone (tenure_forgotten es) ≡ true
strong-left [] = refl
strong-left (e ∷ es) = go (has_strong e) refl (strong-left es)
  where
    go : (b : Bool) → is_some e.numbers.strong ≡ b → list_all is_strong_alone (tenure_forgotten es) ≡ true → list_all is_strong_alone (map strong_only (cond b (e ∷ filter has_strong es) (filter has_strong es))) ≡ true
    go true s rest = rw (s, rest) refl
    go false s rest = rest

kept-needed : (k : ℕ) (e : Entry) → is_entry_kept k (entry_after_lapse k e) ≡ true → is_needed k (entry_after_lapse k e) ≡ true
kept-needed k e = go (nat_lt k e.until) refl
  where
    after : Bool → Entry
    after b = if b then e else record e { objects = tenure_forgotten e.objects }

    go : (b : Bool) → nat_lt k e.until ≡ b → is_entry_kept k (after b) ≡ true → is_needed k (after b) ≡ true
    go true left kept = rw left refl
    go false left kept = rw (strong-left e.objects, and_true (not (is_empty (tenure_forgotten e.objects)))) kept

pub trimmed-lapse : (k : ℕ) (es : List Entry) → list_all (is_needed k) (after_lapse k es) ≡ true
trimmed-lapse k [] = refl
trimmed-lapse k (e ∷ es) = go (is_entry_kept k (entry_after_lapse k e)) refl (trimmed-lapse k es)
  where
    go : (b : Bool) → is_entry_kept k (entry_after_lapse k e) ≡ b → list_all (is_needed k) (after_lapse k es) ≡ true → list_all (is_needed k) (cond b (entry_after_lapse k e ∷ after_lapse k es) (after_lapse k es)) ≡ true
    go true kept rest = and_from (is_needed k (entry_after_lapse k e)) (list_all (is_needed k) (after_lapse k es)) (kept-needed k e kept) rest
    go false kept rest = rest

-- A call forgets what ended too.
pub trimmed-noted : (granted : ℕ) (kind : CallKind) (c : Client) (n : ℤ) (os : List ObjId) (time : ℕ) (t u : LeaseTable) → u ≡ table_after granted kind c n os time t → IsTrimmed u
trimmed-noted granted kind c n os time t u same =
    subst IsTrimmed (sym same) (trimmed-lapse time (with_entry (entry_after granted kind n os time (entry_of t.entries c)) t.entries))
