-- A queue of waits, as waits are listed, go and are passed over.
use Rattle.std.proofs.Common.{◌≡◌, ℕ, ◌+◌, ◌≤◌, List, [], ◌∷◌, ◌++◌, length, take, drop, refl, ap, sym, subst, ◌∙◌, arith, suc, zero, append_assoc, length-append}
use Rattle.std.specs.Prelude.{Bool, true, filter, min}
use Rattle.std.proofs.lemmas.List.{drop-append-le, drop-drop, drop-take, drop_at, take-append-le}
use Rattle.export_table.specs.declared.waits.Wait.{Wait}
use Rattle.export_table.specs.WaitIndex.{EndsNoEarlier, EndsRise}
use Rattle.export_table.specs.WaitTable.{IsQueue}
use Rattle.export_table.proofs.Indexing.{later-filter, later-push}
use Rattle.export_table.proofs.Ends.{rise-drop, rise-filter}

pub queue-put : (items : List Wait) (gone next : ℕ) (rising more : Bool) (w : Wait) → (more ≡ true → EndsRise (drop gone items ++ w ∷ [])) →
    IsQueue items gone next rising → IsQueue (items ++ w ∷ []) gone (min next w.until) more
queue-put items gone next rising more w rises q =
    let N : List Wait → Type 0 = λ l. EndsNoEarlier (min next w.until) l in
    let same : drop gone (items ++ w ∷ []) ≡ drop gone items ++ w ∷ [] = drop-append-le gone items (w ∷ []) q.within in
    let long = length-append items (w ∷ []) in let within = q.within in record {
      within = omega arith;
      later = subst N (sym same) (later-push next w (drop gone items) q.later);
      rises = (λ h. subst EndsRise (sym same) (rises h));
    }

-- What stands behind those that are gone, once the front of what was behind them is kept.
pub kept-rest : (front part after end_ : List Wait) (gone kept len : ℕ) → length front ≡ gone → kept ≤ length part → gone + kept ≤ len →
    drop gone (take (gone + kept) (take len ((front ++ (part ++ after)) ++ end_))) ≡ take kept part
kept-rest front part after end_ gone kept len long fits within =
    ap (drop gone) (take-less (gone + kept) len ((front ++ (part ++ after)) ++ end_) within)
    ∙ drop-take gone kept ((front ++ (part ++ after)) ++ end_)
    ∙ ap (λ l. take kept (drop gone l)) (append_assoc front (part ++ after) end_)
    ∙ ap (take kept) (drop_at front ((part ++ after) ++ end_) gone long ∙ append_assoc part after end_)
    ∙ take-append-le kept part (after ++ end_) fits
  where
    take-less : (m n : ℕ) (l : List Wait) → m ≤ n → take m (take n l) ≡ take m l
    take-less zero n l h = refl
    take-less (suc m) zero l h = absurd (omega arith)
    take-less (suc m) (suc n) [] h = refl
    take-less (suc m) (suc n) (w ∷ l) h = ap (λ r. w ∷ r) (take-less m n l (omega arith))

-- What stays of the waits stands behind those that are gone then.
pub queue-kept : (items new : List Wait) (gone after next : ℕ) (rising : Bool) (p : Wait → Bool) → after ≤ length new → drop after new ≡ filter p (drop gone items) →
    IsQueue items gone next rising → IsQueue new after next rising
queue-kept items new gone after next rising p within same q =
    let N : List Wait → Type 0 = λ l. EndsNoEarlier next l in record {
      within = within;
      later = subst N (sym same) (later-filter next p (drop gone items) q.later);
      rises = (λ h. subst EndsRise (sym same) (rise-filter p (drop gone items) (q.rises h)));
    }

pub passed-rise : (items : List Wait) (gone due : ℕ) → EndsRise (drop gone items) → EndsRise (drop (gone + due) items)
passed-rise items gone due rise = subst EndsRise (drop-drop due gone items) (rise-drop due (drop gone items) rise)

pub queue-passed : (items : List Wait) (gone due next after : ℕ) (rising : Bool) → gone + due ≤ length items → EndsNoEarlier after (drop (gone + due) items) →
    IsQueue items gone next rising → IsQueue items (gone + due) after rising
queue-passed items gone due next after rising within later q = record {
  within = within;
  later = later;
  rises = (λ h. passed-rise items gone due (q.rises h));
}
