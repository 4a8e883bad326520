-- The entries of the map in which a registry keeps its bindings.
use Rattle.std.proofs.Common.{◌≡◌, ℕ, List, [], ◌∷◌, ◌++◌, refl, ap, sym, ◌∙◌, cond, Some, length, suc}
use Rattle.std.specs.Prelude.{Bool, true, false, Vec, nat_eq, not, map, filter, is_some, if◌then◌else◌}
use Rattle.std.specs.Cmp.Lexicographic.{pointwise}
use Rattle.std.specs.Map.{keys_of, values_of, lookup, remove_entry, set_value}
use Rattle.object_ids.specs.declared.ids.ObjId.{ObjId}
use Rattle.object_ids.specs.Same.{same_id, same_bytes}
use Rattle.history.specs.Lists.{AllOnce}
use Rattle.history.proofs.NameLaws.{same_bytes-turned}
use Rattle.rmi_registry.specs.MapEntries.{bindings_of}
use Rattle.rmi_registry.specs.Bindings.{object_of, names_in, count_of, with_binding, without_name}
use Rattle.rmi_registry.proofs.BindingLaws.{without-rest}

same_shape : (a b : List ℕ) → pointwise nat_eq a b ≡ same_bytes a b
same_shape [] [] = refl
same_shape [] (y ∷ ys) = refl
same_shape (x ∷ xs) [] = refl
same_shape (x ∷ xs) (y ∷ ys) = rw (same_shape xs ys) refl

-- A key is found as its name is.
pub key-same : (n k : List ℕ) → pointwise nat_eq n k ≡ same_bytes k n
key-same n k = same_shape n k ∙ same_bytes-turned n k

abbrev pub Entries : Type 0 → Type 0
Entries Z = List (Vec ℕ Z × ObjId)

module _ {Z : Type 0} where
  -- The test of a key.
  abbrev pub key_is : List ℕ → Vec ℕ Z → Bool
  key_is n k = pointwise nat_eq n k.items

  pub object-looked_up : (es : Entries Z) (n : List ℕ) → lookup (key_is n) es ≡ object_of (bindings_of es) n
  object-looked_up [] n = refl
  object-looked_up (e ∷ es) n = rw (key-same n e.0.items, object-looked_up es n) refl

  pub bindings-set : (es : Entries Z) (n : List ℕ) (o : ObjId) → is_some (object_of (bindings_of es) n) ≡ true →
      bindings_of (set_value (key_is n) es o) ≡ with_binding (bindings_of es) n o
  bindings-set [] n o h = absurd (cc)
  bindings-set (e ∷ es) n o h = rw (key-same n e.0.items) (go (same_bytes e.0.items n) h (bindings-set es n o))
    where
      go : (s : Bool) → is_some (if s then Some e.1 else object_of (bindings_of es) n) ≡ true →
          (is_some (object_of (bindings_of es) n) ≡ true → bindings_of (set_value (key_is n) es o) ≡ with_binding (bindings_of es) n o) →
          bindings_of (cond s ((e.0, o) ∷ es) (e ∷ set_value (key_is n) es o)) ≡ (if s then record { name = e.0.items; object = o } ∷ bindings_of es else record { name = e.0.items; object = e.1 } ∷ with_binding (bindings_of es) n o)
      go true h f = refl
      go false h f = ap (λ l. record { name = e.0.items; object = e.1 } ∷ l) (f h)

  pub bindings-added : (es fs : Entries Z) → bindings_of (es ++ fs) ≡ bindings_of es ++ bindings_of fs
  bindings-added [] fs = refl
  bindings-added (e ∷ es) fs = ap (λ l. record { name = e.0.items; object = e.1 } ∷ l) (bindings-added es fs)

  pub bindings-removed : (es : Entries Z) (n : List ℕ) → AllOnce same_bytes (names_in (bindings_of es)) →
      bindings_of (remove_entry (key_is n) es) ≡ without_name (bindings_of es) n
  bindings-removed [] n once = refl
  bindings-removed (e ∷ es) n once = rw (key-same n e.0.items) (go (same_bytes e.0.items n) refl (bindings-removed es n once.1))
    where
      go : (s : Bool) → same_bytes e.0.items n ≡ s → bindings_of (remove_entry (key_is n) es) ≡ without_name (bindings_of es) n →
          bindings_of (cond s es (e ∷ remove_entry (key_is n) es)) ≡ cond (not s) (record { name = e.0.items; object = e.1 } ∷ without_name (bindings_of es) n) (without_name (bindings_of es) n)
      go true p ih = sym (without-rest (bindings_of es) e.0.items n p once.0)
      go false p ih = ap (λ l. record { name = e.0.items; object = e.1 } ∷ l) ih

  pub counted-values : (es : Entries Z) (o : ObjId) → length (filter (λ v. same_id v o) (values_of es)) ≡ count_of (bindings_of es) o
  counted-values [] o = refl
  counted-values (e ∷ es) o = go (same_id e.1 o) (counted-values es o)
    where
      go : (s : Bool) → length (filter (λ v. same_id v o) (values_of es)) ≡ count_of (bindings_of es) o →
          length (cond s (e.1 ∷ filter (λ v. same_id v o) (values_of es)) (filter (λ v. same_id v o) (values_of es)))
          ≡ length (cond s (record { name = e.0.items; object = e.1 } ∷ filter (λ b. same_id b.object o) (bindings_of es)) (filter (λ b. same_id b.object o) (bindings_of es)))
      go true ih = ap suc ih
      go false ih = ih

  pub names-keys : (es : Entries Z) → map (λ k. k.items) (keys_of es) ≡ names_in (bindings_of es)
  names-keys [] = refl
  names-keys (e ∷ es) = ap (λ l. e.0.items ∷ l) (names-keys es)

  -- An entry behind the others, with a key that has these units.
  pub bindings-keyed : (es fs : Entries Z) (k : Vec ℕ Z) (n : List ℕ) (o : ObjId) → k.items ≡ n → fs ≡ es ++ (k, o) ∷ [] →
      bindings_of fs ≡ bindings_of es ++ record { name = n; object = o } ∷ []
  bindings-keyed es fs k n o units e =
      ap bindings_of e ∙ bindings-added es ((k, o) ∷ []) ∙ ap (λ l. bindings_of es ++ record { name = l; object = o } ∷ []) units
