-- Lists as words.
use Rattle.std.proofs.Common.{◌≡◌, ◌≢◌, ℕ, List, [], ◌∷◌, ◌++◌, refl, ap, sym, subst, ◌∙◌, codes, append-nil, append_assoc}
use Rattle.std.specs.List.{AllByRecursion, AllZip, join_with_byte}
use Rattle.journal.specs.Parts.{parts, Lacks}
use Rattle.journal.specs.Grammar.{SpellsList}
use Rattle.journal.proofs.Splitting.{parts_join, join_parts, parts_exist}

-- These items were read of the first parts of a word, and these parts are left.
pub record ReadSoFar {X : Type 0} (Spells : X → List ℕ → Type 0) (word : List ℕ) (items : List X) (left : List (List ℕ)) : Type 0 where
  pub texts : List (List ℕ)
  pub spelled : AllZip Spells items texts
  pub split : parts 44 word ≡ texts ++ left

pub nothing_read : {X : Type 0} (Spells : X → List ℕ → Type 0) (word : List ℕ) → ReadSoFar Spells word [] (parts 44 word)
nothing_read Spells word = record { texts = []; spelled = tt; split = refl }

zip_push : {X : Type 0} (Spells : X → List ℕ → Type 0) (items : List X) (texts : List (List ℕ)) (x : X) (text : List ℕ)
    → AllZip Spells items texts → Spells x text → AllZip Spells (items ++ x ∷ []) (texts ++ text ∷ [])
zip_push Spells [] [] x text spelled one = (one, tt)
zip_push Spells [] (t ∷ texts) x text spelled one = absurd spelled
zip_push Spells (i ∷ items) [] x text spelled one = absurd spelled
zip_push Spells (i ∷ items) (t ∷ texts) x text spelled one = (spelled.0, zip_push Spells items texts x text spelled.1 one)

-- One more item was read.
pub read_more : {X : Type 0} (Spells : X → List ℕ → Type 0) (word : List ℕ) (items : List X) (part : List ℕ) (rest : List (List ℕ)) (x : X)
    → ReadSoFar Spells word items (part ∷ rest) → Spells x part → ReadSoFar Spells word (items ++ x ∷ []) rest
read_more Spells word items part rest x so_far one = record {
  texts = so_far.texts ++ part ∷ [];
  spelled = zip_push Spells items so_far.texts x part so_far.spelled one;
  split = so_far.split ∙ sym (append_assoc so_far.texts (part ∷ []) rest);
}

-- All parts were read.
pub read_all : {X : Type 0} (Spells : X → List ℕ → Type 0) (word : List ℕ) (items : List X) → ReadSoFar Spells word items [] → SpellsList Spells items word
read_all Spells word [] so_far = absurd (no_texts so_far.texts so_far.spelled so_far.split)
  where
    no_texts : (texts : List (List ℕ)) → AllZip Spells [] texts → parts 44 word ≡ texts ++ [] → ⊥
    no_texts [] spelled split = parts_exist 44 word split
    no_texts (t ∷ texts) spelled split = spelled
read_all Spells word (i ∷ items) so_far =
    (so_far.texts, so_far.spelled, join_parts 44 word ∙ ap (join_with_byte 44) (so_far.split ∙ append-nil so_far.texts))

all_lack : {X : Type 0} (Spells : X → List ℕ → Type 0) → ((x : X) (text : List ℕ) → Spells x text → Lacks 44 text)
    → (items : List X) (texts : List (List ℕ)) → AllZip Spells items texts → AllByRecursion (Lacks 44) texts
all_lack Spells lack [] [] spelled = tt
all_lack Spells lack [] (t ∷ texts) spelled = absurd spelled
all_lack Spells lack (i ∷ items) [] spelled = absurd spelled
all_lack Spells lack (i ∷ items) (t ∷ texts) spelled = (lack i t spelled.0, all_lack Spells lack items texts spelled.1)

-- a word that spells items is split into their texts
pub list_parts : {X : Type 0} (Spells : X → List ℕ → Type 0) → ((x : X) (text : List ℕ) → Spells x text → Lacks 44 text)
    → (i : X) (items : List X) (texts : List (List ℕ)) (word : List ℕ) → AllZip Spells (i ∷ items) texts → word ≡ join_with_byte 44 texts → parts 44 word ≡ texts
list_parts Spells lack i items [] word spelled is = absurd spelled
list_parts Spells lack i items (t ∷ texts) word spelled is =
    ap (parts 44) is ∙ parts_join 44 t texts (all_lack Spells lack (i ∷ items) (t ∷ texts) spelled)

spelled_at : {X : Type 0} (Spells : X → List ℕ → Type 0) (items : List X) (before : List (List ℕ)) (part : List ℕ) (rest : List (List ℕ))
    → AllZip Spells items (before ++ part ∷ rest) → ((x : X) → Spells x part → ⊥) → ⊥
spelled_at Spells [] [] part rest spelled none = spelled
spelled_at Spells [] (t ∷ before) part rest spelled none = spelled
spelled_at Spells (i ∷ items) [] part rest spelled none = none i spelled.0
spelled_at Spells (i ∷ items) (t ∷ before) part rest spelled none = spelled_at Spells items before part rest spelled.1 none

-- Where a part spells no item, the word spells no list.
pub no_list : {X : Type 0} (Spells : X → List ℕ → Type 0) → ((x : X) (text : List ℕ) → Spells x text → Lacks 44 text)
    → (word : List ℕ) (items : List X) (part : List ℕ) (rest : List (List ℕ)) → word ≢ codes "-" → ReadSoFar Spells word items (part ∷ rest)
    → ((x : X) → Spells x part → ⊥) → (all : List X) → SpellsList Spells all word → ⊥
no_list Spells lack word items part rest other so_far none [] spells = other spells
no_list Spells lack word items part rest other so_far none (i ∷ all) (texts, spelled, is) =
    let same = sym (list_parts Spells lack i all texts word spelled is) ∙ so_far.split in
    spelled_at Spells (i ∷ all) so_far.texts part rest (subst (AllZip Spells (i ∷ all)) same spelled) none
