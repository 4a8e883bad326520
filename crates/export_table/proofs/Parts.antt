-- A list of some items of another, in their order.
use Rattle.std.proofs.Common.{◌≡◌, inl, inr, ◌≤◌, List, [], ◌∷◌, ◌++◌, length, map, refl, ap, ◌∙◌, arith, suc}
use Rattle.std.specs.Prelude.{Bool, true, int_lt}
use Rattle.std.specs.List.{list_all}
use Rattle.std.proofs.lemmas.Bool.{and_parts, and_from}
use Rattle.object_ids.specs.declared.ids.ObjId.{ObjId}
use Rattle.export_table.specs.ExportRows.{IsPart, is_rising}

pub part-none : {X : Type 0} → IsPart {X = X} [] []
part-none = refl

-- One more item that is left out.
pub part-skip : {X : Type 0} (xs ys : List X) (y : X) → IsPart xs ys → IsPart xs (ys ++ y ∷ [])
part-skip xs [] y h = inl h
part-skip xs (z ∷ ys) y h = elim h [
  | inl a ↦ inl (part-skip xs ys y a)
  | inr b ↦ inr (b.0, b.1, part-skip b.0 ys y b.2)
]

-- One more item that is taken.
pub part-take : {X : Type 0} (xs ys : List X) (y : X) → IsPart xs ys → IsPart (xs ++ y ∷ []) (ys ++ y ∷ [])
part-take xs [] y h = inr ([], ap (λ l. l ++ y ∷ []) h, refl)
part-take xs (z ∷ ys) y h = elim h [
  | inl a ↦ inl (part-take xs ys y a)
  | inr b ↦ inr (b.0 ++ y ∷ [], ap (λ l. l ++ y ∷ []) b.1, part-take b.0 ys y b.2)
]

pub part-map : {X Y : Type 0} (f : X → Y) (xs ys : List X) → IsPart xs ys → IsPart (map f xs) (map f ys)
part-map f xs [] h = ap (map f) h
part-map f xs (y ∷ ys) h = elim h [
  | inl a ↦ inl (part-map f xs ys a)
  | inr b ↦ inr (map f b.0, ap (map f) b.1, part-map f b.0 ys b.2)
]

pub part-length : {X : Type 0} (xs ys : List X) → IsPart xs ys → length xs ≤ length ys
part-length xs [] h = let e = ap length h in omega arith
part-length xs (y ∷ ys) h = elim h [
  | inl a ↦ (let r = part-length xs ys a in omega arith)
  | inr b ↦ (let r = part-length b.0 ys b.2 in let e : length xs ≡ suc (length b.0) = ap length b.1 in omega arith)
]

pub part-all : {X : Type 0} (p : X → Bool) (xs ys : List X) → IsPart xs ys → list_all p ys ≡ true → list_all p xs ≡ true
part-all p xs [] h a = ap (list_all p) h
part-all p xs (y ∷ ys) h a =
    let two = and_parts (p y) (list_all p ys) a in
    elim h [
      | inl q ↦ part-all p xs ys q two.1
      | inr b ↦ ap (list_all p) b.1 ∙ and_from (p y) (list_all p b.0) two.0 (part-all p b.0 ys b.2 two.1)
    ]

pub part-rising : (xs ys : List ObjId) → IsPart xs ys → is_rising ys ≡ true → is_rising xs ≡ true
part-rising xs [] h r = ap is_rising h
part-rising xs (y ∷ ys) h r =
    let two = and_parts (list_all (λ p. int_lt y.number p.number) ys) (is_rising ys) r in
    elim h [
      | inl q ↦ part-rising xs ys q two.1
      | inr b ↦ ap is_rising b.1
          ∙ and_from (list_all (λ p. int_lt y.number p.number) b.0) (is_rising b.0) (part-all (λ p. int_lt y.number p.number) b.0 ys b.2 two.0) (part-rising b.0 ys b.2 two.1)
    ]
