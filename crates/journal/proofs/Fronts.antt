-- What writers leave that write one text after another.
use Rattle.std.proofs.Common.{◌≡◌, ℕ, List, [], ◌∷◌, ◌++◌, Result, Ok, Err, OnErr, ap, sym, ◌∙◌, append_assoc, append-nil, flat_map, take, drop, take-append-drop, drop-cons, add-one, get_or, length, map, suc, ◌+◌, ◌<◌}
use Rattle.std.specs.List.{join_with_byte}
use Rattle.std.proofs.lemmas.List.Concat.{flat_map-append}
use Rattle.std.proofs.Common.{ℤ, T, leb, w64, to_z, of_z}
use Rattle.std.specs.Prelude.{FitsSigned, OnOk}
use mir.Syntax.{Width}
use mir.Val.{hbits}
use Rattle.std.proofs.Math.Facts.{sfits_widen}
use Rattle.std.proofs.lemmas.Int.{to_z-of_z}
use Rattle.journal.specs.Putting.{AppendsFront}

-- A fact holds on a refusal where it holds.
pub on_err : {T E Q : Type 0} (r : Result T E) → Q → OnErr r Q
on_err (Ok x) q = tt
on_err (Err e) q = q

-- A fact holds of an answer where it holds.
pub on_ok : {T E Q : Type 0} (r : Result T E) → Q → OnOk r Q
on_ok (Ok x) q = q
on_ok (Err e) q = tt

-- A text was refused after what stands before it.
pub front_at : (old before text after mid new whole : List ℕ) → mid ≡ old ++ before → whole ≡ before ++ (text ++ after) → AppendsFront mid text new → AppendsFront old whole new
front_at old before text after mid new whole is parts stops = record {
  front = before ++ stops.front;
  rest = stops.rest ++ after;
  text_is = parts ∙ ap (λ (t : List ℕ). before ++ (t ++ after)) stops.text_is ∙ ap (λ (t : List ℕ). before ++ t) (append_assoc stops.front stops.rest after)
      ∙ sym (append_assoc before stops.front (stops.rest ++ after));
  new_is = stops.new_is ∙ ap (λ (t : List ℕ). t ++ stops.front) is ∙ append_assoc old before stops.front;
}

-- Nothing more was written after what stands before.
pub front_stops : (old before after new whole : List ℕ) → new ≡ old ++ before → whole ≡ before ++ after → AppendsFront old whole new
front_stops old before after new whole is parts = record { front = before; rest = after; text_is = parts; new_is = is }

-- What stands after one more text.
pub then_more : (old before mid text new : List ℕ) → mid ≡ old ++ before → new ≡ mid ++ text → new ≡ old ++ (before ++ text)
then_more old before mid text new mid_is new_is = new_is ∙ ap (λ (t : List ℕ). t ++ text) mid_is ∙ append_assoc old before text

-- A narrow number is handed on as a number of 64 bits.
pub widened : (w : Width) (z : ℤ) → FitsSigned w z → T (leb (hbits w) 63) → to_z w64 (of_z w64 (to_z w (of_z w z))) ≡ z
widened w z fits narrow = ap (λ (x : ℤ). to_z w64 (of_z w64 x)) (to_z-of_z w z fits) ∙ to_z-of_z w64 z (sfits_widen narrow fits)

-- The first text was refused.
pub front_first : (old text after new whole : List ℕ) → whole ≡ text ++ after → AppendsFront old text new → AppendsFront old whole new
front_first old text after new whole parts stops = record {
  front = stops.front;
  rest = stops.rest ++ after;
  text_is = parts ∙ ap (λ (t : List ℕ). t ++ after) stops.text_is ∙ append_assoc stops.front stops.rest after;
  new_is = stops.new_is;
}

-- The last text was refused.
pub front_last : (old before text mid new whole : List ℕ) → mid ≡ old ++ before → whole ≡ before ++ text → AppendsFront mid text new → AppendsFront old whole new
front_last old before text mid new whole is parts stops =
    front_at old before text [] mid new whole is (parts ∙ ap (λ (t : List ℕ). before ++ t) (sym (append-nil text))) stops

-- Of several texts one was refused.
pub front_of_all : (put : ℕ → List ℕ) (old : List ℕ) (xs : List ℕ) (i : ℕ) (mid new : List ℕ) → mid ≡ old ++ flat_map put (take i xs) → new ≡ mid → AppendsFront old (flat_map put xs) new
front_of_all put old xs i mid new is kept = front_stops old (flat_map put (take i xs)) (flat_map put (drop i xs)) new (flat_map put xs) (kept ∙ is)
    (ap (flat_map put) (sym (take-append-drop i xs)) ∙ flat_map-append put (take i xs) (drop i xs))

-- Of several texts one was refused in part.
pub front_within : {X : Type 0} (put : X → List ℕ) (old : List ℕ) (xs : List X) (i : ℕ) (mid new : List ℕ) (x : X) → i < length xs → mid ≡ old ++ flat_map put (take i xs) → x ≡ get_or xs i x
    → AppendsFront mid (put x) new → AppendsFront old (flat_map put xs) new
front_within put old xs i mid new x inside is item stops =
    let tail : drop i xs ≡ x ∷ drop (i + 1) xs = rw add-one (drop-cons xs i x inside ∙ ap (λ y. y ∷ drop (suc i) xs) (sym item)) in
    front_at old (flat_map put (take i xs)) (put x) (flat_map put (drop (i + 1) xs)) mid new (flat_map put xs) is
    (ap (flat_map put) (sym (take-append-drop i xs)) ∙ flat_map-append put (take i xs) (drop i xs)
    ∙ ap (λ ys. flat_map put (take i xs) ++ flat_map put ys) tail) stops

-- The same where the text is that of an item that is copied.
pub front_at_copy : {X : Type 0} (put : X → List ℕ) (old : List ℕ) (xs : List X) (i : ℕ) (mid new : List ℕ) (d : X) → i < length xs → mid ≡ old ++ flat_map put (take i xs)
    → AppendsFront mid (put (get_or xs i d)) new → AppendsFront old (flat_map put xs) new
front_at_copy put old xs i mid new d inside is stops =
    let tail : drop i xs ≡ get_or xs i d ∷ drop (i + 1) xs = rw add-one (drop-cons xs i d inside) in
    front_at old (flat_map put (take i xs)) (put (get_or xs i d)) (flat_map put (drop (i + 1) xs)) mid new (flat_map put xs) is
    (ap (flat_map put) (sym (take-append-drop i xs)) ∙ flat_map-append put (take i xs) (drop i xs)
    ∙ ap (λ ys. flat_map put (take i xs) ++ flat_map put ys) tail) stops

-- Texts after the first, each after a separator.
pub joined_further : {X : Type 0} (separator : ℕ) (put : X → List ℕ) (x : X) (xs : List X) → join_with_byte separator (map put (x ∷ xs)) ≡ put x ++ flat_map (λ y. separator ∷ put y) xs
joined_further separator put x [] = sym (append-nil (put x))
joined_further separator put x (y ∷ xs) = ap (λ (t : List ℕ). put x ++ separator ∷ t) (joined_further separator put y xs)
