-- What was read of a method's text so far, a byte further, at the end, and where it breaks.
use Rattle.std.proofs.Common.{◌≡◌, ℕ, zero, suc, ◌+◌, ◌<◌, ◌≤◌, List, [], ◌∷◌, ◌++◌, length, take, drop, get_or, Option, Some, None, refl, sym, ap, subst, ◌∙◌, arith, inl, inr}
use Rattle.std.specs.Prelude.{◌⊎◌}
use Rattle.std.proofs.lemmas.List.{append_assoc, append-nil, length-append, take_more, take-append-drop, length-take-le}
use Rattle.std.proofs.Math.Seq.{take-length}
use Rattle.class_desc.specs.declared.field.TypeCode.{TypeCode}
use Rattle.method_hash.specs.MethodText.{IsMethod, IsFront, BreaksAt}
use Rattle.method_hash.specs.Next.{next, need}
use Rattle.method_hash.specs.TextReading.{Completes, HasRead, name_noted, param_noted, returned_noted, returned_at}
use Rattle.method_hash.specs.declared.place.Part.TheVariants.{Elements, Class, ClassName}
use Rattle.method_hash.specs.declared.place.TextPlace.{TextPlace}
use Rattle.method_hash.specs.declared.place.TextPlace.TheVariants.{Name, Parameters, Parameter, Returned, ReturnedType, End}
use Rattle.method_hash.proofs.Steps.{leads, goes_on, GoesOn, within_next}
use Rattle.method_hash.proofs.Places.{needs, shortest}
use Rattle.method_hash.specs.declared.method.TheConstants.{METHOD_BYTES}

-- ---- a whole text

pub method_of : (text name : List ℕ) (params : List TypeCode) (returned : Option TypeCode) → length text ≤ METHOD_BYTES → Completes (Name 0) text name params returned → IsMethod text name params returned
method_of text name params returned short (tail, are, some, few, (types, last, typed, count, returns, tail_is), is) = record {
  types = types;
  last = last;
  named = are;
  some_name = omega arith;
  short_name = omega arith;
  typed = typed;
  few = omega arith;
  returns = returns;
  parts = is ∙ ap (λ (l : List ℕ). name ++ 0x28 ∷ l) tail_is;
  short = short;
}

completed : (text name : List ℕ) (params : List TypeCode) (returned : Option TypeCode) → IsMethod text name params returned → Completes (Name 0) text name params returned
completed text name params returned m =
    (m.types ++ 0x29 ∷ m.last, m.named, omega (arith, m.some_name), omega (arith, m.short_name), (m.types, m.last, m.typed, omega (arith, m.few), m.returns, refl), m.parts)

-- ---- reading on

pub nothing_read : HasRead [] (Name 0) [] [] None
nothing_read = record {
  within = omega arith;
  fits = omega arith;
  leads = λ rest more others coming h. h;
  back = λ rest whole all result h. (whole, all, result, h);
}

one_more : (bytes rest : List ℕ) (b : ℕ) → (bytes ++ b ∷ []) ++ rest ≡ bytes ++ b ∷ rest
one_more bytes rest b = append_assoc bytes (b ∷ []) rest

pub read_on : (bytes : List ℕ) (b : ℕ) (p q : TextPlace) (name : List ℕ) (params : List TypeCode) (returned : Option TypeCode)
    → HasRead bytes p name params returned → next p b ≡ Some q → length bytes + 1 + need q ≤ METHOD_BYTES
    → HasRead (bytes ++ b ∷ []) q (name ++ name_noted p b) (params ++ param_noted p b) (returned_noted p b returned)
read_on bytes b p q name params returned h goes fits = record {
  within = within_next p b q h.within goes;
  fits = omega (arith, length-append bytes (b ∷ []));
  leads = λ rest more others coming c. forward rest more others coming (leads p b q h.within goes rest more others coming returned c);
  back = λ rest whole all result c. backward rest (h.back (b ∷ rest) whole all result (subst (λ (l : List ℕ). Completes (Name 0) l whole all result) (one_more bytes rest b) c));
}
  where
    forward : (rest more : List ℕ) (others : List TypeCode) (coming : Option TypeCode)
        → ((result : Option TypeCode) × Completes p (b ∷ rest) (name_noted p b ++ more) (param_noted p b ++ others) result × (returned_at p returned result ≡ returned_at q (returned_noted p b returned) coming))
        → Completes (Name 0) ((bytes ++ b ∷ []) ++ rest) ((name ++ name_noted p b) ++ more) ((params ++ param_noted p b) ++ others) (returned_at q (returned_noted p b returned) coming)
    forward rest more others coming (result, c, same) =
        rw (one_more bytes rest b, append_assoc name (name_noted p b) more, append_assoc params (param_noted p b) others, ← same)
        (h.leads (b ∷ rest) (name_noted p b ++ more) (param_noted p b ++ others) result c)

    on : (rest : List ℕ) → GoesOn p b rest → (more : List ℕ) × (others : List TypeCode) × (coming : Option TypeCode) × Completes q rest more others coming
    on rest (r, leads_to, (more, others, coming, c)) =
        let same : r ≡ q = let e : Some r ≡ Some q = sym leads_to ∙ goes in cc in
        (more, others, coming, subst (λ (s : TextPlace). Completes s rest more others coming) same c)

    backward : (rest : List ℕ) → ((more : List ℕ) × (others : List TypeCode) × (coming : Option TypeCode) × Completes p (b ∷ rest) more others coming)
        → (more : List ℕ) × (others : List TypeCode) × (coming : Option TypeCode) × Completes q rest more others coming
    backward rest (more, others, coming, c) = on rest (goes_on p b rest more others coming c)

-- ---- the end

pub all_read : (text : List ℕ) (place : ℕ) (p : TextPlace) (name : List ℕ) (params : List TypeCode) (returned : Option TypeCode)
    → place ≡ length text → HasRead (take place text) p name params returned → HasRead text p name params returned
all_read text place p name params returned is h =
    subst (λ (l : List ℕ). HasRead l p name params returned) (ap (λ (n : ℕ). take n text) is ∙ take-length text) h

pub read_whole : (text name : List ℕ) (params : List TypeCode) (returned : Option TypeCode) → HasRead text End name params returned → IsMethod text name params returned
read_whole text name params returned h =
    let c : Completes (Name 0) (text ++ []) (name ++ []) (params ++ []) returned = h.leads [] [] [] None (refl, refl, refl) in
    let t = subst (λ (l : List ℕ). Completes (Name 0) l (name ++ []) (params ++ []) returned) (append-nil text) c in
    let n = subst (λ (l : List ℕ). Completes (Name 0) text l (params ++ []) returned) (append-nil name) t in
    method_of text name params returned (omega (arith, h.fits)) (subst (λ (l : List TypeCode). Completes (Name 0) text name l returned) (append-nil params) n)

-- ---- where it breaks

pub a_front : (bytes : List ℕ) (p : TextPlace) (name : List ℕ) (params : List TypeCode) (returned : Option TypeCode) → HasRead bytes p name params returned → IsFront bytes
a_front bytes p name params returned h = go (shortest p h.within)
  where
    go : ((t more : List ℕ) × (others : List TypeCode) × (coming : Option TypeCode) × (length t ≡ need p) × Completes p t more others coming) → IsFront bytes
    go (t, more, others, coming, len, c) = (
      t,
      name ++ more,
      params ++ others,
      returned_at p returned coming,
      method_of (bytes ++ t) (name ++ more) (params ++ others) (returned_at p returned coming) (omega (arith, h.fits, length-append bytes t)) (h.leads t more others coming c),
    )

-- no byte like this may come next
abbrev pub IsStuck : TextPlace → ℕ → ℕ → Type 0
IsStuck p b at = (next p b ≡ None) ⊎ ((q : TextPlace) × (next p b ≡ Some q) × (METHOD_BYTES < at + 1 + need q))

no_front : (bytes : List ℕ) (b : ℕ) (p : TextPlace) (name : List ℕ) (params : List TypeCode) (returned : Option TypeCode) → HasRead bytes p name params returned → IsStuck p b (length bytes) → IsFront (bytes ++ b ∷ []) → ⊥
no_front bytes b p name params returned h stuck (rest, whole, all, result, m) =
    go (h.back (b ∷ rest) whole all result (subst (λ (l : List ℕ). Completes (Name 0) l whole all result) (one_more bytes rest b) (completed ((bytes ++ b ∷ []) ++ rest) whole all result m)))
  where
    long : METHOD_BYTES < length bytes + 1 + length rest → ⊥
    long much = omega (arith, m.short, length-append (bytes ++ b ∷ []) rest, length-append bytes (b ∷ []))

    on : GoesOn p b rest → ⊥
    on (q, goes, (more, others, coming, c)) = elim stuck [
      | inl none ↦ (let e : Some q ≡ None = sym goes ∙ none in cc)
      | inr some ↦ (let e : Some q ≡ Some some.0 = sym goes ∙ some.1 in let same : q ≡ some.0 = cc in
          long (omega (arith, some.2, needs some.0 rest more others coming (subst (λ (s : TextPlace). Completes s rest more others coming) same c))))
    ]

    go : ((more : List ℕ) × (others : List TypeCode) × (coming : Option TypeCode) × Completes p (b ∷ rest) more others coming) → ⊥
    go (more, others, coming, c) = on (goes_on p b rest more others coming c)

-- A byte stands in the text with which no method's text goes on.
pub breaks_in : (text : List ℕ) (place b : ℕ) (p : TextPlace) (name : List ℕ) (params : List TypeCode) (returned : Option TypeCode)
    → place < length text → b ≡ get_or text place 0 → HasRead (take place text) p name params returned → IsStuck p b place → BreaksAt text place
breaks_in text place b p name params returned inside here h stuck = record {
  no_method = λ name params returned m. past (drop (place + 1) text, name, params, returned, subst (λ (l : List ℕ). IsMethod l name params returned) (sym (take-append-drop (place + 1) text)) m);
  within = omega arith;
  front = a_front (take place text) p name params returned h;
  longest = λ _. past;
}
  where
    len : length (take place text) ≡ place
    len = length-take-le place text (omega arith)

    next_is : take (place + 1) text ≡ take place text ++ b ∷ []
    next_is = take_more text place 0 inside ∙ ap (λ (n : ℕ). take place text ++ n ∷ []) (sym here)

    past : IsFront (take (place + 1) text) → ⊥
    past front = no_front (take place text) b p name params returned h (subst (IsStuck p b) (sym len) stuck) (subst IsFront next_is front)

-- The text ends before a method's does.
pub breaks_at_end : (text : List ℕ) (p : TextPlace) (name : List ℕ) (params : List TypeCode) (returned : Option TypeCode)
    → HasRead text p name params returned → (p ≡ End → ⊥) → BreaksAt text (length text)
breaks_at_end text p name params returned h not_end = record {
  no_method = λ name params returned m. none (h.back [] name params returned (subst (λ (l : List ℕ). Completes (Name 0) l name params returned) (sym (append-nil text)) (completed text name params returned m)));
  within = omega arith;
  front = subst IsFront (sym (take-length text)) (a_front text p name params returned h);
  longest = λ less. absurd (omega arith);
}
  where
    some_needed : (q : TextPlace) → (q ≡ End → ⊥) → need q ≤ 0 → ⊥
    some_needed (Name zero) not few = omega arith
    some_needed (Name (suc read)) not few = omega arith
    some_needed (Parameters read) not few = omega arith
    some_needed (Parameter count Elements) not few = omega arith
    some_needed (Parameter count Class) not few = omega arith
    some_needed (Parameter count ClassName) not few = omega arith
    some_needed Returned not few = omega arith
    some_needed (ReturnedType Elements) not few = omega arith
    some_needed (ReturnedType Class) not few = omega arith
    some_needed (ReturnedType ClassName) not few = omega arith
    some_needed End not few = not refl

    none : ((more : List ℕ) × (others : List TypeCode) × (coming : Option TypeCode) × Completes p [] more others coming) → ⊥
    none (more, others, coming, c) = some_needed p not_end (needs p [] more others coming c)
