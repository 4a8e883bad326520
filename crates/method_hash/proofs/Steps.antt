-- A byte leads from one place in a method's text to the next: what completes the text from there completes it, with the byte, from before,
-- and nothing else does.
use Rattle.std.proofs.Common.{◌≡◌, ℕ, ◌+◌, ◌<◌, ◌≤◌, Bool, true, false, cond, eqb, ltb, List, [], ◌∷◌, ◌++◌, Option, Some, None, refl, sym, ap, subst, ◌∙◌, arith}
use Rattle.std.specs.Prelude.{◌&&◌, option_to_list, option_map}
use Rattle.std.proofs.lemmas.Bool.{eqb-true, ltb-true, lt-ltb}
use Rattle.std.proofs.lemmas.List.{append_assoc}
use Rattle.class_desc.specs.declared.field.TypeCode.{TypeCode}
use Rattle.class_desc.specs.declared.field.TypeCode.TheVariants as codes
use Rattle.class_desc.specs.TypeCode.{letter}
use Rattle.class_desc.specs.TypeText.{code_of}
use Rattle.method_hash.specs.MethodText.{is_name_byte, HasType, Returns}
use Rattle.method_hash.specs.Next.{begin, part_next, next, in_parameter, in_result, IsWithin}
use Rattle.method_hash.specs.TextReading.{CompletesPart, CompletesTypes, Completes, name_noted, param_noted, returned_noted, returned_at}
use Rattle.method_hash.specs.declared.place.Begun.{Begun}
use Rattle.method_hash.specs.declared.place.Begun.TheVariants.{Whole, In}
use Rattle.method_hash.specs.declared.place.Part.{Part}
use Rattle.method_hash.specs.declared.place.TextPlace.{TextPlace}
use Rattle.method_hash.specs.declared.place.TextPlace.TheVariants.{Name, Parameters, Parameter, Returned, ReturnedType, End}
use Rattle.method_hash.proofs.Types.{CompletesBegun, begun_type, type_begun, part_sound, part_back}
use Rattle.method_hash.specs.declared.place.TheConstants.{MAX_METHOD_PARTS}

-- ---- parameters and results

-- What completes a text behind so much of a parameter's type.
abbrev AfterParameter : ℕ → Begun → List ℕ → List TypeCode → Option TypeCode → Type 0
AfterParameter count x t params coming = (first tail : List ℕ) × CompletesBegun x first × CompletesTypes count tail params coming × (t ≡ first ++ tail)

after_parameter : (count : ℕ) (x : Begun) (t more : List ℕ) (params : List TypeCode) (coming : Option TypeCode) → Completes (in_parameter count x) t more params coming → (more ≡ []) × AfterParameter count x t params coming
after_parameter count Whole t more params coming (none, types) = (none, ([], t, refl, types, refl))
after_parameter count (In part) t more params coming (none, rest) = (none, rest)

in_parameter_of : (count : ℕ) (x : Begun) (t : List ℕ) (params : List TypeCode) (coming : Option TypeCode) → AfterParameter count x t params coming → Completes (in_parameter count x) t [] params coming
in_parameter_of count Whole t params coming (first, tail, none, types, is) =
    (refl, subst (λ (l : List ℕ). CompletesTypes count l params coming) (sym (is ∙ ap (λ (l : List ℕ). l ++ tail) none)) types)
in_parameter_of count (In part) t params coming h = (refl, h)

after_result : (x : Begun) (t more : List ℕ) (params : List TypeCode) (coming : Option TypeCode) → Completes (in_result x) t more params coming → (more ≡ []) × (params ≡ []) × CompletesBegun x t
after_result Whole t more params coming h = h
after_result (In part) t more params coming h = h

in_result_of : (x : Begun) (t : List ℕ) (coming : Option TypeCode) → CompletesBegun x t → Completes (in_result x) t [] [] coming
in_result_of Whole t coming h = (refl, refl, h)
in_result_of (In part) t coming h = (refl, refl, h)

returned_in : (x : Begun) (told coming : Option TypeCode) → returned_at (in_result x) told coming ≡ told
returned_in Whole told coming = refl
returned_in (In part) told coming = refl

returned_behind : (count : ℕ) (x : Begun) (told coming : Option TypeCode) → returned_at (in_parameter count x) told coming ≡ coming
returned_behind count Whole told coming = refl
returned_behind count (In part) told coming = refl

-- ---- where a byte leads

some_is : {A : Type 0} (x y : A) → Some x ≡ Some y → x ≡ y
some_is x y e = cc

mapped : (f : Begun → TextPlace) (o : Option Begun) (q : TextPlace) → option_map f o ≡ Some q → (x : Begun) × (o ≡ Some x) × (f x ≡ q)
mapped f None q h = absurd cc
mapped f (Some x) q h = (x, refl, some_is (f x) q h)

-- What completes the text behind the byte makes, with the byte and what it tells, what completes it before.
abbrev pub Leads : TextPlace → ℕ → TextPlace → Type 0
Leads p b q = (t more : List ℕ) (others : List TypeCode) (coming told : Option TypeCode) → Completes q t more others coming
    → (result : Option TypeCode) × Completes p (b ∷ t) (name_noted p b ++ more) (param_noted p b ++ others) result
    × (returned_at p told result ≡ returned_at q (returned_noted p b told) coming)

no_parenthesis : (b : ℕ) → is_name_byte b ≡ true → eqb b 0x28 ≡ false
no_parenthesis b h = go (eqb b 0x28) refl
  where
    go : (v : Bool) → eqb b 0x28 ≡ v → v ≡ false
    go false e = refl
    go true e = let same : b ≡ 0x28 = eqb-true b 0x28 e in let no : is_name_byte 0x28 ≡ true = ap is_name_byte (sym same) ∙ h in absurd cc

name_more : (read b : ℕ) → is_name_byte b ≡ true → name_noted (Name read) b ≡ b ∷ []
name_more read b good = rw (no_parenthesis b good) refl

leads_name : (read b : ℕ) → is_name_byte b ≡ true → ltb read MAX_METHOD_PARTS ≡ true → Leads (Name read) b (Name (read + 1))
leads_name read b good less t more others coming told (tail, are, some, few, types, is) =
    (coming, rw (name_more read b good) (tail, (good, are), omega arith, omega arith, types, ap (λ (l : List ℕ). b ∷ l) is), refl)

leads_open : (read : ℕ) → read ≤ MAX_METHOD_PARTS → ltb 0 read ≡ true → Leads (Name read) 0x28 (Parameters 0)
leads_open read few some t [] others coming told (none, types) =
    let much : 0 < read = ltb-true 0 read some in
    (coming, (t, tt, omega arith, omega arith, types, refl), refl)
leads_open read few some t (c ∷ more) others coming told (none, types) = absurd cc

leads_close : (read : ℕ) → read ≤ MAX_METHOD_PARTS → Leads (Parameters read) 0x29 Returned
leads_close read few t [] [] coming told (none, no_others, returns) = (coming, (refl, ([], t, refl, omega arith, returns, refl)), refl)
leads_close read few t (c ∷ more) others coming told (none, no_others, returns) = absurd cc
leads_close read few t [] (c ∷ others) coming told (none, no_others, returns) = absurd cc

leads_parameter : (read b : ℕ) (x : Begun) → begin b ≡ Some x → Leads (Parameters read) b (in_parameter (read + 1) x)
leads_parameter read b x begins t more others coming told h = go (after_parameter (read + 1) x t more others coming h)
  where
    typed : (first tail : List ℕ) (code : TypeCode) → HasType code (b ∷ first) → CompletesTypes (read + 1) tail others coming → t ≡ first ++ tail → CompletesTypes read (b ∷ t) (code ∷ others) coming
    typed first tail code has (types, last, are, few, returns, is) whole = (
      (b ∷ first) ++ types,
      last,
      (b ∷ first, types, has, are, refl),
      omega arith,
      returns,
      ap (λ (l : List ℕ). b ∷ l) (whole ∙ ap (λ (l : List ℕ). first ++ l) is ∙ sym (append_assoc first types (0x29 ∷ last))),
    )

    go : (more ≡ []) × AfterParameter (read + 1) x t others coming → (result : Option TypeCode) × Completes (Parameters read) (b ∷ t) more (option_to_list (code_of b) ++ others) result × (result ≡ returned_at (in_parameter (read + 1) x) told coming)
    go (none, (first, tail, completes, types, is)) =
        let k = begun_type b x first begins completes in
        (coming, rw (k.1) (none, typed first tail k.0 k.2 types is), sym (returned_behind (read + 1) x told coming))

leads_on : (count b : ℕ) (part : Part) (x : Begun) → part_next part b ≡ Some x → Leads (Parameter count part) b (in_parameter count x)
leads_on count b part x goes t more others coming told h = go (after_parameter count x t more others coming h)
  where
    go : (more ≡ []) × AfterParameter count x t others coming → (result : Option TypeCode) × Completes (Parameter count part) (b ∷ t) more others result × (result ≡ returned_at (in_parameter count x) told coming)
    go (none, (first, tail, completes, types, is)) =
        (coming, (none, (b ∷ first, tail, part_sound part b x first goes completes, types, ap (λ (l : List ℕ). b ∷ l) is)), sym (returned_behind count x told coming))

leads_nothing : Leads Returned 0x56 End
leads_nothing t more others coming told (none, no_others, is) = (None, (none, no_others, ap (λ (l : List ℕ). 0x56 ∷ l) is), refl)

leads_result : (b : ℕ) (x : Begun) → begin b ≡ Some x → Leads Returned b (in_result x)
leads_result b x begins t more others coming told h =
    let a = after_result x t more others coming h in
    let k = begun_type b x t begins a.2 in
    (Some k.0, (a.0, a.1, k.2), sym (returned_in x (code_of b) coming ∙ k.1))

leads_in_result : (b : ℕ) (part : Part) (x : Begun) → part_next part b ≡ Some x → Leads (ReturnedType part) b (in_result x)
leads_in_result b part x goes t more others coming told h =
    let a = after_result x t more others coming h in
    (coming, (a.0, a.1, part_sound part b x t goes a.2), sym (returned_in x told coming))

pub leads : (p : TextPlace) (b : ℕ) (q : TextPlace) → IsWithin p → next p b ≡ Some q → Leads p b q
unfolding next
leads (Name read) b q within h = go (eqb b 0x28) refl (ltb 0 read) refl h
  where
    inner : (u : Bool) → is_name_byte b ≡ u → (v : Bool) → ltb read MAX_METHOD_PARTS ≡ v → cond (u && v) (Some (Name (read + 1))) None ≡ Some q → Leads (Name read) b q
    inner true good true less h = subst (Leads (Name read) b) (some_is (Name (read + 1)) q h) (leads_name read b good less)
    inner true good false less h = absurd cc
    inner false good v less h = absurd cc

    go : (u : Bool) → eqb b 0x28 ≡ u → (v : Bool) → ltb 0 read ≡ v → cond (u && v) (Some (Parameters 0)) (cond (is_name_byte b && ltb read MAX_METHOD_PARTS) (Some (Name (read + 1))) None) ≡ Some q → Leads (Name read) b q
    go true e true some h =
        subst (Leads (Name read) b) (some_is (Parameters 0) q h)
        (subst (λ (n : ℕ). Leads (Name read) n (Parameters 0)) (sym (eqb-true b 0x28 e)) (leads_open read within some))
    go true e false some h = inner (is_name_byte b) refl (ltb read MAX_METHOD_PARTS) refl h
    go false e v some h = inner (is_name_byte b) refl (ltb read MAX_METHOD_PARTS) refl h
leads (Parameters read) b q within h = go (eqb b 0x29) refl h
  where
    inner : (v : Bool) → cond v (option_map (in_parameter (read + 1)) (begin b)) None ≡ Some q → Leads (Parameters read) b q
    inner true h =
        let m = mapped (in_parameter (read + 1)) (begin b) q h in
        subst (Leads (Parameters read) b) m.2 (leads_parameter read b m.0 m.1)
    inner false h = absurd cc

    go : (u : Bool) → eqb b 0x29 ≡ u → cond u (Some Returned) (cond (ltb read MAX_METHOD_PARTS) (option_map (in_parameter (read + 1)) (begin b)) None) ≡ Some q → Leads (Parameters read) b q
    go true e h =
        subst (Leads (Parameters read) b) (some_is Returned q h)
        (subst (λ (n : ℕ). Leads (Parameters read) n Returned) (sym (eqb-true b 0x29 e)) (leads_close read within))
    go false e h = inner (ltb read MAX_METHOD_PARTS) h
leads (Parameter count part) b q within h =
    let m = mapped (in_parameter count) (part_next part b) q h in
    subst (Leads (Parameter count part) b) m.2 (leads_on count b part m.0 m.1)
leads Returned b q within h = go (eqb b 0x56) refl h
  where
    go : (u : Bool) → eqb b 0x56 ≡ u → cond u (Some End) (option_map in_result (begin b)) ≡ Some q → Leads Returned b q
    go true e h =
        subst (Leads Returned b) (some_is End q h) (subst (λ (n : ℕ). Leads Returned n End) (sym (eqb-true b 0x56 e)) leads_nothing)
    go false e h = let m = mapped in_result (begin b) q h in subst (Leads Returned b) m.2 (leads_result b m.0 m.1)
leads (ReturnedType part) b q within h =
    let m = mapped in_result (part_next part b) q h in
    subst (Leads (ReturnedType part) b) m.2 (leads_in_result b part m.0 m.1)
leads End b q within h = absurd cc

-- ---- and where nothing else leads

-- What completes a text from a place begins with a byte that leads on, and completes it from where the byte leads.
abbrev pub GoesOn : TextPlace → ℕ → List ℕ → Type 0
GoesOn p b t = (q : TextPlace) × (next p b ≡ Some q) × ((more : List ℕ) × (others : List TypeCode) × (coming : Option TypeCode) × Completes q t more others coming)

letter_stands_out : (code : TypeCode) → (eqb (letter code) 0x29 ≡ false) × (eqb (letter code) 0x56 ≡ false)
letter_stands_out codes.Byte = (refl, refl)
letter_stands_out codes.Char = (refl, refl)
letter_stands_out codes.Double = (refl, refl)
letter_stands_out codes.Float = (refl, refl)
letter_stands_out codes.Int = (refl, refl)
letter_stands_out codes.Long = (refl, refl)
letter_stands_out codes.Short = (refl, refl)
letter_stands_out codes.Boolean = (refl, refl)
letter_stands_out codes.Array = (refl, refl)
letter_stands_out codes.Object = (refl, refl)

pub head_is : (b c : ℕ) (t u : List ℕ) → b ∷ t ≡ c ∷ u → b ≡ c
head_is b c t u e = cc

pub tail_is : (b c : ℕ) (t u : List ℕ) → b ∷ t ≡ c ∷ u → t ≡ u
tail_is b c t u e = cc

-- a byte and what follows it, as they are spelled
at_spelled : (p : TextPlace) (b c : ℕ) (t u : List ℕ) → b ∷ t ≡ c ∷ u → GoesOn p c u → GoesOn p b t
at_spelled p b c t u e h = subst (λ (n : ℕ). GoesOn p n t) (sym (head_is b c t u e)) (subst (GoesOn p c) (sym (tail_is b c t u e)) h)

back_name : (read b : ℕ) (t name : List ℕ) (params : List TypeCode) (coming : Option TypeCode) → Completes (Name read) (b ∷ t) name params coming → GoesOn (Name read) b t
unfolding next
back_name read b t [] params coming (tail, are, some, few, types, is) =
    let much : ltb 0 read ≡ true = lt-ltb 0 read (omega arith) in
    at_spelled (Name read) b 0x28 t tail is (Parameters 0, rw (much) refl, ([], params, coming, (refl, types)))
back_name read b t (c ∷ name) params coming (tail, are, some, few, types, is) =
    let less : ltb read MAX_METHOD_PARTS ≡ true = lt-ltb read MAX_METHOD_PARTS (omega arith) in
    at_spelled (Name read) b c t (name ++ 0x28 ∷ tail) is
    (Name (read + 1), rw (are.0, no_parenthesis c are.0, less) refl, (name, params, coming, (tail, are.1, omega arith, omega arith, types, refl)))

back_parameters : (read b : ℕ) (t : List ℕ) (params : List TypeCode) (coming : Option TypeCode) → CompletesTypes read (b ∷ t) params coming → GoesOn (Parameters read) b t
unfolding next
back_parameters read b t [] coming (types, last, none, few, returns, is) =
    at_spelled (Parameters read) b 0x29 t last (is ∙ ap (λ (l : List ℕ). l ++ 0x29 ∷ last) none) (Returned, refl, ([], [], coming, (refl, refl, returns)))
back_parameters read b t (code ∷ params) coming (types, last, (first, rest, has, are, joined), few, returns, is) = go (type_begun code first has)
  where
    less : ltb read MAX_METHOD_PARTS ≡ true
    less = lt-ltb read MAX_METHOD_PARTS (omega arith)

    go : ((tail : List ℕ) × (x : Begun) × (first ≡ letter code ∷ tail) × (begin (letter code) ≡ Some x) × CompletesBegun x tail) → GoesOn (Parameters read) b t
    go (tail, x, first_is, begins, completes) =
        let whole : b ∷ t ≡ letter code ∷ (tail ++ (rest ++ 0x29 ∷ last)) =
        is ∙ ap (λ (l : List ℕ). l ++ 0x29 ∷ last) (joined ∙ ap (λ (l : List ℕ). l ++ rest) first_is) ∙ ap (λ (l : List ℕ). letter code ∷ l) (append_assoc tail rest (0x29 ∷ last)) in
        at_spelled (Parameters read) b (letter code) t (tail ++ (rest ++ 0x29 ∷ last)) whole (
          in_parameter (read + 1) x,
          rw ((letter_stands_out code).0, less, begins) refl,
          (
            [],
            params,
            coming,
            in_parameter_of (read + 1) x (tail ++ (rest ++ 0x29 ∷ last)) params coming
                (tail, rest ++ 0x29 ∷ last, completes, (rest, last, are, omega arith, returns, refl), refl),
          ),
        )

back_parameter : (count b : ℕ) (part : Part) (t first tail : List ℕ) (params : List TypeCode) (coming : Option TypeCode) → CompletesPart part first → CompletesTypes count tail params coming → b ∷ t ≡ first ++ tail → GoesOn (Parameter count part) b t
unfolding next
back_parameter count b part t first tail params coming completes types is = go (part_back part first completes)
  where
    go : ((c : ℕ) × (rest : List ℕ) × (x : Begun) × (first ≡ c ∷ rest) × (part_next part c ≡ Some x) × CompletesBegun x rest) → GoesOn (Parameter count part) b t
    go (c, rest, x, first_is, goes, more) =
        at_spelled (Parameter count part) b c t (rest ++ tail) (is ∙ ap (λ (l : List ℕ). l ++ tail) first_is) (
          in_parameter count x,
          rw (goes) refl,
          ([], params, coming, in_parameter_of count x (rest ++ tail) params coming (rest, tail, more, types, refl)),
        )

back_returned : (b : ℕ) (t : List ℕ) (coming : Option TypeCode) → Returns coming (b ∷ t) → GoesOn Returned b t
unfolding next
back_returned b t None is = at_spelled Returned b 0x56 t [] is (End, refl, ([], [], None, (refl, refl, refl)))
back_returned b t (Some code) has = go (type_begun code (b ∷ t) has)
  where
    go : ((tail : List ℕ) × (x : Begun) × (b ∷ t ≡ letter code ∷ tail) × (begin (letter code) ≡ Some x) × CompletesBegun x tail) → GoesOn Returned b t
    go (tail, x, is, begins, completes) =
        at_spelled Returned b (letter code) t tail is (in_result x, rw ((letter_stands_out code).1, begins) refl, ([], [], None, in_result_of x tail None completes))

back_in_result : (b : ℕ) (part : Part) (t : List ℕ) → CompletesPart part (b ∷ t) → GoesOn (ReturnedType part) b t
unfolding next
back_in_result b part t completes = go (part_back part (b ∷ t) completes)
  where
    go : ((c : ℕ) × (rest : List ℕ) × (x : Begun) × (b ∷ t ≡ c ∷ rest) × (part_next part c ≡ Some x) × CompletesBegun x rest) → GoesOn (ReturnedType part) b t
    go (c, rest, x, is, goes, more) =
        at_spelled (ReturnedType part) b c t rest is (in_result x, rw (goes) refl, ([], [], None, in_result_of x rest None more))

pub goes_on : (p : TextPlace) (b : ℕ) (t name : List ℕ) (params : List TypeCode) (coming : Option TypeCode) → Completes p (b ∷ t) name params coming → GoesOn p b t
goes_on (Name read) b t name params coming h = back_name read b t name params coming h
goes_on (Parameters read) b t name params coming h = back_parameters read b t params coming h.1
goes_on (Parameter count part) b t name params coming (none, (first, tail, completes, types, is)) = back_parameter count b part t first tail params coming completes types is
goes_on Returned b t name params coming h = back_returned b t coming h.2
goes_on (ReturnedType part) b t name params coming h = back_in_result b part t h.2
goes_on End b t name params coming (none, no_params, is) = absurd cc

-- ---- the counts stay within their limits

within_parameter : (count : ℕ) (x : Begun) → count ≤ MAX_METHOD_PARTS → IsWithin (in_parameter count x)
within_parameter count Whole few = few
within_parameter count (In part) few = few

within_result : (x : Begun) → IsWithin (in_result x)
within_result Whole = tt
within_result (In part) = tt

pub within_next : (p : TextPlace) (b : ℕ) (q : TextPlace) → IsWithin p → next p b ≡ Some q → IsWithin q
unfolding next
within_next (Name read) b q within h = go (eqb b 0x28) (ltb 0 read) h
  where
    inner : (u : Bool) → (v : Bool) → ltb read MAX_METHOD_PARTS ≡ v → cond (u && v) (Some (Name (read + 1))) None ≡ Some q → IsWithin q
    inner true true less h = let below : read < MAX_METHOD_PARTS = ltb-true read MAX_METHOD_PARTS less in subst IsWithin (some_is (Name (read + 1)) q h) (omega arith)
    inner true false less h = absurd cc
    inner false v less h = absurd cc

    go : (u : Bool) → (v : Bool) → cond (u && v) (Some (Parameters 0)) (cond (is_name_byte b && ltb read MAX_METHOD_PARTS) (Some (Name (read + 1))) None) ≡ Some q → IsWithin q
    go true true h = subst IsWithin (some_is (Parameters 0) q h) (omega arith)
    go true false h = inner (is_name_byte b) (ltb read MAX_METHOD_PARTS) refl h
    go false v h = inner (is_name_byte b) (ltb read MAX_METHOD_PARTS) refl h
within_next (Parameters read) b q within h = go (eqb b 0x29) h
  where
    inner : (v : Bool) → ltb read MAX_METHOD_PARTS ≡ v → cond v (option_map (in_parameter (read + 1)) (begin b)) None ≡ Some q → IsWithin q
    inner true less h =
        let below : read < MAX_METHOD_PARTS = ltb-true read MAX_METHOD_PARTS less in
        let m = mapped (in_parameter (read + 1)) (begin b) q h in
        subst IsWithin m.2 (within_parameter (read + 1) m.0 (omega arith))
    inner false less h = absurd cc

    go : (u : Bool) → cond u (Some Returned) (cond (ltb read MAX_METHOD_PARTS) (option_map (in_parameter (read + 1)) (begin b)) None) ≡ Some q → IsWithin q
    go true h = subst IsWithin (some_is Returned q h) tt
    go false h = inner (ltb read MAX_METHOD_PARTS) refl h
within_next (Parameter count part) b q within h =
    let m = mapped (in_parameter count) (part_next part b) q h in subst IsWithin m.2 (within_parameter count m.0 within)
within_next Returned b q within h = go (eqb b 0x56) h
  where
    go : (u : Bool) → cond u (Some End) (option_map in_result (begin b)) ≡ Some q → IsWithin q
    go true h = subst IsWithin (some_is End q h) tt
    go false h = let m = mapped in_result (begin b) q h in subst IsWithin m.2 (within_result m.0)
within_next (ReturnedType part) b q within h = let m = mapped in_result (part_next part b) q h in subst IsWithin m.2 (within_result m.0)
within_next End b q within h = absurd cc
