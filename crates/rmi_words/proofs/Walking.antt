-- What `clap` makes of words none of which begins with `-`.
use Rattle.std.proofs.Common.{◌≡◌, ◌∙◌, ℕ, Bool, true, false, true≢false, if◌then◌else◌, ◌∷◌, [], List, Option, Some, None, refl, ap, sym}
use Rattle.std.specs.Prelude.{fold}
use Rattle.std.specs.Str.{bytes_eq}
use Rattle.clap.specs.Kinds.{Kinds, or_else}
use Rattle.clap.specs.Lexer.{long_of, short_of}
use Rattle.clap.specs.Simple.{Shape}
use Rattle.clap.specs.Walk.{Held, Rule, Step, Text, Waiting, Walk, arg_by_index, idle, option, positional, to_positional, value, is_multiple, walked, walked_from, word_met, after_step, subcommand_or_other, plain_word}
use Rattle.rmi_words.specs.Program.{is_option}
use Rattle.clap.specs.Faults.{turn_fault, step_fault, walk_fault, word_fault}

-- None of the words begins with `-`.
abbrev pub ArePlain : List Text → Type 0
ArePlain [] = Unit {0}
ArePlain (w ∷ ws) = (is_option w ≡ false) × ArePlain ws

pub not_dashes : (w : Text) → is_option w ≡ false → bytes_eq w (45 ∷ 45 ∷ []) ≡ false
not_dashes [] p = refl
not_dashes (x ∷ xs) p = rw p refl

pub not_long : (w : Text) → is_option w ≡ false → long_of w ≡ None
not_long [] p = refl
not_long (x ∷ xs) p = rw p refl

pub not_short : (w : Text) → is_option w ≡ false → short_of w ≡ None
not_short [] p = refl
not_short (x ∷ xs) p = rw p refl

-- No option waits for a value.
abbrev pub is_free : Waiting → Bool
is_free idle = true
is_free positional = true
is_free (option id) = false

abbrev pub meets : List Rule → Waiting → Text → Held → Held × Step
meets c waiting w h = subcommand_or_other c None waiting 0 w h

other_is : (c : List Rule) (waiting : Waiting) (position : ℕ) (w : Text) (h : Held) → is_option w ≡ false
    → subcommand_or_other c None waiting position w h ≡ plain_word c waiting w h
other_is c waiting position w h p = rw (not_dashes w p, not_long w p, not_short w p) refl

met_is : (c : List Rule) (trailing : Bool) (waiting : Waiting) (position : ℕ) (w : Text) (h : Held) → is_free waiting ≡ true → is_option w ≡ false
    → word_met c [] trailing waiting position w h ≡ (h, value)
met_is c true waiting position w h free p = refl
met_is c false idle position w h free p = other_is c idle position w h p
met_is c false positional position w h free p = other_is c positional position w h p
met_is c false (option id) position w h free p = absurd (true≢false (sym free))

word_fault_is : (s : Shape) (trailing : Bool) (waiting : Waiting) (w : Text) (h : Held) → is_free waiting ≡ true → is_option w ≡ false
    → word_fault s [] trailing waiting w h ≡ []
word_fault_is s true waiting w h free p = refl
word_fault_is s false idle w h free p = rw (not_dashes w p, not_long w p, not_short w p) refl
word_fault_is s false positional w h free p = rw (not_dashes w p, not_long w p, not_short w p) refl
word_fault_is s false (option id) w h free p = absurd (true≢false (sym free))

-- ---- a command's words go to their places

-- A word goes to the place that is next.
abbrev pub fed : List Rule → Text → Walk → Walk
fed c w at = to_positional c (arg_by_index c at.position) w at at.held

abbrev pub fed_all : List Rule → Walk → List Text → Walk
fed_all c at [] = at
fed_all c at (w ∷ ws) = fed_all c (fed c w at) ws

abbrev pub fed_fault : Shape → Walk → List Text → Kinds
fed_fault s at [] = []
fed_fault s at (w ∷ ws) = or_else (step_fault s at.position at.held value) (fed_fault s (fed s.rules w at) ws)

walked_is_fed : (c : List Rule) (at : Walk) (w : Text) → at.stopped ≡ None → is_free at.waiting ≡ true → is_option w ≡ false → walked c [] at w ≡ fed c w at
unfolding walked
walked_is_fed c at w none free p =
    ap (λ o. walked_from c [] o at w) none
    ∙ ap (λ (m : Held × Step). after_step c w at m.0 m.1) (met_is c at.is_trailing at.waiting at.position w at.held free p)

turn_is_fed : (s : Shape) (at : Walk) (w : Text) → at.stopped ≡ None → is_free at.waiting ≡ true → is_option w ≡ false
    → turn_fault s [] at w ≡ step_fault s at.position at.held value
turn_is_fed s at w none free p =
    rw (none, word_fault_is s at.is_trailing at.waiting w at.held free p, met_is s.rules at.is_trailing at.waiting at.position w at.held free p) refl

fed_goes_on : (c : List Rule) (a : Option Rule) (at : Walk) (w : Text) → at.stopped ≡ None → is_free at.waiting ≡ true
    → ((to_positional c a w at at.held).stopped ≡ None) × (is_free (to_positional c a w at at.held).waiting ≡ true)
fed_goes_on c None at w none free = (none, free)
fed_goes_on c (Some a) at w none free = (refl, may_wait (is_multiple a))
  where
    may_wait : (b : Bool) → is_free (if b then positional else idle) ≡ true
    may_wait true = refl
    may_wait false = refl

pub walk_is_fed : (c : List Rule) (ws : List Text) (at : Walk) → at.stopped ≡ None → is_free at.waiting ≡ true → ArePlain ws → fold (walked c []) at ws ≡ fed_all c at ws
walk_is_fed c [] at none free p = refl
walk_is_fed c (w ∷ ws) at none free p =
    let on = fed_goes_on c (arg_by_index c at.position) at w none free in
    ap (λ (x : Walk). fold (walked c []) x ws) (walked_is_fed c at w none free p.0) ∙ walk_is_fed c ws (fed c w at) on.0 on.1 p.1

pub fault_is_fed : (s : Shape) (ws : List Text) (at : Walk) → at.stopped ≡ None → is_free at.waiting ≡ true → ArePlain ws → walk_fault s [] at ws ≡ fed_fault s at ws
unfolding walk_fault
fault_is_fed s [] at none free p = refl
fault_is_fed s (w ∷ ws) at none free p =
    let on = fed_goes_on s.rules (arg_by_index s.rules at.position) at w none free in
    ap (λ (k : Kinds). or_else k (walk_fault s [] (walked s.rules [] at w) ws)) (turn_is_fed s at w none free p.0)
    ∙ ap (λ (x : Walk). or_else (step_fault s at.position at.held value) (walk_fault s [] x ws)) (walked_is_fed s.rules at w none free p.0)
    ∙ ap (λ (k : Kinds). or_else (step_fault s at.position at.held value) k) (fault_is_fed s ws (fed s.rules w at) on.0 on.1 p.1)
