-- What a sink holds after pieces of a text.
use Rattle.std.proofs.Common.{◌+◌, ◌≡◌, ◌<◌, ◌≤◌, ℕ, List, [], ◌∷◌, ◌++◌, length, take, Option, Result, Ok, Err, refl, ap, sym, subst, ◌∙◌, append_assoc, append-nil, arith}
use Rattle.std.specs.Prelude.{IfOk, map}
use Rattle.std.specs.List.{flat_map}
use Rattle.std.proofs.Math.Seq.{take-append-add}
use Rattle.std.proofs.lemmas.Grind.{flat_map-append}
use Rattle.std.proofs.lemmas.List.{length-append, map-append, take-append-le}
use Rattle.std.proofs.lemmas.List.Folds.{flat_map-map}
use Rattle.wire_io.specs.Wire.{WriteHalf, with_end, with_end-with_end, with_end-nothing, Rose}
use Rattle.rmi_cli.specs.Sinks.{Goes, WroteBefore, WroteLess, joined}
use Rattle.rmi_cli.specs.declared.sink_state.SinkState.{SinkState}
use Rattle.rmi_cli.specs.declared.sink_state.SinkState.TheVariants.{Whole, Failed, Lost}

-- ---- texts of pieces

pub joined-append : (pieces more : List (List ℕ)) → joined (pieces ++ more) ≡ joined pieces ++ joined more
joined-append pieces more = flat_map-append (λ (piece : List ℕ). piece) pieces more

pub joined_lines : {X : Type 0} (line : X → List ℕ) (xs : List X) → joined (map line xs) ≡ flat_map line xs
joined_lines line xs = flat_map-map (λ (piece : List ℕ). piece) line xs

-- The lines of a list in two parts.
pub parted : {X : Type 0} (line : X → List ℕ) (xs ys zs : List X) → zs ≡ xs ++ ys → map line xs ++ map line ys ≡ map line zs
parted line xs ys zs is = sym (map-append line xs ys) ∙ ap (map line) (sym is)

-- ---- less than all

-- A front of a text is one of a longer text.
pub less_longer : (held held_after : Option (List ℕ)) (text more : List ℕ) → WroteLess held held_after text → WroteLess held held_after (text ++ more)
less_longer held held_after text more w =
    let size = length-append text more in
    (w.0, omega (arith, w.1, size), w.2 ∙ ap (λ t. with_end held t) (sym (take-append-le w.0 text more (omega (arith, w.1)))))

-- A text, and a front of what follows it.
pub less_behind : (held mid held_after : Option (List ℕ)) (text more : List ℕ) → mid ≡ with_end held text → WroteLess mid held_after more → WroteLess held held_after (text ++ more)
less_behind held mid held_after text more whole w =
    let size = length-append text more in (
      length text + w.0,
      omega (arith, w.1, size),
      w.2 ∙ ap (λ h. with_end h (take w.0 more)) whole ∙ with_end-with_end held text (take w.0 more) ∙ ap (λ t. with_end held t) (sym (take-append-add text more w.0)),
    )

-- Where a piece was lost, it was lost of a longer list.
before_longer : (held held_after : Option (List ℕ)) (pieces more : List (List ℕ)) → WroteBefore held held_after pieces → WroteBefore held held_after (pieces ++ more)
before_longer held held_after pieces more w = record {
  written = w.written;
  lost = w.lost;
  rest = w.rest ++ more;
  pieces_are = ap (λ p. p ++ more) w.pieces_are ∙ append_assoc w.written (w.lost ∷ w.rest) more;
  held_is = w.held_is;
}

-- Pieces, and those before one that was lost behind them.
before_behind : (held mid held_after : Option (List ℕ)) (pieces more : List (List ℕ)) → mid ≡ with_end held (joined pieces) → WroteBefore mid held_after more → WroteBefore held held_after (pieces ++ more)
before_behind held mid held_after pieces more whole w = record {
  written = pieces ++ w.written;
  lost = w.lost;
  rest = w.rest;
  pieces_are = ap (λ p. pieces ++ p) w.pieces_are ∙ sym (append_assoc pieces w.written (w.lost ∷ w.rest));
  held_is = w.held_is ∙ ap (λ h. with_end h (joined w.written)) whole ∙ with_end-with_end held (joined pieces) (joined w.written)
      ∙ ap (λ t. with_end held t) (sym (joined-append pieces w.written));
}

pub rose_late : (a b c : ℕ) → a ≤ b → Rose b c → Rose a c
rose_late a b c more rose = (omega (arith, more, rose.0), omega (arith, more, rose.1))

-- ---- pieces after pieces

-- A sink that is given nothing.
pub goes_nothing : (half : WriteHalf) (state : SinkState) → Goes half half [] state state
goes_nothing half Whole = ((sym (with_end-nothing half.held), refl), omega arith, refl)
goes_nothing half Failed = (refl, refl)
goes_nothing half Lost = (refl, refl)

then_whole : (a b c : WriteHalf) (pieces more : List (List ℕ)) (state : SinkState) → b.held ≡ with_end a.held (joined pieces) → b.faults ≡ a.faults → b.shut ≡ a.shut
    → Goes b c more Whole state → Goes a c (pieces ++ more) Whole state
then_whole a b c pieces more Whole held count shut g = (
  (
    g.0.0 ∙ ap (λ h. with_end h (joined more)) held ∙ with_end-with_end a.held (joined pieces) (joined more) ∙ ap (λ t. with_end a.held t) (sym (joined-append pieces more)),
    g.0.1 ∙ count,
  ),
  omega (arith, count, g.1),
  g.2 ∙ shut,
)
then_whole a b c pieces more Failed held count shut g = (
  (
    subst (λ (t : List ℕ). WroteLess a.held c.held t) (sym (joined-append pieces more)) (less_behind a.held b.held c.held (joined pieces) (joined more) held g.0.0),
    rose_late a.faults b.faults c.faults (omega (arith, count)) g.0.1,
  ),
  omega (arith, count, g.1),
  g.2 ∙ shut,
)
then_whole a b c pieces more Lost held count shut g = ((before_behind a.held b.held c.held pieces more held g.0.0, g.0.1 ∙ count), omega (arith, count, g.1), g.2 ∙ shut)

-- Nothing is written behind pieces that were not all written.
extended : (a b : WriteHalf) (pieces more : List (List ℕ)) (state : SinkState) → Goes a b pieces Whole state → (state ≡ Whole → ⊥) → Goes a b (pieces ++ more) Whole state
extended a b pieces more Whole g not = absurd (not refl)
extended a b pieces more Failed g not =
    ((subst (λ (t : List ℕ). WroteLess a.held b.held t) (sym (joined-append pieces more)) (less_longer a.held b.held (joined pieces) (joined more) g.0.0), g.0.1), g.1, g.2)
extended a b pieces more Lost g not = ((before_longer a.held b.held pieces more g.0.0, g.0.1), g.1, g.2)

-- Pieces after pieces.
pub goes_on : (a b c : WriteHalf) (pieces more : List (List ℕ)) (first mid final : SinkState) → Goes a b pieces first mid → Goes b c more mid final → Goes a c (pieces ++ more) first final
goes_on a b c pieces more Failed mid final g h =
    let still : Goes b c more Failed final = subst (λ s. Goes b c more s final) g.1 h in (still.0 ∙ g.0, still.1)
goes_on a b c pieces more Lost mid final g h =
    let still : Goes b c more Lost final = subst (λ s. Goes b c more s final) g.1 h in (still.0 ∙ g.0, still.1)
goes_on a b c pieces more Whole Whole final g h = then_whole a b c pieces more final g.0.0 g.0.1 g.2 h
goes_on a b c pieces more Whole Failed final g h =
    subst (λ s. Goes a c (pieces ++ more) Whole s) (sym h.1) (subst (λ x. Goes a x (pieces ++ more) Whole Failed) (sym h.0) (extended a b pieces more Failed g (λ same. cc)))
goes_on a b c pieces more Whole Lost final g h =
    subst (λ s. Goes a c (pieces ++ more) Whole s) (sym h.1) (subst (λ x. Goes a x (pieces ++ more) Whole Lost) (sym h.0) (extended a b pieces more Lost g (λ same. cc)))

-- ---- one write

-- The sink took all of a text.
pub goes_whole : (a b : WriteHalf) (text : List ℕ) (pieces : List (List ℕ)) → text ≡ joined pieces → b.held ≡ with_end a.held text → b.faults ≡ a.faults → b.shut ≡ a.shut → Goes a b pieces Whole Whole
goes_whole a b text pieces is held count shut = ((held ∙ ap (λ t. with_end a.held t) is, count), omega (arith, count), shut)

-- It failed after a front.
pub goes_failed : (a b : WriteHalf) (text : List ℕ) (pieces : List (List ℕ)) (sent : ℕ) → text ≡ joined pieces → sent < length text → b.held ≡ with_end a.held (take sent text)
    → Rose a.faults b.faults → a.faults ≤ b.faults → b.shut ≡ a.shut → Goes a b pieces Whole Failed
goes_failed a b text pieces sent is less held rose count shut = ((subst (λ (t : List ℕ). WroteLess a.held b.held t) is (sent, less, held), rose), count, shut)

-- There was no memory for a piece.
pub goes_lost : (half : WriteHalf) (piece : List ℕ) (more : List (List ℕ)) → Goes half half (piece ∷ more) Whole Lost
goes_lost half piece more = ((record { written = []; lost = piece; rest = more; pieces_are = refl; held_is = sym (with_end-nothing half.held) }, refl), omega arith, refl)

-- A text of one piece.
pub one_piece : {E : Type 0} (made : Result (List ℕ) E) (piece : List ℕ) → IfOk made (λ text. text ≡ piece) → IfOk made (λ text. text ≡ joined (piece ∷ []))
one_piece (Ok text) piece is = is ∙ sym (append-nil piece)
one_piece (Err fault) piece is = is

-- The text of the lines of some elements, at least one, goes out, or its first line is lost.
lines_go : {X E : Type 0} (a b : WriteHalf) (made : Result (List ℕ) E) (line : X → List ℕ) (xs : List X) (first final : SinkState) → 0 < length xs → IfOk made (λ text. text ≡ flat_map line xs)
    → ((piece : List ℕ) (more : List (List ℕ)) → IfOk made (λ text. text ≡ joined (piece ∷ more)) → Goes a b (piece ∷ more) first final) → Goes a b (map line xs) first final
lines_go a b made line [] first final some is goes = absurd (omega (arith, some))
lines_go a b (Ok text) line (x ∷ xs) first final some is goes = goes (line x) (map line xs) (is ∙ sym (joined_lines line (x ∷ xs)))
lines_go a b (Err fault) line (x ∷ xs) first final some is goes = goes (line x) (map line xs) is

-- The lines of the first elements, and then those of the rest.
pub lines_on : {X E : Type 0} (a b c : WriteHalf) (made : Result (List ℕ) E) (line : X → List ℕ) (front rest all : List X) (first mid final : SinkState)
    → all ≡ front ++ rest → 0 < length front → IfOk made (λ text. text ≡ flat_map line front)
    → ((piece : List ℕ) (more : List (List ℕ)) → IfOk made (λ text. text ≡ joined (piece ∷ more)) → Goes a b (piece ∷ more) first mid)
    → Goes b c (map line rest) mid final → Goes a c (map line all) first final
lines_on a b c made line front rest all first mid final is some ok goes more =
    subst (λ (t : List (List ℕ)). Goes a c t first final) (parted line front rest all is)
    (goes_on a b c (map line front) (map line rest) first mid final (lines_go a b made line front first mid some ok goes) more)

-- ---- what no piece changes

pub goes_shut : (a b : WriteHalf) (pieces : List (List ℕ)) (first final : SinkState) → Goes a b pieces first final → b.shut ≡ a.shut
goes_shut a b pieces Whole final g = g.2
goes_shut a b pieces Failed final g = ap (λ h. h.shut) g.0
goes_shut a b pieces Lost final g = ap (λ h. h.shut) g.0

pub goes_count : (a b : WriteHalf) (pieces : List (List ℕ)) (first final : SinkState) → Goes a b pieces first final → a.faults ≤ b.faults
goes_count a b pieces Whole final g = g.1
goes_count a b pieces Failed final g = let same = ap (λ h. h.faults) g.0 in omega (arith, same)
goes_count a b pieces Lost final g = let same = ap (λ h. h.faults) g.0 in omega (arith, same)
