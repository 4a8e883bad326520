-- The lines that a desk writes.
use Rattle.std.proofs.Common.{◌≡◌, ◌⊎◌, ℕ, List, [], ◌∷◌, ◌++◌, Option, None, Some, Result, refl, ap, sym, subst, ◌∙◌, inl, inr, arith}
use Rattle.std.specs.Prelude.{IfOk, IfSome, map}
use Rattle.std.specs.List.{AllByRecursion}
use Rattle.std.specs.List.Sorted.{IsPermutation}
use Rattle.std.proofs.lemmas.List.Elements.{All-from_recursion, Contains-append_left, Contains-append_right, recursion_from_All}
use Rattle.std.proofs.lemmas.List.Sorted.{All-permutation}
use Rattle.history.proofs.ListLemmas.{every-append}
use Rattle.std.proofs.lemmas.List.{map-append}
use Rattle.object_ids.specs.declared.ids.Uid.{Uid}
use Rattle.history.specs.declared.asks.Event.{Event}
use Rattle.journal.specs.Written.{event_line}
use Rattle.wire_io.specs.Wire.{WriteHalf, Gave}
use Rattle.space.specs.declared.asked.Asked.{Asked}
use Rattle.conn_server.specs.declared.link_task.LinkReport.{LinkReport}
use Rattle.rmi_words.specs.declared.host_words.Record.{Record}
use Rattle.rmi_words.specs.declared.host_words.Record.TheVariants.{Silent, Journal}
use Rattle.rmi_cli.specs.Desk.{AreTimed, IsOwnMoment, IsTimed, TakesStart, ended_link, recorded_lines, timed_line, told_lines}
use Rattle.rmi_cli.specs.LinkLine.{link_line}
use Rattle.rmi_cli.specs.Sinks.{Goes, joined}
use Rattle.rmi_cli.specs.declared.host_desk.LinkStart.{LinkStart}
use Rattle.rmi_cli.specs.declared.host_desk.TimedReport.{TimedReport}
use Rattle.rmi_cli.specs.declared.link_line.EndedLink.{EndedLink}
use Rattle.rmi_cli.specs.declared.sink_state.SinkState.{SinkState}
use Rattle.rmi_cli.proofs.Sinking.{goes_nothing, goes_on, one_piece, parted}

-- The line of one link more.
pub one_line_more : {I O T H : Type 0} (reports : List (TimedReport (LinkReport I O T H))) (t : TimedReport (LinkReport I O T H)) (link : EndedLink)
    → link ≡ ended_link t → told_lines reports ++ link_line link ∷ [] ≡ told_lines (reports ++ t ∷ [])
one_line_more reports t link is =
    ap (λ (l : EndedLink). told_lines reports ++ link_line l ∷ []) is ∙ sym (map-append timed_line reports (t ∷ []))

-- So the errors' sink has the lines of all links that have ended.
pub tells_more : {I O T H E : Type 0} (a b c : WriteHalf) (reports reports2 : List (TimedReport (LinkReport I O T H))) (t : TimedReport (LinkReport I O T H)) (link : EndedLink)
    (made : Result (List ℕ) E) (first mid final : SinkState) → reports2 ≡ reports ++ t ∷ [] → link ≡ ended_link t → IfOk made (λ line. line ≡ link_line link)
    → Goes a b (told_lines reports) first mid
    → ((piece : List ℕ) (more : List (List ℕ)) → IfOk made (λ text. text ≡ joined (piece ∷ more)) → Goes b c (piece ∷ more) mid final)
    → Goes a c (told_lines reports2) first final
tells_more a b c reports reports2 t link made first mid final more is line g writes =
    subst (λ (lines : List (List ℕ)). Goes a c lines first final) (one_line_more reports t link is ∙ ap told_lines (sym more))
    (goes_on a b c (told_lines reports) (link_line link ∷ []) first mid final g (writes (link_line link) [] (one_piece made (link_line link) line)))

-- The output has the lines of all events.
pub records_more : (a b c : WriteHalf) (recording : Record) (space : Uid) (events events2 part : List Event) (first mid final : SinkState) → recording ≡ Journal → events2 ≡ events ++ part
    → Goes a b (recorded_lines recording space events) first mid → Goes b c (map (event_line space) part) mid final → Goes a c (recorded_lines recording space events2) first final
records_more a b c Journal space events events2 part first mid final is more g h =
    subst (λ (lines : List (List ℕ)). Goes a c lines first final) (parted (event_line space) events part events2 more)
    (goes_on a b c (map (event_line space) events) (map (event_line space) part) first mid final g h)
records_more a b c Silent space events events2 part first mid final is more g h = absurd (cc)

-- Nothing is recorded.
pub records_none : (a b : WriteHalf) (recording : Record) (space : Uid) (events events2 : List Event) (first final : SinkState) → recording ≡ Silent
    → Goes a b (recorded_lines recording space events) first final → Goes a b (recorded_lines recording space events2) first final
records_none a b Silent space events events2 first final is g = g
records_none a b Journal space events events2 first final is g = absurd (cc)

-- ---- a desk as it was made, and as it is left

recorded_nothing : (recording : Record) (space : Uid) → recorded_lines recording space [] ≡ []
recorded_nothing Silent space = refl
recorded_nothing Journal space = refl

-- A desk that was given no event wrote nothing of any.
pub desk_starts : (a b : WriteHalf) (recording : Record) (space : Uid) (events : List Event) (first state : SinkState) → b ≡ a → events ≡ [] → state ≡ first → Goes a b (recorded_lines recording space events) first state
desk_starts a b recording space events first state is none same =
    let lines : recorded_lines recording space events ≡ [] = ap (recorded_lines recording space) none ∙ recorded_nothing recording space in
    subst (λ (h : WriteHalf). Goes a h (recorded_lines recording space events) first state) (sym is)
    (subst (λ (t : List (List ℕ)). Goes a a t first state) (sym lines) (subst (λ (s : SinkState). Goes a a [] first s) (sym same) (goes_nothing a first)))

pub desk_untold : {I O T H : Type 0} (a b : WriteHalf) (reports : List (TimedReport (LinkReport I O T H))) (first state : SinkState) → b ≡ a → reports ≡ [] → state ≡ first → Goes a b (told_lines reports) first state
desk_untold a b reports first state is none same =
    subst (λ (h : WriteHalf). Goes a h (told_lines reports) first state) (sym is)
    (subst (λ (t : List (List ℕ)). Goes a a t first state) (sym (ap told_lines none)) (subst (λ (s : SinkState). Goes a a [] first s) (sym same) (goes_nothing a first)))

-- What it wrote of events, by what is the same.
pub desk_wrote : (a a2 b b2 : WriteHalf) (recording recording2 : Record) (space space2 : Uid) (events events2 : List Event) (first first2 state state2 : SinkState)
    → a ≡ a2 → b ≡ b2 → recording ≡ recording2 → space ≡ space2 → events ≡ events2 → first ≡ first2 → state ≡ state2
    → Goes a b (recorded_lines recording space events) first state → Goes a2 b2 (recorded_lines recording2 space2 events2) first2 state2
desk_wrote a a2 b b2 recording recording2 space space2 events events2 first first2 state state2 is is2 is3 is4 is5 is6 is7 g =
    let lines : recorded_lines recording space events ≡ recorded_lines recording2 space2 events2 =
    ap (λ (r : Record). recorded_lines r space events) is3 ∙ ap (λ (u : Uid). recorded_lines recording2 u events) is4 ∙ ap (recorded_lines recording2 space2) is5 in
    subst (λ (s : SinkState). Goes a2 b2 (recorded_lines recording2 space2 events2) first2 s) is7
    (subst (λ (s : SinkState). Goes a2 b2 (recorded_lines recording2 space2 events2) s state) is6
    (subst (λ (t : List (List ℕ)). Goes a2 b2 t first state) lines
    (subst (λ (h : WriteHalf). Goes a2 h (recorded_lines recording space events) first state) is2
    (subst (λ (h : WriteHalf). Goes h b (recorded_lines recording space events) first state) is g))))

-- What it wrote of links, likewise.
pub desk_told : {I O T H : Type 0} (a a2 b b2 : WriteHalf) (reports reports2 : List (TimedReport (LinkReport I O T H))) (first first2 state state2 : SinkState)
    → a ≡ a2 → b ≡ b2 → reports ≡ reports2 → first ≡ first2 → state ≡ state2
    → Goes a b (told_lines reports) first state → Goes a2 b2 (told_lines reports2) first2 state2
desk_told a a2 b b2 reports reports2 first first2 state state2 is is2 is3 is4 is5 g =
    subst (λ (s : SinkState). Goes a2 b2 (told_lines reports2) first2 s) is5
    (subst (λ (s : SinkState). Goes a2 b2 (told_lines reports2) s state) is4
    (subst (λ (t : List (List ℕ)). Goes a2 b2 t first state) (ap told_lines is3)
    (subst (λ (h : WriteHalf). Goes a2 h (told_lines reports) first state) is2
    (subst (λ (h : WriteHalf). Goes h b (told_lines reports) first state) is g))))

-- ---- the time of each link

own_later : (ticks more : List Asked) (moment : ℕ) → IsOwnMoment ticks moment → IsOwnMoment (ticks ++ more) moment
own_later ticks more moment own = (own.0, Contains-append_left ticks more own.0 own.1, own.2)

known_later : (ticks more : List Asked) (moment : Option ℕ) → IfSome moment (IsOwnMoment ticks) → IfSome moment (IsOwnMoment (ticks ++ more))
known_later ticks more None own = tt
known_later ticks more (Some moment) own = own_later ticks more moment own

starts_later : (ticks more : List Asked) (starts : List LinkStart) → AllByRecursion (λ start. IsOwnMoment ticks start.moment) starts
    → AllByRecursion (λ start. IsOwnMoment (ticks ++ more) start.moment) starts
starts_later ticks more [] all = tt
starts_later ticks more (start ∷ starts) all = (own_later ticks more start.moment all.0, starts_later ticks more starts all.1)

shuffled : {X : Type 0} (P : X → Type 0) (xs ys : List X) → IsPermutation xs ys → AllByRecursion P xs → AllByRecursion P ys
shuffled P xs ys moved all = recursion_from_All P ys (All-permutation P xs ys moved (All-from_recursion P xs all))

taken_own : (starts starts2 : List LinkStart) (taken : Option ℕ) (ticks : List Asked) → TakesStart starts taken starts2 → AllByRecursion (λ s. IsOwnMoment ticks s.moment) starts
    → IfSome taken (IsOwnMoment ticks) × AllByRecursion (λ s. IsOwnMoment ticks s.moment) starts2
taken_own starts starts2 None ticks same all = (tt, subst (AllByRecursion (λ s. IsOwnMoment ticks s.moment)) (sym same) all)
taken_own starts starts2 (Some moment) ticks takes all =
    let moved = shuffled (λ s. IsOwnMoment ticks s.moment) starts (takes.0 ∷ starts2) takes.2 all in
    (subst (IsOwnMoment ticks) takes.1 moved.0, moved.1)

module _ {I O T H : Type 0} (given : T → Option (List ℕ)) where
  timed_later : (ticks more : List Asked) (reports : List (TimedReport (LinkReport I O T H))) → AllByRecursion (IsTimed given ticks) reports → AllByRecursion (IsTimed given (ticks ++ more)) reports
  timed_later ticks more [] all = tt
  timed_later ticks more (t ∷ reports) all =
      (record { begun = known_later ticks more t.begun all.0.begun; ended = all.0.ended }, timed_later ticks more reports all.1)

  -- A desk that was given nothing.
  pub times_start : (last : Option ℕ) (starts : List LinkStart) (ticks : List Asked) (reports : List (TimedReport (LinkReport I O T H))) → last ≡ None → starts ≡ [] → reports ≡ []
      → AreTimed given last starts ticks reports
  times_start last starts ticks reports is none none2 = record {
    last_is = subst (λ (m : Option ℕ). IfSome m (IsOwnMoment ticks)) (sym is) tt;
    starts_are = subst (AllByRecursion (λ start. IsOwnMoment ticks start.moment)) (sym none) tt;
    reports_are = subst (AllByRecursion (IsTimed given ticks)) (sym none2) tt;
  }

  -- The entry of one turn of the server's own more.
  pub times_tick : (last : Option ℕ) (starts : List LinkStart) (ticks ticks2 : List Asked) (entry : Asked) (reports : List (TimedReport (LinkReport I O T H))) → ticks2 ≡ ticks ++ entry ∷ []
      → AreTimed given last starts ticks reports → AreTimed given (Some entry.moment) starts ticks2 reports
  times_tick last starts ticks ticks2 entry reports more timed =
      subst (λ (e : List Asked). AreTimed given (Some entry.moment) starts e reports) (sym more) (
      record {
        last_is = (entry, Contains-append_right ticks (entry ∷ []) entry (0, omega arith, refl), refl);
        starts_are = starts_later ticks (entry ∷ []) starts timed.starts_are;
        reports_are = timed_later ticks (entry ∷ []) reports timed.reports_are;
      }
      )

  -- Room for further starts.
  pub times_same : (last : Option ℕ) (starts starts2 : List LinkStart) (ticks : List Asked) (reports : List (TimedReport (LinkReport I O T H))) → starts2 ≡ starts
      → AreTimed given last starts ticks reports → AreTimed given last starts2 ticks reports
  times_same last starts starts2 ticks reports same timed = subst (λ (s : List LinkStart). AreTimed given last s ticks reports) (sym same) timed

  -- One start more, at the moment of the last turn.
  pub times_begin : (last : Option ℕ) (starts starts2 : List LinkStart) (start : LinkStart) (ticks : List Asked) (reports : List (TimedReport (LinkReport I O T H)))
      → last ≡ Some start.moment → (starts2 ≡ starts ++ start ∷ []) ⊎ (starts2 ≡ starts) → AreTimed given last starts ticks reports → AreTimed given last starts2 ticks reports
  times_begin last starts starts2 start ticks reports is (inr same) timed = times_same last starts starts2 ticks reports same timed
  times_begin last starts starts2 start ticks reports is (inl more) timed =
      subst (λ (s : List LinkStart). AreTimed given last s ticks reports) (sym more) (
      record {
        last_is = timed.last_is;
        starts_are = every-append (λ s. IsOwnMoment ticks s.moment) starts (start ∷ []) timed.starts_are
            (subst (λ (m : Option ℕ). IfSome m (IsOwnMoment ticks)) is timed.last_is, tt);
        reports_are = timed.reports_are;
      }
      )

  -- One link more that has ended, whose start was taken.
  pub times_end : (last : Option ℕ) (starts starts2 : List LinkStart) (taken : Option ℕ) (ticks : List Asked) (reports reports2 : List (TimedReport (LinkReport I O T H)))
      (t : TimedReport (LinkReport I O T H)) (report : LinkReport I O T H) → TakesStart starts taken starts2 → reports2 ≡ reports ++ t ∷ [] → t.report.value ≡ report → t.begun ≡ taken
      → Gave (given report.clock) (given t.left.value.clock) (t.ended ∷ [])
      → AreTimed given last starts ticks reports → AreTimed given last starts2 ticks reports2
  times_end last starts starts2 taken ticks reports reports2 t report takes more same is gave timed =
      let own = taken_own starts starts2 taken ticks takes timed.starts_are in
      let one : IsTimed given ticks t = record {
        begun = subst (λ (m : Option ℕ). IfSome m (IsOwnMoment ticks)) (sym is) own.0;
        ended = subst (λ (r : LinkReport I O T H). Gave (given r.clock) (given t.left.value.clock) (t.ended ∷ [])) (sym same) gave;
      } in record {
        last_is = timed.last_is;
        starts_are = own.1;
        reports_are = subst (AllByRecursion (IsTimed given ticks)) (sym more) (every-append (IsTimed given ticks) reports (t ∷ []) timed.reports_are (one, tt));
      }
