-- Laws of lists of wants.
use Rattle.std.proofs.Common.{◌≡◌, ℕ, List, [], ◌∷◌, ◌++◌, Result, Ok, Err, refl, sym, ap, subst, ◌∙◌}
use Rattle.std.proofs.lemmas.List.{append_cancel_right}
use Rattle.class_desc.specs.declared.slot.Item.{Item}
use Rattle.ser_values.specs.declared.node.Node.{Node}
use Rattle.stream_grammar.specs.Spelled.{joined}
use Rattle.stream_grammar.specs.Faults.{AreBytes}
use Rattle.ser_read.specs.declared.serving.Want.{Want}
use Rattle.ser_read.specs.Wants.{WantFault, ◌▸◌, Stand, nothing_read, want_at, serve, serve_to_close}
use Rattle.ser_read.specs.SpelledWants.{SpellsWants}
use Rattle.ser_read.specs.WantLaws.{WantsAreSpelled, SpelledIsServed, SpelledIsOne, SpelledAreStreams, ServedOneAfterTheOther}
use Rattle.ser_read.proofs.Served.{given_is, are}
use Rattle.ser_read.proofs.SpelledWants.{AllOk, asked_sound}
use Rattle.ser_read.proofs.Given.{asked_stream, asked_complete}
use Rattle.ser_read.proofs.InOrder.{Serving, given_before}

asked_of : (end : ℕ) (ws : List Want) (answers : List Item) (nodes : List Node) (bytes rest : List ℕ) → AreBytes (bytes ++ rest) → serve_to_close end ws nothing_read (bytes ++ rest) ≡ Ok (answers, nodes, joined answers, rest) → SpellsWants ws answers nodes bytes
asked_of end ws answers nodes bytes rest all e =
    let s = asked_sound end ws (bytes ++ rest) (answers, nodes, joined answers, rest) e (are (bytes ++ rest) all) in
    subst (λ (l : List ℕ). SpellsWants ws answers nodes l) (append_cancel_right s.front bytes rest (sym s.is)) s.asked

pub wants_are_spelled : WantsAreSpelled
wants_are_spelled end ws answers nodes bytes rest all = (λ e. asked_of end ws answers nodes bytes rest all e, λ h. asked_complete end ws answers nodes bytes rest h)

pub spelled_is_served : SpelledIsServed
spelled_is_served end ws answers nodes bytes rest h = asked_complete end ws answers nodes bytes rest h

pub spelled_is_one : SpelledIsOne
spelled_is_one ws answers others nodes more one other after behind a b e =
    let x = asked_complete 0 ws answers nodes one after a in
    let y = asked_complete 0 ws others more other behind b in
    let same : (answers, nodes, joined answers, after) ≡ (others, more, joined others, behind) =
    given_is (answers, nodes, joined answers, after) (others, more, joined others, behind) (sym x ∙ ap (λ (l : List ℕ). serve_to_close 0 ws nothing_read l) e ∙ y) in
    let left : after ≡ behind = ap (λ (t : AllOk). t.3) same in
    (ap (λ (t : AllOk). t.0) same, ap (λ (t : AllOk). t.1) same, append_cancel_right one other after (e ∙ ap (λ (l : List ℕ). other ++ l) (sym left)))

pub spelled_are_streams : SpelledAreStreams
spelled_are_streams ws answers nodes bytes h = asked_stream ws answers nodes bytes h

-- ---- lists one after the other

abbrev pub served : Item → Serving → Serving
served i read = read ▸ λ xs. Ok (i ∷ xs.0, xs.1, xs.2)

abbrev both : (Stand → List ℕ → Serving) → Serving → Serving
both f read = read ▸ λ x. given_before x.0 (f x.1 x.2)

none_before : (r : Serving) → r ≡ given_before [] r
none_before (Ok x) = refl
none_before (Err f) = refl

served_before : (i : Item) (front : List Item) (r : Serving) → served i (given_before front r) ≡ given_before (i ∷ front) r
served_before i front (Ok x) = refl
served_before i front (Err f) = refl

served_both : (i : Item) (f : Stand → List ℕ → Serving) (r : Serving) → served i (both f r) ≡ both f (served i r)
served_both i f (Ok x) = served_before i x.0 (f x.1 x.2)
served_both i f (Err e) = refl

pub served_after : ServedOneAfterTheOther
unfolding serve
served_after end [] others s bs = none_before (serve end others s bs)
served_after end (w ∷ ws) others s bs = go (λ s bs. served_after end ws others s bs) (want_at end w s bs)
  where
    go : ((s : Stand) (bs : List ℕ) → serve end (ws ++ others) s bs ≡ both (serve end others) (serve end ws s bs)) → (r : Result (Item × Stand × List ℕ) WantFault)
        → ◌▸◌ {B = List Item × Stand × List ℕ} r (λ x. served x.0 (serve end (ws ++ others) x.1 x.2)) ≡ both (serve end others) (◌▸◌ {B = List Item × Stand × List ℕ} r (λ x. served x.0 (serve end ws x.1 x.2)))
    go rec (Err e) = refl
    go rec (Ok x) = ap (served x.0) (rec x.1 x.2) ∙ served_both x.0 (serve end others) (serve end ws x.1 x.2)
