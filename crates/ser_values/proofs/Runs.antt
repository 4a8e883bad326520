-- One step of a walk is one task.
use Rattle.std.proofs.Common.{◌≡◌, ℕ, zero, suc, ◌-◌, ◌<◌, Bool, true, false, cond, List, [], ◌∷◌, ◌++◌, length, Option, Some, None, Ok, slice_get, refl, sym, ap, ◌∙◌, arith}
use Rattle.std.proofs.lemmas.List.{reverse-append}
use Rattle.class_desc.specs.declared.slot.Slot.{Slot}
use Rattle.class_desc.specs.declared.slot.Slot.TheVariants as slots
use Rattle.ser_values.specs.declared.node.SlotPlace.{SlotPlace}
use Rattle.ser_values.specs.declared.walking.Task.{Task}
use Rattle.ser_values.specs.declared.walking.Task.TheVariants as tasks
use Rattle.ser_values.specs.declared.node.Node.{Node}
use Rattle.ser_values.specs.Node.{has, Want, before, after, is_desc, admits_null, takes, inside}
use Rattle.ser_values.specs.Walk.{Walk, tick, stop, ends, ◌>>=◌, all, leave, number, is_new, check, visit_item, visit_slot, nowhere, visit_at, Steps, end_of, steps_of, stacked, front, wanted, closing, run}
use Rattle.ser_values.proofs.Keeps.{front_push}

-- ---- walks one after the other

pub assoc : (w : Walk) (f g : List ℕ → Walk) → (w >>= f) >>= g ≡ (w >>= λ o. f o >>= g)
assoc stop f g = refl
assoc (ends o) f g = refl
assoc (tick w) f g = ap tick (assoc w f g)

pub same_then : (w : Walk) (f g : List ℕ → Walk) → ((o : List ℕ) → f o ≡ g o) → (w >>= f) ≡ (w >>= g)
same_then stop f g h = refl
same_then (ends o) f g h = h o
same_then (tick w) f g h = ap tick (same_then w f g h)

-- ---- wants

pub wants_run : (nodes : List Node) (d : ℕ) (ws : List Want) (ts : List Task) (unread order : List ℕ) → run nodes (wanted d ws ++ ts) unread order ≡ (all (visit_at nodes d unread) ws order >>= run nodes ts unread)
unfolding run all
wants_run nodes d [] ts unread order = refl
wants_run nodes d (w ∷ ws) ts unread order =
    same_then (visit_at nodes d unread w order) (run nodes (wanted d ws ++ ts) unread) (λ o. all (visit_at nodes d unread) ws o >>= run nodes ts unread) (λ o. wants_run nodes d ws ts unread o)
    ∙ sym (assoc (visit_at nodes d unread w order) (all (visit_at nodes d unread) ws) (run nodes ts unread))

-- ---- each task

abbrev inside_if : List ℕ → ℕ → Bool → List ℕ
inside_if unread j b = cond b (unread ++ j ∷ []) unread

leaves : (nodes : List Node) (ts : List Task) (unread : List ℕ) (j : ℕ) (b : Bool) (o : List ℕ) → run nodes (closing b ts) (inside_if unread j b) o ≡ (leave b o >>= run nodes ts unread)
unfolding run
leaves nodes ts unread j false o = refl
leaves nodes ts unread j true o = let e = front_push unread j in rw e refl

pub number_run : (nodes : List Node) (d j : ℕ) (i : Node) (ts : List Task) (unread order : List ℕ) → slice_get nodes j ≡ Some i → has order j ≡ false
    → run nodes (tasks.Number j d ∷ ts) unread order ≡ tick (run nodes (wanted d (after i) ++ closing (is_desc i) ts) (inside unread j i) (order ++ j ∷ []))
unfolding run
number_run nodes d j i ts unread order is unseen =
    let inner = all (visit_at nodes d (inside unread j i)) (after i) (order ++ j ∷ []) in
    let opened : number nodes (visit_at nodes d) unread j order ≡ tick (inner >>= leave (is_desc i)) = rw (is, unseen) refl in
    let tail : ((inner >>= leave (is_desc i)) >>= run nodes ts unread) ≡ run nodes (wanted d (after i) ++ closing (is_desc i) ts) (inside unread j i) (order ++ j ∷ []) =
    assoc inner (leave (is_desc i)) (run nodes ts unread)
    ∙ same_then inner (λ o. leave (is_desc i) o >>= run nodes ts unread) (run nodes (closing (is_desc i) ts) (inside unread j i)) (λ o. sym (leaves nodes ts unread j (is_desc i) o))
    ∙ sym (wants_run nodes d (after i) (closing (is_desc i) ts) (inside unread j i) (order ++ j ∷ [])) in
    ap (λ w. w >>= run nodes ts unread) opened ∙ ap tick tail

pub visit_is : (nodes : List Node) (left : ℕ) (unread : List ℕ) (w : Want) (order : List ℕ) → visit_at nodes left unread w order ≡ visit_slot nodes left (visit_at nodes (left - 1)) unread w.0 w.1 order
unfolding visit_at
visit_is nodes (suc d) unread w order = let e : suc d - 1 ≡ d = omega arith in rw e refl
visit_is nodes zero unread (place, slots.Null) order = refl
visit_is nodes zero unread (place, slots.Node j) order = go (slice_get nodes j)
  where
    go : (o : Option Node) → visit_item nodes 0 nowhere unread place j order o ≡ visit_item nodes 0 (visit_at nodes (0 - 1)) unread place j order o
    go None = refl
    go (Some i) = refl

pub fresh_run : (nodes : List Node) (left j : ℕ) (place : SlotPlace) (i : Node) (ts : List Task) (unread order : List ℕ) → slice_get nodes j ≡ Some i → has order j ≡ false → is_new nodes left place i ≡ true
    → run nodes (tasks.Visit place (slots.Node j) left ∷ ts) unread order ≡ tick (run nodes (wanted (left - 1) (before i) ++ tasks.Number j (left - 1) ∷ ts) unread order)
unfolding run
fresh_run nodes left j place i ts unread order is unseen new =
    let inner = all (visit_at nodes (left - 1) unread) (before i) order in
    let next = number nodes (visit_at nodes (left - 1)) unread j in
    let opened : visit_at nodes left unread (place, slots.Node j) order ≡ tick (inner >>= next) = visit_is nodes left unread (place, slots.Node j) order ∙ rw is (rw (unseen, new) refl) in
    let tail : ((inner >>= next) >>= run nodes ts unread) ≡ run nodes (wanted (left - 1) (before i) ++ tasks.Number j (left - 1) ∷ ts) unread order =
    assoc inner next (run nodes ts unread) ∙ sym (wants_run nodes (left - 1) (before i) (tasks.Number j (left - 1) ∷ ts) unread order) in
    ap (λ w. w >>= run nodes ts unread) opened ∙ ap tick tail

checked : (nodes : List Node) (ts : List Task) (unread : List ℕ) (b : Bool) (o : List ℕ) (w : Walk) → w ≡ check b o → (w >>= run nodes ts unread) ≡ (check b o >>= run nodes ts unread)
checked nodes ts unread b o w e = ap (λ w. w >>= run nodes ts unread) e

pub null_run : (nodes : List Node) (left : ℕ) (place : SlotPlace) (ts : List Task) (unread order : List ℕ) → run nodes (tasks.Visit place slots.Null left ∷ ts) unread order ≡ (check (admits_null place) order >>= run nodes ts unread)
unfolding run
null_run nodes left place ts unread order = checked nodes ts unread _ _ _ (visit_is nodes left unread (place, slots.Null) order)

pub again_run : (nodes : List Node) (left j : ℕ) (place : SlotPlace) (i : Node) (ts : List Task) (unread order : List ℕ) → slice_get nodes j ≡ Some i → has order j ≡ true
    → run nodes (tasks.Visit place (slots.Node j) left ∷ ts) unread order ≡ (check (takes place (has unread j) i) order >>= run nodes ts unread)
unfolding run
again_run nodes left j place i ts unread order is seen = checked nodes ts unread _ _ _ (visit_is nodes left unread (place, slots.Node j) order ∙ rw is (rw seen refl))

pub none_run : (nodes : List Node) (left j : ℕ) (place : SlotPlace) (ts : List Task) (unread order : List ℕ) → slice_get nodes j ≡ None → run nodes (tasks.Visit place (slots.Node j) left ∷ ts) unread order ≡ stop
unfolding run
none_run nodes left j place ts unread order is =
    let e : visit_at nodes left unread (place, slots.Node j) order ≡ stop = visit_is nodes left unread (place, slots.Node j) order ∙ rw is refl in
    ap (λ w. w >>= run nodes ts unread) e

pub old_run : (nodes : List Node) (left j : ℕ) (place : SlotPlace) (i : Node) (ts : List Task) (unread order : List ℕ) → slice_get nodes j ≡ Some i → has order j ≡ false → is_new nodes left place i ≡ false
    → run nodes (tasks.Visit place (slots.Node j) left ∷ ts) unread order ≡ stop
unfolding run
old_run nodes left j place i ts unread order is unseen old =
    let e : visit_at nodes left unread (place, slots.Node j) order ≡ stop = visit_is nodes left unread (place, slots.Node j) order ∙ rw is (rw (unseen, old) refl) in
    ap (λ w. w >>= run nodes ts unread) e

pub twice_run : (nodes : List Node) (d j : ℕ) (i : Node) (ts : List Task) (unread order : List ℕ) → slice_get nodes j ≡ Some i → has order j ≡ true → run nodes (tasks.Number j d ∷ ts) unread order ≡ stop
unfolding run
twice_run nodes d j i ts unread order is seen = rw is (rw seen refl)

pub missing_run : (nodes : List Node) (d j : ℕ) (ts : List Task) (unread order : List ℕ) → slice_get nodes j ≡ None → run nodes (tasks.Number j d ∷ ts) unread order ≡ stop
unfolding run
missing_run nodes d j ts unread order is = rw is refl

-- ---- the same, as a step says it

takes_step : (b : Bool) (order : List ℕ) (f : List ℕ → Walk) → Steps (Ok b) (check b order >>= f) (f order)
takes_step true order f = refl
takes_step false order f = refl

pub again_step : (nodes : List Node) (left j : ℕ) (place : SlotPlace) (i : Node) (ts : List Task) (unread order : List ℕ) (b : Bool) → slice_get nodes j ≡ Some i → has order j ≡ true → b ≡ takes place (has unread j) i
    → Steps (Ok b) (run nodes (tasks.Visit place (slots.Node j) left ∷ ts) unread order) (run nodes ts unread order)
again_step nodes left j place i ts unread order b is seen e =
    rw (again_run nodes left j place i ts unread order is seen) (rw e (takes_step (takes place (has unread j) i) order (run nodes ts unread)))

pub null_step : (nodes : List Node) (left : ℕ) (place : SlotPlace) (ts : List Task) (unread order : List ℕ) (b : Bool) → b ≡ admits_null place
    → Steps (Ok b) (run nodes (tasks.Visit place slots.Null left ∷ ts) unread order) (run nodes ts unread order)
null_step nodes left place ts unread order b e =
    rw (null_run nodes left place ts unread order) (rw e (takes_step (admits_null place) order (run nodes ts unread)))

pub close_run : (nodes : List Node) (ts : List Task) (unread order : List ℕ) → run nodes (tasks.Close ∷ ts) unread order ≡ tick (run nodes ts (front unread) order)
unfolding run
close_run nodes ts unread order = refl

pub stacked_push : (ts : List Task) (t : Task) → stacked (ts ++ t ∷ []) ≡ t ∷ stacked ts
stacked_push ts t = reverse-append ts (t ∷ [])

pub run_one : (nodes : List Node) (left : ℕ) (place : SlotPlace) (slot : Slot) (order : List ℕ) → end_of (run nodes (tasks.Visit place slot left ∷ []) [] order) ≡ end_of (visit_at nodes left [] (place, slot) order)
unfolding run end_of
run_one nodes left place slot order = then_end (visit_at nodes left [] (place, slot) order)
  where
    then_end : (w : Walk) → end_of (w >>= λ o. ends o) ≡ end_of w
    then_end stop = refl
    then_end (ends o) = refl
    then_end (tick w) = then_end w

pub end_tick : (whole rest : Walk) → whole ≡ tick rest → end_of whole ≡ end_of rest
unfolding end_of
end_tick whole rest e = rw e refl

pub end_stop : (whole : Walk) → whole ≡ stop → end_of whole ≡ None
unfolding end_of
end_stop whole e = rw e refl

pub steps_tick : (whole rest : Walk) → whole ≡ tick rest → steps_of rest < steps_of whole
unfolding steps_of
steps_tick whole rest e = rw e (omega arith)

pub run_none : (nodes : List Node) (unread order : List ℕ) → end_of (run nodes [] unread order) ≡ Some order
unfolding run end_of
run_none nodes unread order = refl

pub nil_of : (ts : List Task) → length ts ≡ 0 → ts ≡ []
nil_of [] e = refl
nil_of (t ∷ ts) e = absurd (omega arith)

pub run_all : (nodes : List Node) (left : ℕ) (ws : List Want) (order : List ℕ) → end_of (run nodes (wanted left ws ++ []) [] order) ≡ end_of (all (visit_at nodes left []) ws order)
unfolding run end_of
run_all nodes left ws order = ap end_of (wants_run nodes left ws [] [] order) ∙ then_end (all (visit_at nodes left []) ws order)
  where
    then_end : (w : Walk) → end_of (w >>= λ o. ends o) ≡ end_of w
    then_end stop = refl
    then_end (ends o) = refl
    then_end (tick w) = then_end w
