-- Returns, from what was read of them.
use Rattle.wire_io.specs.Wire.{ReadHalf}
use Rattle.std.proofs.Common.{◌≡◌, ◌≢◌, ℕ, ◌+◌, ◌-◌, ◌<◌, ◌≤◌, Bool, true, false, eqb, cond, List, [], ◌∷◌, ◌++◌, length, get_or, Option, Some, None, Result, Ok, Err, IfOk, refl, sym, ap, subst, ◌∙◌, arith}
use Rattle.std.specs.Prelude.{IfErr}
use Rattle.std.proofs.lemmas.Bool.{eqb-true}
use Rattle.wire_io.specs.Pulled.{PullState, pull_state}
use Rattle.wire_io.specs.declared.pull.Pull.{Pull}
use Rattle.object_ids.specs.declared.ids.Uid.{Uid}
use Rattle.object_ids.specs.Bytes.{bytes_of_uid}
use Rattle.class_desc.specs.declared.field.TypeCode.{TypeCode}
use Rattle.class_desc.specs.declared.slot.Item.{Item}
use Rattle.class_desc.specs.declared.slot.Item.TheVariants as items
use Rattle.ser_values.specs.declared.node.Node.{Node}
use Rattle.ser_values.specs.Fronts.{put_block, without_front}
use Rattle.ser_values.proofs.FrontLaws.{front_undone, put_both}
use Rattle.ser_values.proofs.Lists.{some_same}
use Rattle.stream_grammar.specs.Spelled.{joined}
use Rattle.stream_grammar.specs.Reading.{short, magic_at}
use Rattle.stream_grammar.proofs.Spelling.{joined_joined}
use Rattle.ser_read.specs.declared.fault.StreamFault.{StreamFault}
use Rattle.ser_read.specs.declared.serving.Want.{Want}
use Rattle.ser_read.specs.declared.serving.Want.TheVariants as wanted
use Rattle.ser_read.specs.Here.{Reads}
use Rattle.ser_read.specs.Wants.{WantFault, inside, ◌▸◌, Stand, bytes_at, serve, serve_to_close, want_at, WantBreaks}
use Rattle.ser_read.proofs.Steps.{leads_read, done, said, reads_two, reads_gives}
use Rattle.ser_read.proofs.Breaking.{want_first, want_later, want_breaks_as, want_breaks_two, want_breaks_fails, want_breaks_caused}
use Rattle.jrmp_frames.specs.declared.arguments.Arg.{Arg}
use Rattle.jrmp_frames.specs.declared.arguments.Arg.TheVariants as arguments
use Rattle.jrmp_frames.specs.declared.message.Body.{Body}
use Rattle.jrmp_frames.specs.declared.message.Body.TheVariants.{Void, Prim, Tree}
use Rattle.jrmp_frames.specs.declared.fault.FrameFault.{FrameFault}
use Rattle.jrmp_frames.specs.declared.fault.FrameFault.TheVariants.{BadHeader, UnknownProtocol, BadMessage, BadKind, Stream}
use Rattle.jrmp_frames.specs.Messages.{want_of, arg_of}
use Rattle.jrmp_frames.specs.Calls.{CausedIn}
use Rattle.jrmp_frames.specs.Returns.{carried_type, wants_carried, Carries, kind_of_byte, ReturnRead, no_kind, of_kind, kind_at, contents_at, by_kind, behind_kind, first_byte, return_at, ReadsReturn, BreaksReturn, GivesReturn, IsArgument, IsBodyOf, ReadsCarried, ReadsContents}
use Rattle.jrmp_frames.proofs.Heads.{front_is}
use Rattle.ser_read.proofs.InOrder.{Whole, Serving}
use Rattle.jrmp_frames.proofs.Calls.{headed, closed, regroup, served_whole}

-- ---- the kind

pub one_byte : (b : List ℕ) (d : ℕ) → length b ≡ 1 → get_or b 0 d ∷ [] ≡ b
one_byte [] d e = absurd (omega arith)
one_byte (x ∷ []) d e = refl
one_byte (x ∷ y ∷ b) d e = absurd (omega arith)

no_kind_of_nothing : (end : ℕ) (y : List ℕ × Stand × List ℕ) → kind_at end [] ≡ Ok y → ⊥
unfolding kind_at magic_at
no_kind_of_nothing end y e = cc

taken_moves : (p q : PullState) (taken : List ℕ) (y : List ℕ × Stand × List ℕ) → q.at ≡ p.at + length taken → kind_at (q.at + 0) (taken ++ []) ≡ Ok y → p.at < q.at
taken_moves p q [] y e h = absurd (no_kind_of_nothing (q.at + 0) y h)
taken_moves p q (b ∷ taken) y e h = omega (arith, e)

-- Whoever has read a kind has taken bytes.
pub kind_moves : {p q : PullState} {out : List ℕ → List ℕ × Stand × List ℕ} → Reads (inside short) p q kind_at out → p.at < q.at
kind_moves {p} {q} {out} r = taken_moves p q r.taken (out []) r.takes.at (r.is [])

-- It is one byte, and nothing else was read then.
pub kind_read : {p q : PullState} (b : List ℕ) (s : Stand) → Reads (inside short) p q kind_at (λ rest. (b, s, rest)) → (length b ≡ 1) × (s.items ≡ items.Bytes (get_or b 0 0 ∷ []) ∷ [])
unfolding kind_at
kind_read {p} {q} b s r =
    let f = front_is 1 _ _ b [] s (r.is []) in
    (f.0, f.1 ∙ ap (λ (l : List ℕ). put_block l []) (sym (one_byte b 0 f.0)))

pub byte_read : {p q : PullState} (b : List ℕ) (d : ℕ) (s : Stand) → Reads (inside short) p q kind_at (λ rest. (b, s, rest)) → Reads (inside short) p q kind_at (λ rest. (get_or b 0 d ∷ [], s, rest))
byte_read {p} {q} b d s r = subst (λ (l : List ℕ). Reads (inside short) p q kind_at (λ rest. (l, s, rest))) (sym (one_byte b d (kind_read b s r).0)) r

pub kind_known : (byte : ℕ) (normal : Bool) → kind_of_byte byte ≡ Some normal → byte ≡ cond normal 1 2
kind_known byte normal e = go (eqb byte 1) refl (eqb byte 2) refl e
  where
    go : (a : Bool) → eqb byte 1 ≡ a → (b : Bool) → eqb byte 2 ≡ b → cond a (Some true) (cond b (Some false) None) ≡ Some normal → byte ≡ cond normal 1 2
    go true x b y e = let n : true ≡ normal = cc in subst (λ (m : Bool). byte ≡ cond m 1 2) n (eqb-true byte 1 x)
    go false x true y e = let n : false ≡ normal = cc in subst (λ (m : Bool). byte ≡ cond m 1 2) n (eqb-true byte 2 y)
    go false x false y e = absurd cc

pub kind_other : (byte : ℕ) → kind_of_byte byte ≡ None → (byte ≢ 1) × (byte ≢ 2)
kind_other byte e = (
  λ same. let one : kind_of_byte 1 ≡ None = subst (λ (b : ℕ). kind_of_byte b ≡ None) same e in cc,
  λ same. let two : kind_of_byte 2 ≡ None = subst (λ (b : ℕ). kind_of_byte b ≡ None) same e in cc,
)

-- ---- what is carried

pub nothing_carried : (p : PullState) (s : Stand) → ReadsCarried p p s s None None
unfolding serve
nothing_carried p s = record { answers = []; reads = done (λ end bs. refl); is = tt }

pub one_carried : {p q : PullState} (s later : Stand) (code : TypeCode) (answer : Item) (arg : Arg) → Reads (inside short) p q (λ end. want_at end (want_of code) s) (λ rest. (answer, later, rest)) → arg ≡ arg_of code answer
    → ReadsCarried p q s later (Some code) (Some arg)
unfolding serve
one_carried s later code answer arg r is = record {
  answers = answer ∷ [];
  reads = reads_two {next = λ end bs. Ok (answer ∷ [], later, bs)} r (done (λ end bs. refl)) (λ end bs rest is. rw is refl) (λ end bs is. rw is refl);
  is = is;
}

pub one_breaks : {p q : PullState} {e : StreamFault} (s : Stand) (code : TypeCode) → WantBreaks p q e (λ end. want_at end (want_of code) s) → WantBreaks p q e (λ end. serve end (wants_carried (Some code)) s)
unfolding serve
one_breaks s code h = want_breaks_as (λ end bs f here is. rw is refl) h

pub body_carried : (code : Option TypeCode) (answers : List Item) (nodes : List Node) (rest : Option (List Item)) (arg : Option Arg) (body : Body) → IsArgument code answers arg → rest ≡ Some (joined answers) → IsBodyOf arg nodes rest body → Carries code answers nodes body
body_carried None [] nodes rest None Void i e h = tt
body_carried None [] nodes rest None (Prim v) i e h = absurd h
body_carried None [] nodes rest None (Tree g) i e h = absurd h
body_carried None [] nodes rest (Some arg) body i e h = absurd i
body_carried None (x ∷ xs) nodes rest arg body i e h = absurd i
body_carried (Some code) [] nodes rest arg body i e h = absurd i
body_carried (Some code) (x ∷ y ∷ xs) nodes rest arg body i e h = absurd i
body_carried (Some code) (x ∷ []) nodes rest None body i e h = absurd i
body_carried (Some code) (items.Bytes b ∷ []) nodes rest (Some (arguments.Prim v)) (Prim w) i e h = h ∙ cc
body_carried (Some code) (items.Bytes b ∷ []) nodes rest (Some (arguments.Prim v)) Void i e h = absurd h
body_carried (Some code) (items.Bytes b ∷ []) nodes rest (Some (arguments.Prim v)) (Tree g) i e h = absurd h
body_carried (Some code) (items.Bytes b ∷ []) nodes rest (Some (arguments.Ref s)) body i e h = absurd cc
body_carried (Some code) (items.Ref s ∷ []) nodes rest (Some (arguments.Prim v)) body i e h = absurd cc
body_carried (Some code) (items.Ref s ∷ []) nodes rest (Some (arguments.Ref t)) (Tree g) i e h = (h.0, some_same g.items (items.Ref s ∷ []) (sym h.1 ∙ e))
body_carried (Some code) (items.Ref s ∷ []) nodes rest (Some (arguments.Ref t)) Void i e h = absurd h
body_carried (Some code) (items.Ref s ∷ []) nodes rest (Some (arguments.Ref t)) (Prim w) i e h = absurd h

-- ---- bytes, and then other wants up to the end

abbrev Front : Type 0
Front = Result (List ℕ × Stand × List ℕ) WantFault

abbrev answered : Front → Result (Item × Stand × List ℕ) WantFault
answered r = r ▸ λ x. Ok (items.Bytes x.0, x.1, x.2)

abbrev then_served : ℕ → List Want → Result (Item × Stand × List ℕ) WantFault → Serving
then_served end ws r = r ▸ λ x. serve end ws x.1 x.2 ▸ λ xs. Ok (x.0 ∷ xs.0, xs.1, xs.2)

abbrev then_closed : ℕ → List Want → Front → Result Whole WantFault
then_closed end ws r = r ▸ λ x. headed x.0 (closed end (serve end ws x.1 x.2))

pub split_contents : (end n : ℕ) (ws : List Want) (s : Stand) (bs : List ℕ) → serve_to_close end (wanted.Bytes n ∷ ws) s bs ≡ (bytes_at end n s bs ▸ λ x. headed x.0 (serve_to_close end ws x.1 x.2))
unfolding serve_to_close serve want_at
split_contents end n ws s bs = go (bytes_at end n s bs)
  where
    go : (r : Front) → closed end (then_served end ws (answered r)) ≡ then_closed end ws r
    go (Err f) = refl
    go (Ok x) = regroup end x.0 (serve end ws x.1 x.2)

pub contents_read : {p q r : PullState} (n : ℕ) (ws : List Want) (s later : Stand) (b : List ℕ) (answers : List Item) (nodes : List Node) (whole : List Item) → Reads (inside short) p q (λ end. bytes_at end n s) (λ rest. (b, later, rest))
    → Reads (inside short) q r (λ end. serve_to_close end ws later) (λ rest. (answers, nodes, whole, rest)) → Reads (inside short) p r (λ end. serve_to_close end (wanted.Bytes n ∷ ws) s) (λ rest. (items.Bytes b ∷ answers, nodes, whole, rest))
contents_read {p} {q} {r} n ws s later b answers nodes whole one two =
    let both : Reads (inside short) q r (λ end bs. headed b (serve_to_close end ws later bs)) (λ rest. (items.Bytes b ∷ answers, nodes, whole, rest)) =
    reads_two {next = λ end bs. Ok (items.Bytes b ∷ answers, nodes, whole, bs)} two (done (λ end bs. refl)) (λ end bs rest is. rw is refl) (λ end bs is. rw is refl) in
    reads_two one both (λ end bs rest is. split_contents end n ws s bs ∙ rw is refl) (λ end bs is. split_contents end n ws s bs ∙ rw is refl)

pub contents_first : {p q : PullState} {e : StreamFault} (n : ℕ) (ws : List Want) (s : Stand) → WantBreaks p q e (λ end. bytes_at end n s) → WantBreaks p q e (λ end. serve_to_close end (wanted.Bytes n ∷ ws) s)
contents_first n ws s h = want_breaks_as (λ end bs f here is. split_contents end n ws s bs ∙ rw is refl) h

pub contents_later : {p q r : PullState} {e : StreamFault} (n : ℕ) (ws : List Want) (s later : Stand) (b : List ℕ) → Reads (inside short) p q (λ end. bytes_at end n s) (λ rest. (b, later, rest))
    → WantBreaks q r e (λ end. serve_to_close end ws later) → WantBreaks p r e (λ end. serve_to_close end (wanted.Bytes n ∷ ws) s)
contents_later {p} {q} {r} {e} n ws s later b one two =
    want_breaks_two (leads_read (λ end bs. headed b (serve_to_close end ws later bs)) one (λ end bs rest here is. split_contents end n ws s bs ∙ rw is refl) (λ end bs here is. split_contents end n ws s bs ∙ rw is refl))
    (want_first (λ end y. Ok (items.Bytes b ∷ y.0, y.1, y.2, y.3)) two)

-- What stands behind the kind and the identifier is what the other wants gave.
pub carried_left : {p q : PullState} (ws : List Want) (s : Stand) (k : ℕ) (b : List ℕ) (answers : List Item) (nodes : List Node) (whole : List Item) → s.items ≡ items.Bytes (k ∷ []) ∷ []
    → Reads (inside short) p q (λ end. serve_to_close end (wanted.Bytes 14 ∷ ws) s) (λ rest. (items.Bytes b ∷ answers, nodes, whole, rest)) → without_front 15 whole ≡ Some (joined answers)
carried_left ws s k b answers nodes whole stood r =
    let (fits, all) = served_whole _ (wanted.Bytes 14 ∷ ws) s _ (items.Bytes (k ∷ []) ∷ []) (items.Bytes b ∷ answers, nodes, whole, []) (r.is []) stood in
    let long : length (k ∷ b) ≡ 15 = omega (arith, fits.0) in
    ap (without_front 15) (all ∙ sym (put_both (k ∷ []) b (joined answers))) ∙ ap (λ n. without_front n (put_block (k ∷ b) (joined answers))) (sym long) ∙ front_undone (k ∷ b) (joined answers) (joined_joined answers)

-- ---- a kind, and then what follows it

abbrev pair_read : ReturnRead × List ℕ → Result (ReturnRead × List ℕ) WantFault
pair_read x = Ok x

behind_is : (result_type : Option TypeCode) (byte : ℕ) (o : Option Bool) (end : ℕ) (s : Stand) (bs : List ℕ) → kind_of_byte byte ≡ o → behind_kind result_type byte end s bs ≡ by_kind result_type byte o end s bs
behind_is result_type byte o end s bs same = ap (λ (k : Option Bool). by_kind result_type byte k end s bs) same

other_byte : (byte at n : ℕ) (bs : List ℕ) → n ≡ at → pair_read (no_kind byte n, bs) ≡ pair_read (no_kind byte at, bs)
other_byte byte at n bs same = ap (λ (k : ℕ). pair_read (no_kind byte k, bs)) same

pub behind_other : (p : PullState) (result_type : Option TypeCode) (byte at : ℕ) (s : Stand) → kind_of_byte byte ≡ None → at + 1 ≡ p.at → BreaksReturn p p (BadKind byte at) (λ end. behind_kind result_type byte end s)
behind_other p result_type byte at s other here =
    let unlike = kind_other byte other in (
      unlike.0,
      unlike.1,
      sym here,
      said {a = λ end bs. Ok (no_kind byte at, bs)} (λ end bs ends. behind_is result_type byte None end s bs other ∙ other_byte byte at (end - length bs - 1) bs (omega (arith, ends, here))) (done (λ end bs. refl)),
    )

pub behind_read : {p q : PullState} (result_type : Option TypeCode) (byte : ℕ) (normal : Bool) (s : Stand) (uid : Uid) (body : Body) → kind_of_byte byte ≡ Some normal → ReadsContents p q s (carried_type result_type normal) uid body
    → ReadsReturn p q (λ end. behind_kind result_type byte end s) result_type normal uid body
behind_read {p} {q} result_type byte normal s uid body known c = record {
  answers = c.answers;
  nodes = c.nodes;
  whole = c.whole;
  reads = reads_two {next = λ end bs. Ok (of_kind normal (items.Bytes (bytes_of_uid uid) ∷ c.answers) c.nodes c.whole, bs)} c.reads (done (λ end bs. refl)) (λ end bs rest is. behind_is result_type byte (Some normal) end s bs known ∙ rw is refl) (λ end bs is. behind_is result_type byte (Some normal) end s bs known ∙ rw is refl);
  carries = c.carries;
}

pub behind_breaks : {p q : PullState} {e : StreamFault} (result_type : Option TypeCode) (byte : ℕ) (normal : Bool) (s : Stand) → kind_of_byte byte ≡ Some normal → WantBreaks p q e (λ end. contents_at (carried_type result_type normal) end s)
    → WantBreaks p q e (λ end. behind_kind result_type byte end s)
behind_breaks result_type byte normal s known h = want_breaks_as (λ end bs f here is. behind_is result_type byte (Some normal) end s bs known ∙ rw is refl) h

pub return_reads : {o p q : PullState} (result_type : Option TypeCode) (byte : ℕ) (s : Stand) {out : List ℕ → ReturnRead × List ℕ} → Reads (inside short) o p kind_at (λ rest. (byte ∷ [], s, rest))
    → Reads (inside short) p q (λ end. behind_kind result_type byte end s) out → Reads (inside short) o q (return_at result_type) out
unfolding return_at
return_reads result_type byte s a b = reads_two a b (λ end bs rest is. rw is refl) (λ end bs is. rw is refl)

pub return_first : {o p : PullState} {e : StreamFault} (result_type : Option TypeCode) → WantBreaks o p e kind_at → WantBreaks o p e (return_at result_type)
unfolding return_at
return_first result_type h = want_first (λ end k. behind_kind result_type (first_byte k.0) end k.1 k.2) h

return_later : {o p q : PullState} {e : StreamFault} (result_type : Option TypeCode) (byte : ℕ) (s : Stand) → Reads (inside short) o p kind_at (λ rest. (byte ∷ [], s, rest))
    → WantBreaks p q e (λ end. behind_kind result_type byte end s) → WantBreaks o q e (return_at result_type)
unfolding return_at
return_later result_type byte s a b = want_later (λ end k. behind_kind result_type (first_byte k.0) end k.1 k.2) a b

return_breaks : {o p : PullState} (q : PullState) (result_type : Option TypeCode) (byte : ℕ) (s : Stand) (fault : FrameFault) → Reads (inside short) o p kind_at (λ rest. (byte ∷ [], s, rest))
    → BreaksReturn p q fault (λ end. behind_kind result_type byte end s) → BreaksReturn o q fault (return_at result_type)
return_breaks q result_type byte s (BadHeader at) a b = absurd b
return_breaks q result_type byte s (UnknownProtocol c) a b = absurd b
return_breaks q result_type byte s (BadMessage c at) a b = absurd b
return_breaks q result_type byte s (BadKind c at) a b = (b.0, b.1, b.2, return_reads result_type byte s a b.3)
return_breaks q result_type byte s (Stream fault) a b = return_later result_type byte s a b

-- ---- what a call answers

abbrev pub Answered : Type 0
Answered = Result (Bool × Uid × Body) FrameFault

pub reads_of : {o p : PullState} (q : PullState) (result_type : Option TypeCode) (byte : ℕ) (s : Stand) (result : Answered) → Reads (inside short) o p kind_at (λ rest. (byte ∷ [], s, rest))
    → IfOk result (λ x. ReadsReturn p q (λ end. behind_kind result_type byte end s) result_type x.0 x.1 x.2) → IfOk result (λ x. ReadsReturn o q (return_at result_type) result_type x.0 x.1 x.2)
reads_of q result_type byte s (Ok x) a b = record { answers = b.answers; nodes = b.nodes; whole = b.whole; reads = return_reads result_type byte s a b.reads; carries = b.carries }
reads_of q result_type byte s (Err fault) a b = tt

pub breaks_of : {o p : PullState} (q : PullState) (result_type : Option TypeCode) (byte : ℕ) (s : Stand) (result : Answered) → Reads (inside short) o p kind_at (λ rest. (byte ∷ [], s, rest))
    → IfErr result (λ fault. BreaksReturn p q fault (λ end. behind_kind result_type byte end s)) → IfErr result (λ fault. BreaksReturn o q fault (return_at result_type))
breaks_of q result_type byte s (Ok x) a b = tt
breaks_of q result_type byte s (Err fault) a b = return_breaks q result_type byte s fault a b

pub caused_of : (o q : PullState) (result_type : Option TypeCode) (result : Answered) → IfOk result (λ x. ReadsReturn o q (return_at result_type) result_type x.0 x.1 x.2) → IfErr result (λ fault. BreaksReturn o q fault (return_at result_type))
    → CausedIn o.faults q.faults result
caused_of o q result_type (Ok x) a b = a.reads.takes.faults
caused_of o q result_type (Err (BadHeader at)) a b = absurd b
caused_of o q result_type (Err (UnknownProtocol byte)) a b = absurd b
caused_of o q result_type (Err (BadMessage byte at)) a b = absurd b
caused_of o q result_type (Err (BadKind byte at)) a b = b.3.takes.faults
caused_of o q result_type (Err (Stream fault)) a b = want_breaks_caused (Bool × Uid × Body) b

pub gives_of : {S : Type 0} (half : S → ReadHalf) (o q : Pull S) (result_type : Option TypeCode) (result : Answered) → q.at ≤ q.stop
    → IfOk result (λ x. ReadsReturn (pull_state half o) (pull_state half q) (return_at result_type) result_type x.0 x.1 x.2)
    → IfErr result (λ fault. BreaksReturn (pull_state half o) (pull_state half q) fault (return_at result_type)) → GivesReturn half o q result_type result
gives_of half o q result_type (Ok x) le a b = λ told. (a.answers, a.nodes, a.whole, reads_gives half o q a.reads le told, a.carries)
gives_of half o q result_type (Err (BadHeader at)) le a b = absurd b
gives_of half o q result_type (Err (UnknownProtocol byte)) le a b = absurd b
gives_of half o q result_type (Err (BadMessage byte at)) le a b = absurd b
gives_of half o q result_type (Err (BadKind byte at)) le a b = λ told. reads_gives half o q b.3 le told
gives_of half o q result_type (Err (Stream fault)) le a b = λ told. want_breaks_fails half o q fault b le told
