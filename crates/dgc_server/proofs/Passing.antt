-- A loop over the clients as time passes: the counts, the sums, and the least end of a lease.
use Rattle.std.proofs.Common.{◌≡◌, ℕ, ◌+◌, ◌≤◌, ◌<◌, ◌^◌, List, [], ◌∷◌, ◌++◌, refl, ap, sym, ◌∙◌, arith, cond, length, map, take, drop, get_or}
use Rattle.std.specs.Prelude.{min, Bool, true, false, ◌||◌, not, filter, nat_lt, nat_le, sum_by, if◌then◌else◌}
use Rattle.std.specs.List.{list_all}
use Rattle.std.proofs.lemmas.Bool.{and_parts, and_from, le-leb, ltb-true}
use Rattle.std.proofs.lemmas.List.{take-append-drop}
use Rattle.std.proofs.lemmas.List.Sums.{sum_by-cons, sum_by-append, sum_by-take-drop, sum_by-drop_more}
use Rattle.object_ids.specs.declared.ids.ObjId.{ObjId}
use Rattle.indexmap.specs.IndexMap.{IndexMap}
use Rattle.dgc_server.specs.declared.clients.Chunk.{Chunk}
use Rattle.dgc_server.specs.declared.holders.Count.{Count}
use Rattle.dgc_server.specs.declared.table.Sums.{Sums}
use Rattle.dgc_server.specs.Numbers.{is_remembered}
use Rattle.dgc_server.specs.Entry.{ObjectEntry, Entry, entry_after_lapse, is_entry_kept, is_empty, has_time_left, remembered_of, tenure_forgotten}
use Rattle.dgc_server.specs.Table.{after_lapse, remembered_count}
use Rattle.dgc_server.specs.HolderIndex.{Way, Tally, Counted, Leased, Pairs, tally_of, tally_in, tally_at, counted_at, is_counted, one_if, ends_later, sums_at}
use Rattle.dgc_server.specs.Chunks.{all_of}
use Rattle.dgc_server.proofs.Steps.{earlier}
use Rattle.dgc_server.proofs.Few.{lapsed-time}
use Rattle.dgc_server.proofs.Kept.{fewer-lapsed}
use Rattle.dgc_server.proofs.Shares.{still-step}
use Rattle.dgc_server.proofs.SumLaws.{sums-are}
use Rattle.dgc_server.proofs.HolderLaws.{drop-gone}
use Rattle.dgc_server.proofs.IndexLaws.{Bounds, bounds-step, bounds-last}
use Rattle.dgc_server.proofs.Chunked.{all-append}
use Rattle.dgc_server.proofs.Moving.{drop-chunk, drop-end}

-- ---- a sum over the clients

module _ (f g : Entry → ℕ) where
  -- An invariant of a loop over the clients, of a sum that was `first` with those of others: of those to come the first function is summed, of
  -- the others the second.
  abbrev pub Adds : List Entry → ℕ → ℕ → List Entry → Type 0
  Adds es first s rest = s + (sum_by f es + sum_by g rest) ≡ first + (sum_by g es + sum_by f rest)

  pub adds-part : (es : List Entry) (first s t a b : ℕ) (rest later : List Entry) → Adds es first s rest → sum_by f rest ≡ a + sum_by f later → sum_by g rest ≡ b + sum_by g later → t + a ≡ s + b →
      Adds es first t later
  adds-part es first s t a b rest later inv x y step =
      sums s t first (sum_by f es) (sum_by g es) (sum_by f rest) (sum_by g rest) (sum_by f later) (sum_by g later) a b inv x y step
    where
      sums : (s t first f_all g_all f_ g_ f_rest g_rest a b : ℕ) → s + (f_all + g_) ≡ first + (g_all + f_) → f_ ≡ a + f_rest → g_ ≡ b + g_rest → t + a ≡ s + b → t + (f_all + g_rest) ≡ first + (g_all + f_rest)
      sums s t first f_all g_all f_ g_ f_rest g_rest a b p q r u = omega arith

  pub adds-enough : (es : List Entry) (first s a before : ℕ) (rest later : List Entry) → Adds es first s rest → sum_by f es ≤ first → sum_by f rest ≡ a + sum_by f later → before + sum_by g rest ≡ sum_by g es → a ≤ s
  adds-enough es first s a before rest later inv enough x y =
      least s first (sum_by f es) (sum_by g es) (sum_by f rest) (sum_by g rest) (sum_by f later) a before inv enough x y
    where
      least : (s first f_all g_all f_ g_ f_rest a before : ℕ) → s + (f_all + g_) ≡ first + (g_all + f_) → f_all ≤ first → f_ ≡ a + f_rest → before + g_ ≡ g_all → a ≤ s
      least s first f_all g_all f_ g_ f_rest a before p q r u = omega arith

  pub adds-last : (es : List Entry) (first s : ℕ) (rest : List Entry) → rest ≡ [] → Adds es first s rest → s + sum_by f es ≡ first + sum_by g es
  adds-last es first s rest gone inv =
      same s first (sum_by f es) (sum_by g es) (sum_by f rest) (sum_by g rest) inv (ap (sum_by f) gone) (ap (sum_by g) gone)
    where
      same : (s first f_all g_all f_ g_ : ℕ) → s + (f_all + g_) ≡ first + (g_all + f_) → f_ ≡ 0 → g_ ≡ 0 → s + f_all ≡ first + g_all
      same s first f_all g_all f_ g_ p q r = omega arith

-- The list before a change, by the function after it.
sum-mapped : (f : Entry → ℕ) (h : Entry → Entry) (es : List Entry) → sum_by (λ e. f (h e)) es ≡ sum_by f (map h es)
sum-mapped f h [] = refl
sum-mapped f h (e ∷ es) = sum_by-cons (λ e. f (h e)) e es ∙ ap (λ n. f (h e) + n) (sum-mapped f h es) ∙ sym (sum_by-cons f (h e) (map h es))

-- How many pass a test is a sum.
many-summed : (p : Entry → Bool) (es : List Entry) → length (filter p es) ≡ sum_by (λ e. one_if (p e)) es
many-summed p [] = refl
many-summed p (e ∷ es) = go (p e) (many-summed p es) (sum_by-cons (λ e. one_if (p e)) e es) refl
  where
    go : (b : Bool) → length (filter p es) ≡ sum_by (λ e. one_if (p e)) es → sum_by (λ e. one_if (p e)) (e ∷ es) ≡ one_if (p e) + sum_by (λ e. one_if (p e)) es →
        p e ≡ b → length (cond b (e ∷ filter p es) (filter p es)) ≡ sum_by (λ e. one_if (p e)) (e ∷ es)
    go true h k x = (let one = ap one_if x in omega arith)
    go false h k x = (let one = ap one_if x in omega arith)

-- ---- the loop

-- Of a client whose lease goes on nothing is forgotten.
pub still-same : (t : ℕ) (e : Entry) → nat_lt t e.until ≡ true → entry_after_lapse t e ≡ e
still-same t e left = ap (λ b. if b then e else record e { objects = tenure_forgotten e.objects }) left

-- What holds of each tally.
pub each-tally : (P : Tally → Type 0) → ((w : Way) (o : ObjId) → P (Counted w o)) → P Leased → P Pairs → (k : Tally) → P k
each-tally P a b c (Counted w o) = a w o
each-tally P a b c Leased = b
each-tally P a b c Pairs = c

-- What one client adds to a tally once it is passed.
abbrev pub passed_of : ℕ → Tally → Entry → ℕ
passed_of to k e = tally_of k to (entry_after_lapse to e)

-- What holds in a loop: the clients to come are counted and summed as of the first moment, the others as of the second.
pub record Passing (from to : ℕ) (es : List Entry) (first tally : Tally → ℕ) (next : ℕ) (rest : List Entry) : Type 0 where
  pub tallies : (k : Tally) → Adds (tally_of k from) (passed_of to k) es (first k) (tally k) rest
  pub few : (tally Leased ≤ 2 ^ 17) × (tally Pairs ≤ 2 ^ 65)
  pub bounds : Bounds to es next rest
  pub later : to < next

pub passing-first : (from to : ℕ) (es : List Entry) (first : Tally → ℕ) (next : ℕ) → (first Leased ≤ 2 ^ 17) × (first Pairs ≤ 2 ^ 65) → to < next → Passing from to es first first next es
passing-first from to es first next small late = record {
  tallies = λ k. (let a = sum_by (tally_of k from) es in let b = sum_by (passed_of to k) es in swapped (first k) a b);
  few = small;
  bounds = λ n le h. h;
  later = late;
}
  where
    swapped : (s a b : ℕ) → s + (a + b) ≡ s + (b + a)
    swapped s a b = omega arith

-- What a client whose lease goes on adds stays.
still : (from to : ℕ) (e : Entry) → from ≤ to → nat_lt to e.until ≡ true → (k : Tally) → tally_of k from e ≡ passed_of to k e
still from to e le left = each-tally (λ k. tally_of k from e ≡ passed_of to k e) (λ w o. ap one_if (still-step w o e from to le left)) (ap one_if time) pairs
  where
    same : entry_after_lapse to e ≡ e
    same = still-same to e left

    before : nat_lt from e.until ≡ true
    before = earlier from to e.until le left

    time : has_time_left from e ≡ has_time_left to (entry_after_lapse to e)
    time = before ∙ sym (ap (has_time_left to) same ∙ left)

    pairs : remembered_of from e ≡ remembered_of to (entry_after_lapse to e)
    pairs = ap (λ b. length (filter (λ o. is_remembered b o.numbers) e.objects)) (before ∙ sym left) ∙ ap (remembered_of to) (sym same)

-- Few stay few, where no more are added than are taken away.
few-still : (from to : ℕ) (first tally : Tally → ℕ) (lost won : Tally → ℕ) → ((k : Tally) → tally k + lost k ≡ first k + won k) → won Leased ≤ lost Leased → won Pairs ≤ lost Pairs →
    (first Leased ≤ 2 ^ 17) × (first Pairs ≤ 2 ^ 65) → (tally Leased ≤ 2 ^ 17) × (tally Pairs ≤ 2 ^ 65)
few-still from to first tally lost won moved a b few =
    (at-most (tally Leased) (first Leased) (lost Leased) (won Leased) (2 ^ 17) (moved Leased) a few.0, at-most (tally Pairs) (first Pairs) (lost Pairs) (won Pairs) (2 ^ 65) (moved Pairs) b few.1)
  where
    at-most : (a b x y most : ℕ) → a + x ≡ b + y → y ≤ x → b ≤ most → a ≤ most
    at-most a b x y most p q r = omega arith

module _ (from to : ℕ) (es : List Entry) (first tally : Tally → ℕ) (next i : ℕ) (d : Entry) (within : i < length es) (le : from ≤ to) (inv : Passing from to es first tally next (drop i es)) where
  -- The next client.
  abbrev this : Entry
  this = get_or es i d

  pub passing-enough : ((k : Tally) → tally_in k from es ≤ first k) → (k : Tally) → tally_of k from this ≤ tally k
  passing-enough enough k =
      adds-enough (tally_of k from) (passed_of to k) es (first k) (tally k) (tally_of k from this) (sum_by (passed_of to k) (take i es)) (drop i es) (drop (i + 1) es)
      (inv.tallies k) (enough k) (sum_by-drop_more (tally_of k from) es i d within) (sum_by-take-drop (passed_of to k) es i)

  step : (result : Tally → ℕ) → ((k : Tally) → result k + tally_of k from this ≡ tally k + passed_of to k this) → (k : Tally) →
      Adds (tally_of k from) (passed_of to k) es (first k) (result k) (drop (i + 1) es)
  step result moved k =
      adds-part (tally_of k from) (passed_of to k) es (first k) (tally k) (result k) (tally_of k from this) (passed_of to k this) (drop i es) (drop (i + 1) es)
      (inv.tallies k) (sum_by-drop_more (tally_of k from) es i d within) (sum_by-drop_more (passed_of to k) es i d within) (moved k)

  -- A client whose lease goes on lowers the least end, and changes no more.
  pub passing-goes-on : nat_lt to this.until ≡ true → Passing from to es first tally (min next this.until) (drop (i + 1) es)
  passing-goes-on left =
      let lt = ltb-true to this.until left in
      let late = inv.later in record {
        tallies = step tally (λ k. ap (λ n. tally k + n) (still from to this le left k));
        few = inv.few;
        bounds = bounds-step to es next (min next this.until) i d within inv.bounds (omega arith) (ap (λ b. not b || nat_le (min next this.until) this.until) left ∙ le-leb (min next this.until) this.until (omega arith));
        later = omega arith;
      }

  -- A client whose lease is over.
  pub passing-over : nat_lt to this.until ≡ false → (result : Tally → ℕ) → ((k : Tally) → result k + tally_of k from this ≡ tally k + passed_of to k this) → Passing from to es first result next (drop (i + 1) es)
  passing-over over result moved =
      let time : passed_of to Leased this ≡ 0 = ap one_if (lapsed-time to this ∙ over) in record {
        tallies = step result moved;
        few = few-still from to tally result (λ k. tally_of k from this) (λ k. passed_of to k this) moved (omega arith) (fewer-lapsed from to this le) inv.few;
        bounds = bounds-step to es next next i d within inv.bounds (omega arith) (ap (λ b. not b || nat_le next this.until) over);
        later = inv.later;
      }

-- All are passed.
pub passed-tallies : (from to : ℕ) (es : List Entry) (first tally : Tally → ℕ) (next n : ℕ) → length es ≤ n → Passing from to es first tally next (drop n es) → (k : Tally) →
    tally k + tally_in k from es ≡ first k + tally_in k to (map (entry_after_lapse to) es)
passed-tallies from to es first tally next n long inv k =
    adds-last (tally_of k from) (passed_of to k) es (first k) (tally k) (drop n es) (drop-gone es n long) (inv.tallies k)
    ∙ ap (λ m. first k + m) (sum-mapped (tally_of k to) (entry_after_lapse to) es)

pub passed-ends : (from to : ℕ) (es : List Entry) (first tally : Tally → ℕ) (next n : ℕ) → length es ≤ n → Passing from to es first tally next (drop n es) → list_all (ends_later to next) es ≡ true
passed-ends from to es first tally next n long inv = bounds-last to es next n long inv.bounds

-- ---- the loop over the chunks

-- What holds in a loop over the chunks: the clients to come are counted and summed as of the first moment, the others as of the second.
pub record Tallying (from to : ℕ) (es : List Entry) (first tally : Tally → ℕ) (rest : List Entry) : Type 0 where
  pub tallies : (k : Tally) → Adds (tally_of k from) (passed_of to k) es (first k) (tally k) rest
  pub few : (tally Leased ≤ 2 ^ 17) × (tally Pairs ≤ 2 ^ 65)

pub tallying-first : (from to : ℕ) (es : List Entry) (first : Tally → ℕ) → (first Leased ≤ 2 ^ 17) × (first Pairs ≤ 2 ^ 65) → Tallying from to es first first es
tallying-first from to es first small =
    let start = passing-first from to es first (to + 1) small (omega arith) in record { tallies = start.tallies; few = small }

-- Clients are passed over, of which nothing is due.
pub tallying-skipped : (from to : ℕ) (all : List Entry) (first tally : Tally → ℕ) (es rest later : List Entry) → ((k : Tally) → tally_in k from es ≡ tally_in k to (map (entry_after_lapse to) es)) → rest ≡ es ++ later →
    Tallying from to all first tally rest → Tallying from to all first tally later
tallying-skipped from to all first tally es rest later same split inv = record {
  tallies = λ k. adds-part (tally_of k from) (passed_of to k) all (first k) (tally k) (tally k) (tally_in k from es) (sum_by (passed_of to k) es) rest later
      (inv.tallies k) (parted (tally_of k from)) (parted (passed_of to k)) (ap (λ n. tally k + n) (same k ∙ sym (sum-mapped (tally_of k to) (entry_after_lapse to) es)));
  few = inv.few;
}
  where
    parted : (f : Entry → ℕ) → sum_by f rest ≡ sum_by f es + sum_by f later
    parted f = ap (sum_by f) split ∙ sum_by-append f es later

module _ (from to : ℕ) (cs : List Chunk) (first tally : Tally → ℕ) (i : ℕ) (d : Chunk) (within : i < length cs) (inv : Tallying from to (all_of cs) first tally (all_of (drop i cs))) where
  -- The clients of the next chunk.
  abbrev own : List Entry
  own = (get_or cs i d).entries.items

  abbrev later : List Entry
  later = all_of (drop (i + 1) cs)

  parted : (f : Entry → ℕ) → sum_by f (all_of (drop i cs)) ≡ sum_by f own + sum_by f later
  parted f = ap (sum_by f) (drop-chunk cs i d within) ∙ sum_by-append f own later

  pub chunk-enough : ((k : Tally) → first k ≡ tally_in k from (all_of cs)) → (k : Tally) → tally_in k from own ≤ tally k
  chunk-enough exact k =
      let all = exact k in
      adds-enough (tally_of k from) (passed_of to k) (all_of cs) (first k) (tally k) (tally_in k from own) (sum_by (passed_of to k) (all_of (take i cs))) (all_of (drop i cs)) later
      (inv.tallies k) (omega arith) (parted (tally_of k from))
      (sym (sum_by-append (passed_of to k) (all_of (take i cs)) (all_of (drop i cs))) ∙ ap (sum_by (passed_of to k)) (sym (all-append (take i cs) (drop i cs)) ∙ ap all_of (take-append-drop i cs)))

  -- A chunk whose clients are passed.
  pub chunk-passed : (result : Tally → ℕ) → ((k : Tally) → result k + tally_in k from own ≡ tally k + tally_in k to (map (entry_after_lapse to) own)) →
      (result Leased ≤ 2 ^ 17) × (result Pairs ≤ 2 ^ 65) → Tallying from to (all_of cs) first result later
  chunk-passed result moved few = record {
    tallies = λ k. adds-part (tally_of k from) (passed_of to k) (all_of cs) (first k) (tally k) (result k) (tally_in k from own) (sum_by (passed_of to k) own) (all_of (drop i cs)) later
        (inv.tallies k) (parted (tally_of k from)) (parted (passed_of to k)) (moved k ∙ ap (λ n. tally k + n) (sym (sum-mapped (tally_of k to) (entry_after_lapse to) own)));
    few = few;
  }

pub chunks-tallies : (from to : ℕ) (cs : List Chunk) (first tally : Tally → ℕ) (n : ℕ) → length cs ≤ n → Tallying from to (all_of cs) first tally (all_of (drop n cs)) →
    ((k : Tally) → first k ≡ tally_in k from (all_of cs)) → (k : Tally) → tally k ≡ tally_in k to (map (entry_after_lapse to) (all_of cs))
chunks-tallies from to cs first tally n long inv exact k =
    let all = exact k in
    let last = adds-last (tally_of k from) (passed_of to k) (all_of cs) (first k) (tally k) (all_of (drop n cs)) (drop-end cs n long) (inv.tallies k) in
    let same = sum-mapped (tally_of k to) (entry_after_lapse to) (all_of cs) in omega arith

-- ---- what an index says of the tallies

pub tallies-are : {S : Type 0} (t : ℕ) (counts : IndexMap ObjId Count S) (sums : Sums) (es : List Entry) → ((w : Way) (o : ObjId) → counted_at w counts o ≡ length (filter (is_counted w t o) es)) → sums ≡ sums_at t es →
    (k : Tally) → tally_at k counts sums ≡ tally_in k t es
tallies-are t counts sums es counted sum =
    each-tally (λ k. tally_at k counts sums ≡ tally_in k t es) (λ w o. counted w o ∙ many-summed (is_counted w t o) es) (ap (λ (s : Sums). s.leased) sum ∙ many-summed (has_time_left t) es) (ap (λ (s : Sums). s.pairs) sum)

pub counts-are : {S : Type 0} (t : ℕ) (counts : IndexMap ObjId Count S) (sums : Sums) (es : List Entry) → ((k : Tally) → tally_at k counts sums ≡ tally_in k t es) →
    (w : Way) (o : ObjId) → counted_at w counts o ≡ length (filter (is_counted w t o) es)
counts-are t counts sums es tallies w o = tallies (Counted w o) ∙ sym (many-summed (is_counted w t o) es)

pub sums-of : {S : Type 0} (t : ℕ) (counts : IndexMap ObjId Count S) (sums : Sums) (es : List Entry) → ((k : Tally) → tally_at k counts sums ≡ tally_in k t es) → sums ≡ sums_at t es
sums-of t counts sums es tallies =
    sums-are sums (length (filter (has_time_left t) es)) (remembered_count t es) (tallies Leased ∙ sym (many-summed (has_time_left t) es)) (tallies Pairs)

-- ---- what is kept

ends-lapsed : (m n : ℕ) (e : Entry) → ends_later m n (entry_after_lapse m e) ≡ ends_later m n e
ends-lapsed m n e = go (nat_lt m e.until)
  where
    go : (b : Bool) → ends_later m n (if b then e else record e { objects = tenure_forgotten e.objects }) ≡ ends_later m n e
    go true = refl
    go false = refl

pub ends-lapse : (m n : ℕ) (es : List Entry) → list_all (ends_later m n) es ≡ true → list_all (ends_later m n) (after_lapse m es) ≡ true
ends-lapse m n [] h = refl
ends-lapse m n (e ∷ es) h =
    let two = and_parts (ends_later m n e) (list_all (ends_later m n) es) h in
    go (is_entry_kept m (entry_after_lapse m e)) (ends-lapsed m n e ∙ two.0) (ends-lapse m n es two.1)
  where
    go : (b : Bool) → ends_later m n (entry_after_lapse m e) ≡ true → list_all (ends_later m n) (after_lapse m es) ≡ true → list_all (ends_later m n) (cond b (entry_after_lapse m e ∷ after_lapse m es) (after_lapse m es)) ≡ true
    go true x rest = and_from (ends_later m n (entry_after_lapse m e)) (list_all (ends_later m n) (after_lapse m es)) x rest
    go false x rest = rest

-- Of whom nothing is left adds nothing to the sums.
nothing-leased : (t : ℕ) (e : Entry) → is_entry_kept t e ≡ false → has_time_left t e ≡ false
nothing-leased t e h = go (nat_lt t e.until) h
  where
    go : (b : Bool) → (b || not (is_empty e.objects)) ≡ false → b ≡ false
    go true k = absurd (cc)
    go false k = refl

nothing-remembered : (t : ℕ) (e : Entry) → is_entry_kept t e ≡ false → remembered_of t e ≡ 0
nothing-remembered t e h = go (nat_lt t e.until) e.objects h
  where
    go : (b : Bool) (os : List ObjectEntry) → (b || not (is_empty os)) ≡ false → length (filter (λ o. is_remembered b o.numbers) os) ≡ 0
    go true os k = absurd (cc)
    go false [] k = refl
    go false (x ∷ os) k = absurd (cc)

kept-leased : (t : ℕ) (es : List Entry) → length (filter (has_time_left t) (filter (is_entry_kept t) es)) ≡ length (filter (has_time_left t) es)
kept-leased t [] = refl
kept-leased t (e ∷ es) = go (is_entry_kept t e) (has_time_left t e) refl refl (kept-leased t es)
  where
    go : (a b : Bool) → is_entry_kept t e ≡ a → has_time_left t e ≡ b → length (filter (has_time_left t) (filter (is_entry_kept t) es)) ≡ length (filter (has_time_left t) es) →
        length (filter (has_time_left t) (cond a (e ∷ filter (is_entry_kept t) es) (filter (is_entry_kept t) es))) ≡ length (cond b (e ∷ filter (has_time_left t) es) (filter (has_time_left t) es))
    go true true x y h = rw y (omega arith)
    go true false x y h = rw y h
    go false true x y h = absurd (let n = nothing-leased t e x in cc)
    go false false x y h = h

kept-remembered : (t : ℕ) (es : List Entry) → remembered_count t (filter (is_entry_kept t) es) ≡ remembered_count t es
kept-remembered t [] = refl
kept-remembered t (e ∷ es) = go (is_entry_kept t e) refl (kept-remembered t es) (sum_by-cons (remembered_of t) e es)
  where
    go : (a : Bool) → is_entry_kept t e ≡ a → remembered_count t (filter (is_entry_kept t) es) ≡ remembered_count t es → remembered_count t (e ∷ es) ≡ remembered_of t e + remembered_count t es →
        remembered_count t (cond a (e ∷ filter (is_entry_kept t) es) (filter (is_entry_kept t) es)) ≡ remembered_count t (e ∷ es)
    go true x h k = let more = sum_by-cons (remembered_of t) e (filter (is_entry_kept t) es) in omega arith
    go false x h k = let none = nothing-remembered t e x in omega arith

pub kept-sums : (t : ℕ) (es : List Entry) → sums_at t (filter (is_entry_kept t) es) ≡ sums_at t es
kept-sums t es = sums-are (sums_at t (filter (is_entry_kept t) es)) (length (filter (has_time_left t) es)) (remembered_count t es) (kept-leased t es) (kept-remembered t es)
