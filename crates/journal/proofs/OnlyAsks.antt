-- Each word that says what is asked begins the asks of its kind alone.
use Rattle.std.proofs.Common.{◌≡◌, ℕ, Bool, List, ◌∷◌, codes, ℤ, w64, refl}
use Rattle.object_ids.specs.declared.ids.Uid.{Uid}
use Rattle.object_ids.specs.declared.ids.ObjId.{ObjId}
use Rattle.object_ids.specs.Client.{Client}
use Rattle.history.specs.declared.asks.Ask.{Ask}
use Rattle.history.specs.declared.asks.Ask.TheVariants.{Open, Begin, Finish, Abandon, Dirty, Clean, Ack, Bind, Rebind, Unbind, Lookup, Tick}
use Rattle.history.specs.declared.asks.Ask.TheVariants.{List as ListNames}
use Rattle.journal.specs.declared.asks.Keyword.{Keyword}
use Rattle.journal.specs.declared.asks.Keyword.TheVariants as word_of
use Rattle.journal.proofs.Unique.{apart}
use Rattle.journal.specs.Keywords.{keyword_text}
use Rattle.journal.specs.Grammar.{◌▸◌, End, SpellsAsk, SpellsNumber, SpellsPinned, SpellsObject, SpellsKinds, SpellsObjects, SpellsUid, SpellsClient, SpellsSigned, SpellsStrong, SpellsName}

pub only_open : {Z : Type 0} (space : Uid) (rest : List (List ℕ)) (ask : Ask) → SpellsAsk space ask (codes "open" ∷ rest)
    → ((kind : ℕ) (pinned : Bool) → ask ≡ Open kind pinned → (SpellsNumber kind ▸ SpellsPinned pinned ▸ End) rest → Z) → Z
only_open space rest (Open kind pinned) spells then = then kind pinned refl spells.1
only_open space rest _ spells then = absurd (apart _ _ refl spells.0)

pub only_begin : {Z : Type 0} (space : Uid) (rest : List (List ℕ)) (ask : Ask) → SpellsAsk space ask (codes "begin" ∷ rest)
    → ((object : ObjId) → ask ≡ Begin object → (SpellsObject space object ▸ End) rest → Z) → Z
only_begin space rest (Begin object) spells then = then object refl spells.1
only_begin space rest _ spells then = absurd (apart _ _ refl spells.0)

pub only_finish : {Z : Type 0} (space : Uid) (rest : List (List ℕ)) (ask : Ask) → SpellsAsk space ask (codes "finish" ∷ rest)
    → ((object : ObjId) (made : List ℕ) (listed : List ObjId) (uid : Uid) → ask ≡ Finish object made listed uid → (SpellsObject space object ▸ SpellsKinds made ▸ SpellsObjects space listed ▸ SpellsUid uid ▸ End) rest → Z) → Z
only_finish space rest (Finish object made listed uid) spells then = then object made listed uid refl spells.1
only_finish space rest _ spells then = absurd (apart _ _ refl spells.0)

pub only_abandon : {Z : Type 0} (space : Uid) (rest : List (List ℕ)) (ask : Ask) → SpellsAsk space ask (codes "abandon" ∷ rest)
    → ((object : ObjId) → ask ≡ Abandon object → (SpellsObject space object ▸ End) rest → Z) → Z
only_abandon space rest (Abandon object) spells then = then object refl spells.1
only_abandon space rest _ spells then = absurd (apart _ _ refl spells.0)

pub only_dirty : {Z : Type 0} (space : Uid) (rest : List (List ℕ)) (ask : Ask) → SpellsAsk space ask (codes "dirty" ∷ rest)
    → ((client : Client) (number asked : ℤ) (objects : List ObjId) → ask ≡ Dirty client number asked objects → (SpellsClient client ▸ SpellsSigned w64 number ▸ SpellsSigned w64 asked ▸ SpellsObjects space objects ▸ End) rest → Z) → Z
only_dirty space rest (Dirty client number asked objects) spells then = then client number asked objects refl spells.1
only_dirty space rest _ spells then = absurd (apart _ _ refl spells.0)

pub only_clean : {Z : Type 0} (space : Uid) (rest : List (List ℕ)) (ask : Ask) → SpellsAsk space ask (codes "clean" ∷ rest)
    → ((client : Client) (number : ℤ) (objects : List ObjId) (strong : Bool) → ask ≡ Clean client number objects strong → (SpellsClient client ▸ SpellsSigned w64 number ▸ SpellsStrong strong ▸ SpellsObjects space objects ▸ End) rest → Z) → Z
only_clean space rest (Clean client number objects strong) spells then = then client number objects strong refl spells.1
only_clean space rest _ spells then = absurd (apart _ _ refl spells.0)

pub only_ack : {Z : Type 0} (space : Uid) (rest : List (List ℕ)) (ask : Ask) → SpellsAsk space ask (codes "ack" ∷ rest)
    → ((uid : Uid) → ask ≡ Ack uid → (SpellsUid uid ▸ End) rest → Z) → Z
only_ack space rest (Ack uid) spells then = then uid refl spells.1
only_ack space rest _ spells then = absurd (apart _ _ refl spells.0)

pub only_bind : {Z : Type 0} (space : Uid) (rest : List (List ℕ)) (ask : Ask) → SpellsAsk space ask (codes "bind" ∷ rest)
    → ((name : List ℕ) (object : ObjId) → ask ≡ Bind name object → (SpellsName name ▸ SpellsObject space object ▸ End) rest → Z) → Z
only_bind space rest (Bind name object) spells then = then name object refl spells.1
only_bind space rest _ spells then = absurd (apart _ _ refl spells.0)

pub only_rebind : {Z : Type 0} (space : Uid) (rest : List (List ℕ)) (ask : Ask) → SpellsAsk space ask (codes "rebind" ∷ rest)
    → ((name : List ℕ) (object : ObjId) → ask ≡ Rebind name object → (SpellsName name ▸ SpellsObject space object ▸ End) rest → Z) → Z
only_rebind space rest (Rebind name object) spells then = then name object refl spells.1
only_rebind space rest _ spells then = absurd (apart _ _ refl spells.0)

pub only_unbind : {Z : Type 0} (space : Uid) (rest : List (List ℕ)) (ask : Ask) → SpellsAsk space ask (codes "unbind" ∷ rest)
    → ((name : List ℕ) → ask ≡ Unbind name → (SpellsName name ▸ End) rest → Z) → Z
only_unbind space rest (Unbind name) spells then = then name refl spells.1
only_unbind space rest _ spells then = absurd (apart _ _ refl spells.0)

pub only_lookup : {Z : Type 0} (space : Uid) (rest : List (List ℕ)) (ask : Ask) → SpellsAsk space ask (codes "lookup" ∷ rest)
    → ((name : List ℕ) (uid : Uid) → ask ≡ Lookup name uid → (SpellsName name ▸ SpellsUid uid ▸ End) rest → Z) → Z
only_lookup space rest (Lookup name uid) spells then = then name uid refl spells.1
only_lookup space rest _ spells then = absurd (apart _ _ refl spells.0)

pub only_list : {Z : Type 0} (space : Uid) (rest : List (List ℕ)) (ask : Ask) → SpellsAsk space ask (codes "list" ∷ rest)
    → (ask ≡ ListNames → (End) rest → Z) → Z
only_list space rest ListNames spells then = then refl spells.1
only_list space rest _ spells then = absurd (apart _ _ refl spells.0)

pub only_tick : {Z : Type 0} (space : Uid) (rest : List (List ℕ)) (ask : Ask) → SpellsAsk space ask (codes "tick" ∷ rest)
    → (ask ≡ Tick → (End) rest → Z) → Z
only_tick space rest Tick spells then = then refl spells.1
only_tick space rest _ spells then = absurd (apart _ _ refl spells.0)

-- A word that says nothing begins no ask.
pub no_ask : (space : Uid) (word : List ℕ) (rest : List (List ℕ)) → ((k : Keyword) → word ≡ keyword_text k → ⊥) → (ask : Ask) → SpellsAsk space ask (word ∷ rest) → ⊥
no_ask space word rest none (Open kind pinned) spells = none word_of.Open spells.0
no_ask space word rest none (Begin object) spells = none word_of.Begin spells.0
no_ask space word rest none (Finish object made listed uid) spells = none word_of.Finish spells.0
no_ask space word rest none (Abandon object) spells = none word_of.Abandon spells.0
no_ask space word rest none (Dirty client number asked objects) spells = none word_of.Dirty spells.0
no_ask space word rest none (Clean client number objects strong) spells = none word_of.Clean spells.0
no_ask space word rest none (Ack uid) spells = none word_of.Ack spells.0
no_ask space word rest none (Bind name object) spells = none word_of.Bind spells.0
no_ask space word rest none (Rebind name object) spells = none word_of.Rebind spells.0
no_ask space word rest none (Unbind name) spells = none word_of.Unbind spells.0
no_ask space word rest none (Lookup name uid) spells = none word_of.Lookup spells.0
no_ask space word rest none ListNames spells = none word_of.List spells.0
no_ask space word rest none Tick spells = none word_of.Tick spells.0
