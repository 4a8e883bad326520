-- The words that say what is asked.
use Rattle.std.specs.Prelude.{◌≢◌, ℕ, List, [], ◌∷◌, codes}
use Rattle.std.specs.List.{AllByRecursion}
use Rattle.journal.specs.declared.asks.Keyword.{Keyword}
use Rattle.journal.specs.declared.asks.Keyword.TheVariants.{Open, Begin, Finish, Abandon, Dirty, Clean, Ack, Bind, Rebind, Unbind, Lookup, Tick}
use Rattle.journal.specs.declared.asks.Keyword.TheVariants.{List as ListNames}

abbrev pub keyword_text : Keyword → List ℕ
keyword_text Open = codes "open"
keyword_text Begin = codes "begin"
keyword_text Finish = codes "finish"
keyword_text Abandon = codes "abandon"
keyword_text Dirty = codes "dirty"
keyword_text Clean = codes "clean"
keyword_text Ack = codes "ack"
keyword_text Bind = codes "bind"
keyword_text Rebind = codes "rebind"
keyword_text Unbind = codes "unbind"
keyword_text Lookup = codes "lookup"
keyword_text ListNames = codes "list"
keyword_text Tick = codes "tick"

-- The keywords of exported objects and of calls, of the collector's calls, and of the registry's.
abbrev pub call_keywords : List Keyword
call_keywords = Open ∷ Begin ∷ Finish ∷ Abandon ∷ []

abbrev pub collector_keywords : List Keyword
collector_keywords = Dirty ∷ Clean ∷ Ack ∷ Tick ∷ []

abbrev pub registry_keywords : List Keyword
registry_keywords = Bind ∷ Rebind ∷ Unbind ∷ Lookup ∷ ListNames ∷ []

-- The word is that of none of these keywords.
abbrev pub IsNoneOf : List Keyword → List ℕ → Type 0
IsNoneOf keywords word = AllByRecursion (λ k. word ≢ keyword_text k) keywords
