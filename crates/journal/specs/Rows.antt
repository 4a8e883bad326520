-- Lines of an outline, by what they say.
use Rattle.std.specs.Prelude.{ℕ, List, [], ◌∷◌, codes, decimal, FitsSigned}
use Rattle.std.specs.Int.{w64}
use Rattle.std.specs.Fmt.{signed_decimal}
use Rattle.object_ids.specs.declared.ids.Uid.{Uid}
use Rattle.object_ids.specs.declared.ids.ObjId.{ObjId}
use Rattle.history.specs.Texts.{line, uid_text, client_text, object_text, name_text}
use Rattle.journal.specs.declared.outline.Word.{Word}
use Rattle.journal.specs.declared.outline.Word.TheVariants.{Text, Number, Signed, Object, Client, Name, Kinds, Objects}
use Rattle.journal.specs.declared.outline.Word.TheVariants.{Uid as Identifier}
use Rattle.journal.specs.Grammar.{IsUid, IsClient, IsName}
use Rattle.journal.specs.Written.{list_text, objects_text, IsObject, AreKinds, AreObjects}

-- The text of a word.
abbrev pub word_text : Word → List ℕ
word_text (Text text) = text.now
word_text (Number n) = decimal n
word_text (Object space object) = object_text space object
word_text (Client client) = client_text client.now
word_text (Name name) = name_text name.now
word_text (Signed n) = signed_decimal n
word_text (Identifier uid) = uid_text uid
word_text (Kinds kinds) = list_text decimal kinds.now
word_text (Objects space objects) = objects_text space objects.now

-- The numbers of a word are within their types' ranges.
abbrev pub WordFits : Word → Type 0
WordFits (Text text) = Unit {0}
WordFits (Number n) = Unit {0}
WordFits (Object space object) = IsObject object
WordFits (Client client) = IsClient client.now
WordFits (Name name) = IsName name.now
WordFits (Signed n) = FitsSigned w64 n
WordFits (Identifier uid) = IsUid uid
WordFits (Kinds kinds) = AreKinds kinds.now
WordFits (Objects space objects) = AreObjects objects.now

-- A word that is not the first of its line stands after a space.
abbrev pub further_text : Word → List ℕ
further_text word = 32 ∷ word_text word

-- The first line: how many events there are, how many units they have, and the greatest moment.
abbrev pub events_text : ℕ → ℕ → ℕ → List ℕ
events_text events units now = line (codes "events" ∷ decimal events ∷ codes "units" ∷ decimal units ∷ codes "now" ∷ decimal now ∷ [])

-- A name that stands for an object.
abbrev pub named_text : Uid → List ℕ → ObjId → List ℕ
named_text space name object = line (codes "name" ∷ name_text name ∷ object_text space object ∷ [])
