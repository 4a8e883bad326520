-- Kinds from their texts.
use Rattle.std.specs.Prelude.{◌≤◌, ◌<◌, ◌⊎◌, ℕ, List, length, map, All, Contains}
use Rattle.mod_utf.specs.Utf.{utf}
use Rattle.method_hash.specs.MethodText.{IsUnread}
use Rattle.system_objects.specs.Book.{FaultsBook}
use Rattle.method_hash.specs.declared.method.Method.{Method}
use Rattle.method_hash.specs.declared.method.MethodFault.{MethodFault}
use Rattle.method_hash.specs.declared.method.MethodFault.TheVariants as methods
use Rattle.system_objects.specs.declared.book.BookFault.{BookFault}
use Rattle.system_objects.specs.declared.book.BookFault.TheVariants as books
use Rattle.system_objects.specs.declared.book.Kind.{Kind}
use Rattle.rmi_server.specs.declared.kinds.KindFault.{KindFault}
use Rattle.rmi_server.specs.declared.kinds.KindFault.TheVariants.{BadMethod, FloatMethod, TooLong, OutOfMemory}

-- A kind's name and the list of its methods are short enough.
abbrev pub IsShort : Kind → Type 0
IsShort kind = (length (utf kind.interface) ≤ 65535) × (length kind.methods ≤ 65535)

-- the texts of methods
abbrev pub texts_of : List Method → List (List ℕ)
texts_of methods = map (λ method. method.text) methods

-- why a text gives no kind
abbrev pub method_fault : MethodFault → KindFault
method_fault (methods.BadDescriptor place) = BadMethod place
method_fault methods.OutOfMemory = OutOfMemory

-- why kinds give no book
abbrev pub book_fault : BookFault → KindFault
book_fault (books.FloatMethod kind method) = FloatMethod kind method
book_fault books.OutOfMemory = OutOfMemory

-- Why texts give no methods: one of them, as of this byte on, is no method's. There may be no memory.
abbrev pub RefusesTexts : List (List ℕ) → KindFault → Type 0
RefusesTexts texts (BadMethod place) = (text : List ℕ) × Contains texts text × IsUnread text (methods.BadDescriptor place)
RefusesTexts texts OutOfMemory = Unit {0}
RefusesTexts texts _ = ⊥

-- Why kinds give no book: some are too long, or too many; or else a method uses floats. There may be no memory.
abbrev pub RefusesKinds : List Kind → KindFault → Type 0
RefusesKinds kinds TooLong = (65535 < length kinds) ⊎ (¬ All IsShort kinds)
RefusesKinds kinds (FloatMethod kind method) = FaultsBook kinds (books.FloatMethod kind method)
RefusesKinds kinds OutOfMemory = Unit {0}
RefusesKinds kinds (BadMethod place) = ⊥
