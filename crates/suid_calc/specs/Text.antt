-- The text of which a class's serialVersionUID is the hash (Java Object Serialization Specification, 4.6), and the number.
use Rattle.std.specs.Prelude.{◌≡◌, ℕ, ℤ, ◌+◌, Bool, true, false, not, ◌&&◌, ◌||◌, nat_eq, bit_and, List, [], ◌∷◌, ◌++◌, length, map, codes, if◌then◌else◌}
use Rattle.std.specs.Int.{w16, w32, to_be_bytes}
use Rattle.std.specs.List.{flat_map, list_any}
use Rattle.sha1.specs.Sha1.{sha1}
use Rattle.method_hash.specs.Hash.{folded_hash}
use Rattle.suid_calc.specs.declared.outline.Member.{Member}
use Rattle.suid_calc.specs.declared.outline.Member.TheVariants.{Interface, Field, Initializer, Constructor, Method}

-- a text: its length in 16 bits, and its bytes
abbrev pub utf : List ℕ → List ℕ
utf t = to_be_bytes w16 (length t) ++ t

-- a number in 32 bits
abbrev pub word : ℕ → List ℕ
word n = to_be_bytes w32 n

-- the modifiers have this bit
abbrev pub has_bit : ℕ → ℕ → Bool
has_bit modifiers bit = not (nat_eq (bit_and modifiers bit) 0)

abbrev pub is_private : ℕ → Bool
is_private modifiers = has_bit modifiers 2

-- a field that is private and static (8) or private and transient (128)
abbrev pub is_hidden_field : ℕ → Bool
is_hidden_field modifiers = is_private modifiers && (has_bit modifiers 8 || has_bit modifiers 128)

abbrev pub dot_of : ℕ → ℕ
dot_of c = if nat_eq c 0x2F then 0x2E else c

-- a descriptor as a text, with dots for slashes
abbrev pub dotted_utf : List ℕ → List ℕ
dotted_utf t = to_be_bytes w16 (length t) ++ map dot_of t

-- Public, private, protected, static, final, volatile and transient (together 223) count for a field.
abbrev pub field_entry : ℕ → List ℕ → List ℕ → List ℕ
field_entry modifiers name type_text = if is_hidden_field modifiers then [] else utf name ++ (word (bit_and modifiers 223) ++ utf type_text)

-- Public, private, protected, static, final, synchronized, native, abstract and strict (together 3391) count for a constructor and a method.
abbrev pub constructor_entry : ℕ → List ℕ → List ℕ
constructor_entry modifiers descriptor =
    if is_private modifiers then [] else utf (codes "<init>") ++ (word (bit_and modifiers 3391) ++ dotted_utf descriptor)

abbrev pub method_entry : ℕ → List ℕ → List ℕ → List ℕ
method_entry modifiers name descriptor =
    if is_private modifiers then [] else utf name ++ (word (bit_and modifiers 3391) ++ dotted_utf descriptor)

abbrev pub initializer_entry : List ℕ
initializer_entry = utf (codes "<clinit>") ++ (word 8 ++ utf (codes "()V"))

-- What a member adds.
abbrev pub entry : Member → List ℕ
entry (Interface name) = utf name
entry (Field modifiers name type_text) = field_entry modifiers name type_text
entry Initializer = initializer_entry
entry (Constructor modifiers descriptor) = constructor_entry modifiers descriptor
entry (Method modifiers name descriptor) = method_entry modifiers name descriptor

abbrev pub is_method : Member → Bool
is_method (Method modifiers name descriptor) = true
is_method _ = false

-- Of a class's modifiers public (1), final (16), interface (512) and abstract (1024) count; an interface is abstract exactly if it has a method.
abbrev pub class_modifiers : ℕ → List Member → ℕ
class_modifiers modifiers members =
    if has_bit modifiers 512 then bit_and modifiers 529 + (if list_any is_method members then 1024 else 0) else bit_and modifiers 1553

-- The text of a class with these modifiers, this name and these members, which are in order.
unfoldable pub suid_text : ℕ → List ℕ → List Member → List ℕ
suid_text modifiers name members = utf name ++ (word (class_modifiers modifiers members) ++ flat_map entry members)

-- The number: the digest of the text, folded.
abbrev pub suid_of : ℕ → List ℕ → List Member → ℤ
suid_of modifiers name members = folded_hash (sha1 (suid_text modifiers name members))
