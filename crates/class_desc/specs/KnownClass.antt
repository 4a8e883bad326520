-- The classes that Java's remote method invocation itself sends.
use Rattle.std.specs.Prelude.{ℕ, List, [], ◌∷◌, codes}
use Rattle.std.specs.Int.{w64}
use Rattle.std.specs.Int.{cast_signed}
use Rattle.class_desc.specs.declared.field.TypeCode.{TypeCode}
use Rattle.class_desc.specs.declared.field.TypeCode.TheVariants.{Int, Long, Short, Array, Object}
use Rattle.class_desc.specs.declared.known_class.PartField.{PartField}
use Rattle.class_desc.specs.declared.known_class.ClassParts.{ClassParts}
use Rattle.class_desc.specs.declared.known_class.KnownClass.{KnownClass}
use Rattle.class_desc.specs.declared.known_class.KnownClass.TheVariants as known

-- a primitive field, and a reference field with its type text
abbrev pub plain_field : TypeCode → List ℕ → PartField
plain_field code name = record { code = code; name = name; type_text = [] }

abbrev pub typed_field : TypeCode → List ℕ → List ℕ → PartField
typed_field code name text = record { code = code; name = name; type_text = text }

-- a class by its name, the 64 bits of its serialVersionUID, its flags and its fields
abbrev pub class : List ℕ → ℕ → ℕ → List PartField → ClassParts
class name suid flags fields = record { name = name; suid = cast_signed w64 suid; flags = flags; fields = fields }

-- The table of known classes.
abbrev pub parts_of : KnownClass → ClassParts
parts_of known.ObjId = class (codes "java.rmi.server.ObjID") 0xA75EFA128DDCE55C 2 (plain_field Long (codes "objNum") ∷ typed_field Object (codes "space") (codes "Ljava/rmi/server/UID;") ∷ [])
parts_of known.Uid = class (codes "java.rmi.server.UID") 0x0F12700DBF364F12 2 (plain_field Short (codes "count") ∷ plain_field Long (codes "time") ∷ plain_field Int (codes "unique") ∷ [])
parts_of known.Vmid = class (codes "java.rmi.dgc.VMID") 0xF8865BAFA4A56DB6 2 (typed_field Array (codes "addr") (codes "[B") ∷ typed_field Object (codes "uid") (codes "Ljava/rmi/server/UID;") ∷ [])
parts_of known.Lease = class (codes "java.rmi.dgc.Lease") 0xB0B5E2660C4ADC34 2 (plain_field Long (codes "value") ∷ typed_field Object (codes "vmid") (codes "Ljava/rmi/dgc/VMID;") ∷ [])
parts_of known.ByteArray = class (codes "[B") 0xACF317F8060854E0 2 []
parts_of known.TextArray = class (codes "[Ljava.lang.String;") 0xADD256E7E91D7B47 2 []
parts_of known.ObjIdArray = class (codes "[Ljava.rmi.server.ObjID;") 0x871300B8D02C647E 2 []
parts_of known.Proxy = class (codes "java.lang.reflect.Proxy") 0xE127DA20CC1043CB 2 (typed_field Object (codes "h") (codes "Ljava/lang/reflect/InvocationHandler;") ∷ [])
parts_of known.RefHandler = class (codes "java.rmi.server.RemoteObjectInvocationHandler") 0x0000000000000002 2 []
parts_of known.RemoteObject = class (codes "java.rmi.server.RemoteObject") 0xD361B4910C61331E 3 []
parts_of known.RemoteException = class (codes "java.rmi.RemoteException") 0xB88C9D4EDEE47A22 2 (typed_field Object (codes "detail") (codes "Ljava/lang/Throwable;") ∷ [])
parts_of known.IoException = class (codes "java.io.IOException") 0x6C8073646525F0AB 2 []
parts_of known.Exception = class (codes "java.lang.Exception") 0xD0FD1F3E1A3B1CC4 2 []
parts_of known.Throwable = class (codes "java.lang.Throwable") 0xD5C635273977B8CB 3 (typed_field Object (codes "detailMessage") (codes "Ljava/lang/String;") ∷ [])
