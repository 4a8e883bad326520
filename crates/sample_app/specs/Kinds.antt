-- The sample kinds and their methods.
use Rattle.std.specs.Prelude.{◌≡◌, codes, ℕ, Bool, true, List, [], ◌∷◌, Option, Some}
use Rattle.std.specs.List.{list_all, AllByRecursion}
use Rattle.std.proofs.Common.{refl}
use Rattle.std.proofs.Math.Dec.{lit≤}
use Rattle.std.proofs.lemmas.Bool.{and_parts}
use Rattle.class_desc.specs.declared.field.TypeCode.{TypeCode}
use Rattle.class_desc.specs.declared.field.TypeCode.TheVariants.{Long, Object}
use Rattle.method_hash.specs.declared.method.Method.{Method}
use Rattle.method_hash.specs.MethodText.{is_class_byte, is_name_byte, HasType, IsMethod}
use Rattle.system_objects.specs.declared.book.Kind.{Kind}

-- ---- the texts are methods' texts

-- What a test tells of all is so of each.
each : (test : ℕ → Bool) (xs : List ℕ) → list_all test xs ≡ true → AllByRecursion (λ x. test x ≡ true) xs
each test [] all = tt
each test (x ∷ xs) all = let parts = and_parts (test x) (list_all test xs) all in (parts.0, each test xs parts.1)

long_type : HasType Long (codes "J")
long_type = ([], refl, refl)

object_type : HasType Object (codes "Ljava/lang/Object;")
object_type = (codes "java/lang/Object;", refl, (codes "java/lang/Object", lit≤ tt, each is_class_byte (codes "java/lang/Object") refl, refl))

counter_type : HasType Object (codes "Lsample/Counter;")
counter_type = (codes "sample/Counter;", refl, (codes "sample/Counter", lit≤ tt, each is_class_byte (codes "sample/Counter") refl, refl))

pub echo_is : IsMethod (codes "echo(Ljava/lang/Object;)Ljava/lang/Object;") (codes "echo") (Object ∷ []) (Some Object)
echo_is = record {
  types = codes "Ljava/lang/Object;";
  last = codes "Ljava/lang/Object;";
  named = each is_name_byte (codes "echo") refl;
  some_name = lit≤ tt;
  short_name = lit≤ tt;
  typed = (codes "Ljava/lang/Object;", [], object_type, refl, refl);
  few = lit≤ tt;
  returns = object_type;
  parts = refl;
  short = lit≤ tt;
}

pub add_is : IsMethod (codes "add(J)J") (codes "add") (Long ∷ []) (Some Long)
add_is = record {
  types = codes "J";
  last = codes "J";
  named = each is_name_byte (codes "add") refl;
  some_name = lit≤ tt;
  short_name = lit≤ tt;
  typed = (codes "J", [], long_type, refl, refl);
  few = lit≤ tt;
  returns = long_type;
  parts = refl;
  short = lit≤ tt;
}

pub get_is : IsMethod (codes "get()J") (codes "get") [] (Some Long)
get_is = record {
  types = [];
  last = codes "J";
  named = each is_name_byte (codes "get") refl;
  some_name = lit≤ tt;
  short_name = lit≤ tt;
  typed = refl;
  few = lit≤ tt;
  returns = long_type;
  parts = refl;
  short = lit≤ tt;
}

pub make_is : IsMethod (codes "make()Lsample/Counter;") (codes "make") [] (Some Object)
make_is = record {
  types = [];
  last = codes "Lsample/Counter;";
  named = each is_name_byte (codes "make") refl;
  some_name = lit≤ tt;
  short_name = lit≤ tt;
  typed = refl;
  few = lit≤ tt;
  returns = counter_type;
  parts = refl;
  short = lit≤ tt;
}

-- ---- the kinds

-- the method of a text whose parts are these
abbrev pub method_of : (text name : List ℕ) (params : List TypeCode) (returned : Option TypeCode) → IsMethod text name params returned → Method
method_of text name params returned is = record { name = name; params = params; result = returned; text = text; spelled = ∣ is ∣₁ }

-- the kind that gives its argument back
unfoldable pub echo : Kind
echo = record {
  interface = codes "sample.Echo";
  methods = method_of (codes "echo(Ljava/lang/Object;)Ljava/lang/Object;") (codes "echo") (Object ∷ []) (Some Object) echo_is ∷ [];
}

-- the kind that counts
unfoldable pub counter : Kind
counter = record {
  interface = codes "sample.Counter";
  methods = method_of (codes "add(J)J") (codes "add") (Long ∷ []) (Some Long) add_is ∷ method_of (codes "get()J") (codes "get") [] (Some Long) get_is ∷ [];
}

-- the kind that makes counters
unfoldable pub maker : Kind
maker = record {
  interface = codes "sample.Maker";
  methods = method_of (codes "make()Lsample/Counter;") (codes "make") [] (Some Object) make_is ∷ [];
}

-- the kinds, each at its place
abbrev pub sample_kinds : List Kind
sample_kinds = echo ∷ counter ∷ maker ∷ []

-- the place of the kind that counts
abbrev pub counter_kind : ℕ
counter_kind = 1
