-- How many parts objects and arrays have beside those of their notes.
use Rattle.std.proofs.Common.{◌≡◌, ℕ, suc, ◌≤◌, true, List, [], ◌∷◌, length, Some, refl, ap, arith}
use Rattle.std.proofs.lemmas.Bool.{and_parts}
use Rattle.class_desc.specs.declared.field.TypeCode.{TypeCode}
use Rattle.class_desc.specs.declared.field.TypeCode.TheVariants as codes
use Rattle.class_desc.specs.declared.field.FieldDesc.{FieldDesc}
use Rattle.ser_values.specs.declared.value.Value.{Value}
use Rattle.ser_values.specs.declared.value.Values.{Values}
use Rattle.ser_values.specs.declared.value.Part.{Part}
use Rattle.ser_values.specs.declared.node.Node.TheVariants.{Array}
use Rattle.ser_values.specs.Shape.{fits_value, fit_values, count_of, sizes_in, parts_of}
use Rattle.stream_grammar.specs.Reading.{sizes_of, refs_among}
use Rattle.stream_grammar.proofs.Varieties.{ElementsOf}
use Rattle.stream_grammar.proofs.Parted.{Row, Fitted}

pub sizes_len : (ps : List Part) → length ps ≤ sizes_in ps
unfolding sizes_in
sizes_len [] = omega arith
sizes_len (p ∷ ps) = let h = sizes_len ps in omega arith

pub values_len : (fs : List FieldDesc) (vs : List Value) → fit_values fs vs ≡ true → length fs ≡ length vs
unfolding fit_values
values_len [] [] h = refl
values_len (f ∷ fs) (v ∷ vs) h = ap suc (values_len fs vs (and_parts (fits_value f.code v) (fit_values fs vs) h).1)
values_len [] (v ∷ vs) h = absurd cc
values_len (f ∷ fs) [] h = absurd cc

pub fitted_sizes : (rs : List Row) (ps : List Part) → Fitted rs ps → sizes_of rs ≡ sizes_in ps
unfolding sizes_of sizes_in
fitted_sizes [] [] h = refl
fitted_sizes (r ∷ rs) (p ∷ ps) h = let one = values_len r.0 p.values h.0 in let more = fitted_sizes rs ps h.2 in omega arith
fitted_sizes [] (p ∷ ps) h = absurd h
fitted_sizes (r ∷ rs) [] h = absurd h

pub elements_own : (c : ℕ) (code : TypeCode) (v : Values) → ElementsOf (Some code) v → refs_among code (count_of v) ≡ parts_of (Array c v)
elements_own c codes.Byte v e = rw e.1 refl
elements_own c codes.Char v e = rw e.1 refl
elements_own c codes.Double v e = rw e.1 refl
elements_own c codes.Float v e = rw e.1 refl
elements_own c codes.Int v e = rw e.1 refl
elements_own c codes.Long v e = rw e.1 refl
elements_own c codes.Short v e = rw e.1 refl
elements_own c codes.Boolean v e = rw e.1 refl
elements_own c codes.Array v e = rw e.1 (omega arith)
elements_own c codes.Object v e = rw e.1 (omega arith)
