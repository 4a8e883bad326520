-- What follows of results that are handed on.
use Rattle.std.proofs.Common.{◌≡◌, Option, Some, None, Result, Ok, Err, IfOk, OnOk, inl, inr, refl}
use Rattle.class_desc.specs.declared.slot.Slot.{Slot}
use Rattle.java_shapes.specs.declared.ref_views.LiveRef.{LiveRef}
use Rattle.java_shapes.specs.LiveRefs.{live_ref_at}
use Rattle.rmi_caller.specs.declared.answer.Answer.{Answer}
use Rattle.rmi_caller.specs.declared.error.Wanted.{Wanted}
use Rattle.rmi_caller.specs.declared.error.CallError.{CallError}
use Rattle.rmi_caller.specs.Answers.{Reads, ReadsAt, nodes_in, slot_in}
use Rattle.rmi_caller.specs.Finding.{RefersTo}

pub on_ok : (r : Result (Unit {0}) CallError) (P : Type 0) → (r ≡ Ok tt → P) → OnOk r P
on_ok (Ok tt) P holds = holds refl
on_ok (Err error) P holds = tt

pub if_ok : {A : Type 0} (r : Result A CallError) (P Q : A → Type 0) → ((a : A) → P a → Q a) → IfOk r P → IfOk r Q
if_ok (Ok a) P Q step h = step a h
if_ok (Err error) P Q step h = tt

pub not_both : (r : Result (Unit {0}) CallError) (error : CallError) (u : Unit {0}) → r ≡ Err error → r ≡ Ok u → ⊥
not_both r error u a b = cc

read : (wanted : Wanted) (shown : Option LiveRef) (reference : LiveRef) → Reads wanted shown (Ok reference) → shown ≡ Some reference
read wanted None reference h = absurd cc
read wanted (Some other) reference h = cc

referred : (answer : Answer) (wanted : Wanted) (reference : LiveRef) (o : Option Slot) → slot_in answer.heard.body ≡ o → ReadsAt (live_ref_at (nodes_in answer.heard.body)) wanted o (Ok reference) → RefersTo answer reference
referred answer wanted reference None is h = absurd cc
referred answer wanted reference (Some slot) is (inl h) = (slot, is, read wanted (live_ref_at (nodes_in answer.heard.body) slot) reference h)
referred answer wanted reference (Some slot) is (inr h) = absurd cc

-- A result that is read as a reference is that reference.
pub refers : (answer : Answer) (wanted : Wanted) (reference : LiveRef) → ReadsAt (live_ref_at (nodes_in answer.heard.body)) wanted (slot_in answer.heard.body) (Ok reference) → RefersTo answer reference
refers answer wanted reference h = referred answer wanted reference (slot_in answer.heard.body) refl h
