-- Several passes, one after another.
use Rattle.std.proofs.Common.{◌≡◌, ℕ, ◌+◌, ◌++◌, sym, ap, ◌∙◌, subst, arith, append_assoc, add-one}
use Rattle.std.specs.Prelude.{Ok, Err, Result}
use Rattle.ob_transport.specs.Pass.{GoesOn, Passes, GrowAlike, GrowAlikeBut, IsBooked, IsAccounted, IsPass, Standing}
use Rattle.ob_transport.specs.declared.draining.Drained.{Drained}
use Rattle.ob_transport.specs.declared.fault.Pass.{Pass}
use Rattle.ob_transport.specs.declared.fault.PassFault.{PassFault}
use Rattle.ob_transport.specs.declared.limits.Limits.{Limits}

-- what grows alike twice grows alike
pub alike_both : {before middle after : Standing} → GrowAlike before middle → GrowAlike middle after →
    GrowAlike before after
alike_both first second = record {
  bytes = (
    first.bytes.0 ++ second.bytes.0,
    second.bytes.1 ∙ ap (λ bytes. bytes ++ second.bytes.0) first.bytes.1 ∙ append_assoc _ first.bytes.0 second.bytes.0,
    second.bytes.2 ∙ ap (λ bytes. bytes ++ second.bytes.0) first.bytes.2 ∙ append_assoc _ first.bytes.0 second.bytes.0,
  );
  units = (
    first.units.0 + second.units.0,
    omega (arith, first.units.1, second.units.1),
    omega (arith, first.units.2, second.units.2),
  );
}

pub alike_but : {taken : ℕ} {before middle after : Standing} → GrowAlike before middle →
    GrowAlikeBut taken middle after → GrowAlikeBut taken before after
alike_but first second = record {
  unread = second.unread;
  booked = second.booked;
  alike = alike_both first second.alike;
  taken_last = second.taken_last;
}

-- one more pass after which there may be more to do
pub one_more_pass : (limits : Limits) (caller caller' count : ℕ) (before middle after : Standing) (pass : Pass) →
    Passes limits caller count before middle → caller' ≡ caller → GoesOn pass →
    IsPass limits caller' middle (Ok pass) after → Passes limits caller (count + 1) before after
one_more_pass limits caller caller' count before middle after pass passes same goes is =
    subst (λ n. Passes limits caller n before after) (sym (add-one count))
    (middle, pass, passes, goes, subst (λ name. IsPass limits name middle (Ok pass) after) same is)

-- an error that is booked as one result is booked as another
fault_in : {A : Type 0} → PassFault → Result A PassFault → PassFault
fault_in other (Ok value) = other
fault_in other (Err fault) = fault

pub same_fault : {A B : Type 0} (fault fault' : PassFault) →
    (let one : Result A PassFault = Err fault in let other : Result A PassFault = Err fault' in one ≡ other) →
    (let one : Result B PassFault = Err fault in let other : Result B PassFault = Err fault' in one ≡ other)
unfolding fault_in
same_fault {A} {B} fault fault' is = ap (λ (fault : PassFault). let result : Result B PassFault = Err fault in result)
    (ap (fault_in {A = A} fault) is)

-- what was taken with a value is booked
pub booked_with : {A : Type 0} (value : A) → IsBooked {A = A} (Ok value)
booked_with value taken is = absurd (cc)

-- passes of which all is booked and none failed account, with one more pass, for what that one does
pub accounted_more : {before middle after : Standing} (pass : Pass) (drained : Drained) → GrowAlike before middle →
    middle.sink.failures ≡ before.sink.failures → IsAccounted middle (Ok pass) after →
    IsAccounted before (Ok drained) after
accounted_more pass drained alike none_failed passed = record {
  alike = λ booked. alike_both alike (passed.alike (booked_with pass));
  unbooked = λ taken is. absurd (cc);
  failures = omega (arith, passed.failures, none_failed);
  full = λ is. absurd (cc);
}
