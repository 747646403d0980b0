use Rattle.ob_connection.proofs.Words.{◌≡◌, arith, refl, sym, ap, ◌∙◌, subst}
use Rattle.ob_connection.specs.Calls.{answers_in}
use Rattle.ob_connection.specs.Inside.{answer_of}
use Rattle.ob_connection.specs.Sending.{EndsWithin}
use Rattle.ob_connection.specs.declared.ending.Ending.{Ending}
use Rattle.ob_connection.specs.declared.ending.Ending.TheVariants.{Blocked, Broken}
use Rattle.ob_connection.specs.declared.connection.offer.Offer.{Offer}
use Rattle.ob_connection.specs.declared.connection.offer.Offer.TheVariants.{Took}
use Rattle.ob_connection.proofs.Answered.{stopped_at_once}
use Rattle.ob_connection.proofs.connection.Connection.ending_after.Goals as goal

-- an ending by the offer that it is given
by_offer : {told offer : Offer} (ending : Ending) → told ≡ offer → EndsWithin 1 (answers_in (answer_of offer)) ending →
    EndsWithin 1 (answers_in (answer_of told)) ending
by_offer ending same ends = subst (λ one. EndsWithin 1 (answers_in (answer_of one)) ending) (sym same) ends

pub returns-in-Took-clause-asked : goal.returns-in-Took-clause-asked
returns-in-Took-clause-asked c =
    by_offer Blocked (c.in-Took.is ∙ ap Took c.if-bytes-eq0.true) (stopped_at_once _ Blocked refl, omega arith)

pub returns-in-Blocked-clause-asked : goal.returns-in-Blocked-clause-asked
returns-in-Blocked-clause-asked c = by_offer Blocked c.in-Blocked.is (stopped_at_once _ Blocked refl, omega arith)

pub returns-in-Broken-clause-asked : goal.returns-in-Broken-clause-asked
returns-in-Broken-clause-asked c =
    by_offer (Broken c.in-Broken.error) c.in-Broken.is (stopped_at_once _ (Broken c.in-Broken.error) refl, omega arith)
