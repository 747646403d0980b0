use Rattle.std.specs.Prelude.{Err}
use Rattle.ob_transport.specs.declared.fault.PassFault.TheVariants.{Unbooked}
use Rattle.ob_transport.proofs.Passes.{alike_of, pass_grows}
use Rattle.ob_transport.proofs.laws.what_a_pass_takes_is_sent.Goals as goal

pub returns-clause-alike : goal.returns-clause-alike
returns-clause-alike c limits caller before after result all is =
    alike_of result (pass_grows before limits caller all result after is)

pub returns-clause-unbooked : goal.returns-clause-unbooked
returns-clause-unbooked c limits caller before after taken all =
    pass_grows before limits caller all (Err (Unbooked taken)) after
