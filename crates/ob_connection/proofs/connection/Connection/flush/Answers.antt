use Rattle.ob_connection.proofs.Words.{Ok}
use Rattle.ob_types.specs.declared.command.Command.TheVariants.{Flush}
use Rattle.ob_seq.specs.Steps.Commands.{flush_step}
use Rattle.ob_connection.specs.Obeying.{flushed_reply}
use Rattle.ob_connection.proofs.Steps.{made_within}
use Rattle.ob_connection.proofs.Obeyed.{obeys, stays_within}
use Rattle.ob_connection.proofs.connection.Connection.flush.Goals as goal

pub invariant_of-self : goal.invariant_of-self
invariant_of-self c = stays_within Flush c.flush.ensures c.self.invariant

pub invariant_of-self-2 : goal.invariant_of-self-2
invariant_of-self-2 c = stays_within Flush c.flush.ensures c.self.invariant

pub returns-clause-obeys : goal.returns-clause-obeys
returns-clause-obeys c = rw (← c.self.view_is)
    (obeys Flush (made_within flush_step flushed_reply c.flush.new.self
    (Ok (record { count = c.unflushed_count-count.result; change = c.in_ok-change.change }))
    (λ past. rw c.unflushed_count-count.ensures (c.in_ok-change.ensures.makes past.outcomes)) tt))
