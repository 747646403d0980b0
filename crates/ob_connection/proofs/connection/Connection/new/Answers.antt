use Rattle.ob_connection.proofs.Words.{[], refl, Connected}
use Rattle.ob_seq.proofs.Inside.Held.{leaves_at_start}
use Rattle.ob_seq.specs.Rows.{Settings}
use Rattle.ob_seq.specs.Unsent.{nothing_unsent}
use Rattle.ob_connection.specs.Connected.{StandsFor}
use Rattle.ob_connection.proofs.connection.Connection.new.Goals as goal

-- a connection at its opening
abbrev opened : Settings → Connected
opened settings = record { unsent = nothing_unsent settings; gone = 0 }

-- it stands for no commands
begins : (settings : Settings) → StandsFor (opened settings) []
begins settings = record {
  past = [];
  forgotten = refl;
  as_buffer = record { accepted = refl; leaves = leaves_at_start settings };
}

pub returns-clause-stands : goal.returns-clause-stands
returns-clause-stands c = rw c.new.ensures (begins (record { marks = c.args.marks; estimate = c.args.estimate }))

pub invariant_of-result : goal.invariant_of-result
invariant_of-result c =
    ([], rw c.new.ensures (begins (record { marks = c.args.marks; estimate = c.args.estimate })))
