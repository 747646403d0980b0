use Rattle.ob_seq.proofs.Words.{[], refl, arith, Settings, StandsFor, whole}
use Rattle.ob_seq.specs.Unsent.{nothing_unsent}
use Rattle.ob_seq.proofs.Inside.Held.{leaves_at_start}
use Rattle.ob_seq.proofs.buffer.Buffer.new.Goals as goal

-- what is held at the opening stands for no commands
begins : (settings : Settings) → StandsFor (whole [] (nothing_unsent settings)) []
begins settings = record { accepted = refl; leaves = leaves_at_start settings }

pub returns-clause-stands : goal.returns-clause-stands
returns-clause-stands c = rw (c.new.ensures, c.new-2.ensures) (begins (record { marks = c.args.marks; estimate = c.args.estimate }))

pub invariant_of-result : goal.invariant_of-result
invariant_of-result c = record {
  few_writes = rw (c.new.ensures, c.new-2.ensures) (omega arith);
  room = rw c.new.ensures (omega arith);
  stands = ([], rw (c.new.ensures, c.new-2.ensures) (begins (record { marks = c.args.marks; estimate = c.args.estimate })));
}
