use Rattle.std.proofs.Common.{◌≡◌, [], ◌∷◌, refl, ap}
use Rattle.ob_seq.specs.State.{user_bits}
use Rattle.ob_history.specs.declared.glance.Glance.{Glance}
use Rattle.ob_history.specs.declared.record.Record.{Record}
use Rattle.ob_shared.specs.Worked.{flushed, removed, written}
use Rattle.ob_shared.proofs.worked.worked_reads.Goals as goal

pub returns-clause-begins : goal.returns-clause-begins
returns-clause-begins c = (
  record { rest = removed ∷ []; whole = refl },
  λ begins. let same : flushed ≡ written = cc begins.whole in absurd (cc (ap (λ (one : Record). one.command) same)),
)

pub returns-clause-reads : goal.returns-clause-reads
unfolding user_bits
returns-clause-reads c = (
  refl,
  record {
    shows = refl;
    reads = refl;
    longer = record { rest = []; whole = refl };
    legal = λ index one is. absurd (cc is);
  },
  λ read. absurd (cc (ap (λ (glance : Glance). glance.total) read.shows)),
)
