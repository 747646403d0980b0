use Rattle.ob_seq.proofs.Words.{◌≡◌, Bool, not, length, take, cond, arith, Option, Some, None, count_by}
use Rattle.ob_seq.proofs.Words.{Refusal, TooManyBytes, Cut, unless_refused, PendingEntry, Pending}
use Rattle.ob_seq.proofs.Words.{settled_by, bytes_reply}
use Rattle.ob_seq.proofs.Inside.LetGo.{count_of_settlements}
use Rattle.ob_seq.proofs.buffer.Buffer.bytes_settle.Goals as goal

-- a removal of bytes that finds a cut settles as many promises as unvoided entries
some_by : (few : Bool) (one cut : Cut) (now : Pending) →
    (let found : Option Cut = cond few None (Some one) in Some cut ≡ found) →
    count_by (λ (entry : PendingEntry). not entry.voided) (take cut.whole now.line)
    ≡ (let refusal : Option Refusal = cond few (Some TooManyBytes) None in
    length (settled_by (unless_refused refusal (bytes_reply one now))))
some_by few one cut now some = grind (arith, count_of_settlements)

pub returns-in-Some : goal.returns-in-Some
returns-in-Some c = grind (arith, some_by)
