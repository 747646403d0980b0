use Rattle.ob_seq.proofs.Words.{arith}
use Rattle.ob_seq.proofs.Words.{◌≡◌, ℕ, List, ◌∙◌, blocks_left, first_blocks, with_bytes, Command, Pending, StandsFor}
use Rattle.std.proofs.lemmas.Result.{IfOk-weaker}
use Rattle.ob_seq.specs.Kept.{pending_of}
use Rattle.ob_seq.specs.Looks.{gathered_after}
use Rattle.ob_seq.proofs.Inside.Looked.{gathered_is}
use Rattle.ob_seq.proofs.buffer.Buffer.gather.Goals as goal

-- what is gathered from all in line is what is gathered after the history
gathered_there : (held now : Pending) → held ≡ now → (limit most : ℕ) (commands : List Command) →
    StandsFor now commands →
    first_blocks limit most (with_bytes (blocks_left held.line)) ≡ gathered_after now.settings commands limit most
gathered_there held now same limit most commands stands = grind (arith, gathered_is)

pub returns-clause-blocks : goal.returns-clause-blocks
returns-clause-blocks c =
    let there = gathered_there (pending_of c.self.inside) c.args.self.now c.self.view_is c.args.max_count c.args.max_bytes in
    IfOk-weaker c.gather.result _ _ (λ blocks is commands stands. is ∙ there commands stands) c.gather.ensures.blocks

pub returns-clause-frugal : goal.returns-clause-frugal
returns-clause-frugal c commands stands nothing = grind (arith, gathered_there)
