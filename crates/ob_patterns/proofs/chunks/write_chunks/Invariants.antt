use Rattle.ob_patterns.proofs.Pieces.{Wrote}
use Rattle.ob_patterns.proofs.chunks.write_chunks.Given as goal

abbrev pub invariant-loop-count : goal.invariant-loop-count
invariant-loop-count g l =
    Wrote l._count l.fn.connection (g.C.Chunks.answers l.fn.chunks) l.connection (g.C.Chunks.answers l.chunks)
