use Rattle.std.proofs.Common.{◌≡◌, ◌∷◌, map, drop}
use Rattle.ob_core.specs.World.{any_overlap, holders_of}
use Rattle.ob_core.proofs.start_fault.has_bit_twice.Given as goal

-- the mask of what is taken overlaps what is left as all masks overlap one another
abbrev pub invariant-loop-start : goal.invariant-loop-start
invariant-loop-start l =
    any_overlap (l.taken ∷ map (λ start. start.bits) (drop l.start-index l.starts)) ≡ any_overlap
    (holders_of (map (λ start. start.bits) l.starts))
