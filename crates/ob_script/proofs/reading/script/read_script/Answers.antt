use Rattle.std.proofs.Common.{arith}
use Rattle.std.proofs.lemmas.Grind.{common_steps}
use Rattle.ob_script.proofs.reading.script.read_script.Goals as goal

pub loop-preserved : goal.loop-preserved
loop-preserved g c = record {
  so_far = c.in_ok-read_piece.ensures.so_far (g.R.Read.remaining c.args.reader.now) c.loop.invariant.so_far;
  within = c.in_ok-read_piece.ensures.within;
  room = grind (arith, common_steps);
}
