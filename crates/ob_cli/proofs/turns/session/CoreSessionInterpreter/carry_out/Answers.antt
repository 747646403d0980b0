use Rattle.ob_cli.proofs.CoreLines.{lane_done, turn_done}
use Rattle.ob_cli.proofs.turns.session.CoreSessionInterpreter.carry_out.Goals as goal

pub returns-in-Lane-clause-done : goal.returns-in-Lane-clause-done
returns-in-Lane-clause-done c =
    let done = c.add_lane.ensures in
    rw c.in-Lane.is (lane_done _ c.args.self.now c.add_lane.new.self _ done.marks done.starts done.core done.turned)

pub returns-in-Turn-clause-done : goal.returns-in-Turn-clause-done
returns-in-Turn-clause-done c =
    let done = c.play_turn.ensures in
    rw c.in-Turn.is (turn_done _ c.args.self.now c.play_turn.new.self _ done.marks done.starts done.core done.turned)
