use Rattle.ob_shared_connection.proofs.Room.{all_within_room}
use Rattle.ob_shared_connection.proofs.laws.what_all_connections_hold_is_within_the_room.Goals as goal

pub returns : goal.returns
returns c = all_within_room
