-- How a connection of tasks is kept. No public clause cites this module.
use Rattle.std.specs.Prelude.{Option, option_map}
use Rattle.ob_connection.specs.Connected.{Connected}
use Rattle.futures.specs.Slot.{woken_task}
use Rattle.futures.specs.WaitList.{WaitList}
use Rattle.futures.specs.declared.task.waker.Waker.{Waker}
use Rattle.ob_async.specs.Waiting.{TaskConnectionValue}

-- what a contract sees of these
abbrev pub task_connection_of : Connected → WaitList (Unit {0}) → Option Waker → TaskConnectionValue
task_connection_of connection writers sender = record {
  connection = connection;
  writers = writers;
  sender = option_map woken_task sender;
}
