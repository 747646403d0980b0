use Rattle.ob_transport.proofs.Sent.{bytes_by_records, units_by_records}
use Rattle.ob_transport.proofs.laws.a_history_sends_what_its_records_send.Goals as goal

pub returns : goal.returns
returns c = record { bytes = bytes_by_records; units = units_by_records }
